-- The keys of CHAP by their names (RFC 7143, "Challenge Handshake Authentication Protocol (CHAP)").
use Rattle.std.specs.Prelude.{ℕ, ◌||◌, Bool, List, codes}
use Rattle.std.specs.Str.{bytes_eq}

abbrev pub algorithm_key : List ℕ
algorithm_key = codes "CHAP_A"

abbrev pub identifier_key : List ℕ
identifier_key = codes "CHAP_I"

abbrev pub challenge_key : List ℕ
challenge_key = codes "CHAP_C"

abbrev pub name_key : List ℕ
name_key = codes "CHAP_N"

abbrev pub response_key : List ℕ
response_key = codes "CHAP_R"

abbrev pub is_chap_key : (key : List ℕ) → Bool
is_chap_key key =
    bytes_eq key algorithm_key || bytes_eq key identifier_key || bytes_eq key challenge_key || bytes_eq key name_key
    || bytes_eq key response_key

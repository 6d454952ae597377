-- What answers a challenge (RFC 1994, "Challenge and Response").
use Rattle.std.specs.Prelude.{ℕ, Bool, false, List, Option, Some, None}
use Rattle.std.specs.Str.{bytes_eq}
use Rattle.iscsi_chap.specs.Binaries.{binary_value}
use Rattle.iscsi_chap.specs.Digests.{chap_digest}
use Rattle.iscsi_chap.specs.declared.algorithm.ChapAlgorithm.{ChapAlgorithm}
use Rattle.iscsi_chap.specs.declared.challenge.Challenge.{Challenge}

-- a response is the digest that the secret makes of the challenge
abbrev pub is_digest : Option (List ℕ) → (digest : List ℕ) → Bool
is_digest None digest = false
is_digest (Some bytes) digest = bytes_eq bytes digest

abbrev pub is_response : ChapAlgorithm → Challenge → (secret value : List ℕ) → Bool
is_response algorithm challenge secret value =
    is_digest (binary_value value) (chap_digest algorithm challenge.identifier secret challenge.bytes)

-- Log pages: a header of four bytes, then parameters (SPC-4, "Log page structure and log parameter structure").
use Rattle.std.specs.Prelude.{ℕ, ◌/◌, ◌%◌, ◌^◌, nat_lt, List, [], ◌∷◌, ◌++◌, length, if◌then◌else◌}
use Rattle.std.specs.List.{flat_map}
use Rattle.log_pages.specs.declared.parameter.LogParameter.{LogParameter}
use Rattle.log_pages.specs.declared.parameter.ParameterValue.{ParameterValue}
use Rattle.log_pages.specs.declared.parameter.ParameterValue.TheVariants.{OneByte, FourBytes, EightBytes}

-- the bytes of numbers, the highest first
abbrev pub two : ℕ → List ℕ
two n = n / 2 ^ 8 % 256 ∷ n % 256 ∷ []

abbrev pub four : ℕ → List ℕ
four n = n / 2 ^ 24 % 256 ∷ n / 2 ^ 16 % 256 ∷ n / 2 ^ 8 % 256 ∷ n % 256 ∷ []

abbrev pub eight : ℕ → List ℕ
eight n =
    n / 2 ^ 56 % 256 ∷ n / 2 ^ 48 % 256 ∷ n / 2 ^ 40 % 256 ∷ n / 2 ^ 32 % 256
    ∷ n / 2 ^ 24 % 256 ∷ n / 2 ^ 16 % 256 ∷ n / 2 ^ 8 % 256 ∷ n % 256 ∷ []

-- a parameter whose value is a number of four bytes, and one of eight
abbrev pub number : (code value : ℕ) → LogParameter
number code value = record { code = code; value = FourBytes value }

abbrev pub counter : (code value : ℕ) → LogParameter
counter code value = record { code = code; value = EightBytes value }

abbrev pub value_bytes : ParameterValue → List ℕ
value_bytes (OneByte n) = n ∷ []
value_bytes (FourBytes n) = four n
value_bytes (EightBytes n) = eight n

-- a parameter: its code, the control byte (03h: a binary format list), the length of its value, its value
abbrev pub parameter_bytes : LogParameter → List ℕ
parameter_bytes p = two p.code ++ 0x03 ∷ length (value_bytes p.value) ∷ value_bytes p.value

-- the same where its code is at least the parameter pointer, and nothing below
abbrev pub parameter_from : (pointer : ℕ) → LogParameter → List ℕ
parameter_from pointer p = if nat_lt p.code pointer then [] else parameter_bytes p

unfoldable pub parameters_from : (pointer : ℕ) → List LogParameter → List ℕ
parameters_from pointer parameters = flat_map (parameter_from pointer) parameters

-- a page: the byte of its page code, its subpage code, the length of what follows, and that
abbrev pub log_page : (page_code subpage_code : ℕ) → List ℕ → List ℕ
log_page page_code subpage_code list = page_code ∷ subpage_code ∷ two (length list) ++ list

-- a page of parameters, from the parameter pointer on
abbrev pub parameter_page : (page_code pointer : ℕ) → List LogParameter → List ℕ
parameter_page page_code pointer parameters = log_page page_code 0x00 (parameters_from pointer parameters)

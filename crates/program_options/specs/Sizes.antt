-- Numbers of bytes as text: of blocks that a volume takes, and of memory that all volumes take together (profile).
use Rattle.std.specs.Prelude.{ℕ, ◌+◌, ◌-◌, ◌*◌, ◌^◌, ◌==◌, ◌&&◌, ◌||◌, nat_lt, nat_le, List, length, take, slice_index, fold, Option, Some, None, Result, Ok, Err, if◌then◌else◌}
use Rattle.program_options.specs.declared.option_fault.OptionFault.{OptionFault}
use Rattle.program_options.specs.declared.option_fault.OptionFault.TheVariants.{BadMemorySize, BadVolumeSize}

-- the value of a decimal digit by its code
abbrev pub digit_in : ℕ → Option ℕ
digit_in c = if nat_le 48 c && nat_le c 57 then Some (c - 48) else None

abbrev pub appended : (number : ℕ) → Option ℕ → Option ℕ
appended number None = None
appended number (Some d) = if nat_lt (number * 10 + d) (2 ^ 64) then Some (number * 10 + d) else None

-- a number with one more digit behind it, as long as all are digits and it has 64 bits
abbrev pub with_digit : Option ℕ → ℕ → Option ℕ
with_digit None c = None
with_digit (Some number) c = appended number (digit_in c)

-- a decimal number, of one digit at least, of which the first isn't 0
abbrev pub number_in : List ℕ → Option ℕ
number_in digits = if length digits == 0 || slice_index digits 0 == 48 then None else fold with_digit (Some 0) digits

-- K is 75 and k is 107, M is 77 and m is 109, G is 71 and g is 103
abbrev pub unit_of : ℕ → Option ℕ
unit_of c =
    if c == 75 || c == 107 then Some 1024
    else if c == 77 || c == 109 then Some 1048576
    else if c == 71 || c == 103 then Some 1073741824
    else None

abbrev pub times : Option ℕ → (unit : ℕ) → Option ℕ
times None unit = None
times (Some number) unit = if nat_lt (number * unit) (2 ^ 64) then Some (number * unit) else None

-- so many units where the text ends with one, and else so many bytes
abbrev pub by_unit : (text : List ℕ) → Option ℕ → Option ℕ
by_unit text None = number_in text
by_unit text (Some unit) = times (number_in (take (length text - 1) text)) unit

abbrev pub size_in : List ℕ → Option ℕ
size_in text = if length text == 0 then None else by_unit text (unit_of (slice_index text (length text - 1)))

-- so many bytes, where they are in a range
abbrev pub within : (least most : ℕ) → OptionFault → Option ℕ → Result ℕ OptionFault
within least most fault None = Err fault
within least most fault (Some size) = if nat_le least size && nat_le size most then Ok size else Err fault

-- from 1 MiB to 64 GiB
abbrev pub volume_size_in : List ℕ → Result ℕ OptionFault
volume_size_in text = within 1048576 68719476736 BadVolumeSize (size_in text)

-- from 1 MiB to 64 TiB, as much as 1,024 of the largest volumes take
abbrev pub memory_size_in : List ℕ → Result ℕ OptionFault
memory_size_in text = within 1048576 70368744177664 BadMemorySize (size_in text)

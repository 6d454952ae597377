-- How much memory a program has, by the line of numbers of pages that the system tells: the second is of those that are resident (proc_pid_statm(5)).
use Rattle.std.specs.Prelude.{ℕ, ◌+◌, ◌*◌, ◌-◌, ◌^◌, ◌==◌, ◌&&◌, nat_le, nat_lt, List, fold, Option, None, Some, if◌then◌else◌}
use Rattle.library_server.specs.declared.process_memory.SecondNumber.{SecondNumber}
use Rattle.library_server.specs.declared.process_memory.SecondNumber.TheVariants as second

-- the value of a decimal digit by its code
abbrev pub digit_in : ℕ → Option ℕ
digit_in c = if nat_le 48 c && nat_le c 57 then Some (c - 48) else None

abbrev pub appended : (number : ℕ) → Option ℕ → SecondNumber
appended number None = second.Bad
appended number (Some digit) = if nat_lt number (2 ^ 40) then second.Begun (number * 10 + digit) else second.Bad

abbrev pub with_digit : (number : ℕ) → (byte : ℕ) → SecondNumber
with_digit number byte = appended number (digit_in byte)

-- it begins and ends with a space
abbrev pub with_byte : SecondNumber → (byte : ℕ) → SecondNumber
with_byte second.Awaited byte = if byte == 32 then second.Begun 0 else second.Awaited
with_byte (second.Begun number) byte = if byte == 32 then second.Ended number else with_digit number byte
with_byte (second.Ended number) byte = second.Ended number
with_byte second.Bad byte = second.Bad

-- a page has 4096 bytes
abbrev pub number_of_bytes : SecondNumber → Option ℕ
number_of_bytes second.Awaited = None
number_of_bytes (second.Begun number) = None
number_of_bytes (second.Ended number) = if nat_lt (number * 4096) (2 ^ 64) then Some (number * 4096) else None
number_of_bytes second.Bad = None

abbrev pub resident_in : (line : List ℕ) → Option ℕ
resident_in line = number_of_bytes (fold with_byte second.Awaited line)

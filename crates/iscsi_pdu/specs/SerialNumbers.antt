-- Serial number arithmetic with 32 bits (RFC 1982, "Serial Number Arithmetic").
use Rattle.std.specs.Prelude.{ℕ, ◌+◌, ◌-◌, ◌%◌, ◌^◌, ◌<◌}
use Rattle.iscsi_pdu.specs.declared.serial_number.SerialNumber.{SerialNumber}

abbrev pub next : SerialNumber → SerialNumber
next n = record { number = (n.number + 1) % 2 ^ 32 }

-- how many steps lead from one to the other
abbrev pub distance : (first other : SerialNumber) → ℕ
distance first other = (other.number + 2 ^ 32 - first.number) % 2 ^ 32

-- the other is ahead by less than half of all numbers
abbrev pub IsBefore : SerialNumber → SerialNumber → Type 0
IsBefore n other = (0 < distance n other) × (distance n other < 2 ^ 31)

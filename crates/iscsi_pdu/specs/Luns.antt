-- Logical unit numbers of a single level (SAM-5, "Single level LUN structure").
use Rattle.std.specs.Prelude.{ℕ, ◌/◌, ◌%◌, ◌^◌, ◌==◌, ◌&&◌, ◌||◌, Option, Some, None, if◌then◌else◌}

-- the first two bytes are 00h, the peripheral device addressing method with bus 0, or 40h, flat space addressing, and then
-- the number; the other six are zero. No other LUN is one of a unit here
abbrev pub unit_of : (lun : ℕ) → Option ℕ
unit_of lun =
    if (lun % 2 ^ 48 == 0) && ((lun / 2 ^ 56 == 0x00) || (lun / 2 ^ 56 == 0x40)) then Some (lun / 2 ^ 48 % 2 ^ 8) else None

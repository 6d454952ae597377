-- Entries in order, and for how many more there is room.
use Rattle.std.specs.Prelude.{ℕ, List}
use Rattle.logical_unit.specs.declared.entry.Entry.{Entry}

pub record QueueValue : Type 0 where
  pub entries : List Entry
  pub room : ℕ

-- Parts of a drive's step by one command.
use Rattle.std.specs.Prelude.{◌≡◌, ℕ, ◌<◌, ◌==◌, Bool, true, false, List, [], length, Option, Some, None, Result, IsOk, if◌then◌else◌}
use Rattle.tape_medium.specs.TapeView.{TapeView}
use Rattle.tape_medium.specs.declared.fault.TapeFault.{TapeFault}
use Rattle.tape_medium.specs.Object.{Object, Block, Mark}
use Rattle.tape_medium.specs.Tape.{item_of}
use Rattle.tape_medium.specs.declared.item.Item.{Item}
use Rattle.tape_medium.specs.declared.item.Item.TheVariants as item
use Rattle.device_server.specs.declared.outcome.Outcome.{Outcome}
use Rattle.device_server.specs.Outcomes.{ended}
use Rattle.device_server.specs.Senses.{past_the_end}

-- the end of a write for which there is no room
abbrev pub not_written : (told : ℕ) → Outcome
not_written told = ended (past_the_end told) []

-- memory is wanted only for objects that are put on the tape, so what is refused needs none
abbrev pub IsWritten : (told : ℕ) → (protected : Bool) → Result TapeView TapeFault → Type 0
IsWritten told protected written = (0 < told) × (protected ≡ false) × IsOk written

-- and only for a block that is read
abbrev pub is_block : Option Object → Bool
is_block None = false
is_block (Some Mark) = false
is_block (Some (Block bytes)) = true

-- a block of one size
abbrev pub is_item_of : (size : ℕ) → Item → Bool
is_item_of size (item.Block had) = had == size
is_item_of size item.Mark = false
is_item_of size item.End = false

abbrev pub is_block_of : (size : ℕ) → Option Object → Bool
is_block_of size None = false
is_block_of size (Some Mark) = false
is_block_of size (Some (Block bytes)) = length bytes == size

-- what a run of blocks of one size meets at an object: nothing at such a block, or what ends it
abbrev pub met : (size : ℕ) → Option Object → Option Item
met size object = if is_block_of size object then None else Some (item_of object)

-- and the bytes that it takes
abbrev pub whole_bytes : (size : ℕ) → Option Object → List ℕ
whole_bytes size None = []
whole_bytes size (Some Mark) = []
whole_bytes size (Some (Block bytes)) = if length bytes == size then bytes else []

use Rattle.std.specs.Prelude.{◌≡◌, ◌⊎◌, ℕ, ◌+◌, ◌/◌, ◌%◌, zero, suc, Bool, true, false, ◌&&◌, ◌==◌, nat_le, min, List, [], ◌∷◌, ◌++◌, length, take, drop, replicate, sum_by, slice_get, Option, Some, None, Result, Ok, Err, IsOk, if◌then◌else◌}
use Rattle.scsi_cdb.specs.declared.profile.Profile.{Profile}
use Rattle.tape_medium.specs.Limits.{most_block, most_objects}
use Rattle.tape_medium.specs.Object.{Object, Block, Mark}
use Rattle.tape_medium.specs.TapeView.{TapeView}
use Rattle.tape_medium.specs.declared.item.Item.{Item}
use Rattle.tape_medium.specs.declared.item.Item.TheVariants as item
use Rattle.tape_medium.specs.declared.fault.TapeFault.{TapeFault}
use Rattle.tape_medium.specs.declared.fault.TapeFault.TheVariants.{BlockLength, Overflow, NoMemory}

-- a filemark takes no bytes
abbrev pub size_of : Object → ℕ
size_of (Block bytes) = length bytes
size_of Mark = 0

abbrev pub is_mark : Object → Bool
is_mark (Block bytes) = false
is_mark Mark = true

abbrev pub bytes_in : List Object → ℕ
bytes_in objects = sum_by size_of objects

-- the objects before the position, and those from it on
abbrev pub behind : TapeView → List Object
behind t = take t.position t.objects

abbrev pub ahead : TapeView → List Object
ahead t = drop t.position t.objects

-- the same objects, at another position
abbrev pub moved_to : TapeView → ℕ → TapeView
moved_to t position = record t { position = position }

-- a tape with nothing on it
abbrev pub blank : ℕ → TapeView
blank capacity = record { objects = []; position = 0; capacity = capacity; unchanged = 0 }

-- from now on the first so many objects count as unchanged
abbrev pub settled : TapeView → ℕ → TapeView
settled t count = record t { unchanged = count }

-- what lies from the position on is changed
abbrev pub unchanged_behind : TapeView → ℕ
unchanged_behind t = min t.unchanged t.position

-- WRITING, in a library of a profile. The objects are put at the position, all that lay after is dropped, and the position is behind them.
abbrev pub written : TapeView → List Object → TapeView
written t more =
    record t { objects = behind t ++ more; position = t.position + length more; unchanged = unchanged_behind t }

-- what lies after the position doesn't count
abbrev pub fits : Profile → TapeView → List Object → Bool
fits profile t more = nat_le (bytes_in (behind t) + bytes_in more) t.capacity && nat_le (t.position + length more) (most_objects profile)

abbrev pub writes : Profile → TapeView → List Object → Result TapeView TapeFault
writes profile t more = if fits profile t more then Ok (written t more) else Err Overflow

abbrev pub is_block_length : Profile → ℕ → Bool
is_block_length profile n = nat_le 1 n && nat_le n (most_block profile)

-- one block
abbrev pub writes_block : Profile → TapeView → List ℕ → Result TapeView TapeFault
writes_block profile t bytes = if is_block_length profile (length bytes) then writes profile t (Block bytes ∷ []) else Err BlockLength

-- so many blocks of one size, cut from the front of the bytes
abbrev pub blocks : ℕ → ℕ → List ℕ → List Object
blocks size zero bytes = []
blocks size (suc count) bytes = Block (take size bytes) ∷ blocks size count (drop size bytes)

abbrev pub is_whole : ℕ → List ℕ → Bool
is_whole size bytes = length bytes % size == 0

-- whole blocks of one size: all or none
abbrev pub writes_blocks : Profile → TapeView → List ℕ → ℕ → Result TapeView TapeFault
writes_blocks profile t bytes size =
    if is_block_length profile size && is_whole size bytes
    then (if length bytes == 0 then Ok t else writes profile t (blocks size (length bytes / size) bytes))
    else Err BlockLength

abbrev pub marks : ℕ → List Object
marks count = replicate count Mark

-- so many filemarks
abbrev pub writes_marks : Profile → TapeView → ℕ → Result TapeView TapeFault
writes_marks profile t count = if count == 0 then Ok t else writes profile t (marks count)

-- why a write failed: for the definition's reason, or for want of memory where the definition has none
abbrev pub IsFaultOf : Result TapeView TapeFault → TapeFault → Type 0
IsFaultOf told fault = (told ≡ Err fault) ⊎ ((fault ≡ NoMemory) × IsOk told)

-- ERASE drops all from the position on
abbrev pub erased : TapeView → TapeView
erased t = record t { objects = behind t; unchanged = unchanged_behind t }

-- READING
abbrev pub object_at : TapeView → Option Object
object_at t = slice_get t.objects t.position

abbrev pub item_of : Option Object → Item
item_of None = item.End
item_of (Some Mark) = item.Mark
item_of (Some (Block bytes)) = item.Block (length bytes)

-- the first bytes of a block, at most `limit`
abbrev pub bytes_of : Option Object → ℕ → List ℕ
bytes_of None limit = []
bytes_of (Some Mark) limit = []
bytes_of (Some (Block bytes)) limit = take limit bytes

-- past the object at the position, if there is one
abbrev pub passed : Option Object → TapeView → TapeView
passed None t = t
passed (Some object) t = moved_to t (t.position + 1)

-- LOCATE past the end of data stands at the end of data
abbrev pub located : TapeView → ℕ → TapeView
located t object = moved_to t (min object (length t.objects))

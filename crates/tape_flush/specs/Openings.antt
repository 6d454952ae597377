-- An image that is opened: where the objects of its index end.
use Rattle.std.specs.Prelude.{ℕ, ◌+◌, List, Result, Ok, Err}
use Rattle.tape_image.specs.Images.{block_count}
use Rattle.tape_image.specs.declared.index.IndexedObject.{IndexedObject}
use Rattle.tape_image.specs.declared.index.IndexedObject.TheVariants as entry
use Rattle.tape_image.specs.declared.ending.ImageEnd.{ImageEnd}
use Rattle.tape_image.specs.declared.ending.ImageEnd.TheVariants.{WholeEnd, CutTail, Faulty}
use Rattle.tape_flush.specs.declared.fault.OpenFault.{OpenFault}
use Rattle.tape_flush.specs.declared.fault.OpenFault.TheVariants as refusal

-- where the objects of an image end, and how many bytes of a cut tail are lost
pub record ImageEndsValue : Type 0 where
  pub ends : List ℕ
  pub lost : ℕ

-- a block behind its second length, a filemark behind its four bytes
abbrev pub end_of_entry : IndexedObject → ℕ
end_of_entry (entry.Block offset size) = offset + block_count size
end_of_entry (entry.Mark offset) = offset + 4

-- how many bytes of a cut tail are lost; an image with a fault is refused
abbrev pub lost_of : ImageEnd → Result ℕ OpenFault
lost_of (WholeEnd whole) = Ok 0
lost_of (CutTail whole lost) = Ok lost
lost_of (Faulty fault objects whole) = Err (refusal.Faulty fault objects whole)

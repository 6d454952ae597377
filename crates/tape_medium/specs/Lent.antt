use Rattle.tape_medium.specs.Object.{Object, Block, Mark}
use Rattle.tape_medium.specs.declared.object.TapeObject.{TapeObject}
use Rattle.tape_medium.specs.declared.object.TapeObject.TheVariants as lent

-- the logical object that is lent
abbrev pub lent_object : TapeObject → Object
lent_object (lent.Block bytes) = Block bytes.now
lent_object lent.Mark = Mark

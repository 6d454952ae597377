use Rattle.tape_flush.proofs.Survivors.{survivors, survivors_cut}
use Rattle.tape_flush.proofs.laws.synced_objects_survive.Goals as goal

pub returns-clause-found : goal.returns-clause-found
returns-clause-found c file known ends objects others found noted holds survives = survivors file known ends objects others found noted holds survives

pub returns-clause-cut : goal.returns-clause-cut
returns-clause-cut c file known ends objects others found noted count holds survives = survivors_cut file known ends objects others found noted count holds survives

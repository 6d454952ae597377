use Rattle.std.proofs.Common.{◌≡◌, ◌≢◌, ◌==◌, ℕ, true, false, Option, Some, None, ap, inl, refl}
use Rattle.scsi_nexus.specs.declared.nexus.Nexus.{Nexus}
use Rattle.server.specs.Rows.{a, b}
use Rattle.server.proofs.SessionRows.{another_goes_on, goes_on, needs_loss, none_of_another, one_gives, two_give}
use Rattle.server.proofs.rows.session_rows.Goals as goal

abbrev sas_of : Option Nexus → ℕ
sas_of None = 0
sas_of (Some n) = n.sas

others : Some b ≢ Some a
others same = let never : false ≡ true = ap (λ (o : Option Nexus). sas_of o == 0x500000000000000A) same in absurd cc

pub returns-clause-nobody : goal.returns-clause-nobody
returns-clause-nobody c = (_, _, refl, inl refl, refl)

pub returns-clause-one : goal.returns-clause-one
returns-clause-one c d l command loss = one_gives a d l command loss

pub returns-clause-two : goal.returns-clause-two
returns-clause-two c d l e m command loss other gone = two_give a b d l e m command loss other gone

pub returns-clause-of_another : goal.returns-clause-of_another
returns-clause-of_another c d l command so = none_of_another a b d l others command so

pub returns-clause-without_the_loss : goal.returns-clause-without_the_loss
returns-clause-without_the_loss c d command so = needs_loss a d command so

pub returns-clause-goes_on : goal.returns-clause-goes_on
returns-clause-goes_on c d command = goes_on a d command

pub returns-clause-another_goes_on : goal.returns-clause-another_goes_on
returns-clause-another_goes_on c d command so = another_goes_on a b d others command so

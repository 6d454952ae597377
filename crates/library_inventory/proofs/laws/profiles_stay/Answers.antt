use Rattle.library_inventory.proofs.Profiles.{opens_as_kept, numbers_stay}
use Rattle.library_inventory.proofs.laws.profiles_stay.Goals as goal

pub returns-clause-opens : goal.returns-clause-opens
returns-clause-opens c = opens_as_kept

pub returns-clause-numbers : goal.returns-clause-numbers
returns-clause-numbers c = numbers_stay

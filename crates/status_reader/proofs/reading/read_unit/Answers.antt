use Rattle.status_reader.proofs.Growing.{shown_at}
use Rattle.status_reader.proofs.reading.read_unit.Goals as goal

pub returns : goal.returns
returns g c = shown_at _ _ _ (c.look.ensures.shown c.requires)

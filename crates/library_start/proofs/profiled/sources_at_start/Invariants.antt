use Rattle.std.proofs.Common.{◌≡◌, take}
use Rattle.std.specs.List.{fold}
use Rattle.element_sources.specs.Sources.{none_known}
use Rattle.library_start.specs.Profiles.{sourced}
use Rattle.library_start.proofs.profiled.sources_at_start.Given as goal

-- of the volumes that the loop has passed
abbrev pub invariant-volumes : goal.invariant-volumes
invariant-volumes l = l.sources ≡ fold sourced (none_known l.fn.size.drives l.fn.size.import_exports l.fn.size.slots) (take l.started-index l.volumes)

use Rattle.std.proofs.Common.{◌==◌}
use Rattle.std.specs.Prelude.{slice_get, if◌then◌else◌}
use Rattle.logical_unit.specs.UnitView.{units_of}
use Rattle.target_core.specs.Faults.{profile_in}
use Rattle.lun_router.specs.Opening.{last_at}
use Rattle.library_rows.proofs.threads.days.run.Given as goal

abbrev pub ghosts-day : goal.ghosts-day
ghosts-day g a = record {
  names = λ lun. if lun == 0 then a.blanks.zero.name else if lun == 1 then a.blanks.one.name else if lun == 2 then a.blanks.two.name else if lun == 3 then a.blanks.three.name else a.blanks.four.name;
  all_parts = a.blanks.zero.parts;
  since_of = λ lun. last_at (slice_get (units_of a.core) lun);
  profile = profile_in (units_of a.core);
}

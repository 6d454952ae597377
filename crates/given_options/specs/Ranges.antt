-- What is given is in its range, whichever source gives it (profile).
use Rattle.std.specs.Prelude.{◌≤◌, IfSome, vec_len}
use Rattle.program_options.specs.Options.{AreGivenInRange, IsWithin}
use Rattle.given_options.specs.declared.options.GivenOptions.{GivenOptions}

pub record AreGiven (given : GivenOptions) : Type 0 where
  pub library : AreGivenInRange given.library
  pub volume_size : IsWithin 1048576 68719476736 given.volume_size
  pub sessions : IsWithin 1 64 given.place.sessions
  pub workers : IsWithin 1 64 given.place.workers
  pub portals : IfSome given.iscsi.portals (λ portals. (1 ≤ vec_len portals) × (vec_len portals ≤ 4))

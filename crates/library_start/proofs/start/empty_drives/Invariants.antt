use Rattle.std.proofs.Common.{◌≡◌}
use Rattle.library_start.specs.Profiles.{empty_drives}
use Rattle.library_start.proofs.start.empty_drives.Given as goal

-- as many as the loop has passed
abbrev pub invariant-drives : goal.invariant-drives
invariant-drives l = l.drives.items ≡ empty_drives l.profile l.place

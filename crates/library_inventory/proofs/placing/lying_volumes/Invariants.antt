use Rattle.std.proofs.Common.{◌≡◌, take}
use Rattle.std.specs.List.{fold}
use Rattle.library_inventory.specs.Starts.{kept_volumes, put_back}
use Rattle.library_inventory.proofs.placing.lying_volumes.Given as goal

-- those that were missing so far are put back
abbrev pub invariant-missing : goal.invariant-missing
invariant-missing l = l.lying.items ≡ fold (put_back l.images) (kept_volumes l.named l.images) (take l.volume-index l.missing)

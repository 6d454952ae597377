use Rattle.std.proofs.Common.{refl}
use Rattle.scsi_cdb.specs.Commands as cdb
use Rattle.pr_core.specs.State.{keys_after}
use Rattle.device_server.specs.View.{profile_of}
use Rattle.unit_laws.proofs.laws.decided_at_the_check.Goals as goal

pub returns : goal.returns
unfolding cdb.command_of profile_of keys_after
returns c tag = record {
  holder_comes = record { decodes = refl; ready = refl };
  holder_verdict = refl;
  holder = refl;
  other_comes = record { decodes = refl; ready = refl };
  other_verdict = refl;
  other = refl;
  keyless_comes = record { decodes = refl; ready = refl };
  keyless_verdict = refl;
  keyless = refl;
  passes_over = record { decodes = refl; ready = refl };
  told_before = λ comes. let told = comes.ready in absurd cc;
}

use Rattle.std.proofs.Common.{◌∷◌, get_or, subst}
use Rattle.judgement.specs.Received.{ReceivedValue}
use Rattle.logical_unit.specs.UnitView.{units_of}
use Rattle.target_core.specs.Run.{Commands}
use Rattle.target_core.specs.Busy.{CommandIsBusyOnlyFor}
use Rattle.target_core.proofs.MovesInPlace.{first_moved}
use Rattle.target_core.proofs.WhyBusy.{first_busy}
use Rattle.target_core.proofs.target.command_to_changer.Goals as goal

pub returns : goal.returns
returns g c =
    let parts = c.split_at_mut-first.result in
    let step = subst (λ (r : ReceivedValue). Commands (units_of (get_or parts.0.now 0 c.index-first-0-2.result ∷ parts.1.now)) 0 r.nexus r.cdb
    r.bytes (units_of (c.command_with_drives.new.changer ∷ c.command_with_drives.new.drives), c.command_with_drives.result))
    c.new-received.ensures c.command_with_drives.ensures.step in
    let busy = subst (λ (r : ReceivedValue). CommandIsBusyOnlyFor (get_or parts.0.now 0 c.index-first-0-2.result ∷ parts.1.now) 0 r.nexus
    r.cdb r.bytes c.command_with_drives.result) c.new-received.ensures c.command_with_drives.ensures.busy in
    record {
      step =
          first_moved c.args.units.now parts.0.now parts.1.now c.command_with_drives.new.drives c.args.nexus c.args.cdb.now c.args.bytes.now
          c.index-first-0-2.result c.command_with_drives.new.changer c.command_with_drives.result
          c.split_at_mut-first.ensures.value c.split_at_mut-first.ensures.front_len step;
      busy = first_busy c.args.nexus c.args.cdb.now c.args.bytes.now c.command_with_drives.result c.args.units.now parts.0.now parts.1.now
          c.index-first-0-2.result c.split_at_mut-first.ensures.value c.split_at_mut-first.ensures.front_len busy;
    }

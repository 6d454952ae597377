-- What is told of a command that asks an errand of a changer: the kind of its act, and the volume that it was carried out on.
use Rattle.std.proofs.Common.{◌≡◌, ℕ, List, Some, sym, ap, ◌∙◌}
use Rattle.scsi_cdb.specs.declared.kind.Kind.{Kind}
use Rattle.scsi_cdb.specs.declared.kind.Kind.TheVariants.{Drive, Changer}
use Rattle.scsi_cdb.specs.declared.profile.CommandSet.{CommandSet}
use Rattle.device_server.specs.Ends.{IsSameDevice}
use Rattle.device_server.specs.View.{DeviceView, kind_of, commands_of, drives_of, held_in}
use Rattle.device_server.proofs.SameDevice.{same_commands}
use Rattle.judgement.specs.Commands.{act_of, act_of_decoded}
use Rattle.judgement.specs.Received.{ReceivedValue, IsFor, command_in}
use Rattle.logical_unit.specs.declared.act_kind.ActKind.TheVariants as kind
use Rattle.logical_unit.specs.declared.route.Errand.{Errand}
use Rattle.logical_unit.specs.ActKinds.{act_kind_of}
use Rattle.logical_unit.specs.Route.{errand_of, class_of_errand}
use Rattle.logical_unit.specs.VolumeAfter.{at_end, volume_after}
use Rattle.logical_unit.proofs.NamedDrives.{act_asked}

pub kind_told : (device : DeviceView) (received : ReceivedValue) (e : Errand) → IsFor device received
    → errand_of (commands_of device) (drives_of device) received.cdb ≡ Some e → act_kind_of (act_of_decoded (command_in received)) ≡ kind.Command (class_of_errand e)
kind_told device received e comes is =
    ap (λ (commands : CommandSet). act_kind_of (act_of commands received.cdb received.bytes)) comes
    ∙ ap act_kind_of (act_asked (commands_of device) (drives_of device) received.cdb received.bytes e is)

-- the changer asks the same of the command afterwards
pub volume_told : (before after : DeviceView) (cdb : List ℕ) (e : Errand) → kind_of before ≡ Changer → errand_of (commands_of before) (drives_of before) cdb ≡ Some e
    → IsSameDevice before after → at_end after (Some e) ≡ volume_after after cdb
volume_told before after cdb e changer is same =
    let asks_same : errand_of (commands_of after) (drives_of after) cdb ≡ Some e =
    ap (λ (commands : CommandSet). errand_of commands (drives_of after) cdb) (same_commands before after same)
    ∙ ap (λ (drives : ℕ). errand_of (commands_of before) drives cdb) same.drives ∙ is in
    sym (ap (λ (k : Kind). elim k [
      | Drive ↦ held_in after 0
      | Changer ↦ at_end after (errand_of (commands_of after) (drives_of after) cdb)
    ]) (same.kind ∙ changer)
    ∙ ap (at_end after) asks_same)

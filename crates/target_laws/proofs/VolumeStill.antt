-- What moves no volume, and what leaves a drive or comes to one.
use Rattle.std.proofs.Common.{◌≡◌, ℕ, Option, Result, Ok, Err, refl, sym, ap, ◌∙◌, subst}
use Rattle.tape_medium.specs.declared.volume.Volume.{Volume}
use Rattle.tape_medium.specs.declared.volume.VolumeTag.{VolumeTag}
use Rattle.device_server.specs.View.{DeviceView, marked, journeyed}
use Rattle.device_server.specs.Volumes.{volume_at, GoesOut, GoesIn}
use Rattle.device_server.specs.declared.fault.BadPlace.{BadPlace}
use Rattle.device_server.proofs.PlaceLemmas.{takes_one, puts_one, marks_move_nothing, journeys_move_nothing}
use Rattle.logical_unit.specs.Medium.{taken_out, put_in}
use Rattle.logical_unit.specs.Move.{noting}
use Rattle.logical_unit.specs.UnitView.{UnitView}
use Rattle.logical_unit.specs.declared.route.Route.{Route}
use Rattle.logical_unit.proofs.Halves.{is_out, is_in}

-- a tag that is noted moves nothing
noted_still : (device : DeviceView) (address : ℕ) (tag : Option VolumeTag) (o : Result DeviceView BadPlace) → marked device address tag ≡ o → (place : ℕ)
    → volume_at (elim o [ Ok after ↦ after | Err fault ↦ device ]) place ≡ volume_at device place
noted_still device address tag (Ok after) h place = marks_move_nothing device after address tag h place
noted_still device address tag (Err fault) h place = refl

pub noting_still : (device : DeviceView) (address : ℕ) (tag : Option VolumeTag) (place : ℕ) → volume_at (noting device address tag) place ≡ volume_at device place
noting_still device address tag place = noted_still device address tag (marked device address tag) refl place

-- and so does a journey
pub journey_still : (device mid : DeviceView) (r : Route) → device ≡ journeyed mid r.source r.destination → (place : ℕ) → volume_at device place ≡ volume_at mid place
journey_still device mid r notes place = ap (λ (x : DeviceView). volume_at x place) notes ∙ journeys_move_nothing mid r.source r.destination place

-- what goes out of a drive, and comes in
pub drive_gives_out : (d e : UnitView) (v : Volume) → taken_out d ≡ Ok (v, e) → GoesOut d.device e.device 0 v
drive_gives_out d e v h =
    let out = is_out d e v h in
    subst (λ (u : UnitView). GoesOut d.device u.device 0 v) (sym out.unit) (takes_one d.device out.device 0 v out.taken)

pub drive_takes_in : (d e : UnitView) (v : Volume) → put_in d v ≡ Ok e → GoesIn d.device e.device 0 v
drive_takes_in d e v h =
    let come = is_in d e v h in
    subst (λ (u : UnitView). GoesIn d.device u.device 0 v) (sym come.unit) (puts_one d.device come.device 0 v come.put)

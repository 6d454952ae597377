-- The cartridges of one device, and what goes in or out there.
use Rattle.std.proofs.Common.{◌≡◌, ℕ, Bool, [], ◌∷◌, map, IsPermutation, Option, Some, None, Result, Ok, Err, refl, sym, ap, ◌∙◌, subst}
use Rattle.std.proofs.lemmas.List.Sorted.{IsPermutation-map}
use Rattle.scsi_cdb.specs.declared.kind.Kind.TheVariants as kind
use Rattle.tape_medium.specs.Elements.{element_at}
use Rattle.tape_medium.specs.declared.volume.Volume.{Volume}
use Rattle.tape_medium.specs.declared.volume.VolumeTag.{VolumeTag}
use Rattle.tape_medium.specs.Volumes.{present}
use Rattle.tape_medium.proofs.ElementLemmas.{element_at-within}
use Rattle.tape_medium.proofs.VolumeLemmas.{volumes-take, volumes-put}
use Rattle.device_server.specs.View.{DeviceView, Drive, Changer, kind_of, taken, put, marked, journeyed}
use Rattle.device_server.specs.Volumes.{volume_at, volumes_of, SameCartridge, SameAt}
use Rattle.device_server.specs.declared.fault.BadPlace.{BadPlace}
use Rattle.device_server.proofs.InAndOut.{drive_taken, drive_put, changer_taken, changer_put, marked_one}
use Rattle.logical_unit.specs.Medium.{taken_out, put_in}
use Rattle.logical_unit.specs.Move.{noting}
use Rattle.logical_unit.specs.UnitView.{UnitView}
use Rattle.logical_unit.specs.declared.route.Route.{Route}
use Rattle.logical_unit.proofs.Halves.{is_out, is_in}
use Rattle.target_laws.specs.Cartridges.{Cartridge, cartridge_of, cartridges_of}

-- WHAT ONE DEVICE HAS
abbrev pub cartridge_by : VolumeTag → Bool → ℕ → Cartridge
cartridge_by tag protected capacity = record { tag = tag; protected = protected; capacity = capacity }

cartridge_same : (v w : Volume) → SameCartridge v w → cartridge_of w ≡ cartridge_of v
cartridge_same v w same =
    ap (λ (t : VolumeTag). cartridge_by t w.protected w.tape.capacity) same.tag ∙ ap (λ (b : Bool). cartridge_by v.tag b w.tape.capacity) same.protected ∙ ap (cartridge_by v.tag v.protected) same.capacity

bay_same : (x y : Option Volume) → SameAt SameCartridge x y → map cartridge_of (present (y ∷ [])) ≡ map cartridge_of (present (x ∷ []))
bay_same None None same = refl
bay_same (Some v) (Some w) same = ap (λ (c : Cartridge). c ∷ []) (cartridge_same v w same)
bay_same None (Some w) same = absurd same
bay_same (Some v) None same = absurd same

pub drive_same : (a b : DeviceView) → kind_of a ≡ kind.Drive → kind_of b ≡ kind.Drive → SameAt SameCartridge (volume_at a 0) (volume_at b 0) → cartridges_of b ≡ cartridges_of a
drive_same (Drive d) (Drive e) k l same = bay_same d.bay e.bay same
drive_same (Changer d) b k l same = absurd cc
drive_same (Drive d) (Changer e) k l same = absurd cc

-- a mark moves nothing
noted_volumes : (device : DeviceView) (address : ℕ) (tag : Option VolumeTag) (o : Result DeviceView BadPlace) → marked device address tag ≡ o → volumes_of (elim o [ Ok after ↦ after | Err fault ↦ device ]) ≡ volumes_of device
noted_volumes (Drive d) address tag (Ok after) h = absurd cc
noted_volumes (Changer e) address tag (Ok after) h = sym (ap volumes_of (marked_one e address tag after h).rest)
noted_volumes device address tag (Err fault) h = refl

pub noting_volumes : (device : DeviceView) (address : ℕ) (tag : Option VolumeTag) → cartridges_of (noting device address tag) ≡ cartridges_of device
noting_volumes device address tag = ap (map cartridge_of) (noted_volumes device address tag (marked device address tag) refl)

-- and so does a journey
journeyed_volumes : (device : DeviceView) (source destination : ℕ) → cartridges_of (journeyed device source destination) ≡ cartridges_of device
journeyed_volumes (Drive d) source destination = refl
journeyed_volumes (Changer c) source destination = refl

pub journey_volumes : (device mid : DeviceView) (r : Route) → device ≡ journeyed mid r.source r.destination → cartridges_of device ≡ cartridges_of mid
journey_volumes device mid r notes = ap cartridges_of notes ∙ journeyed_volumes mid r.source r.destination

-- what goes out of a drive, and comes in
given_by_drive : (device after : DeviceView) (v : Volume) → kind_of device ≡ kind.Drive → taken device 0 ≡ Ok (v, after) → (cartridges_of device ≡ cartridge_of v ∷ []) × (cartridges_of after ≡ [])
given_by_drive (Changer e) after v k h = absurd cc
given_by_drive (Drive d) after v k h =
    let out = drive_taken d 0 v after h in (
      ap (λ (o : Option Volume). map cartridge_of (present (o ∷ []))) out.full ∙ ap (λ (x : Volume). cartridge_of x ∷ []) out.volume,
      sym (ap cartridges_of out.left),
    )

taken_by_drive : (device after : DeviceView) (v : Volume) → kind_of device ≡ kind.Drive → put device 0 v ≡ Ok after → (cartridges_of device ≡ []) × (cartridges_of after ≡ cartridge_of v ∷ [])
taken_by_drive (Changer e) after v k h = absurd cc
taken_by_drive (Drive d) after v k h =
    let into = drive_put d 0 v after h in (
      ap (λ (o : Option Volume). map cartridge_of (present (o ∷ []))) into.empty,
      sym (ap cartridges_of into.left),
    )

pub drive_gives : (d e : UnitView) (v : Volume) → taken_out d ≡ Ok (v, e) → (cartridges_of d.device ≡ cartridge_of v ∷ []) × (cartridges_of e.device ≡ [])
drive_gives d e v h =
    let out = is_out d e v h in
    let both = given_by_drive d.device out.device v out.kind out.taken in
    (both.0, ap (λ (u : UnitView). cartridges_of u.device) out.unit ∙ both.1)

pub drive_gets : (d e : UnitView) (v : Volume) → put_in d v ≡ Ok e → (cartridges_of d.device ≡ []) × (cartridges_of e.device ≡ cartridge_of v ∷ [])
drive_gets d e v h =
    let come = is_in d e v h in
    let both = taken_by_drive d.device come.device v come.kind come.put in
    (both.0, ap (λ (u : UnitView). cartridges_of u.device) come.unit ∙ both.1)

-- and what a changer takes up, and puts down
pub changer_gives : (c after : DeviceView) (place : ℕ) (v : Volume) → kind_of c ≡ kind.Changer → taken c place ≡ Ok (v, after) → IsPermutation (cartridges_of c) (cartridge_of v ∷ cartridges_of after)
changer_gives (Drive d) after place v k h = absurd cc
changer_gives (Changer e) after place v k h =
    let out = changer_taken e place v after h in
    subst (λ (x : DeviceView). IsPermutation (cartridges_of (Changer e)) (cartridge_of v ∷ cartridges_of x)) out.left
    (IsPermutation-map cartridge_of (volumes_of (Changer e)) (v ∷ _) (volumes-take e.elements (element_at e.elements place) v out.full))

pub changer_gets : (c after : DeviceView) (place : ℕ) (v : Volume) → kind_of c ≡ kind.Changer → put c place v ≡ Ok after → IsPermutation (cartridge_of v ∷ cartridges_of c) (cartridges_of after)
changer_gets (Drive d) after place v k h = absurd cc
changer_gets (Changer e) after place v k h =
    let into = changer_put e place v after h in
    subst (λ (x : DeviceView). IsPermutation (cartridge_of v ∷ cartridges_of (Changer e)) (cartridges_of x)) into.left
    (IsPermutation-map cartridge_of (v ∷ volumes_of (Changer e)) _ (volumes-put e.elements (element_at e.elements place) v (element_at-within e.elements place) into.empty))

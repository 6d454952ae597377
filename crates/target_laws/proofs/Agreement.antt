-- A move that the changer's map and marks allow finds the drives that it names as the marks say: it is carried, or a drive's removal is
-- prevented.
use Rattle.std.proofs.Common.{◌≡◌, ◌-◌, ◌==◌, ◌&&◌, ℕ, zero, suc, Bool, true, false, List, [], ◌∷◌, length, Option, Some, None, Result, Ok, Err, refl, sym, ap, ◌∙◌, subst, inl, inr, arith}
use Rattle.std.specs.Prelude.{◌⊎◌, cond, not, ◌||◌, is_none, slice_get, slice_index_or, IsOk}
use Rattle.std.proofs.lemmas.Bool.Decides.{nat_tests}
use Rattle.scsi_cdb.specs.declared.kind.Kind.{Kind}
use Rattle.scsi_cdb.specs.declared.kind.Kind.TheVariants as kind
use Rattle.scsi_cdb.specs.declared.request.Request.TheVariants.{MoveMedium}
use Rattle.scsi_sense.specs.Conditions.{sense_for}
use Rattle.scsi_sense.specs.declared.condition.Condition.{Condition}
use Rattle.scsi_sense.specs.declared.condition.Condition.TheVariants.{InternalTargetFailure, MediumRemovalPrevented}
use Rattle.tape_medium.specs.declared.elements.MapFault.{MapFault}
use Rattle.tape_medium.specs.declared.elements.MapFault.TheVariants.{BadAddress}
use Rattle.tape_medium.specs.declared.volume.Volume.{Volume}
use Rattle.tape_medium.specs.declared.volume.VolumeTag.{VolumeTag}
use Rattle.tape_medium.specs.Elements.{Elements, Element, Transport, DataTransfer, ImportExport, Storage, Nowhere, first_data_transfer, first_import_export, first_storage, is_among, element_at, tag_of, tag_in, tag_held, refusal, move_refusal}
use Rattle.audit_log.specs.declared.act.Act.TheVariants.{MediumIn, MediumOut}
use Rattle.device_server.specs.Drive.{DriveView}
use Rattle.device_server.specs.Failures.{is_failure, is_data_transfer}
use Rattle.device_server.specs.Marks.{marks}
use Rattle.device_server.specs.View.{DeviceView, Drive, Changer, kind_of, drives_of, held_in, taken_from_bay, taken, put_in_bay, put, performed}
use Rattle.device_server.specs.declared.fault.PutFault.{PutFault}
use Rattle.device_server.specs.declared.fault.TakeFault.{TakeFault}
use Rattle.device_server.proofs.FailureLemmas.{changers_fail_for_drives}
use Rattle.judgement.specs.UnitState.{is_prevented, with_medium}
use Rattle.logical_unit.specs.MoveJudgement.{HasRouteWays}
use Rattle.logical_unit.specs.Medium.{taken_as, put_as}
use Rattle.logical_unit.specs.Move.{names_held, given, received, unloaded, loaded, passed}
use Rattle.logical_unit.specs.Route.{drive_at}
use Rattle.logical_unit.specs.Step.{with_event}
use Rattle.logical_unit.specs.UnitView.{UnitView}
use Rattle.logical_unit.specs.declared.route.Route.{Route}
use Rattle.logical_unit.proofs.FreeEnds.{route_ways}
use Rattle.logical_unit.proofs.Halves.{received_as, put_down, unloaded_by, taken_up, loaded_by, handed, passed_by, out_by, in_by, given_by}
use Rattle.logical_unit.proofs.NamedDrives.{drive_within}
use Rattle.target_core.specs.Faults.{same_mark, agree}
use Rattle.target_core.proofs.Places.{same_some}
use Rattle.target_core.proofs.Ordered.{both, IsOrdered}

-- WHAT THE CHANGER SAYS of an element
abbrev pub held_by : Elements → Element → Option VolumeTag
held_by e x = elim (tag_in e x) as (λ _. Option VolumeTag) [ Ok tag ↦ tag | Err fault ↦ None ]

pub held_is : (e : Elements) (x : Element) (t : Option VolumeTag) → tag_held e x ≡ Some t → held_by e x ≡ t
held_is e Transport t h = absurd cc
held_is e (DataTransfer i) t h = cc
held_is e (ImportExport i) t h = cc
held_is e (Storage i) t h = cc
held_is e Nowhere t h = absurd cc

allowed : (x y : Option (Option VolumeTag)) → refusal x y ≡ None → (tag : VolumeTag) × (x ≡ Some (Some tag)) × (y ≡ Some None)
allowed None y h = absurd cc
allowed (Some held) None h = absurd cc
allowed (Some None) (Some there) h = absurd cc
allowed (Some (Some tag)) (Some (Some other)) h = absurd cc
allowed (Some (Some tag)) (Some None) h = (tag, refl, refl)

transport_is : (transport : Bool) (x y : Option (Option VolumeTag)) → cond transport (refusal x y) (Some BadAddress) ≡ None → refusal x y ≡ None
transport_is true x y h = h
transport_is false x y h = absurd cc

pub none_is : (o : Option MapFault) → is_none o ≡ true → o ≡ None
none_is None h = refl
none_is (Some fault) h = absurd cc

-- a move that it leaves to the drives: there is a volume at its source and none at its destination, by what it knows
pub record IsAllowed (device : DeviceView) (r : Route) : Type 0 where
  pub tag : VolumeTag
  pub full : held_in device r.source ≡ Some tag
  pub empty : held_in device r.destination ≡ None
  pub ways : HasRouteWays device r

pub left_allowed : (device : DeviceView) (transport : ℕ) (r : Route) (invert : Bool) (bytes : List ℕ) → kind_of device ≡ kind.Changer → r.from ≡ drive_at (drives_of device) r.source → r.to ≡ drive_at (drives_of device) r.destination
    → is_failure (performed device (MoveMedium transport r.source r.destination invert) bytes).1.sense ≡ true → IsAllowed device r
left_allowed (Drive d) transport r invert bytes k from to left = absurd cc
left_allowed (Changer v) transport r invert bytes k from to left =
    let e : Elements = v.elements in
    let refused : Option MapFault = move_refusal e transport r.source r.destination in
    let names : Bool = is_data_transfer (element_at e r.source) || is_data_transfer (element_at e r.destination) in
    let is : (not invert && (is_none refused && names)) ≡ true = sym (changers_fail_for_drives v (MoveMedium transport r.source r.destination invert) bytes) ∙ left in
    let free : refused ≡ None = none_is refused (both (is_none refused) names (both (not invert) (is_none refused && names) is).1).0 in
    let found = allowed (tag_held e (element_at e r.source)) (tag_held e (element_at e r.destination)) (transport_is (transport == 0) (tag_held e (element_at e r.source)) (tag_held e (element_at e r.destination)) free) in
    record {
      tag = found.0;
      full = held_is e (element_at e r.source) (Some found.0) found.1;
      empty = held_is e (element_at e r.destination) None found.2;
      ways = route_ways v transport r free from to;
    }

-- THE MARKS. The address of a drive is that of its data transfer element
chosen_drive : (transport drive portal slot : Bool) (i j k : ℕ) → transport ≡ false → drive ≡ true
    → cond transport Transport (cond drive (DataTransfer i) (cond portal (ImportExport j) (cond slot (Storage k) Nowhere))) ≡ DataTransfer i
chosen_drive false true portal slot i j k first second = refl
chosen_drive true drive portal slot i j k first second = absurd cc
chosen_drive false false portal slot i j k first second = absurd cc

abbrev pub element_of : ℕ → Element
element_of i = DataTransfer i

pub drive_element : (e : Elements) (address k : ℕ) → drive_at (length e.data_transfer) address ≡ Some (suc k) → element_at e address ≡ DataTransfer k
drive_element e address k h =
    let w = drive_within (length e.data_transfer) address (suc k) h in
    let is = w.2 in
    let high = w.1 in
    let apart : (address == 0) ≡ false = grind (arith, nat_tests) in
    let among : is_among first_data_transfer (length e.data_transfer) address ≡ true = grind (arith, nat_tests) in
    let number : address - first_data_transfer ≡ k = omega (arith, is) in
    chosen_drive (address == 0) (is_among first_data_transfer (length e.data_transfer) address) (is_among first_import_export (length e.import_export) address) (is_among first_storage (length e.storage) address)
    (address - first_data_transfer) (address - first_import_export) (address - first_storage) apart among
    ∙ ap element_of number

pub mark_at : (device : DeviceView) (address k : ℕ) → kind_of device ≡ kind.Changer → drive_at (drives_of device) address ≡ Some (suc k) → held_in device address ≡ slice_index_or (marks device) k None
mark_at (Drive d) address k changer h = absurd cc
mark_at (Changer v) address k changer h = ap (held_by v.elements) (drive_element v.elements address k h)

agree_at : (ms : List (Option VolumeTag)) (ds : List UnitView) (k : ℕ) (d : UnitView) → agree ms ds ≡ true → slice_get ds k ≡ Some d → same_mark (slice_index_or ms k None) (held_in d.device 0) ≡ true
agree_at ms [] k d h there = absurd cc
agree_at [] (z ∷ ds) k d h there = absurd cc
agree_at (m ∷ ms) (z ∷ ds) zero d h there =
    let is : z ≡ d = same_some z d there in
    subst (λ (u : UnitView). same_mark m (held_in u.device 0) ≡ true) is (both (same_mark m (held_in z.device 0)) (agree ms ds) h).0
agree_at (m ∷ ms) (z ∷ ds) (suc k) d h there = agree_at ms ds k d (both (same_mark m (held_in z.device 0)) (agree ms ds) h).1 there

pub marked : (c : UnitView) (ds : List UnitView) (address k : ℕ) (d : UnitView) → IsOrdered c ds → drive_at (drives_of c.device) address ≡ Some (suc k) → slice_get ds k ≡ Some d → same_mark (held_in c.device address) (held_in d.device 0) ≡ true
marked c ds address k d o at there =
    ap (λ (m : Option VolumeTag). same_mark m (held_in d.device 0)) (mark_at c.device address k o.kind at) ∙ agree_at (marks c.device) ds k d o.marked there

-- THE DRIVES
record IsTaken (device : DeviceView) (tag : VolumeTag) : Type 0 where
  volume : Volume
  left : DeviceView
  is : taken device 0 ≡ Ok (volume, left)
  same : volume.tag ≡ tag

bay_taken : (x : DriveView) (o : Option Volume) (tag : VolumeTag) → x.bay ≡ o → tag_of o ≡ Some tag → IsTaken (Drive x) tag
bay_taken x None tag bay h = absurd cc
bay_taken x (Some v) tag bay h = record { volume = _; left = _; is = ap (taken_from_bay x) bay; same = cc }

full_bay : (device : DeviceView) (tag : VolumeTag) → kind_of device ≡ kind.Drive → held_in device 0 ≡ Some tag → IsTaken device tag
full_bay (Drive x) tag k h = bay_taken x x.bay tag refl h
full_bay (Changer e) tag k h = absurd cc

record IsPut (device : DeviceView) (v : Volume) : Type 0 where
  left : DeviceView
  is : put device 0 v ≡ Ok left

bay_put : (x : DriveView) (o : Option Volume) (v : Volume) → x.bay ≡ o → tag_of o ≡ None → IsPut (Drive x) v
bay_put x None v bay h = record { left = _; is = ap (λ (held : Option Volume). put_in_bay x held v) bay }
bay_put x (Some w) v bay h = absurd cc

empty_bay : (device : DeviceView) (v : Volume) → kind_of device ≡ kind.Drive → held_in device 0 ≡ None → IsPut device v
empty_bay (Drive x) v k h = bay_put x x.bay v refl h
empty_bay (Changer e) v k h = absurd cc

-- a drive gives the volume that its mark names, unless its removal is prevented
abbrev pub Gives : Option VolumeTag → UnitView → Type 0
Gives mark d = (given mark d ≡ Err MediumRemovalPrevented) ⊎ ((it : Volume × UnitView) × (given mark d ≡ Ok it))

abbrev pub named_ok : Volume × UnitView → Result (Volume × UnitView) Condition
named_ok it = Ok it

gives_by : (mark : Option VolumeTag) (d : UnitView) (v : Volume) (left : DeviceView) (prevented : Bool) → kind_of d.device ≡ kind.Drive → taken d.device 0 ≡ Ok (v, left) → is_prevented d.state ≡ prevented → names_held mark (Some v.tag) ≡ true → Gives mark d
gives_by mark d v left true k takes p names =
    inl (ap (λ (x : Kind). given_by mark (out_by d x (is_prevented d.state))) k ∙ ap (λ b. given_by mark (out_by d kind.Drive b)) p)
gives_by mark d v left false k takes p names =
    let it : Volume × UnitView = (v, with_event d None MediumOut (record { device = left; state = d.state })) in
    inr (
      it,
      ap (λ (x : Kind). given_by mark (out_by d x (is_prevented d.state))) k
          ∙ ap (λ b. given_by mark (out_by d kind.Drive b)) p
          ∙ ap (λ (t : Result (Volume × DeviceView) TakeFault). given_by mark (taken_as d t)) takes
          ∙ ap (λ b. cond b (named_ok it) (Err InternalTargetFailure)) names,
    )

pub gives : (m : VolumeTag) (mark held : Option VolumeTag) (d : UnitView) → kind_of d.device ≡ kind.Drive → mark ≡ Some m → held_in d.device 0 ≡ held → same_mark mark held ≡ true → Gives mark d
gives m mark None d k is bay same = let no : same_mark (Some m) None ≡ true = subst (λ (x : Option VolumeTag). same_mark x None ≡ true) is same in absurd cc
gives m mark (Some tag) d k is bay same =
    let t = full_bay d.device tag k bay in
    let names : names_held (Some m) (Some tag) ≡ true = subst (λ (x : Option VolumeTag). same_mark x (Some tag) ≡ true) is same in
    subst (λ (x : Option VolumeTag). Gives x d) (sym is)
    (gives_by (Some m) d t.volume t.left (is_prevented d.state) k t.is refl (subst (λ (x : VolumeTag). names_held (Some m) (Some x) ≡ true) (sym t.same) names))

-- and takes one where its mark is empty
abbrev pub Receives : UnitView → Type 0
Receives d = (v : Volume) → (e : UnitView) × (received d v ≡ Ok e)

pub receives : (held : Option VolumeTag) (d : UnitView) → kind_of d.device ≡ kind.Drive → held_in d.device 0 ≡ held → same_mark None held ≡ true → Receives d
receives (Some tag) d k bay same = absurd cc
receives None d k bay same = λ v.
    let t = empty_bay d.device v k bay in (
      with_event d None MediumIn (record { device = t.left; state = with_medium d.state }),
      ap (λ (x : Kind). received_as (in_by d v x)) k ∙ ap (λ (p : Result DeviceView PutFault). received_as (put_as d p)) t.is,
    )

pub drive_gives : (c : UnitView) (ds : List UnitView) (r : Route) (k : ℕ) (d : UnitView) → IsOrdered c ds → IsAllowed c.device r → kind_of d.device ≡ kind.Drive → drive_at (drives_of c.device) r.source ≡ Some (suc k) → slice_get ds k ≡ Some d → Gives (held_in c.device r.source) d
drive_gives c ds r k d o a drive at there = gives a.tag (held_in c.device r.source) (held_in d.device 0) d drive a.full refl (marked c ds r.source k d o at there)

pub drive_receives : (c : UnitView) (ds : List UnitView) (r : Route) (k : ℕ) (d : UnitView) → IsOrdered c ds → IsAllowed c.device r → kind_of d.device ≡ kind.Drive → drive_at (drives_of c.device) r.destination ≡ Some (suc k) → slice_get ds k ≡ Some d → Receives d
drive_receives c ds r k d o a drive at there =
    receives (held_in d.device 0) d drive refl (subst (λ (m : Option VolumeTag). same_mark m (held_in d.device 0) ≡ true) a.empty (marked c ds r.destination k d o at there))

-- THE WAYS
abbrev pub carrying_fails : {X : Type 0} → Result X Condition → Bool
carrying_fails (Ok it) = false
carrying_fails (Err condition) = is_failure (Some (sense_for condition))

put_free : (r : Route) (d : UnitView) (o : Result DeviceView PutFault) → IsOk o → carrying_fails (put_down r d o) ≡ false
put_free r d (Ok after) ok = refl
put_free r d (Err fault) ok = absurd cc

pub unloaded_free : (c : DeviceView) (d : UnitView) (r : Route) → Gives (held_in c r.source) d → ((v : Volume) → IsOk (put c r.destination v)) → carrying_fails (unloaded c d r) ≡ false
unloaded_free c d r (inl prevented) room = ap (λ (g : Result (Volume × UnitView) Condition). carrying_fails (unloaded_by c r g)) prevented
unloaded_free c d r (inr it) room = ap (λ (g : Result (Volume × UnitView) Condition). carrying_fails (unloaded_by c r g)) it.1 ∙ put_free r it.0.1 (put c r.destination it.0.0) (room it.0.0)

taken_free : (d : UnitView) (r : Route) (o : Result (Volume × DeviceView) TakeFault) → IsOk o → Receives d → carrying_fails (loaded_by d r o) ≡ false
taken_free d r (Ok it) ok takes = ap (λ (e : Result UnitView Condition). carrying_fails (taken_up r it.0 it.1 e)) (takes it.0).1
taken_free d r (Err fault) ok takes = absurd cc

pub loaded_free : (c : DeviceView) (d : UnitView) (r : Route) → IsOk (taken c r.source) → Receives d → carrying_fails (loaded c d r) ≡ false
loaded_free c d r full takes = taken_free d r (taken c r.source) full takes

pub passed_free : (c : DeviceView) (g t : UnitView) (r : Route) → Gives (held_in c r.source) g → Receives t → carrying_fails (passed c g t r) ≡ false
passed_free c g t r (inl prevented) takes = ap (λ (x : Result (Volume × UnitView) Condition). carrying_fails (passed_by c t r x)) prevented
passed_free c g t r (inr it) takes =
    ap (λ (x : Result (Volume × UnitView) Condition). carrying_fails (passed_by c t r x)) it.1
    ∙ ap (λ (e : Result UnitView Condition). carrying_fails (handed c r it.0.0 it.0.1 e)) (takes it.0.0).1

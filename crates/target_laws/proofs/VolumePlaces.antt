-- Where the volumes of a target stand, where some of its units change.
use Rattle.std.proofs.Common.{◌≡◌, ◌≢◌, ◌+◌, ℕ, zero, suc, Bool, true, false, List, [], ◌∷◌, length, Option, Some, None, unwrap_or, refl, sym, ap, ◌∙◌, subst, arith, eq-eqb}
use Rattle.std.proofs.lemmas.List.{length-set}
use Rattle.std.specs.Prelude.{slice_get, slice_set}
use Rattle.scsi_cdb.specs.declared.kind.Kind.TheVariants as kind
use Rattle.tape_medium.specs.Elements.{Element}
use Rattle.tape_medium.specs.Elements as elements
use Rattle.tape_medium.specs.declared.volume.Volume.{Volume}
use Rattle.device_server.specs.View.{DeviceView, Drive, Changer, kind_of, profile_of, drives_of}
use Rattle.device_server.specs.Volumes.{volume_at, SameVolume, SameAt}
use Rattle.device_server.proofs.TapeLemmas.{same_volume}
use Rattle.judgement.specs.declared.reply.Reply.{Reply}
use Rattle.logical_unit.specs.Route.{drive_at}
use Rattle.logical_unit.specs.UnitView.{UnitView}
use Rattle.logical_unit.proofs.NamedDrives.{drive_within}
use Rattle.target_core.specs.declared.event.Event.{Event}
use Rattle.target_laws.specs.Volumes.{bay_of, volume_by, volume_in, lun_of, is_to, is_written, StaysSame}
use Rattle.target_laws.proofs.Agreement.{drive_element}
use Rattle.target_core.proofs.Places.{same_some}

-- an element is a drive's, or the changer's own
by_drive : (Q : Option Volume → Option Volume → Type 0) (c v : UnitView) (ds es : List UnitView) (address size : ℕ) (o : Option ℕ) → drive_at size address ≡ o
    → ((k : ℕ) → o ≡ Some (suc k) → Q (bay_of (slice_get ds k)) (bay_of (slice_get es k))) → (o ≡ None → Q (volume_at c.device address) (volume_at v.device address))
    → Q (volume_by (c ∷ ds) c address o) (volume_by (v ∷ es) v address o)
by_drive Q c v ds es address size (Some zero) is drives own = let w = drive_within size address zero is in absurd (omega (arith, w.0))
by_drive Q c v ds es address size (Some (suc k)) is drives own = drives k refl
by_drive Q c v ds es address size None is drives own = own refl

pub by_element : (Q : Option Volume → Option Volume → Type 0) (c v : UnitView) (ds es : List UnitView) (address : ℕ) → length es ≡ length ds
    → ((k : ℕ) → drive_at (length ds) address ≡ Some (suc k) → Q (bay_of (slice_get ds k)) (bay_of (slice_get es k))) → (drive_at (length ds) address ≡ None → Q (volume_at c.device address) (volume_at v.device address))
    → Q (volume_in (c ∷ ds) address) (volume_in (v ∷ es) address)
by_element Q c v ds es address size drives own =
    subst (λ n. Q (volume_in (c ∷ ds) address) (volume_by (v ∷ es) v address (drive_at n address))) (sym size)
    (by_drive Q c v ds es address (length ds) (drive_at (length ds) address) refl drives own)

pub at_drive : (c : UnitView) (ds : List UnitView) (address k : ℕ) (d : UnitView) → drive_at (length ds) address ≡ Some (suc k) → slice_get ds k ≡ Some d → volume_in (c ∷ ds) address ≡ volume_at d.device 0
at_drive c ds address k d at there = ap (volume_by (c ∷ ds) c address) at ∙ ap bay_of there

pub at_own : (c : UnitView) (ds : List UnitView) (address : ℕ) → drive_at (length ds) address ≡ None → volume_in (c ∷ ds) address ≡ volume_at c.device address
at_own c ds address at = ap (volume_by (c ∷ ds) c address) at

-- a data transfer element of a changer has no volume of the changer's own
abbrev pub volume_of : elements.Elements → Element → Option Volume
volume_of e x = unwrap_or (elements.held_in e x) None

no_volume : (device : DeviceView) (address l : ℕ) → kind_of device ≡ kind.Changer → drive_at (drives_of device) address ≡ Some l → volume_at device address ≡ None
no_volume (Drive d) address l k h = absurd cc
no_volume (Changer v) address zero k h = let w = drive_within (length v.elements.data_transfer) address zero h in absurd (omega (arith, w.0))
no_volume (Changer v) address (suc i) k h = ap (volume_of v.elements) (drive_element v.elements address i h)

own_by : (device : DeviceView) (address : ℕ) (v : Volume) (o : Option ℕ) → kind_of device ≡ kind.Changer → drive_at (drives_of device) address ≡ o → volume_at device address ≡ Some v → drive_at (drives_of device) address ≡ None
own_by device address v (Some l) k at held = let none = no_volume device address l k at in absurd cc
own_by device address v None k at held = at

pub own_place : (device : DeviceView) (address : ℕ) (v : Volume) → kind_of device ≡ kind.Changer → volume_at device address ≡ Some v → drive_at (drives_of device) address ≡ None
own_place device address v k held = own_by device address v (drive_at (drives_of device) address) k refl held

-- WHAT STAYS
pub stays : (to written : Bool) (o : Option Volume) → SameAt (StaysSame to written) o o
stays to written None = tt
stays false written (Some v) = refl
stays true false (Some v) = same_volume v
stays true true (Some v) = (same_volume v).cartridge

pub equal_stays : (to written : Bool) (before after : Option Volume) → after ≡ before → SameAt (StaysSame to written) before after
equal_stays to written before after is = subst (λ (x : Option Volume). SameAt (StaysSame to written) before x) (sym is) (stays to written before)

-- a drive takes the place of another
one_less : (a b : ℕ) → suc a ≡ suc b → a ≡ b
one_less a b e = cc

pub beside_set : (Q : Option Volume → Option Volume → Type 0) (ds : List UnitView) (k j : ℕ) (d e : UnitView) → slice_get ds k ≡ Some d → (j ≡ k → Q (volume_at d.device 0) (volume_at e.device 0))
    → (j ≢ k → Q (bay_of (slice_get ds j)) (bay_of (slice_get ds j))) → Q (bay_of (slice_get ds j)) (bay_of (slice_get (slice_set ds k e) j))
beside_set Q [] k j d e there same other = absurd cc
beside_set Q (z ∷ ds) zero zero d e there same other = subst (λ (u : UnitView). Q (volume_at u.device 0) (volume_at e.device 0)) (sym (same_some z d there)) (same refl)
beside_set Q (z ∷ ds) zero (suc j) d e there same other = other (λ p. absurd cc)
beside_set Q (z ∷ ds) (suc k) zero d e there same other = other (λ p. absurd cc)
beside_set Q (z ∷ ds) (suc k) (suc j) d e there same other = beside_set Q ds k j d e there (λ p. same (ap suc p)) (λ apart. other (λ p. apart (one_less j k p)))

-- ONE UNIT CHANGES. The changer, whose own volumes stay where they are
pub changer_same : (c v : UnitView) (ds : List UnitView) (address : ℕ) → v.device ≡ c.device → volume_in (v ∷ ds) address ≡ volume_in (c ∷ ds) address
changer_same c v ds address is = by_element (λ before after. after ≡ before) c v ds ds address refl (λ k at. refl) (λ none. ap (λ (device : DeviceView). volume_at device address) is)

-- or a drive, by an event to it
pub drive_keeps : (c : UnitView) (ds : List UnitView) (k : ℕ) (d x : UnitView) (e : Event) (r : Reply) → slice_get ds k ≡ Some d → lun_of e ≡ suc k → SameAt (StaysSame true (is_written (profile_of c.device) e r)) (volume_at d.device 0) (volume_at x.device 0)
    → (address : ℕ) → SameAt (StaysSame (is_to e address) (is_written (profile_of c.device) e r)) (volume_in (c ∷ ds) address) (volume_in (c ∷ slice_set ds k x) address)
drive_keeps c ds k d x e r there lun keeps address =
    let Q : Option Volume → Option Volume → Type 0 = SameAt (StaysSame (is_to e address) (is_written (profile_of c.device) e r)) in
    by_element Q c c ds (slice_set ds k x) address (length-set ds k x)
    (λ j at. beside_set Q ds k j d x there
    (λ same.
    let place = (drive_within (length ds) address (suc j) at).2 in
    let is : is_to e address ≡ true = eq-eqb address (lun_of e + 0xFF) (place ∙ ap (λ i. suc i + 0xFF) same ∙ ap (λ i. i + 0xFF) (sym lun)) in
    subst (λ to. SameAt (StaysSame to (is_written (profile_of c.device) e r)) (volume_at d.device 0) (volume_at x.device 0)) (sym is) keeps)
    (λ apart. stays (is_to e address) (is_written (profile_of c.device) e r) (bay_of (slice_get ds j))))
    (λ none. stays (is_to e address) (is_written (profile_of c.device) e r) (volume_at c.device address))

-- the same volume, seen before and after
pub record IsHeld (before : Option Volume) (v : Volume) : Type 0 where
  pub volume : Volume
  pub is : before ≡ Some volume
  pub same : SameVolume volume v

pub held : (o : Option Volume) (v : Volume) → SameAt SameVolume o (Some v) → IsHeld o v
held None v h = absurd h
held (Some x) v h = record { volume = x; is = refl; same = h }

pub same_on : (x v : Volume) (o : Option Volume) → SameVolume x v → SameAt SameVolume (Some v) o → SameAt SameVolume (Some x) o
same_on x v None first second = absurd second
same_on x v (Some w) first second = record {
  cartridge = record {
    tag = second.cartridge.tag ∙ first.cartridge.tag;
    protected = second.cartridge.protected ∙ first.cartridge.protected;
    capacity = second.cartridge.capacity ∙ first.cartridge.capacity;
  };
  objects = second.objects ∙ first.objects;
}

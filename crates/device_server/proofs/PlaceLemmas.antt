-- The places of a device where a volume goes in or out.
use Rattle.std.proofs.Common.{◌≡◌, ℕ, ◌+◌, ◌-◌, ◌==◌, Bool, true, false, List, length, set, get_or-set_same, get_or-set_other, length-set, Option, Some, None, unwrap_or, refl, sym, ap, ◌∙◌, subst, arith}
use Rattle.std.specs.Prelude.{cond, if◌then◌else◌, ◌≢◌}
use Rattle.std.proofs.lemmas.Bool.Decides.{nat_tests}
use Rattle.tape_medium.specs.declared.volume.VolumeTag.{VolumeTag}
use Rattle.tape_medium.specs.declared.volume.Volume.{Volume}
use Rattle.tape_medium.specs.Elements.{Elements, Element, Transport, DataTransfer, ImportExport, Storage, Nowhere, is_among, first_data_transfer, first_import_export, first_storage, element_at, held_in, holding}
use Rattle.tape_medium.proofs.ElementLemmas.{element_at-holding, IsWithin, element_at-within}
use Rattle.device_server.specs.Drive.{rewound}
use Rattle.device_server.specs.View.{DeviceView, Drive, Changer}
use Rattle.device_server.specs.Volumes.{volume_at, SameVolume, SameAt, GoesOut, GoesIn, TakesOne, PutsOne, MarksMoveNothing, JourneysMoveNothing, ExchangesThatAreNotedMoveNothing}
use Rattle.device_server.proofs.InAndOut.{drive_taken, drive_put, changer_taken, changer_put, marked_one}
use Rattle.device_server.proofs.TapeLemmas.{same_volume, rewound_same}

-- WHAT AN ADDRESS NAMES

-- a storage or import/export element has its number behind its type's first address
abbrev IsNamed : Element → (address : ℕ) → Type 0
IsNamed (ImportExport i) address = address ≡ first_import_export + i
IsNamed (Storage i) address = address ≡ first_storage + i
IsNamed at address = Unit {0}

among_named : (first count address : ℕ) → is_among first count address ≡ true → address ≡ first + (address - first)
among_named first count address h = grind (arith, nat_tests)

chosen_named : (address i j k : ℕ) (transport drive port slot : Bool) → (port ≡ true → address ≡ first_import_export + j) → (slot ≡ true → address ≡ first_storage + k)
    → IsNamed (if transport then Transport else if drive then DataTransfer i else if port then ImportExport j else if slot then Storage k else Nowhere) address
chosen_named address i j k true drive port slot second third = tt
chosen_named address i j k false true port slot second third = tt
chosen_named address i j k false false true slot second third = second refl
chosen_named address i j k false false false true second third = third refl
chosen_named address i j k false false false false second third = tt

element_named : (e : Elements) (address : ℕ) → IsNamed (element_at e address) address
element_named e address =
    chosen_named address (address - first_data_transfer) (address - first_import_export) (address - first_storage)
    (address == 0) (is_among first_data_transfer (length e.data_transfer) address)
    (is_among first_import_export (length e.import_export) address) (is_among first_storage (length e.storage) address)
    (among_named first_import_export (length e.import_export) address) (among_named first_storage (length e.storage) address)

-- WHAT ONE ELEMENT HOLDS is set, and the others hold what they held

set_here : (e : Elements) (at : Element) (old held : Option Volume) → IsWithin e at → held_in e at ≡ Some old → held_in (holding e at held) at ≡ Some held
set_here e Transport old held within h = cc
set_here e (DataTransfer i) old held within h = cc
set_here e (ImportExport i) old held within h = ap Some (get_or-set_same e.import_export i held None within)
set_here e (Storage i) old held within h = ap Some (get_or-set_same e.storage i held None within)
set_here e Nowhere old held within h = cc

set_others : (e : Elements) (at other : Element) (a b : ℕ) (held : Option Volume) → IsNamed at a → IsNamed other b → b ≢ a → held_in (holding e at held) other ≡ held_in e other
set_others e Transport other a b held at_a at_b ne = refl
set_others e (DataTransfer i) other a b held at_a at_b ne = refl
set_others e Nowhere other a b held at_a at_b ne = refl
set_others e (ImportExport i) Transport a b held at_a at_b ne = refl
set_others e (ImportExport i) (DataTransfer j) a b held at_a at_b ne = refl
set_others e (ImportExport i) (ImportExport j) a b held at_a at_b ne = let apart : j ≢ i = omega arith in ap Some (get_or-set_other e.import_export i j held None apart)
set_others e (ImportExport i) (Storage j) a b held at_a at_b ne = refl
set_others e (ImportExport i) Nowhere a b held at_a at_b ne = refl
set_others e (Storage i) Transport a b held at_a at_b ne = refl
set_others e (Storage i) (DataTransfer j) a b held at_a at_b ne = refl
set_others e (Storage i) (ImportExport j) a b held at_a at_b ne = refl
set_others e (Storage i) (Storage j) a b held at_a at_b ne = let apart : j ≢ i = omega arith in ap Some (get_or-set_other e.storage i j held None apart)
set_others e (Storage i) Nowhere a b held at_a at_b ne = refl

-- and what is noted of the drives stays
pub holding_drives : (e : Elements) (at : Element) (held : Option Volume) → (holding e at held).data_transfer ≡ e.data_transfer
holding_drives e Transport held = refl
holding_drives e (DataTransfer i) held = refl
holding_drives e (ImportExport i) held = refl
holding_drives e (Storage i) held = refl
holding_drives e Nowhere held = refl

-- what the element with an address holds, where one element is set
abbrev pub held_at : Elements → (place : ℕ) → Option (Option Volume)
held_at e place = held_in e (element_at e place)

pub held_here : (e : Elements) (place : ℕ) (old held : Option Volume) → held_at e place ≡ Some old → held_at (holding e (element_at e place) held) place ≡ Some held
held_here e place old held h =
    let at = element_at e place in
    ap (held_in (holding e at held)) (element_at-holding e at held place) ∙ set_here e at old held (element_at-within e place) h

pub held_others : (e : Elements) (place other : ℕ) (held : Option Volume) → other ≢ place → held_at (holding e (element_at e place) held) other ≡ held_at e other
held_others e place other held ne =
    let at = element_at e place in
    ap (held_in (holding e at held)) (element_at-holding e at held other)
    ∙ set_others e at (element_at e other) place other held (element_named e place) (element_named e other) ne

-- the same of the places of a changer
abbrev pub volume_in : Elements → (place : ℕ) → Option Volume
volume_in e place = unwrap_or (held_in e (element_at e place)) None

pub record IsSet (before after : Elements) (place : ℕ) (held : Option Volume) : Type 0 where
  pub here : volume_in after place ≡ held
  pub others : (other : ℕ) → other ≢ place → volume_in after other ≡ volume_in before other

pub sets : (e : Elements) (place : ℕ) (old held : Option Volume) → held_in e (element_at e place) ≡ Some old → IsSet e (holding e (element_at e place) held) place held
sets e place old held h =
    record {
      here = ap (λ (x : Option (Option Volume)). unwrap_or x None) (held_here e place old held h);
      others = λ other ne. ap (λ (x : Option (Option Volume)). unwrap_or x None) (held_others e place other held ne);
    }

-- VOLUMES IN AND OUT

elsewhere_is : (place : ℕ) → place ≢ 0 → (place == 0) ≡ false
elsewhere_is place ne = grind (arith, nat_tests)

-- a drive has nothing but at place 0
elsewhere : (x y : Option Volume) (place : ℕ) → place ≢ 0 → cond (place == 0) x None ≡ cond (place == 0) y None
elsewhere x y place ne = rw (elsewhere_is place ne) refl

pub takes_one : TakesOne
takes_one (Drive d) after place v h =
    let out = drive_taken d place v after h in
    subst (λ (x : ℕ). GoesOut (Drive d) after x v) out.is_zero
    (subst (λ (x : DeviceView). GoesOut (Drive d) x 0 v) out.left (record {
      full = subst (λ (x : Option Volume). SameAt SameVolume x (Some v)) (sym out.full) (subst (λ (x : Volume). SameVolume out.held x) out.volume (rewound_same out.held));
      empty = refl;
      others = elsewhere None d.bay;
    }))
takes_one (Changer c) after place v h =
    let out = changer_taken c place v after h in
    let set = sets c.elements place (Some v) None out.full in
    subst (λ (x : DeviceView). GoesOut (Changer c) x place v) out.left (record {
      full = subst (λ (x : Option (Option Volume)). SameAt SameVolume (unwrap_or x None) (Some v)) (sym out.full) (same_volume v);
      empty = set.here;
      others = set.others;
    })

pub puts_one : PutsOne
puts_one (Drive d) after place v h =
    let into = drive_put d place v after h in
    subst (λ (x : ℕ). GoesIn (Drive d) after x v) into.is_zero
    (subst (λ (x : DeviceView). GoesIn (Drive d) x 0 v) into.left (record { empty = into.empty; full = rewound_same v; others = elsewhere (Some (rewound v)) d.bay }))
puts_one (Changer c) after place v h =
    let into = changer_put c place v after h in
    let set = sets c.elements place None (Some v) into.empty in
    subst (λ (x : DeviceView). GoesIn (Changer c) x place v) into.left (record {
      empty = ap (λ x. unwrap_or x None) into.empty;
      full = subst (λ (x : Option Volume). SameAt SameVolume (Some v) x) (sym set.here) (same_volume v);
      others = set.others;
    })

-- A MARK

note_names : (e : Elements) (i : ℕ) (tag : Option VolumeTag) (address : ℕ) → element_at (record e { data_transfer = set e.data_transfer i tag }) address ≡ element_at e address
note_names e i tag address = simp length-set

note_holds : (e : Elements) (tags : List (Option VolumeTag)) (at : Element) → held_in (record e { data_transfer = tags }) at ≡ held_in e at
note_holds e tags Transport = refl
note_holds e tags (DataTransfer i) = refl
note_holds e tags (ImportExport i) = refl
note_holds e tags (Storage i) = refl
note_holds e tags Nowhere = refl

pub held_noted : (e : Elements) (i : ℕ) (tag : Option VolumeTag) (place : ℕ) → held_at (record e { data_transfer = set e.data_transfer i tag }) place ≡ held_at e place
held_noted e i tag place =
    let noted : Elements = record e { data_transfer = set e.data_transfer i tag } in
    ap (held_in noted) (note_names e i tag place) ∙ note_holds e noted.data_transfer (element_at e place)

pub marks_move_nothing : MarksMoveNothing
marks_move_nothing (Drive d) after place tag h other = absurd cc
marks_move_nothing (Changer c) after place tag h other =
    let i : ℕ = place - first_data_transfer in
    let e : Elements = c.elements in
    let noted : Elements = record e { data_transfer = set e.data_transfer i tag } in
    subst (λ (x : DeviceView). volume_at x other ≡ volume_at (Changer c) other) (marked_one c place tag after h).rest
    (ap (λ at. unwrap_or (held_in noted at) None) (note_names e i tag other) ∙ ap (λ held. unwrap_or held None) (note_holds e noted.data_transfer (element_at e other)))

pub journeys_move_nothing : JourneysMoveNothing
journeys_move_nothing (Drive d) source destination other = refl
journeys_move_nothing (Changer c) source destination other = refl

pub exchanges_that_are_noted_move_nothing : ExchangesThatAreNotedMoveNothing
exchanges_that_are_noted_move_nothing (Drive d) source first second other = refl
exchanges_that_are_noted_move_nothing (Changer c) source first second other = refl

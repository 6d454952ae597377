-- The exchange of two volumes among a changer's own elements, by its steps.
use Rattle.std.proofs.Common.{◌≡◌, ℕ, ◌==◌, ◌-◌, Bool, true, false, List, [], ◌∷◌, IsPermutation, length, Option, Some, None, Result, Ok, Err, unwrap_or, is_some, option_map, refl, sym, ap, ◌∙◌, subst, arith}
use Rattle.std.specs.Prelude.{cond, ◌≢◌, ◌&&◌, ◌||◌, not, if◌then◌else◌, IsOk}
use Rattle.std.proofs.lemmas.Bool.{eqb-true}
use Rattle.std.proofs.lemmas.Bool.Decides.{nat_tests}
use Rattle.std.proofs.lemmas.List.Sorted.{IsPermutation-cons, IsPermutation-middle, IsPermutation-trans}
use Rattle.tape_medium.specs.declared.volume.VolumeTag.{VolumeTag}
use Rattle.tape_medium.specs.declared.volume.Volume.{Volume}
use Rattle.tape_medium.specs.declared.elements.MapFault.{MapFault}
use Rattle.tape_medium.specs.declared.elements.MapFault.TheVariants.{BadAddress}
use Rattle.tape_medium.specs.Elements.{Elements, Element, Transport, DataTransfer, ImportExport, Storage, Nowhere, is_among, first_data_transfer, first_import_export, first_storage, element_at, tag_of, tag_held, held_in, holding, taken, put, takes, puts}
use Rattle.tape_medium.specs.Volumes.{volumes}
use Rattle.tape_medium.proofs.VolumeLemmas.{takes_one, adds_one}
use Rattle.element_map.specs.Exchange.{is_drives, are_two_drives, is_exchange, has_drive, fullness, exchange_refused, exchange_refusal, second_put, both_put, first_taken, exchanges}
use Rattle.scsi_sense.specs.declared.condition.Condition.TheVariants.{InternalTargetFailure}
use Rattle.device_server.specs.declared.host_changer.HostChanger.{HostChanger}
use Rattle.device_server.specs.HostChanger.{ChangerView, host_exchanged_alone, host_exchanged}
use Rattle.device_server.specs.Outcomes.{refused}
use Rattle.device_server.proofs.PlaceLemmas.{volume_in, held_at, held_here, held_others, IsSet, sets, holding_drives}

-- ONE STEP: what it found, and what it left

pub record IsTaken (e : Elements) (place : ℕ) (v : Volume) (after : Elements) : Type 0 where
  pub full : held_at e place ≡ Some (Some v)
  pub left : holding e (element_at e place) None ≡ after

pub record IsPut (e : Elements) (place : ℕ) (v : Volume) (after : Elements) : Type 0 where
  pub empty : held_at e place ≡ Some None
  pub left : holding e (element_at e place) (Some v) ≡ after

taken_by : (e : Elements) (place : ℕ) (held : Option (Option Volume)) (v : Volume) (after : Elements) → held_at e place ≡ held
    → taken e (element_at e place) held ≡ Ok (after, v) → IsTaken e place v after
taken_by e place None v after is h = absurd cc
taken_by e place (Some None) v after is h = absurd cc
taken_by e place (Some (Some w)) v after is h =
    let both : (holding e (element_at e place) None, w) ≡ (after, v) = cc in
    record { full = is ∙ ap (λ (x : Elements × Volume). Some (Some x.1)) both; left = ap (λ (x : Elements × Volume). x.0) both }

put_by : (e : Elements) (place : ℕ) (held : Option (Option Volume)) (v : Volume) (after : Elements) → held_at e place ≡ held
    → put e (element_at e place) v held ≡ Ok after → IsPut e place v after
put_by e place None v after is h = absurd cc
put_by e place (Some (Some w)) v after is h = absurd cc
put_by e place (Some None) v after is h = record { empty = is; left = cc }

is_taken : (e : Elements) (place : ℕ) (v : Volume) (after : Elements) → takes e place ≡ Ok (after, v) → IsTaken e place v after
is_taken e place v after h = taken_by e place (held_at e place) v after refl h

is_put : (e : Elements) (place : ℕ) (v : Volume) (after : Elements) → puts e place v ≡ Ok after → IsPut e place v after
is_put e place v after h = put_by e place (held_at e place) v after refl h

-- the other way round
takes_full : (e : Elements) (place : ℕ) (v : Volume) → held_at e place ≡ Some (Some v) → takes e place ≡ Ok (holding e (element_at e place) None, v)
takes_full e place v is = ap (taken e (element_at e place)) is

puts_empty : (e : Elements) (place : ℕ) (v : Volume) → held_at e place ≡ Some None → puts e place v ≡ Ok (holding e (element_at e place) (Some v))
puts_empty e place v is = ap (put e (element_at e place) v) is

-- ALL STEPS of an exchange that is done

pub record IsExchanged (e : Elements) (source first second : ℕ) (after : Elements) : Type 0 where
  pub one : Volume
  pub other : Volume
  pub without_one : Elements
  pub without_both : Elements
  pub with_one : Elements
  pub take_source : IsTaken e source one without_one
  pub take_first : IsTaken without_one first other without_both
  pub put_first : IsPut without_both first one with_one
  pub put_second : IsPut with_one second other after
  pub all : IsPermutation (volumes e) (volumes after)

same_volumes : (e e1 e2 e3 after : Elements) (one other : Volume) → IsPermutation (volumes e) (one ∷ volumes e1) → IsPermutation (volumes e1) (other ∷ volumes e2)
    → IsPermutation (one ∷ volumes e2) (volumes e3) → IsPermutation (other ∷ volumes e3) (volumes after) → IsPermutation (volumes e) (volumes after)
same_volumes e e1 e2 e3 after one other a b c d =
    IsPermutation-trans (volumes e) (one ∷ volumes e1) (volumes after) a
    (IsPermutation-trans (one ∷ volumes e1) (one ∷ other ∷ volumes e2) (volumes after) (IsPermutation-cons one (volumes e1) (other ∷ volumes e2) b)
    (IsPermutation-trans (one ∷ other ∷ volumes e2) (other ∷ one ∷ volumes e2) (volumes after) (IsPermutation-middle (one ∷ []) other (volumes e2))
    (IsPermutation-trans (other ∷ one ∷ volumes e2) (other ∷ volumes e3) (volumes after) (IsPermutation-cons other (one ∷ volumes e2) (volumes e3) c) d)))

to_second : (e e1 e2 after : Elements) (source first second : ℕ) (one other : Volume) (r : Result Elements MapFault) → takes e source ≡ Ok (e1, one) → takes e1 first ≡ Ok (e2, other)
    → puts e2 first one ≡ r → second_put second other r ≡ Ok after → IsExchanged e source first second after
to_second e e1 e2 after source first second one other (Err fault) a b c h = absurd cc
to_second e e1 e2 after source first second one other (Ok e3) a b c h = record {
  one = one;
  other = other;
  without_one = e1;
  without_both = e2;
  with_one = e3;
  take_source = is_taken e source one e1 a;
  take_first = is_taken e1 first other e2 b;
  put_first = is_put e2 first one e3 c;
  put_second = is_put e3 second other after h;
  all = same_volumes e e1 e2 e3 after one other (takes_one e e1 source one a) (takes_one e1 e2 first other b) (adds_one e2 e3 first one c) (adds_one e3 after second other h);
}

to_both : (e e1 after : Elements) (source first second : ℕ) (one : Volume) (r : Result (Elements × Volume) MapFault) → takes e source ≡ Ok (e1, one) → takes e1 first ≡ r
    → both_put first second one r ≡ Ok after → IsExchanged e source first second after
to_both e e1 after source first second one (Err fault) a b h = absurd cc
to_both e e1 after source first second one (Ok it) a b h = to_second e e1 it.0 after source first second one it.1 (puts it.0 first one) a b refl h

to_first : (e after : Elements) (source first second : ℕ) (r : Result (Elements × Volume) MapFault) → takes e source ≡ r → first_taken first second r ≡ Ok after
    → IsExchanged e source first second after
to_first e after source first second (Err fault) a h = absurd cc
to_first e after source first second (Ok it) a h = to_both e it.0 after source first second it.1 (takes it.0 first) a refl h

pub exchanged_by : (e after : Elements) (source first second : ℕ) → exchanges e source first second ≡ Ok after → IsExchanged e source first second after
exchanged_by e after source first second h = to_first e after source first second (takes e source) refl h

-- NO DRIVE is among the addresses then: a drive's element holds no volume

pub drives_name : (e : Elements) (address : ℕ) → is_drives e address ≡ true → element_at e address ≡ DataTransfer (address - first_data_transfer)
drives_name e address is =
    let elsewhere : (address == 0) ≡ false = grind (arith, nat_tests) in
    rw (elsewhere, is) refl

drives_hold : (e : Elements) (address : ℕ) (held : Option Volume) → held_at e address ≡ Some held → is_drives e address ≡ true → ⊥
drives_hold e address held is drive =
    let none : held_at e address ≡ None = ap (held_in e) (drives_name e address drive) in
    cc

no_drive : (e : Elements) (address : ℕ) (held : Option Volume) → held_at e address ≡ Some held → is_drives e address ≡ false
no_drive e address held is =
    (elim (is_drives e address) as (λ (b : Bool). is_drives e address ≡ b → is_drives e address ≡ false) [
      | true ↦ λ drive. absurd (drives_hold e address held is drive)
      | false ↦ λ none. none
    ]) refl

-- the drives are the same after a step
pub same_drives : (e after : Elements) (at : Element) (held : Option Volume) (address : ℕ) → holding e at held ≡ after → is_drives after address ≡ is_drives e address
same_drives e after at held address is =
    ap (λ (x : Elements). is_drives x address) (sym is)
    ∙ ap (λ (tags : List (Option VolumeTag)). is_among first_data_transfer (length tags) address) (holding_drives e at held)

pub exchanged_drives : (e after : Elements) (source first second : ℕ) → exchanges e source first second ≡ Ok after → after.data_transfer ≡ e.data_transfer
exchanged_drives e after source first second h =
    let x = exchanged_by e after source first second h in
    let drives : Elements → List (Option VolumeTag) = λ y. y.data_transfer in
    sym (ap drives x.put_second.left) ∙ holding_drives x.with_one (element_at x.with_one second) (Some x.other)
    ∙ sym (ap drives x.put_first.left) ∙ holding_drives x.without_both (element_at x.without_both first) (Some x.one)
    ∙ sym (ap drives x.take_first.left) ∙ holding_drives x.without_one (element_at x.without_one first) None
    ∙ sym (ap drives x.take_source.left) ∙ holding_drives e (element_at e source) None

pub exchanged_alone : (e after : Elements) (source first second : ℕ) → exchanges e source first second ≡ Ok after → has_drive e source first second ≡ false
exchanged_alone e after source first second h =
    let x = exchanged_by e after source first second h in
    let at_source : is_drives e source ≡ false = no_drive e source (Some x.one) x.take_source.full in
    let at_first : is_drives e first ≡ false =
    sym (same_drives e x.without_one (element_at e source) None first x.take_source.left) ∙ no_drive x.without_one first (Some x.other) x.take_first.full in
    let at_second : is_drives e second ≡ false =
    sym (same_drives e x.without_one (element_at e source) None second x.take_source.left)
    ∙ sym (same_drives x.without_one x.without_both (element_at x.without_one first) None second x.take_first.left)
    ∙ sym (same_drives x.without_both x.with_one (element_at x.without_both first) (Some x.one) second x.put_first.left)
    ∙ no_drive x.with_one second None x.put_second.empty in
    rw (at_source, at_first, at_second) refl

-- WHERE NOTHING REFUSES IT, and no drive is among the addresses, it is done

-- what an element that isn't a drive's holds, by whether it is full
IsFull : Elements → (address : ℕ) → Option Bool → Type 0
IsFull e address None = Unit {0}
IsFull e address (Some false) = held_at e address ≡ Some None
IsFull e address (Some true) = (v : Volume) × (held_at e address ≡ Some (Some v))

full_by : (e : Elements) (address : ℕ) (o : Option Volume) → held_at e address ≡ Some o → IsFull e address (Some (is_some (tag_of o)))
unfolding IsFull
full_by e address None is = is
full_by e address (Some v) is = (v, is)

is_transfer : Element → Bool
is_transfer (DataTransfer i) = true
is_transfer at = false

full_at : (e : Elements) (address : ℕ) (at : Element) → element_at e address ≡ at → is_transfer at ≡ false → IsFull e address (option_map is_some (tag_held e at))
unfolding IsFull is_transfer
full_at e address Transport is other = tt
full_at e address Nowhere is other = tt
full_at e address (DataTransfer i) is other = absurd cc
full_at e address (ImportExport i) is other = full_by e address _ (ap (held_in e) is)
full_at e address (Storage i) is other = full_by e address _ (ap (held_in e) is)

chosen_transfer : (i j k : ℕ) (transport drive port slot : Bool) → drive ≡ false
    → is_transfer (if transport then Transport else if drive then DataTransfer i else if port then ImportExport j else if slot then Storage k else Nowhere) ≡ false
unfolding is_transfer
chosen_transfer i j k transport true port slot none = absurd cc
chosen_transfer i j k true false port slot none = refl
chosen_transfer i j k false false true slot none = refl
chosen_transfer i j k false false false true none = refl
chosen_transfer i j k false false false false none = refl

full : (e : Elements) (address : ℕ) → is_drives e address ≡ false → IsFull e address (fullness e address)
full e address none =
    full_at e address (element_at e address) refl
    (chosen_transfer (address - first_data_transfer) (address - first_import_export) (address - first_storage) (address == 0)
    (is_among first_data_transfer (length e.data_transfer) address) (is_among first_import_export (length e.import_export) address)
    (is_among first_storage (length e.storage) address) none)

-- at addresses that are no drive's, the volumes at the source and at the first destination; the second destination is empty, or the source.
-- There is one drive at most
pub record MayExchange (e : Elements) (source first second : ℕ) : Type 0 where
  pub not_source : first ≢ source
  pub not_first : second ≢ first
  pub full_source : is_drives e source ≡ false → (v : Volume) × (held_at e source ≡ Some (Some v))
  pub full_first : is_drives e first ≡ false → (v : Volume) × (held_at e first ≡ Some (Some v))
  pub empty_second : is_drives e second ≡ false → second ≢ source → held_at e second ≡ Some None
  pub source_alone : is_drives e source ≡ true → is_drives e first ≡ false
  pub first_alone : is_drives e first ≡ true → is_drives e second ≡ false

other_number : (a b : ℕ) → (a == b) ≡ false → b ≢ a
other_number a b is = grind (arith, nat_tests)

-- the parts of a way that an exchange may go
record IsWay (e : Elements) (source first second : ℕ) : Type 0 where
  not_source : first ≢ source
  not_first : second ≢ first
  source_alone : is_drives e source ≡ true → is_drives e first ≡ false
  first_alone : is_drives e first ≡ true → is_drives e second ≡ false

alone_by : (p q same : Bool) → same ≡ false → (p && q && not same) ≡ false → p ≡ true → q ≡ false
alone_by true true false is h on = absurd cc
alone_by true false same is h on = refl
alone_by false q same is h on = absurd cc
alone_by true true true is h on = absurd cc

none_of_three : (a b c : Bool) → (a || b || c) ≡ false → (a ≡ false) × ((b ≡ false) × (c ≡ false))
none_of_three false false false h = (refl, (refl, refl))
none_of_three true b c h = absurd cc
none_of_three false true c h = absurd cc
none_of_three false false true h = absurd cc

none_named : (a b c : Bool) → (a || (b || c)) ≡ false → (a ≡ false) × ((b ≡ false) × (c ≡ false))
none_named false false false h = (refl, (refl, refl))
none_named true b c h = absurd cc
none_named false true c h = absurd cc
none_named false false true h = absurd cc

not_true : (b : Bool) → not b ≡ true → b ≡ false
not_true false h = refl
not_true true h = absurd cc

way_by : (e : Elements) (source first second : ℕ) (a b : Bool) → (source == first) ≡ a → (first == second) ≡ b
    → (not a && not b && not (are_two_drives e source first || are_two_drives e first second || are_two_drives e source second)) ≡ true → IsWay e source first second
way_by e source first second true b is_a is_b h = absurd cc
way_by e source first second false true is_a is_b h = absurd cc
way_by e source first second false false is_a is_b h =
    let none = none_of_three (are_two_drives e source first) (are_two_drives e first second) (are_two_drives e source second) (not_true _ h) in
    record {
      not_source = other_number source first is_a;
      not_first = other_number first second is_b;
      source_alone = alone_by (is_drives e source) (is_drives e first) (source == first) is_a none.0;
      first_alone = alone_by (is_drives e first) (is_drives e second) (first == second) is_b none.1.0;
    }

may_by : (e : Elements) (source first second : ℕ) (p q r : Option Bool) (same : Bool) → (source == second) ≡ same → IsWay e source first second
    → (is_drives e source ≡ false → IsFull e source p) → (is_drives e first ≡ false → IsFull e first q) → (is_drives e second ≡ false → IsFull e second r)
    → exchange_refused p q r same ≡ None → MayExchange e source first second
unfolding IsFull
may_by e source first second None q r same is way x y z h = absurd cc
may_by e source first second (Some p) None r same is way x y z h = absurd cc
may_by e source first second (Some p) (Some q) None same is way x y z h = absurd cc
may_by e source first second (Some false) (Some q) (Some r) same is way x y z h = absurd cc
may_by e source first second (Some true) (Some false) (Some r) same is way x y z h = absurd cc
may_by e source first second (Some true) (Some true) (Some true) false is way x y z h = absurd cc
may_by e source first second (Some true) (Some true) (Some true) true is way x y z h = record {
  not_source = way.not_source;
  not_first = way.not_first;
  full_source = x;
  full_first = y;
  empty_second = λ none apart. absurd (apart (sym (eqb-true source second is)));
  source_alone = way.source_alone;
  first_alone = way.first_alone;
}
may_by e source first second (Some true) (Some true) (Some false) same is way x y z h = record {
  not_source = way.not_source;
  not_first = way.not_first;
  full_source = x;
  full_first = y;
  empty_second = λ none apart. z none;
  source_alone = way.source_alone;
  first_alone = way.first_alone;
}

record NothingRefuses (e : Elements) (source first second : ℕ) : Type 0 where
  way : is_exchange e source first second ≡ true
  full : exchange_refused (fullness e source) (fullness e first) (fullness e second) (source == second) ≡ None

nothing_by : (e : Elements) (source first second : ℕ) (transport way : Bool) → is_exchange e source first second ≡ way
    → (if transport && way then exchange_refused (fullness e source) (fullness e first) (fullness e second) (source == second) else Some BadAddress) ≡ None
    → NothingRefuses e source first second
nothing_by e source first second true true is h = record { way = is; full = h }
nothing_by e source first second true false is h = absurd cc
nothing_by e source first second false way is h = absurd cc

pub may_exchange : (e : Elements) (transport source first second : ℕ) → exchange_refusal e transport source first second ≡ None → MayExchange e source first second
may_exchange e transport source first second h =
    let nothing = nothing_by e source first second (transport == 0) (is_exchange e source first second) refl h in
    let way = way_by e source first second (source == first) (first == second) refl refl nothing.way in
    may_by e source first second (fullness e source) (fullness e first) (fullness e second) (source == second) refl way (full e source) (full e first) (full e second) nothing.full

-- the second destination is empty once the source is
pub second_empty : (e : Elements) (source first second : ℕ) (v : Volume) → MayExchange e source first second → held_at e source ≡ Some (Some v) → is_drives e second ≡ false
    → held_at (holding e (element_at e source) None) second ≡ Some None
second_empty e source first second v m full_so none =
    (elim (source == second) as (λ (b : Bool). (source == second) ≡ b → held_at (holding e (element_at e source) None) second ≡ Some None) [
      | true ↦ λ is. subst (λ (place : ℕ). held_at (holding e (element_at e source) None) place ≡ Some None) (eqb-true source second is)
          (held_here e source (Some v) None full_so)
      | false ↦ λ is. let apart : second ≢ source = other_number source second is in held_others e source second None apart ∙ m.empty_second none apart
    ]) refl

pub exchanges_done : (e : Elements) (transport source first second : ℕ) → exchange_refusal e transport source first second ≡ None → has_drive e source first second ≡ false
    → (after : Elements) × (exchanges e source first second ≡ Ok after)
exchanges_done e transport source first second h alone =
    let m = may_exchange e transport source first second h in
    let none = none_named (is_drives e source) (is_drives e first) (is_drives e second) alone in
    let one = m.full_source none.0 in
    let other = m.full_first none.1.0 in
    let e1 : Elements = holding e (element_at e source) None in
    let e2 : Elements = holding e1 (element_at e1 first) None in
    let e3 : Elements = holding e2 (element_at e2 first) (Some one.0) in
    let first_held : held_at e1 first ≡ Some (Some other.0) = held_others e source first None m.not_source ∙ other.1 in
    let first_free : held_at e2 first ≡ Some None = held_here e1 first (Some other.0) None first_held in
    let second_free : held_at e3 second ≡ Some None =
    held_others e2 first second (Some one.0) m.not_first ∙ held_others e1 first second None m.not_first ∙ second_empty e source first second one.0 m one.1 none.1.1 in
    let a : takes e source ≡ Ok (e1, one.0) = takes_full e source one.0 one.1 in
    let b : takes e1 first ≡ Ok (e2, other.0) = takes_full e1 first other.0 first_held in
    let c : puts e2 first one.0 ≡ Ok e3 = puts_empty e2 first one.0 first_free in (
      holding e3 (element_at e3 second) (Some other.0),
      ap (first_taken first second) a ∙ ap (both_put first second one.0) b ∙ ap (second_put second other.0) c ∙ puts_empty e3 second other.0 second_free,
    )

pub exchanges_alone : (e : Elements) (transport source first second : ℕ) → exchange_refusal e transport source first second ≡ None → has_drive e source first second ≡ false
    → IsOk (exchanges e source first second)
exchanges_alone e transport source first second h alone =
    let does = exchanges_done e transport source first second h alone in
    subst (λ (r : Result Elements MapFault). IsOk r) (sym does.1) refl

-- with a drive it isn't one for the changer alone
abbrev left_with : ChangerView → HostChanger → (source first second : ℕ) → Result Elements MapFault → Type 0
left_with c h source first second r = host_exchanged_alone c h source first second r ≡ (c, refused InternalTargetFailure)

pub left_to_drive : (c : ChangerView) (h : HostChanger) (transport source first second : ℕ) → exchange_refusal c.elements transport source first second ≡ None
    → has_drive c.elements source first second ≡ true
    → host_exchanged c h source first second (exchange_refusal c.elements transport source first second) ≡ (c, refused InternalTargetFailure)
left_to_drive c h transport source first second free drive =
    ap (host_exchanged c h source first second) free
    ∙ (elim (exchanges c.elements source first second) as (λ (r : Result Elements MapFault). exchanges c.elements source first second ≡ r → left_with c h source first second r) [
      | Ok after ↦ λ is. let none : has_drive c.elements source first second ≡ false = exchanged_alone c.elements after source first second is in absurd cc
      | Err fault ↦ λ is. refl
    ]) refl

-- WHERE THE VOLUMES ARE

pub record Crosses (e after : Elements) (source first second : ℕ) : Type 0 where
  pub one : Volume
  pub other : Volume
  pub not_source : source ≢ first
  pub not_first : first ≢ second
  pub full : volume_in e source ≡ Some one
  pub first_full : volume_in e first ≡ Some other
  pub empty : second ≢ source → volume_in e second ≡ None
  pub left : second ≢ source → volume_in after source ≡ None
  pub first_there : volume_in after first ≡ Some one
  pub there : volume_in after second ≡ Some other
  pub others : (place : ℕ) → place ≢ source → place ≢ first → place ≢ second → volume_in after place ≡ volume_in e place
  pub all : IsPermutation (volumes e) (volumes after)

take_sets : (e : Elements) (place : ℕ) (v : Volume) (after : Elements) → IsTaken e place v after → IsSet e after place None
take_sets e place v after t = subst (λ (x : Elements). IsSet e x place None) t.left (sets e place (Some v) None t.full)

put_sets : (e : Elements) (place : ℕ) (v : Volume) (after : Elements) → IsPut e place v after → IsSet e after place (Some v)
put_sets e place v after p = subst (λ (x : Elements). IsSet e x place (Some v)) p.left (sets e place None (Some v) p.empty)

held_volume : (e : Elements) (place : ℕ) (held : Option Volume) → held_at e place ≡ Some held → volume_in e place ≡ held
held_volume e place held is = ap (λ (x : Option (Option Volume)). unwrap_or x None) is

pub crosses : (e after : Elements) (source first second : ℕ) → exchanges e source first second ≡ Ok after → Crosses e after source first second
crosses e after source first second h =
    let x = exchanged_by e after source first second h in
    let s1 = take_sets e source x.one x.without_one x.take_source in
    let s2 = take_sets x.without_one first x.other x.without_both x.take_first in
    let s3 = put_sets x.without_both first x.one x.with_one x.put_first in
    let s4 = put_sets x.with_one second x.other after x.put_second in
    let first_then : volume_in x.without_one first ≡ Some x.other = held_volume x.without_one first (Some x.other) x.take_first.full in
    let second_then : volume_in x.with_one second ≡ None = held_volume x.with_one second None x.put_second.empty in
    let not_source : source ≢ first = λ same.
    let gone : volume_in x.without_one first ≡ None = subst (λ (p : ℕ). volume_in x.without_one p ≡ None) same s1.here in
    cc in
    let not_first : first ≢ second = λ same.
    let there : volume_in x.with_one second ≡ Some x.one = subst (λ (p : ℕ). volume_in x.with_one p ≡ Some x.one) same s3.here in
    cc in
    let from_source : first ≢ source = λ same. not_source (sym same) in
    let from_first : second ≢ first = λ same. not_first (sym same) in
    record {
      one = x.one;
      other = x.other;
      not_source = not_source;
      not_first = not_first;
      full = held_volume e source (Some x.one) x.take_source.full;
      first_full = sym (s1.others first from_source) ∙ first_then;
      empty = λ apart. sym (s3.others second from_first ∙ s2.others second from_first ∙ s1.others second apart) ∙ second_then;
      left = λ apart. s4.others source (λ same. apart (sym same)) ∙ s3.others source not_source ∙ s2.others source not_source ∙ s1.here;
      first_there = s4.others first not_first ∙ s3.here;
      there = s4.here;
      others = λ place a b c. s4.others place c ∙ s3.others place b ∙ s2.others place b ∙ s1.others place a;
      all = x.all;
    }

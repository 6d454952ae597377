-- Where a changer's map and marks refuse nothing of an exchange with a drive, the ends that are no drive's have their volumes and free places,
-- each as the steps before it left the changer.
use Rattle.std.proofs.Common.{◌≡◌, ℕ, ◌-◌, Bool, true, false, ◌==◌, List, set, length, length-set, Option, Some, None, is_some, Result, Ok, Err, refl, sym, ap, ◌∙◌, subst}
use Rattle.std.specs.Prelude.{◌≢◌, cond, slice_index_or, IsOk}
use Rattle.tape_medium.specs.declared.volume.Volume.{Volume}
use Rattle.tape_medium.specs.declared.volume.VolumeTag.{VolumeTag}
use Rattle.tape_medium.specs.declared.elements.MapFault.{MapFault}
use Rattle.tape_medium.specs.Elements as elements
use Rattle.tape_medium.specs.Elements.{Elements, Element, Transport, DataTransfer, ImportExport, Storage, Nowhere, first_data_transfer, is_among, element_at, holding, tag_in}
use Rattle.element_map.specs.Exchange.{is_drives, has_drive, exchange_refusal}
use Rattle.device_server.specs.declared.fault.BadPlace.{BadPlace}
use Rattle.device_server.specs.declared.fault.PutFault.{PutFault}
use Rattle.device_server.specs.declared.fault.TakeFault.{TakeFault}
use Rattle.device_server.specs.HostChanger.{ChangerView}
use Rattle.device_server.specs.View.{DeviceView, Changer, take_fault_of, put_fault_of, held_in, taken, put}
use Rattle.device_server.proofs.ExchangeLemmas.{drives_name, same_drives, MayExchange, may_exchange, second_empty}
use Rattle.device_server.proofs.InAndOut.{changer_taken, changer_put}
use Rattle.device_server.proofs.PlaceLemmas.{held_at, held_here, held_others, held_noted}
use Rattle.logical_unit.specs.Move.{noting}
use Rattle.logical_unit.specs.MoveJudgement.{GivesOnly, GivesAndTakes, TakesOnly, Swaps, HasExchangeWays}
use Rattle.logical_unit.specs.Route.{drive_at}
use Rattle.logical_unit.specs.declared.route.ExchangeRoute.{ExchangeRoute}

-- A CHANGER with other elements
abbrev with_elements : ChangerView → Elements → ChangerView
with_elements c e = record c { elements = e }

-- with a tag noted at a drive's element
abbrev noted_elements : Elements → ℕ → Option VolumeTag → Elements
noted_elements e i tag = record e { data_transfer = set e.data_transfer i tag }

noted_to : ChangerView → Result Elements MapFault → DeviceView
noted_to c o = elim (elim o as (λ _. Result DeviceView BadPlace) [ Ok after ↦ Ok (Changer (record c { elements = after })) | Err fault ↦ Err record {} ]) [ Ok after ↦ after | Err fault ↦ Changer c ]

noting_is : (c : ChangerView) (place : ℕ) (tag : Option VolumeTag) → is_drives c.elements place ≡ true
    → noting (Changer c) place tag ≡ Changer (with_elements c (noted_elements c.elements (place - first_data_transfer) tag))
unfolding noted_to
noting_is c place tag drive = ap (λ (at : Element). noted_to c (elements.noted c.elements at tag)) (drives_name c.elements place drive)

noted_drives : (e : Elements) (i : ℕ) (tag : Option VolumeTag) (address : ℕ) → is_drives (noted_elements e i tag) address ≡ is_drives e address
noted_drives e i tag address = ap (λ (n : ℕ). is_among first_data_transfer n address) (length-set e.data_transfer i tag)

-- a full element gives its volume, and an empty one takes one
took : ChangerView → Result (Elements × Volume) MapFault → Result (Volume × DeviceView) TakeFault
took c o = elim o [ Ok it ↦ Ok (it.1, Changer (record c { elements = it.0 })) | Err fault ↦ Err (take_fault_of fault) ]

did_put : ChangerView → Result Elements MapFault → Result DeviceView PutFault
did_put c o = elim o [ Ok after ↦ Ok (Changer (record c { elements = after })) | Err fault ↦ Err (put_fault_of fault) ]

gives : (c : ChangerView) (place : ℕ) (v : Volume) → held_at c.elements place ≡ Some (Some v) → IsOk (taken (Changer c) place)
unfolding took
gives c place v is =
    let e = c.elements in
    subst (λ (h : Option (Option Volume)). IsOk (took c (elements.taken e (element_at e place) h))) (sym is) refl

takes_in : (c : ChangerView) (place : ℕ) (v : Volume) → held_at c.elements place ≡ Some None → IsOk (put (Changer c) place v)
unfolding did_put
takes_in c place v is =
    let e = c.elements in
    subst (λ (h : Option (Option Volume)). IsOk (did_put c (elements.put e (element_at e place) v h))) (sym is) refl

-- a volume that comes or goes leaves the marks
abbrev mark_of : Elements → Element → Option VolumeTag
mark_of e at = elim (tag_in e at) as (λ _. Option VolumeTag) [ Ok tag ↦ tag | Err fault ↦ None ]

holding_marks : (e : Elements) (at : Element) (held : Option Volume) → (holding e at held).data_transfer ≡ e.data_transfer
holding_marks e Transport held = refl
holding_marks e (DataTransfer i) held = refl
holding_marks e (ImportExport i) held = refl
holding_marks e (Storage i) held = refl
holding_marks e Nowhere held = refl

-- THE FOUR WAYS, at the elements e of the changer
module _ (c : ChangerView) (x : ExchangeRoute) (m : MayExchange c.elements x.source x.first x.second) where
  abbrev e : Elements
  e = c.elements

  -- the source's drive gave its volume
  abbrev given_up : ChangerView
  given_up = with_elements c (noted_elements e (x.source - first_data_transfer) None)

  given_is : is_drives e x.source ≡ true → noting (Changer c) x.source None ≡ Changer given_up
  given_is drive = noting_is c x.source None drive

  first_full : is_drives e x.source ≡ true → (v : Volume) × (held_at given_up.elements x.first ≡ Some (Some v))
  first_full drive =
      let there = m.full_first (m.source_alone drive) in
      (there.0, held_noted e (x.source - first_data_transfer) None x.first ∙ there.1)

  first_gives : is_drives e x.source ≡ true → IsOk (taken (noting (Changer c) x.source None) x.first)
  first_gives drive = let there = first_full drive in subst (λ (d : DeviceView). IsOk (taken d x.first)) (sym (given_is drive)) (gives given_up x.first there.0 there.1)

  -- then the changer took up the first destination's
  abbrev without_first : ChangerView
  without_first = with_elements given_up (holding given_up.elements (element_at given_up.elements x.first) None)

  record IsBetween (between : DeviceView) : Type 0 where
    is : Changer without_first ≡ between
    free : held_at without_first.elements x.first ≡ Some None

  between_is : (other : Volume) (between : DeviceView) → is_drives e x.source ≡ true → taken (noting (Changer c) x.source None) x.first ≡ Ok (other, between) → IsBetween between
  between_is other between drive h =
      let t = changer_taken given_up x.first other between (subst (λ (d : DeviceView). taken d x.first ≡ Ok (other, between)) (given_is drive) h) in
      record { is = t.left; free = held_here given_up.elements x.first (Some other) None t.full }

  first_places : is_drives e x.source ≡ true → (other one : Volume) (between : DeviceView) → taken (noting (Changer c) x.source None) x.first ≡ Ok (other, between)
      → IsOk (put between x.first one)
  first_places drive other one between h =
      let b = between_is other between drive h in
      subst (λ (d : DeviceView). IsOk (put d x.first one)) b.is (takes_in without_first x.first one b.free)

  not_the_source : is_drives e x.source ≡ true → is_drives e x.second ≡ false → x.second ≢ x.source
  not_the_source drive none same = let both : true ≡ false = sym drive ∙ ap (is_drives e) (sym same) ∙ none in cc

  gives_only : is_drives e x.source ≡ true → is_drives e x.second ≡ false → GivesOnly (Changer c) x
  gives_only drive none = record {
    first = first_gives drive;
    places = first_places drive;
    second = λ other one between with_one took_up put_down.
        let b = between_is other between drive took_up in
        let p = changer_put without_first x.first one with_one (subst (λ (d : DeviceView). put d x.first one ≡ Ok with_one) (sym b.is) put_down) in
        let w : ChangerView = with_elements without_first (holding without_first.elements (element_at without_first.elements x.first) (Some one)) in
        let free : held_at w.elements x.second ≡ Some None =
        held_others without_first.elements x.first x.second (Some one) m.not_first
        ∙ held_others given_up.elements x.first x.second None m.not_first
        ∙ held_noted e (x.source - first_data_transfer) None x.second
        ∙ m.empty_second none (not_the_source drive none) in
        subst (λ (d : DeviceView). IsOk (put d x.second other)) p.left (takes_in w x.second other free);
  }

  swaps : is_drives e x.source ≡ true → Swaps (Changer c) x
  swaps drive = record { first = first_gives drive; places = first_places drive }

  -- the changer took up the source's volume
  abbrev without_source : ChangerView
  without_source = with_elements c (holding e (element_at e x.source) None)

  gives_and_takes : is_drives e x.source ≡ false → is_drives e x.first ≡ true → GivesAndTakes (Changer c) x
  gives_and_takes none drive = record {
    source = let there = m.full_source none in gives c x.source there.0 there.1;
    mark = λ one between took_up.
        let t = changer_taken c x.source one between took_up in
        let e1 : Elements = without_source.elements in
        let drive_then : is_drives e1 x.first ≡ true = same_drives e e1 (element_at e x.source) None x.first refl ∙ drive in
        ap (λ (d : DeviceView). held_in d x.first) (sym t.left)
        ∙ ap (mark_of e1) (drives_name e1 x.first drive_then)
        ∙ ap (λ (tags : List (Option VolumeTag)). slice_index_or tags (x.first - first_data_transfer) None) (holding_marks e (element_at e x.source) None)
        ∙ sym (ap (mark_of e) (drives_name e x.first drive));
    second = λ one other between took_up.
        let t = changer_taken c x.source one between took_up in
        let i : ℕ = x.first - first_data_transfer in
        let e1 : Elements = without_source.elements in
        let once : ChangerView = with_elements without_source (noted_elements e1 i None) in
        let twice : ChangerView = with_elements once (noted_elements once.elements i (Some one.tag)) in
        let drive_then : is_drives e1 x.first ≡ true = same_drives e e1 (element_at e x.source) None x.first refl ∙ drive in
        let drive_still : is_drives once.elements x.first ≡ true = noted_drives e1 i None x.first ∙ drive_then in
        let is : noting (noting (Changer without_source) x.first None) x.first (Some one.tag) ≡ Changer twice =
        ap (λ (d : DeviceView). noting d x.first (Some one.tag)) (noting_is without_source x.first None drive_then) ∙ noting_is once x.first (Some one.tag) drive_still in
        let free : held_at twice.elements x.second ≡ Some None =
        held_noted once.elements i (Some one.tag) x.second ∙ held_noted e1 i None x.second
        ∙ second_empty e x.source x.first x.second one m t.full (m.first_alone drive) in
        subst (λ (d : DeviceView). IsOk (put (noting (noting d x.first None) x.first (Some one.tag)) x.second other)) t.left
        (subst (λ (d : DeviceView). IsOk (put d x.second other)) (sym is) (takes_in twice x.second other free));
  }

  takes_only : is_drives e x.source ≡ false → is_drives e x.first ≡ false → TakesOnly (Changer c) x
  takes_only none_source none_first = record {
    source = let there = m.full_source none_source in gives c x.source there.0 there.1;
    first = λ one without_one took_up.
        let t = changer_taken c x.source one without_one took_up in
        let there = m.full_first none_first in
        subst (λ (d : DeviceView). IsOk (taken d x.first)) t.left
        (gives without_source x.first there.0 (held_others e x.source x.first None m.not_source ∙ there.1));
    places = λ one other without_one between took_up then.
        let t = changer_taken c x.source one without_one took_up in
        let n = changer_taken without_source x.first other between (subst (λ (d : DeviceView). taken d x.first ≡ Ok (other, between)) (sym t.left) then) in
        let e1 : Elements = without_source.elements in
        let w : ChangerView = with_elements without_source (holding e1 (element_at e1 x.first) None) in
        subst (λ (d : DeviceView). IsOk (put d x.first one)) n.left (takes_in w x.first one (held_here e1 x.first (Some other) None n.full));
  }

  by_drives : (a b t : Bool) → is_drives e x.source ≡ a → is_drives e x.first ≡ b → is_drives e x.second ≡ t → has_drive e x.source x.first x.second ≡ true
      → HasExchangeWays (Changer c) x a b t
  by_drives true true t is_a is_b is_t has = let both : true ≡ false = sym is_b ∙ m.source_alone is_a in absurd cc
  by_drives true false false is_a is_b is_t has = gives_only is_a is_t
  by_drives true false true is_a is_b is_t has = swaps is_a
  by_drives false true false is_a is_b is_t has = gives_and_takes is_a is_b
  by_drives false true true is_a is_b is_t has = let both : true ≡ false = sym is_t ∙ m.first_alone is_b in absurd cc
  by_drives false false true is_a is_b is_t has = takes_only is_a is_b
  by_drives false false false is_a is_b is_t has = let none : false ≡ true = sym (rw (is_a, is_b, is_t) refl) ∙ has in absurd cc

-- a drive's element, by its number
at_drive : (among : Bool) (l : ℕ) → is_some (cond among (Some l) None) ≡ among
at_drive true l = refl
at_drive false l = refl

drive_some : (drive : Option ℕ) (e : Elements) (address : ℕ) → drive ≡ drive_at (length e.data_transfer) address → is_drives e address ≡ is_some drive
drive_some drive e address is = sym (at_drive (is_among first_data_transfer (length e.data_transfer) address) (address - 0xFF)) ∙ sym (ap (λ (o : Option ℕ). is_some o) is)

pub exchange_ways : (c : ChangerView) (transport : ℕ) (x : ExchangeRoute) → exchange_refusal c.elements transport x.source x.first x.second ≡ None
    → has_drive c.elements x.source x.first x.second ≡ true → x.from ≡ drive_at (length c.elements.data_transfer) x.source
    → x.between ≡ drive_at (length c.elements.data_transfer) x.first → x.to ≡ drive_at (length c.elements.data_transfer) x.second
    → HasExchangeWays (Changer c) x (is_some x.from) (is_some x.between) (is_some x.to)
exchange_ways c transport x free has from between to =
    by_drives c x (may_exchange c.elements transport x.source x.first x.second free) (is_some x.from) (is_some x.between) (is_some x.to)
    (drive_some x.from c.elements x.source from) (drive_some x.between c.elements x.first between) (drive_some x.to c.elements x.second to) has

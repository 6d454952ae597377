-- A volume that a move carries: it leaves its source and stands at its destination, and no other moves.
use Rattle.std.proofs.Common.{◌≡◌, ◌≢◌, ◌+◌, ℕ, suc, Bool, true, false, List, [], ◌∷◌, length, Option, Some, None, Result, Ok, Err, refl, sym, ap, ◌∙◌, subst, inl, inr, arith}
use Rattle.std.proofs.lemmas.List.{length-set}
use Rattle.std.specs.Prelude.{◌⊎◌, cond, is_some, slice_get, slice_set}
use Rattle.scsi_cdb.specs.declared.request.Request.{Request}
use Rattle.scsi_sense.specs.declared.condition.Condition.{Condition}
use Rattle.tape_medium.specs.declared.volume.Volume.{Volume}
use Rattle.tape_medium.specs.declared.volume.VolumeTag.{VolumeTag}
use Rattle.device_server.specs.View.{DeviceView, commands_of, drives_of, journeyed, exchange_journeyed}
use Rattle.device_server.specs.Volumes.{volume_at, SameVolume, SameAt}
use Rattle.device_server.proofs.PlaceLemmas.{takes_one, puts_one}
use Rattle.logical_unit.specs.Move.{TwoDrives, noting, unloaded, loaded, passed, carried_by_one, exchanged_by, carried_with_one, carried_one, upward, downward, carried_two, errand_noted, errand_at}
use Rattle.logical_unit.specs.Route.{drive_at, is_upward, named_by, named_in, named}
use Rattle.logical_unit.specs.UnitView.{UnitView}
use Rattle.logical_unit.specs.declared.route.Errand.{Errand}
use Rattle.logical_unit.specs.declared.route.Errand.TheVariants.{Move, Exchange}
use Rattle.logical_unit.specs.declared.route.ExchangeRoute.{ExchangeRoute}
use Rattle.logical_unit.specs.declared.route.Route.{Route}
use Rattle.logical_unit.proofs.Halves.{is_unloaded, is_loaded, is_passed, came}
use Rattle.logical_unit.proofs.NamedDrives.{some_of, AreNamed, Asks, IsAt, named_alone, has_errand, has_route, drive_within, named_two}
use Rattle.target_laws.specs.Volumes.{Way, Carried, Exchanged, IsCarried, IsCarriedBy}
use Rattle.target_laws.proofs.VolumeExchanges.{IsEnd, exchange_carries}
use Rattle.target_laws.proofs.VolumeStill.{noting_still, journey_still, drive_gives_out, drive_takes_in}
use Rattle.target_core.proofs.History.{get-set_same, get-set_other}
use Rattle.target_core.proofs.InOrder.{set_swap}
use Rattle.target_core.proofs.Places.{same_some}
use Rattle.target_core.proofs.Ordered.{IsOrdered, has_drives}
use Rattle.target_laws.proofs.VolumePlaces.{by_element, at_drive, at_own, beside_set, held, same_on}

abbrev pub way : Errand → Way
way (Move r) = Carried r.source r.destination
way (Exchange x) = Exchanged x.source x.first x.second

-- the changer is left as unnoted when the volume is down, and then notes the way
module _ (c v : UnitView) (ds : List UnitView) (r : Route) (unnoted : DeviceView) (notes : v.device ≡ journeyed unnoted r.source r.destination) where
  -- out of a drive into an element of the changer
  pub unloaded_carries : (k : ℕ) (d e : UnitView) → slice_get ds k ≡ Some d → drive_at (length ds) r.source ≡ Some (suc k) → drive_at (length ds) r.destination ≡ None → unloaded c.device d r ≡ Ok (unnoted, e)
      → IsCarried (c ∷ ds) (v ∷ slice_set ds k e) r.source r.destination
  unloaded_carries k d e there source destination h =
      let u = is_unloaded c.device d r unnoted e h in
      let out = drive_gives_out d e u.volume u.gives.out in
      let into = puts_one c.device u.mid r.destination u.volume u.puts in
      let es = slice_set ds k e in
      let size : length es ≡ length ds = length-set ds k e in
      let still : (place : ℕ) → volume_at v.device place ≡ volume_at u.mid place = λ place. journey_still v.device unnoted r notes place ∙ ap (λ (x : DeviceView). volume_at x place) u.marks ∙ noting_still u.mid r.source None place in
      let was = held (volume_at d.device 0) u.volume out.full in
      record {
        volume = was.volume;
        full = at_drive c ds r.source k d source there ∙ was.is;
        empty = at_own c ds r.destination destination ∙ into.empty;
        left = at_drive v es r.source k e (ap (λ n. drive_at n r.source) size ∙ source) (get-set_same ds k e d there) ∙ out.empty;
        there = subst (λ (o : Option Volume). SameAt SameVolume (Some was.volume) o) (sym (at_own v es r.destination (ap (λ n. drive_at n r.destination) size ∙ destination) ∙ still r.destination))
            (same_on was.volume u.volume (volume_at u.mid r.destination) was.same into.full);
        others = λ address not_source not_destination.
            by_element (λ before after. after ≡ before) c v ds es address size
            (λ j at. beside_set (λ before after. after ≡ before) ds k j d e there
            (λ same. absurd (not_source ((drive_within (length ds) address (suc j) at).2 ∙ ap (λ i. suc i + 0xFF) same ∙ sym (drive_within (length ds) r.source (suc k) source).2)))
            (λ apart. refl))
            (λ none. still address ∙ into.others address not_destination);
      }

  -- out of an element of the changer into a drive
  pub loaded_carries : (k : ℕ) (d e : UnitView) → slice_get ds k ≡ Some d → drive_at (length ds) r.source ≡ None → drive_at (length ds) r.destination ≡ Some (suc k) → loaded c.device d r ≡ Ok (unnoted, e)
      → IsCarried (c ∷ ds) (v ∷ slice_set ds k e) r.source r.destination
  loaded_carries k d e there source destination h =
      let u = is_loaded c.device d r unnoted e h in
      let out = takes_one c.device u.mid r.source u.volume u.takes in
      let into = drive_takes_in d e u.volume u.comes in
      let es = slice_set ds k e in
      let size : length es ≡ length ds = length-set ds k e in
      let still : (place : ℕ) → volume_at v.device place ≡ volume_at u.mid place = λ place. journey_still v.device unnoted r notes place ∙ ap (λ (x : DeviceView). volume_at x place) u.marks ∙ noting_still u.mid r.destination (Some u.volume.tag) place in
      let was = held (volume_at c.device r.source) u.volume out.full in
      record {
        volume = was.volume;
        full = at_own c ds r.source source ∙ was.is;
        empty = at_drive c ds r.destination k d destination there ∙ into.empty;
        left = at_own v es r.source (ap (λ n. drive_at n r.source) size ∙ source) ∙ still r.source ∙ out.empty;
        there = subst (λ (o : Option Volume). SameAt SameVolume (Some was.volume) o) (sym (at_drive v es r.destination k e (ap (λ n. drive_at n r.destination) size ∙ destination) (get-set_same ds k e d there)))
            (same_on was.volume u.volume (volume_at e.device 0) was.same into.full);
        others = λ address not_source not_destination.
            by_element (λ before after. after ≡ before) c v ds es address size
            (λ j at. beside_set (λ before after. after ≡ before) ds k j d e there
            (λ same. absurd (not_destination ((drive_within (length ds) address (suc j) at).2 ∙ ap (λ i. suc i + 0xFF) same ∙ sym (drive_within (length ds) r.destination (suc k) destination).2)))
            (λ apart. refl))
            (λ none. still address ∙ out.others address not_source);
      }

  -- out of a drive into another
  pub passed_carries : (i j : ℕ) (g t e f : UnitView) → i ≢ j → slice_get ds i ≡ Some g → slice_get ds j ≡ Some t → drive_at (length ds) r.source ≡ Some (suc i) → drive_at (length ds) r.destination ≡ Some (suc j) → passed c.device g t r ≡ Ok (unnoted, e, f)
      → IsCarried (c ∷ ds) (v ∷ slice_set (slice_set ds i e) j f) r.source r.destination
  passed_carries i j g t e f apart giver taker source destination h =
      let u = is_passed c.device g t r unnoted e f h in
      let out = drive_gives_out g e u.volume u.gives.out in
      let into = drive_takes_in t f u.volume u.comes in
      let mid = slice_set ds i e in
      let es = slice_set mid j f in
      let one : length mid ≡ length ds = length-set ds i e in
      let size : length es ≡ length ds = length-set mid j f ∙ one in
      let first = noting c.device r.source None in
      let still : (place : ℕ) → volume_at v.device place ≡ volume_at c.device place =
      λ place. journey_still v.device unnoted r notes place ∙ ap (λ (x : DeviceView). volume_at x place) u.marks ∙ noting_still first r.destination (Some u.volume.tag) place ∙ noting_still c.device r.source None place in
      let taker_mid : slice_get mid j ≡ Some t = get-set_other ds i j e apart ∙ taker in
      let giver_left : slice_get es i ≡ Some e = get-set_other mid j i f (λ p. apart (sym p)) ∙ get-set_same ds i e g giver in
      let was = held (volume_at g.device 0) u.volume out.full in
      record {
        volume = was.volume;
        full = at_drive c ds r.source i g source giver ∙ was.is;
        empty = at_drive c ds r.destination j t destination taker ∙ into.empty;
        left = at_drive v es r.source i e (ap (λ n. drive_at n r.source) size ∙ source) giver_left ∙ out.empty;
        there = subst (λ (o : Option Volume). SameAt SameVolume (Some was.volume) o) (sym (at_drive v es r.destination j f (ap (λ n. drive_at n r.destination) size ∙ destination) (get-set_same mid j f t taker_mid)))
            (same_on was.volume u.volume (volume_at f.device 0) was.same into.full);
        others = λ address not_source not_destination.
            by_element (λ before after. after ≡ before) c v ds es address size
            (λ l at.
            let place = (drive_within (length ds) address (suc l) at).2 in
            beside_set (λ before after. after ≡ before) mid j l t f taker_mid
            (λ same. absurd (not_destination (place ∙ ap (λ x. suc x + 0xFF) same ∙ sym (drive_within (length ds) r.destination (suc j) destination).2)))
            (λ other. refl)
            ∙ beside_set (λ before after. after ≡ before) ds i l g e giver
            (λ same. absurd (not_source (place ∙ ap (λ x. suc x + 0xFF) same ∙ sym (drive_within (length ds) r.source (suc i) source).2)))
            (λ other. refl))
            (λ none. still address);
      }

-- BY THE DRIVES THAT ARE NAMED
abbrev pub three_ok : DeviceView → UnitView → UnitView → Result (DeviceView × UnitView × UnitView) Condition
three_ok device e f = Ok (device, e, f)

module _ (c v : UnitView) (ds : List UnitView) (o : IsOrdered c ds) (cdb : List ℕ) where
  -- among the drives that are there
  among : (address : ℕ) (x : Option ℕ) → drive_at (drives_of c.device) address ≡ x → drive_at (length ds) address ≡ x
  among address x at = sym (ap (λ n. drive_at n address) (has_drives c ds o)) ∙ at

  by_one : (q : Route) (mid : DeviceView) → v.device ≡ journeyed mid q.source q.destination → (k : ℕ) (d e : UnitView) (from to : Option ℕ) → slice_get ds k ≡ Some d → from ≡ drive_at (drives_of c.device) q.source → to ≡ drive_at (drives_of c.device) q.destination → named_by from to ≡ suc k ∷ []
      → carried_by_one c.device d q from to ≡ Ok (mid, e) → IsCarried (c ∷ ds) (v ∷ slice_set ds k e) q.source q.destination
  by_one q mid notes k d e None None there f t names h = absurd cc
  by_one q mid notes k d e (Some l) None there f t names h =
      let is : l ≡ suc k = cc in
      unloaded_carries c v ds q mid notes k d e there (among q.source (Some (suc k)) (sym f ∙ ap some_of is)) (among q.destination None (sym t)) h
  by_one q mid notes k d e None (Some m) there f t names h =
      let is : m ≡ suc k = cc in
      loaded_carries c v ds q mid notes k d e there (among q.source None (sym f)) (among q.destination (Some (suc k)) (sym t ∙ ap some_of is)) h
  by_one q mid notes k d e (Some l) (Some m) there f t names h = absurd cc

  -- each end of an exchange is the drive's, or the changer's own
  end_at : (k : ℕ) (d : UnitView) (there : slice_get ds k ≡ Some d) (address : ℕ) (drive : Option ℕ) → drive ≡ drive_at (drives_of c.device) address → IsAt drive (suc k) → IsEnd c ds k d there (is_some drive) address
  end_at k d there address None is at = among address None (sym is)
  end_at k d there address (Some l) is (inl none) = absurd cc
  end_at k d there address (Some l) is (inr at) = among address (Some (suc k)) (sym is ∙ at)

  by_errand : (q : Errand) (mid : DeviceView) → v.device ≡ errand_noted q mid → (k : ℕ) (d e : UnitView) (asked : Request) → slice_get ds k ≡ Some d → Asks (drives_of c.device) asked q
      → named_in (Some q) ≡ suc k ∷ [] → carried_with_one c.device d q ≡ Ok (mid, e) → IsCarriedBy (c ∷ ds) (v ∷ slice_set ds k e) (way q)
  by_errand (Move q) mid notes k d e asked there asks names h = by_one q mid notes k d e q.from q.to there asks.from asks.to names h
  by_errand (Exchange x) mid notes k d e asked there asks names h =
      let alone = named_alone x.from x.between x.to (suc k) [] names in
      exchange_carries c ds k d there v e x (is_some x.from) (is_some x.between) (is_some x.to) mid notes
      (end_at k d there x.source x.from asks.from alone.from_is) (end_at k d there x.first x.between asks.between alone.between_is) (end_at k d there x.second x.to asks.to alone.to_is) h

  pub one_carries : (k : ℕ) (d e : UnitView) (names : named (commands_of c.device) (drives_of c.device) cdb ≡ suc k ∷ []) → slice_get ds k ≡ Some d → carried_one c.device d (errand_at c cdb) ≡ Ok (v.device, e)
      → IsCarriedBy (c ∷ ds) (v ∷ slice_set ds k e) (way (has_errand c.device cdb (suc k) [] names).errand)
  one_carries k d e names there h =
      let q = has_errand c.device cdb (suc k) [] names in
      let w = came q.errand (carried_with_one c.device d q.errand) v.device e (sym (ap (carried_one c.device d) q.is) ∙ h) in
      by_errand q.errand w.mid w.notes k d e q.decodes.request there q.asks q.names w.carries

  upward_carries : (q : Route) (mid : DeviceView) → v.device ≡ journeyed mid q.source q.destination → (i j : ℕ) (ds' es : TwoDrives) (p : Result (DeviceView × UnitView × UnitView) Condition) → i ≢ j → slice_get ds i ≡ Some ds'.low → slice_get ds j ≡ Some ds'.high → drive_at (length ds) q.source ≡ Some (suc i) → drive_at (length ds) q.destination ≡ Some (suc j)
      → passed c.device ds'.low ds'.high q ≡ p → upward p ≡ Ok (mid, es) → IsCarried (c ∷ ds) (v ∷ slice_set (slice_set ds i es.low) j es.high) q.source q.destination
  upward_carries q mid notes i j ds' es (Ok it) apart low high source destination h e =
      let is : ◌≡◌ {A = DeviceView × TwoDrives} (it.0, record { low = it.1; high = it.2 }) (mid, es) = cc in
      let passes : passed c.device ds'.low ds'.high q ≡ Ok (mid, es.low, es.high) = h ∙ ap (λ (x : DeviceView × TwoDrives). three_ok x.0 x.1.low x.1.high) is in
      passed_carries c v ds q mid notes i j ds'.low ds'.high es.low es.high apart low high source destination passes
  upward_carries q mid notes i j ds' es (Err condition) apart low high source destination h e = absurd cc

  downward_carries : (q : Route) (mid : DeviceView) → v.device ≡ journeyed mid q.source q.destination → (i j : ℕ) (ds' es : TwoDrives) (p : Result (DeviceView × UnitView × UnitView) Condition) → i ≢ j → slice_get ds i ≡ Some ds'.low → slice_get ds j ≡ Some ds'.high → drive_at (length ds) q.source ≡ Some (suc j) → drive_at (length ds) q.destination ≡ Some (suc i)
      → passed c.device ds'.high ds'.low q ≡ p → downward p ≡ Ok (mid, es) → IsCarried (c ∷ ds) (v ∷ slice_set (slice_set ds i es.low) j es.high) q.source q.destination
  downward_carries q mid notes i j ds' es (Ok it) apart low high source destination h e =
      let is : ◌≡◌ {A = DeviceView × TwoDrives} (it.0, record { low = it.2; high = it.1 }) (mid, es) = cc in
      let passes : passed c.device ds'.high ds'.low q ≡ Ok (mid, es.high, es.low) = h ∙ ap (λ (x : DeviceView × TwoDrives). three_ok x.0 x.1.high x.1.low) is in
      subst (λ (xs : List UnitView). IsCarried (c ∷ ds) (v ∷ xs) q.source q.destination) (sym (set_swap ds i j es.low es.high apart))
      (passed_carries c v ds q mid notes j i ds'.high ds'.low es.high es.low (λ p. apart (sym p)) high low source destination passes)
  downward_carries q mid notes i j ds' es (Err condition) apart low high source destination h e = absurd cc

  abbrev pub by_way : TwoDrives → Route → Bool → Result (DeviceView × TwoDrives) Condition
  by_way ds' q up = cond up (upward (passed c.device ds'.low ds'.high q)) (downward (passed c.device ds'.high ds'.low q))

  by_two : (q : Route) (mid : DeviceView) → v.device ≡ journeyed mid q.source q.destination → (i j : ℕ) (ds' es : TwoDrives) → i ≢ j → slice_get ds i ≡ Some ds'.low → slice_get ds j ≡ Some ds'.high → q.from ≡ drive_at (drives_of c.device) q.source → q.to ≡ drive_at (drives_of c.device) q.destination
      → AreNamed q.from q.to (suc i) (suc j) true ⊎ AreNamed q.from q.to (suc j) (suc i) false
      → by_way ds' q (is_upward q.from q.to) ≡ Ok (mid, es) → IsCarried (c ∷ ds) (v ∷ slice_set (slice_set ds i es.low) j es.high) q.source q.destination
  by_two q mid notes i j ds' es apart low high f t (inl up) h =
      upward_carries q mid notes i j ds' es (passed c.device ds'.low ds'.high q) apart low high (among q.source (Some (suc i)) (sym f ∙ up.from_is)) (among q.destination (Some (suc j)) (sym t ∙ up.to_is)) refl (sym (ap (by_way ds' q) up.way) ∙ h)
  by_two q mid notes i j ds' es apart low high f t (inr down) h =
      downward_carries q mid notes i j ds' es (passed c.device ds'.high ds'.low q) apart low high (among q.source (Some (suc j)) (sym f ∙ down.from_is)) (among q.destination (Some (suc i)) (sym t ∙ down.to_is)) refl (sym (ap (by_way ds' q) down.way) ∙ h)

  pub two_carry : (i j : ℕ) (more : List ℕ) (ds' es : TwoDrives) (names : named (commands_of c.device) (drives_of c.device) cdb ≡ suc i ∷ suc j ∷ more) → slice_get ds i ≡ Some ds'.low → slice_get ds j ≡ Some ds'.high → carried_two c.device ds' (errand_at c cdb) ≡ Ok (v.device, es)
      → IsCarriedBy (c ∷ ds) (v ∷ slice_set (slice_set ds i es.low) j es.high) (way (has_errand c.device cdb (suc i) (suc j ∷ more) names).errand)
  two_carry i j more ds' es names low high h =
      let q = has_route c.device cdb (suc i) (suc j) more names in
      let asked = has_errand c.device cdb (suc i) (suc j ∷ more) names in
      let is : Move q.route ≡ asked.errand = same_some (Move q.route) asked.errand (sym q.is ∙ asked.is) in
      let two = named_two q.route.from q.route.to (suc i) (suc j) more q.names in
      let less = two.0 in
      let w = came (Move q.route) (by_way ds' q.route (is_upward q.route.from q.route.to)) v.device es (sym (ap (carried_two c.device ds') q.is) ∙ h) in
      subst (λ (x : Errand). IsCarriedBy (c ∷ ds) (v ∷ slice_set (slice_set ds i es.low) j es.high) (way x)) is
      (by_two q.route w.mid w.notes i j ds' es (λ p. absurd (omega (arith, p, less))) low high q.from q.to two.1 w.carries)

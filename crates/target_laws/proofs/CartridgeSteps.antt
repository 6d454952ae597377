-- Each event of a run leaves the cartridges of the target, each as often as before.
use Rattle.std.proofs.Common.{◌≡◌, ◌≢◌, ℕ, zero, suc, Bool, true, false, List, [], ◌∷◌, ◌++◌, IsPermutation, Option, Some, None, Result, Ok, Err, refl, sym, ap, ◌∙◌, subst, inl, inr, arith}
use Rattle.std.proofs.lemmas.List.Sorted.{IsPermutation-sym, IsPermutation-trans, IsPermutation-middle, IsPermutation-map, IsPermutation-append_left, IsPermutation-append_right}
use Rattle.std.specs.Prelude.{◌⊎◌, ◌&&◌, cond, slice_get, slice_set}
use Rattle.scsi_cdb.specs.declared.kind.Kind.TheVariants as kind
use Rattle.scsi_nexus.specs.declared.nexus.Nexus.{Nexus}
use Rattle.scsi_sense.specs.declared.condition.Condition.{Condition}
use Rattle.tape_medium.specs.declared.volume.Volume.{Volume}
use Rattle.scsi_sense.specs.CarriedOut.{is_carried_out}
use Rattle.device_server.specs.View.{DeviceView, Drive, Changer, kind_of, commands_of, journeyed, reset_of}
use Rattle.device_server.specs.Volumes.{volume_at, volumes_of, SameCartridge, SameAt}
use Rattle.device_server.proofs.TapeLemmas.{same_volume, resets_keep_volumes}
use Rattle.judgement.specs.declared.reply.Reply.{Reply}
use Rattle.judgement.specs.Commands.{decoded_command}
use Rattle.judgement.specs.History.{is_good}
use Rattle.logical_unit.specs.Move.{TwoDrives, noting, unloaded, loaded, passed, carried_by_one, carried_with_one, carried_one, upward, downward, carried_by_two, carried_two, errand_noted, errand_at}
use Rattle.logical_unit.specs.Route.{is_upward}
use Rattle.logical_unit.specs.Step.{Executes}
use Rattle.logical_unit.specs.UnitView.{UnitView}
use Rattle.logical_unit.specs.declared.route.Errand.{Errand}
use Rattle.logical_unit.specs.declared.route.Errand.TheVariants.{Move, Exchange}
use Rattle.logical_unit.specs.declared.route.Route.{Route}
use Rattle.logical_unit.proofs.Halves.{is_unloaded, is_loaded, is_passed, came}
use Rattle.logical_unit.proofs.History.{executes_stays}
use Rattle.logical_unit.proofs.Moved.{Became, carried_to, one_became, two_became}
use Rattle.logical_unit.proofs.NamedDrives.{has_errand, has_route, named_two}
use Rattle.target_core.specs.declared.event.Event.{Event}
use Rattle.target_core.specs.declared.event.Event.TheVariants as event
use Rattle.target_laws.specs.Cartridges.{Cartridge, cartridge_of, cartridges_of, cartridges, CartridgesStay}
use Rattle.target_core.specs.Faults.{fault_of}
use Rattle.target_core.specs.Run.{LosesAt, ResetsAt, Steps}
use Rattle.target_laws.specs.Volumes.{Way, Carried, Exchanged, way_of, writes, StaysSame}
use Rattle.target_laws.proofs.CartridgeDevices.{drive_same, noting_volumes, journey_volumes, drive_gives, drive_gets, changer_gives, changer_gets}
use Rattle.target_laws.proofs.CartridgeExchanges.{exchange_stay}
use Rattle.target_laws.proofs.CartridgePlaces.{equal, keeps, empties, fills}
use Rattle.target_laws.proofs.CommandWays.{Goes, goes}
use Rattle.target_laws.proofs.Devices.{executed}
use Rattle.target_core.proofs.History.{get-set_other}
use Rattle.target_core.proofs.InOrder.{set_swap}
use Rattle.target_core.proofs.Ordered.{IsOrdered, ordered, drive_of}
use Rattle.target_laws.proofs.Parts.{set-same}
use Rattle.target_laws.proofs.StaysTarget.{step_order}
use Rattle.target_laws.proofs.VolumeCarries.{three_ok}
use Rattle.target_laws.proofs.VolumeSteps.{drive_does, CarriesBy, changer_does, lost_device, reset_device}

-- one goes over from the drives to the changer, or comes
goes_over : (x : Cartridge) (c d after rest : List Cartridge) → IsPermutation (x ∷ c) after → IsPermutation d (x ∷ rest) → IsPermutation (c ++ d) (after ++ rest)
goes_over x c d after rest first second =
    IsPermutation-trans (c ++ d) (c ++ x ∷ rest) (after ++ rest) (IsPermutation-append_right c d (x ∷ rest) second)
    (IsPermutation-trans (c ++ x ∷ rest) (x ∷ (c ++ rest)) (after ++ rest) (IsPermutation-middle c x rest) (IsPermutation-append_left rest (x ∷ c) after first))

comes_over : (x : Cartridge) (c d rest after : List Cartridge) → IsPermutation c (x ∷ rest) → IsPermutation (x ∷ d) after → IsPermutation (c ++ d) (rest ++ after)
comes_over x c d rest after first second =
    IsPermutation-trans (c ++ d) (x ∷ (rest ++ d)) (rest ++ after) (IsPermutation-append_left d c (x ∷ rest) first)
    (IsPermutation-trans (x ∷ (rest ++ d)) (rest ++ x ∷ d) (rest ++ after) (IsPermutation-sym (rest ++ x ∷ d) (x ∷ (rest ++ d)) (IsPermutation-middle rest x d)) (IsPermutation-append_right rest (x ∷ d) after second))

-- A MOVE. The changer is left as unnoted when the volume is down, and then notes the way
module _ (c v : UnitView) (ds : List UnitView) (r : Route) (changer : kind_of c.device ≡ kind.Changer) (unnoted : DeviceView) (notes : v.device ≡ journeyed unnoted r.source r.destination) where
  unloaded_stay : (k : ℕ) (d e : UnitView) → slice_get ds k ≡ Some d → unloaded c.device d r ≡ Ok (unnoted, e) → IsPermutation (cartridges (c ∷ ds)) (cartridges (v ∷ slice_set ds k e))
  unloaded_stay k d e there h =
      let u = is_unloaded c.device d r unnoted e h in
      let x = cartridge_of u.volume in
      let out = drive_gives d e u.volume u.gives.out in
      let is : cartridges_of v.device ≡ cartridges_of u.mid = journey_volumes v.device unnoted r notes ∙ ap cartridges_of u.marks ∙ noting_volumes u.mid r.source None in
      goes_over x (cartridges_of c.device) (cartridges ds) (cartridges_of v.device) (cartridges (slice_set ds k e))
      (subst (IsPermutation (x ∷ cartridges_of c.device)) (sym is) (changer_gets c.device u.mid r.destination u.volume changer u.puts)) (empties ds k d e x there out.0 out.1)

  loaded_stay : (k : ℕ) (d e : UnitView) → slice_get ds k ≡ Some d → loaded c.device d r ≡ Ok (unnoted, e) → IsPermutation (cartridges (c ∷ ds)) (cartridges (v ∷ slice_set ds k e))
  loaded_stay k d e there h =
      let u = is_loaded c.device d r unnoted e h in
      let x = cartridge_of u.volume in
      let into = drive_gets d e u.volume u.comes in
      let is : cartridges_of v.device ≡ cartridges_of u.mid = journey_volumes v.device unnoted r notes ∙ ap cartridges_of u.marks ∙ noting_volumes u.mid r.destination (Some u.volume.tag) in
      comes_over x (cartridges_of c.device) (cartridges ds) (cartridges_of v.device) (cartridges (slice_set ds k e))
      (subst (λ (cs : List Cartridge). IsPermutation (cartridges_of c.device) (x ∷ cs)) (sym is) (changer_gives c.device u.mid r.source u.volume changer u.takes)) (fills ds k d e x there into.0 into.1)

  passed_stay : (i j : ℕ) (g t e f : UnitView) → i ≢ j → slice_get ds i ≡ Some g → slice_get ds j ≡ Some t → passed c.device g t r ≡ Ok (unnoted, e, f) → IsPermutation (cartridges (c ∷ ds)) (cartridges (v ∷ slice_set (slice_set ds i e) j f))
  passed_stay i j g t e f apart giver taker h =
      let u = is_passed c.device g t r unnoted e f h in
      let x = cartridge_of u.volume in
      let out = drive_gives g e u.volume u.gives.out in
      let into = drive_gets t f u.volume u.comes in
      let mid = slice_set ds i e in
      let after = cartridges (slice_set mid j f) in
      let first = noting c.device r.source None in
      let is : cartridges_of v.device ≡ cartridges_of c.device = journey_volumes v.device unnoted r notes ∙ ap cartridges_of u.marks ∙ noting_volumes first r.destination (Some u.volume.tag) ∙ noting_volumes c.device r.source None in
      subst (λ (cs : List Cartridge). IsPermutation (cartridges (c ∷ ds)) (cs ++ after)) (sym is)
      (IsPermutation-append_right (cartridges_of c.device) (cartridges ds) after
      (IsPermutation-trans (cartridges ds) (x ∷ cartridges mid) after (empties ds i g e x giver out.0 out.1) (fills mid j t f x (get-set_other ds i j e apart ∙ taker) into.0 into.1)))

  by_one : (from to : Option ℕ) (k : ℕ) (d e : UnitView) → slice_get ds k ≡ Some d → carried_by_one c.device d r from to ≡ Ok (unnoted, e) → IsPermutation (cartridges (c ∷ ds)) (cartridges (v ∷ slice_set ds k e))
  by_one None None k d e there h = absurd cc
  by_one (Some l) None k d e there h = unloaded_stay k d e there h
  by_one None (Some m) k d e there h = loaded_stay k d e there h
  by_one (Some l) (Some m) k d e there h = absurd cc

  upward_stay : (i j : ℕ) (ds' es : TwoDrives) (p : Result (DeviceView × UnitView × UnitView) Condition) → i ≢ j → slice_get ds i ≡ Some ds'.low → slice_get ds j ≡ Some ds'.high → passed c.device ds'.low ds'.high r ≡ p → upward p ≡ Ok (unnoted, es)
      → IsPermutation (cartridges (c ∷ ds)) (cartridges (v ∷ slice_set (slice_set ds i es.low) j es.high))
  upward_stay i j ds' es (Ok it) apart low high h e =
      let is : ◌≡◌ {A = DeviceView × TwoDrives} (it.0, record { low = it.1; high = it.2 }) (unnoted, es) = cc in
      passed_stay i j ds'.low ds'.high es.low es.high apart low high (h ∙ ap (λ (x : DeviceView × TwoDrives). three_ok x.0 x.1.low x.1.high) is)
  upward_stay i j ds' es (Err condition) apart low high h e = absurd cc

  downward_stay : (i j : ℕ) (ds' es : TwoDrives) (p : Result (DeviceView × UnitView × UnitView) Condition) → i ≢ j → slice_get ds i ≡ Some ds'.low → slice_get ds j ≡ Some ds'.high → passed c.device ds'.high ds'.low r ≡ p → downward p ≡ Ok (unnoted, es)
      → IsPermutation (cartridges (c ∷ ds)) (cartridges (v ∷ slice_set (slice_set ds i es.low) j es.high))
  downward_stay i j ds' es (Ok it) apart low high h e =
      let is : ◌≡◌ {A = DeviceView × TwoDrives} (it.0, record { low = it.2; high = it.1 }) (unnoted, es) = cc in
      subst (λ (xs : List UnitView). IsPermutation (cartridges (c ∷ ds)) (cartridges (v ∷ xs))) (sym (set_swap ds i j es.low es.high apart))
      (passed_stay j i ds'.high ds'.low es.high es.low (λ p. apart (sym p)) high low (h ∙ ap (λ (x : DeviceView × TwoDrives). three_ok x.0 x.1.high x.1.low) is))
  downward_stay i j ds' es (Err condition) apart low high h e = absurd cc

  by_way : (i j : ℕ) (ds' es : TwoDrives) (up : Bool) → i ≢ j → slice_get ds i ≡ Some ds'.low → slice_get ds j ≡ Some ds'.high → cond up (upward (passed c.device ds'.low ds'.high r)) (downward (passed c.device ds'.high ds'.low r)) ≡ Ok (unnoted, es)
      → IsPermutation (cartridges (c ∷ ds)) (cartridges (v ∷ slice_set (slice_set ds i es.low) j es.high))
  by_way i j ds' es true apart low high h = upward_stay i j ds' es (passed c.device ds'.low ds'.high r) apart low high refl h
  by_way i j ds' es false apart low high h = downward_stay i j ds' es (passed c.device ds'.high ds'.low r) apart low high refl h

-- WHAT IS ASKED OF VOLUMES with one drive
with_one : (c v : UnitView) (ds : List UnitView) (q : Errand) → kind_of c.device ≡ kind.Changer → (unnoted : DeviceView) → v.device ≡ errand_noted q unnoted → (k : ℕ) (d e : UnitView) → slice_get ds k ≡ Some d
    → carried_with_one c.device d q ≡ Ok (unnoted, e) → IsPermutation (cartridges (c ∷ ds)) (cartridges (v ∷ slice_set ds k e))
with_one c v ds (Move q) changer unnoted notes k d e there h = by_one c v ds q changer unnoted notes q.from q.to k d e there h
with_one c v ds (Exchange x) changer unnoted notes k d e there h = exchange_stay ds k d there c v e x changer unnoted notes h

-- A COMMAND
weaker : (to written : Bool) (before after : Option Volume) → SameAt (StaysSame to written) before after → SameAt SameCartridge before after
weaker to written None None h = tt
weaker to written None (Some w) h = absurd h
weaker to written (Some v) None h = absurd h
weaker false written (Some v) (Some w) h = subst (λ (x : Volume). SameCartridge v x) (sym h) (same_volume v).cartridge
weaker true false (Some v) (Some w) h = h.cartridge
weaker true true (Some v) (Some w) h = h

by_carries : (a b : DeviceView) (w : Option Way) → CarriesBy a b w → IsPermutation (cartridges_of a) (cartridges_of b)
by_carries a b None is = equal (cartridges_of a) (cartridges_of b) (ap cartridges_of is)
by_carries a b (Some (Carried source destination)) h = IsPermutation-map cartridge_of (volumes_of a) (volumes_of b) h.all
by_carries a b (Some (Exchanged source first second)) h = IsPermutation-map cartridge_of (volumes_of a) (volumes_of b) h.all

module _ (c : UnitView) (ds : List UnitView) (o : IsOrdered c ds) (n : Nexus) (cdb bytes : List ℕ) (r : Reply) where
  alone_stay : (v : UnitView) → Executes c n cdb bytes (v, r) → IsPermutation (cartridges (c ∷ ds)) (cartridges (v ∷ ds))
  alone_stay v step =
      let s = decoded_command (commands_of c.device) cdb bytes in
      IsPermutation-append_left (cartridges ds) (cartridges_of c.device) (cartridges_of v.device)
      (by_carries c.device v.device (cond (is_good r.status) (way_of s) None) (changer_does c.device v.device s bytes r.status r.sense o.kind (executed c v n cdb bytes r step)))

  own_stay : (k : ℕ) (d x : UnitView) → slice_get ds k ≡ Some d → Executes d n cdb bytes (x, r) → cartridges (c ∷ slice_set ds k x) ≡ cartridges (c ∷ ds)
  own_stay k d x there step =
      let s = decoded_command (commands_of d.device) cdb bytes in
      let drive = (drive_of c ds k d o there).kind in
      let same = drive_does d.device x.device s bytes r.status r.sense drive (executed d x n cdb bytes r step) in
      keeps (c ∷ ds) (suc k) d x there
      (drive_same d.device x.device drive ((executes_stays d x n cdb bytes r step).device.kind ∙ drive) (weaker true (is_carried_out r.status r.sense && writes s) (volume_at d.device 0) (volume_at x.device 0) same))

  move_stay : {A : Type 0} (v : UnitView) (drives after : A) (carried : Result (DeviceView × A) Condition) (set : A → List UnitView) → set drives ≡ ds
      → (carried ≡ Ok (v.device, after) → IsPermutation (cartridges (c ∷ ds)) (cartridges (v ∷ set after)))
      → Became c v n cdb bytes r drives after carried → IsPermutation (cartridges (c ∷ ds)) (cartridges (v ∷ set after))
  move_stay v drives after carried set same carries (inl alone) =
      subst (λ (xs : List UnitView). IsPermutation (cartridges (c ∷ ds)) (cartridges (v ∷ xs))) (sym (ap set alone.1 ∙ same)) (alone_stay v alone.0)
  move_stay v drives after carried set same carries (inr (inl halted)) =
      equal (cartridges (c ∷ ds)) (cartridges (v ∷ set after))
      (ap (λ (xs : List UnitView). cartridges (v ∷ xs)) (ap set halted.drives_stay ∙ same) ∙ ap (λ (x : UnitView × Reply). cartridges_of x.0.device ++ cartridges ds) halted.ends.unit)
  move_stay {A} v drives after carried set same carries (inr (inr moved)) =
      let device : v.device ≡ moved.device = ap (λ (x : UnitView × Reply). x.0.device) moved.ends.unit in
      carries (moved.is ∙ ap (λ (x : DeviceView). carried_to x after) (sym device))

  commands_stay : (ms : List UnitView) (at : ℕ) → Goes c ds n cdb bytes ms r at → IsPermutation (cartridges (c ∷ ds)) (cartridges ms)
  commands_stay ms at (inl it) = equal (cartridges (c ∷ ds)) (cartridges ms) (ap cartridges it.units)
  commands_stay ms at (inr (inl it)) = equal (cartridges (c ∷ ds)) (cartridges ms) (ap cartridges it.step.units ∙ own_stay it.place it.drive it.step.unit it.there it.step.step)
  commands_stay ms at (inr (inr (inl it))) = subst (λ (xs : List UnitView). IsPermutation (cartridges (c ∷ ds)) (cartridges xs)) (sym it.step.units) (alone_stay it.step.unit it.step.step)
  commands_stay ms at (inr (inr (inr (inl it)))) =
      let q = has_errand c.device cdb (suc it.place) [] it.names in
      let v = it.step.changer in
      let e = it.step.other in
      subst (λ (xs : List UnitView). IsPermutation (cartridges (c ∷ ds)) (cartridges xs)) (sym it.step.units)
      (move_stay v it.drive e (carried_one c.device it.drive (errand_at c cdb)) (λ (x : UnitView). slice_set ds it.place x) (set-same ds it.place it.drive it.there)
      (λ h.
      let w = came q.errand (carried_with_one c.device it.drive q.errand) v.device e (sym (ap (carried_one c.device it.drive) q.is) ∙ h) in
      with_one c v ds q.errand o.kind w.mid w.notes it.place it.drive e it.there w.carries)
      (one_became c it.drive v e n cdb bytes r (suc it.place) [] it.names it.step.step))
  commands_stay ms at (inr (inr (inr (inr it)))) =
      let q = has_route c.device cdb (suc it.low) (suc it.high) it.more it.names in
      let less = (named_two q.route.from q.route.to (suc it.low) (suc it.high) it.more q.names).0 in
      let v = it.step.changer in
      let es = it.step.drives in
      subst (λ (xs : List UnitView). IsPermutation (cartridges (c ∷ ds)) (cartridges xs)) (sym it.step.units)
      (move_stay v it.drives es (carried_two c.device it.drives (errand_at c cdb)) (λ (x : TwoDrives). slice_set (slice_set ds it.low x.low) it.high x.high)
      (ap (λ (xs : List UnitView). slice_set xs it.high it.drives.high) (set-same ds it.low it.drives.low it.low_there) ∙ set-same ds it.high it.drives.high it.high_there)
      (λ h.
      let w = came (Move q.route) (carried_by_two c.device it.drives q.route) v.device es (sym (ap (carried_two c.device it.drives) q.is) ∙ h) in
      by_way c v ds q.route o.kind w.mid w.notes it.low it.high it.drives es (is_upward q.route.from q.route.to) (λ p. absurd (omega (arith, p, less))) it.low_there it.high_there w.carries)
      (two_became c v it.drives es n cdb bytes r (suc it.low) (suc it.high ∷ it.more) it.names it.step.step))

-- A LOSS AND A RESET
reset_cartridges : (device : DeviceView) → cartridges_of (reset_of device) ≡ cartridges_of device
reset_cartridges (Changer e) = refl
reset_cartridges (Drive d) =
    drive_same (Drive d) (reset_of (Drive d)) refl refl (weaker true false (volume_at (Drive d) 0) (volume_at (reset_of (Drive d)) 0) (resets_keep_volumes (Drive d) 0))

loses_stay : (us ms : List UnitView) (at : ℕ) (n : Nexus) (r : Reply) (w : Option UnitView) → slice_get us at ≡ w → LosesAt us at w n (ms, r) → cartridges ms ≡ cartridges us
loses_stay us ms at n r None there step = ap (λ (x : List UnitView × Reply). cartridges x.0) step
loses_stay us ms at n r (Some w) there step = ap cartridges step.units ∙ keeps us at w step.unit there (ap cartridges_of (lost_device w step.unit n r step.step))

was_reset : (device after : DeviceView) → (after ≡ device) ⊎ (after ≡ reset_of device) → cartridges_of after ≡ cartridges_of device
was_reset device after (inl same) = ap cartridges_of same
was_reset device after (inr was) = ap cartridges_of was ∙ reset_cartridges device

resets_stay : (us ms : List UnitView) (at : ℕ) (r : Reply) (w : Option UnitView) → slice_get us at ≡ w → ResetsAt us at w (ms, r) → cartridges ms ≡ cartridges us
resets_stay us ms at r None there step = ap (λ (x : List UnitView × Reply). cartridges x.0) step
resets_stay us ms at r (Some w) there step = ap cartridges step.units ∙ keeps us at w step.unit there (was_reset w.device step.unit.device (reset_device w step.unit r step.step))

-- THE STEPS
step_stay : (us ms : List UnitView) (e : Event) (r : Reply) → fault_of us ≡ None → Steps us e (ms, r) → IsPermutation (cartridges us) (cartridges ms)
step_stay [] ms e r h step = absurd cc
step_stay (c ∷ ds) ms (event.Command n at cdb bytes) r h step =
    let o = ordered c ds h in
    commands_stay c ds o n cdb.items bytes.items r ms at (goes c ds n cdb.items bytes.items ms r o at (slice_get (c ∷ ds) at) refl step)
step_stay (c ∷ ds) ms (event.Loss n at) r h step = equal (cartridges (c ∷ ds)) (cartridges ms) (loses_stay (c ∷ ds) ms at n r (slice_get (c ∷ ds) at) refl step)
step_stay (c ∷ ds) ms (event.Reset at) r h step = equal (cartridges (c ∷ ds)) (cartridges ms) (resets_stay (c ∷ ds) ms at r (slice_get (c ∷ ds) at) refl step)

pub cartridges_stay : CartridgesStay
cartridges_stay us vs [] [] h run = equal (cartridges us) (cartridges vs) (ap cartridges run)
cartridges_stay us vs (e ∷ es) (r ∷ rs) h run =
    IsPermutation-trans (cartridges us) (cartridges run.0) (cartridges vs) (step_stay us run.0 e r h run.1) (cartridges_stay run.0 vs es rs (step_order us run.0 e r h run.1) run.2)
cartridges_stay us vs [] (r ∷ rs) h run = absurd run
cartridges_stay us vs (e ∷ es) [] h run = absurd run

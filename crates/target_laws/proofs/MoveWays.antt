-- A move with drives, end by end: the volume goes its way, or none can and that is reported.
use Rattle.std.proofs.Common.{◌≡◌, ◌<◌, ℕ, Bool, true, false, List, [], ◌∷◌, Option, Some, None, Result, Ok, Err, inl, inr, refl, sym, ap, ◌∙◌, subst, arith}
use Rattle.std.proofs.lemmas.Map.Views.{exact_unsigned_eq}
use Rattle.std.specs.Prelude.{◌⊎◌, ◌≢◌, cond, is_some, ◌==◌, nat_lt, slice_get}
use Rattle.scsi_cdb.specs.declared.kind.Kind.{Kind}
use Rattle.scsi_cdb.specs.declared.kind.Kind.TheVariants as kind
use Rattle.scsi_sense.specs.declared.condition.Condition.{Condition}
use Rattle.scsi_sense.specs.declared.condition.Condition.TheVariants.{InternalTargetFailure, MediumRemovalPrevented}
use Rattle.tape_medium.specs.declared.volume.Volume.{Volume}
use Rattle.tape_medium.specs.declared.volume.VolumeTag.{VolumeTag}
use Rattle.audit_log.specs.declared.act.Act.TheVariants.{MediumOut}
use Rattle.device_server.specs.View.{DeviceView, kind_of, held_in, taken, put, journeyed}
use Rattle.device_server.specs.Volumes.{volume_at, SameVolume, SameAt}
use Rattle.device_server.specs.declared.fault.PutFault.{PutFault}
use Rattle.device_server.specs.declared.fault.TakeFault.{TakeFault}
use Rattle.device_server.proofs.PlaceLemmas.{takes_one, puts_one, exchanges_that_are_noted_move_nothing}
use Rattle.judgement.specs.UnitState.{is_prevented}
use Rattle.logical_unit.specs.Medium.{taken_as, taken_out, put_in}
use Rattle.logical_unit.specs.Move.{TwoDrives, names_held, given, noting, unloaded, loaded, passed, carried_by_one, exchanged_by, on_its_way, carried_one, upward, downward, carried_by_two, carried_two}
use Rattle.logical_unit.specs.Route.{named_by, named_among, named_in}
use Rattle.logical_unit.specs.Step.{with_event}
use Rattle.logical_unit.specs.UnitView.{UnitView}
use Rattle.logical_unit.specs.declared.medium_fault.MediumFault.{MediumFault}
use Rattle.logical_unit.specs.declared.route.Errand.{Errand}
use Rattle.logical_unit.specs.declared.route.Errand.TheVariants.{Move, Exchange}
use Rattle.logical_unit.specs.declared.route.ExchangeRoute.{ExchangeRoute}
use Rattle.logical_unit.specs.declared.route.Route.{Route}
use Rattle.logical_unit.proofs.Halves.{received_as, put_down, unloaded_by, taken_up, loaded_by, handed, passed_by, out_by, named_as, given_by, is_out, is_given, is_unloaded, is_loaded, is_passed, IsRemoved, IsPlaced, is_exchanged, came}
use Rattle.logical_unit.proofs.NamedDrives.{IsAlone, named_alone, named_one, named_two}
use Rattle.target_core.proofs.Places.{same_some}
use Rattle.target_laws.specs.Headline.{Goes, GoesBy, Crosses, GoBy, HasEnd, stop_at, stop_of, Halts, IsReported}
use Rattle.target_laws.proofs.VolumeStill.{noting_still, journey_still, drive_gives_out, drive_takes_in}

-- a drive that stands at a number stands at an equal one
at : (us : List UnitView) (a l : ℕ) (d : UnitView) → a ≡ l → slice_get us l ≡ Some d → slice_get us a ≡ Some d
at us a l d is there = ap (λ i. slice_get us i) is ∙ there

-- results as functions of what they hold
abbrev three_ok : DeviceView → UnitView → UnitView → Result (DeviceView × UnitView × UnitView) Condition
three_ok device e f = Ok (device, e, f)

abbrev three_err : Condition → Result (DeviceView × UnitView × UnitView) Condition
three_err condition = Err condition

abbrev by_way : DeviceView → TwoDrives → Route → Bool → Result (DeviceView × TwoDrives) Condition
by_way c ds q up = cond up (upward (passed c ds.low ds.high q)) (downward (passed c ds.high ds.low q))

-- with the way noted
abbrev noted_way : Route → DeviceView → DeviceView
noted_way q device = journeyed device q.source q.destination

-- THE VOLUME GOES, by what the ends are
abbrev pub By : (mid next : List UnitView) → (before after : DeviceView) → Route → (from to : Option ℕ) → Type 0
By mid next c device q from to = Goes mid next c device q.source from q.destination to

-- the changer is left as unnoted when the volume is down, and then notes the way
module _ (mid next : List UnitView) (c device : DeviceView) (q : Route) (unnoted : DeviceView) (notes : device ≡ journeyed unnoted q.source q.destination) where
  unloaded_goes : (a l : ℕ) (d e : UnitView) → a ≡ l → slice_get mid l ≡ Some d → slice_get next l ≡ Some e → unloaded c d q ≡ Ok (unnoted, e) → By mid next c device q (Some a) None
  unloaded_goes a l d e is there stays h =
      let u = is_unloaded c d q unnoted e h in
      record {
        volume = u.volume;
        without = c;
        gives = (record { was = d; is = e; there = at mid a l d is there; stays = at next a l e is stays; gives = u.gives.out; marked = u.gives.names }, refl);
        with_it = u.mid;
        takes = u.puts;
        marks = notes ∙ ap (noted_way q) u.marks;
        others = λ address not_source not_destination.
            journey_still device unnoted q notes address ∙ ap (λ (x : DeviceView). volume_at x address) u.marks ∙ noting_still u.mid q.source None address ∙ (puts_one c u.mid q.destination u.volume u.puts).others address not_destination;
      }

  loaded_goes : (b l : ℕ) (d e : UnitView) → b ≡ l → slice_get mid l ≡ Some d → slice_get next l ≡ Some e → loaded c d q ≡ Ok (unnoted, e) → By mid next c device q None (Some b)
  loaded_goes b l d e is there stays h =
      let u = is_loaded c d q unnoted e h in
      record {
        volume = u.volume;
        without = u.mid;
        gives = u.takes;
        with_it = u.mid;
        takes = (record { was = d; is = e; there = at mid b l d is there; stays = at next b l e is stays; takes = u.comes }, refl);
        marks = notes ∙ ap (noted_way q) u.marks;
        others = λ address not_source not_destination.
            journey_still device unnoted q notes address ∙ ap (λ (x : DeviceView). volume_at x address) u.marks ∙ noting_still u.mid q.destination (Some u.volume.tag) address ∙ (takes_one c u.mid q.source u.volume u.takes).others address not_source;
      }

  passed_goes : (a b l m : ℕ) (g t e f : UnitView) → a ≡ l → b ≡ m → slice_get mid l ≡ Some g → slice_get next l ≡ Some e → slice_get mid m ≡ Some t → slice_get next m ≡ Some f → passed c g t q ≡ Ok (unnoted, e, f) → By mid next c device q (Some a) (Some b)
  passed_goes a b l m g t e f from to giver gave taker took h =
      let u = is_passed c g t q unnoted e f h in
      let first = noting c q.source None in
      record {
        volume = u.volume;
        without = c;
        gives = (record { was = g; is = e; there = at mid a l g from giver; stays = at next a l e from gave; gives = u.gives.out; marked = u.gives.names }, refl);
        with_it = c;
        takes = (record { was = t; is = f; there = at mid b m t to taker; stays = at next b m f to took; takes = u.comes }, refl);
        marks = notes ∙ ap (noted_way q) u.marks;
        others = λ address not_source not_destination.
            journey_still device unnoted q notes address ∙ ap (λ (x : DeviceView). volume_at x address) u.marks ∙ noting_still first q.destination (Some u.volume.tag) address ∙ noting_still c q.source None address;
      }

  by_one : (l : ℕ) (d e : UnitView) (from to : Option ℕ) → named_by from to ≡ l ∷ [] → slice_get mid l ≡ Some d → slice_get next l ≡ Some e → carried_by_one c d q from to ≡ Ok (unnoted, e) → By mid next c device q from to
  by_one l d e None None names there stays h = absurd cc
  by_one l d e (Some a) None names there stays h = let is : a ≡ l = cc in unloaded_goes a l d e is there stays h
  by_one l d e None (Some b) names there stays h = let is : b ≡ l = cc in loaded_goes b l d e is there stays h
  by_one l d e (Some a) (Some b) names there stays h = absurd cc

  -- the ends are drives, by their numbers
  between : (a b : ℕ) → q.from ≡ Some a → q.to ≡ Some b → By mid next c device q (Some a) (Some b) → GoesBy mid next c device q
  between a b from to goes =
      subst (λ (o : Option ℕ). By mid next c device q o q.to) (sym from) (subst (λ (o : Option ℕ). By mid next c device q (Some a) o) (sym to) goes)

  upward_goes : (l m : ℕ) (ds es : TwoDrives) (o : Result (DeviceView × UnitView × UnitView) Condition) → slice_get mid l ≡ Some ds.low → slice_get next l ≡ Some es.low → slice_get mid m ≡ Some ds.high → slice_get next m ≡ Some es.high
      → passed c ds.low ds.high q ≡ o → upward o ≡ Ok (unnoted, es) → By mid next c device q (Some l) (Some m)
  upward_goes l m ds es (Ok it) low lower high higher h e =
      let is : ◌≡◌ {A = DeviceView × TwoDrives} (it.0, record { low = it.1; high = it.2 }) (unnoted, es) = cc in
      let passes : passed c ds.low ds.high q ≡ Ok (unnoted, es.low, es.high) = h ∙ ap (λ (x : DeviceView × TwoDrives). three_ok x.0 x.1.low x.1.high) is in
      passed_goes l m l m ds.low ds.high es.low es.high refl refl low lower high higher passes
  upward_goes l m ds es (Err condition) low lower high higher h e = absurd cc

  downward_goes : (l m : ℕ) (ds es : TwoDrives) (o : Result (DeviceView × UnitView × UnitView) Condition) → slice_get mid l ≡ Some ds.low → slice_get next l ≡ Some es.low → slice_get mid m ≡ Some ds.high → slice_get next m ≡ Some es.high
      → passed c ds.high ds.low q ≡ o → downward o ≡ Ok (unnoted, es) → By mid next c device q (Some m) (Some l)
  downward_goes l m ds es (Ok it) low lower high higher h e =
      let is : ◌≡◌ {A = DeviceView × TwoDrives} (it.0, record { low = it.2; high = it.1 }) (unnoted, es) = cc in
      let passes : passed c ds.high ds.low q ≡ Ok (unnoted, es.high, es.low) = h ∙ ap (λ (x : DeviceView × TwoDrives). three_ok x.0 x.1.high x.1.low) is in
      passed_goes m l m l ds.high ds.low es.high es.low refl refl high higher low lower passes
  downward_goes l m ds es (Err condition) low lower high higher h e = absurd cc

  by_two : (l m : ℕ) (more : List ℕ) (ds es : TwoDrives) → named_by q.from q.to ≡ l ∷ m ∷ more → slice_get mid l ≡ Some ds.low → slice_get next l ≡ Some es.low → slice_get mid m ≡ Some ds.high → slice_get next m ≡ Some es.high
      → carried_by_two c ds q ≡ Ok (unnoted, es) → GoesBy mid next c device q
  by_two l m more ds es names low lower high higher h =
      elim (named_two q.from q.to l m more names).1 [
        | inl up ↦ between l m up.from_is up.to_is (upward_goes l m ds es (passed c ds.low ds.high q) low lower high higher refl (sym (ap (by_way c ds q) up.way) ∙ h))
        | inr down ↦ between m l down.from_is down.to_is (downward_goes l m ds es (passed c ds.high ds.low q) low lower high higher refl (sym (ap (by_way c ds q) down.way) ∙ h))
      ]

module _ (mid next : List UnitView) (c device : DeviceView) (q : Route) where
  pub one_goes : (l : ℕ) (d e : UnitView) → named_by q.from q.to ≡ l ∷ [] → slice_get mid l ≡ Some d → slice_get next l ≡ Some e → carried_one c d (Some (Move q)) ≡ Ok (device, e) → GoesBy mid next c device q
  one_goes l d e names there stays h =
      let w = came (Move q) (carried_by_one c d q q.from q.to) device e h in
      by_one mid next c device q w.mid w.notes l d e q.from q.to names there stays w.carries

  pub two_goes : (l m : ℕ) (more : List ℕ) (ds es : TwoDrives) → named_by q.from q.to ≡ l ∷ m ∷ more → slice_get mid l ≡ Some ds.low → slice_get next l ≡ Some es.low → slice_get mid m ≡ Some ds.high → slice_get next m ≡ Some es.high
      → carried_two c ds (Some (Move q)) ≡ Ok (device, es) → GoesBy mid next c device q
  two_goes l m more ds es names low lower high higher h =
      let w = came (Move q) (carried_by_two c ds q) device es h in
      by_two mid next c device q w.mid w.notes l m more ds es names low lower high higher w.carries

-- WHAT IS REPORTED of a drive that doesn't give its volume, and where the volume doesn't come down
abbrev stopped_by : Kind → (prevented : Bool) → Condition
stopped_by k prevented = elim k [ kind.Drive ↦ cond prevented MediumRemovalPrevented InternalTargetFailure | kind.Changer ↦ InternalTargetFailure ]

unnamed : (it : Volume × UnitView) (b : Bool) (condition : Condition) → ◌≡◌ {A = Result (Volume × UnitView) Condition} (cond b (Ok it) (Err InternalTargetFailure)) (Err condition) → condition ≡ InternalTargetFailure
unnamed it true condition h = absurd cc
unnamed it false condition h = cc

given_as : (mark : Option VolumeTag) (d : UnitView) (o : Result (Volume × DeviceView) TakeFault) (condition : Condition) → given_by mark (taken_as d o) ≡ Err condition → condition ≡ InternalTargetFailure
given_as mark d (Ok it) condition h = unnamed (it.0, with_event d None MediumOut (record { device = it.1; state = d.state })) (names_held mark (Some it.0.tag)) condition h
given_as mark d (Err fault) condition h = cc

given_kind : (mark : Option VolumeTag) (d : UnitView) (k : Kind) (prevented : Bool) (condition : Condition) → given_by mark (out_by d k prevented) ≡ Err condition → condition ≡ stopped_by k prevented
given_kind mark d kind.Changer prevented condition h = cc
given_kind mark d kind.Drive true condition h = cc
given_kind mark d kind.Drive false condition h = given_as mark d (taken d.device 0) condition h

given_stops : (mark : Option VolumeTag) (d : UnitView) (condition : Condition) → given mark d ≡ Err condition → condition ≡ stop_at (Some d)
given_stops mark d condition h = given_kind mark d (kind_of d.device) (is_prevented d.state) condition h

-- nothing of it is reported of a drive that gives
free_stop : (mark : Option VolumeTag) (d e : UnitView) (v : Volume) → given mark d ≡ Ok (v, e) → stop_at (Some d) ≡ InternalTargetFailure
free_stop mark d e v h =
    let out = is_out d e v (is_given mark d e v h).out in
    ap (λ (k : Kind). stopped_by k (is_prevented d.state)) out.kind ∙ ap (stopped_by kind.Drive) out.free

put_stops : (q : Route) (d : UnitView) (o : Result DeviceView PutFault) (condition : Condition) → put_down q d o ≡ Err condition → condition ≡ InternalTargetFailure
put_stops q d (Ok after) condition h = absurd cc
put_stops q d (Err fault) condition h = cc

take_stops : (q : Route) (v : Volume) (mid : DeviceView) (o : Result UnitView MediumFault) (condition : Condition) → taken_up q v mid (received_as o) ≡ Err condition → condition ≡ InternalTargetFailure
take_stops q v mid (Ok after) condition h = absurd cc
take_stops q v mid (Err fault) condition h = cc

hand_stops : (c : DeviceView) (q : Route) (v : Volume) (d : UnitView) (o : Result UnitView MediumFault) (condition : Condition) → handed c q v d (received_as o) ≡ Err condition → condition ≡ InternalTargetFailure
hand_stops c q v d (Ok after) condition h = absurd cc
hand_stops c q v d (Err fault) condition h = cc

unloaded_stop : (c : DeviceView) (d : UnitView) (q : Route) (condition : Condition) (o : Result (Volume × UnitView) Condition) → given (held_in c q.source) d ≡ o → unloaded_by c q o ≡ Err condition → condition ≡ stop_at (Some d)
unloaded_stop c d q condition (Ok it) there h = put_stops q it.1 (put c q.destination it.0) condition h ∙ sym (free_stop (held_in c q.source) d it.1 it.0 there)
unloaded_stop c d q condition (Err reported) there h =
    let is : reported ≡ condition = cc in
    sym is ∙ given_stops (held_in c q.source) d reported there

loaded_stop : (c : DeviceView) (d : UnitView) (q : Route) (condition : Condition) (o : Result (Volume × DeviceView) TakeFault) → loaded_by d q o ≡ Err condition → condition ≡ InternalTargetFailure
loaded_stop c d q condition (Ok it) h = take_stops q it.0 it.1 (put_in d it.0) condition h
loaded_stop c d q condition (Err fault) h = cc

passed_stop : (c : DeviceView) (g t : UnitView) (q : Route) (condition : Condition) (o : Result (Volume × UnitView) Condition) → given (held_in c q.source) g ≡ o → passed_by c t q o ≡ Err condition → condition ≡ stop_at (Some g)
passed_stop c g t q condition (Ok it) there h = hand_stops c q it.0 it.1 (put_in t it.0) condition h ∙ sym (free_stop (held_in c q.source) g it.1 it.0 there)
passed_stop c g t q condition (Err reported) there h =
    let is : reported ≡ condition = cc in
    sym is ∙ given_stops (held_in c q.source) g reported there

-- WHERE A VOLUME COULD GO it does
record Can {A : Type 0} (carried : Result A Condition) : Type 0 where
  to : A
  is : carried ≡ Ok to

module _ (mid ms : List UnitView) (c device : DeviceView) (q : Route) where
  here : (drive l : ℕ) (was d : UnitView) → drive ≡ l → slice_get mid drive ≡ Some was → slice_get mid l ≡ Some d → was ≡ d
  here drive l was d is first there = same_some was d (sym first ∙ at mid drive l d is there)

  unloaded_can : (a l : ℕ) (d : UnitView) → a ≡ l → slice_get mid l ≡ Some d → By mid ms c device q (Some a) None → Can (unloaded c d q)
  unloaded_can a l d is there g =
      let it = g.gives.0 in
      let mark = held_in c q.source in
      let gives : taken_out d ≡ Ok (g.volume, it.is) = subst (λ (x : UnitView). taken_out x ≡ Ok (g.volume, it.is)) (here a l it.was d is it.there there) it.gives in
      let puts : put c q.destination g.volume ≡ Ok g.with_it = subst (λ (x : DeviceView). put x q.destination g.volume ≡ Ok g.with_it) g.gives.1 g.takes in
      record {
        to = (noting g.with_it q.source None, it.is);
        is = ap (λ (o : Result (Volume × UnitView) MediumFault). unloaded_by c q (given_by mark o)) gives
            ∙ ap (λ (b : Bool). unloaded_by c q (named_as mark (g.volume, it.is) b)) it.marked
            ∙ ap (put_down q it.is) puts;
      }

  loaded_can : (b l : ℕ) (d : UnitView) → b ≡ l → slice_get mid l ≡ Some d → By mid ms c device q None (Some b) → Can (loaded c d q)
  loaded_can b l d is there g =
      let it = g.takes.0 in
      let comes : put_in d g.volume ≡ Ok it.is = subst (λ (x : UnitView). put_in x g.volume ≡ Ok it.is) (here b l it.was d is it.there there) it.takes in
      record {
        to = (noting g.without q.destination (Some g.volume.tag), it.is);
        is = ap (loaded_by d q) g.gives ∙ ap (λ (o : Result UnitView MediumFault). taken_up q g.volume g.without (received_as o)) comes;
      }

  passed_can : (a b l m : ℕ) (x t : UnitView) → a ≡ l → b ≡ m → slice_get mid l ≡ Some x → slice_get mid m ≡ Some t → By mid ms c device q (Some a) (Some b) → Can (passed c x t q)
  passed_can a b l m x t from to giver taker g =
      let one = g.gives.0 in
      let two = g.takes.0 in
      let mark = held_in c q.source in
      let gives : taken_out x ≡ Ok (g.volume, one.is) = subst (λ (u : UnitView). taken_out u ≡ Ok (g.volume, one.is)) (here a l one.was x from one.there giver) one.gives in
      let comes : put_in t g.volume ≡ Ok two.is = subst (λ (u : UnitView). put_in u g.volume ≡ Ok two.is) (here b m two.was t to two.there taker) two.takes in
      record {
        to = (noting (noting c q.source None) q.destination (Some g.volume.tag), one.is, two.is);
        is = ap (λ (o : Result (Volume × UnitView) MediumFault). passed_by c t q (given_by mark o)) gives
            ∙ ap (λ (b : Bool). passed_by c t q (named_as mark (g.volume, one.is) b)) one.marked
            ∙ ap (λ (o : Result UnitView MediumFault). handed c q g.volume one.is (received_as o)) comes;
      }

  -- a drive doesn't take in what it gives
  not_itself : (a b l : ℕ) (d : UnitView) → a ≡ l → b ≡ l → slice_get mid l ≡ Some d → By mid ms c device q (Some a) (Some b) → ⊥
  not_itself a b l d from to there g =
      let one = g.gives.0 in
      let two = g.takes.0 in
      let out = drive_gives_out d one.is g.volume (subst (λ (u : UnitView). taken_out u ≡ Ok (g.volume, one.is)) (here a l one.was d from one.there there) one.gives) in
      let into = drive_takes_in d two.is g.volume (subst (λ (u : UnitView). put_in u g.volume ≡ Ok two.is) (here b l two.was d to two.there there) two.takes) in
      subst (λ (o : Option Volume). SameAt SameVolume o (Some g.volume)) into.empty out.full

-- what isn't carried isn't noted
unnoted_stops : {A : Type 0} (q : Errand) (carried : Result (DeviceView × A) Condition) (condition : Condition) → on_its_way q carried ≡ Err condition → carried ≡ Err condition
unnoted_stops {A} q (Ok it) condition h = absurd cc
unnoted_stops {A} q (Err reported) condition h = h

-- NONE CAN GO, and that is reported
abbrev pub Stops : (mid : List UnitView) (c : DeviceView) (q : Route) (condition : Condition) (from to : Option ℕ) → Type 0
Stops mid c q condition from to = (condition ≡ stop_of mid from to) × ((ms : List UnitView) (device : DeviceView) → ¬ By mid ms c device q from to)

-- one drive is named by both ends only where they are one
once : (same less : Bool) (a b l : ℕ) → cond same (a ∷ []) (cond less (a ∷ b ∷ []) (b ∷ a ∷ [])) ≡ l ∷ [] → (same ≡ true) × (a ≡ l)
once true less a b l h = (refl, cc)
once false true a b l h = absurd cc
once false false a b l h = absurd cc

apart : (l m : ℕ) → l < m → (l == m) ≡ false
apart l m less = elim (l == m) as (λ t. (l == m) ≡ t → t ≡ false) [
  | true ↦ λ e. let is : l ≡ m = exact_unsigned_eq l m e in absurd (omega (arith, is, less))
  | false ↦ λ e. refl
] refl

apart_down : (l m : ℕ) → l < m → (m == l) ≡ false
apart_down l m less = elim (m == l) as (λ t. (m == l) ≡ t → t ≡ false) [
  | true ↦ λ e. let is : m ≡ l = exact_unsigned_eq m l e in absurd (omega (arith, is, less))
  | false ↦ λ e. refl
] refl

module _ (mid : List UnitView) (c : DeviceView) (q : Route) (condition : Condition) where
  stop_by : (l : ℕ) (d : UnitView) (from to : Option ℕ) → named_by from to ≡ l ∷ [] → slice_get mid l ≡ Some d → carried_by_one c d q from to ≡ Err condition → Stops mid c q condition from to
  stop_by l d None None names there h = absurd cc
  stop_by l d (Some a) None names there h =
      let is : a ≡ l = cc in (
        unloaded_stop c d q condition (given (held_in c q.source) d) refl h ∙ sym (ap stop_at (at mid a l d is there)),
        λ ms device g. let can = (unloaded_can mid ms c device q a l d is there g).is in cc,
      )
  stop_by l d None (Some b) names there h =
      let is : b ≡ l = cc in (
        loaded_stop c d q condition (taken c q.source) h,
        λ ms device g. let can = (loaded_can mid ms c device q b l d is there g).is in cc,
      )
  stop_by l d (Some a) (Some b) names there h =
      let one = once (a == b) (nat_lt a b) a b l names in
      let other : b ≡ l = sym (exact_unsigned_eq a b one.0) ∙ one.1 in
      let is : condition ≡ InternalTargetFailure = cc in (
        is ∙ sym (ap (λ (t : Bool). cond t InternalTargetFailure (stop_at (slice_get mid a))) one.0),
        λ ms device g. not_itself mid ms c device q a b l d one.1 other there g,
      )

  pub one_stops : (l : ℕ) (d : UnitView) → named_by q.from q.to ≡ l ∷ [] → slice_get mid l ≡ Some d → carried_one c d (Some (Move q)) ≡ Err condition → Stops mid c q condition q.from q.to
  one_stops l d names there h = stop_by l d q.from q.to names there (unnoted_stops (Move q) (carried_by_one c d q q.from q.to) condition h)

  ends_are : (a b : ℕ) → q.from ≡ Some a → q.to ≡ Some b → Stops mid c q condition (Some a) (Some b) → Stops mid c q condition q.from q.to
  ends_are a b from to stops =
      subst (λ (o : Option ℕ). Stops mid c q condition o q.to) (sym from) (subst (λ (o : Option ℕ). Stops mid c q condition (Some a) o) (sym to) stops)

  between_stops : (a b : ℕ) (x t : UnitView) → (a == b) ≡ false → slice_get mid a ≡ Some x → slice_get mid b ≡ Some t → passed c x t q ≡ Err condition → Stops mid c q condition (Some a) (Some b)
  between_stops a b x t far giver taker h = (
    passed_stop c x t q condition (given (held_in c q.source) x) refl h
        ∙ sym (ap stop_at giver)
        ∙ sym (ap (λ (s : Bool). cond s InternalTargetFailure (stop_at (slice_get mid a))) far),
    λ ms device g. let can = (passed_can mid ms c device q a b a b x t refl refl giver taker g).is in cc,
  )

  upward_stops : (o : Result (DeviceView × UnitView × UnitView) Condition) → upward o ≡ Err condition → o ≡ Err condition
  upward_stops (Ok it) h = absurd cc
  upward_stops (Err reported) h = let is : reported ≡ condition = cc in ap three_err is

  downward_stops : (o : Result (DeviceView × UnitView × UnitView) Condition) → downward o ≡ Err condition → o ≡ Err condition
  downward_stops (Ok it) h = absurd cc
  downward_stops (Err reported) h = let is : reported ≡ condition = cc in ap three_err is

  pub two_stop : (l m : ℕ) (more : List ℕ) (ds : TwoDrives) → named_by q.from q.to ≡ l ∷ m ∷ more → slice_get mid l ≡ Some ds.low → slice_get mid m ≡ Some ds.high → carried_two c ds (Some (Move q)) ≡ Err condition → Stops mid c q condition q.from q.to
  two_stop l m more ds names low high h =
      let two = named_two q.from q.to l m more names in
      let stopped : carried_by_two c ds q ≡ Err condition = unnoted_stops (Move q) (carried_by_two c ds q) condition h in
      elim two.1 [
        | inl up ↦ ends_are l m up.from_is up.to_is (between_stops l m ds.low ds.high (apart l m two.0) low high (upward_stops (passed c ds.low ds.high q) (sym (ap (by_way c ds q) up.way) ∙ stopped)))
        | inr down ↦ ends_are m l down.from_is down.to_is (between_stops m l ds.high ds.low (apart_down l m two.0) high low (downward_stops (passed c ds.high ds.low q) (sym (ap (by_way c ds q) down.way) ∙ stopped)))
      ]

-- AN EXCHANGE goes its way, or its steps report why not
removed_others : (of_drive : Bool) (c : DeviceView) (d : UnitView) (address : ℕ) (v : Volume) (after : DeviceView) (e : UnitView) → IsRemoved of_drive c d address v after e
    → (place : ℕ) → place ≢ address → volume_at after place ≡ volume_at c place
removed_others true c d address v after e is place apart = ap (λ (x : DeviceView). volume_at x place) is.marks ∙ noting_still c address None place
removed_others false c d address v after e is place apart = (takes_one c after address v is.takes).others place apart

placed_others : (of_drive : Bool) (c : DeviceView) (d : UnitView) (address : ℕ) (v : Volume) (after : DeviceView) (e : UnitView) → IsPlaced of_drive c d address v after e
    → (place : ℕ) → place ≢ address → volume_at after place ≡ volume_at c place
placed_others true c d address v after e is place apart = ap (λ (x : DeviceView). volume_at x place) is.marks ∙ noting_still c address (Some v.tag) place
placed_others false c d address v after e is place apart = (puts_one c after address v is.puts).others place apart

-- one drive is named, the same whoever names it
first_of : List ℕ → ℕ
first_of [] = 0
first_of (l ∷ more) = l

same_drive : (x : ExchangeRoute) (l m : ℕ) → named_in (Some (Exchange x)) ≡ l ∷ [] → named_in (Some (Exchange x)) ≡ m ∷ [] → l ≡ m
unfolding first_of
same_drive x l m first second = ap first_of (sym first ∙ second)

module _ (mid : List UnitView) (c : DeviceView) (x : ExchangeRoute) (l : ℕ) (d : UnitView) (names : named_in (Some (Exchange x)) ≡ l ∷ []) (there : slice_get mid l ≡ Some d) where
  abbrev by_steps : UnitView → Result (DeviceView × UnitView) Condition
  by_steps was = exchanged_by c was x (is_some x.from) (is_some x.between) (is_some x.to)

  crosses : (next : List UnitView) (device : DeviceView) (e : UnitView) → slice_get next l ≡ Some e → carried_one c d (Some (Exchange x)) ≡ Ok (device, e) → Crosses mid next c device x
  crosses next device e stays h =
      let w = came (Exchange x) (by_steps d) device e h in
      let s = is_exchanged c d x (is_some x.from) (is_some x.between) (is_some x.to) w.mid e w.carries in
      record {
        drive = l;
        alone = names;
        was = d;
        is = e;
        there = there;
        stays = stays;
        unnoted = w.mid;
        steps = w.carries;
        marks = w.notes;
        others = λ address from between to.
            ap (λ (y : DeviceView). volume_at y address) w.notes ∙ exchanges_that_are_noted_move_nothing w.mid x.source x.first x.second address
            ∙ placed_others (is_some x.to) s.with_one s.drive_with x.second s.other w.mid e s.second address to
            ∙ placed_others (is_some x.between) s.without_both s.drive_both x.first s.one s.with_one s.drive_with s.places address between
            ∙ removed_others (is_some x.between) s.without_one s.drive_one x.first s.other s.without_both s.drive_both s.first address between
            ∙ removed_others (is_some x.from) c d x.source s.one s.without_one s.drive_one s.source address from;
      }

  halts : (condition : Condition) → carried_one c d (Some (Exchange x)) ≡ Err condition → Halts mid c x condition
  halts condition h = record { drive = l; alone = names; was = d; there = there; steps = unnoted_stops (Exchange x) (by_steps d) condition h }

  -- and then no units after it are those of an exchange
  does_not_cross : (condition : Condition) → carried_one c d (Some (Exchange x)) ≡ Err condition → (ms : List UnitView) (device : DeviceView) → ¬ Crosses mid ms c device x
  does_not_cross condition h ms device g =
      let at : l ≡ g.drive = same_drive x l g.drive names g.alone in
      let was : g.was ≡ d = same_some g.was d (sym g.there ∙ ap (λ i. slice_get mid i) (sym at) ∙ there) in
      let goes : by_steps d ≡ Ok (g.unnoted, g.is) = ap by_steps (sym was) ∙ g.steps in
      let both : ◌≡◌ {A = Result (DeviceView × UnitView) Condition} (Ok (g.unnoted, g.is)) (Err condition) = sym goes ∙ unnoted_stops (Exchange x) (by_steps d) condition h in
      absurd cc

-- WHAT A COMMAND WITH ONE DRIVE ASKS goes, or is stopped
abbrev pub StopsBy : (mid : List UnitView) (c : DeviceView) (q : Errand) (condition : Condition) → Type 0
StopsBy mid c q condition = IsReported mid c q condition × ((ms : List UnitView) (device : DeviceView) → ¬ GoBy mid ms c device q)

pub errand_goes : (mid next : List UnitView) (c device : DeviceView) (q : Errand) (l : ℕ) (d e : UnitView) → named_in (Some q) ≡ l ∷ [] → slice_get mid l ≡ Some d → slice_get next l ≡ Some e
    → carried_one c d (Some q) ≡ Ok (device, e) → GoBy mid next c device q
errand_goes mid next c device (Move q) l d e names there stays h = one_goes mid next c device q l d e names there stays h
errand_goes mid next c device (Exchange x) l d e names there stays h = crosses mid c x l d names there next device e stays h

pub errand_stops : (mid : List UnitView) (c : DeviceView) (q : Errand) (condition : Condition) (l : ℕ) (d : UnitView) → named_in (Some q) ≡ l ∷ [] → slice_get mid l ≡ Some d
    → carried_one c d (Some q) ≡ Err condition → StopsBy mid c q condition
errand_stops mid c (Move q) condition l d names there h = one_stops mid c q condition l d names there h
errand_stops mid c (Exchange x) condition l d names there h = (halts mid c x l d names there condition h, does_not_cross mid c x l d names there condition h)

-- AN END OF THE WAY is each drive that is named
alone_ends : (from between to : Option ℕ) (l : ℕ) → named_among from between to ≡ l ∷ [] → IsAlone from between to l [] → (from ≡ Some l) ⊎ ((between ≡ Some l) ⊎ (to ≡ Some l))
alone_ends None None None l names alone = absurd cc
alone_ends (Some a) between to l names alone = inl (elim alone.from_is [ inl none ↦ absurd cc | inr at ↦ at ])
alone_ends None (Some b) to l names alone = inr (inl (elim alone.between_is [ inl none ↦ absurd cc | inr at ↦ at ]))
alone_ends None None (Some t) l names alone = inr (inr (elim alone.to_is [ inl none ↦ absurd cc | inr at ↦ at ]))

pub end_one : (q : Errand) (l : ℕ) → named_in (Some q) ≡ l ∷ [] → HasEnd q l
end_one (Move q) l names = named_one q.from q.to l names
end_one (Exchange x) l names = alone_ends x.from x.between x.to l names (named_alone x.from x.between x.to l [] names)

pub ends_two : (q : Route) (l m : ℕ) (more : List ℕ) → named_by q.from q.to ≡ l ∷ m ∷ more → ((q.from ≡ Some l) ⊎ (q.to ≡ Some l)) × ((q.from ≡ Some m) ⊎ (q.to ≡ Some m))
ends_two q l m more names =
    elim (named_two q.from q.to l m more names).1 [
      | inl up ↦ (inl up.from_is, inr up.to_is)
      | inr down ↦ (inr down.to_is, inl down.from_is)
    ]

-- no third drive is
no_third : (same less : Bool) (a b l m : ℕ) (more : List ℕ) → cond same (a ∷ []) (cond less (a ∷ b ∷ []) (b ∷ a ∷ [])) ≡ l ∷ m ∷ more → more ≡ []
no_third true less a b l m more h = absurd cc
no_third false true a b l m more h = cc
no_third false false a b l m more h = cc

pub no_more : (from to : Option ℕ) (l m : ℕ) (more : List ℕ) → named_by from to ≡ l ∷ m ∷ more → more ≡ []
no_more None None l m more h = absurd cc
no_more (Some a) None l m more h = absurd cc
no_more None (Some b) l m more h = absurd cc
no_more (Some a) (Some b) l m more h = no_third (a == b) (nat_lt a b) a b l m more h

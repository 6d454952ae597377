-- A move leaves each unit the same one.
use Rattle.std.proofs.Common.{◌≡◌, ℕ, Bool, true, false, List, [], ◌∷◌, Option, Some, None, Result, Ok, Err, refl, sym, ap, ◌∙◌, subst, inl, inr}
use Rattle.std.specs.Prelude.{cond, is_some}
use Rattle.scsi_cdb.specs.declared.kind.Kind.TheVariants as kind
use Rattle.scsi_nexus.specs.declared.nexus.Nexus.{Nexus}
use Rattle.scsi_sense.specs.declared.condition.Condition.{Condition}
use Rattle.tape_medium.specs.declared.volume.Volume.{Volume}
use Rattle.tape_medium.specs.declared.volume.VolumeTag.{VolumeTag}
use Rattle.device_server.specs.Ends.{IsSameDevice}
use Rattle.device_server.specs.View.{DeviceView, kind_of, commands_of, drives_of, marked}
use Rattle.device_server.specs.declared.fault.BadPlace.{BadPlace}
use Rattle.device_server.proofs.SameDevice.{journey_same, exchange_same}
use Rattle.device_server.proofs.MarkLemmas.{drives_give, drives_get, changers_give, changers_get, marks_one}
use Rattle.judgement.specs.History.{accepted_as, after_history}
use Rattle.judgement.specs.Replies.{good, check}
use Rattle.judgement.specs.declared.reply.Reply.{Reply}
use Rattle.judgement.specs.Commands.{decoded_command}
use Rattle.judgement.specs.declared.command.Command.{Command}
use Rattle.judgement.specs.declared.command.Command.TheVariants.{Device}
use Rattle.logical_unit.specs.Medium.{taken_out, put_in}
use Rattle.logical_unit.specs.Move.{TwoDrives, noting, unloaded, loaded, passed, carried_by_one, exchanged_by, errand_noted, carried_with_one, carried_one, upward, downward, carried_by_two, carried_two, errand_at, MovesOne, MovesTwo, IsSameUnit}
use Rattle.logical_unit.specs.Route.{named, is_upward}
use Rattle.logical_unit.specs.Step.{Executes}
use Rattle.logical_unit.specs.UnitView.{UnitView}
use Rattle.logical_unit.specs.declared.route.Errand.{Errand}
use Rattle.logical_unit.specs.declared.route.Errand.TheVariants.{Move, Exchange}
use Rattle.logical_unit.specs.declared.route.ExchangeRoute.{ExchangeRoute}
use Rattle.logical_unit.specs.declared.route.Route.{Route}
use Rattle.logical_unit.proofs.Halves.{is_out, is_in, is_unloaded, is_loaded, is_passed, IsRemoved, IsPlaced, is_exchanged, came}
use Rattle.logical_unit.proofs.History.{executes_stays}
use Rattle.logical_unit.proofs.Moved.{Ends, Became, one_became, two_became}
use Rattle.logical_unit.proofs.NamedDrives.{HasErrand, has_errand, errand_asked}

pub same_unit : (u : UnitView) → IsSameUnit u u
same_unit u = record { device = record { kind = refl; profile = refl; identity = refl; drives = refl }; lun = refl; units = refl; profile = refl; reservations = refl }

unit_is : (u v w : UnitView) → w ≡ v → IsSameUnit u v → IsSameUnit u w
unit_is u v w is same = subst (λ (x : UnitView). IsSameUnit u x) (sym is) same

then_same : (a b c : DeviceView) → IsSameDevice a b → IsSameDevice b c → IsSameDevice a c
then_same a b c p q = record { kind = q.kind ∙ p.kind; profile = q.profile ∙ p.profile; identity = q.identity ∙ p.identity; drives = q.drives ∙ p.drives }

-- THE DRIVES
pub out_same : (d e : UnitView) (v : Volume) → taken_out d ≡ Ok (v, e) → IsSameUnit d e
out_same d e v h =
    let out = is_out d e v h in
    unit_is d _ e out.unit (record { device = (drives_give d.device out.device 0 v out.kind out.taken).device; lun = refl; units = refl; profile = refl; reservations = refl })

pub in_same : (d e : UnitView) (v : Volume) → put_in d v ≡ Ok e → IsSameUnit d e
in_same d e v h =
    let come = is_in d e v h in
    unit_is d _ e come.unit (record { device = (drives_get d.device come.device 0 v come.kind come.put).device; lun = refl; units = refl; profile = refl; reservations = refl })

-- THE CHANGER
noted_same : (device : DeviceView) (address : ℕ) (tag : Option VolumeTag) (o : Result DeviceView BadPlace) → marked device address tag ≡ o → IsSameDevice device (elim o [ Ok after ↦ after | Err fault ↦ device ])
noted_same device address tag (Ok after) h = (marks_one device after address tag h).device
noted_same device address tag (Err fault) h = record { kind = refl; profile = refl; identity = refl; drives = refl }

pub noting_same : (device : DeviceView) (address : ℕ) (tag : Option VolumeTag) → IsSameDevice device (noting device address tag)
noting_same device address tag = noted_same device address tag (marked device address tag) refl

-- what is carried leaves a changer of the same size, and each drive the same unit
pub record OneSame (c : DeviceView) (d : UnitView) (device : DeviceView) (e : UnitView) : Type 0 where
  pub changer : IsSameDevice c device
  pub drive : IsSameUnit d e

device_is : (a b c : DeviceView) → c ≡ b → IsSameDevice a b → IsSameDevice a c
device_is a b c is same = subst (λ (x : DeviceView). IsSameDevice a x) (sym is) same

pub errand_same : (errand : Errand) (mid : DeviceView) → IsSameDevice mid (errand_noted errand mid)
errand_same (Move r) mid = journey_same mid r.source r.destination
errand_same (Exchange x) mid = exchange_same mid x.source x.first x.second

noted_on_its_way : (c mid device : DeviceView) (errand : Errand) → IsSameDevice c mid → device ≡ errand_noted errand mid → IsSameDevice c device
noted_on_its_way c mid device errand same notes =
    device_is c (errand_noted errand mid) device notes (then_same c mid (errand_noted errand mid) same (errand_same errand mid))

unloaded_same : (c : DeviceView) (d : UnitView) (r : Route) (device : DeviceView) (e : UnitView) → kind_of c ≡ kind.Changer → unloaded c d r ≡ Ok (device, e) → OneSame c d device e
unloaded_same c d r device e k h =
    let u = is_unloaded c d r device e h in
    record {
      changer = device_is c (noting u.mid r.source None) device u.marks (then_same c u.mid (noting u.mid r.source None) (changers_get c u.mid r.destination u.volume k u.puts).device (noting_same u.mid r.source None));
      drive = out_same d e u.volume u.gives.out;
    }

loaded_same : (c : DeviceView) (d : UnitView) (r : Route) (device : DeviceView) (e : UnitView) → kind_of c ≡ kind.Changer → loaded c d r ≡ Ok (device, e) → OneSame c d device e
loaded_same c d r device e k h =
    let u = is_loaded c d r device e h in
    record {
      changer = device_is c (noting u.mid r.destination (Some u.volume.tag)) device u.marks (then_same c u.mid (noting u.mid r.destination (Some u.volume.tag)) (changers_give c u.mid r.source u.volume k u.takes).device (noting_same u.mid r.destination (Some u.volume.tag)));
      drive = in_same d e u.volume u.comes;
    }

by_one_same : (c : DeviceView) (d : UnitView) (r : Route) (from to : Option ℕ) (device : DeviceView) (e : UnitView) → kind_of c ≡ kind.Changer → carried_by_one c d r from to ≡ Ok (device, e) → OneSame c d device e
by_one_same c d r None None device e k h = absurd cc
by_one_same c d r (Some l) None device e k h = unloaded_same c d r device e k h
by_one_same c d r None (Some m) device e k h = loaded_same c d r device e k h
by_one_same c d r (Some l) (Some m) device e k h = absurd cc

-- an exchange, by its steps
then_unit : (u v w : UnitView) → IsSameUnit u v → IsSameUnit v w → IsSameUnit u w
then_unit u v w p q = record {
  device = then_same u.device v.device w.device p.device q.device;
  lun = q.lun ∙ p.lun;
  units = q.units ∙ p.units;
  profile = q.profile ∙ p.profile;
  reservations = q.reservations ∙ p.reservations;
}

then_one : (c : DeviceView) (d : UnitView) (c1 : DeviceView) (d1 : UnitView) (c2 : DeviceView) (d2 : UnitView) → OneSame c d c1 d1 → OneSame c1 d1 c2 d2 → OneSame c d c2 d2
then_one c d c1 d1 c2 d2 p q = record { changer = then_same c c1 c2 p.changer q.changer; drive = then_unit d d1 d2 p.drive q.drive }

pub removed_same : (of_drive : Bool) (c : DeviceView) (d : UnitView) (address : ℕ) (v : Volume) (after : DeviceView) (e : UnitView) → kind_of c ≡ kind.Changer
    → IsRemoved of_drive c d address v after e → OneSame c d after e
removed_same true c d address v after e k is =
    record { changer = device_is c (noting c address None) after is.marks (noting_same c address None); drive = out_same d e v is.gives.out }
removed_same false c d address v after e k is =
    record { changer = (changers_give c after address v k is.takes).device; drive = unit_is d d e is.same (same_unit d) }

pub placed_same : (of_drive : Bool) (c : DeviceView) (d : UnitView) (address : ℕ) (v : Volume) (after : DeviceView) (e : UnitView) → kind_of c ≡ kind.Changer
    → IsPlaced of_drive c d address v after e → OneSame c d after e
placed_same true c d address v after e k is =
    record { changer = device_is c (noting c address (Some v.tag)) after is.marks (noting_same c address (Some v.tag)); drive = in_same d e v is.comes }
placed_same false c d address v after e k is =
    record { changer = (changers_get c after address v k is.puts).device; drive = unit_is d d e is.same (same_unit d) }

exchanged_same : (c : DeviceView) (d : UnitView) (x : ExchangeRoute) (from between to : Bool) (device : DeviceView) (e : UnitView) → kind_of c ≡ kind.Changer
    → exchanged_by c d x from between to ≡ Ok (device, e) → OneSame c d device e
exchanged_same c d x from between to device e k h =
    let s = is_exchanged c d x from between to device e h in
    let a = removed_same from c d x.source s.one s.without_one s.drive_one k s.source in
    let b = removed_same between s.without_one s.drive_one x.first s.other s.without_both s.drive_both (a.changer.kind ∙ k) s.first in
    let ab = then_one c d s.without_one s.drive_one s.without_both s.drive_both a b in
    let p = placed_same between s.without_both s.drive_both x.first s.one s.with_one s.drive_with (ab.changer.kind ∙ k) s.places in
    let abp = then_one c d s.without_both s.drive_both s.with_one s.drive_with ab p in
    let q = placed_same to s.with_one s.drive_with x.second s.other device e (abp.changer.kind ∙ k) s.second in
    then_one c d s.with_one s.drive_with device e abp q

with_one_same : (c : DeviceView) (d : UnitView) (errand : Errand) (device : DeviceView) (e : UnitView) → kind_of c ≡ kind.Changer → carried_with_one c d errand ≡ Ok (device, e) → OneSame c d device e
with_one_same c d (Move r) device e k h = by_one_same c d r r.from r.to device e k h
with_one_same c d (Exchange x) device e k h = exchanged_same c d x (is_some x.from) (is_some x.between) (is_some x.to) device e k h

carried_one_same : (c : DeviceView) (d : UnitView) (o : Option Errand) (device : DeviceView) (e : UnitView) → kind_of c ≡ kind.Changer → carried_one c d o ≡ Ok (device, e) → OneSame c d device e
carried_one_same c d None device e k h = absurd cc
carried_one_same c d (Some errand) device e k h =
    let w = came errand (carried_with_one c d errand) device e h in
    let s = with_one_same c d errand w.mid e k w.carries in
    record { changer = noted_on_its_way c w.mid device errand s.changer w.notes; drive = s.drive }

pub record TwoSame (c : DeviceView) (ds : TwoDrives) (device : DeviceView) (es : TwoDrives) : Type 0 where
  pub changer : IsSameDevice c device
  pub low : IsSameUnit ds.low es.low
  pub high : IsSameUnit ds.high es.high

abbrev pub Three : Type 0
Three = DeviceView × UnitView × UnitView

passed_same : (c : DeviceView) (g t : UnitView) (r : Route) (device : DeviceView) (e f : UnitView) → passed c g t r ≡ Ok (device, e, f) → IsSameDevice c device × IsSameUnit g e × IsSameUnit t f
passed_same c g t r device e f h =
    let u = is_passed c g t r device e f h in
    let first = noting c r.source None in
    let second = noting first r.destination (Some u.volume.tag) in (
      device_is c second device u.marks (then_same c first second (noting_same c r.source None) (noting_same first r.destination (Some u.volume.tag))),
      out_same g e u.volume u.gives.out,
      in_same t f u.volume u.comes,
    )

upward_same : (c : DeviceView) (ds : TwoDrives) (r : Route) (device : DeviceView) (es : TwoDrives) (o : Result Three Condition) → passed c ds.low ds.high r ≡ o → upward o ≡ Ok (device, es) → TwoSame c ds device es
upward_same c ds r device es (Ok it) h e =
    let is : ◌≡◌ {A = DeviceView × TwoDrives} (it.0, record { low = it.1; high = it.2 }) (device, es) = cc in
    let s = passed_same c ds.low ds.high r it.0 it.1 it.2 h in
    subst (λ (x : DeviceView × TwoDrives). TwoSame c ds x.0 x.1) is (record { changer = s.0; low = s.1; high = s.2 })
upward_same c ds r device es (Err condition) h e = absurd cc

downward_same : (c : DeviceView) (ds : TwoDrives) (r : Route) (device : DeviceView) (es : TwoDrives) (o : Result Three Condition) → passed c ds.high ds.low r ≡ o → downward o ≡ Ok (device, es) → TwoSame c ds device es
downward_same c ds r device es (Ok it) h e =
    let is : ◌≡◌ {A = DeviceView × TwoDrives} (it.0, record { low = it.2; high = it.1 }) (device, es) = cc in
    let s = passed_same c ds.high ds.low r it.0 it.1 it.2 h in
    subst (λ (x : DeviceView × TwoDrives). TwoSame c ds x.0 x.1) is (record { changer = s.0; low = s.2; high = s.1 })
downward_same c ds r device es (Err condition) h e = absurd cc

by_way_same : (c : DeviceView) (ds : TwoDrives) (r : Route) (up : Bool) (device : DeviceView) (es : TwoDrives) → cond up (upward (passed c ds.low ds.high r)) (downward (passed c ds.high ds.low r)) ≡ Ok (device, es) → TwoSame c ds device es
by_way_same c ds r true device es h = upward_same c ds r device es (passed c ds.low ds.high r) refl h
by_way_same c ds r false device es h = downward_same c ds r device es (passed c ds.high ds.low r) refl h

carried_two_same : (c : DeviceView) (ds : TwoDrives) (o : Option Errand) (device : DeviceView) (es : TwoDrives) → carried_two c ds o ≡ Ok (device, es) → TwoSame c ds device es
carried_two_same c ds None device es h = absurd cc
carried_two_same c ds (Some (Exchange x)) device es h = absurd cc
carried_two_same c ds (Some (Move r)) device es h =
    let w = came (Move r) (carried_by_two c ds r) device es h in
    let s = by_way_same c ds r (is_upward r.from r.to) w.mid es w.carries in
    record { changer = noted_on_its_way c w.mid device (Move r) s.changer w.notes; low = s.low; high = s.high }

-- THE UNITS. Such a command accepts nothing
alone_same : (c v : UnitView) (n : Nexus) (cdb bytes : List ℕ) (r : Reply) (l : ℕ) (more : List ℕ) → HasErrand c.device cdb l more → Executes c n cdb bytes (v, r) → IsSameUnit c v
alone_same c v n cdb bytes r l more route e =
    let s = executes_stays c v n cdb bytes r e in
    record {
      device = s.device;
      lun = s.lun;
      units = s.units;
      profile = s.profile;
      reservations = s.reservations ∙ ap (λ (x : Result Command Condition). after_history c.state.reservations (accepted_as n r.status x)) (errand_asked c.device cdb bytes l more route);
    }

ends_same : (c v : UnitView) (n : Nexus) (cdb bytes : List ℕ) (r : Reply) (device : DeviceView) (reply : Reply) → Ends c v n cdb bytes r device reply → IsSameDevice c.device device → IsSameUnit c v
ends_same c v n cdb bytes r device reply ends same = unit_is c _ v (ap (λ (x : UnitView × Reply). x.0) ends.unit) (record { device = same; lun = refl; units = refl; profile = refl; reservations = refl })

pub one_same : (c d v e : UnitView) (n : Nexus) (cdb bytes : List ℕ) (r : Reply) (l : ℕ) (more : List ℕ) → named (commands_of c.device) (drives_of c.device) cdb ≡ l ∷ more → MovesOne c d n cdb bytes ((v, r), e) → IsSameUnit c v × IsSameUnit d e
one_same c d v e n cdb bytes r l more names moves =
    let route = has_errand c.device cdb l more names in
    let by : Became c v n cdb bytes r d e (carried_one c.device d (errand_at c cdb)) → IsSameUnit c v × IsSameUnit d e =
    λ b. elim b [
      | inl alone ↦ (alone_same c v n cdb bytes r l more route alone.0, unit_is d d e alone.1 (same_unit d))
      | inr left ↦ elim left [
        | inl halted ↦ (ends_same c v n cdb bytes r c.device (check halted.condition) halted.ends (record { kind = refl; profile = refl; identity = refl; drives = refl }), unit_is d d e halted.drives_stay (same_unit d))
        | inr moved ↦
            let s = carried_one_same c.device d (errand_at c cdb) moved.device e route.changer moved.is in
            (ends_same c v n cdb bytes r moved.device (good []) moved.ends s.changer, s.drive)
      ]
    ] in
    by (one_became c d v e n cdb bytes r l more names moves)

pub two_same : (c v : UnitView) (ds es : TwoDrives) (n : Nexus) (cdb bytes : List ℕ) (r : Reply) (l : ℕ) (more : List ℕ) → named (commands_of c.device) (drives_of c.device) cdb ≡ l ∷ more → MovesTwo c ds n cdb bytes ((v, r), es)
    → IsSameUnit c v × IsSameUnit ds.low es.low × IsSameUnit ds.high es.high
two_same c v ds es n cdb bytes r l more names moves =
    let route = has_errand c.device cdb l more names in
    let by : Became c v n cdb bytes r ds es (carried_two c.device ds (errand_at c cdb)) → IsSameUnit c v × IsSameUnit ds.low es.low × IsSameUnit ds.high es.high =
    λ b. elim b [
      | inl alone ↦ (alone_same c v n cdb bytes r l more route alone.0, unit_is ds.low ds.low es.low (ap (λ (x : TwoDrives). x.low) alone.1) (same_unit ds.low), unit_is ds.high ds.high es.high (ap (λ (x : TwoDrives). x.high) alone.1) (same_unit ds.high))
      | inr left ↦ elim left [
        | inl halted ↦ (
          ends_same c v n cdb bytes r c.device (check halted.condition) halted.ends (record { kind = refl; profile = refl; identity = refl; drives = refl }),
          unit_is ds.low ds.low es.low (ap (λ (x : TwoDrives). x.low) halted.drives_stay) (same_unit ds.low),
          unit_is ds.high ds.high es.high (ap (λ (x : TwoDrives). x.high) halted.drives_stay) (same_unit ds.high),
        )
        | inr moved ↦
            let s = carried_two_same c.device ds (errand_at c cdb) moved.device es moved.is in
            (ends_same c v n cdb bytes r moved.device (good []) moved.ends s.changer, s.low, s.high)
      ]
    ] in
    by (two_became c v ds es n cdb bytes r l more names moves)

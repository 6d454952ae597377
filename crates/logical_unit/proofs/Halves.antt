-- What a move is made of: a volume that leaves a drive, or comes in, and one that the changer takes up or puts down.
use Rattle.std.proofs.Common.{◌≡◌, ℕ, Bool, true, false, Option, Some, None, Result, Ok, Err, refl, sym, ap, ◌∙◌, subst}
use Rattle.std.specs.Prelude.{cond}
use Rattle.scsi_cdb.specs.declared.kind.Kind.{Kind}
use Rattle.scsi_cdb.specs.declared.kind.Kind.TheVariants as kind
use Rattle.scsi_sense.specs.declared.condition.Condition.{Condition}
use Rattle.scsi_sense.specs.declared.condition.Condition.TheVariants.{InternalTargetFailure}
use Rattle.tape_medium.specs.declared.volume.Volume.{Volume}
use Rattle.tape_medium.specs.declared.volume.VolumeTag.{VolumeTag}
use Rattle.audit_log.specs.declared.act.Act.TheVariants.{MediumIn, MediumOut}
use Rattle.device_server.specs.View.{DeviceView, kind_of, held_in, taken, put}
use Rattle.device_server.specs.declared.fault.PutFault.{PutFault}
use Rattle.device_server.specs.declared.fault.TakeFault.{TakeFault}
use Rattle.judgement.specs.UnitState.{is_prevented, with_medium}
use Rattle.logical_unit.specs.declared.medium_fault.MediumFault.{MediumFault}
use Rattle.logical_unit.specs.declared.medium_fault.MediumFault.TheVariants.{NotADrive, Prevented}
use Rattle.logical_unit.specs.declared.route.Errand.{Errand}
use Rattle.logical_unit.specs.declared.route.ExchangeRoute.{ExchangeRoute}
use Rattle.logical_unit.specs.declared.route.Route.{Route}
use Rattle.logical_unit.specs.Medium.{taken_as, taken_out, put_as, put_in}
use Rattle.logical_unit.specs.declared.move_judgement.MoveStop.{MoveStop}
use Rattle.logical_unit.specs.declared.move_judgement.MoveStop.TheVariants.{Refused, Busy}
use Rattle.logical_unit.specs.MoveJudgement.{StopsMove}
use Rattle.logical_unit.specs.Move.{condition_of_medium, names_held, given, received, noting, unloaded, loaded, passed, removed, placed, second_placed, both_placed, first_removed, exchanged_by, errand_noted, on_its_way}
use Rattle.logical_unit.specs.Step.{with_event}
use Rattle.logical_unit.specs.UnitView.{UnitView, UnitWithRoom, with_device}

-- results as functions of what they hold
abbrev pub ok_with : Volume → DeviceView → Result (Volume × DeviceView) TakeFault
ok_with v device = Ok (v, device)

abbrev pub ok_of : Volume × UnitView → Result (Volume × UnitView) MediumFault
ok_of it = Ok it

abbrev pub unit_ok : UnitView → Result UnitView MediumFault
unit_ok u = Ok u

abbrev pub unit_received : UnitView → Result UnitView Condition
unit_received u = Ok u

-- the definitions by what they look at
abbrev pub received_as : Result UnitView MediumFault → Result UnitView Condition
received_as o = elim o [ Ok after ↦ Ok after | Err fault ↦ Err InternalTargetFailure ]

abbrev pub put_down : Route → UnitView → Result DeviceView PutFault → Result (DeviceView × UnitView) Condition
put_down r d o = elim o [ Ok after ↦ Ok (noting after r.source None, d) | Err fault ↦ Err InternalTargetFailure ]

abbrev pub unloaded_by : DeviceView → Route → Result (Volume × UnitView) Condition → Result (DeviceView × UnitView) Condition
unloaded_by changer r o = elim o [ Ok it ↦ put_down r it.1 (put changer r.destination it.0) | Err condition ↦ Err condition ]

abbrev pub taken_up : Route → Volume → DeviceView → Result UnitView Condition → Result (DeviceView × UnitView) Condition
taken_up r v mid o = elim o [ Ok after ↦ Ok (noting mid r.destination (Some v.tag), after) | Err condition ↦ Err condition ]

abbrev pub loaded_by : UnitView → Route → Result (Volume × DeviceView) TakeFault → Result (DeviceView × UnitView) Condition
loaded_by d r o = elim o [ Ok it ↦ taken_up r it.0 it.1 (received d it.0) | Err fault ↦ Err InternalTargetFailure ]

abbrev pub handed : DeviceView → Route → Volume → UnitView → Result UnitView Condition → Result (DeviceView × UnitView × UnitView) Condition
handed changer r v d o = elim o [ Ok after ↦ Ok (noting (noting changer r.source None) r.destination (Some v.tag), d, after) | Err condition ↦ Err condition ]

abbrev pub passed_by : DeviceView → UnitView → Route → Result (Volume × UnitView) Condition → Result (DeviceView × UnitView × UnitView) Condition
passed_by changer taker r o = elim o [ Ok it ↦ handed changer r it.0 it.1 (received taker it.0) | Err condition ↦ Err condition ]

-- OUT OF A DRIVE
pub record IsOut (d e : UnitView) (v : Volume) : Type 0 where
  pub kind : kind_of d.device ≡ kind.Drive
  pub free : is_prevented d.state ≡ false
  pub device : DeviceView
  pub taken : taken d.device 0 ≡ Ok (v, device)
  pub unit : e ≡ with_event d None MediumOut (record { device = device; state = d.state })

out_as : (d e : UnitView) (v : Volume) (o : Result (Volume × DeviceView) TakeFault) → taken d.device 0 ≡ o → kind_of d.device ≡ kind.Drive → is_prevented d.state ≡ false → taken_as d o ≡ Ok (v, e) → IsOut d e v
out_as d e v (Ok it) there k free h =
    let is : ◌≡◌ {A = Volume × UnitView} (it.0, with_event d None MediumOut (record { device = it.1; state = d.state })) (v, e) = cc in
    record {
      kind = k;
      free = free;
      device = it.1;
      taken = there ∙ ap (λ (w : Volume). ok_with w it.1) (ap (λ (p : Volume × UnitView). p.0) is);
      unit = sym (ap (λ (p : Volume × UnitView). p.1) is);
    }
out_as d e v (Err fault) there k free h = absurd cc

abbrev pub out_by : UnitView → Kind → Bool → Result (Volume × UnitView) MediumFault
out_by d k prevented = elim k [ kind.Changer ↦ Err NotADrive | kind.Drive ↦ cond prevented (Err Prevented) (taken_as d (taken d.device 0)) ]

out_kind : (d e : UnitView) (v : Volume) (k : Kind) (prevented : Bool) → kind_of d.device ≡ k → is_prevented d.state ≡ prevented → out_by d k prevented ≡ Ok (v, e) → IsOut d e v
out_kind d e v kind.Changer prevented k p h = absurd cc
out_kind d e v kind.Drive true k p h = absurd cc
out_kind d e v kind.Drive false k p h = out_as d e v (taken d.device 0) refl k p h

pub is_out : (d e : UnitView) (v : Volume) → taken_out d ≡ Ok (v, e) → IsOut d e v
is_out d e v h = out_kind d e v (kind_of d.device) (is_prevented d.state) refl refl h

-- INTO A DRIVE
pub record IsIn (d e : UnitView) (v : Volume) : Type 0 where
  pub kind : kind_of d.device ≡ kind.Drive
  pub device : DeviceView
  pub put : put d.device 0 v ≡ Ok device
  pub unit : e ≡ with_event d None MediumIn (record { device = device; state = with_medium d.state })

in_as : (d e : UnitView) (v : Volume) (o : Result DeviceView PutFault) → put d.device 0 v ≡ o → kind_of d.device ≡ kind.Drive → put_as d o ≡ Ok e → IsIn d e v
in_as d e v (Ok device) there k h = record { kind = k; device = device; put = there; unit = cc }
in_as d e v (Err fault) there k h = absurd cc

abbrev pub in_by : UnitView → Volume → Kind → Result UnitView MediumFault
in_by d v k = elim k [ kind.Changer ↦ Err NotADrive | kind.Drive ↦ put_as d (put d.device 0 v) ]

in_kind : (d e : UnitView) (v : Volume) (k : Kind) → kind_of d.device ≡ k → in_by d v k ≡ Ok e → IsIn d e v
in_kind d e v kind.Changer k h = absurd cc
in_kind d e v kind.Drive k h = in_as d e v (put d.device 0 v) refl k h

pub is_in : (d e : UnitView) (v : Volume) → put_in d v ≡ Ok e → IsIn d e v
is_in d e v h = in_kind d e v (kind_of d.device) refl h

-- what a drive gives, its mark names
pub record IsGiven (mark : Option VolumeTag) (d e : UnitView) (v : Volume) : Type 0 where
  pub out : taken_out d ≡ Ok (v, e)
  pub names : names_held mark (Some v.tag) ≡ true

abbrev pub named_as : (mark : Option VolumeTag) → Volume × UnitView → Bool → Result (Volume × UnitView) Condition
named_as mark it b = cond b (Ok it) (Err InternalTargetFailure)

given_named : (mark : Option VolumeTag) (d e : UnitView) (v : Volume) (it : Volume × UnitView) (b : Bool) → taken_out d ≡ Ok it → names_held mark (Some it.0.tag) ≡ b → named_as mark it b ≡ Ok (v, e) → IsGiven mark d e v
given_named mark d e v it true out names h =
    let is : it ≡ (v, e) = cc in
    record { out = out ∙ ap ok_of is; names = subst (λ (p : Volume × UnitView). names_held mark (Some p.0.tag) ≡ true) is names }
given_named mark d e v it false out names h = absurd cc

abbrev pub given_by : (mark : Option VolumeTag) → Result (Volume × UnitView) MediumFault → Result (Volume × UnitView) Condition
given_by mark o = elim o [ Ok it ↦ cond (names_held mark (Some it.0.tag)) (Ok it) (Err InternalTargetFailure) | Err fault ↦ Err (condition_of_medium fault) ]

given_out : (mark : Option VolumeTag) (d e : UnitView) (v : Volume) (o : Result (Volume × UnitView) MediumFault) → taken_out d ≡ o → given_by mark o ≡ Ok (v, e) → IsGiven mark d e v
given_out mark d e v (Ok it) out h = given_named mark d e v it (names_held mark (Some it.0.tag)) out refl h
given_out mark d e v (Err fault) out h = absurd cc

pub is_given : (mark : Option VolumeTag) (d e : UnitView) (v : Volume) → given mark d ≡ Ok (v, e) → IsGiven mark d e v
is_given mark d e v h = given_out mark d e v (taken_out d) refl h

received_in : (d e : UnitView) (v : Volume) (o : Result UnitView MediumFault) → put_in d v ≡ o → received_as o ≡ Ok e → put_in d v ≡ Ok e
received_in d e v (Ok after) there h = let is : after ≡ e = cc in there ∙ ap unit_ok is
received_in d e v (Err fault) there h = absurd cc

pub is_received : (d e : UnitView) (v : Volume) → received d v ≡ Ok e → put_in d v ≡ Ok e
is_received d e v h = received_in d e v (put_in d v) refl h

-- THE WAYS
pub record IsUnloaded (changer : DeviceView) (d : UnitView) (r : Route) (after : DeviceView) (e : UnitView) : Type 0 where
  pub volume : Volume
  pub gives : IsGiven (held_in changer r.source) d e volume
  pub mid : DeviceView
  pub puts : put changer r.destination volume ≡ Ok mid
  pub marks : after ≡ noting mid r.source None

unloaded_put : (changer : DeviceView) (d : UnitView) (r : Route) (after : DeviceView) (e : UnitView) (v : Volume) (f : UnitView) (o : Result DeviceView PutFault)
    → put changer r.destination v ≡ o → IsGiven (held_in changer r.source) d f v → put_down r f o ≡ Ok (after, e) → IsUnloaded changer d r after e
unloaded_put changer d r after e v f (Ok mid) puts gives h =
    let is : ◌≡◌ {A = DeviceView × UnitView} (noting mid r.source None, f) (after, e) = cc in
    record {
      volume = v;
      gives = subst (λ (x : UnitView). IsGiven (held_in changer r.source) d x v) (ap (λ (p : DeviceView × UnitView). p.1) is) gives;
      mid = mid;
      puts = puts;
      marks = sym (ap (λ (p : DeviceView × UnitView). p.0) is);
    }
unloaded_put changer d r after e v f (Err fault) puts gives h = absurd cc

unloaded_given : (changer : DeviceView) (d : UnitView) (r : Route) (after : DeviceView) (e : UnitView) (o : Result (Volume × UnitView) Condition)
    → given (held_in changer r.source) d ≡ o → unloaded_by changer r o ≡ Ok (after, e) → IsUnloaded changer d r after e
unloaded_given changer d r after e (Ok it) there h = unloaded_put changer d r after e it.0 it.1 (put changer r.destination it.0) refl (is_given (held_in changer r.source) d it.1 it.0 there) h
unloaded_given changer d r after e (Err condition) there h = absurd cc

pub is_unloaded : (changer : DeviceView) (d : UnitView) (r : Route) (after : DeviceView) (e : UnitView) → unloaded changer d r ≡ Ok (after, e) → IsUnloaded changer d r after e
is_unloaded changer d r after e h = unloaded_given changer d r after e (given (held_in changer r.source) d) refl h

pub record IsLoaded (changer : DeviceView) (d : UnitView) (r : Route) (after : DeviceView) (e : UnitView) : Type 0 where
  pub volume : Volume
  pub mid : DeviceView
  pub takes : taken changer r.source ≡ Ok (volume, mid)
  pub comes : put_in d volume ≡ Ok e
  pub marks : after ≡ noting mid r.destination (Some volume.tag)

loaded_in : (changer : DeviceView) (d : UnitView) (r : Route) (after : DeviceView) (e : UnitView) (v : Volume) (mid : DeviceView) (o : Result UnitView Condition)
    → taken changer r.source ≡ Ok (v, mid) → received d v ≡ o → taken_up r v mid o ≡ Ok (after, e) → IsLoaded changer d r after e
loaded_in changer d r after e v mid (Ok f) takes comes h =
    let is : ◌≡◌ {A = DeviceView × UnitView} (noting mid r.destination (Some v.tag), f) (after, e) = cc in
    record {
      volume = v;
      mid = mid;
      takes = takes;
      comes = is_received d e v (comes ∙ ap unit_received (ap (λ (p : DeviceView × UnitView). p.1) is));
      marks = sym (ap (λ (p : DeviceView × UnitView). p.0) is);
    }
loaded_in changer d r after e v mid (Err condition) takes comes h = absurd cc

loaded_taken : (changer : DeviceView) (d : UnitView) (r : Route) (after : DeviceView) (e : UnitView) (o : Result (Volume × DeviceView) TakeFault)
    → taken changer r.source ≡ o → loaded_by d r o ≡ Ok (after, e) → IsLoaded changer d r after e
loaded_taken changer d r after e (Ok it) there h = loaded_in changer d r after e it.0 it.1 (received d it.0) there refl h
loaded_taken changer d r after e (Err fault) there h = absurd cc

pub is_loaded : (changer : DeviceView) (d : UnitView) (r : Route) (after : DeviceView) (e : UnitView) → loaded changer d r ≡ Ok (after, e) → IsLoaded changer d r after e
is_loaded changer d r after e h = loaded_taken changer d r after e (taken changer r.source) refl h

pub record IsPassed (changer : DeviceView) (giver taker : UnitView) (r : Route) (after : DeviceView) (e f : UnitView) : Type 0 where
  pub volume : Volume
  pub gives : IsGiven (held_in changer r.source) giver e volume
  pub comes : put_in taker volume ≡ Ok f
  pub marks : after ≡ noting (noting changer r.source None) r.destination (Some volume.tag)

passed_in : (changer : DeviceView) (giver taker : UnitView) (r : Route) (after : DeviceView) (e f : UnitView) (v : Volume) (x : UnitView) (o : Result UnitView Condition)
    → IsGiven (held_in changer r.source) giver x v → received taker v ≡ o → handed changer r v x o ≡ Ok (after, e, f) → IsPassed changer giver taker r after e f
passed_in changer giver taker r after e f v x (Ok y) gives comes h =
    let is : ◌≡◌ {A = DeviceView × UnitView × UnitView} (noting (noting changer r.source None) r.destination (Some v.tag), x, y) (after, e, f) = cc in
    record {
      volume = v;
      gives = subst (λ (z : UnitView). IsGiven (held_in changer r.source) giver z v) (ap (λ (p : DeviceView × UnitView × UnitView). p.1) is) gives;
      comes = is_received taker f v (comes ∙ ap unit_received (ap (λ (p : DeviceView × UnitView × UnitView). p.2) is));
      marks = sym (ap (λ (p : DeviceView × UnitView × UnitView). p.0) is);
    }
passed_in changer giver taker r after e f v x (Err condition) gives comes h = absurd cc

passed_given : (changer : DeviceView) (giver taker : UnitView) (r : Route) (after : DeviceView) (e f : UnitView) (o : Result (Volume × UnitView) Condition)
    → given (held_in changer r.source) giver ≡ o → passed_by changer taker r o ≡ Ok (after, e, f) → IsPassed changer giver taker r after e f
passed_given changer giver taker r after e f (Ok it) there h = passed_in changer giver taker r after e f it.0 it.1 (received taker it.0) (is_given (held_in changer r.source) giver it.1 it.0 there) refl h
passed_given changer giver taker r after e f (Err condition) there h = absurd cc

pub is_passed : (changer : DeviceView) (giver taker : UnitView) (r : Route) (after : DeviceView) (e f : UnitView) → passed changer giver taker r ≡ Ok (after, e, f) → IsPassed changer giver taker r after e f
is_passed changer giver taker r after e f h = passed_given changer giver taker r after e f (given (held_in changer r.source) giver) refl h

-- AN EXCHANGE. A volume that its drive gives, or that the changer takes out
pub record IsRemovedByDrive (changer : DeviceView) (d : UnitView) (address : ℕ) (v : Volume) (after : DeviceView) (e : UnitView) : Type 0 where
  pub gives : IsGiven (held_in changer address) d e v
  pub marks : after ≡ noting changer address None

pub record IsRemovedByChanger (changer : DeviceView) (d : UnitView) (address : ℕ) (v : Volume) (after : DeviceView) (e : UnitView) : Type 0 where
  pub takes : taken changer address ≡ Ok (v, after)
  pub same : e ≡ d

abbrev pub IsRemoved : (of_drive : Bool) → DeviceView → UnitView → (address : ℕ) → Volume → DeviceView → UnitView → Type 0
IsRemoved true changer d address v after e = IsRemovedByDrive changer d address v after e
IsRemoved false changer d address v after e = IsRemovedByChanger changer d address v after e

abbrev Removing : Type 0
Removing = Volume × DeviceView × UnitView

removed_given : (changer : DeviceView) (d : UnitView) (address : ℕ) (v : Volume) (after : DeviceView) (e : UnitView) (o : Result (Volume × UnitView) Condition)
    → given (held_in changer address) d ≡ o
    → elim o as (λ _. Result Removing Condition) [ Ok it ↦ Ok (it.0, noting changer address None, it.1) | Err condition ↦ Err condition ] ≡ Ok (v, after, e)
    → IsRemovedByDrive changer d address v after e
removed_given changer d address v after e (Ok it) there h =
    let is : ◌≡◌ {A = Removing} (it.0, noting changer address None, it.1) (v, after, e) = cc in
    let given_so : it ≡ (v, e) = ap (λ (p : Removing). (p.0, p.2)) is in
    record {
      gives = is_given (held_in changer address) d e v (there ∙ ap (λ (p : Volume × UnitView). Ok p) given_so);
      marks = sym (ap (λ (p : Removing). p.1) is);
    }
removed_given changer d address v after e (Err condition) there h = absurd cc

removed_taken : (changer : DeviceView) (d : UnitView) (address : ℕ) (v : Volume) (after : DeviceView) (e : UnitView) (o : Result (Volume × DeviceView) TakeFault)
    → taken changer address ≡ o
    → elim o as (λ _. Result Removing Condition) [ Ok it ↦ Ok (it.0, it.1, d) | Err fault ↦ Err InternalTargetFailure ] ≡ Ok (v, after, e)
    → IsRemovedByChanger changer d address v after e
removed_taken changer d address v after e (Ok it) there h =
    let is : ◌≡◌ {A = Removing} (it.0, it.1, d) (v, after, e) = cc in
    record {
      takes = there ∙ ap (λ (p : Removing). Ok (p.0, p.1)) is;
      same = sym (ap (λ (p : Removing). p.2) is);
    }
removed_taken changer d address v after e (Err fault) there h = absurd cc

is_removed : (of_drive : Bool) (changer : DeviceView) (d : UnitView) (address : ℕ) (v : Volume) (after : DeviceView) (e : UnitView)
    → removed changer d of_drive address ≡ Ok (v, after, e) → IsRemoved of_drive changer d address v after e
is_removed true changer d address v after e h = removed_given changer d address v after e (given (held_in changer address) d) refl h
is_removed false changer d address v after e h = removed_taken changer d address v after e (taken changer address) refl h

-- and one that its drive takes, or that the changer puts in
pub record IsPlacedInDrive (changer : DeviceView) (d : UnitView) (address : ℕ) (v : Volume) (after : DeviceView) (e : UnitView) : Type 0 where
  pub comes : put_in d v ≡ Ok e
  pub marks : after ≡ noting changer address (Some v.tag)

pub record IsPlacedInChanger (changer : DeviceView) (d : UnitView) (address : ℕ) (v : Volume) (after : DeviceView) (e : UnitView) : Type 0 where
  pub puts : put changer address v ≡ Ok after
  pub same : e ≡ d

abbrev pub IsPlaced : (of_drive : Bool) → DeviceView → UnitView → (address : ℕ) → Volume → DeviceView → UnitView → Type 0
IsPlaced true changer d address v after e = IsPlacedInDrive changer d address v after e
IsPlaced false changer d address v after e = IsPlacedInChanger changer d address v after e

placed_received : (changer : DeviceView) (d : UnitView) (address : ℕ) (v : Volume) (after : DeviceView) (e : UnitView) (o : Result UnitView Condition)
    → received d v ≡ o
    → elim o as (λ _. Result (DeviceView × UnitView) Condition) [ Ok f ↦ Ok (noting changer address (Some v.tag), f) | Err condition ↦ Err condition ] ≡ Ok (after, e)
    → IsPlacedInDrive changer d address v after e
placed_received changer d address v after e (Ok f) there h =
    let is : ◌≡◌ {A = DeviceView × UnitView} (noting changer address (Some v.tag), f) (after, e) = cc in
    record {
      comes = is_received d e v (there ∙ ap unit_received (ap (λ (p : DeviceView × UnitView). p.1) is));
      marks = sym (ap (λ (p : DeviceView × UnitView). p.0) is);
    }
placed_received changer d address v after e (Err condition) there h = absurd cc

placed_put : (changer : DeviceView) (d : UnitView) (address : ℕ) (v : Volume) (after : DeviceView) (e : UnitView) (o : Result DeviceView PutFault)
    → put changer address v ≡ o
    → elim o as (λ _. Result (DeviceView × UnitView) Condition) [ Ok f ↦ Ok (f, d) | Err fault ↦ Err InternalTargetFailure ] ≡ Ok (after, e)
    → IsPlacedInChanger changer d address v after e
placed_put changer d address v after e (Ok f) there h =
    let is : ◌≡◌ {A = DeviceView × UnitView} (f, d) (after, e) = cc in
    record {
      puts = there ∙ ap (λ (p : DeviceView × UnitView). Ok p.0) is;
      same = sym (ap (λ (p : DeviceView × UnitView). p.1) is);
    }
placed_put changer d address v after e (Err fault) there h = absurd cc

is_placed : (of_drive : Bool) (changer : DeviceView) (d : UnitView) (address : ℕ) (v : Volume) (after : DeviceView) (e : UnitView)
    → placed changer d of_drive address v ≡ Ok (after, e) → IsPlaced of_drive changer d address v after e
is_placed true changer d address v after e h = placed_received changer d address v after e (received d v) refl h
is_placed false changer d address v after e h = placed_put changer d address v after e (put changer address v) refl h

-- the steps of both volumes
pub record IsExchangedBy (changer : DeviceView) (d : UnitView) (x : ExchangeRoute) (from between to : Bool) (after : DeviceView) (e : UnitView) : Type 0 where
  pub one : Volume
  pub other : Volume
  pub without_one : DeviceView
  pub drive_one : UnitView
  pub without_both : DeviceView
  pub drive_both : UnitView
  pub with_one : DeviceView
  pub drive_with : UnitView
  pub source : IsRemoved from changer d x.source one without_one drive_one
  pub first : IsRemoved between without_one drive_one x.first other without_both drive_both
  pub places : IsPlaced between without_both drive_both x.first one with_one drive_with
  pub second : IsPlaced to with_one drive_with x.second other after e

module _ (changer : DeviceView) (d : UnitView) (x : ExchangeRoute) (from between to : Bool) (after : DeviceView) (e : UnitView) where
  second_is : (one other : Volume) (c1 c2 : DeviceView) (d1 d2 : UnitView) (o : Result (DeviceView × UnitView) Condition)
      → IsRemoved from changer d x.source one c1 d1 → IsRemoved between c1 d1 x.first other c2 d2 → placed c2 d2 between x.first one ≡ o
      → second_placed x.second to other o ≡ Ok (after, e) → IsExchangedBy changer d x from between to after e
  second_is one other c1 c2 d1 d2 (Err condition) a b c h = absurd cc
  second_is one other c1 c2 d1 d2 (Ok it) a b c h = record {
    one = one;
    other = other;
    without_one = c1;
    drive_one = d1;
    without_both = c2;
    drive_both = d2;
    with_one = it.0;
    drive_with = it.1;
    source = a;
    first = b;
    places = is_placed between c2 d2 x.first one it.0 it.1 c;
    second = is_placed to it.0 it.1 x.second other after e h;
  }

  both_is : (one : Volume) (c1 : DeviceView) (d1 : UnitView) (o : Result Removing Condition)
      → IsRemoved from changer d x.source one c1 d1 → removed c1 d1 between x.first ≡ o → both_placed x between to one o ≡ Ok (after, e)
      → IsExchangedBy changer d x from between to after e
  both_is one c1 d1 (Err condition) a b h = absurd cc
  both_is one c1 d1 (Ok it) a b h =
      second_is one it.0 c1 it.1 d1 it.2 (placed it.1 it.2 between x.first one) a (is_removed between c1 d1 x.first it.0 it.1 it.2 b) refl h

  first_is : (o : Result Removing Condition) → removed changer d from x.source ≡ o → first_removed x between to o ≡ Ok (after, e)
      → IsExchangedBy changer d x from between to after e
  first_is (Err condition) a h = absurd cc
  first_is (Ok it) a h = both_is it.0 it.1 it.2 (removed it.1 it.2 between x.first) (is_removed from changer d x.source it.0 it.1 it.2 a) refl h

  pub is_exchanged : exchanged_by changer d x from between to ≡ Ok (after, e) → IsExchangedBy changer d x from between to after e
  is_exchanged h = first_is (removed changer d from x.source) refl h

-- THE WAY. What was carried, and the changer before it noted from where
pub record Came {A : Type 0} (errand : Errand) (carried : Result (DeviceView × A) Condition) (device : DeviceView) (after : A) : Type 0 where
  pub mid : DeviceView
  pub carries : carried ≡ Ok (mid, after)
  pub notes : device ≡ errand_noted errand mid

pub came : {A : Type 0} (errand : Errand) (carried : Result (DeviceView × A) Condition) (device : DeviceView) (after : A) → on_its_way errand carried ≡ Ok (device, after) → Came errand carried device after
came {A} errand (Ok it) device after h =
    let is : ◌≡◌ {A = DeviceView × A} (errand_noted errand it.0, it.1) (device, after) = cc in
    record {
      mid = it.0;
      carries = ap (λ (x : A). Ok (it.0, x)) (ap (λ (p : DeviceView × A). p.1) is);
      notes = sym (ap (λ (p : DeviceView × A). p.0) is);
    }
came {A} errand (Err condition) device after h = absurd cc

-- and why nothing is carried is no other reason then
pub stops_on_its_way : {A : Type 0} (errand : Errand) (carried : Result (DeviceView × A) Condition) (Lacks : Type 0) (stop : MoveStop)
    → StopsMove carried Lacks stop → StopsMove (on_its_way errand carried) Lacks stop
stops_on_its_way errand (Ok it) Lacks (Refused condition) stops = absurd cc
stops_on_its_way errand (Err reason) Lacks (Refused condition) stops = stops
stops_on_its_way errand (Ok it) Lacks Busy stops = (refl, stops.1)
stops_on_its_way errand (Err reason) Lacks Busy stops = let no = stops.0 in absurd cc

-- a unit whose device noted the way of what was carried
abbrev pub carried_at : {A : Type 0} → A → UnitWithRoom → Result (DeviceView × A) Condition
carried_at after x = Ok (x.unit.device, after)

pub carried_on : {A : Type 0} (errand : Errand) (carried : Result (DeviceView × A) Condition) (mid new : UnitWithRoom) (after : A)
    → carried ≡ Ok (mid.unit.device, after) → new ≡ with_device mid (errand_noted errand mid.unit.device)
    → on_its_way errand carried ≡ Ok (new.unit.device, after)
carried_on errand carried mid new after carries noted = ap (on_its_way errand) carries ∙ ap (carried_at after) (sym noted)

pub changer_after : (old mid new : UnitWithRoom) (device : DeviceView) → mid ≡ with_device old mid.unit.device → new ≡ with_device mid device
    → new ≡ with_device old new.unit.device
changer_after old mid new device same noted =
    noted ∙ ap (λ (x : UnitWithRoom). with_device x device) same ∙ ap (with_device old) (sym (ap (λ (x : UnitWithRoom). x.unit.device) noted))

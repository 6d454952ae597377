-- No step of a target is answered by 44h/00h, and so no event of a run.
use Rattle.std.proofs.Common.{◌≡◌, ◌+◌, ◌-◌, ◌==◌, ◌&&◌, ℕ, suc, Bool, true, false, List, [], ◌∷◌, length, Option, Some, None, Result, Ok, Err, refl, sym, ap, ◌∙◌, subst, inl, inr, eq-eqb}
use Rattle.std.specs.Prelude.{◌⊎◌, ◌||◌, cond, not, is_none, is_some, nat_lt, slice_get}
use Rattle.std.proofs.lemmas.List.Elements.{All-nil, All-cons}
use Rattle.std.proofs.lemmas.Map.Views.{exact_unsigned_eq}
use Rattle.scsi_cdb.specs.Commands.{decoded}
use Rattle.scsi_cdb.specs.declared.fault.CdbFault.{CdbFault}
use Rattle.scsi_cdb.specs.declared.kind.Kind.{Kind}
use Rattle.scsi_cdb.specs.declared.profile.CommandSet.{CommandSet}
use Rattle.scsi_cdb.specs.declared.kind.Kind.TheVariants as kind
use Rattle.scsi_cdb.specs.declared.host_request.HostRequest.{HostRequest}
use Rattle.scsi_cdb.specs.declared.host_request.HostRequest.TheVariants as host
use Rattle.scsi_cdb.specs.declared.request.Request.{Request}
use Rattle.scsi_cdb.specs.declared.request.Request.TheVariants as request
use Rattle.scsi_cdb.specs.Bits.{bit, byte}
use Rattle.scsi_nexus.specs.declared.nexus.Nexus.{Nexus}
use Rattle.scsi_sense.specs.declared.condition.Condition.{Condition}
use Rattle.scsi_sense.specs.declared.condition.Condition.TheVariants.{LogicalUnitNotSupported}
use Rattle.scsi_sense.specs.declared.sense.Sense.{Sense}
use Rattle.scsi_sense.specs.declared.status.Status.{Status}
use Rattle.tape_medium.specs.Elements.{Elements, Transport, DataTransfer, ImportExport, Storage, Nowhere, first_data_transfer, first_import_export, first_storage, is_among, element_at, move_refusal}
use Rattle.tape_medium.specs.declared.elements.MapFault.{MapFault}
use Rattle.element_map.specs.Exchange.{is_drives, has_drive, exchange_refusal}
use Rattle.device_server.specs.Failures.{is_failure, is_data_transfer, is_exchange_for_drives, is_for_drives}
use Rattle.device_server.specs.HostChanger.{ChangerView}
use Rattle.device_server.specs.View.{DeviceView, Drive, Changer, kind_of, commands_of, drives_of, held_in, performed}
use Rattle.device_server.proofs.FailureLemmas.{drives_never_fail, changers_fail_for_drives}
use Rattle.judgement.specs.Replies.{check, AnswersAbsent}
use Rattle.judgement.specs.declared.reply.Reply.{Reply}
use Rattle.judgement.specs.Commands.{decoded_command, act_of}
use Rattle.judgement.specs.declared.command.Command.{Command}
use Rattle.judgement.specs.declared.command.Command.TheVariants.{Device}
use Rattle.judgement.specs.JudgedUnit.{JudgedUnit}
use Rattle.judgement.specs.declared.decision.Decision.{Decision}
use Rattle.logical_unit.specs.Move.{TwoDrives, is_left, judged_at, errand_at, passed, carried_by_one, on_its_way, carried_with_one, carried_one, upward, downward, carried_two, ended, MovesOne, MovesTwo}
use Rattle.logical_unit.specs.Route.{drive_at, is_upward, named_by, named_among, named_in, named}
use Rattle.logical_unit.specs.Step.{contacted_present, recorded, Executes, IsLost, IsReset}
use Rattle.logical_unit.specs.UnitView.{UnitView}
use Rattle.logical_unit.specs.declared.route.Errand.{Errand}
use Rattle.logical_unit.specs.declared.route.Errand.TheVariants.{Move, Exchange}
use Rattle.logical_unit.specs.declared.route.ExchangeRoute.{ExchangeRoute}
use Rattle.logical_unit.specs.declared.route.Route.{Route}
use Rattle.logical_unit.proofs.Moved.{concluded_by}
use Rattle.logical_unit.proofs.NamedDrives.{some_of, Asks, HasErrand, HasRoute, AreNamed, IsAt, errand_by, errand_asked, has_errand, has_route, drive_within, named_two, named_alone}
use Rattle.target_core.specs.declared.event.Event.{Event}
use Rattle.target_core.specs.declared.event.Event.TheVariants as event
use Rattle.target_laws.specs.Failures.{NeverFails}
use Rattle.target_core.specs.Faults.{fault_of}
use Rattle.target_core.specs.Run.{LosesAt, ResetsAt, Steps}
use Rattle.target_laws.proofs.Agreement.{IsAllowed, left_allowed, drive_gives, drive_receives, carrying_fails, unloaded_free, loaded_free, passed_free}
use Rattle.target_laws.proofs.ExchangeAgreement.{IsAllowedExchange, left_allowed_exchange, IsEndOf, exchanged_free, HasOneDrive, one_drive}
use Rattle.target_laws.proofs.CommandWays.{Goes, goes}
use Rattle.target_laws.proofs.Devices.{Does, DoesAs, decoding_free, reads_device, judged, executed}
use Rattle.target_core.proofs.Places.{same_some}
use Rattle.target_core.proofs.Ordered.{IsOrdered, ordered, drive_of}
use Rattle.target_laws.proofs.StaysTarget.{step_order}

-- ONE UNIT. A command fails where the device's own step does
device_free : (before after : DeviceView) (c : Result Command Condition) (bytes : List ℕ) (status : Status) (sense : Option Sense) → Does before c bytes after status sense
    → ((q : Request) → c ≡ Ok (Device q) → is_failure (performed before q bytes).1.sense ≡ false) → is_failure sense ≡ false
device_free before after (Ok (Device q)) bytes status sense (inl unreached) steps = unreached.free
device_free before after (Ok (Device q)) bytes status sense (inr step) steps = ap is_failure step.reports ∙ steps q refl
device_free before after (Err condition) bytes status sense does steps = does.free
device_free before after (Ok c) bytes status sense does steps = does.free

drive_steps : (device : DeviceView) (q : Request) (bytes : List ℕ) → kind_of device ≡ kind.Drive → is_failure (performed device q bytes).1.sense ≡ false
drive_steps (Drive d) q bytes k = drives_never_fail d q bytes
drive_steps (Changer e) q bytes k = absurd cc

drive_free : (w v : UnitView) (n : Nexus) (cdb bytes : List ℕ) (r : Reply) → kind_of w.device ≡ kind.Drive → Executes w n cdb bytes (v, r) → is_failure r.sense ≡ false
drive_free w v n cdb bytes r k step =
    device_free w.device v.device (decoded_command (commands_of w.device) cdb bytes) bytes r.status r.sense (executed w v n cdb bytes r step) (λ q is. drive_steps w.device q bytes k)

-- the changer's, of a command that names no drive, doesn't
chosen_other : (transport drive portal slot : Bool) (at i j k : ℕ) → cond drive (Some at) None ≡ None
    → is_data_transfer (cond transport Transport (cond drive (DataTransfer i) (cond portal (ImportExport j) (cond slot (Storage k) Nowhere)))) ≡ false
chosen_other true drive portal slot at i j k h = refl
chosen_other false true portal slot at i j k h = absurd cc
chosen_other false false true slot at i j k h = refl
chosen_other false false false true at i j k h = refl
chosen_other false false false false at i j k h = refl

other_element : (e : Elements) (address : ℕ) → drive_at (length e.data_transfer) address ≡ None → is_data_transfer (element_at e address) ≡ false
other_element e address h =
    chosen_other (address == 0) (is_among first_data_transfer (length e.data_transfer) address) (is_among first_import_export (length e.import_export) address) (is_among first_storage (length e.storage) address)
    (address - 0xFF) (address - first_data_transfer) (address - first_import_export) (address - first_storage) h

rising_some : (same less : Bool) (a b : ℕ) → cond same (a ∷ []) (cond less (a ∷ b ∷ []) (b ∷ a ∷ [])) ≡ [] → ⊥
rising_some true less a b h = cc
rising_some false true a b h = cc
rising_some false false a b h = cc

none_named : (from to : Option ℕ) → named_by from to ≡ [] → (from ≡ None) × (to ≡ None)
none_named None None h = (refl, refl)
none_named (Some a) None h = absurd cc
none_named None (Some b) h = absurd cc
none_named (Some a) (Some b) h = absurd (rising_some (a == b) (nat_lt a b) a b h)

either_false : (x y : Bool) → (x && (y && false)) ≡ false
either_false true true = refl
either_false true false = refl
either_false false y = refl

-- a drive's element, by its number
some_drive : (among : Bool) (l : ℕ) → is_some (cond among (Some l) None) ≡ among
some_drive true l = refl
some_drive false l = refl

drive_is : (e : Elements) (address : ℕ) (o : Option ℕ) → drive_at (length e.data_transfer) address ≡ o → is_drives e address ≡ is_some o
drive_is e address o is = sym (some_drive (is_among first_data_transfer (length e.data_transfer) address) (address - 0xFF)) ∙ ap (λ (x : Option ℕ). is_some x) is

one_number : (e : Elements) (a b m n : ℕ) → drive_at (length e.data_transfer) a ≡ Some m → drive_at (length e.data_transfer) b ≡ Some n → a ≡ b → (n == m) ≡ true
one_number e a b m n first second same =
    let numbers : ◌≡◌ {A = Option ℕ} (Some n) (Some m) = sym second ∙ ap (λ (x : ℕ). drive_at (length e.data_transfer) x) (sym same) ∙ first in
    eq-eqb n m cc

-- where the map refuses nothing of an exchange with a drive, one is named
some_among : (e : Elements) (source first second : ℕ) (from between to : Option ℕ) → HasOneDrive e source first second → drive_at (length e.data_transfer) source ≡ from
    → drive_at (length e.data_transfer) first ≡ between → drive_at (length e.data_transfer) second ≡ to → named_among from between to ≡ [] → has_drive e source first second ≡ false
some_among e source first second None None None w f b t names =
    ap (λ (x : Bool). x || (is_drives e first || is_drives e second)) (drive_is e source None f) ∙ ap (λ (x : Bool). x || is_drives e second) (drive_is e first None b) ∙ drive_is e second None t
some_among e source first second (Some l) None None w f b t names = absurd cc
some_among e source first second None (Some l) None w f b t names = absurd cc
some_among e source first second None None (Some l) w f b t names = absurd cc
some_among e source first second (Some l) (Some m) None w f b t names =
    let same = one_number e source first l m f b (w.from_first (drive_is e source (Some l) f) (drive_is e first (Some m) b)) in
    let no : l ∷ [] ≡ [] = sym (ap (λ (x : Bool). cond (x && true) (l ∷ []) []) same) ∙ names in
    absurd cc
some_among e source first second (Some l) None (Some m) w f b t names =
    let same = one_number e source second l m f t (w.from_second (drive_is e source (Some l) f) (drive_is e second (Some m) t)) in
    let no : l ∷ [] ≡ [] = sym (ap (λ (x : Bool). cond (x && true) (l ∷ []) []) same) ∙ names in
    absurd cc
some_among e source first second None (Some l) (Some m) w f b t names =
    let same = one_number e first second l m b t (w.first_second (drive_is e first (Some l) b) (drive_is e second (Some m) t)) in
    let no : l ∷ [] ≡ [] = sym (ap (λ (x : Bool). cond (x && true) (l ∷ []) []) same) ∙ names in
    absurd cc
some_among e source first second (Some l) (Some m) (Some n) w f b t names =
    let one = one_number e source first l m f b (w.from_first (drive_is e source (Some l) f) (drive_is e first (Some m) b)) in
    let two = one_number e source second l n f t (w.from_second (drive_is e source (Some l) f) (drive_is e second (Some n) t)) in
    let no : l ∷ [] ≡ [] = sym (ap (λ (x : Bool). cond (x && (n == l && true)) (l ∷ []) []) one ∙ ap (λ (x : Bool). cond (x && true) (l ∷ []) []) two) ∙ names in
    absurd cc

unless_free : (o : Option MapFault) (has : Bool) → (o ≡ None → has ≡ false) → (is_none o && has) ≡ false
unless_free None has none = none refl
unless_free (Some fault) has none = refl

never : (x y : Bool) → y ≡ false → (x && y) ≡ false
never true y none = none
never false y none = refl

host_alone : (e : Elements) (command : HostRequest) → named_in (errand_by (length e.data_transfer) (Ok (request.Host command))) ≡ [] → is_exchange_for_drives e command ≡ false
host_alone e (host.ExchangeMedium transport source first second inv1 inv2) names =
    let size = length e.data_transfer in
    never (not (inv1 || inv2)) (is_none (exchange_refusal e transport source first second) && has_drive e source first second)
    (unless_free (exchange_refusal e transport source first second) (has_drive e source first second)
    (λ free. some_among e source first second (drive_at size source) (drive_at size first) (drive_at size second) (one_drive e transport source first second free) refl refl refl names))
host_alone e command names = refl

alone : (v : ChangerView) (commands : CommandSet) (cdb : List ℕ) (q : Request) → named commands (length v.elements.data_transfer) cdb ≡ [] → decoded commands cdb ≡ Ok q → is_for_drives v q ≡ false
alone v commands cdb (request.MoveMedium transport source destination invert) names reads =
    let e = v.elements in
    let size = length e.data_transfer in
    let ends = none_named (drive_at size source) (drive_at size destination) (sym (ap (λ (o : Result Request CdbFault). named_in (errand_by size o)) reads) ∙ names) in
    let free = is_none (move_refusal e transport source destination) in
    ap (λ b. not invert && (free && (b || is_data_transfer (element_at e destination)))) (other_element e source ends.0)
    ∙ ap (λ b. not invert && (free && b)) (other_element e destination ends.1)
    ∙ either_false (not invert) free
alone v commands cdb (request.Host command) names reads =
    never (is_some v.hosts) (is_exchange_for_drives v.elements command)
    (host_alone v.elements command (sym (ap (λ (o : Result Request CdbFault). named_in (errand_by (length v.elements.data_transfer) o)) reads) ∙ names))
alone v commands cdb q names reads = refl

changer_steps : (device : DeviceView) (cdb : List ℕ) (q : Request) (bytes : List ℕ) → kind_of device ≡ kind.Changer → named (commands_of device) (drives_of device) cdb ≡ [] → decoded (commands_of device) cdb ≡ Ok q → is_failure (performed device q bytes).1.sense ≡ false
changer_steps (Drive d) cdb q bytes k names reads = absurd cc
changer_steps (Changer v) cdb q bytes k names reads = changers_fail_for_drives v q bytes ∙ alone v (commands_of (Changer v)) cdb q names reads

changer_free : (c v : UnitView) (n : Nexus) (cdb bytes : List ℕ) (r : Reply) → kind_of c.device ≡ kind.Changer → named (commands_of c.device) (drives_of c.device) cdb ≡ [] → Executes c n cdb bytes (v, r) → is_failure r.sense ≡ false
changer_free c v n cdb bytes r k names step =
    device_free c.device v.device (decoded_command (commands_of c.device) cdb bytes) bytes r.status r.sense (executed c v n cdb bytes r step)
    (λ q is. changer_steps c.device cdb q bytes k names (reads_device (commands_of c.device) cdb bytes q is))

-- A MOVE OR AN EXCHANGE. What is left to the drives, the changer's map and marks allow
abbrev Allowed : DeviceView → Errand → Type 0
Allowed device (Move q) = IsAllowed device q
Allowed device (Exchange x) = IsAllowedExchange device x

allowed_by : (device : DeviceView) (q : Request) (e : Errand) (bytes : List ℕ) → kind_of device ≡ kind.Changer → Asks (drives_of device) q e → is_failure (performed device q bytes).1.sense ≡ true → Allowed device e
allowed_by device q (Move r) bytes k a left =
    left_allowed device a.transport r a.invert bytes k a.from a.to (subst (λ (x : Request). is_failure (performed device x bytes).1.sense ≡ true) a.is left)
allowed_by device q (Exchange x) bytes k a left =
    left_allowed_exchange device a.transport x a.inv1 a.inv2 bytes k a.from a.between a.to (subst (λ (y : Request). is_failure (performed device y bytes).1.sense ≡ true) a.is left)

left_at : (c : UnitView) (n : Nexus) (cdb bytes : List ℕ) (l : ℕ) (more : List ℕ) (q : HasErrand c.device cdb l more) → is_left (judged_at c n cdb bytes).2.sense ≡ true → Allowed c.device q.errand
left_at c n cdb bytes l more q left =
    let u = contacted_present c n in
    let does = judged u n bytes (decoded_command (commands_of c.device) cdb bytes) (decoding_free (commands_of c.device) cdb bytes) in
    let here : DoesAs u (Ok (Device q.decodes.request)) bytes (judged_at c n cdb bytes) =
    subst (λ (s : Result Command Condition). DoesAs u s bytes (judged_at c n cdb bytes)) (errand_asked c.device cdb bytes l more q) does in
    elim here [
      | inl unreached ↦ let free = unreached.free in absurd cc
      | inr step ↦ allowed_by c.device q.decodes.request q.errand bytes q.changer q.asks (ap is_failure (sym step.reports) ∙ left)
    ]

ended_free : {A : Type 0} (c v : UnitView) (n : Nexus) (cdb bytes : List ℕ) (r : Reply) (drives after : A) (answer : JudgedUnit × Decision × Reply) (carried : Result (DeviceView × A) Condition)
    → ((v, r), after) ≡ ended c n cdb bytes drives answer carried → carrying_fails carried ≡ false → is_failure r.sense ≡ false
ended_free {A} c v n cdb bytes r drives after answer (Ok it) e free = ap (λ (x : (UnitView × Reply) × A). is_failure x.0.1.sense) e
ended_free {A} c v n cdb bytes r drives after answer (Err condition) e free = ap (λ (x : (UnitView × Reply) × A). is_failure x.0.1.sense) e ∙ free

concluded_free : {A : Type 0} (c v : UnitView) (n : Nexus) (cdb bytes : List ℕ) (r : Reply) (drives after : A) (answer : JudgedUnit × Decision × Reply) (carried : Result (DeviceView × A) Condition) (left : Bool) → is_left answer.2.sense ≡ left
    → ((v, r), after) ≡ concluded_by left (recorded c n (act_of (commands_of c.device) cdb bytes) answer, drives) (ended c n cdb bytes drives answer carried)
    → (left ≡ true → carrying_fails carried ≡ false) → is_failure r.sense ≡ false
concluded_free {A} c v n cdb bytes r drives after answer carried true left e free = ended_free c v n cdb bytes r drives after answer carried e (free refl)
concluded_free {A} c v n cdb bytes r drives after answer carried false left e free = ap (λ (x : (UnitView × Reply) × A). is_failure x.0.1.sense) e ∙ left

-- a way that is noted changes nothing of that
noted_free : {A : Type 0} (q : Errand) (carried : Result (DeviceView × A) Condition) → carrying_fails carried ≡ false → carrying_fails (on_its_way q carried) ≡ false
noted_free {A} q (Ok it) h = refl
noted_free {A} q (Err condition) h = h

rising_same : (same less : Bool) (a b l : ℕ) → (a == b) ≡ same → cond same (a ∷ []) (cond less (a ∷ b ∷ []) (b ∷ a ∷ [])) ≡ l ∷ [] → a ≡ b
rising_same true less a b l same h = exact_unsigned_eq a b same
rising_same false true a b l same h = absurd cc
rising_same false false a b l same h = absurd cc

module _ (c : UnitView) (ds : List UnitView) (o : IsOrdered c ds) (n : Nexus) (cdb bytes : List ℕ) (v : UnitView) (r : Reply) where
  by_one : (q : Route) (a : IsAllowed c.device q) (k : ℕ) (d : UnitView) (from to : Option ℕ) → slice_get ds k ≡ Some d → q.from ≡ from → q.to ≡ to → from ≡ drive_at (drives_of c.device) q.source → to ≡ drive_at (drives_of c.device) q.destination
      → named_by from to ≡ suc k ∷ [] → carrying_fails (carried_by_one c.device d q from to) ≡ false
  by_one q a k d None None there from_is to_is f t names = absurd cc
  by_one q a k d (Some l) None there from_is to_is f t names =
      let is : l ≡ suc k = cc in
      unloaded_free c.device d q (drive_gives c ds q k d o a (drive_of c ds k d o there).kind (sym f ∙ ap some_of is) there) (a.ways.destination to_is)
  by_one q a k d None (Some m) there from_is to_is f t names =
      let is : m ≡ suc k = cc in
      loaded_free c.device d q (a.ways.source from_is) (drive_receives c ds q k d o a (drive_of c ds k d o there).kind (sym t ∙ ap some_of is) there)
  by_one q a k d (Some l) (Some m) there from_is to_is f t names =
      let is : l ≡ m = rising_same (l == m) (nat_lt l m) l m (suc k) refl names in
      let source = (drive_within (drives_of c.device) q.source l (sym f)).2 in
      let destination = (drive_within (drives_of c.device) q.destination m (sym t)).2 in
      let same : q.source ≡ q.destination = source ∙ ap (λ x. x + 0xFF) is ∙ sym destination in
      let full = a.full in
      let empty : held_in c.device q.source ≡ None = ap (held_in c.device) same ∙ a.empty in
      absurd cc

  -- each end of an exchange is the drive's, or the changer's own
  end_of : (x : ExchangeRoute) (a : IsAllowedExchange c.device x) (k : ℕ) (d : UnitView) (there : slice_get ds k ≡ Some d) (address : ℕ) (drive : Option ℕ) → drive ≡ drive_at (drives_of c.device) address → IsAt drive (suc k)
      → IsEndOf c ds o x a k d there (is_some drive) address
  end_of x a k d there address None is at = sym is
  end_of x a k d there address (Some l) is (inl none) = absurd cc
  end_of x a k d there address (Some l) is (inr at) = sym is ∙ at

  with_one : (q : Errand) (asked : Request) → Asks (drives_of c.device) asked q → Allowed c.device q → (k : ℕ) (d : UnitView) → slice_get ds k ≡ Some d → named_in (Some q) ≡ suc k ∷ []
      → carrying_fails (carried_with_one c.device d q) ≡ false
  with_one (Move q) asked asks a k d there names = by_one q a k d q.from q.to there refl refl asks.from asks.to names
  with_one (Exchange x) asked asks a k d there names =
      let lone = named_alone x.from x.between x.to (suc k) [] names in
      exchanged_free c ds o x a k d there (is_some x.from) (is_some x.between) (is_some x.to) a.ways
      (end_of x a k d there x.source x.from asks.from lone.from_is) (end_of x a k d there x.first x.between asks.between lone.between_is) (end_of x a k d there x.second x.to asks.to lone.to_is)

  one_free : (k : ℕ) (d e : UnitView) → slice_get ds k ≡ Some d → named (commands_of c.device) (drives_of c.device) cdb ≡ suc k ∷ [] → MovesOne c d n cdb bytes ((v, r), e) → is_failure r.sense ≡ false
  one_free k d e there names (inl busy) = ap (λ (x : (UnitView × Reply) × UnitView). is_failure x.0.1.sense) busy
  one_free k d e there names (inr moves) =
      let q = has_errand c.device cdb (suc k) [] names in
      concluded_free c v n cdb bytes r d e (judged_at c n cdb bytes) (carried_one c.device d (errand_at c cdb)) (is_left (judged_at c n cdb bytes).2.sense) refl moves.3
      (λ left. ap (λ (x : Option Errand). carrying_fails (carried_one c.device d x)) q.is
      ∙ noted_free q.errand (carried_with_one c.device d q.errand)
      (with_one q.errand q.decodes.request q.asks (left_at c n cdb bytes (suc k) [] q left) k d there q.names))

  upward_free : (p : Result (DeviceView × UnitView × UnitView) Condition) → carrying_fails p ≡ false → carrying_fails (upward p) ≡ false
  upward_free (Ok it) h = refl
  upward_free (Err condition) h = h

  downward_free : (p : Result (DeviceView × UnitView × UnitView) Condition) → carrying_fails p ≡ false → carrying_fails (downward p) ≡ false
  downward_free (Ok it) h = refl
  downward_free (Err condition) h = h

  abbrev pub by_way : TwoDrives → Route → Bool → Result (DeviceView × TwoDrives) Condition
  by_way ds' q up = cond up (upward (passed c.device ds'.low ds'.high q)) (downward (passed c.device ds'.high ds'.low q))

  by_two : (q : Route) (a : IsAllowed c.device q) (i j : ℕ) (ds' : TwoDrives) → slice_get ds i ≡ Some ds'.low → slice_get ds j ≡ Some ds'.high → q.from ≡ drive_at (drives_of c.device) q.source → q.to ≡ drive_at (drives_of c.device) q.destination
      → AreNamed q.from q.to (suc i) (suc j) true ⊎ AreNamed q.from q.to (suc j) (suc i) false → carrying_fails (by_way ds' q (is_upward q.from q.to)) ≡ false
  by_two q a i j ds' low high f t (inl up) =
      ap (λ b. carrying_fails (by_way ds' q b)) up.way
      ∙ upward_free (passed c.device ds'.low ds'.high q) (passed_free c.device ds'.low ds'.high q
      (drive_gives c ds q i ds'.low o a (drive_of c ds i ds'.low o low).kind (sym f ∙ up.from_is) low)
      (drive_receives c ds q j ds'.high o a (drive_of c ds j ds'.high o high).kind (sym t ∙ up.to_is) high))
  by_two q a i j ds' low high f t (inr down) =
      ap (λ b. carrying_fails (by_way ds' q b)) down.way
      ∙ downward_free (passed c.device ds'.high ds'.low q) (passed_free c.device ds'.high ds'.low q
      (drive_gives c ds q j ds'.high o a (drive_of c ds j ds'.high o high).kind (sym f ∙ down.from_is) high)
      (drive_receives c ds q i ds'.low o a (drive_of c ds i ds'.low o low).kind (sym t ∙ down.to_is) low))

  two_free : (i j : ℕ) (more : List ℕ) (ds' es : TwoDrives) → slice_get ds i ≡ Some ds'.low → slice_get ds j ≡ Some ds'.high → named (commands_of c.device) (drives_of c.device) cdb ≡ suc i ∷ suc j ∷ more → MovesTwo c ds' n cdb bytes ((v, r), es) → is_failure r.sense ≡ false
  two_free i j more ds' es low high names (inl busy) = ap (λ (x : (UnitView × Reply) × TwoDrives). is_failure x.0.1.sense) busy
  two_free i j more ds' es low high names (inr moves) =
      let q = has_route c.device cdb (suc i) (suc j) more names in
      let asked = has_errand c.device cdb (suc i) (suc j ∷ more) names in
      let is : asked.errand ≡ Move q.route = same_some asked.errand (Move q.route) (sym asked.is ∙ q.is) in
      concluded_free c v n cdb bytes r ds' es (judged_at c n cdb bytes) (carried_two c.device ds' (errand_at c cdb)) (is_left (judged_at c n cdb bytes).2.sense) refl moves.3
      (λ left. ap (λ (x : Option Errand). carrying_fails (carried_two c.device ds' x)) q.is
      ∙ noted_free (Move q.route) (by_way ds' q.route (is_upward q.route.from q.route.to))
      (by_two q.route (subst (Allowed c.device) is (left_at c n cdb bytes (suc i) (suc j ∷ more) asked left)) i j ds' low high q.from q.to (named_two q.route.from q.route.to (suc i) (suc j) more q.names).1))

-- AN ABSENT UNIT
either_answer : (b : Bool) (x y : Reply) → is_failure x.sense ≡ false → is_failure y.sense ≡ false → is_failure (cond b x y).sense ≡ false
either_answer true x y p q = p
either_answer false x y p q = q

absent_free : (cdb : List ℕ) (r : Reply) → AnswersAbsent cdb r → is_failure r.sense ≡ false
absent_free cdb r (inl busy) = ap (λ (x : Reply). is_failure x.sense) busy.0
absent_free cdb r (inr answer) =
    ap (λ (x : Reply). is_failure x.sense) answer
    ∙ either_answer (nat_lt (length cdb) 6) (check LogicalUnitNotSupported) _ refl
    (either_answer (byte cdb 0 == 0x12 && not (bit cdb 1 0)) _ _ refl (either_answer (byte cdb 0 == 0x03) _ _ refl refl))

-- THE STEPS
commands_free : (c : UnitView) (ds ms : List UnitView) (at : ℕ) (n : Nexus) (cdb bytes : List ℕ) (r : Reply) → IsOrdered c ds → Goes c ds n cdb bytes ms r at → is_failure r.sense ≡ false
commands_free c ds ms at n cdb bytes r o (inl absent) = absent_free cdb r absent.answer
commands_free c ds ms at n cdb bytes r o (inr (inl it)) = drive_free it.drive it.step.unit n cdb bytes r (drive_of c ds it.place it.drive o it.there).kind it.step.step
commands_free c ds ms at n cdb bytes r o (inr (inr (inl it))) = changer_free c it.step.unit n cdb bytes r o.kind it.names it.step.step
commands_free c ds ms at n cdb bytes r o (inr (inr (inr (inl it)))) = one_free c ds o n cdb bytes it.step.changer r it.place it.drive it.step.other it.there it.names it.step.step
commands_free c ds ms at n cdb bytes r o (inr (inr (inr (inr it)))) =
    two_free c ds o n cdb bytes it.step.changer r it.low it.high it.more it.drives it.step.drives it.low_there it.high_there it.names it.step.step

loses_free : (us ms : List UnitView) (at : ℕ) (n : Nexus) (r : Reply) (w : Option UnitView) → LosesAt us at w n (ms, r) → is_failure r.sense ≡ false
loses_free us ms at n r None step = ap (λ (x : List UnitView × Reply). is_failure x.1.sense) step
loses_free us ms at n r (Some w) step =
    let by : IsLost w n (step.unit, r) → is_failure r.sense ≡ false = λ lost. elim lost [
      | inl busy ↦ ap (λ (x : UnitView × Reply). is_failure x.1.sense) busy.0
      | inr it ↦ ap (λ (x : Reply). is_failure x.sense) it.2
    ] in
    by step.step

resets_free : (us ms : List UnitView) (at : ℕ) (r : Reply) (w : Option UnitView) → ResetsAt us at w (ms, r) → is_failure r.sense ≡ false
resets_free us ms at r None step = ap (λ (x : List UnitView × Reply). is_failure x.1.sense) step
resets_free us ms at r (Some w) step =
    let by : IsReset w (step.unit, r) → is_failure r.sense ≡ false = λ was. elim was [
      | inl busy ↦ ap (λ (x : UnitView × Reply). is_failure x.1.sense) busy
      | inr it ↦ ap (λ (x : Reply). is_failure x.sense) it.2
    ] in
    by step.step

step_free : (us ms : List UnitView) (e : Event) (r : Reply) → fault_of us ≡ None → Steps us e (ms, r) → is_failure r.sense ≡ false
step_free [] ms e r h step = absurd cc
step_free (c ∷ ds) ms (event.Command n at cdb bytes) r h step =
    let o = ordered c ds h in
    commands_free c ds ms at n cdb.items bytes.items r o (goes c ds n cdb.items bytes.items ms r o at (slice_get (c ∷ ds) at) refl step)
step_free (c ∷ ds) ms (event.Loss n at) r h step = loses_free (c ∷ ds) ms at n r (slice_get (c ∷ ds) at) step
step_free (c ∷ ds) ms (event.Reset at) r h step = resets_free (c ∷ ds) ms at r (slice_get (c ∷ ds) at) step

pub never_fails : NeverFails
never_fails us vs [] [] h run = All-nil (λ (r : Reply). is_failure r.sense ≡ false)
never_fails us vs (e ∷ es) (r ∷ rs) h run =
    All-cons (λ (x : Reply). is_failure x.sense ≡ false) r rs (step_free us run.0 e r h run.1) (never_fails run.0 vs es rs (step_order us run.0 e r h run.1) run.2)
never_fails us vs [] (r ∷ rs) h run = absurd run
never_fails us vs (e ∷ es) [] h run = absurd run

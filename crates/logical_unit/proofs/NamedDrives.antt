-- The drives that a command names, and what it asks of volumes.
use Rattle.std.proofs.Common.{◌≡◌, ◌≤◌, ◌<◌, ◌==◌, ◌-◌, ◌+◌, ◌∙◌, ℕ, Bool, true, false, List, [], ◌∷◌, Option, Some, None, Result, Ok, Err, refl, sym, ap, subst, inl, inr, arith}
use Rattle.std.proofs.lemmas.Bool.{eqb-true}
use Rattle.std.proofs.lemmas.Bool.Decides.{nat_tests}
use Rattle.std.specs.Prelude.{cond, ◌&&◌, nat_lt, ◌⊎◌}
use Rattle.scsi_nexus.specs.declared.nexus.Nexus.{Nexus}
use Rattle.scsi_cdb.specs.Classes.{class_of}
use Rattle.scsi_cdb.specs.Commands.{decoded}
use Rattle.scsi_cdb.specs.declared.classes.Class.{Class}
use Rattle.scsi_cdb.specs.declared.classes.Class.TheVariants as class
use Rattle.scsi_cdb.specs.declared.fault.CdbFault.{CdbFault}
use Rattle.scsi_cdb.specs.declared.host_request.HostRequest.{HostRequest}
use Rattle.scsi_cdb.specs.declared.host_request.HostRequest.TheVariants as host
use Rattle.scsi_cdb.specs.declared.kind.Kind.TheVariants as kind
use Rattle.scsi_cdb.specs.declared.profile.CommandSet.{CommandSet}
use Rattle.scsi_cdb.specs.declared.request.Request.{Request}
use Rattle.scsi_cdb.specs.declared.request.Request.TheVariants as request
use Rattle.permit_tables.specs.Permission.{Changing, group_of}
use Rattle.tape_medium.specs.Elements.{first_data_transfer, is_among}
use Rattle.audit_log.specs.declared.act.Act.TheVariants as act
use Rattle.device_server.specs.View.{DeviceView, Drive, Changer, kind_of, commands_of, drives_of}
use Rattle.device_server.specs.Volumes.{is_move}
use Rattle.judgement.specs.Commands.{command_of, decoded_command, act_of, act_of_decoded, passes_over}
use Rattle.judgement.specs.Conditions.{condition_of_fault}
use Rattle.judgement.specs.Judge.{unloads}
use Rattle.judgement.specs.UnitStateView.{UnitStateView}
use Rattle.judgement.specs.declared.command.Command.TheVariants.{Device}
use Rattle.logical_unit.specs.Legal.{is_of_every_unit, is_reserve_out, left_by_class}
use Rattle.logical_unit.specs.MoveJudgement.{DecodesTo}
use Rattle.logical_unit.specs.Route.{drive_at, is_upward, errand_in, errand_of, class_of_errand, named_by, named_among, named_in, named}
use Rattle.logical_unit.specs.declared.route.Errand.{Errand}
use Rattle.logical_unit.specs.declared.route.Errand.TheVariants as errand
use Rattle.logical_unit.specs.declared.route.ExchangeRoute.{ExchangeRoute}
use Rattle.logical_unit.specs.declared.route.Route.{Route}

-- what a request asks of volumes: a MOVE MEDIUM that its volume goes a route, and an EXCHANGE MEDIUM that its two go theirs
pub record AsksMove (drives : ℕ) (q : Request) (r : Route) : Type 0 where
  pub transport : ℕ
  pub invert : Bool
  pub is : q ≡ request.MoveMedium transport r.source r.destination invert
  pub from : r.from ≡ drive_at drives r.source
  pub to : r.to ≡ drive_at drives r.destination

pub record AsksExchange (drives : ℕ) (q : Request) (x : ExchangeRoute) : Type 0 where
  pub transport : ℕ
  pub inv1 : Bool
  pub inv2 : Bool
  pub is : q ≡ request.Host (host.ExchangeMedium transport x.source x.first x.second inv1 inv2)
  pub from : x.from ≡ drive_at drives x.source
  pub between : x.between ≡ drive_at drives x.first
  pub to : x.to ≡ drive_at drives x.second

abbrev pub Asks : (drives : ℕ) → Request → Errand → Type 0
Asks drives q (errand.Move r) = AsksMove drives q r
Asks drives q (errand.Exchange x) = AsksExchange drives q x

host_asks : (drives : ℕ) (command : HostRequest) (e : Errand) → errand_in drives (request.Host command) ≡ Some e → Asks drives (request.Host command) e
host_asks drives (host.ExchangeMedium transport source first second inv1 inv2) e h =
    let is : ◌≡◌ {A = Errand} (errand.Exchange (record {
      source = source;
      first = first;
      second = second;
      from = drive_at drives source;
      between = drive_at drives first;
      to = drive_at drives second;
    })) e = cc in
    subst (Asks drives (request.Host (host.ExchangeMedium transport source first second inv1 inv2))) is
    (record { transport = transport; inv1 = inv1; inv2 = inv2; is = refl; from = refl; between = refl; to = refl })
host_asks drives command e h = absurd cc

pub asks : (drives : ℕ) (q : Request) (e : Errand) → errand_in drives q ≡ Some e → Asks drives q e
asks drives (request.MoveMedium transport source destination invert) e h =
    let is : ◌≡◌ {A = Errand} (errand.Move (record {
      source = source;
      destination = destination;
      from = drive_at drives source;
      to = drive_at drives destination;
    })) e = cc in
    subst (Asks drives (request.MoveMedium transport source destination invert)) is
    (record { transport = transport; invert = invert; is = refl; from = refl; to = refl })
asks drives (request.Host command) e h = host_asks drives command e h
asks drives q e h = absurd cc

abbrev pub errand_by : ℕ → Result Request CdbFault → Option Errand
errand_by drives o = elim o [ Ok q ↦ errand_in drives q | Err fault ↦ None ]

decodes_by : (commands : CommandSet) (drives : ℕ) (cdb : List ℕ) (o : Result Request CdbFault) (e : Errand) → decoded commands cdb ≡ o → errand_by drives o ≡ Some e
    → DecodesTo commands drives cdb e
decodes_by commands drives cdb (Ok q) e reads h = record { request = q; reads = reads; asks = h }
decodes_by commands drives cdb (Err fault) e reads h = absurd cc

pub decodes : (commands : CommandSet) (drives : ℕ) (cdb : List ℕ) (e : Errand) → errand_of commands drives cdb ≡ Some e → DecodesTo commands drives cdb e
decodes commands drives cdb e h = decodes_by commands drives cdb (decoded commands cdb) e refl h

-- a drive that an address names
drive_in : (among : Bool) (drives address l : ℕ) → is_among first_data_transfer drives address ≡ among → cond among (Some (address - 0xFF))
    None ≡ Some l → (1 ≤ l) × (l ≤ drives) × (address ≡ l + 0xFF)
drive_in true drives address l among h =
    let is : address - 0xFF ≡ l = cc in
    let low : first_data_transfer ≤ address = grind (arith, nat_tests) in
    let high : address < first_data_transfer + drives = grind (arith, nat_tests) in
    (omega (arith, is, low, high), omega (arith, is, low, high), omega (arith, is, low, high))
drive_in false drives address l among h = absurd cc

pub drive_within : (drives address l : ℕ) → drive_at drives address ≡ Some l → (1 ≤ l) × (l ≤ drives) × (address ≡ l + 0xFF)
drive_within drives address l h = drive_in (is_among first_data_transfer drives address) drives address l refl h

abbrev pub some_of : ℕ → Option ℕ
some_of l = Some l

-- one drive is named: by one of the ends, or by both
one_by : (same less : Bool) (a b l : ℕ) → cond same (a ∷ []) (cond less (a ∷ b ∷ []) (b ∷ a ∷ [])) ≡ l ∷ [] → ◌≡◌ {A = Option ℕ} (Some a)
    (Some l)
one_by true less a b l h = cc
one_by false true a b l h = absurd cc
one_by false false a b l h = absurd cc

pub named_one : (from to : Option ℕ) (l : ℕ) → named_by from to ≡ l ∷ [] → (from ≡ Some l) ⊎ (to ≡ Some l)
named_one None None l h = absurd cc
named_one (Some a) None l h = inl cc
named_one None (Some b) l h = inr cc
named_one (Some a) (Some b) l h = inl (one_by (a == b) (nat_lt a b) a b l h)

-- two are, by one end each
pub record AreNamed (from to : Option ℕ) (giver taker : ℕ) (up : Bool) : Type 0 where
  pub from_is : from ≡ Some giver
  pub to_is : to ≡ Some taker
  pub way : is_upward from to ≡ up

abbrev pub BothNamed : (from to : Option ℕ) → (l m : ℕ) → Type 0
BothNamed from to l m = (l < m) × (AreNamed from to l m true ⊎ AreNamed from to m l false)

two_by : (same less : Bool) (a b l m : ℕ) (more : List ℕ) → (a == b) ≡ same → nat_lt a b ≡ less → cond same (a ∷ [])
    (cond less (a ∷ b ∷ []) (b ∷ a ∷ [])) ≡ l ∷ m ∷ more → BothNamed (Some a) (Some b) l m
two_by true less a b l m more same is h = absurd cc
two_by false true a b l m more same is h =
    let first : a ≡ l = cc in
    let second : b ≡ m = cc in
    let low : a < b = grind (arith, nat_tests) in
    (omega (arith, first, second, low), inl (record { from_is = ap some_of first; to_is = ap some_of second; way = is }))
two_by false false a b l m more same is h =
    let first : b ≡ l = cc in
    let second : a ≡ m = cc in
    let low : b < a = grind (arith, nat_tests) in
    (omega (arith, first, second, low), inr (record { from_is = ap some_of second; to_is = ap some_of first; way = is }))

pub named_two : (from to : Option ℕ) (l m : ℕ) (more : List ℕ) → named_by from to ≡ l ∷ m ∷ more → BothNamed from to l m
named_two None None l m more h = absurd cc
named_two (Some a) None l m more h = absurd cc
named_two None (Some b) l m more h = absurd cc
named_two (Some a) (Some b) l m more h = two_by (a == b) (nat_lt a b) a b l m more refl refl h

-- one drive is named of three: each is that one, or none
abbrev pub IsAt : Option ℕ → ℕ → Type 0
IsAt drive l = (drive ≡ None) ⊎ (drive ≡ Some l)

pub record IsAlone (from between to : Option ℕ) (l : ℕ) (more : List ℕ) : Type 0 where
  pub no_more : more ≡ []
  pub from_is : IsAt from l
  pub between_is : IsAt between l
  pub to_is : IsAt to l

alone_by : (a b l : ℕ) (more : List ℕ) (same : Bool) → (b == a) ≡ same → cond (same && true) (a ∷ []) [] ≡ l ∷ more → (more ≡ []) × ((a ≡ l) × (b ≡ l))
alone_by a b l more true is h =
    let first : a ≡ l = cc in
    let none : more ≡ [] = cc in
    (none, (first, eqb-true b a is ∙ first))
alone_by a b l more false is h = absurd cc

alone_of_three : (a b c l : ℕ) (more : List ℕ) (p q : Bool) → (b == a) ≡ p → (c == a) ≡ q → cond (p && (q && true)) (a ∷ []) [] ≡ l ∷ more → (more ≡ []) × ((a ≡ l) × ((b ≡ l) × (c ≡ l)))
alone_of_three a b c l more true true is_b is_c h =
    let first : a ≡ l = cc in
    let none : more ≡ [] = cc in
    (none, (first, (eqb-true b a is_b ∙ first, eqb-true c a is_c ∙ first)))
alone_of_three a b c l more true false is_b is_c h = absurd cc
alone_of_three a b c l more false q is_b is_c h = absurd cc

pub named_alone : (from between to : Option ℕ) (l : ℕ) (more : List ℕ) → named_among from between to ≡ l ∷ more → IsAlone from between to l more
named_alone None None None l more h = absurd cc
named_alone (Some a) None None l more h = record { no_more = cc; from_is = inr cc; between_is = inl refl; to_is = inl refl }
named_alone None (Some b) None l more h = record { no_more = cc; from_is = inl refl; between_is = inr cc; to_is = inl refl }
named_alone None None (Some c) l more h = record { no_more = cc; from_is = inl refl; between_is = inl refl; to_is = inr cc }
named_alone (Some a) (Some b) None l more h =
    let s = alone_by a b l more (b == a) refl h in
    record { no_more = s.0; from_is = inr (ap some_of s.1.0); between_is = inr (ap some_of s.1.1); to_is = inl refl }
named_alone (Some a) None (Some c) l more h =
    let s = alone_by a c l more (c == a) refl h in
    record { no_more = s.0; from_is = inr (ap some_of s.1.0); between_is = inl refl; to_is = inr (ap some_of s.1.1) }
named_alone None (Some b) (Some c) l more h =
    let s = alone_by b c l more (c == b) refl h in
    record { no_more = s.0; from_is = inl refl; between_is = inr (ap some_of s.1.0); to_is = inr (ap some_of s.1.1) }
named_alone (Some a) (Some b) (Some c) l more h =
    let s = alone_of_three a b c l more (b == a) (c == a) refl refl h in
    record { no_more = s.0; from_is = inr (ap some_of s.1.0); between_is = inr (ap some_of s.1.1.0); to_is = inr (ap some_of s.1.1.1) }

-- what a command that names a drive asks of volumes, at a device that is a changer
pub record HasErrand (device : DeviceView) (cdb : List ℕ) (l : ℕ) (more : List ℕ) : Type 0 where
  pub errand : Errand
  pub is : errand_of (commands_of device) (drives_of device) cdb ≡ Some errand
  pub decodes : DecodesTo (commands_of device) (drives_of device) cdb errand
  pub asks : Asks (drives_of device) decodes.request errand
  pub names : named_in (Some errand) ≡ l ∷ more
  pub changer : kind_of device ≡ kind.Changer

first_within : (from to : Option ℕ) (drives source destination l : ℕ) (more : List ℕ) → from ≡ drive_at drives source → to ≡ drive_at drives
    destination → named_by from to ≡ l ∷ more → 1 ≤ drives
first_within None None drives source destination l more f t h = absurd cc
first_within (Some a) to drives source destination l more f t h = let w = drive_within drives source a (sym f) in omega (arith, w.0, w.1)
first_within None (Some b) drives source destination l more f t h = let w = drive_within drives destination b (sym t) in omega
    (arith, w.0, w.1)

one_within : (from between to : Option ℕ) (drives source first second l : ℕ) (more : List ℕ) → from ≡ drive_at drives source → between ≡ drive_at drives first
    → to ≡ drive_at drives second → named_among from between to ≡ l ∷ more → 1 ≤ drives
one_within None None None drives source first second l more f b t h = absurd cc
one_within (Some a) between to drives source first second l more f b t h = let w = drive_within drives source a (sym f) in omega (arith, w.0, w.1)
one_within None (Some m) to drives source first second l more f b t h = let w = drive_within drives first m (sym b) in omega (arith, w.0, w.1)
one_within None None (Some m) drives source first second l more f b t h = let w = drive_within drives second m (sym t) in omega (arith, w.0, w.1)

errand_within : (drives : ℕ) (q : Request) (e : Errand) (l : ℕ) (more : List ℕ) → Asks drives q e → named_in (Some e) ≡ l ∷ more → 1 ≤ drives
errand_within drives q (errand.Move r) l more s h = first_within r.from r.to drives r.source r.destination l more s.from s.to h
errand_within drives q (errand.Exchange x) l more s h =
    one_within x.from x.between x.to drives x.source x.first x.second l more s.from s.between s.to h

has_drives : (device : DeviceView) → 1 ≤ drives_of device → kind_of device ≡ kind.Changer
has_drives (Drive d) h = absurd (omega (arith, h))
has_drives (Changer e) h = refl

errand_named : (device : DeviceView) (cdb : List ℕ) (l : ℕ) (more : List ℕ) (o : Option Errand) → errand_of (commands_of device) (drives_of device) cdb ≡ o →
    named_in o ≡ l ∷ more → HasErrand device cdb l more
errand_named device cdb l more None is h = absurd cc
errand_named device cdb l more (Some e) is h =
    let s = decodes (commands_of device) (drives_of device) cdb e is in
    let a = asks (drives_of device) s.request e s.asks in
    record { errand = e; is = is; decodes = s; asks = a; names = h; changer = has_drives device (errand_within (drives_of device) s.request e l more a h) }

pub has_errand : (device : DeviceView) (cdb : List ℕ) (l : ℕ) (more : List ℕ) → named (commands_of device) (drives_of device) cdb ≡ l ∷ more
    → HasErrand device cdb l more
has_errand device cdb l more h = errand_named device cdb l more (errand_of (commands_of device) (drives_of device) cdb) refl h

-- one that names two drives is a MOVE MEDIUM
pub record HasRoute (device : DeviceView) (cdb : List ℕ) (l m : ℕ) (more : List ℕ) : Type 0 where
  pub route : Route
  pub is : errand_of (commands_of device) (drives_of device) cdb ≡ Some (errand.Move route)
  pub from : route.from ≡ drive_at (drives_of device) route.source
  pub to : route.to ≡ drive_at (drives_of device) route.destination
  pub names : named_by route.from route.to ≡ l ∷ m ∷ more
  pub changer : kind_of device ≡ kind.Changer

route_named : (device : DeviceView) (cdb : List ℕ) (l m : ℕ) (more : List ℕ) (q : Request) (e : Errand) → errand_of (commands_of device) (drives_of device) cdb ≡ Some e
    → Asks (drives_of device) q e → named_in (Some e) ≡ l ∷ m ∷ more → kind_of device ≡ kind.Changer → HasRoute device cdb l m more
route_named device cdb l m more q (errand.Move r) is a names changer = record { route = r; is = is; from = a.from; to = a.to; names = names; changer = changer }
route_named device cdb l m more q (errand.Exchange x) is a names changer = let none = (named_alone x.from x.between x.to l (m ∷ more) names).no_more in absurd cc

pub has_route : (device : DeviceView) (cdb : List ℕ) (l m : ℕ) (more : List ℕ) → named (commands_of device) (drives_of device) cdb ≡ l ∷ m ∷ more
    → HasRoute device cdb l m more
has_route device cdb l m more h =
    let e = has_errand device cdb l (m ∷ more) h in route_named device cdb l m more e.decodes.request e.errand e.is e.asks e.names e.changer

-- it is of a class that every unit leaves to its device, and moves volumes
pub record IsMoving (q : Request) : Type 0 where
  pub moves : is_move q ≡ true
  pub no_unload : unloads q ≡ false
  pub not_of_units : is_of_every_unit (class_of q) ≡ false
  pub listless : is_reserve_out (class_of q) ≡ false
  pub changing : group_of (class_of q) ≡ Changing
  pub waits : passes_over (class_of q) ≡ false
  pub untold : (k : UnitStateView) (n : Nexus) → left_by_class k n (class_of q) None ≡ k
  pub command : (bytes : List ℕ) → command_of q bytes ≡ Ok (Device q)

pub moving : (drives : ℕ) (q : Request) (e : Errand) → Asks drives q e → IsMoving q
moving drives q (errand.Move r) a =
    subst IsMoving (sym a.is) (record { moves = refl; no_unload = refl; not_of_units = refl; listless = refl; changing = refl; waits = refl; untold = λ k n. refl; command = λ bytes. refl })
moving drives q (errand.Exchange x) a =
    subst IsMoving (sym a.is) (record { moves = refl; no_unload = refl; not_of_units = refl; listless = refl; changing = refl; waits = refl; untold = λ k n. refl; command = λ bytes. refl })

-- so a command that names a drive asks for that
pub errand_asked : (device : DeviceView) (cdb bytes : List ℕ) (l : ℕ) (more : List ℕ) (named_so : HasErrand device cdb l more)
    → decoded_command (commands_of device) cdb bytes ≡ Ok (Device named_so.decodes.request)
errand_asked device cdb bytes l more e =
    ap (λ (d : Result Request CdbFault). elim d [ Ok q ↦ command_of q bytes | Err fault ↦ Err (condition_of_fault fault) ]) e.decodes.reads
    ∙ (moving (drives_of device) e.decodes.request e.errand e.asks).command bytes

class_asked : (drives : ℕ) (q : Request) (e : Errand) → Asks drives q e → class_of q ≡ class_of_errand e
class_asked drives q (errand.Move r) a = ap class_of a.is
class_asked drives q (errand.Exchange x) a = ap class_of a.is

-- so the record of a command that asks this of volumes tells the errand's class
pub act_asked : (commands : CommandSet) (drives : ℕ) (cdb bytes : List ℕ) (e : Errand) → errand_of commands drives cdb ≡ Some e
    → act_of commands cdb bytes ≡ act.Command (class_of_errand e)
act_asked commands drives cdb bytes e is =
    let s = decodes commands drives cdb e is in
    let a = asks drives s.request e s.asks in
    ap (λ (d : Result Request CdbFault). act_of_decoded (elim d [ Ok q ↦ command_of q bytes | Err fault ↦ Err (condition_of_fault fault) ])) s.reads
    ∙ ap act_of_decoded ((moving drives s.request e a).command bytes)
    ∙ ap (λ (c : Class). act.Command c) (class_asked drives s.request e a)

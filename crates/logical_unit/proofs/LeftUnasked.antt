-- What a changer leaves to its drives is known before its device is asked: a move that its map lets go, and before which nothing stands.
use Rattle.std.proofs.Common.{◌≡◌, ℕ, Bool, true, false, List, Option, Some, None, Result, Ok, Err, refl, sym, ap, ◌∙◌, subst}
use Rattle.std.specs.Prelude.{◌&&◌, is_none}
use Rattle.scsi_cdb.specs.declared.kind.Kind.TheVariants as kind
use Rattle.scsi_cdb.specs.declared.host_request.HostRequest.TheVariants as host
use Rattle.scsi_cdb.specs.declared.request.Request.{Request}
use Rattle.scsi_cdb.specs.declared.request.Request.TheVariants as request
use Rattle.scsi_nexus.specs.declared.nexus.Nexus.{Nexus}
use Rattle.scsi_sense.specs.declared.condition.Condition.{Condition}
use Rattle.scsi_sense.specs.declared.condition.Condition.TheVariants.{InternalTargetFailure}
use Rattle.scsi_sense.specs.declared.sense.Sense.{Sense}
use Rattle.unit_attention.specs.declared.kind.Kind.{Kind}
use Rattle.unit_attention.specs.Queues.{first_other_of}
use Rattle.permit_tables.specs.declared.cell.Cell.{Cell}
use Rattle.pr_core.specs.declared.verdict.Verdict.{Verdict}
use Rattle.device_server.specs.Failures.{is_for_drives}
use Rattle.device_server.specs.HostChanger.{ChangerView}
use Rattle.device_server.specs.View.{DeviceView, Drive, Changer, kind_of, drives_of}
use Rattle.device_server.specs.Volumes.{is_move}
use Rattle.judgement.specs.declared.command.Command.{Command}
use Rattle.judgement.specs.declared.command.Command.TheVariants.{Device}
use Rattle.judgement.specs.declared.decision.Decision.{Decision}
use Rattle.judgement.specs.declared.reply.Reply.{Reply}
use Rattle.judgement.specs.Commands.{class_of_command}
use Rattle.judgement.specs.Decisions.{at_device, in_cell}
use Rattle.judgement.specs.JudgedUnit.{JudgedUnit}
use Rattle.judgement.specs.Judge.{at_cell, carried_out, commanded, is_allowed_by, is_carried_out, judged_as, unloads, waiting}
use Rattle.judgement.specs.Readings.{verdict_of}
use Rattle.judgement.specs.Replies.{check}
use Rattle.judgement.specs.Standing.{EndsBefore, ComesThrough}
use Rattle.judgement.specs.UnitState.{after_contact}
use Rattle.judgement.specs.UnitStateView.{UnitStateView}
use Rattle.logical_unit.specs.Move.{is_left}
use Rattle.logical_unit.specs.MoveFinding.{leaves, spells_move}
use Rattle.logical_unit.specs.Route.{errand_in}
use Rattle.logical_unit.specs.declared.route.Errand.{Errand}
use Rattle.logical_unit.proofs.LeftToDrives.{GoesOn, left_is_own, own_fails, left_answer, by_field}
use Rattle.logical_unit.proofs.NamedDrives.{asks}

-- a test that doesn't hold
is_false : (b : Bool) → (b ≡ true → ⊥) → b ≡ false
is_false true h = absurd (h refl)
is_false false h = refl

apart : (b : Bool) → b ≡ true → b ≡ false → ⊥
apart true h i = cc
apart false h i = cc

-- a command before which nothing stands comes to its own rules
comes : (u : JudgedUnit) (n : Nexus) (c : Command) → GoesOn u n c → is_carried_out u n c ≡ true
comes u n c goes =
    let clear : Bool = is_none (waiting (class_of_command c) (first_other_of u.state.slots n)) in
    ap (λ (o : Option Kind). is_none o && (is_allowed_by (verdict_of u.state.reservations n c) && clear)) goes.ready
    ∙ ap (λ (v : Verdict). is_allowed_by v && clear) goes.allowed
    ∙ ap (λ (o : Option Kind). is_none o) goes.clear

-- a command that moves volumes is a command of the device
moves_by : (q : Request) → is_move q ≡ true → unloads q ≡ false
moves_by (request.MoveMedium t s d i) h = refl
moves_by (request.Host command) h = refl
moves_by q h = absurd cc

-- one that is left
pub record IsLeftUnasked (v : ChangerView) (k : UnitStateView) (n : Nexus) (q : Request) : Type 0 where
  pub comes : is_carried_out (record { device = Changer v; state = k }) n (Device q) ≡ true
  pub for_drives : is_for_drives v q ≡ true

left_unasked : (v : ChangerView) (k : UnitStateView) (n : Nexus) (q : Request) (bytes : List ℕ) → unloads q ≡ false
    → is_left (commanded (record { device = Changer v; state = k }) n (Device q) bytes).2.sense ≡ true → IsLeftUnasked v k n q
left_unasked v k n q bytes no_unload l =
    let u : JudgedUnit = record { device = Changer v; state = k } in
    let c : Command = Device q in
    let own = left_is_own u n c bytes l in
    record {
      comes = comes u n c own.goes_on;
      for_drives = sym (own_fails v k n q bytes no_unload) ∙ subst (λ (x : JudgedUnit × Decision × Reply). is_left x.2.sense ≡ true)
          own.by_rules l;
    }

-- what ends before its own rules isn't left
ends_at : (v : ChangerView) (old new : UnitStateView) (n : Nexus) (c : Command) (f : Decision) (reply : Reply) (bytes : List ℕ)
    → spells_move (Ok c) ≡ true → EndsBefore commanded is_carried_out old new n c f reply → is_left reply.sense ≡ false
ends_at v old new n (Device q) f reply bytes move h =
    is_false _ (λ l. apart _ (left_unasked v (after_contact old n) n q bytes (moves_by q move)
    (ap (λ (x : JudgedUnit × Decision × Reply). is_left x.2.sense) (h.ended (Changer v) bytes) ∙ l)).comes (h.barred (Changer v)))
ends_at v old new n c f reply bytes move h = absurd cc

pub ends_before : (device : DeviceView) (old new : UnitStateView) (n : Nexus) (s : Result Command Condition) (c : Command) (f : Decision)
    (reply : Reply) (bytes : List ℕ)
    → kind_of device ≡ kind.Changer → s ≡ Ok c → spells_move s ≡ true → EndsBefore commanded is_carried_out old new n c f reply → is_left
    reply.sense ≡ false
ends_before (Drive d) old new n s c f reply bytes changer is move h = absurd cc
ends_before (Changer v) old new n s c f reply bytes changer is move h =
    ends_at v old new n c f reply bytes (subst (λ (x : Result Command Condition). spells_move x ≡ true) is move) h

-- nor is what isn't for the drives
answered_at : (v : ChangerView) (k : UnitStateView) (n : Nexus) (c : Command) (after : JudgedUnit) (f : Decision) (reply : Reply)
    (bytes : List ℕ)
    → spells_move (Ok c) ≡ true → leaves (Changer v) c ≡ false → commanded (record { device = Changer v; state = k }) n c bytes ≡
    (after, f, reply) → is_left reply.sense ≡ false
answered_at v k n (Device q) after f reply bytes move own h =
    is_false _ (λ l. apart _ (left_unasked v k n q bytes (moves_by q move) (ap (λ (x : JudgedUnit × Decision × Reply). is_left x.2.sense) h ∙
    l)).for_drives own)
answered_at v k n c after f reply bytes move own h = absurd cc

-- a decoded command
abbrev pub leaves_as : DeviceView → Result Command Condition → Bool
leaves_as device (Ok c) = leaves device c
leaves_as device (Err condition) = false

pub answered_alone : (device : DeviceView) (k : UnitStateView) (n : Nexus) (s : Result Command Condition) (after : JudgedUnit)
    (f : Decision) (reply : Reply) (bytes : List ℕ)
    → kind_of device ≡ kind.Changer → spells_move s ≡ true → leaves_as device s ≡ false
    → judged_as (record { device = device; state = k }) n s bytes ≡ (after, f, reply) → is_left reply.sense ≡ false
answered_alone (Drive d) k n s after f reply bytes changer move own h = absurd cc
answered_alone (Changer v) k n (Err condition) after f reply bytes changer move own h = absurd cc
answered_alone (Changer v) k n (Ok c) after f reply bytes changer move own h = answered_at v k n c after f reply bytes move own h

-- and what is left is answered by the device as it was, with nothing changed
abbrev found_left : ChangerView → UnitStateView → Decision → JudgedUnit × Decision × Reply
found_left v k f = (record { device = Changer v; state = k }, f, check InternalTargetFailure)

asks_some : (drives : ℕ) (q : Request) → is_move q ≡ true → (e : Errand) × (errand_in drives q ≡ Some e)
asks_some drives (request.MoveMedium t s d i) h = (_, refl)
asks_some drives (request.Host (host.ExchangeMedium t s f d i j)) h = (_, refl)
asks_some drives (request.Host command) h = absurd cc
asks_some drives q h = absurd cc

left_by_map : (v : ChangerView) (k : UnitStateView) (n : Nexus) (c : Command) (at : Cell) (bytes : List ℕ) → spells_move (Ok c) ≡ true → leaves
    (Changer v) c ≡ true
    → at_cell at (carried_out (record { device = Changer v; state = k }) n c bytes) ≡ left_answer v k at
left_by_map v k n (Device q) at bytes move left =
    let some = asks_some (drives_of (Changer v)) q move in
    (by_field v k n at q bytes some.0 (asks (drives_of (Changer v)) q some.0 some.1) (own_fails v k n q bytes (moves_by q move) ∙ left)).answer
left_by_map v k n c at bytes move left = absurd cc

pub left_at : (device : DeviceView) (old new : UnitStateView) (n : Nexus) (s : Result Command Condition) (c : Command) (at : Cell)
    (bytes : List ℕ) (k : UnitStateView) (f : Decision)
    → kind_of device ≡ kind.Changer → s ≡ Ok c → spells_move s ≡ true → leaves device c ≡ true → ComesThrough commanded is_carried_out old
    new n c at → k ≡ after_contact new n → f ≡ in_cell at (at_device None)
    → judged_as (record { device = device; state = after_contact old n }) n s bytes ≡ (record { device = device; state = k }, f, check InternalTargetFailure)
left_at (Drive d) old new n s c at bytes k f changer is move left h kept found = absurd cc
left_at (Changer v) old new n s c at bytes k f changer is move left h kept found =
    ap (λ (x : Result Command Condition). judged_as (record { device = Changer v; state = after_contact old n }) n x bytes) is
    ∙ h.carried (Changer v) bytes
    ∙ left_by_map v (after_contact old n) n c at bytes (subst (λ (x : Result Command Condition). spells_move x ≡ true) is move) left
    ∙ ap (λ (j : UnitStateView). left_answer v (after_contact j n) at) (sym h.same)
    ∙ ap (λ (j : UnitStateView). left_answer v j at) (sym kept)
    ∙ ap (found_left v k) (sym found)

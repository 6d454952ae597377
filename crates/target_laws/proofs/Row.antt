-- The worked run, by computing. The drive takes all commands, beside a changer.
use Rattle.std.proofs.Common.{◌≡◌, ℕ, zero, suc, ◌+◌, ◌^◌, Bool, true, false, ◌&&◌, ltb, List, [], ◌∷◌, ◌++◌, inr, refl, ap, ◌∙◌, take}
use Rattle.std.proofs.lemmas.Bool.{ltb-true}
use Rattle.scsi_cdb.specs.Commands as cdb
use Rattle.scsi_cdb.specs.declared.profile.CommandSet.{CommandSet}
use Rattle.tape_medium.specs.declared.volume.VolumeTag.{VolumeTag}
use Rattle.pr_core.specs.State.{keys_after}
use Rattle.device_server.specs.View.{commands_of, profile_of}
use Rattle.judgement.specs.declared.reply.Reply.{Reply}
use Rattle.judgement.specs.History.{Accepted, accepted_by, after_history}
use Rattle.judgement.specs.UnitState.{has_room}
use Rattle.logical_unit.specs.Step.{answered}
use Rattle.logical_unit.specs.UnitView.{UnitView, last_number}
use Rattle.target_core.specs.declared.event.Event.{Event}
use Rattle.target_core.specs.declared.event.Event.TheVariants as event
use Rattle.target_core.specs.Run.{Runs, Steps}
use Rattle.target_core.specs.Laws.{accepted_at, accepted_in}
use Rattle.target_laws.specs.Headline.{by_history}
use Rattle.target_laws.specs.Rows.{Sending, Sends, AllSend, sent, changer, drive, IsWorked}

-- the replies of one unit, and the unit in the end
abbrev replies_of : UnitView → List Sending → List Reply
replies_of u [] = []
replies_of u (s ∷ l) = (answered u s.0 s.1 s.2).1 ∷ replies_of (answered u s.0 s.1 s.2).0 l

abbrev last_of : UnitView → List Sending → UnitView
last_of u [] = u
last_of u (s ∷ l) = last_of (answered u s.0 s.1 s.2).0 l

-- whether there is always room, and a number
abbrev is_open : UnitView → List Sending → Bool
is_open u [] = true
is_open u (s ∷ l) = has_room u.state s.0 && (ltb (last_number u + 1) (2 ^ 64) && is_open (answered u s.0 s.1 s.2).0 l)

and_left : (x y : Bool) → (x && y) ≡ true → x ≡ true
and_left true y e = refl
and_left false y e = absurd cc

and_right : (x y : Bool) → (x && y) ≡ true → y ≡ true
and_right true y e = e
and_right false y e = absurd cc

-- the history that commands add at one unit
abbrev added : CommandSet → List Sending → List Reply → List Accepted
added commands (s ∷ l) (r ∷ rs) = accepted_by commands s.0 s.1 s.2 r.status ++ added commands l rs
added commands l rs = []

pub step : (u : UnitView) (e : Event) (s : Sending) → Sends e s → has_room u.state s.0 ≡ true → ltb (last_number u + 1) (2 ^ 64) ≡ true → Steps (changer ∷ u ∷ []) e (changer ∷ (answered u s.0 s.1 s.2).0 ∷ [], (answered u s.0 s.1 s.2).1)
step u (event.Command n lun cdb bytes) s h room number =
    let x = answered u s.0 s.1 s.2 in
    rw (h.0, h.1, h.2, h.3) (record { unit = x.0; step = inr (room, ltb-true (last_number u + 1) (2 ^ 64) number, refl); units = refl })
step u (event.Loss n lun) s h room number = absurd h
step u (event.Reset lun) s h room number = absurd h

runs : (u : UnitView) (es : List Event) (l : List Sending) → AllSend es l → is_open u l ≡ true → Runs (changer ∷ u ∷ []) es (replies_of u l) (changer ∷ last_of u l ∷ [])
runs u [] [] h opens = refl
runs u (e ∷ es) (s ∷ l) h opens =
    let x = answered u s.0 s.1 s.2 in
    let room = has_room u.state s.0 in
    let number = ltb (last_number u + 1) (2 ^ 64) in
    let rest = is_open x.0 l in
    let after = and_right room (number && rest) opens in
    (changer ∷ x.0 ∷ [], step u e s h.0 (and_left room (number && rest) opens) (and_left number rest after), runs x.0 es l h.1 (and_right number rest after))
runs u [] (s ∷ l) h opens = absurd h
runs u (e ∷ es) [] h opens = absurd h

one : (commands : CommandSet) (e : Event) (s : Sending) (r : Reply) → Sends e s → accepted_at commands 1 e r ≡ accepted_by commands s.0 s.1 s.2 r.status
one commands (event.Command n lun cdb bytes) s r h = rw (h.0, h.1, h.2, h.3) refl
one commands (event.Loss n lun) s r h = absurd h
one commands (event.Reset lun) s r h = absurd h

adds : (commands : CommandSet) (k : ℕ) (es : List Event) (l : List Sending) (rs : List Reply) → AllSend es l → accepted_in commands 1 (take k es) rs ≡ added commands (take k l) rs
adds commands zero es l rs h = refl
adds commands (suc k) [] [] rs h = refl
adds commands (suc k) (e ∷ es) (s ∷ l) [] h = refl
adds commands (suc k) (e ∷ es) (s ∷ l) (r ∷ rs) h = ap (λ (x : List Accepted). x ++ accepted_in commands 1 (take k es) rs) (one commands e s r h.0) ∙ ap (λ (x : List Accepted). accepted_by commands s.0 s.1 s.2 r.status ++ x) (adds commands k es l rs h.1)
adds commands (suc k) [] (s ∷ l) rs h = absurd h
adds commands (suc k) (e ∷ es) [] rs h = absurd h

is_open_sent : (tag : VolumeTag) → is_open (drive tag) sent ≡ true
unfolding cdb.command_of profile_of keys_after
is_open_sent tag = refl

-- what stands before the k-th command
module _ (tag : VolumeTag) (es : List Event) (h : AllSend es sent) where
  by : (k : ℕ) → by_history (drive tag) 1 (take k es) (take k (replies_of (drive tag) sent)) ≡ after_history (drive tag).state.reservations (added (commands_of (drive tag).device) (take k sent) (take k (replies_of (drive tag) sent)))
  by k = ap (λ (x : List Accepted). after_history (drive tag).state.reservations x) (adds (commands_of (drive tag).device) k es sent (take k (replies_of (drive tag) sent)) h)

pub worked : (tag : VolumeTag) (es : List Event) → AllSend es sent → IsWorked tag es
unfolding cdb.command_of profile_of keys_after
worked tag es h = record {
  replies = replies_of (drive tag) sent;
  last = last_of (drive tag) sent;
  run = runs (drive tag) es sent h (is_open_sent tag);
  statuses = refl;
  before_write = by tag es h 4;
  before_own_write = by tag es h 5;
  before_register = by tag es h 6;
  before_read = by tag es h 7;
  decodes_write = refl;
  denied = refl;
  allowed = refl;
  decodes_register = refl;
  broken = refl;
  stages = refl;
  rules = refl;
  cells = refl;
  shown = refl;
}

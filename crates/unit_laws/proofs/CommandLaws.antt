-- The laws over histories and lists of commands.
use Rattle.std.proofs.Common.{◌≡◌, ◌≢◌, ℕ, ◌+◌, ◌%◌, ◌^◌, ◌<◌, Bool, true, false, cond, not, ◌==◌, ◌&&◌, ◌||◌, List, [], ◌∷◌, length, refl, sym, ap, subst, ◌∙◌, arith, Some, None, Option, inl, inr, lit<, zero-add}
use Rattle.std.specs.Prelude.{if◌then◌else◌, unwrap_or, is_some, is_none, count_by, ◌⊎◌}
use Rattle.std.specs.List.{fold}
use Rattle.std.proofs.lemmas.Grind.{common_steps}
use Rattle.std.proofs.lemmas.Bool.{or_parts}
use Rattle.std.proofs.lemmas.List.Sums.{sum_by-cons}
use Rattle.scsi_cdb.specs.declared.service_action.OutServiceAction.{OutServiceAction}
use Rattle.scsi_cdb.specs.declared.service_action.OutServiceAction.TheVariants as out
use Rattle.scsi_nexus.specs.declared.nexus.Nexus.{Nexus}
use Rattle.scsi_nexus.specs.Order.{same_nexus}
use Rattle.scsi_nexus.proofs.NexusLaws.{same_nexus-refl}
use Rattle.permit_tables.specs.declared.res_type.ResType.{ResType}
use Rattle.permit_tables.specs.declared.role.Role.TheVariants.{Holder, Registered, Other}
use Rattle.permit_tables.specs.Types.{is_all_registrants}
use Rattle.permit_tables.specs.declared.out_params.OutParams.{OutParams}
use Rattle.permit_tables.specs.Pairs.{key_in}
use Rattle.pr_core.specs.Acts.{Act, Register, Reserve, Release, Clear, Preempt, Move}
use Rattle.permit_tables.specs.declared.key_rule.KeyRule.TheVariants.{K3}
use Rattle.permit_tables.specs.declared.pr_fault.PrFault.TheVariants.{InvalidField, InvalidParam}
use Rattle.pr_core.specs.declared.verdict.Verdict.TheVariants.{Allowed, Denied, Rule}
use Rattle.pr_core.specs.State.{State, Keys, power_on, key, is_registered, is_sole_holder, is_all_held, is_holder, takes, type_in, key_after, keys_after, lasting, after, after_all, is_counted}
use Rattle.pr_core.specs.Table.{IsProper}
use Rattle.pr_core.specs.Judge.{verdict}
use Rattle.pr_core.specs.Outcome.{refusal, act_of, applied}
use Rattle.unit_laws.specs.Reservations.{answered, commanded, is_kept_by, NoneRegistered, GenerationCounts, HolderIsRegistered, ReserveTakesNothing, Unregisters, MayEnd, OnlyTheseEnd}
use Rattle.pr_core.proofs.KeyLaws.{key-after, proper-after, proper-power_on}
use Rattle.pr_core.proofs.Steps.{kept_reserve, kept_release}
use Rattle.pr_core.proofs.RoomForKeys.{none_else, rule_free, unnot, act_given}

held_all : (sole all reg : Bool) → all ≡ true → (if (sole || (all && reg)) then Holder else if reg then Registered else Other) ≡ Registered → ⊥
held_all true all reg e i = cc
held_all false true true e i = cc
held_all false true false e i = cc
held_all false false reg e i = cc

pub none_registered : NoneRegistered
none_registered v n all i = held_all (is_sole_holder v n) (is_all_held v) (is_registered v n) all i

counted_step : (b : Bool) (g n : ℕ) → ((if b then (g + 1) % 2 ^ 32 else g) + n) % 2 ^ 32 ≡ (g + (cond b 1 0 + n)) % 2 ^ 32
counted_step true g n = omega arith
counted_step false g n = omega arith

generation_fits : (b : Bool) (g : ℕ) → g < 2 ^ 32 → (if b then (g + 1) % 2 ^ 32 else g) < 2 ^ 32
generation_fits true g lt = omega arith
generation_fits false g lt = lt

counts_from : (v : State) (h : List (Nexus × Act)) → v.generation < 2 ^ 32 → (after_all v h).generation ≡ (v.generation + count_by (λ e. is_counted e.1) h) % 2 ^ 32
counts_from v [] lt = omega arith
counts_from v (e ∷ h) lt =
    counts_from (after v e.0 e.1) h (generation_fits (is_counted e.1) v.generation lt)
    ∙ counted_step (is_counted e.1) v.generation (count_by (λ (x : Nexus × Act). is_counted x.1) h)
    ∙ ap (λ n. (v.generation + n) % 2 ^ 32) (sym (sum_by-cons (λ (x : Nexus × Act). cond (is_counted x.1) 1 0) e h))

pub generation_counts : GenerationCounts
generation_counts h = counts_from power_on h (lit< tt) ∙ ap (λ n. n % 2 ^ 32) (zero-add (count_by (λ (x : Nexus × Act). is_counted x.1) h))

-- what lasts has what keeps it
kept_lasting : (keys : Keys) (o : Option (ResType × Nexus)) → is_kept_by keys (lasting keys o) ≡ true
kept_lasting keys None = refl
kept_lasting keys (Some r) = last_test (if is_all_registrants r.0 then length keys == 0 else key_in keys r.1 == 0) refl
  where
    last_test : (b : Bool) → (if is_all_registrants r.0 then length keys == 0 else key_in keys r.1 == 0) ≡ b → is_kept_by keys (if b then None else Some r) ≡ true
    last_test true e = refl
    last_test false e = ap not e

-- what has what keeps it lasts
stays : (keys : Keys) (o : Option (ResType × Nexus)) → is_kept_by keys o ≡ true → lasting keys o ≡ o
stays keys None h = refl
stays keys (Some r) h = stay_test (if is_all_registrants r.0 then length keys == 0 else key_in keys r.1 == 0) h
  where
    stay_test : (b : Bool) → not b ≡ true → (if b then None else Some r) ≡ Some r
    stay_test true e = cc
    stay_test false e = refl

-- what doesn't last has lost what keeps it
lost : (keys : Keys) (o : Option (ResType × Nexus)) → lasting keys o ≢ o → is_kept_by keys o ≡ false
lost keys o differs = elim (is_kept_by keys o) as (λ b. is_kept_by keys o ≡ b → b ≡ false) [ true ↦ λ e. absurd (differs (stays keys o e)) | false ↦ λ e. refl ] refl

-- a nexus with a key keeps a reservation of its own
by_key : (keys : Keys) (t : ResType) (n : Nexus) → (key_in keys n == 0) ≡ false → is_kept_by keys (Some (t, n)) ≡ true
by_key keys t n has = own_test (is_all_registrants t) keys has
  where
    own_test : (b : Bool) (x : Keys) → (key_in x n == 0) ≡ false → not (if b then length x == 0 else key_in x n == 0) ≡ true
    own_test true [] h = cc
    own_test true (e ∷ x) h = grind (arith, common_steps)
    own_test false x h = ap not h

keyed_after : (v : State) (s : Nexus) (a : Act) (q : Nexus) → (key_after v s a q == 0) ≡ false → (key_in (keys_after v s a) q == 0) ≡ false
keyed_after v s a q h = ap (λ k. k == 0) (key-after v s a q) ∙ h

unless : (b : Bool) (keys : Keys) (x : Option (ResType × Nexus)) (o : Option (ResType × Nexus)) → (b ≡ true → is_kept_by keys x ≡ true) → is_kept_by keys (unwrap_or (if b then Some x else None) (lasting keys o)) ≡ true
unless true keys x o h = h refl
unless false keys x o h = kept_lasting keys o

preempted : (t same all : Bool) (k j : ℕ) → t ≡ true → same ≡ true → (if t then (if not same && (all || j == k) then 0 else j) else (if j == k then 0 else j)) ≡ j
preempted t same all k j e f = grind arith

moved_on : (keys : Keys) (o : Option (ResType × Nexus)) (d : Nexus) → (key_in keys d == 0) ≡ false → is_kept_by keys (elim o [ None ↦ None | Some r ↦ Some (r.0, d) ]) ≡ true
moved_on keys None d h = refl
moved_on keys (Some r) d h = by_key keys r.0 d h

-- a state whose reservation has what keeps it
abbrev IsKept : State → Type 0
IsKept v = is_kept_by v.keys v.reservation ≡ true

-- the sender of an allowed command that the third rule governs is registered
registered_sender : (v : State) (n : Nexus) (p : OutParams) → (not (is_registered v n) || not (p.rk == key v n)) ≡ false → (key v n == 0) ≡ false
registered_sender v n p h = unnot (key v n == 0) (or_parts _ _ h).0

preempt_keeps : (v : State) (n : Nexus) (k code : ℕ) → (key v n == 0) ≡ false → IsKept (after v n (Preempt k code))
preempt_keeps v n k code sender =
    unless (takes v k) (keys_after v n (Preempt k code)) (Some (type_in code, n)) v.reservation (λ e.
    by_key _ (type_in code) n (keyed_after v n (Preempt k code) n
    (ap (λ j. j == 0) (preempted (takes v k) (same_nexus n n) (is_all_held v) k (key v n) e (same_nexus-refl n)) ∙ sender)))

move_keeps : (v : State) (n d : Nexus) (k : ℕ) (unreg : Bool) → (k == 0) ≡ false → IsKept (after v n (Move k d unreg))
move_keeps v n d k unreg keyed =
    moved_on (keys_after v n (Move k d unreg)) v.reservation d
    (keyed_after v n (Move k d unreg) d (ap (λ b. (if b then k else if same_nexus d n && unreg then 0 else key v d) == 0) (same_nexus-refl d) ∙ keyed))

-- what is allowed and not refused keeps it so
carried_out : (v : State) (n : Nexus) (p : OutParams) (a : Act) → refusal v n p ≡ None → verdict v n p ≡ Allowed → act_of v n p ≡ Some a → IsKept (after v n a)
carried_out v n p a free allowed is = go p.act p.dest free allowed is
  where
    go : (act : OutServiceAction) (dest : Option Nexus) → refusal v n (record p { act = act; dest = dest }) ≡ None → verdict v n (record p { act = act; dest = dest }) ≡ Allowed
        → act_of v n (record p { act = act; dest = dest }) ≡ Some a → IsKept (after v n a)
    go out.Register dest free allowed is = subst (λ b. IsKept (after v n b)) (act_given _ _ _ is) (kept_lasting _ v.reservation)
    go out.RegisterAndIgnoreExistingKey dest free allowed is = subst (λ b. IsKept (after v n b)) (act_given _ _ _ is) (kept_lasting _ v.reservation)
    go out.Reserve dest free allowed is =
        let own = none_else (not (is_registered v n) || not (p.rk == key v n)) K3 _ (rule_free _ _ _ allowed) in
        let given : Reserve (type_in p.scope_type) ≡ a = cc in
        subst (λ b. IsKept (after v n b)) given (unless (is_none v.reservation) _ (Some (type_in p.scope_type, n)) v.reservation (λ _.
        by_key _ (type_in p.scope_type) n (keyed_after v n (Reserve (type_in p.scope_type)) n (registered_sender v n p own.0))))
    go out.Release dest free allowed is =
        let given : Release p.scope_type ≡ a = cc in
        subst (λ b. IsKept (after v n b)) given (unless (is_holder v n) _ None v.reservation (λ _. refl))
    go out.Clear dest free allowed is =
        let given : Clear ≡ a = cc in
        subst (λ b. IsKept (after v n b)) given refl
    go out.Preempt dest free allowed is =
        let own = none_else (not (is_registered v n) || not (p.rk == key v n)) K3 _ (rule_free _ _ _ allowed) in
        let given : Preempt p.sark p.scope_type ≡ a = cc in
        subst (λ b. IsKept (after v n b)) given (preempt_keeps v n p.sark p.scope_type (registered_sender v n p own.0))
    go out.PreemptAndAbort dest free allowed is =
        let own = none_else (not (is_registered v n) || not (p.rk == key v n)) K3 _ (rule_free _ _ _ allowed) in
        let given : Preempt p.sark p.scope_type ≡ a = cc in
        subst (λ b. IsKept (after v n b)) given (preempt_keeps v n p.sark p.scope_type (registered_sender v n p own.0))
    go out.RegisterAndMove None free allowed is = cc
    go out.RegisterAndMove (Some d) free allowed is =
        let first = none_else (is_some p.defect) InvalidParam _ free in
        let second = none_else (is_none v.reservation) InvalidField _ first.1 in
        let third = none_else (p.sark == 0) InvalidParam _ second.1 in
        let given : Move p.sark d p.unreg ≡ a = cc in
        subst (λ b. IsKept (after v n b)) given (move_keeps v n d p.sark p.unreg third.0)

-- what holds before a command, and after each act that is carried out, holds after it
answered_keeps : (P : State → Type 0) (v : State) (n : Nexus) (p : OutParams) → P v
    → ((a : Act) → refusal v n p ≡ None → verdict v n p ≡ Allowed → act_of v n p ≡ Some a → P (after v n a)) → P (answered v n p)
answered_keeps P v n p before carried =
    elim (verdict v n p) as (λ w. verdict v n p ≡ w → P (elim w [ Allowed ↦ elim (refusal v n p) [ None ↦ applied v n p | Some fault ↦ v ] | Denied cell ↦ v | Rule rule ↦ v ])) [
      | Allowed ↦ λ allowed. elim (refusal v n p) as (λ o. refusal v n p ≡ o → P (elim o [ None ↦ applied v n p | Some fault ↦ v ])) [
        | None ↦ λ free. elim (act_of v n p) as (λ o. act_of v n p ≡ o → P (elim o [ None ↦ v | Some a ↦ after v n a ])) [
          | None ↦ λ _. before
          | Some a ↦ λ is. carried a free allowed is
        ] refl
        | Some fault ↦ λ _. before
      ] refl
      | Denied cell ↦ λ _. before
      | Rule rule ↦ λ _. before
    ] refl

-- what holds after each command holds after a list of them
run_keeps : (P : State → Type 0) → ((v : State) (n : Nexus) (p : OutParams) → P v → P (answered v n p)) → (v : State) (cs : List (Nexus × OutParams)) → P v → P (fold (λ w c. answered w c.0 c.1) v cs)
run_keeps P step v [] h = h
run_keeps P step v (c ∷ cs) h = run_keeps P step (answered v c.0 c.1) cs (step v c.0 c.1 h)

pub holder_is_registered : HolderIsRegistered
holder_is_registered cs = run_keeps IsKept (λ v n p h. answered_keeps IsKept v n p h (carried_out v n p)) power_on cs refl

proper_run : (cs : List (Nexus × OutParams)) → IsProper (commanded cs).keys
proper_run cs = run_keeps (λ v. IsProper v.keys) (λ v n p h. answered_keeps (λ w. IsProper w.keys) v n p h (λ a _ _ _. proper-after v n a)) power_on cs proper-power_on

reserved : (keys : Keys) (o : Option (ResType × Nexus)) (x : ResType × Nexus) → is_some o ≡ true → lasting keys o ≡ o → unwrap_or (if is_none o then Some (Some x) else None) (lasting keys o) ≡ o
reserved keys None x h e = cc
reserved keys (Some r) x h e = e

reserve_stays : (v : State) (n : Nexus) (t : ResType) → IsKept v → IsProper v.keys → is_some v.reservation ≡ true → (after v n (Reserve t)).reservation ≡ v.reservation
reserve_stays v n t kept proper held =
    reserved (keys_after v n (Reserve t)) v.reservation (t, n) held
    (ap (λ x. lasting x v.reservation) (sym (kept_reserve v n t proper)) ∙ stays v.keys v.reservation kept)

-- RESERVE, where it is an act, is this one
reserve_act : (v : State) (n : Nexus) (p : OutParams) → p.act ≡ out.Reserve → act_of v n p ≡ Some (Reserve (type_in p.scope_type))
reserve_act v n p e = ap (λ act. act_of v n (record p { act = act })) e

pub reserve_takes_nothing : ReserveTakesNothing
reserve_takes_nothing cs n p reserve held =
    let v = commanded cs in
    answered_keeps (λ w. w.reservation ≡ v.reservation) v n p refl (λ a _ _ is.
    let given : Reserve (type_in p.scope_type) ≡ a = same_some (sym (reserve_act v n p reserve) ∙ is) in
    subst (λ b. (after v n b).reservation ≡ v.reservation) given (reserve_stays v n (type_in p.scope_type) (holder_is_registered cs) (proper_run cs) held))
  where
    same_some : {x y : Act} → Some x ≡ Some y → x ≡ y
    same_some e = cc

unless_false : {X : Type 0} (b : Bool) (x y : X) → b ≡ false → unwrap_or (if b then Some x else None) y ≡ y
unless_false true x y e = cc
unless_false false x y e = refl

ends : (v : State) (s : Nexus) (a : Act) → IsKept v → IsProper v.keys → is_some v.reservation ≡ true → (after v s a).reservation ≢ v.reservation → MayEnd v s a
ends v s (Register k targets) kept proper held differs = lost (keys_after v s (Register k targets)) v.reservation differs
ends v s (Reserve t) kept proper held differs = differs (reserve_stays v s t kept proper held)
ends v s (Release code) kept proper held differs =
    elim (is_holder v s) as (λ b. is_holder v s ≡ b → b ≡ true) [
      | true ↦ λ _. refl
      | false ↦ λ e. absurd (differs (unless_false (is_holder v s) None _ e ∙ ap (λ x. lasting x v.reservation) (sym (kept_release v s code proper)) ∙ stays v.keys v.reservation kept))
    ] refl
ends v s Clear kept proper held differs = tt
ends v s (Preempt k code) kept proper held differs =
    elim (takes v k) as (λ b. takes v k ≡ b → (b ≡ true) ⊎ Unregisters v s (Preempt k code)) [
      | true ↦ λ _. inl refl
      | false ↦ λ e. inr (lost (keys_after v s (Preempt k code)) v.reservation (λ same. differs (unless_false (takes v k) (Some (type_in code, s)) _ e ∙ same)))
    ] refl
ends v s (Move k d unreg) kept proper held differs = tt

pub only_these_end : OnlyTheseEnd
only_these_end cs s a held differs = ends (commanded cs) s a (holder_is_registered cs) (proper_run cs) held differs

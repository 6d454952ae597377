-- An accepted command leaves no more registrations than there is room for.
use Rattle.std.proofs.Common.{◌≡◌, ◌≢◌, ℕ, ◌+◌, ◌≤◌, Bool, true, false, cond, not, ◌==◌, ◌&&◌, ◌||◌, [], ◌∷◌, length, refl, sym, ap, subst, ◌∙◌, arith, Some, None, Option}
use Rattle.std.specs.Prelude.{if◌then◌else◌, filter, unwrap_or, is_some, nat_lt, nat_le}
use Rattle.std.specs.FinMap.{find, put}
use Rattle.std.specs.FinMap.Entries.{length-put, length_without}
use Rattle.std.specs.Ordering.{eq_by_cmp}
use Rattle.std.proofs.lemmas.Grind.{common_steps}
use Rattle.std.proofs.lemmas.Bool.{false_from_ne_true, eq-eqb, false≢true}
use Rattle.std.proofs.lemmas.Map.Views.{exact_unsigned_eq}
use Rattle.pr_core.proofs.KeyLaws.{never_zero}
use Rattle.std.proofs.lemmas.Bool.{or_parts}
use Rattle.std.specs.Prelude.{is_none}
use Rattle.permit_tables.specs.declared.cell.Cell.{Cell}
use Rattle.permit_tables.specs.declared.out_params.OutParams.{OutParams}
use Rattle.scsi_cdb.specs.declared.service_action.OutServiceAction.{OutServiceAction}
use Rattle.scsi_cdb.specs.declared.service_action.OutServiceAction.TheVariants as out
use Rattle.pr_core.specs.declared.verdict.Verdict.TheVariants.{Allowed, Denied, Rule}
use Rattle.permit_tables.specs.declared.pr_fault.PrFault.TheVariants.{InvalidField, InvalidParam, NoRegistrationRoom}
use Rattle.permit_tables.specs.declared.key_rule.KeyRule.{KeyRule}
use Rattle.permit_tables.specs.declared.key_rule.KeyRule.TheVariants.{K3}
use Rattle.pr_core.specs.Judge.{verdict}
use Rattle.pr_core.specs.Outcome.{is_full, refusal, act_of}
use Rattle.scsi_nexus.specs.Ports.{is_target_port}
use Rattle.pr_core.specs.Targets.{targets}
use Rattle.scsi_nexus.specs.declared.nexus.Nexus.{Nexus}
use Rattle.scsi_nexus.specs.Order.{nexus_cmp, same_nexus}
use Rattle.scsi_nexus.proofs.NexusLaws.{nexus_total, eq_by_cmp-nexus, same_nexus-sym}
use Rattle.pr_core.specs.Acts.{Act, Register, Reserve, Release, Clear, Preempt, Move}
use Rattle.pr_core.specs.Table.{IsProper}
use Rattle.permit_tables.specs.Pairs.{key_in}
use Rattle.pr_core.specs.State.{State, capacity, type_in, Keys, key, keys_after, takes, is_all_held, is_registered}
use Rattle.pr_core.proofs.TableLaws.{proper-filter}
use Rattle.pr_core.proofs.Steps.{cleared, preempted_all, preempted_others, preempted_key, moved, moved_away, kept_reserve, kept_release}

abbrev pub bit : Bool → ℕ
bit b = if b then 1 else 0

-- 1 for a registered nexus, else 0
abbrev pub one_of : Keys → Nexus → ℕ
one_of x n = bit (not (key_in x n == 0))

pub length-filter-le : (p : Nexus × ℕ → Bool) (x : Keys) → length (filter p x) ≤ length x
length-filter-le p [] = omega arith
length-filter-le p (e ∷ x) =
    let rest = length-filter-le p x in
    elim (p e) as (λ b. length (cond b (e ∷ filter p x) (filter p x)) ≤ length (e ∷ x)) [ true ↦ omega arith | false ↦ omega arith ]

found_one : (o : Option ℕ) → o ≢ Some 0 → bit (not (unwrap_or o 0 == 0)) ≡ bit (is_some o)
found_one None h = refl
found_one (Some k) h = ap (λ b. bit (not b)) (false_from_ne_true (k == 0) (λ e. h (ap Some (exact_unsigned_eq k 0 e))))

one_is : (x : Keys) (n : Nexus) → IsProper x → one_of x n ≡ bit (is_some (find nexus_cmp n x))
one_is x n p = found_one (find nexus_cmp n x) (never_zero x n p.keyed)

put_sum : (b : Bool) (l o k : ℕ) → k ≡ (if b then l else l + 1) → o ≡ bit b → k + o ≡ l + 1
put_sum true l o k e f = omega arith
put_sum false l o k e f = omega arith

pub length-put-one : (n : Nexus) (k : ℕ) (x : Keys) → IsProper x → length (put nexus_cmp n k x) + one_of x n ≡ length x + 1
length-put-one n k x p = put_sum (is_some (find nexus_cmp n x)) _ _ _ (length-put nexus_cmp nexus_total n k x p.sorted) (one_is x n p)

pub length-gone-one : (n : Nexus) (x : Keys) → IsProper x → length (filter (λ e. not (same_nexus e.0 n)) x) + one_of x n ≡ length x
length-gone-one n x p =
    let whole = length_without nexus_cmp nexus_total n x p.sorted in
    let test : (λ (e : Nexus × ℕ). not (eq_by_cmp nexus_cmp n e.0)) ≡ (λ e. not (same_nexus e.0 n)) = λ i e. not ((eq_by_cmp-nexus n e.0 ∙ same_nexus-sym n e.0) i) in
    let counted : bit (is_some (find nexus_cmp n x)) + length (filter (λ e. not (same_nexus e.0 n)) x) ≡ length x = subst (λ q. bit (is_some (find nexus_cmp n x)) + length (filter q x) ≡ length x) test whole in
    omega (arith, counted, one_is x n p)

-- no act but a registration adds one
pub room_fewer : (v : State) (s : Nexus) (x : Keys) (a : Act) → x ≡ keys_after v s a → length x ≤ length v.keys → length v.keys ≤ capacity → length (keys_after v s a) ≤ capacity
room_fewer v s x a is fewer room = subst (λ (y : Keys). length y ≤ capacity) is (omega arith)

pub room_preempt : (v : State) (s : Nexus) (k t : ℕ) → IsProper v.keys → length v.keys ≤ capacity → length (keys_after v s (Preempt k t)) ≤ capacity
room_preempt v s k t p room =
    elim (takes v k) as (λ b. takes v k ≡ b → length (keys_after v s (Preempt k t)) ≤ capacity) [
      | false ↦ λ e. room_fewer v s _ _ (preempted_key v s k t e p) (length-filter-le _ v.keys) room
      | true ↦ λ e. elim (is_all_held v) as (λ b. is_all_held v ≡ b → length (keys_after v s (Preempt k t)) ≤ capacity) [
        | true ↦ λ f. room_fewer v s _ _ (preempted_all v s k t e f p) (length-filter-le _ v.keys) room
        | false ↦ λ f. room_fewer v s _ _ (preempted_others v s k t e f p) (length-filter-le _ v.keys) room
      ] refl
    ] refl

not_more : (c l : ℕ) → nat_lt c l ≡ false → l ≤ c
not_more c l h = grind (arith, common_steps)

move_bound : (j l x : ℕ) → (not (not (j == 0)) && nat_le capacity l) ≡ false → x + bit (not (j == 0)) ≡ l + 1 → l ≤ capacity → x ≤ capacity
move_bound j l x e g room = grind (arith, common_steps)

-- a move to a registered nexus, or into free room
pub room_move : (v : State) (s d : Nexus) (k : ℕ) → k ≢ 0 → IsProper v.keys → length v.keys ≤ capacity → (not (is_registered v d) && is_full v) ≡ false → length (keys_after v s (Move k d false)) ≤ capacity
room_move v s d k keyed p room free =
    subst (λ (y : Keys). length y ≤ capacity) (moved v s d k keyed p) (move_bound (key v d) (length v.keys) _ free (length-put-one d k v.keys p) room)

away_bound : (j l g o x : ℕ) → g + bit (not (j == 0)) ≡ l → (j == 0) ≡ false → x + o ≡ g + 1 → l ≤ capacity → x ≤ capacity
away_bound j l g o x e f h room = grind (arith, common_steps)

-- a move that unregisters its sender, who was registered
pub room_away : (v : State) (s d : Nexus) (k : ℕ) → k ≢ 0 → IsProper v.keys → length v.keys ≤ capacity → (key v s == 0) ≡ false → length (keys_after v s (Move k d true)) ≤ capacity
room_away v s d k keyed p room sender =
    let rest = filter (λ e. not (same_nexus e.0 s)) v.keys in
    subst (λ (y : Keys). length y ≤ capacity) (moved_away v s d k keyed p) (away_bound (key v s) (length v.keys) (length rest) (one_of rest d) _ (length-gone-one s v.keys p) sender (length-put-one d k rest (proper-filter _ v.keys p)) room)

pub none_else : {X : Type 0} (b : Bool) (x : X) (o : Option X) → cond b (Some x) o ≡ None → (b ≡ false) × (o ≡ None)
none_else true x o h = cc
none_else false x o h = (refl, h)

pub act_given : (b : Bool) (x a : Act) → cond b None (Some x) ≡ Some a → x ≡ a
act_given true x a h = cc
act_given false x a h = cc

pub rule_free : (b : Bool) (o : Option KeyRule) (c : Cell) → cond b (elim o [ None ↦ Allowed | Some i ↦ Rule i ]) (Denied c) ≡ Allowed → o ≡ None
rule_free true None c h = refl
rule_free true (Some i) c h = cc
rule_free false o c h = cc

spare : (x y : Bool) → (x && true && y) ≡ false → (x && y) ≡ false
spare true y h = h
spare false y h = h

pub unnot : (x : Bool) → not (not x) ≡ false → x ≡ false
unnot true h = h
unnot false h = refl

private_move : (v : State) (n : Nexus) (p : OutParams) (a : Act) → IsProper v.keys → length v.keys ≤ capacity → (dest : Option Nexus) (unreg : Bool)
    → refusal v n (record p { act = out.RegisterAndMove; dest = dest; unreg = unreg }) ≡ None → verdict v n (record p { act = out.RegisterAndMove; dest = dest; unreg = unreg }) ≡ Allowed
    → act_of v n (record p { act = out.RegisterAndMove; dest = dest; unreg = unreg }) ≡ Some a → length (keys_after v n a) ≤ capacity
private_move v n p a ok le None unreg free allowed is = cc
private_move v n p a ok le (Some d) false free allowed is =
    let first = none_else (is_some p.defect) InvalidParam _ free in
    let second = none_else (is_none v.reservation) InvalidField _ first.1 in
    let third = none_else (p.sark == 0) InvalidParam _ second.1 in
    let fourth = none_else (same_nexus d n || not (is_target_port d.port)) InvalidParam _ third.1 in
    let fifth = none_else (not (is_registered v d) && true && is_full v) NoRegistrationRoom None fourth.1 in
    let keyed : p.sark ≢ 0 = λ z. false≢true (sym third.0 ∙ eq-eqb p.sark 0 z) in
    let given : Move p.sark d false ≡ a = cc in
    subst (λ b. length (keys_after v n b) ≤ capacity) given (room_move v n d p.sark keyed ok le (spare (not (is_registered v d)) (is_full v) fifth.0))
private_move v n p a ok le (Some d) true free allowed is =
    let first = none_else (is_some p.defect) InvalidParam _ free in
    let second = none_else (is_none v.reservation) InvalidField _ first.1 in
    let third = none_else (p.sark == 0) InvalidParam _ second.1 in
    let keyed : p.sark ≢ 0 = λ z. false≢true (sym third.0 ∙ eq-eqb p.sark 0 z) in
    let rules = rule_free _ _ _ allowed in
    let own = none_else (not (is_registered v n) || not (p.rk == key v n)) K3 _ rules in
    let sender : (key v n == 0) ≡ false = unnot (key v n == 0) (or_parts _ _ own.0).0 in
    let given : Move p.sark d true ≡ a = cc in
    subst (λ b. length (keys_after v n b) ≤ capacity) given (room_away v n d p.sark keyed ok le sender)

-- what is allowed and not refused leaves
pub room : (v : State) (n : Nexus) (p : OutParams) (a : Act) → IsProper v.keys → length v.keys ≤ capacity → refusal v n p ≡ None → verdict v n p ≡ Allowed → act_of v n p ≡ Some a → length (keys_after v n a) ≤ capacity
room v n p a ok le free allowed is = go p.act free allowed is
  where
    go : (act : OutServiceAction) → refusal v n (record p { act = act }) ≡ None → verdict v n (record p { act = act }) ≡ Allowed → act_of v n (record p { act = act }) ≡ Some a → length (keys_after v n a) ≤ capacity
    go out.Register free allowed is =
        let first = none_else (is_some p.defect) InvalidParam _ free in
        let second = none_else (p.listed && is_registered v n) InvalidParam _ first.1 in
        let third = none_else (nat_lt capacity (length (keys_after v n (Register p.sark (targets n p))))) NoRegistrationRoom None second.1 in
        subst (λ b. length (keys_after v n b) ≤ capacity) (act_given _ _ _ is) (not_more capacity _ third.0)
    go out.RegisterAndIgnoreExistingKey free allowed is =
        let first = none_else (is_some p.defect) InvalidParam _ free in
        let second = none_else (p.listed && is_registered v n) InvalidParam _ first.1 in
        let third = none_else (nat_lt capacity (length (keys_after v n (Register p.sark (targets n p))))) NoRegistrationRoom None second.1 in
        subst (λ b. length (keys_after v n b) ≤ capacity) (act_given _ _ _ is) (not_more capacity _ third.0)
    go out.Reserve free allowed is =
        let given : Reserve (type_in p.scope_type) ≡ a = cc in
        subst (λ b. length (keys_after v n b) ≤ capacity) given (room_fewer v n v.keys _ (kept_reserve v n (type_in p.scope_type) ok) (omega arith) le)
    go out.Release free allowed is =
        let given : Release p.scope_type ≡ a = cc in
        subst (λ b. length (keys_after v n b) ≤ capacity) given (room_fewer v n v.keys _ (kept_release v n p.scope_type ok) (omega arith) le)
    go out.Clear free allowed is =
        let given : Clear ≡ a = cc in
        subst (λ b. length (keys_after v n b) ≤ capacity) given (room_fewer v n [] _ (cleared v n) (omega arith) le)
    go out.Preempt free allowed is =
        let given : Preempt p.sark p.scope_type ≡ a = cc in
        subst (λ b. length (keys_after v n b) ≤ capacity) given (room_preempt v n p.sark p.scope_type ok le)
    go out.PreemptAndAbort free allowed is =
        let given : Preempt p.sark p.scope_type ≡ a = cc in
        subst (λ b. length (keys_after v n b) ≤ capacity) given (room_preempt v n p.sark p.scope_type ok le)
    go out.RegisterAndMove free allowed is = private_move v n p a ok le p.dest p.unreg free allowed is

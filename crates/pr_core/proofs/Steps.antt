-- The table of keys after each act, by what is done to it in place.
use Rattle.std.proofs.Common.{◌≡◌, ◌≢◌, ℕ, Bool, true, false, not, ◌==◌, ◌&&◌, ◌||◌, List, [], ◌∷◌, ◌≤◌, length, refl, sym, ap, subst, ◌∙◌, arith}
use Rattle.std.specs.Prelude.{if◌then◌else◌, filter}
use Rattle.std.specs.FinMap.{put}
use Rattle.scsi_nexus.specs.declared.nexus.Nexus.{Nexus}
use Rattle.scsi_nexus.specs.Order.{nexus_cmp, same_nexus}
use Rattle.permit_tables.specs.declared.res_type.ResType.{ResType}
use Rattle.pr_core.specs.Acts.{Act, Register, Reserve, Release, Clear, Preempt, Move}
use Rattle.pr_core.specs.Table.{IsProper, put_all, remove_all, register_all}
use Rattle.pr_core.specs.Targets.{is_among}
use Rattle.std.proofs.lemmas.Bool.{eq-eqb, false≢true}
use Rattle.std.proofs.lemmas.Map.Views.{exact_unsigned_eq}
use Rattle.permit_tables.specs.Pairs.{key_in}
use Rattle.pr_core.specs.State.{State, capacity, Keys, key, key_after, keys_after, takes, is_all_held}
use Rattle.pr_core.proofs.KeyLaws.{key-after, key_in-put, proper-after, proper-power_on, same_keys}
use Rattle.pr_core.proofs.TableLaws.{proper-filter, proper-put, key_in-filter}

pub keys_after-is : (v : State) (s : Nexus) (a : Act) (x : Keys) → IsProper x → ((q : Nexus) → key_in x q ≡ key_after v s a q) → x ≡ keys_after v s a
keys_after-is v s a x p e = same_keys x (keys_after v s a) p (proper-after v s a) (λ q. e q ∙ sym (key-after v s a q))

-- each of these nexuses registered with k
pub put-all-is : (k : ℕ) (x : Keys) (ns : List Nexus) → k ≢ 0 → IsProper x → IsProper (put_all k x ns) × ((q : Nexus) → key_in (put_all k x ns) q ≡ (if is_among q ns then k else key_in x q))
put-all-is k x [] keyed p = (p, λ q. refl)
put-all-is k x (n ∷ ns) keyed p =
    let rest = put-all-is k (put nexus_cmp n k x) ns keyed (proper-put n k x keyed p) in
    (rest.0, λ q. rest.1 q ∙ ap (λ j. if is_among q ns then k else j) (key_in-put x n k q) ∙ either (same_nexus q n) (is_among q ns) (key_in x q))
  where
    either : (a b : Bool) (j : ℕ) → (if b then k else (if a then k else j)) ≡ (if a || b then k else j)
    either true true j = refl
    either true false j = refl
    either false b j = refl

-- each of them unregistered
pub remove-all-is : (x : Keys) (ns : List Nexus) → IsProper x → IsProper (remove_all x ns) × ((q : Nexus) → key_in (remove_all x ns) q ≡ (if is_among q ns then 0 else key_in x q))
remove-all-is x [] p = (p, λ q. refl)
remove-all-is x (n ∷ ns) p =
    let without = filter (λ e. not (same_nexus e.0 n)) x in
    let rest = remove-all-is without ns (proper-filter _ x p) in
    (rest.0, λ q. rest.1 q ∙ ap (λ j. if is_among q ns then 0 else j) (key_in-filter _ x q p.sorted) ∙ neither (same_nexus q n) (is_among q ns) (key_in x q))
  where
    neither : (a b : Bool) (j : ℕ) → (if b then 0 else (if not a then j else 0)) ≡ (if a || b then 0 else j)
    neither true true j = refl
    neither true false j = refl
    neither false b j = refl

pub unregistered : (v : State) (s : Nexus) (ns : List Nexus) → IsProper v.keys → remove_all v.keys ns ≡ keys_after v s (Register 0 ns)
unregistered v s ns p = let all = remove-all-is v.keys ns p in keys_after-is v s (Register 0 ns) _ all.0 all.1

pub registered : (v : State) (s : Nexus) (k : ℕ) (ns : List Nexus) → k ≢ 0 → IsProper v.keys → put_all k v.keys ns ≡ keys_after v s (Register k ns)
registered v s k ns keyed p = let all = put-all-is k v.keys ns keyed p in keys_after-is v s (Register k ns) _ all.0 all.1

-- a REGISTER, whatever its key
pub registered_all : (v : State) (s : Nexus) (k : ℕ) (ns : List Nexus) → IsProper v.keys → register_all k v.keys ns ≡ keys_after v s (Register k ns)
registered_all v s k ns p =
    elim (k == 0) as (λ b. (k == 0) ≡ b → (if b then remove_all v.keys ns else put_all k v.keys ns) ≡ keys_after v s (Register k ns)) [
      | true ↦ λ e. unregistered v s ns p ∙ ap (λ j. keys_after v s (Register j ns)) (sym (exact_unsigned_eq k 0 e))
      | false ↦ λ e. registered v s k ns (λ z. false≢true (sym e ∙ eq-eqb k 0 z)) p
    ] refl

pub cleared : (v : State) (s : Nexus) → [] ≡ keys_after v s Clear
cleared v s = keys_after-is v s Clear [] proper-power_on (λ q. refl)

taken_all : (t ar same : Bool) (j k : ℕ) → t ≡ true → ar ≡ true → (if same then j else 0) ≡ (if t then (if not same && (ar || (j == k)) then 0 else j) else (if j == k then 0 else j))
taken_all t ar true j k e f = grind arith
taken_all t ar false j k e f = grind arith

pub preempted_all : (v : State) (s : Nexus) (k t : ℕ) → takes v k ≡ true → is_all_held v ≡ true → IsProper v.keys → filter (λ e. same_nexus e.0 s) v.keys ≡ keys_after v s (Preempt k t)
preempted_all v s k t taking ar p = keys_after-is v s (Preempt k t) _ (proper-filter _ v.keys p) (λ q. key_in-filter _ v.keys q p.sorted ∙ taken_all (takes v k) (is_all_held v) (same_nexus q s) (key v q) k taking ar)

taken_some : (t ar same : Bool) (j k : ℕ) → t ≡ true → ar ≡ false → (if same || not (j == k) then j else 0) ≡ (if t then (if not same && (ar || (j == k)) then 0 else j) else (if j == k then 0 else j))
taken_some t ar true j k e f = grind arith
taken_some t ar false j k e f = grind arith

pub preempted_others : (v : State) (s : Nexus) (k t : ℕ) → takes v k ≡ true → is_all_held v ≡ false → IsProper v.keys → filter (λ e. same_nexus e.0 s || not (e.1 == k)) v.keys ≡ keys_after v s (Preempt k t)
preempted_others v s k t taking ar p = keys_after-is v s (Preempt k t) _ (proper-filter _ v.keys p) (λ q. key_in-filter _ v.keys q p.sorted ∙ taken_some (takes v k) (is_all_held v) (same_nexus q s) (key v q) k taking ar)

taken_none : (t ar same : Bool) (j k : ℕ) → t ≡ false → (if not (j == k) then j else 0) ≡ (if t then (if not same && (ar || (j == k)) then 0 else j) else (if j == k then 0 else j))
taken_none t ar same j k e = grind arith

pub preempted_key : (v : State) (s : Nexus) (k t : ℕ) → takes v k ≡ false → IsProper v.keys → filter (λ e. not (e.1 == k)) v.keys ≡ keys_after v s (Preempt k t)
preempted_key v s k t taking p = keys_after-is v s (Preempt k t) _ (proper-filter _ v.keys p) (λ q. key_in-filter _ v.keys q p.sorted ∙ taken_none (takes v k) (is_all_held v) (same_nexus q s) (key v q) k taking)

pub moved : (v : State) (s d : Nexus) (k : ℕ) → k ≢ 0 → IsProper v.keys → put nexus_cmp d k v.keys ≡ keys_after v s (Move k d false)
moved v s d k keyed p = keys_after-is v s (Move k d false) _ (proper-put d k v.keys keyed p) (λ q. key_in-put v.keys d k q ∙ stays (same_nexus q d) (same_nexus q s) (key v q))
  where
    stays : (a b : Bool) (j : ℕ) → (if a then k else j) ≡ (if a then k else if b && false then 0 else j)
    stays true b j = refl
    stays false true j = refl
    stays false false j = refl

pub moved_away : (v : State) (s d : Nexus) (k : ℕ) → k ≢ 0 → IsProper v.keys → put nexus_cmp d k (filter (λ e. not (same_nexus e.0 s)) v.keys) ≡ keys_after v s (Move k d true)
moved_away v s d k keyed p = keys_after-is v s (Move k d true) _ (proper-put d k _ keyed (proper-filter _ v.keys p)) (λ q. key_in-put _ d k q ∙ ap (λ j. if same_nexus q d then k else j) (key_in-filter _ v.keys q p.sorted) ∙ goes (same_nexus q d) (same_nexus q s) (key v q))
  where
    goes : (a b : Bool) (j : ℕ) → (if a then k else (if not b then j else 0)) ≡ (if a then k else if b && true then 0 else j)
    goes true b j = refl
    goes false true j = refl
    goes false false j = refl

pub kept_reserve : (v : State) (s : Nexus) (t : ResType) → IsProper v.keys → v.keys ≡ keys_after v s (Reserve t)
kept_reserve v s t p = keys_after-is v s (Reserve t) v.keys p (λ q. refl)

pub kept_release : (v : State) (s : Nexus) (t : ℕ) → IsProper v.keys → v.keys ≡ keys_after v s (Release t)
kept_release v s t p = keys_after-is v s (Release t) v.keys p (λ q. refl)

-- the keys in place are those after the act, where v is the state as it is kept
pub fits : (v w : State) (s : Nexus) (a b : Act) (x : Keys) → v ≡ w → b ≡ a → length (keys_after w s b) ≤ capacity → x ≡ keys_after v s a → IsProper x × (length x ≤ capacity)
fits v w s a b x e f room is =
    let same : keys_after v s a ≡ keys_after w s b = λ i. keys_after (e i) s (sym f i) in
    (subst IsProper (sym is) (proper-after v s a), subst (λ (y : Keys). length y ≤ capacity) (sym (is ∙ same)) room)

pub leaves : (v w : State) (s : Nexus) (a b : Act) (x : Keys) → v ≡ w → b ≡ a → x ≡ keys_after v s a → record v { keys = x } ≡ record w { keys = keys_after w s b }
leaves v w s a b x e f is =
    let same : x ≡ keys_after w s b = is ∙ (λ i. keys_after (e i) s (sym f i)) in
    λ i. record { keys = same i; reservation = (e i).reservation; generation = (e i).generation }

-- Keys that come twice.
use Rattle.std.proofs.Common.{◌≡◌, ℕ, ◌+◌, ◌-◌, ◌<◌, ◌≤◌, suc, nat_lt, Bool, true, false, ◌||◌, List, [], ◌∷◌, ◌++◌, length, map, refl, sym, ap, ◌∙◌, append-nil, arith}
use Rattle.std.specs.List.{list_any}
use Rattle.std.specs.Str.{bytes_eq}
use Rattle.std.proofs.lemmas.Bool.{or_parts, or_from, or_left, or_right}
use Rattle.std.proofs.lemmas.Bool.Decides.{nat_tests}
use Rattle.std.proofs.lemmas.List.{length-append}
use Rattle.std.proofs.lemmas.List.Folds.{list_any-append}
use Rattle.iscsi_keys.specs.Texts.{ItemValue, End, Pair, Invalid, first_item}
use Rattle.iscsi_answers.specs.Repeats.{are_overdone, first_keys, has_twice, is_pair, keys_at}

one_fewer : (most i : ℕ) → i < most → most - i ≡ suc (most - (i + 1))
one_fewer most i h = omega arith

-- what an element stands for is among what all stand for
pub among : {X : Type 0} (f : X → List ℕ) (key : List ℕ) (xs : List X)
    → list_any (λ x. bytes_eq (f x) key) xs ≡ list_any (λ k. bytes_eq k key) (map f xs)
among f key [] = refl
among f key (x ∷ xs) = ap (λ (b : Bool). bytes_eq (f x) key || b) (among f key xs)

-- a key is one of those before it
there_again : (same : Bool) (x key : List ℕ) (keys more : List (List ℕ)) → bytes_eq x key ≡ same → (same ≡ false → has_twice (keys ++ key ∷ more) ≡ true)
    → has_twice (x ∷ (keys ++ key ∷ more)) ≡ true
there_again true x key keys more e rest =
    or_left (list_any (bytes_eq x) (keys ++ key ∷ more)) (has_twice (keys ++ key ∷ more))
    (list_any-append (bytes_eq x) keys (key ∷ more)
    ∙ or_right (list_any (bytes_eq x) keys) (bytes_eq x key || list_any (bytes_eq x) more) (or_left (bytes_eq x key) (list_any (bytes_eq x) more) e))
there_again false x key keys more e rest =
    or_right (list_any (bytes_eq x) (keys ++ key ∷ more)) (has_twice (keys ++ key ∷ more)) (rest refl)

pub twice : (keys : List (List ℕ)) (key : List ℕ) (more : List (List ℕ)) → list_any (λ k. bytes_eq k key) keys ≡ true
    → has_twice (keys ++ key ∷ more) ≡ true
twice [] key more e = absurd cc
twice (x ∷ keys) key more e =
    there_again (bytes_eq x key) x key keys more refl
    (λ other. twice keys key more (sym (ap (λ (b : Bool). b || list_any (λ k. bytes_eq k key) keys) other) ∙ e))

-- and where it is none of them it doesn't come again
pub once : (keys : List (List ℕ)) (key : List ℕ) → has_twice keys ≡ false → list_any (λ k. bytes_eq k key) keys ≡ false
    → has_twice (keys ++ key ∷ []) ≡ false
once [] key none new = refl
once (x ∷ keys) key none new =
    let before = or_parts (list_any (bytes_eq x) keys) (has_twice keys) none in
    let other = or_parts (bytes_eq x key) (list_any (λ k. bytes_eq k key) keys) new in
    or_from (list_any (bytes_eq x) (keys ++ key ∷ [])) (has_twice (keys ++ key ∷ []))
    (list_any-append (bytes_eq x) keys (key ∷ [])
    ∙ or_from (list_any (bytes_eq x) keys) (bytes_eq x key || false) before.0 (or_from (bytes_eq x key) false other.0 refl))
    (once keys key before.1 other.1)

-- ---- one item of a text after another

pub first_of : (most i : ℕ) (text : List ℕ) (item : ItemValue) → i < most → item ≡ first_item text
    → first_keys (most - i) text ≡ keys_at (first_keys (most - (i + 1))) item
first_of most i text item h e =
    ap (λ k. first_keys k text) (one_fewer most i h) ∙ ap (keys_at (first_keys (most - (i + 1)))) (sym e)

pub one_more : (most i : ℕ) (text key value rest : List ℕ) (keys whole : List (List ℕ)) → i < most → Pair key value rest ≡ first_item text
    → keys ++ first_keys (most - i) text ≡ whole → keys ++ key ∷ first_keys (most - (i + 1)) rest ≡ whole
one_more most i text key value rest keys whole h e before =
    ap (λ (ks : List (List ℕ)). keys ++ ks) (sym (first_of most i text (Pair key value rest) h e)) ∙ before

pub all_came : (most i : ℕ) (text : List ℕ) (item : ItemValue) (keys whole : List (List ℕ)) → i < most → item ≡ first_item text
    → keys_at (first_keys (most - (i + 1))) item ≡ [] → keys ++ first_keys (most - i) text ≡ whole → keys ≡ whole
all_came most i text item keys whole h e none before =
    sym (append-nil keys) ∙ ap (λ (ks : List (List ℕ)). keys ++ ks) (sym (first_of most i text item h e ∙ none)) ∙ before

-- ---- what is said of them

pub fine : (keys : List (List ℕ)) → length keys ≤ 64 → has_twice keys ≡ false → are_overdone keys ≡ false
fine keys few none = or_from (nat_lt 64 (length keys)) (has_twice keys) (grind (arith, nat_tests)) none

pub too_many : (keys : List (List ℕ)) → 64 < length keys → are_overdone keys ≡ true
too_many keys many = or_left (nat_lt 64 (length keys)) (has_twice keys) (grind (arith, nat_tests))

pub again : (keys : List (List ℕ)) → has_twice keys ≡ true → are_overdone keys ≡ true
again keys twice = or_right (nat_lt 64 (length keys)) (has_twice keys) twice

-- behind so many keys one more is too many
pub one_beyond : (keys : List (List ℕ)) (item : ItemValue) → length keys ≡ 64 → has_twice keys ≡ false
    → is_pair item ≡ are_overdone (keys ++ keys_at (first_keys 0) item)
one_beyond keys End many none =
    sym (ap are_overdone (append-nil keys) ∙ fine keys (omega (arith, many)) none)
one_beyond keys (Invalid fault) many none =
    sym (ap are_overdone (append-nil keys) ∙ fine keys (omega (arith, many)) none)
one_beyond keys (Pair key value rest) many none =
    sym (too_many (keys ++ key ∷ []) (omega (arith, many, length-append keys (key ∷ []))))

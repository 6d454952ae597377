-- What is agreed stays in its ranges.
use Rattle.std.proofs.Common.{◌≡◌, ℕ, ◌≤◌, ◌&&◌, leb, Bool, true, false, cond, inl, inr, ◌⊎◌, List, [], ◌∷◌, Option, Some, None, refl, sym, subst, min, max, arith}
use Rattle.std.proofs.lemmas.Bool.{cases_lt, le-leb, lt-leb}
use Rattle.scsi_cdb.specs.declared.profile.Profile.{Profile}
use Rattle.scsi_cdb.specs.declared.profile.Profile.TheVariants.{Spec, Hosts}
use Rattle.iscsi_keys.specs.Limits.{segment_limit, most_first_burst}
use Rattle.iscsi_keys.specs.Keys.{range}
use Rattle.iscsi_keys.specs.Numbers.{number_in}
use Rattle.iscsi_keys.specs.Answers.{in_range, number_answer, answer_to}
use Rattle.iscsi_keys.specs.Parameters.{defaults, with_length, with_burst, with_first_burst, with_r2t, with_immediate, with_wait, agreed, AreInRange}
use Rattle.iscsi_keys.specs.Negotiations.{Offer, after, negotiated, negotiated_if_known, was_offered, key_named}
use Rattle.iscsi_keys.specs.declared.key.Key.{Key}
use Rattle.iscsi_keys.specs.declared.key.Key.TheVariants as key
use Rattle.iscsi_keys.specs.declared.kind.Range.{Range}
use Rattle.iscsi_keys.specs.declared.answer.KeyAnswer.{KeyAnswer}
use Rattle.iscsi_keys.specs.declared.answer.KeyAnswer.TheVariants as answer
use Rattle.iscsi_keys.specs.declared.answer.Terms.{Terms}
use Rattle.iscsi_keys.specs.declared.parameters.SessionParameters.{SessionParameters}
use Rattle.iscsi_keys.specs.declared.negotiation.Negotiation.{Negotiation}

-- a number is taken where it is in the range
taken : (r : Range) (o : Option ℕ) → (in_range r o ≡ None) ⊎ ((n : ℕ) × (o ≡ Some n) × (in_range r o ≡ Some n) × (r.least ≤ n) ×
    (n ≤ r.most))
taken r None = inl refl
taken r (Some n) = elim (cases_lt n r.least) [
  | inl below ↦ (let few : leb r.least n ≡ false = lt-leb _ _ below in inl (rw few refl))
  | inr least ↦ elim (cases_lt r.most n) [
    | inl above ↦ (let enough : leb r.least n ≡ true = le-leb _ _ least in let many : leb n r.most ≡ false = lt-leb _ _ above in inl
        (rw (enough, many) refl))
    | inr most ↦ (
        let enough : leb r.least n ≡ true = le-leb _ _ least in
        let within : leb n r.most ≡ true = le-leb _ _ most in
        inr (n, refl, rw (enough, within) refl, least, most))
  ]
]

-- what holds of each answer to a number
number_case : (P : KeyAnswer → Type 0) (d : Bool) (chosen : ℕ → ℕ) (r : Range) (o : Option ℕ) → P answer.Irrelevant → P answer.Reject
    → ((n : ℕ) → o ≡ Some n → r.least ≤ n → n ≤ r.most → P (answer.Number (chosen n))) → P
    (cond d answer.Irrelevant (number_answer chosen (in_range r o)))
number_case P true chosen r o i j k = i
number_case P false chosen r o i j k = elim (taken r o) [
  | inl none ↦ subst (λ (x : Option ℕ). P (number_answer chosen x)) (sym none) j
  | inr w ↦ subst (λ (x : Option ℕ). P (number_answer chosen x)) (sym w.2) (k w.0 w.1 w.3 w.4)
]

length_taken : (p : SessionParameters) (own n : ℕ) (o : Option ℕ) → o ≡ Some n → 512 ≤ n → n ≤ 16777215 → AreInRange p → AreInRange
    (with_length p (answer.Number own) o)
length_taken p own n o e least most h =
    subst (λ (x : Option ℕ). AreInRange (with_length p (answer.Number own) x)) (sym e)
    (record {
      some_segment = least;
      short_segment = most;
      some_burst = h.some_burst;
      short_burst = h.short_burst;
      some_first_burst =
          h.some_first_burst;
      short_first_burst = h.short_first_burst;
      first_within_burst = h.first_within_burst;
      short_wait = h.short_wait;
    })

burst_taken : (p : SessionParameters) (n : ℕ) → 512 ≤ n → AreInRange p → AreInRange (with_burst p (answer.Number (min n 1048576)))
burst_taken p n least h = record {
  some_segment = h.some_segment;
  short_segment = h.short_segment;
  some_burst = omega arith;
  short_burst = omega arith;
  some_first_burst = omega (arith, h.some_first_burst);
  short_first_burst = omega (arith, h.short_first_burst);
  first_within_burst = omega arith;
  short_wait = h.short_wait;
}

some_first : (profile : Profile) → 512 ≤ most_first_burst profile
some_first Spec = omega arith
some_first Hosts = omega arith

long_first : (profile : Profile) → most_first_burst profile ≤ 262144
long_first Spec = omega arith
long_first Hosts = omega arith

first_taken : (p : SessionParameters) (n most : ℕ) → 512 ≤ n → 512 ≤ most → most ≤ 262144 → AreInRange p → AreInRange
    (with_first_burst p (answer.Number (min n (min most p.max_burst_length))))
first_taken p n most least some long h = record {
  some_segment = h.some_segment;
  short_segment = h.short_segment;
  some_burst = h.some_burst;
  short_burst = h.short_burst;
  some_first_burst = omega (arith, h.some_burst);
  short_first_burst = omega arith;
  first_within_burst = omega arith;
  short_wait = h.short_wait;
}

wait_taken : (p : SessionParameters) (n : ℕ) → n ≤ 3600 → AreInRange p → AreInRange (with_wait p (answer.Number (max n 0)))
wait_taken p n most h = record {
  some_segment = h.some_segment;
  short_segment = h.short_segment;
  some_burst = h.some_burst;
  short_burst = h.short_burst;
  some_first_burst = h.some_first_burst;
  short_first_burst = h.short_first_burst;
  first_within_burst = h.first_within_burst;
  short_wait = omega arith;
}

-- parameters that differ in what has no range
same_numbers : (p : SessionParameters) (r2t immediate : Bool) → AreInRange p → AreInRange
    (record p { initial_r2t = r2t; immediate_data = immediate })
same_numbers p r2t immediate h = record {
  some_segment = h.some_segment;
  short_segment = h.short_segment;
  some_burst = h.some_burst;
  short_burst = h.short_burst;
  some_first_burst = h.some_first_burst;
  short_first_burst = h.short_first_burst;
  first_within_burst = h.first_within_burst;
  short_wait = h.short_wait;
}

r2t_taken : (p : SessionParameters) (a : KeyAnswer) → AreInRange p → AreInRange (with_r2t p a)
r2t_taken p (answer.Boolean said) h = same_numbers p said p.immediate_data h
r2t_taken p _ h = h

immediate_taken : (p : SessionParameters) (a : KeyAnswer) → AreInRange p → AreInRange (with_immediate p a)
immediate_taken p (answer.Boolean said) h = same_numbers p p.initial_r2t said h
immediate_taken p _ h = h

key_stays : (t : Terms) (p : SessionParameters) (k : Key) (value : List ℕ) → AreInRange p → AreInRange
    (agreed p k (answer_to t p.max_burst_length k value) (number_in value))
key_stays t p key.MaxRecvDataSegmentLength value h =
    number_case (λ (a : KeyAnswer). AreInRange (with_length p a (number_in value))) (t.discovery && false) (λ n. segment_limit)
    (range 512 16777215 segment_limit) (number_in value) h h
    (λ n e least most. length_taken p segment_limit n (number_in value) e least most h)
key_stays t p key.MaxBurstLength value h =
    number_case (λ (a : KeyAnswer). AreInRange (with_burst p a)) (t.discovery && true) (λ n. min n 1048576) (range 512 16777215 1048576)
    (number_in value) h h
    (λ n e least most. burst_taken p n least h)
key_stays t p key.FirstBurstLength value h =
    number_case (λ (a : KeyAnswer). AreInRange (with_first_burst p a)) (t.discovery && true)
    (λ n. min n (min (most_first_burst t.profile) p.max_burst_length))
    (range 512 16777215 (min (most_first_burst t.profile) p.max_burst_length)) (number_in value) h h
    (λ n e least most. first_taken p n (most_first_burst t.profile) least (some_first t.profile) (long_first t.profile) h)
key_stays t p key.DefaultTime2Wait value h =
    number_case (λ (a : KeyAnswer). AreInRange (with_wait p a)) (t.discovery && false) (λ n. max n 0) (range 0 3600 0) (number_in value) h h
    (λ n e least most. wait_taken p n most h)
key_stays t p key.InitialR2t value h = r2t_taken p (answer_to t p.max_burst_length key.InitialR2t value) h
key_stays t p key.ImmediateData value h = immediate_taken p (answer_to t p.max_burst_length key.ImmediateData value) h
key_stays t p _ value h = h

either_stays : (n m : Negotiation) (b : Bool) → AreInRange n.parameters → AreInRange m.parameters → AreInRange (cond b n m).parameters
either_stays n m true h i = h
either_stays n m false h i = i

known_stays : (n : Negotiation) (o : Option Key) (value : List ℕ) → AreInRange n.parameters → AreInRange
    (negotiated_if_known n o value).parameters
known_stays n None value h = h
known_stays n (Some k) value h = either_stays n _ (was_offered n k) h (key_stays n.terms n.parameters k value h)

pub all_stay : (n : Negotiation) (offers : List Offer) → AreInRange n.parameters → AreInRange (after n offers).parameters
all_stay n [] h = h
all_stay n (o ∷ others) h = all_stay (negotiated n o.name o.value) others (known_stays n (key_named o.name) o.value h)

pub defaults_in_range : AreInRange defaults
defaults_in_range = record {
  some_segment = omega arith;
  short_segment = omega arith;
  some_burst = omega arith;
  short_burst = omega arith;
  some_first_burst = omega arith;
  short_first_burst = omega arith;
  first_within_burst = omega arith;
  short_wait = omega arith;
}

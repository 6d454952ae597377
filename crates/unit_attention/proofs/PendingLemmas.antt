-- Kinds that wait once at most: there is room for one that doesn't wait yet.
use Rattle.std.proofs.Common.{◌≡◌, ℕ, ◌+◌, ◌<◌, ◌≤◌, Bool, true, false, cond, ◌||◌, ◌==◌, List, [], ◌∷◌, ◌++◌, length, filter, refl, sym, ap, arith}
use Rattle.std.proofs.lemmas.Map.Views.{exact_unsigned_eq}
use Rattle.std.proofs.lemmas.Grind.{common_steps}
use Rattle.unit_attention.specs.declared.kind.Kind.{Kind}
use Rattle.unit_attention.specs.declared.kind.Kind.TheVariants.{PowerOn, BusDeviceReset, NexusLoss, MediumChanged, ModeParametersChanged, LogParametersChanged, ReservationsPreempted, ReservationsReleased, RegistrationsPreempted}
use Rattle.unit_attention.specs.Pending.{number_of, same_kind, is_pending, times, IsOnce}

none-or : (a b : Bool) (n : ℕ) → (a || b) ≡ false → (b ≡ false → n ≡ 0) → cond a 1 0 + n ≡ 0
none-or true b n h rest = cc
none-or false b n h rest = omega (arith, rest h)

-- one that doesn't wait waits no times
times-absent : (ks : List Kind) (k : Kind) → is_pending ks k ≡ false → times ks k ≡ 0
times-absent [] k h = refl
times-absent (x ∷ ks) k h = none-or (same_kind k x) (is_pending ks k) (times ks k) h (times-absent ks k)

times-append : (ks : List Kind) (x k : Kind) → times (ks ++ x ∷ []) k ≡ times ks k + cond (same_kind k x) 1 0
times-append [] x k = omega arith
times-append (y ∷ ks) x k = let h = times-append ks x k in omega arith

fewer_kept : (k x : Kind) (b : Bool) (ks js : List Kind) → times ks k ≤ times js k → times (cond b (x ∷ ks) ks) k ≤ cond (same_kind k x) 1 0 + times js k
fewer_kept k x true ks js h = omega arith
fewer_kept k x false ks js h = omega arith

times-filter : (p : Kind → Bool) (ks : List Kind) (k : Kind) → times (filter p ks) k ≤ times ks k
times-filter p [] k = omega arith
times-filter p (x ∷ ks) k = fewer_kept k x (p x) (filter p ks) ks (times-filter p ks k)

-- each element is of one of the kinds
length-kinds : (ks : List Kind) → length ks ≡ times ks PowerOn + times ks BusDeviceReset + times ks NexusLoss + times ks MediumChanged + times ks ModeParametersChanged + times ks LogParametersChanged + times ks ReservationsPreempted + times ks ReservationsReleased + times ks RegistrationsPreempted
length-kinds [] = refl
length-kinds (PowerOn ∷ ks) = let h = length-kinds ks in omega arith
length-kinds (BusDeviceReset ∷ ks) = let h = length-kinds ks in omega arith
length-kinds (NexusLoss ∷ ks) = let h = length-kinds ks in omega arith
length-kinds (MediumChanged ∷ ks) = let h = length-kinds ks in omega arith
length-kinds (ModeParametersChanged ∷ ks) = let h = length-kinds ks in omega arith
length-kinds (LogParametersChanged ∷ ks) = let h = length-kinds ks in omega arith
length-kinds (ReservationsPreempted ∷ ks) = let h = length-kinds ks in omega arith
length-kinds (ReservationsReleased ∷ ks) = let h = length-kinds ks in omega arith
length-kinds (RegistrationsPreempted ∷ ks) = let h = length-kinds ks in omega arith

-- how often each of nine that wait once at most waits, and how many they are
pub record Count (ks : List Kind) : Type 0 where
  pub sum : length ks ≡ times ks PowerOn + times ks BusDeviceReset + times ks NexusLoss + times ks MediumChanged + times ks ModeParametersChanged + times ks LogParametersChanged + times ks ReservationsPreempted + times ks ReservationsReleased + times ks RegistrationsPreempted
  pub a : times ks PowerOn ≤ 1
  pub b : times ks BusDeviceReset ≤ 1
  pub c : times ks NexusLoss ≤ 1
  pub d : times ks MediumChanged ≤ 1
  pub e : times ks ModeParametersChanged ≤ 1
  pub f : times ks LogParametersChanged ≤ 1
  pub g : times ks ReservationsPreempted ≤ 1
  pub h : times ks ReservationsReleased ≤ 1
  pub i : times ks RegistrationsPreempted ≤ 1

fewer : (ks : List Kind) (k : Kind) → Count ks → times ks k ≡ 0 → length ks < 9
fewer ks PowerOn c none = omega arith
fewer ks BusDeviceReset c none = omega arith
fewer ks NexusLoss c none = omega arith
fewer ks MediumChanged c none = omega arith
fewer ks ModeParametersChanged c none = omega arith
fewer ks LogParametersChanged c none = omega arith
fewer ks ReservationsPreempted c none = omega arith
fewer ks ReservationsReleased c none = omega arith
fewer ks RegistrationsPreempted c none = omega arith

-- nine that wait once at most are fewer where one of them doesn't wait
pub room_for : (ks : List Kind) (k : Kind) → IsOnce ks → is_pending ks k ≡ false → length ks < 9
room_for ks k once absent =
    let c : Count ks = record {
      sum = length-kinds ks;
      a = once PowerOn;
      b = once BusDeviceReset;
      c = once NexusLoss;
      d = once MediumChanged;
      e = once ModeParametersChanged;
      f = once LogParametersChanged;
      g = once ReservationsPreempted;
      h = once ReservationsReleased;
      i = once RegistrationsPreempted;
    } in
    fewer ks k c (times-absent ks k absent)

alike : (a b c : Kind) → same_kind a b ≡ true → same_kind b c ≡ same_kind a c
alike a b c h = let same : number_of a ≡ number_of b = exact_unsigned_eq (number_of a) (number_of b) h in ap (λ n. n == number_of c) (sym same)

times-alike : (ks : List Kind) (a b : Kind) → same_kind a b ≡ true → times ks b ≡ times ks a
times-alike [] a b h = refl
times-alike (x ∷ ks) a b h = let rest = times-alike ks a b h in let same = alike a b x h in grind (arith, common_steps)

-- one that doesn't wait may be added
pub once-push : (ks : List Kind) (k : Kind) → IsOnce ks → is_pending ks k ≡ false → IsOnce (ks ++ k ∷ [])
once-push ks k once absent j =
    let sum = times-append ks k j in
    let none = times-absent ks k absent in
    let one = once j in
    elim (same_kind j k) as (λ b. same_kind j k ≡ b → times ks j + cond b 1 0 ≤ 1 → times (ks ++ k ∷ []) j ≤ 1) [ true ↦ λ e h. grind (arith, common_steps) | false ↦ λ e h. grind (arith, common_steps) ] refl
    (elim (same_kind j k) as (λ b. same_kind j k ≡ b → times ks j + cond b 1 0 ≤ 1) [
      | true ↦ λ same. let zero = times-alike ks j k same in omega arith
      | false ↦ λ other. omega arith
    ] refl)

pub once-filter : (p : Kind → Bool) (ks : List Kind) → IsOnce ks → IsOnce (filter p ks)
once-filter p ks once j = let fewer = times-filter p ks j in let one = once j in omega arith

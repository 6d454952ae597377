use Rattle.std.proofs.Common.{◌≡◌, ℕ, ◌+◌, ◌-◌, ◌<◌, ◌≤◌, ◌≢◌, suc, Bool, true, false, List, [], ◌∷◌, length, get_or, arith, refl, sym, ap, ◌∙◌, drop}
use Rattle.std.proofs.lemmas.List.{drop_more, drop_all}
use mathlib.Core.Bool.{beq}
use Rattle.tape_medium.specs.Object.{Object, Block, Mark}
use Rattle.tape_medium.specs.Tape.{is_mark}
use Rattle.tape_medium.specs.Space.{way, Way}
use Rattle.tape_medium.specs.declared.space.Stop.{Stop}
use Rattle.tape_medium.specs.declared.space.Stop.TheVariants.{AtMark}
use Rattle.tape_medium.specs.Along.{code_of}

pub same_way : (a b : Way) → a.counted ≡ b.counted → a.over ≡ b.over → a.stop ≡ b.stop → a ≡ b
same_way a b p q r = λ i. record { counted = p i; over = q i; stop = r i }

-- so many more counted and passed
abbrev pub plus : ℕ → ℕ → Way → Way
plus a b w = record { counted = w.counted + a; over = w.over + b; stop = w.stop }

abbrev pub stopped : ℕ → ℕ → Stop → Way
stopped counted over stop = record { counted = counted; over = over; stop = stop }

pub way-count : (marks : Bool) (edge : Stop) (x : Object) (rest : List Object) (n : ℕ) → is_mark x ≡ marks → way (code_of marks) edge (x ∷ rest) (suc n) ≡ plus 1 1 (way (code_of marks) edge rest n)
way-count true edge Mark rest n h = refl
way-count true edge (Block b) rest n h = cc
way-count false edge Mark rest n h = cc
way-count false edge (Block b) rest n h = refl

pub way-pass : (edge : Stop) (x : Object) (rest : List Object) (n : ℕ) → is_mark x ≡ false → way (code_of true) edge (x ∷ rest) (suc n) ≡ plus 0 1 (way (code_of true) edge rest (suc n))
way-pass edge Mark rest n h = cc
way-pass edge (Block b) rest n h = same_way _ _ (omega arith) refl refl

pub way-stop : (edge : Stop) (x : Object) (rest : List Object) (n : ℕ) → is_mark x ≡ true → way (code_of false) edge (x ∷ rest) (suc n) ≡ stopped 0 1 AtMark
way-stop edge Mark rest n h = refl
way-stop edge (Block b) rest n h = cc

-- what is told on the way: of the whole way so much is counted and passed, and the rest is a way of its own
pub record Told (marks : Bool) (edge : Stop) (ws : List Object) (todo counted over : ℕ) : Type 0 where
  pub way_is : way (code_of marks) edge ws todo ≡ plus counted over (way (code_of marks) edge (drop over ws) (todo - counted))
  pub some : counted ≤ todo

pub told-count : (marks : Bool) (edge : Stop) (ws : List Object) (todo counted over : ℕ) → Told marks edge ws todo counted over → over < length ws → counted ≢ todo → is_mark (get_or ws over Mark) ≡ marks → Told marks edge ws todo (counted + 1) (over + 1)
told-count marks edge ws todo counted over told below ne h =
    let n : ℕ = todo - (counted + 1) in
    let less : todo - counted ≡ suc (todo - (counted + 1)) = omega (arith, told.some) in
    let next : way (code_of marks) edge (drop over ws) (todo - counted) ≡ plus 1 1 (way (code_of marks) edge (drop (over + 1) ws) (todo - (counted + 1))) =
    rw (drop_more ws over Mark below, less) (way-count marks edge (get_or ws over Mark) (drop (over + 1) ws) (todo - (counted + 1)) h) in
    record {
      way_is = told.way_is ∙ ap (λ (w : Way). plus counted over w) next ∙ same_way _ _ (omega arith) (omega arith) refl;
      some = omega (arith, told.some);
    }

pub told-pass : (edge : Stop) (ws : List Object) (todo counted over : ℕ) → Told true edge ws todo counted over → over < length ws → counted ≢ todo → is_mark (get_or ws over Mark) ≡ false → Told true edge ws todo counted (over + 1)
told-pass edge ws todo counted over told below ne h =
    let less : todo - counted ≡ suc (todo - (counted + 1)) = omega (arith, told.some) in
    let next : way (code_of true) edge (drop over ws) (todo - counted) ≡ plus 0 1 (way (code_of true) edge (drop (over + 1) ws) (todo - counted)) =
    rw (drop_more ws over Mark below, less) (way-pass edge (get_or ws over Mark) (drop (over + 1) ws) (todo - (counted + 1)) h) in
    record {
      way_is = told.way_is ∙ ap (λ (w : Way). plus counted over w) next ∙ same_way _ _ (omega arith) (omega arith) refl;
      some = told.some;
    }

pub told-stop : (edge : Stop) (ws : List Object) (todo counted over : ℕ) → Told false edge ws todo counted over → over < length ws → counted ≢ todo → is_mark (get_or ws over Mark) ≡ true → stopped counted (over + 1) AtMark ≡ way (code_of false) edge ws todo
told-stop edge ws todo counted over told below ne h =
    let less : todo - counted ≡ suc (todo - (counted + 1)) = omega (arith, told.some) in
    let next : way (code_of false) edge (drop over ws) (todo - counted) ≡ stopped 0 1 AtMark =
    rw (drop_more ws over Mark below, less) (way-stop edge (get_or ws over Mark) (drop (over + 1) ws) (todo - (counted + 1)) h) in
    sym (told.way_is ∙ ap (λ (w : Way). plus counted over w) next ∙ same_way _ _ (omega arith) (omega arith) refl)

pub way-edge : (marks : Bool) (edge : Stop) (n : ℕ) → way (code_of marks) edge [] (suc n) ≡ stopped 0 0 edge
way-edge true edge n = refl
way-edge false edge n = refl

pub told-edge : (marks : Bool) (edge : Stop) (ws : List Object) (todo counted over : ℕ) → Told marks edge ws todo counted over → length ws ≤ over → counted ≢ todo → stopped counted over edge ≡ way (code_of marks) edge ws todo
told-edge marks edge ws todo counted over told end ne =
    let less : todo - counted ≡ suc (todo - (counted + 1)) = omega (arith, told.some) in
    let next : way (code_of marks) edge (drop over ws) (todo - counted) ≡ stopped 0 0 edge = rw (drop_all over ws end, less) (way-edge marks edge (todo - (counted + 1))) in
    sym (told.way_is ∙ ap (λ (w : Way). plus counted over w) next ∙ same_way _ _ (omega arith) (omega arith) refl)

-- the same at the code's tests: `b` is whether the object is a mark
pub told-count-at : (marks b : Bool) (edge : Stop) (ws : List Object) (todo counted over now : ℕ) → Told marks edge ws todo counted over → over < length ws → counted ≢ todo → b ≡ is_mark (get_or ws over Mark) → b ≡ marks → now ≡ counted + 1 → Told marks edge ws todo now (over + 1)
told-count-at marks b edge ws todo counted over now told below ne e h is = rw is (told-count marks edge ws todo counted over told below ne (sym e ∙ h))

pub told-pass-at : (marks b : Bool) (edge : Stop) (ws : List Object) (todo counted over now : ℕ) → Told marks edge ws todo counted over → over < length ws → counted ≢ todo → b ≡ is_mark (get_or ws over Mark) → b ≢ marks → b ≡ false → now ≡ counted → Told marks edge ws todo now (over + 1)
told-pass-at true b edge ws todo counted over now told below ne e differs h is = rw is (told-pass edge ws todo counted over told below ne (sym e ∙ h))
told-pass-at false b edge ws todo counted over now told below ne e differs h is = absurd (differs h)

pub told-stop-at : (marks b : Bool) (edge : Stop) (ws : List Object) (todo counted over : ℕ) → Told marks edge ws todo counted over → over < length ws → counted ≢ todo → b ≡ is_mark (get_or ws over Mark) → b ≢ marks → b ≡ true → stopped counted (over + 1) AtMark ≡ way (code_of marks) edge ws todo
told-stop-at true b edge ws todo counted over told below ne e differs h = absurd (differs h)
told-stop-at false b edge ws todo counted over told below ne e differs h = told-stop edge ws todo counted over told below ne (sym e ∙ h)

pub same-bools : (a b : Bool) → beq a b ≡ true → a ≡ b
same-bools true true h = refl
same-bools true false h = cc
same-bools false true h = cc
same-bools false false h = refl

pub other-bools : (a b : Bool) → beq a b ≡ false → a ≢ b
other-bools true true h e = cc
other-bools true false h e = cc
other-bools false true h e = cc
other-bools false false h e = cc

pub told-edge-at : (marks : Bool) (edge stop : Stop) (ws : List Object) (todo counted over reach : ℕ) → Told marks edge ws todo counted over → reach ≡ length ws → reach ≤ over → over ≤ reach → counted ≢ todo → edge ≡ stop → stopped counted reach stop ≡ way (code_of marks) edge ws todo
told-edge-at marks edge stop ws todo counted over reach told all end within ne is =
    let same : reach ≡ over = omega arith in
    rw (← is, same) (told-edge marks edge ws todo counted over told (omega arith) ne)

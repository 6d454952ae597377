-- Laws of streams of frames.
use Rattle.std.proofs.Common.{◌≡◌, ℕ, ◌+◌, ◌-◌, ◌==◌, ◌||◌, ◌&&◌, nat_le, not, slice_index, ◌≤◌, ◌<◌, Bool, true, false, cond, ltb, inl, inr, List, [], ◌∷◌, ◌++◌, length, take, drop, refl, sym, ap, subst, ◌∙◌, append_assoc, arith}
use Rattle.std.proofs.lemmas.List.{append-nil, take-append-le, drop-append-le, length-append, length-drop}
use Rattle.std.proofs.Math.ListN.{get_or-append}
use Rattle.std.proofs.lemmas.Bool.{ltb-false, le-ltb, lt-ltb, cases_lt}
use Rattle.scsi_cdb.specs.declared.profile.Profile.{Profile}
use Rattle.frames.specs.declared.fault.FrameFault.{FrameFault}
use Rattle.frames.specs.declared.fault.FrameFault.TheVariants.{BadFrame, TooLong}
use Rattle.byteorder.specs.Endian.{big_number}
use Rattle.byteorder.specs.Numbers.{big_from-append}
use Rattle.scsi_nexus.specs.declared.nexus.Nexus.{Nexus}
use Rattle.frames.specs.Frames.{FrameValue, Login, Logout, ParsedFrameValue, Partial, Complete, Invalid, named_login, parsed_login, whole_command, sized_command, parsed_command, parsed_reset, parsed_body, parsed_sized, parsed_frame}
use Rattle.frames.specs.Stream.{Stop, Waiting, Broken, Reads, partial, faulty, frame, Feeds}

-- from frames read so far and the rest to all
pub all_read : (pr : Profile) (l l' : Bool) (b rest : List ℕ) (front : List FrameValue) (stop : Stop)
    → ((others : List FrameValue) (s : Stop) → Reads pr l' rest others s → Reads pr l b (front ++ others) s) → Reads pr l' rest [] stop → Reads pr l b front stop
all_read pr l l' b rest front stop so_far here =
    subst (λ (fs : List FrameValue). Reads pr l b fs stop) (append-nil front) (so_far [] stop here)

-- one frame more
pub one_more : (pr : Profile) (l l' : Bool) (b rest : List ℕ) (front front' : List FrameValue) (x : FrameValue) (n : ℕ)
    → ((others : List FrameValue) (s : Stop) → Reads pr l' rest others s → Reads pr l b (front ++ others) s)
    → parsed_frame pr l' rest ≡ Complete x n → front' ≡ front ++ x ∷ []
    → (others : List FrameValue) (s : Stop) → Reads pr true (drop n rest) others s → Reads pr l b (front' ++ others) s
one_more pr l l' b rest front front' x n so_far e grown others s more =
    rw grown (rw append_assoc (so_far (x ∷ others) s (frame l' rest x n others s e more)))

-- ---- one reading

at_partial : (pr : Profile) (l : Bool) (b : List ℕ) (gs : List FrameValue) (t : Stop) → Reads pr l b gs t → parsed_frame pr l b ≡ Partial → (gs ≡ []) × (t ≡ Waiting l b)
at_partial pr _ _ _ _ (partial l b e) d = (refl, refl)
at_partial pr _ _ _ _ (faulty l b f e) d = absurd cc
at_partial pr _ _ _ _ (frame l b s n others stop e more) d = absurd cc

at_faulty : (pr : Profile) (l : Bool) (b : List ℕ) (gs : List FrameValue) (t : Stop) (f : FrameFault) → Reads pr l b gs t → parsed_frame pr l b ≡ Invalid f → (gs ≡ []) × (t ≡ Broken f)
at_faulty pr _ _ _ _ f (partial l b e) d = absurd cc
at_faulty pr _ _ _ _ f (faulty l b g e) d = (refl, cc)
at_faulty pr _ _ _ _ f (frame l b s n others stop e more) d = absurd cc

same_whole : (x y : FrameValue) (n m : ℕ) → Complete x n ≡ Complete y m → (x ≡ y) × (n ≡ m)
same_whole x y n m e = (cc, cc)

at_whole : (pr : Profile) (l : Bool) (b : List ℕ) (gs : List FrameValue) (t : Stop) (s : FrameValue) (n : ℕ) → Reads pr l b gs t → parsed_frame pr l b ≡ Complete s n
    → (others : List FrameValue) × (gs ≡ s ∷ others) × Reads pr true (drop n b) others t
at_whole pr _ _ _ _ s n (partial l b e) d = absurd cc
at_whole pr _ _ _ _ s n (faulty l b g e) d = absurd cc
at_whole pr _ _ _ _ s n (frame l b x m others stop e more) d =
    let same = same_whole x s m n (sym e ∙ d) in
    (others, ap (λ (y : FrameValue). y ∷ others) same.0, rw (← same.1) more)

-- the frames of a stream are these and no others
pub one_reading : (pr : Profile) (l : Bool) (b : List ℕ) (fs : List FrameValue) (s : Stop) → Reads pr l b fs s → (gs : List FrameValue) (t : Stop) → Reads pr l b gs t → (fs ≡ gs) × (s ≡ t)
one_reading pr _ _ _ _ (partial l b e) gs t r = let h = at_partial pr l b gs t r e in (sym h.0, sym h.1)
one_reading pr _ _ _ _ (faulty l b f e) gs t r = let h = at_faulty pr l b gs t f r e in (sym h.0, sym h.1)
one_reading pr _ _ _ _ (frame l b s n others stop e more) gs t r =
    let h = at_whole pr l b gs t s n r e in
    let k = one_reading pr true (drop n b) others stop more h.0 t h.2 in
    (ap (λ (xs : List FrameValue). s ∷ xs) k.0 ∙ sym h.1, k.1)

-- ---- pieces: what more than a part of a frame shows stays, whatever follows

-- two ways through the same tests
chosen : (a b c d : Bool) (w x y z : ParsedFrameValue) → ParsedFrameValue
chosen a b c d w x y z = cond a w (cond b x (cond c y (cond d z (Invalid BadFrame))))

chosen_stays : (a b c d : Bool) (w w' x x' y y' z : ParsedFrameValue) → ((w ≡ Partial → ⊥) → w' ≡ w) → ((x ≡ Partial → ⊥) → x' ≡ x) → ((y ≡ Partial → ⊥) → y' ≡ y)
    → (chosen a b c d w x y z ≡ Partial → ⊥) → chosen a b c d w' x' y' z ≡ chosen a b c d w x y z
unfolding chosen
chosen_stays true b c d w w' x x' y y' z h i j known = h known
chosen_stays false true c d w w' x x' y y' z h i j known = i known
chosen_stays false false true d w w' x x' y y' z h i j known = j known
chosen_stays false false false true w w' x x' y y' z h i j known = refl
chosen_stays false false false false w w' x x' y y' z h i j known = refl

login_stays : (fields more : List ℕ) → (parsed_login fields ≡ Partial → ⊥) → parsed_login (fields ++ more) ≡ parsed_login fields
login_stays fields more known =
    elim (cases_lt (length fields) 10) [
      | inl short ↦ (let here : ltb (length fields) 10 ≡ true = lt-ltb _ _ short in absurd (known (rw here refl)))
      | inr long ↦ (
          let here : ltb (length fields) 10 ≡ false = le-ltb _ _ long in
          let there : ltb (length (fields ++ more)) 10 ≡ false = le-ltb _ _ (omega (arith, length-append fields more)) in
          let eight : 8 ≤ length fields = omega arith in
          let two : 2 ≤ length (drop 8 fields) = omega (arith, length-drop 8 fields) in
          rw (here, there, big_from-append 8 fields more eight, drop-append-le 8 fields more eight, big_from-append 2 (drop 8 fields) more two) refl)
    ]

pub cut_stays : (at count : ℕ) (fields more : List ℕ) → at + count ≤ length fields → take count (drop at (fields ++ more)) ≡ take count (drop at fields)
cut_stays at count fields more within =
    let front : at ≤ length fields = omega arith in
    let rest : count ≤ length (drop at fields) = omega (arith, length-drop at fields) in
    rw (drop-append-le at fields more front, take-append-le count (drop at fields) more rest) refl

whole_stays : (size count : ℕ) (fields more : List ℕ) → 3 + count ≤ size → size ≤ length fields + 1
    → whole_command size count (fields ++ more) ≡ whole_command size count fields
whole_stays size count fields more least within =
    let first : 0 < length fields = omega arith in
    let cdb : 2 + count ≤ length fields = omega arith in
    let rest : 2 + count + (size - 3 - count) ≤ length fields = omega arith in
    rw (get_or-append fields more 0 0 first, cut_stays 2 count fields more cdb, cut_stays (2 + count) (size - 3 - count) fields more rest) refl

sized : (bad short : Bool) (size : ℕ) (s : FrameValue) → ParsedFrameValue
sized bad short size s = cond bad (Invalid BadFrame) (cond short Partial (Complete s (4 + size)))

sized_stays : (bad short short' : Bool) (size : ℕ) (s s' : FrameValue) → (bad ≡ false → short ≡ false → (short' ≡ false) × (s' ≡ s))
    → (sized bad short size s ≡ Partial → ⊥) → sized bad short' size s' ≡ sized bad short size s
unfolding sized
sized_stays true short short' size s s' h known = refl
sized_stays false true short' size s s' h known = absurd (known refl)
sized_stays false false short' size s s' h known = let g = h refl refl in rw (g.0, g.1) refl

short_of : (size : ℕ) (fields : List ℕ) → Bool
short_of size fields = ltb (length fields) (size - 1)

bad_of : (size count : ℕ) → Bool
bad_of size count = (count == 0) || ltb 16 count || ltb size (3 + count)

neither : (a b : Bool) → (a || b) ≡ false → (a ≡ false) × (b ≡ false)
neither true b e = absurd cc
neither false b e = (refl, e)

good_size : (size count : ℕ) → bad_of size count ≡ false → 3 + count ≤ size
unfolding bad_of
good_size size count e = ltb-false _ _ (neither _ _ e).1

sized_command_stays : (size count : ℕ) (fields more : List ℕ) → (sized_command size count fields ≡ Partial → ⊥)
    → sized_command size count (fields ++ more) ≡ sized_command size count fields
unfolding sized bad_of short_of
sized_command_stays size count fields more known =
    sized_stays (bad_of size count) (short_of size fields) (short_of size (fields ++ more)) size _ _
    (λ good whole.
    let least : 3 + count ≤ size = good_size size count good in
    let long : size - 1 ≤ length fields = ltb-false _ _ whole in
    (le-ltb _ _ (omega (arith, long, length-append fields more)), whole_stays size count fields more least (omega (arith, long))))
    known

command_stays : (size : ℕ) (fields more : List ℕ) → (parsed_command size fields ≡ Partial → ⊥) → parsed_command size (fields ++ more) ≡ parsed_command size fields
command_stays size fields more known =
    elim (cases_lt (length fields) 2) [
      | inl short ↦ (let here : ltb (length fields) 2 ≡ true = lt-ltb _ _ short in absurd (known (rw here refl)))
      | inr long ↦ (
          let here : ltb (length fields) 2 ≡ false = le-ltb _ _ long in
          let there : ltb (length (fields ++ more)) 2 ≡ false = le-ltb _ _ (omega (arith, length-append fields more)) in
          let second : 1 < length fields = omega arith in
          let same : parsed_command size fields ≡ sized_command size (slice_index fields 1) fields = rw here refl in
          rw (there, here, get_or-append fields more 0 1 second)
          (sized_command_stays size (slice_index fields 1) fields more (λ e. known (same ∙ e))))
    ]

reset_stays : (fields more : List ℕ) → (parsed_reset fields ≡ Partial → ⊥) → parsed_reset (fields ++ more) ≡ parsed_reset fields
reset_stays [] more known = absurd (known refl)
reset_stays (lun ∷ fields) more known = refl

-- the tests of a body's kind and length
login_test : (l : Bool) (size kind : ℕ) → Bool
login_test l size kind = (kind == 0x01) && not l && (size == 11)

command_test : (l : Bool) (size kind : ℕ) → Bool
command_test l size kind = (kind == 0x02) && l && nat_le 4 size

reset_test : (l : Bool) (size kind : ℕ) → Bool
reset_test l size kind = (kind == 0x03) && l && (size == 2)

logout_test : (l : Bool) (size kind : ℕ) → Bool
logout_test l size kind = (kind == 0x04) && l && (size == 1)

body_stays : (l : Bool) (size : ℕ) (body more : List ℕ) → (parsed_body l size body ≡ Partial → ⊥) → parsed_body l size (body ++ more) ≡ parsed_body l size body
unfolding parsed_body chosen login_test command_test reset_test logout_test
body_stays l size [] more known = absurd (known refl)
body_stays l size (kind ∷ fields) more known =
    chosen_stays (login_test l size kind) (command_test l size kind) (reset_test l size kind) (logout_test l size kind) _ _ _ _ _ _ (Complete Logout 5) (login_stays fields more) (command_stays size fields more) (reset_stays fields more) known

-- the tests of the length
measured : (none long : Bool) → ParsedFrameValue → ParsedFrameValue
measured none long f = cond none (Invalid BadFrame) (cond long (Invalid TooLong) f)

measured_stays : (none long : Bool) (f f' : ParsedFrameValue) → ((f ≡ Partial → ⊥) → f' ≡ f) → (measured none long f ≡ Partial → ⊥) → measured none long f' ≡ measured none long f
unfolding measured
measured_stays true long f f' h known = refl
measured_stays false true f f' h known = refl
measured_stays false false f f' h known = h known

parsed_sized_stays : (pr : Profile) (l : Bool) (size : ℕ) (body more : List ℕ) → (parsed_sized pr l size body ≡ Partial → ⊥) → parsed_sized pr l size (body ++ more) ≡ parsed_sized pr l size body
unfolding measured
parsed_sized_stays pr l size body more known = measured_stays _ _ _ _ (body_stays l size body more) known

pub parsed_is : (pr : Profile) (l : Bool) (b : List ℕ) → 4 ≤ length b → parsed_frame pr l b ≡ parsed_sized pr l (big_number 4 b) (drop 4 b)
unfolding parsed_frame
parsed_is pr l b four = let here : ltb (length b) 4 ≡ false = le-ltb _ _ four in rw here refl

short_is : (pr : Profile) (l : Bool) (b : List ℕ) → length b < 4 → parsed_frame pr l b ≡ Partial
unfolding parsed_frame
short_is pr l b short = let here : ltb (length b) 4 ≡ true = lt-ltb _ _ short in rw here refl

complete_stays : (pr : Profile) (l : Bool) (b more : List ℕ) → 4 ≤ length b → (parsed_frame pr l b ≡ Partial → ⊥) → parsed_frame pr l (b ++ more) ≡ parsed_frame pr l b
complete_stays pr l b more four known =
    parsed_is pr l (b ++ more) (omega (arith, length-append b more))
    ∙ ap (λ (n : ℕ). parsed_sized pr l n (drop 4 (b ++ more))) (big_from-append 4 b more four)
    ∙ ap (λ (xs : List ℕ). parsed_sized pr l (big_number 4 b) xs) (drop-append-le 4 b more four)
    ∙ parsed_sized_stays pr l (big_number 4 b) (drop 4 b) more (λ e. known (parsed_is pr l b four ∙ e))
    ∙ sym (parsed_is pr l b four)

-- a front that is more than a part of a frame stays, whatever follows
pub stable : (pr : Profile) (l : Bool) (b more : List ℕ) (x : ParsedFrameValue) → parsed_frame pr l b ≡ x → (x ≡ Partial → ⊥) → parsed_frame pr l (b ++ more) ≡ x
stable pr l b more x e known =
    elim (cases_lt (length b) 4) [
      | inl short ↦ absurd (known (sym e ∙ short_is pr l b short))
      | inr four ↦ complete_stays pr l b more four (λ p. known (sym e ∙ p)) ∙ e
    ]

-- ---- a frame is some of the bytes

named_count : (ok : Bool) (nexus : Nexus) (s : FrameValue) (n : ℕ) → cond ok (Complete (Login nexus) 15) (Invalid BadFrame) ≡ Complete s n → n ≡ 15
named_count true nexus s n e = cc
named_count false nexus s n e = absurd cc

login_within : (fields : List ℕ) (s : FrameValue) (n : ℕ) → parsed_login fields ≡ Complete s n → n ≤ 5 + length fields
login_within fields s n e =
    elim (cases_lt (length fields) 10) [
      | inl short ↦ (
          let here : ltb (length fields) 10 ≡ true = lt-ltb _ _ short in
          let part : parsed_login fields ≡ Partial = rw here refl in
          let clash : Partial ≡ Complete s n = sym part ∙ e in
          absurd cc)
      | inr long ↦ (
          let here : ltb (length fields) 10 ≡ false = le-ltb _ _ long in
          let named : parsed_login fields ≡ named_login (record { sas = big_number 8 fields; port = big_number 2 (drop 8 fields) }) = rw here refl in
          let count = named_count _ _ s n (sym named ∙ e) in
          omega (arith, count))
    ]

sized_count : (bad short : Bool) (size : ℕ) (t s : FrameValue) (n : ℕ) → sized bad short size t ≡ Complete s n → (short ≡ false) × (n ≡ 4 + size)
unfolding sized
sized_count true short size t s n e = absurd cc
sized_count false true size t s n e = absurd cc
sized_count false false size t s n e = (refl, cc)

sized_within : (size count : ℕ) (fields : List ℕ) (s : FrameValue) (n : ℕ) → sized_command size count fields ≡ Complete s n → n ≤ 5 + length fields
unfolding sized bad_of short_of
sized_within size count fields s n e =
    let h = sized_count (bad_of size count) (short_of size fields) size _ s n e in
    let long : size - 1 ≤ length fields = ltb-false _ _ h.0 in
    omega (arith, long, h.1)

command_within : (size : ℕ) (fields : List ℕ) (s : FrameValue) (n : ℕ) → parsed_command size fields ≡ Complete s n → n ≤ 5 + length fields
command_within size fields s n e =
    elim (cases_lt (length fields) 2) [
      | inl short ↦ (
          let here : ltb (length fields) 2 ≡ true = lt-ltb _ _ short in
          let part : parsed_command size fields ≡ Partial = rw here refl in
          let clash : Partial ≡ Complete s n = sym part ∙ e in
          absurd cc)
      | inr long ↦ (
          let here : ltb (length fields) 2 ≡ false = le-ltb _ _ long in
          let same : parsed_command size fields ≡ sized_command size (slice_index fields 1) fields = rw here refl in
          sized_within size (slice_index fields 1) fields s n (sym same ∙ e))
    ]

reset_within : (fields : List ℕ) (s : FrameValue) (n : ℕ) → parsed_reset fields ≡ Complete s n → n ≤ 5 + length fields
reset_within [] s n e = absurd cc
reset_within (lun ∷ fields) s n e = let count : n ≡ 6 = cc in omega (arith, count)

chosen_within : (a b c d : Bool) (w x y z : ParsedFrameValue) (s : FrameValue) (n k : ℕ) → (w ≡ Complete s n → n ≤ k) → (x ≡ Complete s n → n ≤ k) → (y ≡ Complete s n → n ≤ k)
    → (z ≡ Complete s n → n ≤ k) → chosen a b c d w x y z ≡ Complete s n → n ≤ k
unfolding chosen
chosen_within true b c d w x y z s n k h i j m e = h e
chosen_within false true c d w x y z s n k h i j m e = i e
chosen_within false false true d w x y z s n k h i j m e = j e
chosen_within false false false true w x y z s n k h i j m e = m e
chosen_within false false false false w x y z s n k h i j m e = absurd cc

logout_within : (fields : List ℕ) (s : FrameValue) (n : ℕ) → Complete Logout 5 ≡ Complete s n → n ≤ 5 + length fields
logout_within fields s n e = let count : n ≡ 5 = cc in omega (arith, count)

body_within : (l : Bool) (size : ℕ) (body : List ℕ) (s : FrameValue) (n : ℕ) → parsed_body l size body ≡ Complete s n → n ≤ 4 + length body
unfolding parsed_body chosen login_test command_test reset_test logout_test
body_within l size [] s n e = absurd cc
body_within l size (kind ∷ fields) s n e =
    let bound : n ≤ 5 + length fields =
    chosen_within (login_test l size kind) (command_test l size kind) (reset_test l size kind) (logout_test l size kind) _ _ _ (Complete Logout 5) s n (5 + length fields) (login_within fields s n) (command_within size fields s n) (reset_within fields s n)
    (logout_within fields s n) e in
    let longer : length (kind ∷ fields) ≡ 1 + length fields = omega arith in
    omega (arith, bound, longer)

measured_within : (none long : Bool) (f : ParsedFrameValue) (s : FrameValue) (n k : ℕ) → (f ≡ Complete s n → n ≤ k) → measured none long f ≡ Complete s n → n ≤ k
unfolding measured
measured_within true long f s n k h e = absurd cc
measured_within false true f s n k h e = absurd cc
measured_within false false f s n k h e = h e

parsed_sized_within : (pr : Profile) (l : Bool) (size : ℕ) (body : List ℕ) (s : FrameValue) (n : ℕ) → parsed_sized pr l size body ≡ Complete s n → n ≤ 4 + length body
unfolding measured
parsed_sized_within pr l size body s n e = measured_within _ _ _ s n (4 + length body) (body_within l size body s n) e

pub frame_within : (pr : Profile) (l : Bool) (b : List ℕ) (s : FrameValue) (n : ℕ) → parsed_frame pr l b ≡ Complete s n → n ≤ length b
frame_within pr l b s n e =
    elim (cases_lt (length b) 4) [
      | inl short ↦ (let clash : Partial ≡ Complete s n = sym (short_is pr l b short) ∙ e in absurd cc)
      | inr four ↦ (
          let bound = parsed_sized_within pr l (big_number 4 b) (drop 4 b) s n (sym (parsed_is pr l b four) ∙ e) in
          omega (arith, bound, length-drop 4 b))
    ]

-- what was read of a front of a stream is read of the whole, and then the rest
joined : (pr : Profile) (l : Bool) (b : List ℕ) (fs : List FrameValue) (s : Stop) → Reads pr l b fs s → (more : List ℕ) (gs : List FrameValue) (t : Stop) → Feeds pr s more gs t → Reads pr l (b ++ more) (fs ++ gs) t
joined pr _ _ _ _ (partial l b e) more gs t r = r
joined pr _ _ _ _ (faulty l b f e) more gs t r = rw (r.0, r.1) (faulty l (b ++ more) f (stable pr l b more (Invalid f) e (λ h. absurd cc)))
joined pr _ _ _ _ (frame l b s n others stop e rest) more gs t r =
    let within : n ≤ length b = frame_within pr l b s n e in
    frame l (b ++ more) s n (others ++ gs) t (stable pr l b more (Complete s n) e (λ h. absurd cc))
    (rw (drop-append-le n b more within) (joined pr true (drop n b) others stop rest more gs t r))

-- two pieces are fed as one
pub pieces_join : (pr : Profile) (a : Stop) (p : List ℕ) (fs : List FrameValue) (s : Stop) (q : List ℕ) (gs : List FrameValue) (t : Stop) → Feeds pr a p fs s → Feeds pr s q gs t → Feeds pr a (p ++ q) (fs ++ gs) t
pieces_join pr (Waiting l rest) p fs s q gs t x y = rw (← append_assoc rest p q) (joined pr l (rest ++ p) fs s x q gs t y)
pieces_join pr (Broken f) p fs s q gs t x y =
    let z : Feeds pr (Broken f) q gs t = rw x.1 at y in
    (rw (x.0, z.0) refl, z.1)

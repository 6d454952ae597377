use Rattle.std.proofs.Common.{◌≡◌, ℕ, ◌+◌, ◌-◌, ◌<◌, ◌≤◌, zero, suc, List, [], ◌∷◌, ◌++◌, length, take, drop, get_or, set, refl, sym, ap, ◌∙◌, arith, append_assoc, length-append, length-drop, subst, min}
use Rattle.std.specs.Prelude.{slice_range}
use Rattle.std.proofs.lemmas.List.{append-nil, take-take, take-append-le, take-append-drop, length-take, length-take-le, take_all, drop-append-le, get_or-take, take_more_set, set-append_left}
use Rattle.std.proofs.Math.ListN.{get_or-append}
use Rattle.std.proofs.Math.Seq.{take-nil, take-append-add, drop-append-add, take-set-lt}
use Rattle.tape_medium.specs.Pieces.{PieceView, contents, begin, IsLaid, IsHome, behind, IsBegun, IsPut}

-- THE BYTES OF PIECES

pub contents-append : (ps qs : List PieceView) → contents (ps ++ qs) ≡ contents ps ++ contents qs
contents-append [] qs = refl
contents-append (p ∷ ps) qs = ap (λ (b : List ℕ). p.bytes ++ b) (contents-append ps qs) ∙ sym (append_assoc p.bytes (contents ps) (contents qs))

begin-cons : (p : PieceView) (ps : List PieceView) (i : ℕ) → begin (p ∷ ps) (suc i) ≡ length p.bytes + begin ps i
begin-cons p ps i = length-append p.bytes (contents (take i ps))

-- a piece ends within the bytes
begin-le : (ps : List PieceView) (i : ℕ) → begin ps i ≤ length (contents ps)
begin-le ps zero = omega arith
begin-le [] (suc i) = omega arith
begin-le (p ∷ ps) (suc i) = omega (arith, begin-cons p ps i, begin-le ps i, length-append p.bytes (contents ps))

-- bytes behind the first ones, and among these
range-behind : (xs ys : List ℕ) (s e : ℕ) → length xs ≤ s → slice_range (xs ++ ys) s e ≡ slice_range ys (s - length xs) (e - length xs)
range-behind xs ys s e le =
    let n : s ≡ length xs + (s - length xs) = omega arith in
    let cut : drop (length xs + (s - length xs)) (xs ++ ys) ≡ drop (s - length xs) ys = drop-append-add xs ys (s - length xs) in
    let here : drop s (xs ++ ys) ≡ drop (s - length xs) ys = rw (← n) at cut in
    let count : e - s ≡ e - length xs - (s - length xs) = omega arith in
    rw (here, count) refl

range-among : (xs ys : List ℕ) (s e : ℕ) → s ≤ e → e ≤ length xs → slice_range (xs ++ ys) s e ≡ slice_range xs s e
range-among xs ys s e order le =
    let cut : drop s (xs ++ ys) ≡ drop s xs ++ ys = drop-append-le s xs ys (omega arith) in
    rw cut (take-append-le (e - s) (drop s xs) ys (omega (arith, length-drop s xs)))

-- bytes that lie in a piece are its own
pub record IsPart (start : ℕ) (ps : List PieceView) (h s e : ℕ) (p : PieceView) : Type 0 where
  pub low : p.before ≤ s
  pub high : e ≤ p.before + length p.bytes
  pub same : slice_range (contents ps) (s - start) (e - start) ≡ slice_range p.bytes (s - p.before) (e - p.before)

pub part-of : (start : ℕ) (ps : List PieceView) (h s e : ℕ) (d : PieceView) → h < length ps → IsLaid start ps → start + begin ps h ≤ s → s ≤ e → e ≤ start + begin ps (suc h) → IsPart start ps h s e (get_or ps h d)
part-of start [] h s e d below laid from order to = absurd (omega arith)
part-of start (p ∷ ps) zero s e d below laid from order to =
    let size : begin (p ∷ ps) (suc zero) ≡ length p.bytes = omega (arith, begin-cons p ps zero) in
    let is : p.before ≡ start = laid.0 in
    let same : slice_range (p.bytes ++ contents ps) (s - start) (e - start) ≡ slice_range p.bytes (s - start) (e - start) = range-among p.bytes (contents ps) (s - start) (e - start) (omega arith) (omega arith) in
    record { low = omega arith; high = omega arith; same = rw is same }
part-of start (p ∷ ps) (suc h) s e d below laid from order to =
    let count : begin (p ∷ ps) (suc h) ≡ length p.bytes + begin ps h = begin-cons p ps h in
    let more : begin (p ∷ ps) (suc (suc h)) ≡ length p.bytes + begin ps (suc h) = begin-cons p ps (suc h) in
    let rest : IsPart (start + length p.bytes) ps h s e (get_or ps h d) = part-of (start + length p.bytes) ps h s e d (omega arith) laid.1 (omega arith) order (omega arith) in
    let first : slice_range (p.bytes ++ contents ps) (s - start) (e - start) ≡ slice_range (contents ps) (s - start - length p.bytes) (e - start - length p.bytes) = range-behind p.bytes (contents ps) (s - start) (e - start) (omega arith) in
    let low : s - start - length p.bytes ≡ s - (start + length p.bytes) = omega arith in
    let high : e - start - length p.bytes ≡ e - (start + length p.bytes) = omega arith in
    record { low = rest.low; high = rest.high; same = first ∙ rw (low, high) rest.same }

-- bytes lie in a piece that there is
below-end : (ps : List PieceView) (h : ℕ) → begin ps h < begin ps (suc h) → h < length ps
below-end [] zero less = absurd (omega arith)
below-end [] (suc h) less = absurd (omega arith)
below-end (p ∷ ps) zero less = omega arith
below-end (p ∷ ps) (suc h) less = omega (arith, below-end ps h (omega (arith, begin-cons p ps h, begin-cons p ps (suc h))))

pub home-below : (ps : List PieceView) (h s e : ℕ) → IsHome ps h s e → s < e → h < length ps
home-below ps h s e home some = below-end ps h (omega (arith, home.from, home.to))

pub home-within : (items ps : List PieceView) (used h s e : ℕ) → take used items ≡ ps → IsHome ps h s e → s < e → h < length items
home-within items ps used h s e is home some =
    let below : h < length ps = home-below ps h s e home some in
    omega (arith, length-take used items, ap length is)

pub lent-part : (items ps : List PieceView) (used h s e : ℕ) (p : PieceView) → take used items ≡ ps → IsLaid 0 (take used items) → IsHome ps h s e → s < e → p ≡ get_or items h p → IsPart 0 ps h s e p
lent-part items ps used h s e p is laid home some there =
    let below : h < length ps = home-below ps h s e home some in
    let same : get_or ps h p ≡ p = rw (← is) (get_or-take used items h p (omega (arith, length-take used items, ap length is)) ∙ sym there) in
    rw same at (part-of 0 ps h s e p below (rw is at laid) (omega (arith, home.from)) (omega arith) (omega (arith, home.to)))

pub lent-bytes : (ps : List PieceView) (h s e : ℕ) (p : PieceView) → IsPart 0 ps h s e p → slice_range (contents ps) s e ≡ slice_range p.bytes (s - p.before) (e - p.before)
lent-bytes ps h s e p so =
    let low : s - 0 ≡ s = omega arith in
    let high : e - 0 ≡ e = omega arith in
    rw (low, high) at so.same

-- A PIECE THAT BEGINS

begun-is : (p q r : PieceView) (b : ℕ) (more : List ℕ) → q ≡ record { before = b; bytes = []; room = p.room } → r ≡ behind q b more → r ≡ record { before = b; bytes = more; room = p.room }
begun-is p q r b more emptied put =
    let none : take (b - b) [] ≡ [] = take-nil (b - b) in
    put ∙ ap (λ (x : PieceView). behind x b more) emptied ∙ ap (λ (front : List ℕ). record { before = b; bytes = front ++ more; room = p.room }) none

pub begun-there : (items : List PieceView) (at b : ℕ) (more : List ℕ) (p q r : PieceView) → at < length items → q ≡ record { before = b; bytes = []; room = p.room } → r ≡ behind q b more
    → IsBegun at b more items (set items at r)
begun-there items at b more p q r below emptied put =
    (p.room, take_more_set items at r below ∙ ap (λ (x : PieceView). take at items ++ x ∷ []) (begun-is p q r b more emptied put))

-- THE PIECES UP TO A PLACE

pub cut : ℕ → ℕ → List PieceView → List PieceView
cut h end [] = []
cut zero end (p ∷ ps) = behind p end [] ∷ []
cut (suc h) end (p ∷ ps) = p ∷ cut h end ps

begin-nil : (n : ℕ) → begin [] n ≡ 0
begin-nil zero = refl
begin-nil (suc n) = refl

-- they have no more bytes than up to there
begin-cut : (s h end n : ℕ) (ps : List PieceView) → IsLaid s ps → s + begin ps h ≤ end → end ≤ s + begin ps (suc h) → begin (cut h end ps) n ≡ min (end - s) (begin ps n)
unfolding cut
begin-cut s h end n [] laid from to = omega (arith, begin-nil n)
begin-cut s zero end zero (p ∷ ps) laid from to = omega arith
begin-cut s zero end (suc n) (p ∷ ps) laid from to =
    let q : PieceView = behind p end [] in
    let size : length (take (end - p.before) p.bytes ++ []) ≡ length (take (end - p.before) p.bytes) = ap length (append-nil (take (end - p.before) p.bytes)) in
    omega (arith, begin-cons q [] n, begin-nil n, begin-cons p ps n, begin-cons p ps zero, length-take (end - p.before) p.bytes, laid.0)
begin-cut s (suc h) end zero (p ∷ ps) laid from to = omega arith
begin-cut s (suc h) end (suc n) (p ∷ ps) laid from to =
    let rest : begin (cut h end ps) n ≡ min (end - (s + length p.bytes)) (begin ps n) = begin-cut (s + length p.bytes) h end n ps laid.1 (omega (arith, begin-cons p ps h)) (omega (arith, begin-cons p ps (suc h))) in
    omega (arith, begin-cons p (cut h end ps) n, begin-cons p ps n, begin-cons p ps h)

contents-cut : (s h end : ℕ) (ps : List PieceView) → IsLaid s ps → s + begin ps h ≤ end → end ≤ s + begin ps (suc h) → contents (cut h end ps) ≡ take (end - s) (contents ps)
unfolding cut
contents-cut s h end [] laid from to = sym (take-nil (end - s))
contents-cut s zero end (p ∷ ps) laid from to =
    let is : p.before ≡ s = laid.0 in
    let front : take (end - s) (p.bytes ++ contents ps) ≡ take (end - s) p.bytes = take-append-le (end - s) p.bytes (contents ps) (omega (arith, begin-cons p ps zero)) in
    append-nil (take (end - p.before) p.bytes ++ []) ∙ append-nil (take (end - p.before) p.bytes) ∙ rw is (sym front)
contents-cut s (suc h) end (p ∷ ps) laid from to =
    let le : length p.bytes ≤ end - s = omega (arith, begin-cons p ps h) in
    let n : length p.bytes + (end - (s + length p.bytes)) ≡ end - s = omega arith in
    let rest : contents (cut h end ps) ≡ take (end - (s + length p.bytes)) (contents ps) = contents-cut (s + length p.bytes) h end ps laid.1 (omega (arith, begin-cons p ps h)) (omega (arith, begin-cons p ps (suc h))) in
    ap (λ (b : List ℕ). p.bytes ++ b) rest ∙ rw n at (sym (take-append-add p.bytes (contents ps) (end - (s + length p.bytes))))

IsLaid-cut : (s h end : ℕ) (ps : List PieceView) → IsLaid s ps → IsLaid s (cut h end ps)
unfolding cut
IsLaid-cut s h end [] laid = tt
IsLaid-cut s zero end (p ∷ ps) laid = (laid.0, tt)
IsLaid-cut s (suc h) end (p ∷ ps) laid = (laid.0, IsLaid-cut (s + length p.bytes) h end ps laid.1)

length-cut : (h end : ℕ) (ps : List PieceView) → h ≤ length ps → h ≤ length (cut h end ps)
unfolding cut
length-cut zero end ps le = omega arith
length-cut (suc h) end [] le = absurd (omega arith)
length-cut (suc h) end (p ∷ ps) le = omega (arith, length-cut h end ps (omega arith))

cut-is : (h end : ℕ) (ps : List PieceView) (d : PieceView) → h < length ps → cut h end ps ≡ take h ps ++ behind (get_or ps h d) end [] ∷ []
unfolding cut
cut-is zero end [] d below = absurd (omega arith)
cut-is zero end (p ∷ ps) d below = refl
cut-is (suc h) end [] d below = absurd (omega arith)
cut-is (suc h) end (p ∷ ps) d below = ap (λ (qs : List PieceView). p ∷ qs) (cut-is h end ps d (omega arith))

cut-past : (h end : ℕ) (ps : List PieceView) → length ps ≤ h → cut h end ps ≡ ps
unfolding cut
cut-past h end [] le = refl
cut-past zero end (p ∷ ps) le = absurd (omega arith)
cut-past (suc h) end (p ∷ ps) le = ap (λ (qs : List PieceView). p ∷ qs) (cut-past h end ps (omega arith))

IsLaid-push : (s : ℕ) (ps : List PieceView) (p : PieceView) → IsLaid s ps → p.before ≡ s + length (contents ps) → IsLaid s (ps ++ p ∷ [])
IsLaid-push s [] p laid is = (omega arith, tt)
IsLaid-push s (q ∷ ps) p laid is = (laid.0, IsLaid-push (s + length q.bytes) ps p laid.1 (omega (arith, length-append q.bytes (contents ps))))

-- more pieces behind them
begin-append : (ps qs : List PieceView) (n : ℕ) → begin ps n ≤ begin (ps ++ qs) n
begin-append [] qs zero = omega arith
begin-append [] qs (suc n) = omega arith
begin-append (p ∷ ps) qs zero = omega arith
begin-append (p ∷ ps) qs (suc n) = omega (arith, begin-cons p ps n, begin-cons p (ps ++ qs) n, begin-append ps qs n)

begin-front : (ps qs : List PieceView) (n : ℕ) → n ≤ length ps → begin (ps ++ qs) n ≡ begin ps n
begin-front ps qs n le = ap (λ (xs : List PieceView). length (contents xs)) (take-append-le n ps qs le)

begin-all : (ps : List PieceView) (n : ℕ) → length ps ≤ n → begin ps n ≡ length (contents ps)
begin-all ps n le = ap (λ (xs : List PieceView). length (contents xs)) (take_all n ps le)

-- a longer last piece
begin-longer : (ps : List PieceView) (p q : PieceView) (n : ℕ) → length p.bytes ≤ length q.bytes → begin (ps ++ p ∷ []) n ≤ begin (ps ++ q ∷ []) n
begin-longer [] p q zero le = omega arith
begin-longer [] p q (suc n) le = omega (arith, begin-cons p [] n, begin-cons q [] n)
begin-longer (x ∷ ps) p q zero le = omega arith
begin-longer (x ∷ ps) p q (suc n) le = omega (arith, begin-cons x (ps ++ p ∷ []) n, begin-cons x (ps ++ q ∷ []) n, begin-longer ps p q n le)

record IsCut (ps qs : List PieceView) (h end : ℕ) : Type 0 where
  laid : IsLaid 0 qs
  bytes : contents qs ≡ take end (contents ps)
  long : length (contents qs) ≡ end
  within : h ≤ length qs
  homes : (j s e : ℕ) → j ≤ h → e ≤ end → IsHome ps j s e → IsHome qs j s e

is-cut : (ps : List PieceView) (h end : ℕ) → IsLaid 0 ps → IsHome ps h end end → IsCut ps (cut h end ps) h end
is-cut ps h end laid home =
    let same : end - 0 ≡ end = omega arith in
    let bytes : contents (cut h end ps) ≡ take end (contents ps) = rw same at (contents-cut 0 h end ps laid (omega (arith, home.from)) (omega (arith, home.to))) in
    let begins = λ (n : ℕ). begin-cut 0 h end n ps laid (omega (arith, home.from)) (omega (arith, home.to)) in
    record {
      laid = IsLaid-cut 0 h end ps laid;
      bytes = bytes;
      long = ap length bytes ∙ length-take-le end (contents ps) (omega (arith, home.to, begin-le ps (suc h)));
      within = length-cut h end ps home.within;
      homes = λ j s e le short there.
          record {
            within = omega (arith, length-cut h end ps home.within);
            from = omega (arith, begins j, there.from);
            to = omega (arith, begins (suc j), there.to);
          };
    }

-- BYTES ARE PUT BEHIND THEM

-- into a piece of their own
pub put-next : (ps : List PieceView) (h end room : ℕ) (more : List ℕ) → IsLaid 0 ps → IsHome ps h end end
    → IsLaid 0 (cut h end ps ++ record { before = end; bytes = more; room = room } ∷ [])
    × IsPut ps (cut h end ps ++ record { before = end; bytes = more; room = room } ∷ []) h end (length (cut h end ps)) more
put-next ps h end room more laid home =
    let qs : List PieceView = cut h end ps in
    let p : PieceView = record { before = end; bytes = more; room = room } in
    let so : IsCut ps qs h end = is-cut ps h end laid home in
    let all : contents (qs ++ p ∷ []) ≡ take end (contents ps) ++ more = contents-append qs (p ∷ []) ∙ ap (λ (b : List ℕ). b ++ (more ++ [])) so.bytes ∙ ap (λ (b : List ℕ). take end (contents ps) ++ b) (append-nil more) in
    let front : begin (qs ++ p ∷ []) (length qs) ≡ begin qs (length qs) = begin-front qs (p ∷ []) (length qs) (omega arith) in
    let before : begin qs (length qs) ≡ length (contents qs) = begin-all qs (length qs) (omega arith) in
    let count : length (qs ++ p ∷ []) ≡ length qs + 1 = length-append qs (p ∷ []) in
    let total : begin (qs ++ p ∷ []) (suc (length qs)) ≡ length (contents (qs ++ p ∷ [])) = begin-all (qs ++ p ∷ []) (suc (length qs)) (omega arith) in
    let size : length (contents (qs ++ p ∷ [])) ≡ end + length more = omega (arith, ap length all, length-append (take end (contents ps)) more, so.long, ap length so.bytes) in (
      IsLaid-push 0 qs p so.laid (omega (arith, so.long)),
      record {
        bytes = all;
        put = record { within = omega arith; from = omega (arith, so.long); to = omega arith };
        order = so.within;
        stay = λ j s e le short there.
            let kept : IsHome qs j s e = so.homes j s e le short there in
            record {
              within = omega (arith, kept.within);
              from = omega (arith, kept.from, begin-front qs (p ∷ []) j kept.within);
              to = omega (arith, kept.to, begin-append qs (p ∷ []) (suc j));
            };
      },
    )

-- into the last piece
IsLaid-last : (s : ℕ) (ps : List PieceView) (p q : PieceView) → p.before ≡ q.before → IsLaid s (ps ++ p ∷ []) → IsLaid s (ps ++ q ∷ [])
IsLaid-last s [] p q same laid = (sym same ∙ laid.0, tt)
IsLaid-last s (x ∷ ps) p q same laid = (laid.0, IsLaid-last (s + length x.bytes) ps p q same laid.1)

contents-behind : (ps : List PieceView) (p : PieceView) (end : ℕ) (more : List ℕ) → contents (ps ++ behind p end more ∷ []) ≡ contents (ps ++ behind p end [] ∷ []) ++ more
contents-behind ps p end more =
    let front : List ℕ = take (end - p.before) p.bytes in
    let left : contents (ps ++ behind p end more ∷ []) ≡ contents ps ++ (front ++ more) = contents-append ps (behind p end more ∷ []) ∙ ap (λ (b : List ℕ). contents ps ++ b) (append-nil (front ++ more)) in
    let right : contents (ps ++ behind p end [] ∷ []) ≡ contents ps ++ front = contents-append ps (behind p end [] ∷ []) ∙ ap (λ (b : List ℕ). contents ps ++ b) (append-nil (front ++ []) ∙ append-nil front) in
    left ∙ sym (append_assoc (contents ps) front more) ∙ ap (λ (b : List ℕ). b ++ more) (sym right)

pub put-last : (ps : List PieceView) (h end : ℕ) (d : PieceView) (more : List ℕ) → IsLaid 0 ps → IsHome ps h end end → h < length ps
    → IsLaid 0 (take h ps ++ behind (get_or ps h d) end more ∷ []) × IsPut ps (take h ps ++ behind (get_or ps h d) end more ∷ []) h end h more
put-last ps h end d more laid home below =
    let qs : List PieceView = take h ps in
    let p : PieceView = get_or ps h d in
    let a : PieceView = behind p end [] in
    let b : PieceView = behind p end more in
    let so : IsCut ps (qs ++ a ∷ []) h end = rw (cut-is h end ps d below) at (is-cut ps h end laid home) in
    let count : length qs ≡ h = length-take-le h ps (omega arith) in
    let counta : length (qs ++ a ∷ []) ≡ length qs + 1 = length-append qs (a ∷ []) in
    let countb : length (qs ++ b ∷ []) ≡ length qs + 1 = length-append qs (b ∷ []) in
    let longer : length a.bytes ≤ length b.bytes = omega (arith, length-append (take (end - p.before) p.bytes) more, length-append (take (end - p.before) p.bytes) []) in
    let all : contents (qs ++ b ∷ []) ≡ contents (qs ++ a ∷ []) ++ more = contents-behind qs p end more in
    let size : length (contents (qs ++ b ∷ [])) ≡ end + length more = omega (arith, ap length all, length-append (contents (qs ++ a ∷ [])) more, so.long) in
    let total : begin (qs ++ b ∷ []) (suc h) ≡ length (contents (qs ++ b ∷ [])) = begin-all (qs ++ b ∷ []) (suc h) (omega arith) in
    let here : IsHome (qs ++ a ∷ []) h end end = so.homes h end end (omega arith) (omega arith) home in (
      IsLaid-last 0 qs a b refl so.laid,
      record {
        bytes = all ∙ ap (λ (bytes : List ℕ). bytes ++ more) so.bytes;
        put =
            record {
              within = omega arith;
              from = omega (arith, here.from, begin-front qs (a ∷ []) h (omega arith), begin-front qs (b ∷ []) h (omega arith));
              to = omega arith;
            };
        order = omega arith;
        stay = λ j s e le short there.
            let kept : IsHome (qs ++ a ∷ []) j s e = so.homes j s e le short there in
            record {
              within = omega (arith, kept.within);
              from = omega (arith, kept.from, begin-front qs (a ∷ []) j (omega arith), begin-front qs (b ∷ []) j (omega arith));
              to = omega (arith, kept.to, begin-longer qs a b (suc j) longer);
            };
      },
    )

-- THE FIRST PIECES

contents-split : (n : ℕ) (ps : List PieceView) → contents ps ≡ contents (take n ps) ++ contents (drop n ps)
contents-split n ps = ap contents (sym (take-append-drop n ps)) ∙ contents-append (take n ps) (drop n ps)

pub front-agrees : (ps : List PieceView) (h n : ℕ) → n ≤ begin ps (suc h) → take n (contents (take (suc h) ps)) ≡ take n (contents ps)
front-agrees ps h n le =
    sym (ap (take n) (contents-split (suc h) ps) ∙ take-append-le n (contents (take (suc h) ps)) (contents (drop (suc h) ps)) le)

pub front-homes : (ps : List PieceView) (h j s e : ℕ) → j ≤ h → IsHome ps j s e → IsHome (take (suc h) ps) j s e
front-homes ps h j s e le there =
    let low : take j (take (suc h) ps) ≡ take j ps = take-take j (suc h) ps (omega arith) in
    let high : take (suc j) (take (suc h) ps) ≡ take (suc j) ps = take-take (suc j) (suc h) ps (omega arith) in
    record {
      within = omega (arith, there.within, length-take (suc h) ps);
      from = omega (arith, there.from, ap (λ (xs : List PieceView). length (contents xs)) low);
      to = omega (arith, there.to, ap (λ (xs : List PieceView). length (contents xs)) high);
    }

pub IsLaid-take : (s n : ℕ) (ps : List PieceView) → IsLaid s ps → IsLaid s (take n ps)
IsLaid-take s zero ps laid = tt
IsLaid-take s (suc n) [] laid = tt
IsLaid-take s (suc n) (p ∷ ps) laid = (laid.0, IsLaid-take (s + length p.bytes) n ps laid.1)

-- THE PIECES THAT ARE USED, OF ALL THERE ARE

none : PieceView
none = record { before = 0; bytes = []; room = 0 }

front-of : (items ps : List PieceView) (used h : ℕ) → take used items ≡ ps → h ≤ used → take h items ≡ take h ps
front-of items ps used h is le = sym (take-take h used items le) ∙ ap (take h) is

piece-of : (items ps : List PieceView) (used h : ℕ) (d : PieceView) → take used items ≡ ps → h < used → get_or items h d ≡ get_or ps h d
piece-of items ps used h d is less = sym (get_or-take used items h d less) ∙ ap (λ (xs : List PieceView). get_or xs h d) is

pub put-into-last : (items items' ps : List PieceView) (used h end : ℕ) (more : List ℕ) → take used items ≡ ps → IsLaid 0 (take used items) → h < used → used ≤ length items
    → ((d : PieceView) → items' ≡ set items h (behind (get_or items h d) end more)) → IsHome ps h end end
    → IsLaid 0 (take (h + 1) items') × IsPut ps (take (h + 1) items') h end h more
put-into-last items items' ps used h end more is laid less fits put home =
    let b : PieceView = behind (get_or ps h none) end more in
    let count : length ps ≡ used = omega (arith, ap length is, length-take used items) in
    let same : get_or items h none ≡ get_or ps h none = piece-of items ps used h none is less in
    let front : take h items ≡ take h ps = front-of items ps used h is (omega arith) in
    let written : items' ≡ set items h b = put none ∙ ap (λ (p : PieceView). set items h (behind p end more)) same in
    let taken : take (h + 1) items' ≡ take h ps ++ b ∷ [] = ap (take (h + 1)) written ∙ take_more_set items h b (omega arith) ∙ ap (λ (xs : List PieceView). xs ++ b ∷ []) front in
    let so = put-last ps h end none more (rw is at laid) home (omega arith) in
    (subst (IsLaid 0) (sym taken) so.0, subst (λ (qs : List PieceView). IsPut ps qs h end h more) (sym taken) so.1)

pub put-into-new : (items items' ps : List PieceView) (used h end : ℕ) (more : List ℕ) → take used items ≡ ps → IsLaid 0 (take used items) → used ≤ h → used ≤ length items
    → IsBegun h end more items items' → IsHome ps h end end
    → IsLaid 0 (take (h + 1) items') × IsPut ps (take (h + 1) items') h end h more
put-into-new items items' ps used h end more is laid last fits begun home =
    let fresh : PieceView = record { before = end; bytes = more; room = begun.0 } in
    let count : length ps ≡ used = omega (arith, ap length is, length-take used items) in
    let here : h ≡ used = omega (arith, home.within) in
    let all : cut h end ps ≡ ps = cut-past h end ps (omega arith) in
    let taken : take (h + 1) items' ≡ cut h end ps ++ fresh ∷ [] = begun.1 ∙ ap (λ (xs : List PieceView). xs ++ fresh ∷ []) (ap (λ (n : ℕ). take n items) here ∙ is ∙ sym all) in
    let long : length (cut h end ps) ≡ h = omega (arith, ap length all) in
    let so = put-next ps h end begun.0 more (rw is at laid) home in (
      subst (IsLaid 0) (sym taken) so.0,
      subst (λ (n : ℕ). IsPut ps (take (h + 1) items') h end n more) long (subst (λ (qs : List PieceView). IsPut ps qs h end (length (cut h end ps)) more) (sym taken) so.1),
    )

pub put-into-next : (items xs items' ps : List PieceView) (used h end : ℕ) (more : List ℕ) → take used items ≡ ps → IsLaid 0 (take used items) → h < used → used ≤ length items
    → IsBegun (h + 1) end more items xs → ((d : PieceView) → items' ≡ set xs h (behind (get_or xs h d) end [])) → IsHome ps h end end
    → IsLaid 0 (take (h + 2) items') × IsPut ps (take (h + 2) items') h end (h + 1) more
put-into-next items xs items' ps used h end more is laid less fits begun put home =
    let fresh : PieceView = record { before = end; bytes = more; room = begun.0 } in
    let a : PieceView = behind (get_or ps h none) end [] in
    let count : length ps ≡ used = omega (arith, ap length is, length-take used items) in
    let two : h + 1 + 1 ≡ h + 2 = omega arith in
    let begins : take (h + 2) xs ≡ take (h + 1) items ++ fresh ∷ [] = rw two at begun.1 in
    let long : length (take (h + 1) items) ≡ h + 1 = length-take-le (h + 1) items (omega arith) in
    let same : get_or xs h none ≡ get_or ps h none =
    sym (get_or-take (h + 2) xs h none (omega arith)) ∙ ap (λ (ys : List PieceView). get_or ys h none) begins
    ∙ get_or-append (take (h + 1) items) (fresh ∷ []) none h (omega arith) ∙ get_or-take (h + 1) items h none (omega arith) ∙ piece-of items ps used h none is less in
    let written : items' ≡ set xs h a = put none ∙ ap (λ (p : PieceView). set xs h (behind p end [])) same in
    let front : set (take (h + 1) items) h a ≡ take h ps ++ a ∷ [] =
    sym (take-set-lt (h + 1) items h a (omega arith)) ∙ take_more_set items h a (omega arith) ∙ ap (λ (ys : List PieceView). ys ++ a ∷ []) (front-of items ps used h is (omega arith)) in
    let taken : take (h + 2) items' ≡ cut h end ps ++ fresh ∷ [] =
    ap (take (h + 2)) written ∙ take-set-lt (h + 2) xs h a (omega arith) ∙ ap (λ (ys : List PieceView). set ys h a) begins
    ∙ set-append_left (take (h + 1) items) (fresh ∷ []) h a (omega arith) ∙ ap (λ (ys : List PieceView). ys ++ fresh ∷ []) (front ∙ sym (cut-is h end ps none (omega arith))) in
    let count' : length (cut h end ps) ≡ h + 1 = omega (arith, ap length (cut-is h end ps none (omega arith)), length-append (take h ps) (a ∷ []), length-take h ps) in
    let so = put-next ps h end begun.0 more (rw is at laid) home in (
      subst (IsLaid 0) (sym taken) so.0,
      subst (λ (n : ℕ). IsPut ps (take (h + 2) items') h end n more) count' (subst (λ (qs : List PieceView). IsPut ps qs h end (length (cut h end ps)) more) (sym taken) so.1),
    )

pub laid-first : (items xs : List PieceView) (used n : ℕ) → IsLaid 0 (take used items) → n ≤ used → xs ≡ take n items → IsLaid 0 (take n xs)
laid-first items xs used n laid le is =
    let first : IsLaid 0 (take n (take used items)) = IsLaid-take 0 n (take used items) laid in
    subst (λ (ys : List PieceView). IsLaid 0 (take n ys)) (sym is) (subst (IsLaid 0) (take-take n used items le ∙ sym (take-take n n items (omega arith))) first)

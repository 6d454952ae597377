-- What a stream begins with: what was written, and nothing else where more follows.
use Rattle.std.proofs.Common.{◌≡◌, ℕ, ◌+◌, ◌-◌, ◌*◌, ◌≤◌, ◌<◌, ltb, true, false, subst, inl, inr, List, [], ◌∷◌, ◌++◌, length, take, drop, refl, sym, ap, ◌∙◌, append_assoc, length-append, length-drop, arith}
use Rattle.std.proofs.lemmas.Bool.{le-ltb, lt-ltb, cases_lt}
use Rattle.std.proofs.lemmas.List.{take_at, drop_at, drop-drop, take-append-le, drop-append-le, get_or-take, length-take-le}
use Rattle.byteorder.specs.Numbers.{big_from-take}
use Rattle.iscsi_pdu.specs.Fields.{byte, three}
use Rattle.iscsi_pdu.specs.Segments.{Found, Partial, Complete, SegmentsValue, IsKnown, padded, padding, sized, measured, segments}

-- the segments of a PDU
abbrev pub found : (header ahs payload : List ℕ) → (count : ℕ) → Found SegmentsValue
found h a p count = Complete (record { header = h; ahs = a; payload = p }) count

pub length_padding : (n : ℕ) → length (padding n) ≡ padded n - n
length_padding n = length-take-le (padded n - n) (0 ∷ 0 ∷ 0 ∷ []) (omega arith)

-- a header that is there tells the lengths
segments_is : (limit : ℕ) (b : List ℕ) → 48 ≤ length b → segments limit b ≡ measured limit (byte b 4) (three b 5) b
unfolding segments
segments_is limit b long = let here : ltb (length b) 48 ≡ false = le-ltb _ _ long in rw here refl

too_short : (limit : ℕ) (b : List ℕ) → length b < 48 → segments limit b ≡ Partial 48
unfolding segments
too_short limit b short = let here : ltb (length b) 48 ≡ true = lt-ltb _ _ short in rw here refl

-- which are those of its first 48 bytes
byte_of_header : (b h : List ℕ) → take 48 b ≡ h → byte b 4 ≡ byte h 4
byte_of_header b h e = sym (get_or-take 48 b 4 0 (omega arith)) ∙ ap (λ (xs : List ℕ). byte xs 4) e

three_of_header : (b h : List ℕ) → take 48 b ≡ h → three b 5 ≡ three h 5
three_of_header b h e = sym (big_from-take 5 3 48 b (omega arith)) ∙ ap (λ (xs : List ℕ). three xs 5) e

measured_is : (limit words count : ℕ) (b : List ℕ) → words ≤ 64 → count ≤ limit → measured limit words count b ≡ sized (4 * words) count b
measured_is limit words count b few fits =
    let a : ltb 64 words ≡ false = le-ltb _ _ few in
    let c : ltb limit count ≡ false = le-ltb _ _ fits in
    rw (a, c) refl

sized_is : (ahs count : ℕ) (b : List ℕ) → 48 + ahs + padded count ≤ length b
    → sized ahs count b ≡ found (take 48 b) (take ahs (drop 48 b)) (take count (drop (48 + ahs) b)) (48 + ahs + padded count)
sized_is ahs count b long = let here : ltb (length b) (48 + ahs + padded count) ≡ false = le-ltb _ _ long in rw here refl

-- the parts of what was written
first_part : (h more : List ℕ) → length h ≡ 48 → take 48 (h ++ more) ≡ h
first_part h more e = take_at h more 48 e

parts_of : (h ahs payload more : List ℕ) (k n : ℕ) → length h ≡ 48 → length ahs ≡ k → length payload ≡ n
    → found (take 48 (h ++ (ahs ++ (payload ++ more)))) (take k (drop 48 (h ++ (ahs ++ (payload ++ more))))) (take n (drop (48 + k) (h ++ (ahs ++ (payload ++ more))))) (48 + k + padded n)
    ≡ found h ahs payload (48 + k + padded n)
parts_of h ahs payload more k n eh ea ep =
    let b : List ℕ = h ++ (ahs ++ (payload ++ more)) in
    let one : take 48 (h ++ (ahs ++ (payload ++ more))) ≡ h = take_at h (ahs ++ (payload ++ more)) 48 eh in
    let behind : drop 48 (h ++ (ahs ++ (payload ++ more))) ≡ ahs ++ (payload ++ more) = drop_at h (ahs ++ (payload ++ more)) 48 eh in
    let two : take k (drop 48 (h ++ (ahs ++ (payload ++ more)))) ≡ ahs = ap (take k) behind ∙ take_at ahs (payload ++ more) k ea in
    let last : drop (48 + k) (h ++ (ahs ++ (payload ++ more))) ≡ payload ++ more =
    sym (drop-drop k 48 (h ++ (ahs ++ (payload ++ more)))) ∙ ap (drop k) behind ∙ drop_at ahs (payload ++ more) k ea in
    let three : take n (drop (48 + k) (h ++ (ahs ++ (payload ++ more)))) ≡ payload = ap (take n) last ∙ take_at payload more n ep in
    ap (λ (xs : List ℕ). found xs (take k (drop 48 (h ++ (ahs ++ (payload ++ more))))) (take n (drop (48 + k) (h ++ (ahs ++ (payload ++ more))))) (48 + k + padded n)) one
    ∙ ap (λ (xs : List ℕ). found h xs (take n (drop (48 + k) (h ++ (ahs ++ (payload ++ more))))) (48 + k + padded n)) two
    ∙ ap (λ (xs : List ℕ). found h ahs xs (48 + k + padded n)) three

grouped : (h ahs payload pad rest : List ℕ) → (h ++ ahs ++ payload ++ pad) ++ rest ≡ h ++ (ahs ++ (payload ++ (pad ++ rest)))
grouped h ahs payload pad rest = simp append_assoc

pub written : (limit : ℕ) (h ahs payload rest : List ℕ) → length h ≡ 48 → byte h 4 ≤ 64 → length ahs ≡ 4 * byte h 4 → three h 5 ≡ length payload → length payload ≤ limit
    → segments limit ((h ++ ahs ++ payload ++ padding (length payload)) ++ rest)
    ≡ found h ahs payload (length (h ++ ahs ++ payload ++ padding (length payload)))
written limit h ahs payload rest eh few ea ep fits =
    let n = length payload in
    let more : List ℕ = padding (length payload) ++ rest in
    let b : List ℕ = h ++ (ahs ++ (payload ++ (padding (length payload) ++ rest))) in
    let head : take 48 (h ++ (ahs ++ (payload ++ (padding (length payload) ++ rest)))) ≡ h = first_part h _ eh in
    let words = byte_of_header (h ++ (ahs ++ (payload ++ (padding (length payload) ++ rest)))) h head in
    let count = three_of_header (h ++ (ahs ++ (payload ++ (padding (length payload) ++ rest)))) h head ∙ ep in
    let pads = length_padding (length payload) in
    let size : length (h ++ (ahs ++ (payload ++ (padding (length payload) ++ rest)))) ≡ 48 + 4 * byte h 4 + padded (length payload) + length rest =
    length-append h _ ∙ ap (λ (k : ℕ). length h + k) (length-append ahs _ ∙ ap (λ (k : ℕ). length ahs + k) (length-append payload _ ∙ ap (λ (k : ℕ). length payload + k) (length-append (padding (length payload)) rest)))
    ∙ omega (arith, pads, eh, ea) in
    let whole : length (h ++ ahs ++ payload ++ padding (length payload)) ≡ 48 + 4 * byte h 4 + padded (length payload) =
    length-append (h ++ ahs ++ payload) (padding (length payload)) ∙ ap (λ (k : ℕ). k + length (padding (length payload))) (length-append (h ++ ahs) payload ∙ ap (λ (k : ℕ). k + length payload) (length-append h ahs))
    ∙ omega (arith, pads, eh, ea) in
    ap (segments limit) (grouped h ahs payload (padding (length payload)) rest)
    ∙ segments_is limit (h ++ (ahs ++ (payload ++ (padding (length payload) ++ rest)))) (omega (arith, size))
    ∙ ap (λ (k : ℕ). measured limit k (three (h ++ (ahs ++ (payload ++ (padding (length payload) ++ rest)))) 5) (h ++ (ahs ++ (payload ++ (padding (length payload) ++ rest))))) words
    ∙ ap (λ (k : ℕ). measured limit (byte h 4) k (h ++ (ahs ++ (payload ++ (padding (length payload) ++ rest))))) count
    ∙ measured_is limit (byte h 4) (length payload) _ few fits
    ∙ sized_is (4 * byte h 4) (length payload) _ (omega (arith, size))
    ∙ parts_of h ahs payload (padding (length payload) ++ rest) (4 * byte h 4) (length payload) eh ea refl
    ∙ ap (λ (k : ℕ). found h ahs payload k) (sym whole)

-- more bytes change nothing once a PDU or a fault is there
sized_stays : (ahs count : ℕ) (b more : List ℕ) → IsKnown (sized ahs count b) → sized ahs count (b ++ more) ≡ sized ahs count b
sized_stays ahs count b more known = elim (cases_lt (length b) (48 + ahs + padded count)) [
  | inl short ↦ (let here : ltb (length b) (48 + ahs + padded count) ≡ true = lt-ltb _ _ short in absurd (rw here at known))
  | inr long ↦ (
      let one = take-append-le 48 b more (omega arith) in
      let behind = drop-append-le 48 b more (omega arith) in
      let left : ahs ≤ length (drop 48 b) = omega (arith, length-drop 48 b) in
      let two = ap (take ahs) behind ∙ take-append-le ahs (drop 48 b) more left in
      let last = drop-append-le (48 + ahs) b more (omega arith) in
      let rest : count ≤ length (drop (48 + ahs) b) = omega (arith, length-drop (48 + ahs) b) in
      let three = ap (take count) last ∙ take-append-le count (drop (48 + ahs) b) more rest in
      sized_is ahs count (b ++ more) (omega (arith, length-append b more))
      ∙ ap (λ (xs : List ℕ). found xs (take ahs (drop 48 (b ++ more))) (take count (drop (48 + ahs) (b ++ more))) (48 + ahs + padded count)) one
      ∙ ap (λ (xs : List ℕ). found (take 48 b) xs (take count (drop (48 + ahs) (b ++ more))) (48 + ahs + padded count)) two
      ∙ ap (λ (xs : List ℕ). found (take 48 b) (take ahs (drop 48 b)) xs (48 + ahs + padded count)) three
      ∙ sym (sized_is ahs count b long))
]

measured_stays : (limit words count : ℕ) (b more : List ℕ) → IsKnown (measured limit words count b) → measured limit words count (b ++ more) ≡ measured limit words count b
measured_stays limit words count b more known = elim (cases_lt 64 words) [
  | inl many ↦ (let here : ltb 64 words ≡ true = lt-ltb _ _ many in rw here refl)
  | inr few ↦ elim (cases_lt limit count) [
    | inl long ↦ (let a : ltb 64 words ≡ false = le-ltb _ _ few in let here : ltb limit count ≡ true = lt-ltb _ _ long in rw (a, here) refl)
    | inr fits ↦ (
        let is = measured_is limit words count b few fits in
        measured_is limit words count (b ++ more) few fits ∙ sized_stays (4 * words) count b more (subst IsKnown is known) ∙ sym is)
  ]
]

pub segments_stay : (limit : ℕ) (b more : List ℕ) → IsKnown (segments limit b) → segments limit (b ++ more) ≡ segments limit b
segments_stay limit b more known = elim (cases_lt (length b) 48) [
  | inl short ↦ absurd (subst IsKnown (too_short limit b short) known)
  | inr long ↦ (
      let head : take 48 (b ++ more) ≡ take 48 b = take-append-le 48 b more long in
      let words = byte_of_header (b ++ more) (take 48 b) head ∙ sym (byte_of_header b (take 48 b) refl) in
      let count = three_of_header (b ++ more) (take 48 b) head ∙ sym (three_of_header b (take 48 b) refl) in
      segments_is limit (b ++ more) (omega (arith, length-append b more))
      ∙ ap (λ (k : ℕ). measured limit k (three (b ++ more) 5) (b ++ more)) words
      ∙ ap (λ (k : ℕ). measured limit (byte b 4) k (b ++ more)) count
      ∙ measured_stays limit (byte b 4) (three b 5) b more (subst IsKnown (segments_is limit b long) known)
      ∙ sym (segments_is limit b long))
]

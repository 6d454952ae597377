-- What sessions make of a seat, one after another.
use Rattle.std.proofs.Common.{◌≡◌, ◌<◌, ℕ, suc, List, [], ◌∷◌, ◌++◌, length, map, take, Option, Some, None, inl, inr, refl, sym, ap, subst, ◌∙◌, arith}
use Rattle.std.specs.Prelude.{slice_index_or}
use Rattle.std.specs.List.{AllZip}
use Rattle.std.specs.Fork.{ChangesAt, ChangesEach}
use Rattle.std.proofs.Math.Seq.{take-append_seam}
use denote.Ref.{MutBor}
use denote.Param.Members.{Shared}
use Rattle.scsi_nexus.specs.declared.nexus.Nexus.{Nexus}
use Rattle.logical_unit.specs.Answers.{DoneValue}
use Rattle.session.specs.Answering.{ComesByCalls}
use Rattle.session.specs.Leaving as frames
use Rattle.iscsi_session.specs.declared.register.NexusEnd.TheVariants.{Lost, GoesOn}
use Rattle.iscsi_session.specs.Leaving.{IsHeld, IsLostUnless}
use Rattle.iscsi_session.specs.Leaving as iscsi
use Rattle.server.specs.SeatService.{DoesForWorker, MaySettle}
use Rattle.server.specs.Sessions.{ComesBySessions, Leaves, Sessions, Whose}

-- what a session of iSCSI leaves
held_left : {S : Type 0} (notes : S → DoneValue → S → Type 0) (count : S → ℕ) (others : Nexus → Type 0) (port : ℕ) (s t : S) (held : IsHeld notes count others port s t)
    → IsLostUnless notes (others held.nexus) held.nexus (count held.before) held.before t held.all → Leaves notes count s t
held_left notes count others port s t held (inl lost) = (Some (held.nexus, Lost), record { before = held.before; all = held.all; calls = held.calls; lost = lost })
held_left {S} notes count others port s t held (inr goes_on) =
    (Some (held.nexus, GoesOn), subst (λ (x : S). ComesByCalls notes held.nexus s x) (sym goes_on.1) held.calls)

pub portal_left : {S : Type 0} (notes : S → DoneValue → S → Type 0) (count : S → ℕ) (others : Nexus → Type 0) (port : ℕ) (s t : S) → iscsi.Leaves notes count others port s t
    → Leaves notes count s t
portal_left notes count others port s t (inl same) = (None, same)
portal_left notes count others port s t (inr held) = held_left notes count others port s t held held.lost

-- what a session of frames leaves
whose_left : {S : Type 0} (notes : S → DoneValue → S → Type 0) (count : S → ℕ) (who : Option Nexus) (s t : S) → frames.ComesBySession notes count who s t → Leaves notes count s t
whose_left notes count None s t left = (None, left)
whose_left notes count (Some n) s t left = (Some (n, Lost), left)

pub socket_left : {S : Type 0} (notes : S → DoneValue → S → Type 0) (count : S → ℕ) (s t : S) → frames.Leaves notes count s t → Leaves notes count s t
socket_left notes count s t left = whose_left notes count left.0 s t left.1

pub nobody : {S : Type 0} (notes : S → DoneValue → S → Type 0) (count : S → ℕ) (s t : S) → t ≡ s → Leaves notes count s t
nobody notes count s t same = (None, same)

pub no_session : {S : Type 0} (notes : S → DoneValue → S → Type 0) (settles : List ℕ → S → S → Type 0) (count : S → ℕ) (s t : S) → t ≡ s → ComesBySessions notes settles count s t
no_session notes settles count s t same = ([], same)

sessions_then : {S : Type 0} (notes : S → DoneValue → S → Type 0) (settles : List ℕ → S → S → Type 0) (count : S → ℕ) (xs ys : List Whose) (s t u : S)
    → Sessions notes settles count xs s t → Sessions notes settles count ys t u → Sessions notes settles count (xs ++ ys) s u
sessions_then {S} notes settles count [] ys s t u one two = subst (λ (x : S). Sessions notes settles count ys x u) one two
sessions_then notes settles count (x ∷ xs) ys s t u one two = (one.0, one.1, one.2, one.3, sessions_then notes settles count xs ys one.1 t u one.4 two)

-- one session more
pub one_more : {S : Type 0} (notes : S → DoneValue → S → Type 0) (settles : List ℕ → S → S → Type 0) (count : S → ℕ) (s t m k : S) → ComesBySessions notes settles count s t
    → Leaves (DoesForWorker notes settles) count t m → MaySettle settles m k → ComesBySessions notes settles count s k
one_more notes settles count s t m k so here settled =
    (so.0 ++ here.0 ∷ [], sessions_then notes settles count so.0 (here.0 ∷ []) s t k so.1 (m, k, here.1, settled, refl))

-- ---- lists

-- what holds at each place
pub each_zip : {A : Type 0} (R : A → A → Type 0) (xs ys : List A) → length ys ≡ length xs → ((i : ℕ) (d : A) → i < length xs → R (slice_index_or xs i d) (slice_index_or ys i d)) → AllZip R xs ys
each_zip R [] [] size each = tt
each_zip R [] (y ∷ ys) size each = absurd (omega (arith, size))
each_zip R (x ∷ xs) [] size each = absurd (omega (arith, size))
each_zip R (x ∷ xs) (y ∷ ys) size each = (each 0 x (omega arith), each_zip R xs ys (omega (arith, size)) (λ i d here. each (suc i) d (omega (arith, here))))

pub take_at : {A : Type 0} (xs ys : List A) (n : ℕ) → length xs ≡ n → take n (xs ++ ys) ≡ xs
take_at {A} xs ys n size = subst (λ (k : ℕ). take k (xs ++ ys) ≡ xs) size (take-append_seam xs ys)

-- what holds of two lists' images holds of them
pub zip_map : {A B : Type 0} (R : B → B → Type 0) (f : A → B) (xs ys : List A) → AllZip (λ v w. R (f v) (f w)) xs ys → AllZip R (map f xs) (map f ys)
zip_map R f [] [] so = tt
zip_map R f [] (y ∷ ys) so = absurd so
zip_map R f (x ∷ xs) [] so = absurd so
zip_map R f (x ∷ xs) (y ∷ ys) so = (so.0, zip_map R f xs ys so.1)

-- ---- what workers give back

-- services that were given to workers had their sessions, and are back
pub served : {W S : Type 0} (R : S → S → Type 0) (service : W → S) (services : List S) (before after : List W) (none back : List S) → map service before ≡ services
    → AllZip (λ v w. R (service v) (service w)) before after → none ≡ [] → back ≡ none ++ map service after → AllZip R services back
served {W} {S} R service services before after none back held came empty given =
    let back_is : back ≡ map service after = given ∙ ap (λ (xs : List S). xs ++ map service after) empty in
    subst (λ (xs : List S). AllZip R services xs) (sym back_is) (subst (λ (xs : List S). AllZip R xs (map service after)) held (zip_map R service before after came))

-- what a call of each left
pub changes_zip : {F T : Type 0} (g : Shared F (ℕ × (MutBor T × Unit {0})) ((Unit {0}) × (MutBor T × Unit {0}))) (f : F) (R : T → T → Type 0) (xs ys : List T) → length ys ≡ length xs
    → ((i : ℕ) (x y : T) → ChangesAt g f i x y → R x y) → ChangesEach g f xs ys → AllZip R xs ys
changes_zip g f R xs ys size one each = each_zip R xs ys size (λ i d here. one i (slice_index_or xs i d) (slice_index_or ys i d) (each i d here).1)

-- One more registration in a loop that writes descriptors.
use Rattle.std.proofs.Common.{◌≡◌, ℕ, Bool, true, false, cond, Option, Some, None, zero, suc, ◌+◌, ◌*◌, ◌<◌, ◌≤◌, List, [], ◌∷◌, ◌++◌, length, take, get_or, refl, sym, ap, ◌∙◌, append_assoc, length-append, arith}
use Rattle.std.specs.List.{flat_map}
use Rattle.std.proofs.lemmas.Grind.{flat_map-append}
use Rattle.std.proofs.lemmas.List.{take_more, take_all, take-append-le, append-nil}
use Rattle.std.specs.Prelude.{replicate}
use Rattle.byteorder.specs.Endian.{big_bytes}
use Rattle.scsi_nexus.specs.declared.nexus.Nexus.{Nexus}
use Rattle.scsi_nexus.specs.TransportId.{transport_id}
use Rattle.permit_tables.specs.declared.res_type.ResType.{ResType}
use Rattle.permit_tables.specs.Types.{code_of}
use Rattle.pr_params.specs.Status.{is_holding, full_status_of}

one_more : {X Y : Type 0} (f : X → List Y) (xs : List X) (i : ℕ) (d : X) (front : List Y) → i < length xs → (front ++ flat_map f (take i xs)) ++ f (get_or xs i d) ≡ front ++ flat_map f (take (i + 1) xs)
one_more f xs i d front lt =
    append_assoc front (flat_map f (take i xs)) (f (get_or xs i d))
    ∙ ap (λ y. front ++ (flat_map f (take i xs) ++ y)) (sym (append-nil (f (get_or xs i d))))
    ∙ ap (λ y. front ++ y) (sym (flat_map-append f (take i xs) (get_or xs i d ∷ [])))
    ∙ ap (λ y. front ++ flat_map f y) (sym (take_more xs i d lt))

-- what was written for the registrations so far, and then the descriptor of the next one
pub written : {X Y : Type 0} (f : X → List Y) (xs : List X) (i : ℕ) (d : X) (front old new next : List Y) → i < length xs
    → new ≡ old ++ next → old ≡ front ++ flat_map f (take i xs) → next ≡ f (get_or xs i d) → new ≡ front ++ flat_map f (take (i + 1) xs)
written f xs i d front old new next lt is so_far this =
    is ∙ ap (λ y. y ++ next) so_far ∙ ap (λ y. (front ++ flat_map f (take i xs)) ++ y) this ∙ one_more f xs i d front lt

-- what is cut off isn't missed: n is the length of each descriptor, and the first c of them reach as far as the cut
pub cut_early : {X Y : Type 0} (f : X → List Y) (n : ℕ) → ((x : X) → length (f x) ≡ n) → (xs : List X) (c room : ℕ) (front : List Y) → room ≤ length front + n * c
    → take room (front ++ flat_map f (take c xs)) ≡ take room (front ++ flat_map f xs)
cut_early f n same [] zero room front h = refl
cut_early f n same [] (suc c) room front h = refl
cut_early f n same (x ∷ xs) zero room front h =
    let within : room ≤ length front = omega (arith, h) in
    take-append-le room front [] within ∙ sym (take-append-le room front (flat_map f (x ∷ xs)) within)
cut_early f n same (x ∷ xs) (suc c) room front h =
    let within : room ≤ length (front ++ f x) + n * c = omega (arith, h, length-append front (f x), same x) in
    ap (take room) (sym (append_assoc front (f x) (flat_map f (take c xs)))) ∙ cut_early f n same xs c room (front ++ f x) within
    ∙ ap (take room) (append_assoc front (f x) (flat_map f xs))

-- all that begin below the cut were written
pub cut_at : {X Y : Type 0} (f : X → List Y) (n : ℕ) → ((x : X) → length (f x) ≡ n) → (xs shown : List X) (c i room : ℕ) (front items : List Y)
    → shown ≡ take c xs → length shown ≤ i → items ≡ front ++ flat_map f (take i shown) → room ≤ n * c → take room items ≡ take room (front ++ flat_map f xs)
cut_at f n same xs shown c i room front items is all so_far enough =
    ap (take room) (so_far ∙ ap (λ y. front ++ flat_map f y) (take_all i shown all ∙ is)) ∙ cut_early f n same xs c room front (omega (arith, enough))

pub length-full_status : (reservation : Option (ResType × Nexus)) (e : Nexus × ℕ) → length (full_status_of reservation e) ≡ 48
length-full_status None e = refl
length-full_status (Some r) e =
    elim (is_holding (Some r) e.0) as (λ (b : Bool). length (big_bytes 8 e.1 ++ replicate 4 0 ++ cond b (1 ∷ code_of r.0 ∷ []) (0 ∷ 0 ∷ []) ++ replicate 4 0 ++ big_bytes 2 e.0.port ++ big_bytes 4 24 ++ transport_id e.0.sas) ≡ 48) [
      | true ↦ refl
      | false ↦ refl
    ]

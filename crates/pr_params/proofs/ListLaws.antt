-- What is no SAS TransportID.
use Rattle.std.proofs.Common.{◌≡◌, ◌-◌, ◌==◌, ◌&&◌, ℕ, Bool, true, false, cond, List, length, take, drop, length-drop, slice_index, subst, refl, arith, Some, None}
use Rattle.std.proofs.lemmas.Grind.{common_steps}
use Rattle.std.proofs.lemmas.List.{take_all}
use Rattle.scsi_nexus.specs.TransportId.{IsSas, sas_format}
use Rattle.pr_params.specs.Lists.{is_sas, moved_to}

-- a test of two equations that don't both hold
tested : (n b f : ℕ) → ((n ≡ 24) × (b ≡ f) → ⊥) → (n == 24 && b == f) ≡ false
tested n b f other = grind (arith, common_steps)

none_given : {X : Type 0} (b : Bool) (x : X) → b ≡ false → cond b (Some x) None ≡ None
none_given true x h = cc
none_given false x h = refl

-- the bytes from place n on, cut where they end
pub whole_rest : (n : ℕ) (bytes : List ℕ) → take (length bytes - n) (drop n bytes) ≡ drop n bytes
whole_rest n bytes = take_all (length bytes - n) (drop n bytes) (omega (arith, length-drop n bytes))

-- a list that names no SAS initiator port names nobody
pub names_nobody : (bytes : List ℕ) → (IsSas (take (length bytes - 24) (drop 24 bytes)) → ⊥) → moved_to bytes ≡ None
names_nobody bytes other =
    none_given (is_sas (drop 24 bytes)) _ (tested (length (drop 24 bytes)) (slice_index (drop 24 bytes) 0) sas_format (subst (λ id. IsSas id → ⊥) (whole_rest 24 bytes) other))

-- The drives of a library by its profile.
use Rattle.std.proofs.Common.{◌≡◌, ℕ, zero, suc, ◌+◌, ◌∷◌, [], ◌++◌, length, length-append, refl, ap, ◌∙◌, arith}
use Rattle.std.specs.Prelude.{replicate}
use Rattle.device_server.specs.Drive.{empty_drive}
use Rattle.library_start.specs.Profiles.{drive_at, empty_drives}
use Rattle.program_options.specs.declared.library_profile.LibraryProfile.{LibraryProfile}
use Rattle.program_options.specs.declared.library_profile.LibraryProfile.TheVariants.{Spec}

pub length-empty_drives : (profile : LibraryProfile) (drives : ℕ) → length (empty_drives profile drives) ≡ drives
length-empty_drives profile zero = refl
length-empty_drives profile (suc k) =
    omega (arith, length-append (empty_drives profile k) (drive_at profile (k + 1) ∷ []), length-empty_drives profile k)

snoc-replicate : {X : Type 0} (n : ℕ) (x : X) → replicate n x ++ x ∷ [] ≡ x ∷ replicate n x
snoc-replicate zero x = refl
snoc-replicate (suc n) x = ap (λ xs. x ∷ xs) (snoc-replicate n x)

-- those of the default profile
pub default_drives : (drives : ℕ) → empty_drives Spec drives ≡ replicate drives empty_drive
default_drives zero = refl
default_drives (suc k) = ap (λ ds. ds ++ empty_drive ∷ []) (default_drives k) ∙ snoc-replicate k empty_drive

-- The algorithms of CHAP by their numbers (IANA, "PPP Authentication Algorithms": 5 is MD5, 7 SHA-256).
use Rattle.std.specs.Prelude.{ℕ, ◌==◌, ◌&&◌, Bool, true, false, List, Option, Some, None, if◌then◌else◌}
use Rattle.std.specs.List.{list_any, slice_split}
use Rattle.iscsi_keys.specs.Numbers.{number_in}
use Rattle.iscsi_chap.specs.declared.algorithm.ChapAlgorithm.{ChapAlgorithm}
use Rattle.iscsi_chap.specs.declared.algorithm.ChapAlgorithm.TheVariants.{Sha256, Md5}
use Rattle.iscsi_chap.specs.declared.algorithm.ChapDigests.{ChapDigests}
use Rattle.iscsi_chap.specs.declared.algorithm.ChapDigests.TheVariants as taken

abbrev pub algorithm_number : ChapAlgorithm → ℕ
algorithm_number Sha256 = 7
algorithm_number Md5 = 5

abbrev pub is_same_number : Option ℕ → ℕ → Bool
is_same_number None number = false
is_same_number (Some own) number = own == number

abbrev pub is_number : (element : List ℕ) → ℕ → Bool
is_number element number = is_same_number (number_in element) number

-- commas, 44, part the elements of a list
abbrev pub is_offered : (list : List ℕ) → ℕ → Bool
is_offered list number = list_any (λ element. is_number element number) (slice_split (λ b. b == 44) list)

abbrev pub takes_md5 : ChapDigests → Bool
takes_md5 taken.Sha256 = false
takes_md5 taken.Sha256AndMd5 = true

-- SHA-256 comes first (RFC 7143, "CHAP Considerations"), and MD5 only to who takes it
abbrev pub chosen_algorithm : ChapDigests → (list : List ℕ) → Option ChapAlgorithm
chosen_algorithm digests list =
    if is_offered list 7 then Some Sha256
    else if takes_md5 digests && is_offered list 5 then Some Md5
    else None

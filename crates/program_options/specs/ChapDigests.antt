-- By which digests hosts may answer a challenge of CHAP (profile).
use Rattle.std.specs.Prelude.{ℕ, List, codes, Result, Ok, Err, if◌then◌else◌, ◌||◌}
use Rattle.std.specs.Str.{bytes_eq}
use Rattle.program_options.specs.declared.chap_digests.ChapDigests.{ChapDigests}
use Rattle.program_options.specs.declared.chap_digests.ChapDigests.TheVariants.{Sha256, Sha256AndMd5}
use Rattle.program_options.specs.declared.option_fault.OptionFault.{OptionFault}
use Rattle.program_options.specs.declared.option_fault.OptionFault.TheVariants.{BadDigests}

abbrev pub digests_in : List ℕ → Result ChapDigests OptionFault
digests_in text =
    if bytes_eq text (codes "sha256") then Ok Sha256
    else if bytes_eq text (codes "sha256,md5") || bytes_eq text (codes "md5,sha256") then Ok Sha256AndMd5
    else Err BadDigests

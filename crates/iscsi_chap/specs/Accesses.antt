-- Who is let in, by the names of initiators.
use Rattle.std.specs.Prelude.{ℕ, ◌+◌, ◌*◌, ◌/◌, ◌^◌, ◌&&◌, nat_lt, nat_le, length, Bool, List, [], ◌∷◌, Option, Some, None, if◌then◌else◌}
use Rattle.byteorder.specs.Endian.{big_number}
use Rattle.sha2.specs.Sha256.{sha256}
use Rattle.iscsi_keys.specs.IscsiNames.{folded, is_same_name}
use Rattle.iscsi_chap.specs.declared.access.Host.{Host}
use Rattle.iscsi_chap.specs.declared.access.Access.{Access}
use Rattle.iscsi_chap.specs.declared.access.Admission.{Admission}
use Rattle.iscsi_chap.specs.declared.access.Admission.TheVariants.{Listed, Other}

-- the SAS address whose first digit is 5 and whose other 15 are the first 60 bits of the SHA-256 of the name in small letters: of the 64
-- bits of its first eight bytes all but the last four
unfoldable pub sas_of_name : (name : List ℕ) → ℕ
sas_of_name name = 5 * 2 ^ 60 + big_number 8 (sha256 (folded name)) / 2 ^ 4

abbrev pub sas_of_admission : Admission → ℕ
sas_of_admission (Listed sas) = sas
sas_of_admission (Other sas) = sas

abbrev pub admitted_among : (any_host : Bool) → List Host → (name : List ℕ) → Option Admission
admitted_among any_host [] name = if any_host then Some (Other (sas_of_name name)) else None
admitted_among any_host (host ∷ others) name =
    if is_same_name host.name.items name then Some (Listed host.sas) else admitted_among any_host others name

-- an iSCSI name has 1 to 223 bytes (RFC 7143, "iSCSI Names")
abbrev pub is_iscsi_name : (name : List ℕ) → Bool
is_iscsi_name name = nat_lt 0 (length name) && nat_le (length name) 223

abbrev pub admitted : Access → (name : List ℕ) → Option Admission
admitted access name = if is_iscsi_name name then admitted_among access.any_host access.hosts.items name else None

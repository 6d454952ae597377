-- A nexus as text (profile).
use Rattle.std.specs.Prelude.{ℕ, ◌-◌, ◌^◌, false, List, [], ◌++◌, codes}
use Rattle.std.specs.Fmt.{decimal, digits, format_spec, padded_integral}
use Rattle.scsi_nexus.specs.declared.nexus.Nexus.{Nexus}

-- SAS.PORT: the SAS address in 16 hexadecimal digits, a dot, the port
abbrev pub nexus_text : Nexus → List ℕ
nexus_text n = padded_integral (format_spec 32 0 4 16 (2 ^ 64 - 1)) false [] (digits 16 false n.sas) ++ codes "." ++ decimal n.port

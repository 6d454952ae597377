-- The order of nexuses: by SAS address, then by port.
use Rattle.std.specs.Prelude.{ℕ, Bool, ◌==◌, ◌&&◌, refl}
use Rattle.std.specs.declared.cmp.Ordering.{Ordering}
use Rattle.std.specs.Ordering.{nat_cmp, ordering_then}
use Rattle.std.specs.Coded.{Coded, code_by, coded×, coded_ℕ}
use Rattle.scsi_nexus.specs.declared.nexus.Nexus.{Nexus}

-- by address, then by port
abbrev pub nexus_cmp : Nexus → Nexus → Ordering
nexus_cmp a b = ordering_then (nat_cmp a.sas b.sas) (nat_cmp a.port b.port)

-- whether two are one
abbrev pub same_nexus : Nexus → Nexus → Bool
same_nexus a b = (a.sas == b.sas) && (a.port == b.port)

-- a nexus as a pair of numbers
abbrev pub coded_nexus : Coded Nexus
coded_nexus = code_by (ℕ × ℕ) (coded× coded_ℕ coded_ℕ) (λ n. (n.sas, n.port)) (λ p. record { sas = p.0; port = p.1 }) (λ _. refl)

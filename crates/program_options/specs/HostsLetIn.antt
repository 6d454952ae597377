-- Which initiators of iSCSI are let in by name, and as whom (profile).
use Rattle.std.specs.Prelude.{ℕ, ◌+◌, ◌==◌, nat_le, Bool, List, length, take, drop, position, Option, Some, None, Result, Ok, Err, if◌then◌else◌}
use Rattle.std.specs.List.{list_any}
use Rattle.program_options.specs.declared.named_host.NamedHost.{NamedHost}
use Rattle.program_options.specs.declared.option_fault.OptionFault.{OptionFault}
use Rattle.program_options.specs.declared.option_fault.OptionFault.TheVariants.{BadHost, BadName, BadSas, ManyHosts, NameTwice, SasTwice}
use Rattle.program_options.specs.Hosts.{sas_in}
use Rattle.iscsi_keys.specs.IscsiNames.{is_iscsi_name, is_same_name}

-- an iSCSI name, and the SAS address that it stands for
pub record HostValue : Type 0 where
  pub name : List ℕ
  pub sas : ℕ

abbrev pub host_by : (name : List ℕ) → Option ℕ → Result HostValue OptionFault
host_by name None = Err BadSas
host_by name (Some sas) = if is_iscsi_name name then Ok (record { name = name; sas = sas }) else Err BadName

-- the name and the address stand on the two sides of the first "="
abbrev pub host_at : Option ℕ → (text : List ℕ) → Result HostValue OptionFault
host_at None text = Err BadHost
host_at (Some place) text = host_by (take place text) (sas_in (drop (place + 1) text))

abbrev pub host_in : List ℕ → Result HostValue OptionFault
host_in text = host_at (position (λ b. b == 61) text) text

abbrev pub has_name : (name : List ℕ) → NamedHost → Bool
has_name name host = is_same_name host.name.items name

-- 64 at most, each with a name and an address of its own
abbrev pub judged : List NamedHost → Result HostValue OptionFault → Result HostValue OptionFault
judged hosts (Err fault) = Err fault
judged hosts (Ok host) =
    if nat_le 64 (length hosts) then Err ManyHosts else
    (if list_any (has_name host.name) hosts then Err NameTwice else
    (if list_any (λ h. h.sas == host.sas) hosts then Err SasTwice else Ok host))

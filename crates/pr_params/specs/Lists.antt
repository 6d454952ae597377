-- The parameter lists of PERSISTENT RESERVE OUT (SPC-4, "PERSISTENT RESERVE OUT parameter list").
use Rattle.std.specs.Prelude.{ℕ, zero, suc, ◌+◌, ◌*◌, ◌/◌, ◌%◌, ◌^◌, Bool, true, false, ◌==◌, ◌&&◌, ◌||◌, not, nat_le, if◌then◌else◌, List, [], ◌∷◌, length, take, drop, map, slice_index, Option, None, Some, is_none, Result, Ok, Err}
use Rattle.std.specs.List.{list_all}
use Rattle.byteorder.specs.Endian.{big_number}
use Rattle.scsi_cdb.specs.declared.service_action.OutServiceAction.{OutServiceAction}
use Rattle.scsi_cdb.specs.declared.service_action.OutServiceAction.TheVariants.{Register, RegisterAndIgnoreExistingKey, RegisterAndMove}
use Rattle.scsi_nexus.specs.declared.nexus.Nexus.{Nexus}
use Rattle.scsi_nexus.specs.Limits.{list_limit}
use Rattle.scsi_nexus.specs.TransportId.{sas_format, sas_address}
use Rattle.permit_tables.specs.declared.out_params.OutParams.{OutParams}
use Rattle.pr_params.specs.declared.list_fault.ListLengthFault.{ListLengthFault}
use Rattle.permit_tables.specs.declared.list_defect.ListDefect.{ListDefect}
use Rattle.permit_tables.specs.declared.list_defect.ListDefect.TheVariants.{Field, TransportId}

-- the number in the n bytes from place i, the highest first
abbrev pub number_at : ℕ → ℕ → List ℕ → ℕ
number_at i n bytes = big_number n (drop i bytes)

-- whether bit k of a byte is 1
abbrev pub bit : ℕ → ℕ → Bool
bit byte k = byte / 2 ^ k % 2 == 1

-- TRANSPORTID PARAMETER DATA LENGTH of a REGISTER AND MOVE list
abbrev pub transport_id_length : List ℕ → ℕ
transport_id_length bytes = number_at 20 4 bytes

-- SPEC_I_PT of a basic list: TransportIDs of further nexuses follow
abbrev pub has_spec_i_pt : List ℕ → Bool
has_spec_i_pt bytes = bit (slice_index bytes 20) 3

-- ALL_TG_PT of a basic list: each address at every target port
abbrev pub has_all_tg_pt : List ℕ → Bool
has_all_tg_pt bytes = bit (slice_index bytes 20) 2

-- APTPL of a basic list, which is not supported
abbrev pub has_aptpl : List ℕ → Bool
has_aptpl bytes = bit (slice_index bytes 20) 0

-- TRANSPORTID PARAMETER DATA LENGTH of a list with SPEC_I_PT
abbrev pub listed_length : List ℕ → ℕ
listed_length bytes = number_at 24 4 bytes

-- a list of 24 bytes, or with SPEC_I_PT one of 28 bytes and the TransportIDs
abbrev pub is_register_length : List ℕ → Bool
is_register_length bytes = length bytes == (if has_spec_i_pt bytes then 28 + listed_length bytes else 24)

-- whether the bytes are as many as the act's list has
abbrev pub is_format_length : OutServiceAction → List ℕ → Bool
is_format_length Register bytes = is_register_length bytes
is_format_length RegisterAndIgnoreExistingKey bytes = is_register_length bytes
is_format_length RegisterAndMove bytes = length bytes == 24 + transport_id_length bytes
is_format_length act bytes = length bytes == 24

-- whether the list length is that of the data and that of the list's format
abbrev pub is_length_right : OutServiceAction → ℕ → List ℕ → Bool
is_length_right act list_length bytes = list_length == length bytes && is_format_length act bytes

-- the first n TransportIDs, of 24 bytes each
abbrev pub ids : ℕ → List ℕ → List (List ℕ)
ids zero bytes = []
ids (suc n) bytes = take 24 bytes ∷ ids n (drop 24 bytes)

-- the TransportIDs of a list with SPEC_I_PT
abbrev pub listed_ids : List ℕ → List (List ℕ)
listed_ids bytes = ids (listed_length bytes / 24) (drop 28 bytes)

-- whether bytes are one TransportID in the SAS format
abbrev pub is_sas : List ℕ → Bool
is_sas id = length id == 24 && slice_index id 0 == sas_format

-- SPEC_I_PT doesn't go with REGISTER AND IGNORE EXISTING KEY (profile)
abbrev pub may_list : OutServiceAction → Bool
may_list RegisterAndIgnoreExistingKey = false
may_list act = true

-- whole TransportIDs, at most as many as a list of nexuses has room for (profile)
abbrev pub is_listed_length : ℕ → Bool
is_listed_length n = n % 24 == 0 && nat_le n (24 * list_limit)

-- the defect of what SPEC_I_PT names: the service action, the length, or a TransportID that isn't a SAS one
abbrev pub listed_defect : OutServiceAction → List ℕ → Option ListDefect
listed_defect act bytes =
    if not (may_list act) || not (is_listed_length (listed_length bytes)) then Some Field
    else if not (list_all is_sas (listed_ids bytes)) then Some TransportId
    else None

-- the defect of a list of either REGISTER: APTPL (profile), or one of what SPEC_I_PT names
abbrev pub register_defect : OutServiceAction → List ℕ → Option ListDefect
register_defect act bytes =
    if has_aptpl bytes then Some Field else if has_spec_i_pt bytes then listed_defect act bytes else None

-- the SAS addresses that a list of either REGISTER names, none where it has a defect
abbrev pub register_targets : OutServiceAction → List ℕ → List ℕ
register_targets act bytes =
    if has_spec_i_pt bytes && is_none (register_defect act bytes) then map sas_address (listed_ids bytes) else []

-- the command with a list of either REGISTER
abbrev pub register_params : OutServiceAction → ℕ → List ℕ → OutParams
register_params act scope_type bytes = record {
  rk = number_at 0 8 bytes;
  sark = number_at 8 8 bytes;
  dest = None;
  act = act;
  scope_type = scope_type;
  unreg = false;
  defect = register_defect act bytes;
  all_ports = has_all_tg_pt bytes;
  listed = has_spec_i_pt bytes;
  targets = record { items = register_targets act bytes };
}

-- the command with another list of 24 bytes, whose flags are ignored
abbrev pub basic_params : OutServiceAction → ℕ → List ℕ → OutParams
basic_params act scope_type bytes = record {
  rk = number_at 0 8 bytes;
  sark = number_at 8 8 bytes;
  dest = None;
  act = act;
  scope_type = scope_type;
  unreg = false;
  defect = None;
  all_ports = false;
  listed = false;
  targets = record { items = [] };
}

-- the nexus that a REGISTER AND MOVE list names
abbrev pub moved_to : List ℕ → Option Nexus
moved_to bytes = if is_sas (drop 24 bytes) then Some (record { sas = sas_address (drop 24 bytes); port = number_at 18 2 bytes }) else None

-- the defect of a REGISTER AND MOVE list with these flags that names this nexus: APTPL, else a bad TransportID
abbrev pub move_defect : ℕ → Option Nexus → Option ListDefect
move_defect flags dest = if bit flags 0 then Some Field else if is_none dest then Some TransportId else None

-- the command with a REGISTER AND MOVE list
abbrev pub move_params : ℕ → List ℕ → OutParams
move_params scope_type bytes = record {
  rk = number_at 0 8 bytes;
  sark = number_at 8 8 bytes;
  dest = moved_to bytes;
  act = RegisterAndMove;
  scope_type = scope_type;
  unreg = bit (slice_index bytes 17) 1;
  defect = move_defect (slice_index bytes 17) (moved_to bytes);
  all_ports = false;
  listed = false;
  targets = record { items = [] };
}

-- the command with a list of the right length
abbrev pub params_of : OutServiceAction → ℕ → List ℕ → OutParams
params_of Register scope_type bytes = register_params Register scope_type bytes
params_of RegisterAndIgnoreExistingKey scope_type bytes = register_params RegisterAndIgnoreExistingKey scope_type bytes
params_of RegisterAndMove scope_type bytes = move_params scope_type bytes
params_of act scope_type bytes = basic_params act scope_type bytes

abbrev pub length_fault : ListLengthFault
length_fault = record {}

-- the command with its list, or the fault of its length
abbrev pub decoded_list : OutServiceAction → (scope_type list_length : ℕ) → List ℕ → Result OutParams ListLengthFault
decoded_list act scope_type list_length bytes =
    if is_length_right act list_length bytes then Ok (params_of act scope_type bytes) else Err length_fault

-- Worked parameter lists and data.
use Rattle.std.specs.Prelude.{◌≡◌, ℕ, true, false, List, [], ◌∷◌, ◌++◌, replicate, take, None, Some, Ok, Err}
use Rattle.scsi_cdb.specs.declared.service_action.OutServiceAction.{OutServiceAction}
use Rattle.scsi_cdb.specs.declared.service_action.OutServiceAction.TheVariants as out
use Rattle.scsi_nexus.specs.declared.nexus.Nexus.{Nexus}
use Rattle.permit_tables.specs.declared.res_type.ResType.TheVariants.{We, Wero, Wear}
use Rattle.permit_tables.specs.declared.out_params.OutParams.{OutParams}
use Rattle.permit_tables.specs.declared.list_defect.ListDefect.TheVariants.{Field, TransportId}
use Rattle.pr_params.specs.Lists.{decoded_list, length_fault}
use Rattle.pr_params.specs.Status.{keys_data, reservation_data, full_status_data}

abbrev pub a : Nexus
a = record { sas = 0x500000000000000A; port = 1 }

abbrev pub b : Nexus
b = record { sas = 0x500000000000000B; port = 1 }

-- a basic list: the two keys and the flags
abbrev pub basic_list : (rk sark : List ℕ) → ℕ → List ℕ
basic_list rk sark flags = rk ++ sark ++ replicate 4 0 ++ flags ∷ replicate 3 0

-- a key of one low byte
abbrev pub low_key : ℕ → List ℕ
low_key k = replicate 7 0 ++ k ∷ []

-- a list of REGISTER AND MOVE to b at a port, with key 9, by key 1
abbrev pub move_list : (flags first : ℕ) → List ℕ
move_list flags first =
    low_key 1 ++ low_key 9 ++ 0 ∷ flags ∷ 0 ∷ 1 ∷ 0 ∷ 0 ∷ 0 ∷ 0x18 ∷ first ∷ 0 ∷ 0 ∷ 0 ∷ 0x50 ∷ 0 ∷ 0 ∷ 0 ∷ 0 ∷ 0 ∷ 0 ∷ 0x0B ∷ replicate 12 0

-- the command with a basic list that has no defect and names nobody else
abbrev pub plain : OutServiceAction → (rk sark scope_type : ℕ) → OutParams
plain act rk sark scope_type = record {
  rk = rk;
  sark = sark;
  dest = None;
  act = act;
  scope_type = scope_type;
  unreg = false;
  defect = None;
  all_ports = false;
  listed = false;
  targets = record { items = [] };
}

-- a TransportID of a first byte and the address 500000000000000Ch, but for its last byte
abbrev pub cut_id : ℕ → List ℕ
cut_id first = first ∷ 0 ∷ 0 ∷ 0 ∷ 0x50 ∷ 0 ∷ 0 ∷ 0 ∷ 0 ∷ 0 ∷ 0 ∷ 0x0C ∷ replicate 11 0

-- a full status descriptor of the address 50000000000000XXh: a low key, R_HOLDER, scope and type, a port, XX
abbrev pub descriptor : (key holder scope_type port last : ℕ) → List ℕ
descriptor key holder scope_type port last =
    low_key key ++ 0 ∷ 0 ∷ 0 ∷ 0 ∷ holder ∷ scope_type ∷ 0 ∷ 0 ∷ 0 ∷ 0 ∷ 0 ∷ port ∷ 0 ∷ 0 ∷ 0 ∷ 0x18
    ∷ 0x06 ∷ 0 ∷ 0 ∷ 0 ∷ 0x50 ∷ 0 ∷ 0 ∷ 0 ∷ 0 ∷ 0 ∷ 0 ∷ last ∷ replicate 12 0

-- a list with SPEC_I_PT, key 7 for the unregistered, a length and what follows
abbrev pub list_of : (flags listed_length : ℕ) → List ℕ → List ℕ
list_of flags listed_length behind =
    basic_list (low_key 0) (low_key 7) flags ++ 0 ∷ 0 ∷ 0 ∷ listed_length ∷ behind

pub record ParameterListRows : Type 0 where
  -- a basic list
  pub registers : decoded_list out.Register 0 24 (basic_list (low_key 0) (0x11 ∷ 0x22 ∷ 0x33 ∷ 0x44 ∷ 0x55 ∷ 0x66 ∷ 0x77 ∷ 0x88 ∷ []) 0)
      ≡ Ok (plain out.Register 0 0x1122334455667788 0)
  -- 23 bytes, and a length that isn't the data's
  pub short : decoded_list out.Register 0 23 (replicate 23 0) ≡ Err length_fault
  pub other : decoded_list out.Clear 0 25 (replicate 24 0) ≡ Err length_fault
  pub huge : decoded_list out.Clear 0 0xFFFFFFFF [] ≡ Err length_fault
  -- a longer list without SPEC_I_PT, and with an act that ignores the bit
  pub longer : decoded_list out.Register 0 28 (list_of 0 0 []) ≡ Err length_fault
  pub longer_clear : decoded_list out.Clear 0 28 (list_of 0x08 0 []) ≡ Err length_fault
  -- ALL_TG_PT
  pub all_ports : decoded_list out.Register 0 24 (basic_list (low_key 0) (low_key 7) 0x04)
      ≡ Ok (record (plain out.Register 0 7 0) { all_ports = true })
  -- SPEC_I_PT with one TransportID, and the same without its last byte
  pub listed : decoded_list out.Register 0 52 (list_of 0x08 0x18 (cut_id 0x06 ++ 0 ∷ []))
      ≡ Ok (record (plain out.Register 0 7 0) { listed = true; targets = record { items = 0x500000000000000C ∷ [] } })
  pub listed_cut : decoded_list out.Register 0 51 (list_of 0x08 0x18 (cut_id 0x06)) ≡ Err length_fault
  -- SPEC_I_PT where the length field isn't whole
  pub no_length : decoded_list out.Register 0 24 (basic_list (low_key 0) (low_key 7) 0x08) ≡ Err length_fault
  pub cut_length : decoded_list out.Register 0 25 (basic_list (low_key 0) (low_key 7) 0x08 ++ replicate 1 0) ≡ Err length_fault
  pub shorter_length : decoded_list out.Register 0 27 (basic_list (low_key 0) (low_key 7) 0x08 ++ replicate 3 0) ≡ Err length_fault
  pub huge_length : decoded_list out.Register 0 28 (basic_list (low_key 0) (low_key 7) 0x08 ++ replicate 4 0xFF) ≡ Err length_fault
  -- SPEC_I_PT that names nobody; whose length is no whole TransportIDs; with a TransportID of another format
  pub nobody : decoded_list out.Register 0 28 (list_of 0x08 0 []) ≡ Ok (record (plain out.Register 0 7 0) { listed = true })
  pub no_whole : decoded_list out.Register 0 29 (list_of 0x08 1 (0 ∷ []))
      ≡ Ok (record (plain out.Register 0 7 0) { listed = true; defect = Some Field })
  pub other_format : decoded_list out.Register 0 52 (list_of 0x08 0x18 (cut_id 0x46 ++ 0 ∷ []))
      ≡ Ok (record (plain out.Register 0 7 0) { listed = true; defect = Some TransportId })
  -- SPEC_I_PT with REGISTER AND IGNORE EXISTING KEY, and ALL_TG_PT beside it
  pub ignoring : decoded_list out.RegisterAndIgnoreExistingKey 0 52 (list_of 0x0C 0x18 (cut_id 0x06 ++ 0 ∷ []))
      ≡ Ok (record (plain out.RegisterAndIgnoreExistingKey 0 7 0) { all_ports = true; listed = true; defect = Some Field })
  -- APTPL with either REGISTER, before a bad TransportID, and with an act that ignores it
  pub aptpl : decoded_list out.RegisterAndIgnoreExistingKey 0 24 (basic_list (low_key 0) (low_key 7) 0x01)
      ≡ Ok (record (plain out.RegisterAndIgnoreExistingKey 0 7 0) { defect = Some Field })
  pub aptpl_listed : decoded_list out.Register 0 52 (list_of 0x09 0x18 (cut_id 0x46 ++ 0 ∷ []))
      ≡ Ok (record (plain out.Register 0 7 0) { listed = true; defect = Some Field })
  pub ignored : decoded_list out.Reserve 5 24 (basic_list (low_key 1) (low_key 0) 0x0D) ≡ Ok (plain out.Reserve 1 0 5)
  -- REGISTER AND MOVE to B with UNREG; with APTPL; to a TransportID of another format
  pub moves : decoded_list out.RegisterAndMove 0 48 (move_list 2 6)
      ≡ Ok (record (plain out.RegisterAndMove 1 9 0) { dest = Some b; unreg = true })
  pub moves_aptpl : decoded_list out.RegisterAndMove 0 48 (move_list 1 0x46)
      ≡ Ok (record (plain out.RegisterAndMove 1 9 0) { defect = Some Field })
  pub moves_other : decoded_list out.RegisterAndMove 0 48 (move_list 2 0x46)
      ≡ Ok (record (plain out.RegisterAndMove 1 9 0) { unreg = true; defect = Some TransportId })
  -- 24 bytes whose TransportID has the length FFFFFFFFh
  pub moves_huge : decoded_list out.RegisterAndMove 0 24 (replicate 20 0 ++ replicate 4 0xFF) ≡ Err length_fault

pub record StatusDataRows : Type 0 where
  pub no_keys : keys_data 0 [] ≡ replicate 8 0
  pub two_keys_cut : take 12 (keys_data 2 ((a, 0x1122334455667788) ∷ (b, 0x99AABBCCDDEEFF00) ∷ []))
      ≡ 0 ∷ 0 ∷ 0 ∷ 2 ∷ 0 ∷ 0 ∷ 0 ∷ 0x10 ∷ 0x11 ∷ 0x22 ∷ 0x33 ∷ 0x44 ∷ []
  pub taken : reservation_data 3 ((b, 7) ∷ []) (Some (Wero, b))
      ≡ 0 ∷ 0 ∷ 0 ∷ 3 ∷ 0 ∷ 0 ∷ 0 ∷ 0x10 ∷ 0 ∷ 0 ∷ 0 ∷ 0 ∷ 0 ∷ 0 ∷ 0 ∷ 7 ∷ 0 ∷ 0 ∷ 0 ∷ 0 ∷ 0 ∷ 5 ∷ 0 ∷ 0 ∷ []
  pub all_registrants : reservation_data 3 ((b, 2) ∷ []) (Some (Wear, b))
      ≡ 0 ∷ 0 ∷ 0 ∷ 3 ∷ 0 ∷ 0 ∷ 0 ∷ 0x10 ∷ 0 ∷ 0 ∷ 0 ∷ 0 ∷ 0 ∷ 0 ∷ 0 ∷ 0 ∷ 0 ∷ 0 ∷ 0 ∷ 0 ∷ 0 ∷ 7 ∷ 0 ∷ 0 ∷ []
  pub nothing_held : reservation_data 4 [] None ≡ 0 ∷ 0 ∷ 0 ∷ 4 ∷ 0 ∷ 0 ∷ 0 ∷ 0 ∷ []
  pub one_holder : full_status_data 4 ((a, 1) ∷ []) (Some (We, a))
      ≡ 0 ∷ 0 ∷ 0 ∷ 4 ∷ 0 ∷ 0 ∷ 0 ∷ 0x30 ∷ 0 ∷ 0 ∷ 0 ∷ 0 ∷ 0 ∷ 0 ∷ 0 ∷ 1 ∷ 0 ∷ 0 ∷ 0 ∷ 0 ∷ 1 ∷ 1 ∷ 0 ∷ 0 ∷ 0 ∷ 0 ∷ 0 ∷ 1 ∷ 0 ∷ 0 ∷ 0 ∷ 0x18
      ∷ 6 ∷ 0 ∷ 0 ∷ 0 ∷ 0x50 ∷ 0 ∷ 0 ∷ 0 ∷ 0 ∷ 0 ∷ 0 ∷ 0x0A ∷ 0 ∷ 0 ∷ 0 ∷ 0 ∷ 0 ∷ 0 ∷ 0 ∷ 0 ∷ 0 ∷ 0 ∷ 0 ∷ 0 ∷ []
  -- WEAR: each registered nexus holds, whichever made the reservation
  pub all_hold : full_status_data 5 ((a, 1) ∷ (b, 2) ∷ []) (Some (Wear, a))
      ≡ 0 ∷ 0 ∷ 0 ∷ 5 ∷ 0 ∷ 0 ∷ 0 ∷ 0x60 ∷ (descriptor 1 1 7 1 0x0A ++ descriptor 2 1 7 1 0x0B)
  -- WE: its nexus holds alone
  pub one_of_two_holds : full_status_data 5 ((a, 1) ∷ (b, 2) ∷ []) (Some (We, a))
      ≡ 0 ∷ 0 ∷ 0 ∷ 5 ∷ 0 ∷ 0 ∷ 0 ∷ 0x60 ∷ (descriptor 1 1 1 1 0x0A ++ descriptor 2 0 0 1 0x0B)
  -- nothing reserved, and a port other than 1
  pub at_another_port : full_status_data 1 ((record a { port = 4 }, 9) ∷ []) None ≡ 0 ∷ 0 ∷ 0 ∷ 1 ∷ 0 ∷ 0 ∷ 0 ∷ 0x30 ∷ descriptor 9 0 0 4 0x0A
  -- a port is no holder beside another of the same address
  pub holder_at_another_port : full_status_data 2 ((a, 1) ∷ (record a { port = 2 }, 1) ∷ []) (Some (Wero, record a { port = 2 }))
      ≡ 0 ∷ 0 ∷ 0 ∷ 2 ∷ 0 ∷ 0 ∷ 0 ∷ 0x60 ∷ (descriptor 1 0 0 1 0x0A ++ descriptor 1 1 5 2 0x0A)

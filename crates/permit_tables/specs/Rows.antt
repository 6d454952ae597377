-- Worked types and cells of the permission table.
use Rattle.std.specs.Prelude.{◌≡◌, ℕ, zero, suc, ◌+◌, true, false, List, [], ◌∷◌, map, is_some, codes, if◌then◌else◌}
use Rattle.std.specs.Prelude as std
use Rattle.scsi_cdb.specs.declared.classes.Class.TheVariants as class
use Rattle.permit_tables.specs.declared.res_type.ResType.TheVariants.{None, We, Ea, Wero, Earo, Wear, Eaar}
use Rattle.permit_tables.specs.declared.role.Role.TheVariants.{Holder, Registered, Other}
use Rattle.permit_tables.specs.Types.{code_of, coded_type, is_registrants_only, is_all_registrants}
use Rattle.permit_tables.specs.Permission.{is_allowed}
use Rattle.permit_tables.specs.Text.{cell_text}

-- which of so many codes from the first on are those of types
abbrev pub known_from : (first count : ℕ) → List ℕ
known_from first zero = []
known_from first (suc k) = if is_some (coded_type first) then first ∷ known_from (first + 1) k else known_from (first + 1) k

pub record TypeRows : Type 0 where
  -- of the codes 0 to 8; none above is one
  pub coded : map coded_type (0 ∷ 1 ∷ 2 ∷ 3 ∷ 4 ∷ 5 ∷ 6 ∷ 7 ∷ 8 ∷ [])
      ≡ std.None ∷ std.Some We ∷ std.None ∷ std.Some Ea ∷ std.None ∷ std.Some Wero ∷ std.Some Earo ∷ std.Some Wear ∷ std.Some Eaar ∷ []
  pub codes_of_all : map code_of (We ∷ Ea ∷ Wero ∷ Earo ∷ Wear ∷ Eaar ∷ []) ≡ 1 ∷ 3 ∷ 5 ∷ 6 ∷ 7 ∷ 8 ∷ []
  pub known_of_256 : known_from 0 256 ≡ 1 ∷ 3 ∷ 5 ∷ 6 ∷ 7 ∷ 8 ∷ []
  pub we : code_of We ≡ 0x01
  pub earo : code_of Earo ≡ 0x06
  pub eaar : coded_type 0x08 ≡ std.Some Eaar
  -- types 0h, 2h, 4h and 9h are no types, and scope 1h isn't the logical unit
  pub type_0 : coded_type 0x00 ≡ std.None
  pub type_2 : coded_type 0x02 ≡ std.None
  pub type_4 : coded_type 0x04 ≡ std.None
  pub type_9 : coded_type 0x09 ≡ std.None
  pub scope_1 : coded_type 0x15 ≡ std.None
  -- EARO is registrants only, and not all registrants; EAAR the other way round; EA is neither
  pub earo_is_registrants_only : is_registrants_only Earo ≡ true
  pub earo_is_not_all_registrants : is_all_registrants Earo ≡ false
  pub eaar_is_all_registrants : is_all_registrants Eaar ≡ true
  pub eaar_is_not_registrants_only : is_registrants_only Eaar ≡ false
  pub ea_is_not_registrants_only : is_registrants_only Ea ≡ false
  pub ea_is_not_all_registrants : is_all_registrants Ea ≡ false

pub record PermissionRows : Type 0 where
  -- from a nexus that doesn't hold, under WE and under EA
  pub inquiry_ea : is_allowed class.Inquiry Ea Other ≡ true
  pub read_we : is_allowed class.Read We Other ≡ true
  pub read_ea : is_allowed class.Read Ea Registered ≡ false
  pub write_we : is_allowed class.Write We Registered ≡ false
  -- from a registered one under registrants only
  pub write_earo : is_allowed class.Write Earo Registered ≡ true
  -- from one that isn't registered, under the types of Write Exclusive and of Exclusive Access
  pub read_wear : is_allowed class.Read Wear Other ≡ true
  pub read_wero : is_allowed class.Rewind Wero Other ≡ true
  pub read_eaar : is_allowed class.Read Eaar Other ≡ false
  pub write_wero : is_allowed class.Write Wero Other ≡ false
  pub prevent_removal : is_allowed class.PreventRemoval Wero Other ≡ false
  pub allow_removal : is_allowed class.AllowRemoval Eaar Other ≡ true
  pub element_status : is_allowed class.ReadElementStatus Earo Other ≡ false
  pub element_status_curdata : is_allowed class.ReadElementStatusCurdata Earo Other ≡ true
  -- with no reservation, and from a holder
  pub unreserved : is_allowed class.RegisterAndMove None Other ≡ true
  pub from_a_holder : is_allowed class.Erase Ea Holder ≡ true
  -- the reservation acts
  pub register_other : is_allowed class.Register Ea Other ≡ true
  pub register_ignore_other : is_allowed class.RegisterAndIgnoreExistingKey Eaar Other ≡ true
  pub preempt_registered : is_allowed class.Preempt We Registered ≡ true
  pub preempt_other : is_allowed class.PreemptAndAbort Wero Other ≡ false
  pub release_other : is_allowed class.Release Wear Other ≡ false
  pub reserve_registered : is_allowed class.Reserve We Registered ≡ false
  pub move_registered : is_allowed class.RegisterAndMove Wero Registered ≡ false
  -- the classes that only the hosts' profile has
  pub log_sense_ea : is_allowed class.LogSense Ea Other ≡ true
  pub log_select_we : is_allowed class.LogSelect We Registered ≡ false
  pub log_select_earo : is_allowed class.LogSelect Earo Registered ≡ true
  pub mode_sense_we : is_allowed class.ModeSense10 We Other ≡ true
  pub mode_sense_ea : is_allowed class.ModeSense10 Ea Registered ≡ false
  pub mode_select_wear : is_allowed class.ModeSelect10 Wear Other ≡ false
  pub operation_codes_wero : is_allowed class.ReportSupportedOperationCodes Wero Other ≡ true
  pub operation_codes_eaar : is_allowed class.ReportSupportedOperationCodes Eaar Other ≡ false
  pub task_management_ea : is_allowed class.ReportSupportedTaskManagementFunctions Ea Registered ≡ false
  pub self_test_we : is_allowed class.SendDiagnostic We Other ≡ false
  pub position_ea : is_allowed class.PositionToElement Ea Registered ≡ false
  pub position_wear : is_allowed class.PositionToElement Wear Other ≡ false
  pub position_wero : is_allowed class.PositionToElement Wero Registered ≡ true
  pub exchange_we : is_allowed class.ExchangeMedium We Registered ≡ false
  pub exchange_earo : is_allowed class.ExchangeMedium Earo Other ≡ false
  pub exchange_eaar : is_allowed class.ExchangeMedium Eaar Registered ≡ true
  pub text : cell_text (record { class = class.ModeSense; res_type = Earo; role = Registered }) ≡ codes "MODE-SENSE(6)/EARO/REGISTERED"

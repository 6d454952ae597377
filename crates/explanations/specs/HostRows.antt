-- Worked rows: the lines of what only a library for hosts is asked for, and of elements that volumes came from.
use Rattle.std.specs.Prelude.{◌≡◌, ℕ, List, [], ◌∷◌, ◌++◌, replicate, take, codes, None}
use Rattle.scsi_sense.specs.declared.status.Status.TheVariants.{Good}
use Rattle.scsi_cdb.specs.declared.kind.Kind.TheVariants.{Changer, Drive}
use Rattle.scsi_cdb.specs.declared.profile.Profile.TheVariants.{Hosts}
use Rattle.scsi_cdb.specs.Kinds.{commands}
use Rattle.explanations.specs.DataRows.{mode_sense, page, read_element_status}
use Rattle.explanations.specs.Explanation.{explanation}
use Rattle.explanations.specs.Rows.{big, line, said}

-- the line of GOOD with data, of a drive and of a changer for hosts
abbrev pub told : (cdb payload : List ℕ) → List ℕ
told cdb payload = explanation (commands Hosts Drive) cdb Good None payload

abbrev pub told_by_changer : (cdb payload : List ℕ) → List ℕ
told_by_changer cdb payload = explanation (commands Hosts Changer) cdb Good None payload

-- the CDBs of MODE SENSE(10), LOG SENSE, REPORT SUPPORTED OPERATION CODES, by its options, and REPORT SUPPORTED TASK MANAGEMENT FUNCTIONS
abbrev pub mode_sense_10 : List ℕ
mode_sense_10 = 0x5A ∷ replicate 6 0 ++ 0 ∷ 0xFF ∷ 0 ∷ []

abbrev pub log_sense : List ℕ
log_sense = 0x4D ∷ replicate 6 0 ++ 0x01 ∷ 0x44 ∷ 0 ∷ []

abbrev pub operation_codes : (options : ℕ) → List ℕ
operation_codes options = 0xA3 ∷ 0x0C ∷ options ∷ replicate 3 0 ++ big 4 0xFFFF ++ 0 ∷ 0 ∷ []

abbrev pub task_management : List ℕ
task_management = 0xA3 ∷ 0x0D ∷ replicate 4 0 ++ big 4 0xFF ++ 0 ∷ 0 ∷ []

pub record HostLines : Type 0 where
  pub block_length : told mode_sense_10 (big 4 0x000E0080 ++ big 4 8 ++ big 8 0x200)
      ≡ line (codes "# GOOD, medium type 00h, write protected, density 00h, block length 512")
  pub mode_cut : told mode_sense_10 (big 4 0x000E0010 ++ big 4 8) ≡ line (codes "# GOOD, medium type 00h, cut")
  pub mode_of_changer : told_by_changer mode_sense_10 (big 8 0x0006000000000000) ≡ line (codes "# GOOD, medium type 00h")
  pub alerts_cut : told log_sense (big 4 0x2E000140 ++ big 5 0x0001030100) ≡ line (codes "# GOOD, log page 2eh, length 320, cut")
  pub subpages : told log_sense (big 4 0x40FF0004 ++ big 4 0x000000FF) ≡ line (codes "# GOOD, log page 00h subpage ffh, length 4")
  pub log_header_cut : told log_sense (0x2E ∷ 0 ∷ []) ≡ line (codes "# GOOD, log page 2eh, cut")
  pub two_commands : told (operation_codes 0) (big 4 16 ++ big 8 0x0000000000000006 ++ big 8 0x5E0000010001000A)
      ≡ line (codes "# GOOD, commands 00h 5eh/0001")
  pub commands_with_timeouts : told (operation_codes 0x80) (big 4 40 ++ big 8 0x0000000000020006 ++ big 4 0x000A0000 ++ big 8 0x000000010000003C
      ++ big 8 0x120000000002000A) ≡ line (codes "# GOOD, commands 00h, cut")
  pub no_commands : told (operation_codes 0) (replicate 4 0) ≡ line (codes "# GOOD, no commands")
  pub supported : told (operation_codes 1) (big 4 0x00030006 ++ big 6 0x0803FFFFFF04) ≡ line (codes "# GOOD, supported, usage 0803ffffff04")
  pub supported_with_timeouts : told (operation_codes 0x81) (big 4 0x00830006 ++ big 6 0x0803FFFFFF04)
      ≡ line (codes "# GOOD, supported, usage 0803ffffff04, cut")
  pub not_supported : told (operation_codes 3) (big 4 0x00010000) ≡ line (codes "# GOOD, not supported")
  pub another_way : told (operation_codes 3) (big 4 0x00050000) ≡ line (codes "# GOOD, support 05h")
  pub functions : told task_management (big 4 0xCA000000)
      ≡ line (codes "# GOOD, abort task, abort task set, logical unit reset, target reset")
  pub other_functions : told task_management (big 4 0x34000000) ≡ line (codes "# GOOD, clear ACA, clear task set, query task")
  pub functions_cut : told task_management (big 4 0x8000000C) ≡ line (codes "# GOOD, abort task, cut")
  -- a unit of the default profile has no such command
  pub of_hosts_alone : said mode_sense_10 (replicate 8 0) ≡ line (codes "# GOOD, 8 bytes")
  pub source : told_by_changer read_element_status (big 4 0x01000001 ++ big 4 24
      ++ page 4 0 16 16 (big 8 0x0100090000001100 ++ big 8 0x0081040100000000))
      ≡ line (codes "# GOOD, 0100h data transfer full from 0401h")

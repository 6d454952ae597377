-- The data of LOG SENSE, and what commands and task management functions a unit has, in words (SPC-4, "LOG SENSE command", "REPORT SUPPORTED
-- OPERATION CODES command", "REPORT SUPPORTED TASK MANAGEMENT FUNCTIONS command").
use Rattle.std.specs.Prelude.{ℕ, ◌+◌, ◌%◌, ◌==◌, nat_lt, nat_le, Bool, List, [], ◌++◌, length, take, drop, codes, if◌then◌else◌}
use Rattle.hex.specs.Hex.{encode_lower}
use Rattle.scsi_cdb.specs.Bits.{bit, byte, two_bytes, four_bytes}
use Rattle.explanations.specs.declared.commands.TaskFunction.{TaskFunction}
use Rattle.explanations.specs.declared.commands.TaskFunction.TheVariants.{AbortTask, AbortTaskSet, ClearAca, ClearTaskSet, LogicalUnitReset, QueryTask, TargetReset}
use Rattle.explanations.specs.Units.{page_length_text}
use Rattle.explanations.specs.Words.{code_text, coded_text, cut}

-- A LOG PAGE: its code, in bits 5 to 0 of byte 0; its subpage, where bit 6 is set; and its length, which doesn't count its header of 4 bytes
unfoldable pub log_code_text : List ℕ → List ℕ
log_code_text bytes = if nat_le 2 (length bytes) then coded_text (codes ", log page ") (byte bytes 0 % 64) else []

unfoldable pub log_subpage_text : List ℕ → List ℕ
log_subpage_text bytes = if bit bytes 0 6 then coded_text (codes " subpage ") (byte bytes 1) else []

abbrev pub log_text : List ℕ → List ℕ
log_text bytes = log_code_text bytes ++ log_subpage_text bytes ++ page_length_text bytes

-- COMMANDS: each by its operation code, and by its service action where it has one
unfoldable pub action_text : List ℕ → List ℕ
action_text piece = if bit piece 5 0 then codes "/" ++ encode_lower (take 2 (drop 2 piece)) else []

unfoldable pub command_text : List ℕ → List ℕ
command_text piece = codes " " ++ code_text (byte piece 0) ++ action_text piece

-- a descriptor has 8 bytes, or 20 with timeouts
abbrev pub descriptor_size : (timeouts : Bool) → ℕ
descriptor_size timeouts = if timeouts then 20 else 8

-- what is supported of one command: SUPPORT, and the CDB usage data
unfoldable pub support_text : ℕ → List ℕ
support_text support =
    if support == 1 then codes ", not supported"
    else if support == 3 then codes ", supported"
    else coded_text (codes ", support ") support

abbrev pub usage_text : (size : ℕ) → List ℕ → List ℕ
usage_text size bytes = if size == 0 then [] else codes ", usage " ++ encode_lower (take size (drop 4 bytes))

abbrev pub timeouts_size : List ℕ → ℕ
timeouts_size bytes = if bit bytes 1 7 then 12 else 0

unfoldable pub one_command_text : List ℕ → List ℕ
one_command_text bytes =
    if nat_lt (length bytes) 4 then codes ", cut"
    else support_text (byte bytes 1 % 8) ++ usage_text (two_bytes bytes 2) bytes ++ cut (4 + two_bytes bytes 2 + timeouts_size bytes) bytes

-- TASK MANAGEMENT FUNCTIONS: a bit of byte 0 for each; byte 3 is how many bytes follow it
abbrev pub function_bit : TaskFunction → ℕ
function_bit AbortTask = 7
function_bit AbortTaskSet = 6
function_bit ClearAca = 5
function_bit ClearTaskSet = 4
function_bit LogicalUnitReset = 3
function_bit QueryTask = 2
function_bit TargetReset = 1

abbrev pub function_words : TaskFunction → List ℕ
function_words AbortTask = codes ", abort task"
function_words AbortTaskSet = codes ", abort task set"
function_words ClearAca = codes ", clear ACA"
function_words ClearTaskSet = codes ", clear task set"
function_words LogicalUnitReset = codes ", logical unit reset"
function_words QueryTask = codes ", query task"
function_words TargetReset = codes ", target reset"

unfoldable pub function_text : TaskFunction → List ℕ → List ℕ
function_text function bytes = if bit bytes 0 (function_bit function) then function_words function else []

abbrev pub ending_text : List ℕ → List ℕ
ending_text bytes =
    function_text AbortTask bytes ++ function_text AbortTaskSet bytes ++ function_text ClearAca bytes ++ function_text ClearTaskSet bytes

abbrev pub other_functions_text : List ℕ → List ℕ
other_functions_text bytes = function_text LogicalUnitReset bytes ++ function_text QueryTask bytes ++ function_text TargetReset bytes

abbrev pub task_management_text : List ℕ → List ℕ
task_management_text bytes = ending_text bytes ++ other_functions_text bytes ++ cut (4 + byte bytes 3) bytes

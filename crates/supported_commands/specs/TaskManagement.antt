-- The parameter data of REPORT SUPPORTED TASK MANAGEMENT FUNCTIONS (SPC-4, "REPORT SUPPORTED TASK MANAGEMENT FUNCTIONS parameter
-- data").
use Rattle.std.specs.Prelude.{ℕ, ◌+◌, Bool, List, [], ◌∷◌, replicate, if◌then◌else◌}

-- the functions that are supported, each with its bit of byte 0 (profile)
abbrev pub abort_task : ℕ
abort_task = 0x80

abbrev pub abort_task_set : ℕ
abort_task_set = 0x40

abbrev pub logical_unit_reset : ℕ
logical_unit_reset = 0x08

abbrev pub target_reset : ℕ
target_reset = 0x02

abbrev pub functions : ℕ
functions = abort_task + abort_task_set + logical_unit_reset + target_reset

-- the short form, and with REPD the extended one: 0Ch more bytes follow, which say no timeouts
abbrev pub task_management : (return_extended : Bool) → List ℕ
task_management return_extended =
    if return_extended then functions ∷ 0x00 ∷ 0x00 ∷ 0x0C ∷ replicate 12 0x00 else functions ∷ 0x00 ∷ 0x00 ∷ 0x00 ∷ []

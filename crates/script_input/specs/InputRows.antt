-- Worked rows: what is read, and what is said of each fault.
use Rattle.std.specs.Prelude.{◌≡◌, ℕ, List, [], ◌∷◌, length, Some, Option, codes}
use Rattle.script_input.specs.declared.input_fault.InputFault.TheVariants.{Read, NoMemory}
use Rattle.script_input.specs.InputFaults.{exit_status, fault_text}
use Rattle.script_input.specs.Input.{IsReadWhole}

-- the last of the reads finds the end
pub record InputsRead : Type 0 where
  pub empty : IsReadWhole 1 (Some []) (Some []) []
  pub one_word : IsReadWhole 2 (Some (codes "reset")) (Some []) (codes "reset")
  pub no_read : (left left' : Option (List ℕ)) (input : List ℕ) → ¬ IsReadWhole 0 left left' input
  -- a single read finds no end behind a byte
  pub one_read : (left left' : Option (List ℕ)) (byte : ℕ) → ¬ IsReadWhole 1 left left' (byte ∷ [])
  -- 65,537 bytes take two reads, and a third
  pub longer : (left left' : Option (List ℕ)) (input : List ℕ) → length input ≡ 65537 → ¬ IsReadWhole 2 left left' input
  pub byte_left : ¬ IsReadWhole 9 (Some (1 ∷ 2 ∷ [])) (Some (2 ∷ [])) (1 ∷ [])
  pub byte_dropped : ¬ IsReadWhole 9 (Some (1 ∷ 2 ∷ [])) (Some []) (1 ∷ [])

pub record FaultsTold : Type 0 where
  pub read_status : exit_status Read ≡ 4
  pub memory_status : exit_status NoMemory ≡ 3
  pub read : fault_text Read ≡ codes "vtl: device fault\nvtl: the script could not be read"
  pub memory : fault_text NoMemory ≡ codes "vtl: want of memory"

-- Worked rows: what lines and scripts of a replay and of a host say, and their faults.
use Rattle.std.specs.Prelude.{◌≡◌, ℕ, List, [], ◌∷◌, ◌++◌, length, replicate, Some, None, Result, Ok, Err, Option, codes}
use Rattle.scsi_nexus.specs.declared.nexus.Nexus.{Nexus}
use Rattle.scsi_cdb.specs.declared.profile.Profile.TheVariants.{Spec, Hosts}
use Rattle.script_input.specs.declared.line_fault.LineFault.{LineFault}
use Rattle.script_input.specs.declared.line_fault.LineFault.TheVariants.{TooLong, WordCount, BadNexus, BadUnit, BadHex}
use Rattle.script_input.specs.declared.script_fault.ScriptFault.TheVariants.{Line, NoMemory}
use Rattle.script_input.specs.Faults.{script_fault_text}
use Rattle.script_lines.specs.Lines.{Said, Command, Loss, Reset, line_in}
use Rattle.script_lines.specs.Requests as host
use Rattle.script_lines.specs.Requests.{ClientRequestValue, request_line_in}
use Rattle.script_lines.specs.Script.{script_in, requests_in}

abbrev pub a : ℕ → Nexus
a port = record { sas = 0x500000000000000A; port = port }

abbrev pub Read : Type 0
Read = Result (Option Said) LineFault

abbrev pub says : Said → Read
says event = Ok (Some event)

pub record LinesRead : Type 0 where
  pub empty : line_in Spec [] ≡ Ok None
  pub comment : line_in Spec (codes "# reset 0") ≡ Ok None
  pub command : line_in Spec (codes "500000000000000a.1 0 000000000000") ≡ says (Command (a 1) 0 (replicate 6 0) [])
  -- hexadecimal in either case, and data
  pub with_data : line_in Spec (codes "500000000000000A.4 255 5F0000000000000018aB 00fF")
      ≡ says (Command (a 4) 255 (0x5F ∷ replicate 7 0 ++ 0x18 ∷ 0xAB ∷ []) (0x00 ∷ 0xFF ∷ []))
  pub longest_cdb : line_in Spec (codes "500000000000000a.2 10 000102030405060708090a0b0c0d0e0f")
      ≡ says (Command (a 2) 10 (0 ∷ 1 ∷ 2 ∷ 3 ∷ 4 ∷ 5 ∷ 6 ∷ 7 ∷ 8 ∷ 9 ∷ 10 ∷ 11 ∷ 12 ∷ 13 ∷ 14 ∷ 15 ∷ []) [])
  pub loss : line_in Spec (codes "loss 500000000000000a.3 1") ≡ says (Loss (a 3) 1)
  pub reset : line_in Spec (codes "reset 9") ≡ says (Reset 9)

pub record LineFaults : Type 0 where
  -- whatever it says, a comment too
  pub too_long : (line : List ℕ) → length line ≡ 270001 → line_in Spec line ≡ Err TooLong
  pub too_long_for_hosts : (line : List ℕ) → length line ≡ 2240001 → line_in Hosts line ≡ Err TooLong
  pub one_word : line_in Spec (codes "reset") ≡ Err WordCount
  pub two_words : line_in Spec (codes "500000000000000a.1 0") ≡ Err WordCount
  -- before the forms of the words are looked at
  pub five_words : line_in Spec (codes "x 0 00 00 00") ≡ Err WordCount
  pub loss_of_four_words : line_in Spec (codes "loss 500000000000000a.1 0 0") ≡ Err WordCount
  pub reset_of_three_words : line_in Spec (codes "reset 0 0") ≡ Err WordCount
  pub short_address : line_in Spec (codes "50000000000000a.1 0 00") ≡ Err BadNexus
  pub no_hexadecimal_address : line_in Spec (codes "500000000000000g.1 0 00") ≡ Err BadNexus
  pub port_0 : line_in Spec (codes "500000000000000a.0 0 00") ≡ Err BadNexus
  pub port_5 : line_in Spec (codes "500000000000000a.5 0 00") ≡ Err BadNexus
  pub no_dot : line_in Spec (codes "500000000000000a-1 0 00") ≡ Err BadNexus
  pub upper_case_loss : line_in Spec (codes "LOSS 500000000000000a.1 0") ≡ Err BadNexus
  -- the nexus before the unit, and the unit before the bytes
  pub nexus_first : line_in Spec (codes "500000000000000a.5 256 x") ≡ Err BadNexus
  pub unit_second : line_in Spec (codes "500000000000000a.1 256 x") ≡ Err BadUnit
  pub unit_of_a_loss : line_in Spec (codes "loss 500000000000000a.1 256") ≡ Err BadUnit
  pub unit_of_a_reset : line_in Spec (codes "reset 256") ≡ Err BadUnit
  pub leading_zero : line_in Spec (codes "reset 01") ≡ Err BadUnit
  pub sign : line_in Spec (codes "reset +1") ≡ Err BadUnit
  -- two spaces have an empty word between them
  pub two_spaces : line_in Spec (codes "500000000000000a.1  00") ≡ Err BadUnit
  pub odd_digits : line_in Spec (codes "500000000000000a.1 0 000") ≡ Err BadHex
  pub no_hexadecimal : line_in Spec (codes "500000000000000a.1 0 0x") ≡ Err BadHex
  pub cdb_of_17_bytes : line_in Spec (codes "500000000000000a.1 0 000102030405060708090a0b0c0d0e0f10") ≡ Err BadHex
  pub empty_data : line_in Spec (codes "500000000000000a.1 0 00 ") ≡ Err BadHex
  -- a carriage return belongs to the last word
  pub carriage_return : line_in Spec (codes "500000000000000a.1 0 00" ++ 13 ∷ []) ≡ Err BadHex

pub record ScriptsRead : Type 0 where
  pub empty : script_in Spec [] ≡ Ok []
  -- the last line feed may be left out
  pub two_lines : script_in Spec (codes "reset 0" ++ 10 ∷ codes "reset 1") ≡ Ok (Reset 0 ∷ Reset 1 ∷ [])
  pub ended_lines : script_in Spec (codes "reset 0" ++ 10 ∷ codes "reset 1" ++ 10 ∷ []) ≡ Ok (Reset 0 ∷ Reset 1 ∷ [])
  -- lines without an event are counted
  pub third_line : script_in Spec (codes "# a comment" ++ 10 ∷ 10 ∷ codes "reset 256") ≡ Err (3, BadUnit)
  -- the first faulty line decides
  pub first_fault : script_in Spec (codes "reset 0" ++ 10 ∷ codes "reset" ++ 10 ∷ codes "reset 256") ≡ Err (2, WordCount)
  pub told : script_fault_text (Line 42 BadNexus) ≡ codes "line 42: bad nexus"
  pub told_of_memory : script_fault_text NoMemory ≡ codes "want of memory"

abbrev pub asks : ClientRequestValue → Result (Option ClientRequestValue) LineFault
asks request = Ok (Some request)

-- a host's lines are those of a replay without the nexus, and without the line of a loss
pub record RequestsRead : Type 0 where
  pub empty : request_line_in Spec [] ≡ Ok None
  pub comment : request_line_in Spec (codes "# reset 0") ≡ Ok None
  pub command : request_line_in Spec (codes "0 000000000000") ≡ asks (host.Command 0 (replicate 6 0) [])
  pub with_data : request_line_in Spec (codes "255 0a000000020F 00fF") ≡ asks (host.Command 255 (0x0A ∷ 0 ∷ 0 ∷ 0 ∷ 2 ∷ 0x0F ∷ []) (0x00 ∷ 0xFF ∷ []))
  pub reset : request_line_in Spec (codes "reset 9") ≡ asks (host.Reset 9)
  pub too_long : (line : List ℕ) → length line ≡ 270001 → request_line_in Spec line ≡ Err TooLong
  pub too_long_for_hosts : (line : List ℕ) → length line ≡ 2240001 → request_line_in Hosts line ≡ Err TooLong
  pub one_word : request_line_in Spec (codes "0") ≡ Err WordCount
  -- before the forms of the words are looked at
  pub four_words : request_line_in Spec (codes "x 00 00 00") ≡ Err WordCount
  pub bare_reset : request_line_in Spec (codes "reset") ≡ Err WordCount
  pub reset_of_three_words : request_line_in Spec (codes "reset 0 0") ≡ Err WordCount
  pub loss : request_line_in Spec (codes "loss 0") ≡ Err BadUnit
  pub nexus : request_line_in Spec (codes "500000000000000a.1 0 00") ≡ Err BadUnit
  -- the unit before the bytes
  pub unit_first : request_line_in Spec (codes "256 x") ≡ Err BadUnit
  pub unit_of_a_reset : request_line_in Spec (codes "reset 256") ≡ Err BadUnit
  pub two_spaces : request_line_in Spec (codes "0  00") ≡ Err BadHex
  pub odd_digits : request_line_in Spec (codes "0 000") ≡ Err BadHex
  pub cdb_of_17_bytes : request_line_in Spec (codes "0 000102030405060708090a0b0c0d0e0f10") ≡ Err BadHex
  pub empty_data : request_line_in Spec (codes "0 00 ") ≡ Err BadHex
  -- the last line feed may be left out, and lines without a request are counted
  pub script : requests_in Spec (codes "reset 0" ++ 10 ∷ codes "reset 1") ≡ Ok (host.Reset 0 ∷ host.Reset 1 ∷ [])
  pub third_line : requests_in Spec (codes "# a comment" ++ 10 ∷ 10 ∷ codes "reset 256") ≡ Err (3, BadUnit)
  pub first_fault : requests_in Spec (codes "reset 0" ++ 10 ∷ codes "reset" ++ 10 ∷ codes "reset 256") ≡ Err (2, WordCount)

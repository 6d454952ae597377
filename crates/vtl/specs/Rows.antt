-- Worked rows: how the program ends.
use Rattle.std.specs.Prelude.{◌≡◌, [], ◌∷◌, ◌++◌, Some, Ok, Err, codes}
use Rattle.program_options.specs.declared.command_line_fault.CommandLineFault.TheVariants.{NotText, Options, NoMemory}
use Rattle.client_session.specs.declared.client_session_fault.ClientSessionFault.TheVariants as session
use Rattle.program_options.specs.declared.option_fault.OptionFault.TheVariants.{MoreVolumes, BadNexus}
use Rattle.script_input.specs.declared.replay_fault.ReplayFault.TheVariants as replay
use Rattle.script_input.specs.declared.line_fault.LineFault.TheVariants.{TooLong}
use Rattle.script_input.specs.declared.input_fault.InputFault.TheVariants as input
use Rattle.media_folder.specs.declared.check_fault.CheckFault.TheVariants as check
use Rattle.media_folder.specs.declared.fault.FolderFault.TheVariants as folder
use Rattle.vtl.specs.declared.client_fault.ClientFault.TheVariants as client
use Rattle.vtl.specs.declared.program_fault.ProgramFault.TheVariants.{CommandLine, Replay, Client, Cells, Check}
use Rattle.vtl.specs.Faults.{ending_status, ending_line}

pub record StatusesOfTheProgram : Type 0 where
  pub done : ending_status (Ok tt) ≡ 0
  pub not_text : ending_status (Err (CommandLine NotText)) ≡ 2
  pub more_volumes : ending_status (Err (CommandLine (Options MoreVolumes))) ≡ 2
  pub bad_nexus : ending_status (Err (CommandLine (Options BadNexus))) ≡ 2
  pub faulty_line : ending_status (Err (Replay (replay.Line 7 TooLong))) ≡ 2
  pub no_memory : ending_status (Err (CommandLine NoMemory)) ≡ 3
  pub no_memory_in_the_run : ending_status (Err (Replay replay.NoMemory)) ≡ 3
  pub failed_read : ending_status (Err (Replay replay.Read)) ≡ 4
  pub failed_write : ending_status (Err (Replay replay.Write)) ≡ 4
  pub faulty_line_of_a_client : ending_status (Err (Client (client.Session (session.Line 7 TooLong)))) ≡ 2
  pub no_memory_of_a_client : ending_status (Err (Client (client.Input input.NoMemory))) ≡ 3
  pub bad_reply : ending_status (Err (Client (client.Session session.BadReply))) ≡ 4
  pub table : ending_status (Err Cells) ≡ 4
  pub unwritten_lines : ending_status (Err (Check check.Write)) ≡ 4
  pub no_memory_of_a_check : ending_status (Err (Check (check.Folder folder.NoMemory))) ≡ 3

pub record LinesOfTheProgram : Type 0 where
  pub done : ending_line (Ok tt) ≡ Some []
  pub not_text : ending_line (Err (CommandLine NotText)) ≡ Some (codes "vtl: arguments that are not text" ++ 10 ∷ [])
  pub more_volumes : ending_line (Err (CommandLine (Options MoreVolumes))) ≡ Some (codes "vtl: more volumes than slots" ++ 10 ∷ [])
  pub bad_nexus : ending_line (Err (CommandLine (Options BadNexus))) ≡ Some (codes "vtl: bad nexus" ++ 10 ∷ [])
  pub faulty_line : ending_line (Err (Replay (replay.Line 7 TooLong))) ≡ Some (codes "vtl: line 7: too long" ++ 10 ∷ [])
  pub no_memory : ending_line (Err (CommandLine NoMemory)) ≡ Some (codes "vtl: want of memory" ++ 10 ∷ [])
  pub failed_read : ending_line (Err (Replay replay.Read)) ≡ Some (codes "vtl: device fault\nvtl: the script could not be read" ++ 10 ∷ [])
  pub bad_reply : ending_line (Err (Client (client.Session session.BadReply))) ≡ Some (codes "vtl: device fault\nvtl: bad reply" ++ 10 ∷ [])

-- Worked rows: what each fault says, the lines of replies, which reply goes with which frame, and a session byte by byte.
use Rattle.std.specs.Prelude.{◌≡◌, ℕ, List, [], ◌∷◌, ◌++◌, replicate, Some, None, codes}
use Rattle.scsi_cdb.specs.declared.profile.Profile.TheVariants.{Spec}
use Rattle.scsi_sense.specs.Conditions.{sense_for}
use Rattle.scsi_sense.specs.declared.condition.Condition.TheVariants.{PowerOnOrResetOccurred}
use Rattle.scsi_sense.specs.declared.status.Status.TheVariants.{Good, CheckCondition, Busy, ReservationConflict}
use Rattle.frames.specs.declared.reply_frame.LoginAnswer.TheVariants.{Accepted, AlreadyConnected}
use Rattle.frames.specs.Frames.{FrameValue, Login, Command, Reset, Logout}
use Rattle.frames.specs.Replies.{LoginReply, CommandReply, ResetReply, LogoutReply}
use Rattle.frames.specs.Rows.{a, login_by, test_unit_ready, logout, first_contact}
use Rattle.output_lines.specs.declared.explained.Explanations.TheVariants as words
use Rattle.script_input.specs.declared.line_fault.LineFault.TheVariants.{BadUnit}
use Rattle.script_lines.specs.Requests as host
use Rattle.client_session.specs.declared.client_session_fault.ClientSessionFault.TheVariants.{Line, Refused, BadReply, Read, Write, NoMemory}
use Rattle.client_session.specs.Faults.{exit_status, fault_text}
use Rattle.client_session.specs.Talking.{AreRepliesTo, Converses, IsReplyTo, frames_of, session_text, stream_of, streams, told_text}
use Rattle.client_session.specs.Waiting.{IsOfSession}

pub record FaultsTold : Type 0 where
  pub line_status : exit_status (Line 42 BadUnit) ≡ 2
  pub memory_status : exit_status NoMemory ≡ 3
  pub refused_status : exit_status (Refused a) ≡ 4
  pub reply_status : exit_status BadReply ≡ 4
  pub read_status : exit_status Read ≡ 4
  pub write_status : exit_status Write ≡ 4
  pub line : fault_text (Line 42 BadUnit) ≡ codes "vtl: line 42: bad unit"
  pub memory : fault_text NoMemory ≡ codes "vtl: want of memory"
  pub refused : fault_text (Refused a) ≡ codes "vtl: device fault\nvtl: 500000000000000a.1 has a session already"
  -- leading zeros stand
  pub short : fault_text (Refused (record { sas = 10; port = 4 })) ≡ codes "vtl: device fault\nvtl: 000000000000000a.4 has a session already"
  pub reply : fault_text BadReply ≡ codes "vtl: device fault\nvtl: bad reply"
  pub read : fault_text Read ≡ codes "vtl: device fault\nvtl: a read failed"
  pub write : fault_text Write ≡ codes "vtl: device fault\nvtl: a write failed"
  -- a faulty line comes before the session, and want of memory may
  pub line_before : ¬ IsOfSession (Line 1 BadUnit)
  pub memory_at_any_time : ¬ IsOfSession NoMemory

-- a text and a line feed
abbrev pub line : List ℕ → List ℕ
line text = text ++ 10 ∷ []

-- TEST UNIT READY, and the CDB of READ KEYS
abbrev pub test : FrameValue
test = Command 1 (replicate 6 0) []

abbrev pub read_keys : List ℕ
read_keys = 0x5E ∷ replicate 6 0 ++ 0 ∷ 0xFF ∷ 0 ∷ []

pub record RepliesTold : Type 0 where
  pub sense : told_text Spec words.Off test (CommandReply CheckCondition (Some (sense_for PowerOnOrResetOccurred)) 1 [])
      ≡ line (codes "02 700006000000000a00000000290000000000 -")
  pub payload : told_text Spec words.Off test (CommandReply Good None 258 (0x61 ∷ 0x62 ∷ [])) ≡ line (codes "00 - 6162")
  pub conflict : told_text Spec words.Off test (CommandReply ReservationConflict None 3 []) ≡ line (codes "18 - -")
  -- a status alone
  pub reset : told_text Spec words.Off (Reset 1) (ResetReply Busy) ≡ line (codes "08 - -")
  pub login : told_text Spec words.Off (Login a) (LoginReply Accepted) ≡ []
  pub logout : told_text Spec words.Off Logout LogoutReply ≡ []
  -- and with words
  pub reset_said : told_text Spec words.On (Reset 1) (ResetReply Busy) ≡ line (codes "08 - -") ++ line (codes "# BUSY")
  pub keys_said : told_text Spec words.On (Command 1 read_keys []) (CommandReply Good None 258 (0 ∷ 0 ∷ 0 ∷ 1 ∷ 0 ∷ 0 ∷ 0 ∷ 0 ∷ []))
      ≡ line (codes "00 - 0000000100000000") ++ line (codes "# GOOD, generation 1, no keys")
  pub login_said : told_text Spec words.On (Login a) (LoginReply Accepted) ≡ []
  -- each reply behind the one before
  pub session : session_text Spec words.On (Login a ∷ test ∷ Logout ∷ []) (LoginReply Accepted ∷ CommandReply Good None 1 [] ∷ LogoutReply ∷ [])
      ≡ line (codes "00 - -") ++ line (codes "# GOOD")
  pub accepted : IsReplyTo (Login a) (LoginReply Accepted)
  pub already_connected : ¬ IsReplyTo (Login a) (LoginReply AlreadyConnected)
  pub reset_for_a_command : ¬ IsReplyTo (Command 0 [] []) (ResetReply Good)
  pub command_for_a_reset : ¬ IsReplyTo (Reset 0) (CommandReply Good None 1 [])
  -- none is left out, and none comes twice
  pub one_missing : ¬ AreRepliesTo (Login a ∷ Logout ∷ []) (LoginReply Accepted ∷ [])
  pub one_more : ¬ AreRepliesTo (Logout ∷ []) (LogoutReply ∷ LogoutReply ∷ [])
  pub other_order : ¬ AreRepliesTo (Login a ∷ Logout ∷ []) (LogoutReply ∷ LoginReply Accepted ∷ [])

-- TEST UNIT READY at unit 0 of a new library
abbrev pub script : List ℕ
script = codes "0 000000000000"

abbrev pub replies : List ℕ
replies = (0 ∷ 0 ∷ 0 ∷ 2 ∷ 0x81 ∷ 0 ∷ []) ++ first_contact ++ 0 ∷ 0 ∷ 0 ∷ 1 ∷ 0x84 ∷ []

pub record SessionTold : Type 0 where
  pub sent : stream_of (frames_of a (host.Command 0 (replicate 6 0) [] ∷ [])) ≡ login_by 1 ++ test_unit_ready ++ logout
  -- the server's next bytes stay unread, and what was there before stays
  pub whole : Converses Spec words.Off a script (streams (Some (replies ++ 7 ∷ [])) (Some (1 ∷ [])) (Some (codes "before ")))
      (streams (Some (7 ∷ [])) (Some (1 ∷ login_by 1 ++ test_unit_ready ++ logout))
      (Some (codes "before " ++ line (codes "02 700006000000000a00000000290000000000 -"))))

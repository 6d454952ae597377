-- What a server tells while it serves: a line for each event (profile).
use Rattle.std.specs.Prelude.{ℕ, Bool, true, false, List, ◌++◌, codes, Option, Some, None}
use Rattle.std.specs.Fmt.{decimal}
use Rattle.std.specs.Net.Text.{ip_text}
use Rattle.scsi_nexus.specs.Text.{nexus_text}
use Rattle.output_lines.specs.UnwrittenLines.{unwritten_text}
use Rattle.session.specs.declared.fault.End.{End}
use Rattle.session.specs.declared.fault.End.TheVariants as end
use Rattle.server.specs.declared.event.Event.{Event}
use Rattle.server.specs.declared.event.Event.TheVariants as event
use Rattle.server.specs.declared.event.EndedSession.{EndedSession}
use Rattle.server.specs.Faults.{faulty_session_text, whose}

-- who asks for no more than faults isn't told of sessions that begin and end, nor of BUSY
abbrev pub is_detail : Event → Bool
is_detail (event.Begins number) = true
is_detail (event.Ends s) = true
is_detail (event.Fails s) = false
is_detail (event.Crowded address) = false
is_detail (event.Joins number nexus count address) = false
is_detail (event.TakesPlace number nexus ended) = true
is_detail (event.Awaits number nexus command) = true
is_detail event.NotAccepted = false
is_detail (event.Busy nexus lun) = true
is_detail (event.NoSlot nexus lun) = true
is_detail event.Kept = false
is_detail event.CaughtUp = false
is_detail (event.Unwritten r) = false
is_detail event.StatusUnsent = false
is_detail event.MetricsUnsent = false

abbrev pub end_words : Option End → List ℕ
end_words (Some end.Logout) = codes "ended by its LOGOUT"
end_words (Some end.Closed) = codes "ended by the end of input"
end_words (Some end.Cut) = codes "ended within a frame"
end_words None = codes "ended by a fault"

abbrev pub ended_session_text : EndedSession → List ℕ
ended_session_text s =
    decimal s.number ++ (whose s.nexus ++ (end_words s.end
    ++ (codes " after " ++ (decimal s.commands ++ (codes " commands and " ++ (decimal s.seconds ++ codes " seconds"))))))

abbrev pub event_text : Event → List ℕ
event_text (event.Begins number) = codes "vtl: session " ++ (decimal number ++ codes " begins")
event_text (event.Ends s) = codes "vtl: session " ++ ended_session_text s
event_text (event.Fails s) = codes "vtl: session " ++ faulty_session_text s
event_text (event.Crowded address) =
    codes "vtl: a connection from " ++ (ip_text address ++ codes " is closed: 4 of its address have not logged in")
event_text (event.Joins number nexus count address) =
    codes "vtl: session " ++ (decimal number ++ (codes " of " ++ (nexus_text nexus ++ (codes ": its name has "
    ++ (decimal count ++ (codes " sessions now, this one from " ++ ip_text address))))))
event_text (event.TakesPlace number nexus ended) =
    codes "vtl: session " ++ (decimal number ++ (codes " of " ++ (nexus_text nexus ++ (codes ": takes the place of session " ++ decimal ended))))
event_text (event.Awaits number nexus command) =
    codes "vtl: session " ++ (decimal number ++ (codes " of " ++ (nexus_text nexus ++ (codes ": command number "
    ++ (decimal command ++ codes " did not come, and those after it are ignored")))))
event_text event.NotAccepted = codes "vtl: a connection could not be accepted"
event_text (event.Busy nexus lun) =
    codes "vtl: BUSY for " ++ (nexus_text nexus ++ (codes " at logical unit " ++ (decimal lun ++ codes ": want of memory or of a record number")))
event_text (event.NoSlot nexus lun) =
    codes "vtl: BUSY for " ++ (nexus_text nexus ++ (codes " at logical unit " ++ (decimal lun ++ codes ": all slots are taken there")))
event_text event.Kept = codes "vtl: lines of records could not be written, and are kept"
event_text event.CaughtUp = codes "vtl: the lines of records that were kept are written"
event_text (event.Unwritten r) = codes "vtl: " ++ unwritten_text r
event_text event.StatusUnsent = codes "vtl: the status could not be sent, or was not taken in time"
event_text event.MetricsUnsent = codes "vtl: a connection for metrics asked for none, or did not take them in time"

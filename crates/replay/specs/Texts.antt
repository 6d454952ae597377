-- What is written of the replies of a run.
use Rattle.std.specs.Prelude.{ℕ, List, [], ◌∷◌, ◌++◌}
use Rattle.scsi_cdb.specs.declared.profile.Profile.{Profile}
use Rattle.judgement.specs.declared.reply.Reply.{Reply}
use Rattle.target_core.specs.declared.event.Event.{Event}
use Rattle.target_core.specs.declared.event.Event.TheVariants.{Command, Loss, Reset}
use Rattle.output_lines.specs.declared.explained.Explanations.{Explanations}
use Rattle.output_lines.specs.Explained.{answer_text}

-- the logical unit of an event
abbrev pub lun_of : Event → ℕ
lun_of (Command nexus lun cdb bytes) = lun
lun_of (Loss nexus lun) = lun
lun_of (Reset lun) = lun

-- the CDB of an event: a loss and a reset have none
abbrev pub cdb_of : Event → List ℕ
cdb_of (Command nexus lun cdb bytes) = cdb.items
cdb_of (Loss nexus lun) = []
cdb_of (Reset lun) = []

-- what is written of the reply to an event, in a library of a profile
abbrev pub event_text : Profile → Explanations → Event → Reply → List ℕ
event_text profile explanations event r = answer_text explanations profile (lun_of event) (cdb_of event) r.status r.sense r.payload

-- and of the replies to events, in their order
abbrev pub run_text : Profile → Explanations → List Event → List Reply → List ℕ
run_text profile explanations (event ∷ events) (r ∷ replies) = event_text profile explanations event r ++ run_text profile explanations events replies
run_text profile explanations _ _ = []

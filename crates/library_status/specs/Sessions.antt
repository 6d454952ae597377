-- A session that goes on, in JSON and in the picture (profile).
use Rattle.std.specs.Prelude.{ℕ, nat_lt, List, [], ◌∷◌, ◌++◌, length, take, Option, None, Some, String, string_bytes, if◌then◌else◌}
use Rattle.std.specs.Global.{Global}
use Rattle.std.specs.List.{flat_map}
use Rattle.scsi_nexus.specs.declared.nexus.Nexus.{Nexus}
use Rattle.library_status.specs.Words.{escaped, nexus_after, number_after, word_text, words_after}
use Rattle.library_status.specs.declared.word.Word.TheVariants as word
use Rattle.library_status.specs.declared.summary.SessionSummary.{SessionSummary}

-- JSON

unfoldable pub quoted : List ℕ → List ℕ
quoted bytes = word_text word.Quote ++ flat_map escaped bytes ++ word_text word.Quote

abbrev pub text_json : Option (String Global) → List ℕ
text_json None = word_text word.Null
text_json (Some text) = quoted (string_bytes text)

abbrev pub nexus_json : Option Nexus → List ℕ
nexus_json None = word_text word.Null
nexus_json (Some nexus) = nexus_after word.Quote nexus ++ word_text word.Quote

unfoldable pub whose_json : SessionSummary → List ℕ
whose_json s = number_after word.SessionNumber s.number ++ word_text word.SessionNexus ++ nexus_json s.nexus

unfoldable pub name_json : SessionSummary → List ℕ
name_json s = word_text word.SessionName ++ text_json s.name

unfoldable pub from_json : SessionSummary → List ℕ
from_json s = word_text word.SessionAddress ++ text_json s.address

unfoldable pub start_json : SessionSummary → List ℕ
start_json s = word_text word.SessionStart ++ text_json s.start

unfoldable pub origin_json : SessionSummary → List ℕ
origin_json s = name_json s ++ from_json s ++ start_json s

unfoldable pub traffic_json : SessionSummary → List ℕ
traffic_json s = number_after word.Commands s.commands ++ number_after word.Received s.received ++ number_after word.Sent s.sent

unfoldable pub session_json : SessionSummary → List ℕ
session_json s = whose_json s ++ origin_json s ++ traffic_json s ++ word_text word.End

-- PICTURE

abbrev pub nexus_picture : Option Nexus → List ℕ
nexus_picture None = word_text word.NotIn
nexus_picture (Some nexus) = nexus_after word.UnitKind nexus

abbrev pub from_picture : Option (String Global) → List ℕ
from_picture None = []
from_picture (Some address) = words_after word.From (string_bytes address)

abbrev pub since_picture : Option (String Global) → List ℕ
since_picture None = []
since_picture (Some time) = words_after word.Since (string_bytes time)

unfoldable pub traffic_picture : SessionSummary → List ℕ
traffic_picture s = number_after word.CommandsLine s.commands ++ number_after word.ReceivedLine s.received ++ number_after word.SentLine s.sent

-- The text in which the status of a library is told (profile).
use Rattle.std.specs.Prelude.{ℕ, List, ◌++◌}
use Rattle.library_status.specs.Json.{library_json}
use Rattle.library_status.specs.Picture.{picture}
use Rattle.library_status.specs.Words.{word_text}
use Rattle.library_status.specs.declared.word.Word.TheVariants as word
use Rattle.library_status.specs.declared.summary.LibrarySummary.{LibrarySummary}
use Rattle.library_status.specs.declared.summary.ServerSummary.{ServerSummary}
use Rattle.library_status.specs.declared.summary.SessionSummary.{SessionSummary}

-- a line of JSON, and then a picture
unfoldable pub status_lines : LibrarySummary → List SessionSummary → ServerSummary → List ℕ
status_lines l sessions server = library_json l sessions server ++ word_text word.EndOfLine ++ picture l sessions server

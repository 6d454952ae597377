-- What is told of a library at its control socket.
use Rattle.std.specs.Prelude.{◌≡◌, ℕ, List}
use Rattle.scsi_cdb.specs.declared.profile.Profile.{Profile}
use Rattle.library_status.specs.Text.{status_lines}
use Rattle.library_status.specs.declared.summary.LibrarySummary.{LibrarySummary}
use Rattle.library_status.specs.declared.summary.ServerSummary.{ServerSummary}
use Rattle.library_status.specs.declared.summary.SessionSummary.{SessionSummary}
use Rattle.status_reader.specs.Summaries.{AreShown}

-- a line of JSON and a picture, which say of each unit of a library what was there while its lock was held, what sessions go on, and how
-- the server stands
pub record IsStatus (p : Profile) (units : ℕ) (text : List ℕ) : Type 0 where
  pub library : LibrarySummary
  pub sessions : List SessionSummary
  pub server : ServerSummary
  pub profile : library.profile ≡ p
  pub shown : AreShown p units library.units.items
  pub lines : text ≡ status_lines library sessions server

-- What is answered to a request for metrics (RFC 9110, and Prometheus' text format).
use Rattle.std.specs.Prelude.{◌≡◌, ℕ, List, [], ◌∷◌, codes, if◌then◌else◌}
use Rattle.std.specs.Str.{bytes_eq}
use Rattle.scsi_cdb.specs.declared.profile.Profile.{Profile}
use Rattle.http1.specs.Fields.{Header}
use Rattle.http_server.specs.Response.{IsResponse}
use Rattle.http_server.specs.declared.response.Response.{Response}
use Rattle.record_lines.specs.Counts.{Counts}
use Rattle.library_status.specs.declared.summary.LibrarySummary.{LibrarySummary}
use Rattle.library_status.specs.declared.summary.ServerSummary.{ServerSummary}
use Rattle.status_reader.specs.Summaries.{AreShown}
use Rattle.metrics_text.specs.Text.{metrics}
use Rattle.metrics_text.specs.declared.server_counts.ServerCounts.{ServerCounts}
use Rattle.library_server.specs.declared.metrics_page.Wanted.{Wanted}
use Rattle.library_server.specs.declared.metrics_page.Wanted.TheVariants as wanted

-- metrics, which say of each unit of a library what was there while its lock was held, and how the server stands
pub record IsMetrics (p : Profile) (units : ℕ) (text : List ℕ) : Type 0 where
  pub counts : Counts
  pub library : LibrarySummary
  pub server : ServerSummary
  pub server_counts : ServerCounts
  pub profile : library.profile ≡ p
  pub shown : AreShown p units library.units.items
  pub lines : text ≡ metrics counts library server server_counts

-- the headers of a page of metrics: its format, and that the connection ends behind it
abbrev pub page_headers : List Header
page_headers = (codes "content-type", codes "text/plain; version=0.0.4") ∷ (codes "connection", codes "close") ∷ []

-- only GET is known there
abbrev pub method_headers : List Header
method_headers = (codes "allow", codes "GET") ∷ (codes "connection", codes "close") ∷ []

abbrev pub refusal_headers : List Header
refusal_headers = (codes "connection", codes "close") ∷ []

-- which page is wanted by a method and a path
abbrev pub wanted_by : (method path : List ℕ) → Wanted
wanted_by method path =
    if bytes_eq path (codes "/metrics") then (if bytes_eq method (codes "GET") then wanted.Metrics else wanted.OtherMethod) else wanted.OtherPage

-- metrics, or a status alone (RFC 9110, "405 Method Not Allowed" and "404 Not Found")
abbrev pub IsPage : Profile → (units : ℕ) → Wanted → Response → Type 0
IsPage p units wanted.Metrics response = (text : List ℕ) × IsMetrics p units text × IsResponse 200 page_headers text response
IsPage p units wanted.OtherMethod response = IsResponse 405 method_headers [] response
IsPage p units wanted.OtherPage response = IsResponse 404 refusal_headers [] response

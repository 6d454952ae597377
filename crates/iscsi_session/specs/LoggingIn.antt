-- The login of a connection (RFC 7143, "Login Phase").
use Rattle.std.specs.Prelude.{◌≡◌, ℕ, List, [], ◌∷◌, drop, Option}
use Rattle.std.specs.Io.KnownBytes.{Consumes}
use Rattle.scsi_nexus.specs.declared.nexus.Nexus.{Nexus}
use Rattle.iscsi_pdu.specs.declared.initiator_header.InitiatorHeader.TheVariants as sent
use Rattle.iscsi_pdu.specs.Pdus.{InitiatorPduValue}
use Rattle.iscsi_chap.specs.Accesses.{sas_of_admission}
use Rattle.iscsi_login.specs.ExchangeRuns.{exchanged}
use Rattle.iscsi_login.specs.Exchanges.{ExchangeValue}
use Rattle.iscsi_login.specs.Runs.{Coming}
use Rattle.iscsi_login.specs.declared.login.FullFeature.{FullFeature}
use Rattle.iscsi_login.specs.declared.login.Login.TheVariants.{Ended}
use Rattle.iscsi_login.specs.declared.login.LoginEnd.TheVariants as ends
use Rattle.iscsi_login.specs.declared.progress.LoginProgress.{LoginProgress}
use Rattle.iscsi_login.specs.declared.progress.LoginProgress.TheVariants as progress
use Rattle.iscsi_login.specs.declared.target.LoginTarget.{LoginTarget}
use Rattle.iscsi_session.specs.Talking.{BeginsWith}
use Rattle.iscsi_session.specs.declared.login.LoginWait.{LoginWait}
use Rattle.iscsi_session.specs.declared.login.LoginWait.TheVariants as wait

-- a stream begins with these Login Requests, each with its data segment, and this is the rest
abbrev pub Requests : List Coming → (bytes rest : List ℕ) → Type 0
Requests [] bytes rest = rest ≡ bytes
Requests (c ∷ cs) bytes rest =
    (p : InitiatorPduValue) × (size : ℕ) × BeginsWith bytes p size × (p.header ≡ sent.LoginRequest c.request)
    × (p.payload ≡ c.text) × Requests cs (drop size bytes) rest

-- an exchange takes them
pub record Exchanges (target : LoginTarget) (e e' : ExchangeValue) (bytes rest : List ℕ) : Type 0 where
  pub comings : List Coming
  pub requests : Requests comings bytes rest
  pub exchanged_is : e' ≡ exchanged target e comings

-- as they are read
pub record LogsIn (target : LoginTarget) (e e' : ExchangeValue) (left left' : Option (List ℕ)) (rest : List ℕ) : Type 0 where
  pub read : List ℕ
  pub consumed : Consumes left left' read
  pub exchanges : Exchanges target e e' read rest

-- full feature is reached with this session
abbrev pub HasReached : ExchangeValue → FullFeature → Type 0
HasReached e begun = e.login ≡ Ended (ends.FullFeature begun)

-- where a request asks for the last response
abbrev pub WhereBegins : LoginProgress → (FullFeature → Type 0) → Type 0
WhereBegins progress.Answered P = Unit {0}
WhereBegins (progress.Begins begun) P = P begun
WhereBegins (progress.Refused status) P = Unit {0}

-- where a login isn't refused
abbrev pub UnlessRefused : LoginProgress → Type 0 → Type 0
UnlessRefused progress.Answered P = P
UnlessRefused (progress.Begins begun) P = P
UnlessRefused (progress.Refused status) P = Unit {0}

-- where a login has come to its last response
abbrev pub WhereBegun : LoginWait → (FullFeature → Type 0) → Type 0
WhereBegun (wait.Begins begun turns) P = P begun
WhereBegun (wait.Ended end) P = Unit {0}

-- the nexus of an initiator that was let in, at a port
abbrev pub nexus_of : (port : ℕ) → FullFeature → Nexus
nexus_of port begun = record { sas = sas_of_admission begun.admission; port = port }

-- The stages of a login: which it begins in, and which leads to which, none of them back (RFC 7143, "Login Phase").
use Rattle.std.specs.Prelude.{◌==◌, Bool, true, false, Option, Some, None}
use Rattle.iscsi_pdu.specs.Codes.{stage_code}
use Rattle.iscsi_pdu.specs.declared.stage.Stage.{Stage}
use Rattle.iscsi_pdu.specs.declared.stage.Stage.TheVariants as stage

abbrev pub begins : Stage → Bool
begins stage.SecurityNegotiation = true
begins stage.LoginOperationalNegotiation = true
begins stage.FullFeaturePhase = false
begins stage.Reserved = false

abbrev pub leads_to : (current next : Stage) → Bool
leads_to stage.SecurityNegotiation stage.LoginOperationalNegotiation = true
leads_to stage.SecurityNegotiation stage.FullFeaturePhase = true
leads_to stage.LoginOperationalNegotiation stage.FullFeaturePhase = true
leads_to _ _ = false

-- before the first request none is awaited
abbrev pub is_awaited : Option Stage → (current : Stage) → Bool
is_awaited None current = begins current
is_awaited (Some awaited) current = stage_code awaited == stage_code current

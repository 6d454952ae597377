-- What a login agrees upon, key by key, and in which ranges it stays.
use Rattle.std.specs.Prelude.{ℕ, ◌≤◌, true, Option, Some, min}
use Rattle.iscsi_keys.specs.declared.key.Key.{Key}
use Rattle.iscsi_keys.specs.declared.key.Key.TheVariants as key
use Rattle.iscsi_keys.specs.declared.answer.KeyAnswer.{KeyAnswer}
use Rattle.iscsi_keys.specs.declared.answer.KeyAnswer.TheVariants as answer
use Rattle.iscsi_keys.specs.declared.parameters.SessionParameters.{SessionParameters}

-- what holds where a login says nothing (RFC 7143, "Login/Text Operational Text Keys")
abbrev pub defaults : SessionParameters
defaults = record {
  max_send_data_segment_length = 8192;
  max_burst_length = 262144;
  first_burst_length = 65536;
  initial_r2t = true;
  immediate_data = true;
  default_time2wait = 2;
}

-- an initiator's own length, once the key was taken
abbrev pub with_length : SessionParameters → KeyAnswer → (declared : Option ℕ) → SessionParameters
with_length p (answer.Number own) (Some length) = record p { max_send_data_segment_length = length }
with_length p _ _ = p

-- the first burst is never longer than a burst
abbrev pub with_burst : SessionParameters → KeyAnswer → SessionParameters
with_burst p (answer.Number length) = record p { max_burst_length = length; first_burst_length = min p.first_burst_length length }
with_burst p _ = p

abbrev pub with_first_burst : SessionParameters → KeyAnswer → SessionParameters
with_first_burst p (answer.Number length) = record p { first_burst_length = length }
with_first_burst p _ = p

abbrev pub with_r2t : SessionParameters → KeyAnswer → SessionParameters
with_r2t p (answer.Boolean said) = record p { initial_r2t = said }
with_r2t p _ = p

abbrev pub with_immediate : SessionParameters → KeyAnswer → SessionParameters
with_immediate p (answer.Boolean said) = record p { immediate_data = said }
with_immediate p _ = p

abbrev pub with_wait : SessionParameters → KeyAnswer → SessionParameters
with_wait p (answer.Number seconds) = record p { default_time2wait = seconds }
with_wait p _ = p

abbrev pub agreed : SessionParameters → Key → KeyAnswer → (declared : Option ℕ) → SessionParameters
agreed p key.MaxRecvDataSegmentLength answer declared = with_length p answer declared
agreed p key.MaxBurstLength answer declared = with_burst p answer
agreed p key.FirstBurstLength answer declared = with_first_burst p answer
agreed p key.InitialR2t answer declared = with_r2t p answer
agreed p key.ImmediateData answer declared = with_immediate p answer
agreed p key.DefaultTime2Wait answer declared = with_wait p answer
agreed p _ answer declared = p

-- in their ranges (RFC 7143), and no longer than the target takes
pub record AreInRange (p : SessionParameters) : Type 0 where
  pub some_segment : 512 ≤ p.max_send_data_segment_length
  pub short_segment : p.max_send_data_segment_length ≤ 16777215
  pub some_burst : 512 ≤ p.max_burst_length
  pub short_burst : p.max_burst_length ≤ 1048576
  pub some_first_burst : 512 ≤ p.first_burst_length
  pub short_first_burst : p.first_burst_length ≤ 262144
  pub first_within_burst : p.first_burst_length ≤ p.max_burst_length
  pub short_wait : p.default_time2wait ≤ 3600

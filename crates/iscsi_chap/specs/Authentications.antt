-- What an initiator must show of itself, and whether it has (RFC 7143, "Security Negotiation").
use Rattle.std.specs.Prelude.{ℕ, Bool, true, false, Option, Some, None}
use Rattle.iscsi_keys.specs.declared.word.Word.{Word}
use Rattle.iscsi_keys.specs.declared.word.Word.TheVariants as word
use Rattle.iscsi_chap.specs.declared.authentication.Authentication.{Authentication}
use Rattle.iscsi_chap.specs.declared.authentication.Authentication.TheVariants as authentication
use Rattle.iscsi_chap.specs.declared.phase.ChapPhase.{ChapPhase}
use Rattle.iscsi_chap.specs.declared.phase.ChapPhase.TheVariants as phase

abbrev pub method_of : Authentication → Word
method_of authentication.None = word.None
method_of (authentication.Chap access) = word.Chap

abbrev pub is_passed : ChapPhase → Bool
is_passed phase.Unasked = false
is_passed (phase.Challenged algorithm) = false
is_passed (phase.Passed place) = true

abbrev pub passed_by : ChapPhase → Option ℕ
passed_by phase.Unasked = None
passed_by (phase.Challenged algorithm) = None
passed_by (phase.Passed place) = Some place

-- with no more to show
abbrev pub is_free : Authentication → ChapPhase → Bool
is_free authentication.None p = true
is_free (authentication.Chap access) p = is_passed p

-- the place among the secrets of the entry that was shown
abbrev pub proved_by : Authentication → ChapPhase → Option ℕ
proved_by authentication.None p = None
proved_by (authentication.Chap access) p = passed_by p

-- Texts that come in pieces, and what is left of the answer to one (RFC 7143, "Text Request").
use Rattle.std.specs.Prelude.{ℕ, ◌+◌, ◌==◌, nat_le, Bool, true, false, not, ◌&&◌, ◌||◌, List, [], ◌++◌, length, drop, Option, None, if◌then◌else◌}
use Rattle.iscsi_answers.specs.Texts.{text_items}
use Rattle.iscsi_chap.specs.declared.session_type.SessionType.{SessionType}
use Rattle.iscsi_chap.specs.declared.session_type.SessionType.TheVariants.{Normal, Discovery}

-- what has come of a text whose end hasn't; the answer to one that was whole, and how much of it was sent; and the target transfer tag by which
-- either goes on
pub record OpenTextValue : Type 0 where
  pub gathered : List ℕ
  pub answer : List ℕ
  pub sent : ℕ
  pub tag : Option ℕ

abbrev pub nothing_open : OpenTextValue
nothing_open = record { gathered = []; answer = []; sent = 0; tag = None }

abbrev pub left_of : OpenTextValue → List ℕ
left_of t = drop t.sent t.answer

-- C excludes F; no text comes before the answer to the one before it is sent; and all pieces of a text have 65,536 bytes at most
abbrev pub may_come : OpenTextValue → (final continues : Bool) → (count : ℕ) → Bool
may_come t final continues count =
    nat_le (length t.gathered + count) 65536
    && not (continues && final)
    && ((length (left_of t) == 0) || (not continues && (count == 0)))

abbrev pub with_piece : OpenTextValue → (payload : List ℕ) → OpenTextValue
with_piece t payload = record t { gathered = t.gathered ++ payload }

abbrev pub is_discovery : SessionType → Bool
is_discovery Normal = false
is_discovery Discovery = true

-- a text that is whole is answered once, key by key; while something is left of an answer no other is made
abbrev pub answered_whole : (discovery : Bool) → (name targets : List ℕ) → OpenTextValue → OpenTextValue
answered_whole discovery name targets t =
    if length (left_of t) == 0 then record { gathered = []; answer = text_items discovery name targets t.gathered; sent = 0; tag = t.tag }
    else t

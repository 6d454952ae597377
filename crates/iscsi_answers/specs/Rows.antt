-- Values of worked rows.
use Rattle.std.specs.Prelude.{ℕ, ◌+◌, zero, suc, List, [], ◌∷◌, ◌++◌}
use Rattle.iscsi_keys.specs.Texts.{item_bytes}

-- so many items, each under a key of one byte, from 65 on
abbrev pub numbered : (count : ℕ) → List ℕ
numbered zero = []
numbered (suc before) = numbered before ++ item_bytes ((65 + before) ∷ []) []

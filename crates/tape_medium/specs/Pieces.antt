-- The bytes of a tape's blocks, in pieces of memory.
use Rattle.std.specs.Prelude.{◌≡◌, ℕ, ◌+◌, ◌-◌, ◌≤◌, suc, List, [], ◌∷◌, ◌++◌, length, take}

-- a piece: how many bytes lie in those before it, its own bytes, and for how many it has room
pub record PieceView : Type 0 where
  pub before : ℕ
  pub bytes : List ℕ
  pub room : ℕ

-- the bytes of all pieces, one piece after another
abbrev pub contents : List PieceView → List ℕ
contents [] = []
contents (p ∷ ps) = p.bytes ++ contents ps

-- how many bytes the first pieces have
abbrev pub begin : List PieceView → ℕ → ℕ
begin ps count = length (contents (take count ps))

-- each piece knows how many bytes lie before it
abbrev pub IsLaid : ℕ → List PieceView → Type 0
IsLaid start [] = Unit {0}
IsLaid start (p ∷ ps) = (p.before ≡ start) × IsLaid (start + length p.bytes) ps

-- the bytes from one place to another lie in the piece behind the first so many
pub record IsHome (ps : List PieceView) (home start end : ℕ) : Type 0 where
  pub within : home ≤ length ps
  pub from : begin ps home ≤ start
  pub to : end ≤ begin ps (suc home)

-- bytes put into a piece behind its first ones, up to a place, in place of what lay there
abbrev pub behind : PieceView → ℕ → List ℕ → PieceView
behind p end more = record p { bytes = take (end - p.before) p.bytes ++ more }

-- a piece begins there, behind so many bytes, with bytes of its own
abbrev pub IsBegun : (at before : ℕ) → List ℕ → (old new : List PieceView) → Type 0
IsBegun at before more old new =
    (room : ℕ) × (take (at + 1) new ≡ take at old ++ record { before = before; bytes = more; room = room } ∷ [])

-- the first bytes stay, each in its piece, and others lie behind them, in one piece, in place of what lay there
pub record IsPut (old new : List PieceView) (home end home' : ℕ) (more : List ℕ) : Type 0 where
  pub bytes : contents new ≡ take end (contents old) ++ more
  pub put : IsHome new home' end (end + length more)
  pub order : home ≤ home'
  pub stay : (j start stop : ℕ) → j ≤ home → stop ≤ end → IsHome old j start stop → IsHome new j start stop

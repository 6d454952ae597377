-- What replaces the objects of an image behind the first that stay.
use Rattle.std.specs.Prelude.{◌≡◌, ◌⊎◌, ℕ, ◌+◌, List, ◌++◌, length, take, Option}
use Rattle.tape_flush.specs.declared.known.Known.{Known}
use Rattle.tape_flush.specs.Stores.{Truncates, Replaces}
use Rattle.tape_flush.specs.Watched.{IsEmptyAt, Same}
use Rattle.tape_flush.specs.Images.{TapePartValue, end_at}

-- the file ends behind the objects that stay, since it was cut back or ended there before
pub record CutsBack (stay : ℕ) (ends ends' : List ℕ) (known : Known) (old new : Option (List ℕ)) : Type 0 where
  pub ends_are : ends' ≡ take stay ends
  pub empty : IsEmptyAt (end_at ends stay) known
  pub contents : Truncates (end_at ends stay) old new ⊎ Same old new

-- a part was added behind them
pub record IsReplaced (stay : ℕ) (part : TapePartValue) (ends ends' : List ℕ) (known : Known) (old new : Option (List ℕ)) : Type 0 where
  pub ends_are : ends' ≡ take stay ends ++ part.ends
  pub empty : IsEmptyAt (end_at ends stay + length part.bytes) known
  pub contents : Replaces (end_at ends stay) old new part.bytes

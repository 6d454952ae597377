-- The file of a volume, as callers see it.
use Rattle.std.specs.Prelude.{ℕ, Bool, true, false, List}
use Rattle.media_folder.specs.declared.store.FileAccess.{FileAccess}
use Rattle.media_folder.specs.declared.store.FileAccess.TheVariants.{ReadWrite, ReadOnly}

-- its path, and what may be done with it
pub record FileStoreValue : Type 0 where
  pub path : List ℕ
  pub access : FileAccess

abbrev pub is_read_only : FileAccess → Bool
is_read_only ReadWrite = false
is_read_only ReadOnly = true

-- A file in memory.
use Rattle.std.specs.Prelude.{[], ◌∷◌, length, take}
use Rattle.tape_flush.specs.declared.memory.MemoryStore.{MemoryStore}
use Rattle.tape_flush.specs.Stores.{FileValue, file_value}

abbrev pub memory_file : MemoryStore → FileValue
memory_file store = file_value store.bytes.items (length store.bytes.items) (take store.synced store.bytes.items) (store.noted ∷ [])

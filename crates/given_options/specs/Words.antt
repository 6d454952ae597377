-- Why a word isn't one that an option may have (profile).
use Rattle.std.specs.Prelude.{ℕ, ◌≡◌, List, string_bytes}
use Rattle.program_options.specs.declared.option_fault.OptionFault.{OptionFault}
use Rattle.given_options.specs.declared.word_fault.WordFault.{WordFault}
use Rattle.given_options.specs.declared.word_fault.WordFault.TheVariants.{NoMemory, NoWords, Options, Word}

-- the word with its fault, unless memory is refused
abbrev pub IsRefusal : (fault : OptionFault) → (word : List ℕ) → WordFault → Type 0
IsRefusal fault word NoMemory = Unit {0}
IsRefusal fault word NoWords = ⊥
IsRefusal fault word (Options other) = ⊥
IsRefusal fault word (Word found text) = (found ≡ fault) × (string_bytes text ≡ word)

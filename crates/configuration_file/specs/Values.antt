-- What a value of a file says of an option: outside `None` where it isn't one that the option may have, inside `None` where there is no
-- value (profile).
use Rattle.std.specs.Prelude.{ℕ, ℤ, ◌≡◌, ◌&&◌, int_le, unsigned_abs, Bool, List, pos, Option, Some, None, Result, option_and_then, option_map, if◌then◌else◌}
use Rattle.std.specs.Result.{result_ok}
use Rattle.std.specs.Net.Grammar.{IsSocketText}
use Rattle.std.specs.declared.net.socket_addr.SocketAddr.{SocketAddr}
use Rattle.iscsi_keys.specs.IscsiNames.{is_iscsi_name}
use Rattle.program_options.specs.declared.option_fault.OptionFault.{OptionFault}
use Rattle.toml.specs.Data.{Data, as_bool, as_integer, as_str}

-- what a value is read as, if there is a value
abbrev pub said_by : {A : Type 0} → (read : Data → Option A) → Option Data → Option (Option A)
said_by read None = Some None
said_by read (Some value) = option_map Some (read value)

-- a number from the least to the most
abbrev pub number_of : (least most : ℕ) → Option ℤ → Option ℕ
number_of least most None = None
number_of least most (Some z) = if int_le (pos least) z && int_le z (pos most) then Some (unsigned_abs z) else None

-- what is read of a text, if it is one
abbrev pub word_of : {A : Type 0} → (read : List ℕ → Result A OptionFault) → Option (List ℕ) → Option A
word_of read text = option_and_then (λ s. result_ok (read s)) text

-- the name of a target
abbrev pub name_of : Option (List ℕ) → Option (List ℕ)
name_of text = option_and_then (λ s. if is_iscsi_name s then Some s else None) text

-- true or false; a whole number in a range; a text; a text that is read as on the command line; the name of a target
abbrev pub switch_said : Option Data → Option (Option Bool)
switch_said value = said_by as_bool value

abbrev pub number_said : (least most : ℕ) → Option Data → Option (Option ℕ)
number_said least most value = said_by (λ d. number_of least most (as_integer d)) value

abbrev pub text_said : Option Data → Option (Option (List ℕ))
text_said value = said_by as_str value

abbrev pub word_said : {A : Type 0} → (read : List ℕ → Result A OptionFault) → Option Data → Option (Option A)
word_said read value = said_by (λ d. word_of read (as_str d)) value

abbrev pub name_said : Option Data → Option (Option (List ℕ))
name_said value = said_by (λ d. name_of (as_str d)) value

-- an IP address with a port
abbrev pub IsAddressSaid : Option Data → Option SocketAddr → Type 0
IsAddressSaid None None = Unit {0}
IsAddressSaid None (Some address) = ⊥
IsAddressSaid (Some value) None = ⊥
IsAddressSaid (Some value) (Some address) = (text : List ℕ) × (as_str value ≡ Some text) × IsSocketText text address

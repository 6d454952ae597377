-- Where no key is unknown, each is one of an option.
use Rattle.std.proofs.Common.{◌≡◌, Bool, true, false, not, ◌&&◌, List, [], ◌∷◌, Option, Some, None, String, Global, if◌then◌else◌, string_bytes, refl}
use Rattle.std.specs.Prelude.{find}
use Rattle.std.specs.Map.{keys_of}
use Rattle.toml.specs.View.{members_view}
use Rattle.toml.specs.declared.value.Value.{Value}
use Rattle.given_options.specs.declared.key.ServeKey.{ServeKey}
use Rattle.configuration_file.specs.Says.{are_keys, is_key}

-- one more key
known_step : {A : Type 0} (known : Bool) (x : A) (o : Option A) (rest : Bool) → (if not known then Some x else o) ≡ None → (o ≡ None → rest ≡ true) → (known && rest) ≡ true
known_step true x o rest none more = more none
known_step false x o rest none more = absurd cc

pub all_known : (keys : List ServeKey) (es : List (String Global × Value)) → find (λ name. not (is_key keys (string_bytes name))) (keys_of es) ≡ None → are_keys keys (members_view es) ≡ true
all_known keys [] none = refl
all_known keys (e ∷ es) none = known_step (is_key keys (string_bytes e.0)) e.0 _ _ none (all_known keys es)

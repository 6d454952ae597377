-- The length of each command's CDB is that of its group code.
use Rattle.std.proofs.Common.{◌≡◌, ◌==◌, ◌/◌, ◌&&◌, ℕ, Bool, true, false, cond, List, [], ◌∷◌, Option, Some, None, refl, sym, ap, ◌∙◌, IfSome, is_some}
use Rattle.std.proofs.lemmas.Bool.{and_parts, eqb-true}
use Rattle.std.specs.List.{list_all}
use Rattle.std.specs.Option.{option_map}
use Rattle.scsi_cdb.specs.Commands.{Row, table, had, has, command_of, length_of_group}
use Rattle.scsi_cdb.specs.declared.kind.Kind.{Kind}
use Rattle.scsi_cdb.specs.declared.profile.Profile.{Profile}
use Rattle.scsi_cdb.specs.declared.profile.Profile.TheVariants.{Spec, Hosts}

abbrev agrees : Row → Bool
agrees r = r.length == length_of_group (r.opcode / 32)

-- the row that is found agrees at the code that was looked for
here : (r : Row) (opcode : ℕ) → agrees r ≡ true → (r.opcode == opcode) ≡ true → r.length ≡ length_of_group (opcode / 32)
here r opcode a is = eqb-true r.length (length_of_group (r.opcode / 32)) a ∙ ap (λ (k : ℕ). length_of_group (k / 32)) (eqb-true r.opcode opcode is)

by_test : (r : Row) (rest : Option Row) (opcode : ℕ) (b c : Bool) → (r.opcode == opcode) ≡ b → agrees r ≡ true
    → IfSome rest (λ (x : Row). x.length ≡ length_of_group (opcode / 32))
    → IfSome (cond (b && c) (Some r) rest) (λ (x : Row). x.length ≡ length_of_group (opcode / 32))
by_test r rest opcode true true is a others = here r opcode a is
by_test r rest opcode true false is a others = others
by_test r rest opcode false c is a others = others

among : (rows : List Row) (kind : Kind) (opcode : ℕ) → list_all agrees rows ≡ true
    → IfSome (had kind opcode rows) (λ (r : Row). r.length ≡ length_of_group (opcode / 32))
among [] kind opcode all = tt
among (r ∷ rows) kind opcode all =
    let parts = and_parts (agrees r) (list_all agrees rows) all in
    by_test r (had kind opcode rows) opcode (r.opcode == opcode) (has r.units kind) refl parts.0 (among rows kind opcode parts.1)

length_of_command : (profile : Profile) (kind : Kind) (opcode : ℕ) → IfSome (command_of profile kind opcode) (λ (r : Row). r.length ≡ length_of_group (opcode / 32))
unfolding command_of
length_of_command Spec kind opcode = among (table Spec) kind opcode refl
length_of_command Hosts kind opcode = among (table Hosts) kind opcode refl

of_row : (o : Option Row) (n : ℕ) → IfSome o (λ (r : Row). r.length ≡ n) → is_some o ≡ true → Some n ≡ option_map (λ (x : Row). x.length) o
of_row None n e h = absurd cc
of_row (Some r) n e h = ap (λ (k : ℕ). Some k) (sym e)

-- of a command that the kind of unit has, and of none
pub length_where_had : (profile : Profile) (kind : Kind) (opcode : ℕ) → is_some (command_of profile kind opcode) ≡ true
    → Some (length_of_group (opcode / 32)) ≡ option_map (λ (x : Row). x.length) (command_of profile kind opcode)
length_where_had profile kind opcode h = of_row (command_of profile kind opcode) _ (length_of_command profile kind opcode) h

none_of : (o : Option Row) → is_some o ≡ false → None ≡ option_map (λ (x : Row). x.length) o
none_of None h = refl
none_of (Some r) h = absurd cc

pub no_length : (profile : Profile) (kind : Kind) (opcode : ℕ) → is_some (command_of profile kind opcode) ≡ false → None ≡ option_map (λ (x : Row). x.length) (command_of profile kind opcode)
no_length profile kind opcode h = none_of (command_of profile kind opcode) h

-- A volume that was taken out at a source goes into an empty destination.
use Rattle.std.proofs.Common.{◌≡◌, ℕ, false, Option, Some, None, Result, Ok, Err, is_some, option_map, refl, ap, sym, subst, ◌∙◌}
use Rattle.tape_medium.specs.declared.volume.Volume.{Volume}
use Rattle.tape_medium.specs.declared.elements.MapFault.{MapFault}
use Rattle.tape_medium.proofs.ElementLemmas.{element_at-holding, held_in-holding}
use Rattle.tape_medium.specs.Elements.{Elements, Element, element_at, held_in, holding, taken, put, takes, puts, moved, moves}

-- what a take gives, or else `other`
abbrev given : Result (Elements × Volume) MapFault → Elements × Volume → Elements × Volume
given (Ok both) other = both
given (Err fault) other = other

-- what is left after a take
taken-after : (e after : Elements) (from : Element) (held : Option (Option Volume)) (volume : Volume) → taken e from held ≡ Ok (after, volume) → after ≡ holding e from None
taken-after e after from None volume h = cc
taken-after e after from (Some None) volume h = cc
taken-after e after from (Some (Some other)) volume h = sym (ap (λ (r : Result (Elements × Volume) MapFault). (given r (after, volume)).0) h)

-- a place that is not full is empty
empty_place : (held : Option (Option Volume)) → option_map is_some held ≡ Some false → held ≡ Some None
empty_place None h = cc
empty_place (Some None) h = refl
empty_place (Some (Some volume)) h = cc

-- the destination takes the volume
pub put_after : (e after : Elements) (source destination : ℕ) (volume : Volume) → takes e source ≡ Ok (after, volume)
    → option_map is_some (held_in e (element_at e destination)) ≡ Some false
    → puts after destination volume ≡ Ok (holding after (element_at e destination) (Some volume))
put_after e after source destination volume take empty =
    let from = element_at e source in
    let to = element_at e destination in
    let rest : after ≡ holding e from None = taken-after e after from (held_in e from) volume take in
    let same : element_at after destination ≡ to = ap (λ left. element_at left destination) rest ∙ element_at-holding e from None destination in
    let still : held_in after to ≡ Some None = ap (λ left. held_in left to) rest ∙ held_in-holding e from to (empty_place (held_in e to) empty) in
    ap (λ at. put after at volume (held_in after at)) same ∙ ap (put after to volume) still

abbrev moved_to : Elements → Result Elements MapFault
moved_to e = Ok e

-- and so the move is done
moved_into : (e after new : Elements) (from to : Element) (held there : Option (Option Volume)) (volume : Volume) → taken e from held ≡ Ok (after, volume) → there ≡ Some None → moved_to new ≡ moved_to (holding after to (Some volume))
    → moved e from held to there ≡ Ok new
moved_into e after new from to None there volume take empty done = cc
moved_into e after new from to (Some None) there volume take empty done = cc
moved_into e after new from to (Some (Some other)) there volume take empty done =
    let rest : after ≡ holding e from None = taken-after e after from (Some (Some other)) volume take in
    let same : other ≡ volume = ap (λ (r : Result (Elements × Volume) MapFault). (given r (after, volume)).1) take in
    subst (λ (t : Option (Option Volume)). moved e from (Some (Some other)) to t ≡ Ok new) (sym empty)
    (ap (λ (v : Volume). Ok (holding (holding e from None) to (Some v))) same ∙ ap (λ (left : Elements). Ok (holding left to (Some volume))) (sym rest) ∙ sym done)

pub moved_over : (e after new : Elements) (source destination : ℕ) (volume : Volume) → takes e source ≡ Ok (after, volume)
    → option_map is_some (held_in e (element_at e destination)) ≡ Some false
    → puts after destination volume ≡ Ok new → moves e source destination ≡ Ok new
moved_over e after new source destination volume take empty done =
    moved_into e after new (element_at e source) (element_at e destination) (held_in e (element_at e source)) (held_in e (element_at e destination)) volume take (empty_place (held_in e (element_at e destination)) empty)
    (sym done ∙ put_after e after source destination volume take empty)

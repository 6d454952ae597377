-- Which fault is told of those of workers.
use Rattle.std.proofs.Common.{◌≡◌, ◌∙◌, refl, sym, ap, List, [], ◌∷◌, ◌++◌, map, Option, None}
use Rattle.std.proofs.lemmas.List.{map-append}
use Rattle.server.specs.declared.faulty_session.FaultySession.{FaultySession}
use Rattle.server.specs.Faults.{first_accepted, first_among}

among_more : (told : Option FaultySession) (faults : List (Option FaultySession)) (f : Option FaultySession) → first_among told (faults ++ f ∷ []) ≡ first_accepted (first_among told faults) f
among_more told [] f = refl
among_more told (g ∷ faults) f = among_more (first_accepted told g) faults f

-- of one worker more the first fault is told
pub told_more : {W : Type 0} (fault : W → Option FaultySession) (told told' : Option FaultySession) (workers : List W) (w : W) → told ≡ first_among None (map fault workers) → told' ≡ first_accepted told (fault w)
    → told' ≡ first_among None (map fault (workers ++ w ∷ []))
told_more fault told told' workers w before is =
    is
    ∙ ap (λ (t : Option FaultySession). first_accepted t (fault w)) before
    ∙ sym (among_more None (map fault workers) (fault w))
    ∙ ap (λ (fs : List (Option FaultySession)). first_among None fs) (sym (map-append fault workers (w ∷ [])))

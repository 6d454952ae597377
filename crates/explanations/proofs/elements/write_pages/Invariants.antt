use Rattle.std.proofs.Common.{◌≡◌, ◌-◌, ◌++◌}
use Rattle.explanations.specs.ElementWords.{pages}
use Rattle.explanations.proofs.elements.write_pages.Given as goal

-- what is written, and what the pages that are left say
abbrev pub invariant-pages : goal.invariant-pages
invariant-pages l =
    l.line.items ++ pages (l.place-end - l.place) l.rest ≡ l.initial.line.items ++ pages l.place-end l.initial.rest

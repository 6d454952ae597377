use Rattle.std.proofs.Common.{◌≡◌, ap, sym, inl, inr, ◌∙◌, Bool, true, false, ◌&&◌, ◌==◌}
use Rattle.std.proofs.lemmas.Bool.{eq-eqb}
use Rattle.scsi_nexus.specs.declared.nexus.Nexus.{Nexus}
use Rattle.slab.proofs.SlabLemmas.{Contains-cons, Contains-cons_cases, Contains-entries}
use Rattle.session.proofs.directory.key_of.Goals as goal

-- a nexus is its own
unlike : (m n : Nexus) → m ≡ n → ((m.sas == n.sas) && (m.port == n.port)) ≡ false → ⊥
unlike m n same e =
    let sas : (m.sas == n.sas) ≡ true = eq-eqb m.sas n.sas (ap (λ (x : Nexus). x.sas) same) in
    let port : (m.port == n.port) ≡ true = eq-eqb m.port n.port (ap (λ (x : Nexus). x.port) same) in
    let clash : true ≡ false = sym (ap (λ (b : Bool). b && (m.port == n.port)) sas ∙ port) ∙ e in
    absurd cc

pub entries-init : goal.entries-init
entries-init c =
    let left = c.into_iter-key-iterator.ensures.into_iter_gives ∙ c.iter-key-items.ensures.rest in (
      tt,
      tt,
      λ key found. rw left ((Contains-entries c.args.nexuses.now key c.args.nexus).1 found),
      λ key there. (Contains-entries c.args.nexuses.now key c.args.nexus).0 (rw left at there),
    )

pub entries-preserved : goal.entries-preserved
entries-preserved c =
    let at = c.in-Some.ensures.steps in (
      tt,
      tt,
      λ key found. elim (Contains-cons_cases _ _ _ (rw at at (c.entries.invariant.2 key found))) [
        | inl same ↦ absurd (unlike _ _ (ap (λ e. e.1) same) (sym c.eq.ensures ∙ c.if-eq.false))
        | inr rest ↦ rest
      ],
      λ key there. c.entries.invariant.3 key (rw at (Contains-cons _ _ _ there)),
    )

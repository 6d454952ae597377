use Rattle.std.proofs.Common.{true, false, sym, subst, ◌∙◌, ap, inl, inr}
use Rattle.pr_core.specs.State.{takes, is_all_held, IsKeyed}
use Rattle.std.specs.FinMap.{put}
use Rattle.scsi_nexus.specs.Order.{nexus_cmp}
use Rattle.pr_core.specs.Acts.{act_shown, Register, Reserve, Release, Clear, Preempt, Move}
use Rattle.pr_core.proofs.Steps.{fits, leaves, registered_all, cleared, preempted_all, preempted_others, preempted_key, moved, moved_away, kept_reserve, kept_release}
use Rattle.pr_core.proofs.state.PrState.change_keys.Goals as goal

pub register_all-requires : goal.register_all-requires
register_all-requires c = (fits _ _ c.args.sender (Register c.in-Register.key c.in-Register.targets.now) _ _ c.self.view_is (ap act_shown c.in-Register.is) c.requires.room (registered_all _ c.args.sender c.in-Register.key c.in-Register.targets.now c.self.invariant.0)).1

pub invariant_of-self : goal.invariant_of-self
invariant_of-self c = fits _ _ c.args.sender (Register c.in-Register.key c.in-Register.targets.now) _ _ c.self.view_is (ap act_shown c.in-Register.is) c.requires.room (c.register_all.ensures ∙ registered_all _ c.args.sender c.in-Register.key c.in-Register.targets.now c.self.invariant.0)

pub returns-in-Register : goal.returns-in-Register
returns-in-Register c = leaves _ _ c.args.sender (Register c.in-Register.key c.in-Register.targets.now) _ _ c.self.view_is (ap act_shown c.in-Register.is) (c.register_all.ensures ∙ registered_all _ c.args.sender c.in-Register.key c.in-Register.targets.now c.self.invariant.0)

pub invariant_of-self-else-taking : goal.invariant_of-self-else-taking
invariant_of-self-else-taking c = fits _ _ c.args.sender (Preempt c.in-Preempt.preempted c.in-Preempt.field-1) _ _ c.self.view_is (ap act_shown c.in-Preempt.is) c.requires.room (c.remove_key.ensures ∙ preempted_key _ c.args.sender c.in-Preempt.preempted c.in-Preempt.field-1 (ap (λ v. takes v c.in-Preempt.preempted) c.self.view_is ∙ sym c.takes-taking.ensures ∙ c.if-taking.false) c.self.invariant.0)

pub returns-else-taking : goal.returns-else-taking
returns-else-taking c = leaves _ _ c.args.sender (Preempt c.in-Preempt.preempted c.in-Preempt.field-1) _ _ c.self.view_is (ap act_shown c.in-Preempt.is) (c.remove_key.ensures ∙ preempted_key _ c.args.sender c.in-Preempt.preempted c.in-Preempt.field-1 (ap (λ v. takes v c.in-Preempt.preempted) c.self.view_is ∙ sym c.takes-taking.ensures ∙ c.if-taking.false) c.self.invariant.0)

pub invariant_of-self-then-all : goal.invariant_of-self-then-all
invariant_of-self-then-all c = fits _ _ c.args.sender (Preempt c.in-Preempt.preempted c.in-Preempt.field-1) _ _ c.self.view_is (ap act_shown c.in-Preempt.is) c.requires.room (c.keep_only.ensures ∙ preempted_all _ c.args.sender c.in-Preempt.preempted c.in-Preempt.field-1 (ap (λ v. takes v c.in-Preempt.preempted) c.self.view_is ∙ sym c.takes-taking.ensures ∙ c.if-taking.true) (ap (λ v. is_all_held v) c.self.view_is ∙ sym c.is_all_held-all.ensures ∙ c.if-all.true) c.self.invariant.0)

pub returns-then-all : goal.returns-then-all
returns-then-all c = leaves _ _ c.args.sender (Preempt c.in-Preempt.preempted c.in-Preempt.field-1) _ _ c.self.view_is (ap act_shown c.in-Preempt.is) (c.keep_only.ensures ∙ preempted_all _ c.args.sender c.in-Preempt.preempted c.in-Preempt.field-1 (ap (λ v. takes v c.in-Preempt.preempted) c.self.view_is ∙ sym c.takes-taking.ensures ∙ c.if-taking.true) (ap (λ v. is_all_held v) c.self.view_is ∙ sym c.is_all_held-all.ensures ∙ c.if-all.true) c.self.invariant.0)

pub invariant_of-self-else-all : goal.invariant_of-self-else-all
invariant_of-self-else-all c = fits _ _ c.args.sender (Preempt c.in-Preempt.preempted c.in-Preempt.field-1) _ _ c.self.view_is (ap act_shown c.in-Preempt.is) c.requires.room (c.remove_others.ensures ∙ preempted_others _ c.args.sender c.in-Preempt.preempted c.in-Preempt.field-1 (ap (λ v. takes v c.in-Preempt.preempted) c.self.view_is ∙ sym c.takes-taking.ensures ∙ c.if-taking.true) (ap (λ v. is_all_held v) c.self.view_is ∙ sym c.is_all_held-all.ensures ∙ c.if-all.false) c.self.invariant.0)

pub returns-else-all : goal.returns-else-all
returns-else-all c = leaves _ _ c.args.sender (Preempt c.in-Preempt.preempted c.in-Preempt.field-1) _ _ c.self.view_is (ap act_shown c.in-Preempt.is) (c.remove_others.ensures ∙ preempted_others _ c.args.sender c.in-Preempt.preempted c.in-Preempt.field-1 (ap (λ v. takes v c.in-Preempt.preempted) c.self.view_is ∙ sym c.takes-taking.ensures ∙ c.if-taking.true) (ap (λ v. is_all_held v) c.self.view_is ∙ sym c.is_all_held-all.ensures ∙ c.if-all.false) c.self.invariant.0)

pub returns-in-Reserve : goal.returns-in-Reserve
returns-in-Reserve c =
    elim c.in-Reserve.is [
      | inl w ↦ sym c.self.view_is ∙ leaves _ _ c.args.sender (Reserve w.0) _ _ c.self.view_is (ap act_shown w.1) (kept_reserve _ c.args.sender w.0 c.self.invariant.0)
      | inr w ↦ sym c.self.view_is ∙ leaves _ _ c.args.sender (Release w.0) _ _ c.self.view_is (ap act_shown w.1) (kept_release _ c.args.sender w.0 c.self.invariant.0)
    ]

pub returns-in-Clear : goal.returns-in-Clear
returns-in-Clear c = leaves _ _ c.args.sender Clear _ _ c.self.view_is (ap act_shown c.in-Clear.is) (c.clear.ensures ∙ cleared _ c.args.sender)

pub put-requires-clause-room : goal.put-requires-clause-room
put-requires-clause-room c = (fits _ _ c.args.sender (Move c.in-Move.key c.in-Move.destination true) _ _ c.self.view_is (ap act_shown c.in-Move.is ∙ ap (Move c.in-Move.key c.in-Move.destination) c.if-unregisters.true) c.requires.room (ap (put nexus_cmp c.in-Move.destination c.in-Move.key) c.remove.ensures ∙ moved_away _ c.args.sender c.in-Move.destination c.in-Move.key (subst IsKeyed (ap act_shown c.in-Move.is) c.requires.keyed) c.self.invariant.0)).1

pub invariant_of-self-then-unregisters : goal.invariant_of-self-then-unregisters
invariant_of-self-then-unregisters c = fits _ _ c.args.sender (Move c.in-Move.key c.in-Move.destination true) _ _ c.self.view_is (ap act_shown c.in-Move.is ∙ ap (Move c.in-Move.key c.in-Move.destination) c.if-unregisters.true) c.requires.room (c.put.ensures ∙ ap (put nexus_cmp c.in-Move.destination c.in-Move.key) c.remove.ensures ∙ moved_away _ c.args.sender c.in-Move.destination c.in-Move.key (subst IsKeyed (ap act_shown c.in-Move.is) c.requires.keyed) c.self.invariant.0)

pub returns-then-unregisters : goal.returns-then-unregisters
returns-then-unregisters c = leaves _ _ c.args.sender (Move c.in-Move.key c.in-Move.destination true) _ _ c.self.view_is (ap act_shown c.in-Move.is ∙ ap (Move c.in-Move.key c.in-Move.destination) c.if-unregisters.true) (c.put.ensures ∙ ap (put nexus_cmp c.in-Move.destination c.in-Move.key) c.remove.ensures ∙ moved_away _ c.args.sender c.in-Move.destination c.in-Move.key (subst IsKeyed (ap act_shown c.in-Move.is) c.requires.keyed) c.self.invariant.0)

pub put-requires-else-unregisters-clause-room : goal.put-requires-else-unregisters-clause-room
put-requires-else-unregisters-clause-room c = (fits _ _ c.args.sender (Move c.in-Move.key c.in-Move.destination false) _ _ c.self.view_is (ap act_shown c.in-Move.is ∙ ap (Move c.in-Move.key c.in-Move.destination) c.if-unregisters.false) c.requires.room (moved _ c.args.sender c.in-Move.destination c.in-Move.key (subst IsKeyed (ap act_shown c.in-Move.is) c.requires.keyed) c.self.invariant.0)).1

pub invariant_of-self-else-unregisters : goal.invariant_of-self-else-unregisters
invariant_of-self-else-unregisters c = fits _ _ c.args.sender (Move c.in-Move.key c.in-Move.destination false) _ _ c.self.view_is (ap act_shown c.in-Move.is ∙ ap (Move c.in-Move.key c.in-Move.destination) c.if-unregisters.false) c.requires.room (c.put-else-unregisters.ensures ∙ moved _ c.args.sender c.in-Move.destination c.in-Move.key (subst IsKeyed (ap act_shown c.in-Move.is) c.requires.keyed) c.self.invariant.0)

pub returns-else-unregisters : goal.returns-else-unregisters
returns-else-unregisters c = leaves _ _ c.args.sender (Move c.in-Move.key c.in-Move.destination false) _ _ c.self.view_is (ap act_shown c.in-Move.is ∙ ap (Move c.in-Move.key c.in-Move.destination) c.if-unregisters.false) (c.put-else-unregisters.ensures ∙ moved _ c.args.sender c.in-Move.destination c.in-Move.key (subst IsKeyed (ap act_shown c.in-Move.is) c.requires.keyed) c.self.invariant.0)

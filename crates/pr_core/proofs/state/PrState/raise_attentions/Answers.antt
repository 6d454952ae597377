use Rattle.std.proofs.Common.{sym, ap, ◌∙◌, inl, inr}
use Rattle.unit_attention.specs.Queues.{all_raised}
use Rattle.pr_core.specs.Acts.{act_shown}
use Rattle.pr_core.proofs.RaisedLaws.{clear_told, release_told, release_untold, register_told, register_untold, reserve_untold, move_untold}
use Rattle.pr_core.proofs.state.PrState.raise_attentions.Goals as goal

pub returns-in-Clear : goal.returns-in-Clear
returns-in-Clear c = c.raise_for_others.ensures ∙ ap (all_raised c.args.queues.now) (clear_told c.args.self.now c.args.sender (act_shown c.args.act) (ap act_shown c.in-Clear.is))

pub returns-else-is_releasing : goal.returns-else-is_releasing
returns-else-is_releasing c =
    sym (ap (all_raised c.args.queues.now) (register_untold c.args.self.now c.args.sender (act_shown c.args.act) (ap act_shown c.in-Register.is) (sym c.is_releasing.ensures ∙ c.if-is_releasing.false)))

pub returns-else-is_releasing-2 : goal.returns-else-is_releasing-2
returns-else-is_releasing-2 c =
    sym (ap (all_raised c.args.queues.now) (release_untold c.args.self.now c.args.sender (act_shown c.args.act) (ap act_shown c.in-Release.is) (sym c.is_releasing-in-Release.ensures ∙ c.if-is_releasing-2.false)))

pub returns-in-Reserve : goal.returns-in-Reserve
returns-in-Reserve c =
    elim c.in-Reserve.is [
      | inl h ↦ sym (ap (all_raised c.args.queues.now) (reserve_untold c.args.self.now c.args.sender (act_shown c.args.act) (ap act_shown h.1)))
      | inr h ↦ sym (ap (all_raised c.args.queues.now) (move_untold c.args.self.now c.args.sender (act_shown c.args.act) (ap act_shown h.3)))
    ]

pub returns-then-is_releasing : goal.returns-then-is_releasing
returns-then-is_releasing c =
    c.raise_for_others-then-is_releasing.ensures ∙ ap (all_raised c.args.queues.now) (register_told c.args.self.now c.args.sender (act_shown c.args.act) (ap act_shown c.in-Register.is) (sym c.is_releasing.ensures ∙ c.if-is_releasing.true))

pub returns-then-is_releasing-2 : goal.returns-then-is_releasing-2
returns-then-is_releasing-2 c =
    c.raise_for_others-then-is_releasing-2.ensures ∙ ap (all_raised c.args.queues.now) (release_told c.args.self.now c.args.sender (act_shown c.args.act) (ap act_shown c.in-Release.is) (sym c.is_releasing-in-Release.ensures ∙ c.if-is_releasing-2.true))

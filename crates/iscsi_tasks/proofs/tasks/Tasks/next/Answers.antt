use Rattle.std.proofs.Common.{◌≡◌, ℕ, Bool, false, List, [], ◌∷◌, get_or, Some, sym, ap, ◌∙◌, rules}
use Rattle.std.specs.Prelude.{slice_get, slice_set, if◌then◌else◌}
use Rattle.iscsi_tasks.specs.declared.awaiting.Awaiting.TheVariants.{Turn}
use Rattle.iscsi_tasks.specs.Values.{TaskValue, TasksValue}
use Rattle.iscsi_tasks.specs.Next.{is_whole, asked, tag_after, without_first, with_first_asked, left_at, after_next}
use Rattle.iscsi_tasks.proofs.tasks.Tasks.next.Goals as goal

asked_first : (s : TasksValue) (t a : TaskValue) (ts : List TaskValue) (tag : ℕ) → a ≡ asked s.parameters s.limit s.next_tag t → Turn ≡ t.awaiting → false ≡ is_whole s.limit t
    → tag ≡ tag_after s.next_tag → record s { waiting = a ∷ ts; next_tag = tag } ≡ after_next (record s { waiting = t ∷ ts })
asked_first s t a ts tag is turn short next =
    let v : TasksValue = record s { waiting = t ∷ ts } in
    ap (λ (u : TaskValue). record s { waiting = u ∷ ts; next_tag = tag }) is
    ∙ ap (λ (n : ℕ). record s { waiting = asked s.parameters s.limit s.next_tag t ∷ ts; next_tag = n }) next
    ∙ ap (λ (b : Bool). if b then without_first v t else with_first_asked v t) short
    ∙ ap (left_at v t) turn

asked_there : (s : TasksValue) (t u a : TaskValue) (ts : List TaskValue) (tag : ℕ) → Some t ≡ slice_get ts 0 → u ≡ get_or ts 0 u → a ≡ asked s.parameters s.limit s.next_tag u
    → Turn ≡ t.awaiting → false ≡ is_whole s.limit t → tag ≡ tag_after s.next_tag → record s { waiting = slice_set ts 0 a; next_tag = tag } ≡ after_next (record s { waiting = ts })
asked_there s t u a [] tag first there is turn short next = absurd (cc)
asked_there s t u a (x ∷ ts) tag first there is turn short next =
    let same : t ≡ x = cc in
    asked_first s x a ts tag (is ∙ ap (asked s.parameters s.limit s.next_tag) there) (turn ∙ ap (λ (v : TaskValue). v.awaiting) same) (short ∙ ap (is_whole s.limit) same) next

pub returns-in-Failed-clause-next : goal.returns-in-Failed-clause-next
returns-in-Failed-clause-next c = search rules

pub returns-in-Failed-clause-state : goal.returns-in-Failed-clause-state
returns-in-Failed-clause-state c = search rules

pub returns-else-is_whole-clause-state : goal.returns-else-is_whole-clause-state
returns-else-is_whole-clause-state c =
    let own = c.self.inside in
    let s : TasksValue = record {
      parameters = own.parameters;
      limit = own.limit;
      exp_cmd_sn = own.exp_cmd_sn;
      waiting =
          own.waiting.items;
      passed_over = own.passed_over;
      next_tag = own.next_tag;
      in_hand = own.in_hand;
      replies = own.replies.items;
      reset_tasks = own.reset_tasks;
      ahead = own.ahead;
    } in
    asked_there s c.in-Some.task.now c.index_mut-task.result.now c.ask-request.new.self own.waiting.items c.tag_after-self-inside.result
    (c.in-Some.ensures.value ∙ ap (λ (ts : List TaskValue). slice_get ts 0) c.deref.ensures.value) c.index_mut-task.ensures.value c.ask-request.ensures.state c.in-Turn.ensures
    (sym c.if-is_whole.false ∙ c.is_whole.ensures) c.tag_after-self-inside.ensures
    ∙ ap after_next c.self.view_is

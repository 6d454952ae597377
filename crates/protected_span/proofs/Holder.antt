-- Exclusive Access: what an act of another leaves, and that an act of the holder goes as if there were no other.
use Rattle.std.proofs.Common.{◌≡◌, ℕ, Bool, true, false, cond, not, ◌==◌, ◌&&◌, ◌||◌, List, [], ◌∷◌, filter, Option, Some, None, is_some, refl, sym, ap, ◌∙◌, subst, arith}
use Rattle.std.specs.Prelude.{if◌then◌else◌, unwrap_or, is_none, length, nat_lt}
use Rattle.std.specs.List.{list_any, list_all, filter_map, cons_option}
use Rattle.std.proofs.lemmas.Grind.{common_steps}
use Rattle.scsi_cdb.specs.declared.service_action.OutServiceAction.{OutServiceAction}
use Rattle.scsi_cdb.specs.declared.service_action.OutServiceAction.TheVariants as out
use Rattle.scsi_nexus.specs.declared.nexus.Nexus.{Nexus}
use Rattle.scsi_nexus.specs.Order.{same_nexus}
use Rattle.scsi_nexus.proofs.NexusLaws.{same_nexus-true, same_nexus-refl}
use Rattle.unit_attention.specs.declared.kind.Kind.{Kind}
use Rattle.permit_tables.specs.declared.res_type.ResType.{ResType}
use Rattle.permit_tables.specs.declared.res_type.ResType.TheVariants.{Ea}
use Rattle.permit_tables.specs.declared.role.Role.TheVariants.{Holder, Registered, Other}
use Rattle.permit_tables.specs.Types.{is_registrants_only}
use Rattle.permit_tables.specs.declared.out_params.OutParams.{OutParams}
use Rattle.permit_tables.specs.Pairs.{key_in}
use Rattle.pr_core.specs.Acts.{Act, Register, Reserve, Release, Clear, Preempt, Move}
use Rattle.pr_core.specs.Targets.{is_among, targets}
use Rattle.scsi_cdb.specs.declared.classes.Class.{Class}
use Rattle.scsi_cdb.specs.Classes.{class_of_action}
use Rattle.permit_tables.specs.Types.{code_of}
use Rattle.permit_tables.specs.Permission.{is_allowed}
use Rattle.std.specs.Prelude.{nat_le}
use Rattle.std.proofs.lemmas.Bool.{eq-eqb, false≢true}
use Rattle.std.proofs.lemmas.Map.Views.{exact_unsigned_eq}
use Rattle.permit_tables.specs.declared.key_rule.KeyRule.{KeyRule}
use Rattle.permit_tables.specs.declared.key_rule.KeyRule.TheVariants.{K1, K2, K3, K4}
use Rattle.permit_tables.specs.declared.pr_fault.PrFault.TheVariants.{InvalidField, InvalidParam, InvalidRelease, NoRegistrationRoom}
use Rattle.pr_core.specs.declared.verdict.Verdict.{Verdict}
use Rattle.pr_core.specs.declared.verdict.Verdict.TheVariants.{Allowed, Denied, Rule}
use Rattle.pr_core.specs.Judge.{verdict, broken_rule, breaks_third, has_unregistered, has_other_key}
use Rattle.pr_core.specs.Outcome.{refusal, register_refusal, register_act, is_known_type}
use Rattle.pr_core.proofs.RoomForKeys.{act_given}
use Rattle.pr_core.proofs.ManyLaws.{room_for_one, unregistering_fits, registering_is}
use Rattle.protected_span.proofs.InsidersView.{IsTable}
use Rattle.protected_span.specs.Span as span
use Rattle.protected_span.proofs.InsidersView as seen
use Rattle.protected_span.proofs.Insider.{Agree}
use Rattle.protected_span.proofs.Slots.{all_raised-apart}
use Rattle.pr_core.specs.State.{capacity, cell, decided}
use Rattle.pr_core.specs.State.{State, Keys, key, is_registered, res_type, is_all_held, is_sole_holder, is_holder, role, takes, key_after, keys_after, lasting, after, registrants, type_in}
use Rattle.pr_core.specs.Judge.{held_code}
use Rattle.pr_core.specs.Outcome.{act_of, applied, told, raised_for, raised, is_removed, removed, raised_by, removed_by}
use Rattle.pr_core.proofs.KeyLaws.{key-after}
use Rattle.judgement.specs.UnitState.{preventers_after}
use Rattle.target_core.proofs.Places.{same_some}
use Rattle.logical_unit.proofs.OutsiderLeavesContents.{Shut, barred}
use Rattle.protected_span.proofs.Outsider.{Calm}

-- a list that is picked out has none of a nexus where none of its picks is one
pub none_raised : (v : State) (s m : Nexus) (a : Act) (l : List Nexus) → ((x : Nexus) → same_nexus m x ≡ true → raised_for v s a x ≡ None) → list_any (λ e. same_nexus m e.0) (filter_map (raised_for v s a) l) ≡ false
none_raised v s m a [] h = refl
none_raised v s m a (x ∷ l) h =
    let rest = none_raised v s m a l h in
    elim (same_nexus m x) as (λ b. same_nexus m x ≡ b → list_any (λ e. same_nexus m e.0) (filter_map (raised_for v s a) (x ∷ l)) ≡ false) [
      | true ↦ λ e. ap (λ (o : Option (Nexus × Kind)). list_any (λ (q : Nexus × Kind). same_nexus m q.0) (cons_option o (filter_map (raised_for v s a) l))) (h x e) ∙ rest
      | false ↦ λ e. elim (same_nexus x s) as (λ b. list_any (λ (q : Nexus × Kind). same_nexus m q.0) (cons_option (cond {A = Option (Nexus × Kind)} b None (elim (told v s a x) [ None ↦ None | Some kind ↦ Some (x, kind) ])) (filter_map (raised_for v s a) l)) ≡ false) [
        | true ↦ rest
        | false ↦ elim (told v s a x) as (λ (o : Option Kind). let picked : Option (Nexus × Kind) = elim o [ None ↦ None | Some kind ↦ Some (x, kind) ] in list_any (λ (q : Nexus × Kind). same_nexus m q.0) (cons_option picked (filter_map (raised_for v s a) l)) ≡ false) [
          | None ↦ rest
          | Some kind ↦ ap (λ b. b || list_any (λ (q : Nexus × Kind). same_nexus m q.0) (filter_map (raised_for v s a) l)) e ∙ rest
        ]
      ]
    ] refl

-- nor has a list that is filtered
pub none_among : (test : Nexus → Bool) (m : Nexus) (l : List Nexus) → ((x : Nexus) → same_nexus m x ≡ true → test x ≡ false) → is_among m (filter test l) ≡ false
none_among test m [] h = refl
none_among test m (x ∷ l) h =
    let rest = none_among test m l h in
    elim (same_nexus m x) as (λ b. same_nexus m x ≡ b → is_among m (filter test (x ∷ l)) ≡ false) [
      | true ↦ λ e. ap (λ b. is_among m (cond b (x ∷ filter test l) (filter test l))) (h x e) ∙ rest
      | false ↦ λ e. elim (test x) as (λ b. is_among m (cond b (x ∷ filter test l) (filter test l)) ≡ false) [
        | true ↦ ap (λ b. b || is_among m (filter test l)) e ∙ rest
        | false ↦ rest
      ]
    ] refl

-- a filter that takes none of those inside keeps a list of them
pub kept_all : (inside test : Nexus → Bool) (ps : List Nexus) → ((x : Nexus) → inside x ≡ true → test x ≡ true) → list_all inside ps ≡ true → filter test ps ≡ ps
kept_all inside test [] h own = refl
kept_all inside test (p ∷ ps) h own =
    let parts = and_parts _ _ own in
    ap (λ b. cond b (p ∷ filter test ps) (filter test ps)) (h p parts.0) ∙ ap (λ x. p ∷ x) (kept_all inside test ps h parts.1)
  where
    and_parts : (a b : Bool) → (a && b) ≡ true → (a ≡ true) × (b ≡ true)
    and_parts true b h = (refl, h)
    and_parts false b h = cc

module _ (h : Nexus) where
  abbrev pub is_h : Nexus → Bool
  is_h n = same_nexus n h

  -- h holds Exclusive Access
  abbrev pub Holds : State → Type 0
  Holds v = v.reservation ≡ Some (Ea, h)

  type_is : (v : State) → Holds v → res_type v ≡ Ea
  type_is v held = ap (λ (o : Option (ResType × Nexus)). res_type (record v { reservation = o })) held

  holder_is : (v : State) (n : Nexus) → Holds v → is_holder v n ≡ (same_nexus n h || false)
  holder_is v n held = ap (λ (o : Option (ResType × Nexus)). is_holder (record v { reservation = o }) n) held

  no_holder : (v : State) (n : Nexus) → Holds v → is_h n ≡ false → is_holder v n ≡ false
  no_holder v n held isnt = holder_is v n held ∙ ap (λ b. b || false) isnt

  shut_role : (b : Bool) → Shut Ea (if b then Registered else Other)
  shut_role true = record { reading = refl; changing = refl }
  shut_role false = record { reading = refl; changing = refl }

  -- another neither reads nor changes
  pub shut_outside : (v : State) (n : Nexus) → Holds v → is_h n ≡ false → Shut (res_type v) (role v n)
  shut_outside v n held isnt =
      subst (λ t. Shut t (role v n)) (sym (type_is v held))
      (subst (λ b. Shut Ea (if b then Holder else if is_registered v n then Registered else Other)) (sym (no_holder v n held isnt)) (shut_role (is_registered v n)))

  lasts : (k : ℕ) (r : ResType × Nexus) → (if k == 0 then None else Some r) ≡ Some r → (k == 0) ≡ false
  lasts k r e = elim (k == 0) as (λ b. (if b then None else Some r) ≡ Some r → b ≡ false) [ true ↦ λ e. cc | false ↦ λ e. refl ] e

  -- what lasts has its holder's key
  lasting_key : (keys : Keys) (o : Option (ResType × Nexus)) → o ≡ Some (Ea, h) → lasting keys o ≡ Some (Ea, h) → (key_in keys h == 0) ≡ false
  lasting_key keys o held e = lasts (key_in keys h) (Ea, h) (sym (ap (lasting keys) held) ∙ e)

  unless : {X : Type 0} (b : Bool) (x y : X) → b ≡ false → unwrap_or (if b then Some x else None) y ≡ y
  unless true x y e = cc
  unless false x y e = refl

  same_pair : (t : ResType) (s : Nexus) (e : ◌≡◌ {A = Option (ResType × Nexus)} (Some (t, s)) (Some (Ea, h))) → s ≡ h
  same_pair t s e = ap (λ (o : Option (ResType × Nexus)). (unwrap_or o (t, s)).1) e

  -- a preemption by another that leaves h its hold takes nothing, and leaves its key
  takes_not : (v : State) (s : Nexus) (k code : ℕ) → is_h s ≡ false → Holds (after v s (Preempt k code)) → takes v k ≡ false
  takes_not v s k code isnt state =
      elim (takes v k) as (λ b. unwrap_or (if b then Some (Some (type_in code, s)) else None) (lasting (keys_after v s (Preempt k code)) v.reservation) ≡ Some (Ea, h) → b ≡ false) [
        | true ↦ λ e. barred (same_nexus s h) (ap (λ x. same_nexus s x) (sym (same_pair _ s e)) ∙ same_nexus-refl s) isnt
        | false ↦ λ e. refl
      ] state

  preempt_key : (v : State) (s : Nexus) (k code : ℕ) → Holds v → is_h s ≡ false → Holds (after v s (Preempt k code)) → (key_after v s (Preempt k code) h == 0) ≡ false
  preempt_key v s k code held isnt state =
      ap (λ j. j == 0) (sym (key-after v s (Preempt k code) h))
      ∙ lasting_key (keys_after v s (Preempt k code)) v.reservation held (sym (unless (takes v k) (Some (type_in code, s)) (lasting (keys_after v s (Preempt k code)) v.reservation) (takes_not v s k code isnt state)) ∙ state)

  told_off : (a x y : Bool) (k : Option Kind) → cond (((a && false) && x) && y) k None ≡ None
  told_off true x y k = refl
  told_off false x y k = refl

  -- an act of another that leaves h its hold tells h nothing
  told_nothing : (v : State) (s : Nexus) (a : Act) → Holds v → is_h s ≡ false → Holds (after v s a) → told v s a h ≡ None
  told_nothing v s (Register k targets) held isnt state =
      ap (λ t. if k == 0 && is_registrants_only t && list_any (is_sole_holder v) targets && not (is_among h targets) then Some Kind.ReservationsReleased else None) (type_is v held)
      ∙ told_off (k == 0) (list_any (is_sole_holder v) targets) (not (is_among h targets)) (Some Kind.ReservationsReleased)
  told_nothing v s (Reserve t) held isnt state = refl
  told_nothing v s (Release code) held isnt state =
      ap (λ b. if b && (is_registrants_only (res_type v) || is_all_held v) then Some Kind.ReservationsReleased else None) (no_holder v s held isnt)
  told_nothing v s Clear held isnt state = cc
  told_nothing v s (Preempt k code) held isnt state =
      ap (λ b. if b then Some Kind.RegistrationsPreempted else if takes v k && not (code == held_code v) then Some Kind.ReservationsReleased else None) (preempt_key v s k code held isnt state)
      ∙ ap (λ b. if b && not (code == held_code v) then Some Kind.ReservationsReleased else None) (takes_not v s k code isnt state)
  told_nothing v s (Move k d unreg) held isnt state = refl

  -- so it raises nothing for h
  raised_nothing : (v : State) (s : Nexus) (a : Act) → Holds v → is_h s ≡ false → Holds (after v s a) → (m : Nexus) → is_h m ≡ true → list_any (λ e. same_nexus m e.0) (raised v s a) ≡ false
  raised_nothing v s a held isnt state m is =
      none_raised v s m a (registrants v) (λ x e.
      let here : x ≡ h = sym (same_nexus-true m x e) ∙ same_nexus-true m h is in
      off (same_nexus x s) x (ap (told v s a) here ∙ told_nothing v s a held isnt state))
    where
      off : (b : Bool) (x : Nexus) → told v s a x ≡ None → cond {A = Option (Nexus × Kind)} b None (elim (told v s a x) [ None ↦ None | Some kind ↦ Some (x, kind) ]) ≡ None
      off true x e = refl
      off false x e = ap (λ (o : Option Kind). let picked : Option (Nexus × Kind) = elim o [ None ↦ None | Some kind ↦ Some (x, kind) ] in picked) e

  -- and ends no prevention of h
  removes_nothing : (v : State) (s : Nexus) (k code : ℕ) → Holds v → is_h s ≡ false → Holds (after v s (Preempt k code)) → (m : Nexus) → is_h m ≡ true → is_among m (removed v s (Preempt k code)) ≡ false
  removes_nothing v s k code held isnt state m is =
      none_among (is_removed v s (Preempt k code)) m (registrants v) (λ x e.
      let here : x ≡ h = sym (same_nexus-true m x e) ∙ same_nexus-true m h is in
      ap (λ y. not (same_nexus y s) && key_after v s (Preempt k code) y == 0) here ∙ off (not (same_nexus h s)) (key_after v s (Preempt k code) h == 0) (preempt_key v s k code held isnt state))
    where
      off : (a b : Bool) → b ≡ false → (a && b) ≡ false
      off true b e = e
      off false b e = refl

  ends_none : (act : OutServiceAction) (v : State) (s : Nexus) (p : OutParams) → Holds v → is_h s ≡ false → Holds (applied v s (record p { act = act }))
      → (ps : List Nexus) → list_all is_h ps ≡ true → preventers_after ps act (removed_by v s (act_of v s (record p { act = act }))) ≡ ps
  ends_none out.Register v s p held isnt state ps own = refl
  ends_none out.Reserve v s p held isnt state ps own = refl
  ends_none out.Release v s p held isnt state ps own = refl
  ends_none out.Clear v s p held isnt state ps own = refl
  ends_none out.Preempt v s p held isnt state ps own = refl
  ends_none out.PreemptAndAbort v s p held isnt state ps own =
      kept_all is_h (λ x. not (is_among x (removed v s (Preempt p.sark p.scope_type)))) ps (λ x is. ap not (removes_nothing v s p.sark p.scope_type held isnt state x is)) own
  ends_none out.RegisterAndIgnoreExistingKey v s p held isnt state ps own = refl
  ends_none out.RegisterAndMove v s p held isnt state ps own = refl

  -- what another's act does, where h still holds afterwards, h doesn't see
  pub calm_outside : (v : State) (s : Nexus) (p : OutParams) → Holds v → is_h s ≡ false → Holds (applied v s p) → Calm is_h v s p
  calm_outside v s p held isnt state = record {
    raised =
        elim (act_of v s p) as (λ (o : Option Act). Holds (elim o [ None ↦ v | Some a ↦ after v s a ]) → (m : Nexus) → is_h m ≡ true → list_any (λ e. same_nexus m e.0) (raised_by v s o) ≡ false) [
          | None ↦ λ good m is. refl
          | Some a ↦ λ good m is. raised_nothing v s a held isnt good m is
        ] state;
    preventers = ends_none p.act v s p held isnt state;
  }

  abbrev pub ConcernsItself : OutServiceAction → List Nexus → Type 0
  ConcernsItself act named = span.ConcernsItself h act named

  abbrev pub Hold : State → Type 0
  Hold v = seen.Hold h v

  -- h holds at both, with the same key
  pub record SameHold (v w : State) : Type 0 where
    pub holds : Holds v
    pub other : Holds w
    pub same_key : key v h ≡ key w h
    pub keyed : (key v h == 0) ≡ false

  holds_itself : (v : State) → Holds v → is_holder v h ≡ true
  holds_itself v held = holder_is v h held ∙ ap (λ b. b || false) (same_nexus-refl h)

  role_itself : (v : State) → Holds v → role v h ≡ Holder
  role_itself v held = ap (λ b. if b then Holder else if is_registered v h then Registered else Other) (holds_itself v held)

  pub allowed_itself : (v : State) (c : Class) → Holds v → is_allowed c (res_type v) (role v h) ≡ true
  allowed_itself v c held = (λ i. is_allowed c (type_is v held i) (role_itself v held i))

  module _ (v w : State) (r : SameHold v w) (tv : IsTable v) (tw : IsTable w) where
    registered_same : is_registered v h ≡ is_registered w h
    registered_same = ap (λ k. not (k == 0)) r.same_key

    holder_same : is_holder v h ≡ is_holder w h
    holder_same = holds_itself v r.holds ∙ sym (holds_itself w r.other)

    type_same : res_type v ≡ res_type w
    type_same = type_is v r.holds ∙ sym (type_is w r.other)

    unregistered_same : (rk : ℕ) (ts : List Nexus) → ts ≡ h ∷ [] → has_unregistered v rk ts ≡ has_unregistered w rk ts
    unregistered_same rk ts e =
        ap (has_unregistered v rk) e ∙ ap (λ b. (not b && not (rk == 0)) || false) registered_same ∙ sym (ap (has_unregistered w rk) e)

    other_key_same : (rk : ℕ) (ts : List Nexus) → ts ≡ h ∷ [] → has_other_key v rk ts ≡ has_other_key w rk ts
    other_key_same rk ts e =
        ap (has_other_key v rk) e ∙ (λ i. (not (r.same_key i == 0) && not (rk == r.same_key i)) || false) ∙ sym (ap (has_other_key w rk) e)

    third : (act : OutServiceAction) (p : OutParams) → breaks_third v h (record p { act = act }) ≡ breaks_third w h (record p { act = act })
    third out.Register p = refl
    third out.RegisterAndIgnoreExistingKey p = refl
    third out.Reserve p = λ i. not (not (r.same_key i == 0)) || not (p.rk == r.same_key i)
    third out.Release p = λ i. not (not (r.same_key i == 0)) || not (p.rk == r.same_key i)
    third out.Clear p = λ i. not (not (r.same_key i == 0)) || not (p.rk == r.same_key i)
    third out.Preempt p = λ i. not (not (r.same_key i == 0)) || not (p.rk == r.same_key i)
    third out.PreemptAndAbort p = λ i. not (not (r.same_key i == 0)) || not (p.rk == r.same_key i)
    third out.RegisterAndMove p = λ i. not (not (r.same_key i == 0)) || not (p.rk == r.same_key i)

    rules_same : (act : OutServiceAction) (p : OutParams) → ConcernsItself act (targets h p) → broken_rule v h (record p { act = act }) ≡ broken_rule w h (record p { act = act })
    rules_same out.Register p mild =
        λ i. if unregistered_same p.rk (targets h p) mild i then Some K1 else if other_key_same p.rk (targets h p) mild i then Some K2 else None
    rules_same out.RegisterAndIgnoreExistingKey p mild = refl
    rules_same out.Reserve p mild =
        λ i. if third out.Reserve p i then Some K3 else if holder_same i && not (p.scope_type == code_of (type_same i)) then Some K4 else None
    rules_same out.Release p mild = λ i. if third out.Release p i then Some K3 else None
    rules_same out.Clear p mild = λ i. if third out.Clear p i then Some K3 else None
    rules_same out.Preempt p mild = absurd mild
    rules_same out.PreemptAndAbort p mild = absurd mild
    rules_same out.RegisterAndMove p mild = absurd mild

    by_rule : (u : State) (p : OutParams) → Holds u → verdict u h p ≡ elim (broken_rule u h p) [ None ↦ Allowed | Some rule ↦ Rule rule ]
    by_rule u p held = ap (λ b. if b then (let x : Verdict = elim (broken_rule u h p) [ None ↦ Allowed | Some rule ↦ Rule rule ] in x) else Denied (cell u h (class_of_action p.act))) (allowed_itself u (class_of_action p.act) held)

    -- h is answered alike at the check
    pub verdict_same : (p : OutParams) → ConcernsItself p.act (targets h p) → verdict v h p ≡ verdict w h p
    verdict_same p mild = by_rule v p r.holds ∙ ap (λ (o : Option KeyRule). let x : Verdict = elim o [ None ↦ Allowed | Some rule ↦ Rule rule ] in x) (rules_same p.act p mild) ∙ sym (by_rule w p r.other)

    fits_in : (c l : ℕ) → nat_le l c ≡ true → nat_lt c l ≡ false
    fits_in c l e = grind (arith, common_steps)

    fits : (u : State) (k : ℕ) → IsTable u → (key u h == 0) ≡ false → nat_lt capacity (length (keys_after u h (Register k (h ∷ [])))) ≡ false
    fits u k t keyed =
        fits_in capacity (length (keys_after u h (Register k (h ∷ []))))
        (elim (k == 0) as (λ b. (k == 0) ≡ b → nat_le (length (keys_after u h (Register k (h ∷ [])))) capacity ≡ true) [
          | true ↦ λ e. subst (λ j. nat_le (length (keys_after u h (Register j (h ∷ [])))) capacity ≡ true) (sym (exact_unsigned_eq k 0 e)) (unregistering_fits u h (h ∷ []) t.proper t.room)
          | false ↦ λ e.
              registering_is u h k (h ∷ []) (λ z. false≢true (sym e ∙ eq-eqb k 0 z)) t.proper ∙ room_for_one h k u.keys t.proper t.room
              ∙ ap (λ b. nat_lt (length u.keys) capacity || not b) keyed ∙ or_true (nat_lt (length u.keys) capacity)
        ] refl)
      where
        or_true : (b : Bool) → (b || true) ≡ true
        or_true true = refl
        or_true false = refl

    keyed_other : (key w h == 0) ≡ false
    keyed_other = ap (λ k. k == 0) (sym r.same_key) ∙ r.keyed

    register_same : (p : OutParams) → targets h p ≡ h ∷ [] → register_refusal v h p ≡ register_refusal w h p
    register_same p e = λ i. if p.listed && registered_same i then Some InvalidParam else if room_same i then Some NoRegistrationRoom else None
      where
        one : (u : State) → IsTable u → (key u h == 0) ≡ false → nat_lt capacity (length (keys_after u h (Register p.sark (targets h p)))) ≡ false
        one u t keyed = ap (λ ts. nat_lt capacity (length (keys_after u h (Register p.sark ts)))) e ∙ fits u p.sark t keyed

        room_same : nat_lt capacity (length (keys_after v h (Register p.sark (targets h p)))) ≡ nat_lt capacity (length (keys_after w h (Register p.sark (targets h p))))
        room_same = one v tv r.keyed ∙ sym (one w tw keyed_other)

    refusal_same : (act : OutServiceAction) (p : OutParams) → ConcernsItself act (targets h p) → refusal v h (record p { act = act }) ≡ refusal w h (record p { act = act })
    refusal_same out.Register p mild = λ i. if is_some p.defect then Some InvalidParam else register_same p mild i
    refusal_same out.RegisterAndIgnoreExistingKey p mild = λ i. if is_some p.defect then Some InvalidParam else register_same p mild i
    refusal_same out.Reserve p mild = λ i. if is_some p.defect then Some InvalidParam else if is_none ((r.holds ∙ sym r.other) i) && not (is_known_type p.scope_type) then Some InvalidField else None
    refusal_same out.Release p mild = λ i. if is_some p.defect then Some InvalidParam else if holder_same i && not (p.scope_type == code_of (type_same i)) then Some InvalidRelease else None
    refusal_same out.Clear p mild = refl
    refusal_same out.Preempt p mild = absurd mild
    refusal_same out.PreemptAndAbort p mild = absurd mild
    refusal_same out.RegisterAndMove p mild = absurd mild

    -- the act that h's command is, is the same
    register_act_same : (p : OutParams) → targets h p ≡ h ∷ [] → register_act v h p ≡ register_act w h p
    register_act_same p e = λ i. if p.sark == 0 && not (any_same i) then None else Some (Register p.sark (targets h p))
      where
        any_same : list_any (is_registered v) (targets h p) ≡ list_any (is_registered w) (targets h p)
        any_same = ap (list_any (is_registered v)) e ∙ ap (λ b. b || false) registered_same ∙ sym (ap (list_any (is_registered w)) e)

    act_same : (act : OutServiceAction) (p : OutParams) → ConcernsItself act (targets h p) → act_of v h (record p { act = act }) ≡ act_of w h (record p { act = act })
    act_same out.Register p mild = register_act_same p mild
    act_same out.RegisterAndIgnoreExistingKey p mild = register_act_same p mild
    act_same out.Reserve p mild = refl
    act_same out.Release p mild = refl
    act_same out.Clear p mild = refl
    act_same out.Preempt p mild = absurd mild
    act_same out.PreemptAndAbort p mild = absurd mild
    act_same out.RegisterAndMove p mild = absurd mild

    -- an act that h's mild commands can be
    abbrev IsMild : Act → Type 0
    IsMild (Preempt k code) = ⊥
    IsMild (Move k d unreg) = ⊥
    IsMild a = Unit {0}

    key_same : (a : Act) → IsMild a → key_after v h a h ≡ key_after w h a h
    key_same (Register k ts) mild = ap (λ j. if is_among h ts then k else j) r.same_key
    key_same (Reserve t) mild = r.same_key
    key_same (Release code) mild = r.same_key
    key_same Clear mild = refl
    key_same (Preempt k code) mild = absurd mild
    key_same (Move k d unreg) mild = absurd mild

    after_key_same : (a : Act) → IsMild a → key (after v h a) h ≡ key (after w h a) h
    after_key_same a mild = key-after v h a h ∙ key_same a mild ∙ sym (key-after w h a h)

    decided_same : (a : Act) → IsMild a → decided v h a ≡ decided w h a
    decided_same (Register k ts) mild = refl
    decided_same (Reserve t) mild = λ i. if is_none ((r.holds ∙ sym r.other) i) then Some (Some (t, h)) else None
    decided_same (Release code) mild = λ i. if holder_same i then Some None else None
    decided_same Clear mild = refl
    decided_same (Preempt k code) mild = absurd mild
    decided_same (Move k d unreg) mild = absurd mild

    lasting_same : (a : Act) → IsMild a → lasting (keys_after v h a) v.reservation ≡ lasting (keys_after w h a) w.reservation
    lasting_same a mild =
        ap (lasting (keys_after v h a)) r.holds ∙ (λ i. if after_key_same a mild i == 0 then None else Some (Ea, h)) ∙ sym (ap (lasting (keys_after w h a)) r.other)

    after_same : (a : Act) → IsMild a → (after v h a).reservation ≡ (after w h a).reservation
    after_same a mild = λ i. unwrap_or (decided_same a mild i) (lasting_same a mild i)

    mild_act : (act : OutServiceAction) (p : OutParams) (a : Act) → ConcernsItself act (targets h p) → act_of v h (record p { act = act }) ≡ Some a → IsMild a
    mild_act out.Register p a mild e = subst IsMild (act_given _ _ _ e) tt
    mild_act out.RegisterAndIgnoreExistingKey p a mild e = subst IsMild (act_given _ _ _ e) tt
    mild_act out.Reserve p a mild e = subst IsMild (same_some _ _ e) tt
    mild_act out.Release p a mild e = subst IsMild (same_some _ _ e) tt
    mild_act out.Clear p a mild e = subst IsMild (same_some _ _ e) tt
    mild_act out.Preempt p a mild e = absurd mild
    mild_act out.PreemptAndAbort p a mild e = absurd mild
    mild_act out.RegisterAndMove p a mild e = absurd mild

    -- what h's act leaves of both, where h still holds at the one
    pub applied_same : (p : OutParams) → ConcernsItself p.act (targets h p) → Hold (applied v h p) → SameHold (applied v h p) (applied w h p)
    applied_same p mild state =
        subst (λ (o : Option Act). SameHold (applied v h p) (elim o [ None ↦ w | Some a ↦ after w h a ])) (act_same p.act p mild)
        (elim (act_of v h p) as (λ (o : Option Act). act_of v h p ≡ o → Hold (elim o [ None ↦ v | Some a ↦ after v h a ]) → SameHold (elim o [ None ↦ v | Some a ↦ after v h a ]) (elim o [ None ↦ w | Some a ↦ after w h a ])) [
          | None ↦ λ e good. r
          | Some a ↦ λ e good.
              let m = mild_act p.act p a mild e in
              record { holds = good.holds; other = sym (after_same a m) ∙ good.holds; same_key = after_key_same a m; keyed = good.keyed }
        ] refl state)

    -- h's own act raises nothing for h
    own_raised : (u : State) (o : Option Act) (m : Nexus) → is_h m ≡ true → list_any (λ e. same_nexus m e.0) (raised_by u h o) ≡ false
    own_raised u None m is = refl
    own_raised u (Some a) m is =
        none_raised u h m a (registrants u) (λ x e.
        let sender : same_nexus x h ≡ true = ap (λ y. same_nexus y h) (sym (same_nexus-true m x e)) ∙ is in
        ap (λ b. cond {A = Option (Nexus × Kind)} b None (elim (told u h a x) [ None ↦ None | Some kind ↦ Some (x, kind) ])) sender)

    own_preventers : (act : OutServiceAction) (p : OutParams) → ConcernsItself act (targets h p) → (ps xs ys : List Nexus) → preventers_after ps act xs ≡ preventers_after ps act ys
    own_preventers out.Register p mild ps xs ys = refl
    own_preventers out.RegisterAndIgnoreExistingKey p mild ps xs ys = refl
    own_preventers out.Reserve p mild ps xs ys = refl
    own_preventers out.Release p mild ps xs ys = refl
    own_preventers out.Clear p mild ps xs ys = refl
    own_preventers out.Preempt p mild ps xs ys = absurd mild
    own_preventers out.PreemptAndAbort p mild ps xs ys = absurd mild
    own_preventers out.RegisterAndMove p mild ps xs ys = absurd mild

    -- both units take h's act alike
    pub agree : (p : OutParams) → ConcernsItself p.act (targets h p) → Agree is_h v w h p
    agree p mild = record {
      refusal = refusal_same p.act p mild;
      raised = λ q x m is e. all_raised-apart (raised_by v h (act_of v h p)) q m (own_raised v (act_of v h p) m is) ∙ e ∙ sym (all_raised-apart (raised_by w h (act_of w h p)) x m (own_raised w (act_of w h p) m is));
      preventers = λ ps own. own_preventers p.act p mild ps _ _;
    }

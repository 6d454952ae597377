-- Exclusive Access of a group: a command of a nexus outside changes no registration.
use Rattle.std.proofs.Common.{◌≡◌, ℕ, Bool, true, false, cond, not, ◌==◌, ◌&&◌, ◌||◌, List, [], ◌∷◌, ◌++◌, Option, Some, None, is_some, inl, inr, refl, sym, ap, ◌∙◌, subst}
use Rattle.std.specs.Prelude.{if◌then◌else◌, ◌⊎◌}
use Rattle.std.specs.List.{list_any, list_all, flat_map}
use Rattle.scsi_cdb.specs.declared.service_action.OutServiceAction.{OutServiceAction}
use Rattle.scsi_cdb.specs.declared.service_action.OutServiceAction.TheVariants as out
use Rattle.scsi_cdb.specs.Classes.{class_of_action}
use Rattle.scsi_nexus.specs.declared.nexus.Nexus.{Nexus}
use Rattle.scsi_nexus.specs.Order.{same_nexus}
use Rattle.scsi_nexus.proofs.NexusLaws.{same_nexus-true, same_nexus-refl}
use Rattle.permit_tables.specs.declared.cell.Cell.{Cell}
use Rattle.permit_tables.specs.declared.res_type.ResType.{ResType}
use Rattle.permit_tables.specs.declared.res_type.ResType.TheVariants as type
use Rattle.permit_tables.specs.declared.res_type.ResType.TheVariants.{Earo, Eaar}
use Rattle.permit_tables.specs.declared.role.Role.TheVariants.{Holder, Registered, Other}
use Rattle.permit_tables.specs.Permission.{is_allowed}
use Rattle.permit_tables.specs.declared.out_params.OutParams.{OutParams}
use Rattle.pr_core.specs.Acts.{Act, Register}
use Rattle.pr_core.specs.Targets.{targets, is_among, at_all_ports, at_ports}
use Rattle.pr_core.specs.State.{State, key, is_registered, is_holder, res_type, role, cell, after}
use Rattle.permit_tables.specs.declared.key_rule.KeyRule.{KeyRule}
use Rattle.pr_core.specs.declared.verdict.Verdict.TheVariants.{Allowed, Denied, Rule}
use Rattle.pr_core.specs.Judge.{verdict, broken_rule}
use Rattle.pr_core.specs.Outcome.{act_of, applied, register_act, raised_by, removed_by}
use Rattle.pr_core.proofs.KeyLaws.{key-after}
use Rattle.judgement.specs.UnitState.{preventers_after}
use Rattle.protected_span.proofs.InsidersView.{IsHeldInside, IsShared}
use Rattle.logical_unit.proofs.OutsiderLeavesContents.{Shut, barred}
use Rattle.protected_span.proofs.Outsider.{Calm}
use Rattle.protected_span.proofs.Insider.{Agree}
use Rattle.protected_span.proofs.Slots.{all_raised-alike}
use Rattle.protected_span.proofs.Holder.{kept_all}

-- a list has none that passes where none among it does
none_passes : (test : Nexus → Bool) (l : List Nexus) → ((x : Nexus) → is_among x l ≡ true → test x ≡ false) → list_any test l ≡ false
none_passes test [] h = refl
none_passes test (x ∷ l) h =
    joined (test x) (list_any test l) (h x (ap (λ b. b || is_among x l) (same_nexus-refl x))) (none_passes test l (λ y e. h y (later (same_nexus y x) (is_among y l) e)))
  where
    joined : (a b : Bool) → a ≡ false → b ≡ false → (a || b) ≡ false
    joined true b e f = e
    joined false b e f = f

    later : (a b : Bool) → b ≡ true → (a || b) ≡ true
    later true b e = refl
    later false b e = e

-- a REGISTER names its sender
names_sender : (n : Nexus) (p : OutParams) → is_among n (targets n p) ≡ true
names_sender n p =
    elim (is_some p.defect) as (λ b. is_among n (if b then n ∷ [] else n ∷ (if p.all_ports then at_all_ports n.sas else []) ++ flat_map (at_ports n p) p.targets.items) ≡ true) [
      | true ↦ ap (λ b. b || false) (same_nexus-refl n)
      | false ↦ ap (λ b. b || is_among n ((if p.all_ports then at_all_ports n.sas else []) ++ flat_map (at_ports n p) p.targets.items)) (same_nexus-refl n)
    ]

allowed_class : (b : Bool) (o : Option KeyRule) (c : Cell) → cond b (elim o [ None ↦ Allowed | Some i ↦ Rule i ]) (Denied c) ≡ Allowed → b ≡ true
allowed_class true o c h = refl
allowed_class false o c h = cc

zero_key : (k : ℕ) → not (k == 0) ≡ false → (k == 0) ≡ true
zero_key k e = elim (k == 0) as (λ b. not b ≡ false → b ≡ true) [ true ↦ λ _. refl | false ↦ λ f. cc ] e

module _ (inside : Nexus → Bool) where
  held_outside : (v : State) (n : Nexus) (t : ResType) (x : Nexus) → IsHeldInside inside (Some (t, x)) → is_registered v n ≡ false → inside n ≡ false → is_holder (record v { reservation = Some (t, x) }) n ≡ false
  held_outside v n Earo x held none isnt =
      elim (same_nexus n x) as (λ b. same_nexus n x ≡ b → (b || false) ≡ false) [
        | true ↦ λ e. barred (inside x) held (ap inside (sym (same_nexus-true n x e)) ∙ isnt)
        | false ↦ λ e. refl
      ] refl
  held_outside v n Eaar x held none isnt = none
  held_outside v n type.None x held none isnt = absurd held
  held_outside v n type.We x held none isnt = absurd held
  held_outside v n type.Ea x held none isnt = absurd held
  held_outside v n type.Wero x held none isnt = absurd held
  held_outside v n type.Wear x held none isnt = absurd held

  holder_outside : (v : State) (n : Nexus) (o : Option (ResType × Nexus)) → IsHeldInside inside o → is_registered v n ≡ false → inside n ≡ false → is_holder (record v { reservation = o }) n ≡ false
  holder_outside v n None held none isnt = refl
  holder_outside v n (Some r) held none isnt = held_outside v n r.0 r.1 held none isnt

  role_outside : (v : State) (n : Nexus) → IsShared inside v → inside n ≡ false → role v n ≡ Other
  role_outside v n shared isnt =
      let none : is_registered v n ≡ false = shared.registered n ∙ isnt in
      (λ i. if holder_outside v n v.reservation shared.held none isnt i then Holder else if none i then Registered else Other)

  shut_type : (t : ResType) (x : Nexus) → IsHeldInside inside (Some (t, x)) → Shut t Other
  shut_type Earo x held = record { reading = refl; changing = refl }
  shut_type Eaar x held = record { reading = refl; changing = refl }
  shut_type type.None x held = absurd held
  shut_type type.We x held = absurd held
  shut_type type.Ea x held = absurd held
  shut_type type.Wero x held = absurd held
  shut_type type.Wear x held = absurd held

  shut_held : (v : State) (o : Option (ResType × Nexus)) → IsHeldInside inside o → Shut (res_type (record v { reservation = o })) Other
  shut_held v None held = absurd held
  shut_held v (Some r) held = shut_type r.0 r.1 held

  -- a nexus outside neither reads nor changes
  pub shut_outside : (v : State) (n : Nexus) → IsShared inside v → inside n ≡ false → Shut (res_type v) (role v n)
  shut_outside v n shared isnt = subst (Shut (res_type v)) (sym (role_outside v n shared isnt)) (shut_held v v.reservation shared.held)

  -- of the reservation acts it has the two that register alone
  registers_type : (act : OutServiceAction) (t : ResType) (x : Nexus) → IsHeldInside inside (Some (t, x)) → is_allowed (class_of_action act) t Other ≡ true → (act ≡ out.Register) ⊎ (act ≡ out.RegisterAndIgnoreExistingKey)
  registers_type out.Register t x held e = inl refl
  registers_type out.RegisterAndIgnoreExistingKey t x held e = inr refl
  registers_type out.Reserve Earo x held e = absurd cc
  registers_type out.Reserve Eaar x held e = absurd cc
  registers_type out.Release Earo x held e = absurd cc
  registers_type out.Release Eaar x held e = absurd cc
  registers_type out.Clear Earo x held e = absurd cc
  registers_type out.Clear Eaar x held e = absurd cc
  registers_type out.Preempt Earo x held e = absurd cc
  registers_type out.Preempt Eaar x held e = absurd cc
  registers_type out.PreemptAndAbort Earo x held e = absurd cc
  registers_type out.PreemptAndAbort Eaar x held e = absurd cc
  registers_type out.RegisterAndMove Earo x held e = absurd cc
  registers_type out.RegisterAndMove Eaar x held e = absurd cc
  registers_type act type.None x held e = absurd held
  registers_type act type.We x held e = absurd held
  registers_type act type.Ea x held e = absurd held
  registers_type act type.Wero x held e = absurd held
  registers_type act type.Wear x held e = absurd held

  registers_held : (act : OutServiceAction) (v : State) (o : Option (ResType × Nexus)) → IsHeldInside inside o → is_allowed (class_of_action act) (res_type (record v { reservation = o })) Other ≡ true → (act ≡ out.Register) ⊎ (act ≡ out.RegisterAndIgnoreExistingKey)
  registers_held act v None held e = absurd held
  registers_held act v (Some r) held e = registers_type act r.0 r.1 held e

  registers : (v : State) (n : Nexus) (p : OutParams) → IsShared inside v → inside n ≡ false → verdict v n p ≡ Allowed → (p.act ≡ out.Register) ⊎ (p.act ≡ out.RegisterAndIgnoreExistingKey)
  registers v n p shared isnt e =
      registers_held p.act v v.reservation shared.held
      (ap (is_allowed (class_of_action p.act) (res_type v)) (sym (role_outside v n shared isnt)) ∙ allowed_class _ (broken_rule v n p) (cell v n (class_of_action p.act)) e)

  -- a REGISTER of a nexus outside that leaves the same registered is no act
  no_register : (v : State) (n : Nexus) (p : OutParams) → IsShared inside v → inside n ≡ false
      → ((m : Nexus) → is_registered (elim (register_act v n p) [ None ↦ v | Some a ↦ after v n a ]) m ≡ inside m) → register_act v n p ≡ None
  no_register v n p shared isnt good =
      let ts = targets n p in
      elim (p.sark == 0 && not (list_any (is_registered v) ts)) as (λ b. (p.sark == 0 && not (list_any (is_registered v) ts)) ≡ b
      → ((m : Nexus) → is_registered (elim (cond {A = Option Act} b None (Some (Register p.sark ts))) [ None ↦ v | Some a ↦ after v n a ]) m ≡ inside m) → cond {A = Option Act} b None (Some (Register p.sark ts)) ≡ None) [
        | true ↦ λ e same. refl
        | false ↦ λ e same.
            let own : key (after v n (Register p.sark ts)) n ≡ p.sark = key-after v n (Register p.sark ts) n ∙ ap (λ b. if b then p.sark else key v n) (names_sender n p) in
            let zero : (p.sark == 0) ≡ true = zero_key p.sark (ap (λ k. not (k == 0)) (sym own) ∙ (same n ∙ isnt)) in
            let gone : (x : Nexus) → is_among x ts ≡ true → is_registered v x ≡ false =
            λ x among. shared.registered x ∙ sym (same x) ∙ ap (λ k. not (k == 0)) (key-after v n (Register p.sark ts) x ∙ ap (λ b. if b then p.sark else key v x) among) ∙ ap not zero in
            barred (p.sark == 0 && not (list_any (is_registered v) ts)) ((λ i. zero i && not (none_passes (is_registered v) ts gone i))) e
      ] refl good

  by_action : (v : State) (n : Nexus) (p : OutParams) → IsShared inside v → inside n ≡ false → (act : OutServiceAction) → (act ≡ out.Register) ⊎ (act ≡ out.RegisterAndIgnoreExistingKey)
      → ((m : Nexus) → is_registered (applied v n (record p { act = act })) m ≡ inside m) → act_of v n (record p { act = act }) ≡ None
  by_action v n p shared isnt act (inl e) good =
      subst (λ a. ((m : Nexus) → is_registered (applied v n (record p { act = a })) m ≡ inside m) → act_of v n (record p { act = a }) ≡ None) (sym e) (no_register v n p shared isnt) good
  by_action v n p shared isnt act (inr e) good =
      subst (λ a. ((m : Nexus) → is_registered (applied v n (record p { act = a })) m ≡ inside m) → act_of v n (record p { act = a }) ≡ None) (sym e) (no_register v n p shared isnt) good

  -- what an allowed command of a nexus outside asks for is no act
  pub no_act : (v : State) (n : Nexus) (p : OutParams) → IsShared inside v → inside n ≡ false → verdict v n p ≡ Allowed → IsShared inside (applied v n p) → act_of v n p ≡ None
  no_act v n p shared isnt allowed good = by_action v n p shared isnt p.act (registers v n p shared isnt allowed) good.registered

  ends_none : (act : OutServiceAction) (ps : List Nexus) → list_all inside ps ≡ true → preventers_after ps act [] ≡ ps
  ends_none out.Register ps own = refl
  ends_none out.Reserve ps own = refl
  ends_none out.Release ps own = refl
  ends_none out.Clear ps own = refl
  ends_none out.Preempt ps own = refl
  ends_none out.PreemptAndAbort ps own = kept_all inside (λ x. not (is_among x [])) ps (λ x is. refl) own
  ends_none out.RegisterAndIgnoreExistingKey ps own = refl
  ends_none out.RegisterAndMove ps own = refl

  pub calm_outside : (v : State) (n : Nexus) (p : OutParams) → act_of v n p ≡ None → Calm inside v n p
  calm_outside v n p e = record {
    raised = λ m is. ap (λ (o : Option Act). list_any (λ a. same_nexus m a.0) (raised_by v n o)) e;
    preventers = λ ps own. ap (λ (o : Option Act). preventers_after ps p.act (removed_by v n o)) e ∙ ends_none p.act ps own;
  }

  pub no_change : (v : State) (n : Nexus) (p : OutParams) → act_of v n p ≡ None → applied v n p ≡ v
  no_change v n p e = ap (λ (o : Option Act). let left : State = elim o [ None ↦ v | Some a ↦ after v n a ] in left) e

  -- a command of a nexus inside goes alike where the reservations are the same
  pub agree : (v w : State) (n : Nexus) (p : OutParams) → v ≡ w → Agree inside v w n p
  agree v w n p e = subst (λ x. Agree inside v x n p) e (record {
    refusal = refl;
    raised = λ q r m is h. all_raised-alike (raised_by v n (act_of v n p)) q r m h;
    preventers = λ ps own. refl;
  })

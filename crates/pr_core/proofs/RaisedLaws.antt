-- One more nexus in a loop over the registered ones.
use Rattle.std.proofs.Common.{◌≡◌, ℕ, ◌+◌, ◌<◌, Bool, true, false, cond, ◌&&◌, ◌||◌, ◌==◌, List, [], ◌∷◌, ◌++◌, length, take, drop, map, get_or, refl, sym, subst, ap, ◌∙◌, Some, None, Option, Result, Ok, Err, arith}
use Rattle.std.specs.Prelude.{T, not, ◌↔◌, OnOk, IsErr, filter, if◌then◌else◌, unwrap_or, option_map}
use Rattle.std.specs.Cmp.{Equal-is}
use Rattle.std.specs.FinMap.{is_sorted}
use Rattle.std.specs.List.{filter_map, cons_option, list_any}
use Rattle.std.proofs.lemmas.List.{take_more, drop_more, map-append, append-nil}
use Rattle.std.proofs.lemmas.List.Elements.{filter-append}
use Rattle.scsi_nexus.specs.declared.nexus.Nexus.{Nexus}
use Rattle.scsi_nexus.specs.declared.nexus_list.ListFull.{ListFull}
use Rattle.scsi_nexus.specs.Limits.{list_limit}
use Rattle.scsi_nexus.specs.Order.{nexus_cmp, same_nexus}
use Rattle.scsi_nexus.specs.Place.{IsAt}
use Rattle.scsi_nexus.proofs.NexusLaws.{eq_by_cmp-nexus, same_nexus-refl}
use Rattle.scsi_nexus.proofs.PlaceLemmas.{at_place, above_before, find-place}
use Rattle.unit_attention.specs.declared.kind.Kind.{Kind}
use Rattle.unit_attention.specs.declared.kind.Kind.TheVariants.{ReservationsPreempted, ReservationsReleased}
use Rattle.unit_attention.specs.Queues.{Slots, raised as raised_in, all_raised, for_other, for_others}
use Rattle.permit_tables.specs.Pairs.{key_in}
use Rattle.permit_tables.specs.declared.res_type.ResType.{ResType}
use Rattle.permit_tables.specs.Types.{is_registrants_only}
use Rattle.pr_core.specs.Acts.{Act, Register, Reserve, Release, Clear, Move}
use Rattle.pr_core.specs.Targets.{is_among}
use Rattle.pr_core.specs.State.{State, Keys, registrants, is_sole_holder, res_type}
use Rattle.pr_core.specs.Table.{IsProper}
use Rattle.pr_core.specs.Outcome.{told, is_releasing, raised, raised_for}

-- the registered nexuses that pass a test, with one more of them
pub passing_more : (p : Nexus → Bool) (x : Keys) (i : ℕ) (d : Nexus × ℕ) → i < length x
    → filter p (map (λ e. e.0) (take (i + 1) x)) ≡ filter p (map (λ e. e.0) (take i x)) ++ filter p ((get_or x i d).0 ∷ [])
passing_more p x i d lt =
    let first : Nexus × ℕ → Nexus = λ e. e.0 in
    ap (λ (y : Keys). filter p (map first y)) (take_more x i d lt) ∙ ap (filter p) (map-append first (take i x) (get_or x i d ∷ [])) ∙ filter-append p (map first (take i x)) ((get_or x i d).0 ∷ [])

pub passing_some : (p : Nexus → Bool) (x : Keys) (i : ℕ) (d : Nexus × ℕ) (y : List Nexus) → i < length x → p (get_or x i d).0 ≡ true
    → y ≡ filter p (map (λ e. e.0) (take i x)) → y ++ (get_or x i d).0 ∷ [] ≡ filter p (map (λ e. e.0) (take (i + 1) x))
passing_some p x i d y lt is e =
    let n = (get_or x i d).0 in
    ap (λ z. z ++ n ∷ []) e ∙ ap (λ b. filter p (map (λ (e : Nexus × ℕ). e.0) (take i x)) ++ cond b (n ∷ []) []) (sym is) ∙ sym (passing_more p x i d lt)

pub passing_none : (p : Nexus → Bool) (x : Keys) (i : ℕ) (d : Nexus × ℕ) (y : List Nexus) → i < length x → p (get_or x i d).0 ≡ false
    → y ≡ filter p (map (λ e. e.0) (take i x)) → y ≡ filter p (map (λ e. e.0) (take (i + 1) x))
passing_none p x i d y lt is e =
    let n = (get_or x i d).0 in
    let so_far = filter p (map (λ (e : Nexus × ℕ). e.0) (take i x)) in
    e ∙ sym (append-nil so_far) ∙ ap (λ b. so_far ++ cond b (n ∷ []) []) (sym is) ∙ sym (passing_more p x i d lt)

-- a list that isn't full takes one more
pub listed : (r : Result (Unit {0}) ListFull) (old new : List Nexus) (n : Nexus) → OnOk r (new ≡ old ++ n ∷ []) → (IsErr r ↔ (length old ≡ list_limit)) → length old < list_limit → new ≡ old ++ n ∷ []
listed (Ok u) old new n ok full lt = ok
listed (Err f) old new n ok full lt = absurd (omega (arith, full.0 refl, lt))

-- the key that stands beside a nexus is that nexus's
pub key_beside : (x : Keys) (i : ℕ) (d : Nexus × ℕ) → T (is_sorted nexus_cmp x) → i < length x → key_in x (get_or x i d).0 ≡ (get_or x i d).1
key_beside x i d h lt =
    let n = (get_or x i d).0 in
    let at : IsAt n x i = at_place n x i d lt ((Equal-is (nexus_cmp n n)).0 (eq_by_cmp-nexus n n ∙ same_nexus-refl n)) in
    ap (λ o. unwrap_or o 0) (find-place n x i d lt (above_before n x i h lt at) at)

-- in keys that are read as a list of their own
pub key_read : (x y : Keys) (i : ℕ) (d : Nexus × ℕ) → x ≡ y → IsProper y → i < length x → (get_or x i d).1 ≡ key_in y (get_or x i d).0
key_read x y i d same proper lt =
    sym (key_beside x i d (subst (λ (z : Keys). T (is_sorted nexus_cmp z)) (sym same) proper.sorted) lt) ∙ ap (λ (z : Keys). key_in z (get_or x i d).0) same

-- the slots once each of these registered nexuses was told what f says
abbrev pub all_told : (Nexus → Option (Nexus × Kind)) → Slots → Keys → Slots
all_told f q entries = all_raised q (filter_map f (map (λ e. e.0) entries))

pub told_some : (f : Nexus → Option (Nexus × Kind)) (q : Slots) (x : Keys) (i : ℕ) (d : Nexus × ℕ) (y : Nexus × Kind) → i < length x → f (get_or x i d).0 ≡ Some y
    → all_told f q (drop i x) ≡ all_told f (raised_in q y.0 y.1) (drop (i + 1) x)
told_some f q x i d y lt is = ap (all_told f q) (drop_more x i d lt) ∙ ap (λ o. all_raised q (cons_option o (filter_map f (map (λ (e : Nexus × ℕ). e.0) (drop (i + 1) x))))) is

pub told_none : (f : Nexus → Option (Nexus × Kind)) (q : Slots) (x : Keys) (i : ℕ) (d : Nexus × ℕ) → i < length x → f (get_or x i d).0 ≡ None
    → all_told f q (drop i x) ≡ all_told f q (drop (i + 1) x)
told_none f q x i d lt is = ap (all_told f q) (drop_more x i d lt) ∙ ap (λ o. all_raised q (cons_option o (filter_map f (map (λ (e : Nexus × ℕ). e.0) (drop (i + 1) x))))) is

-- nothing said of each nexus is nothing said
said_nothing : (ns : List Nexus) → filter_map {Y = Nexus × Kind} (λ n. None) ns ≡ []
said_nothing [] = refl
said_nothing (n ∷ ns) = said_nothing ns

-- what the attention of an act is for another nexus than its sender
pub raised_for_other : (v : State) (s : Nexus) (a : Act) (n : Nexus) → same_nexus n s ≡ false → raised_for v s a n ≡ option_map (λ kind. (n, kind)) (told v s a n)
raised_for_other v s a n apart = ap (λ b. if◌then◌else◌ {A = Option (Nexus × Kind)} b None (option_map (λ kind. (n, kind)) (told v s a n))) apart

pub raised_for_sender : (v : State) (s : Nexus) (a : Act) (n : Nexus) → same_nexus n s ≡ true → raised_for v s a n ≡ None
raised_for_sender v s a n same = ap (λ b. if◌then◌else◌ {A = Option (Nexus × Kind)} b None (option_map (λ kind. (n, kind)) (told v s a n))) same

pub untold : (v : State) (s : Nexus) (a : Act) (n : Nexus) → told v s a n ≡ None → raised_for v s a n ≡ None
untold v s a n h =
    elim (same_nexus n s) as (λ (b : Bool). same_nexus n s ≡ b → raised_for v s a n ≡ None) [
      | true ↦ raised_for_sender v s a n
      | false ↦ λ apart. raised_for_other v s a n apart ∙ ap (option_map (λ kind. (n, kind))) h
    ] refl

-- where f and g say the same of each nexus, they say the same of all
said_alike : (f g : Nexus → Option (Nexus × Kind)) → ((n : Nexus) → f n ≡ g n) → (ns : List Nexus) → filter_map f ns ≡ filter_map g ns
said_alike f g same [] = refl
said_alike f g same (n ∷ ns) = ap (λ o. cons_option o (filter_map f ns)) (same n) ∙ ap (cons_option (g n)) (said_alike f g same ns)

one_said : (n : Nexus) (kind : Kind) (m : Bool) → cond {A = Option (Nexus × Kind)} m None (Some (n, kind)) ≡ option_map (λ k. (n, k)) (cond m None (Some kind))
one_said n kind true = refl
one_said n kind false = refl

other_told : (v : State) (s : Nexus) (a : Act) (named : List Nexus) (kind : Kind) (n : Nexus) → told v s a n ≡ cond (is_among n named) None (Some kind) → for_other s named kind n ≡ raised_for v s a n
other_told v s a named kind n says =
    elim (same_nexus n s) as (λ (b : Bool). same_nexus n s ≡ b → for_other s named kind n ≡ raised_for v s a n) [
      | true ↦ λ same. ap (λ (b : Bool). cond {A = Option (Nexus × Kind)} (b || is_among n named) None (Some (n, kind))) same ∙ sym (raised_for_sender v s a n same)
      | false ↦ λ apart. ap (λ (b : Bool). cond {A = Option (Nexus × Kind)} (b || is_among n named) None (Some (n, kind))) apart ∙ one_said n kind (is_among n named) ∙ sym (raised_for_other v s a n apart ∙ ap (option_map (λ k. (n, k))) says)
    ] refl

-- an act that tells each registered nexus the same kind, but for its sender and those that are named
others_told : (v : State) (s : Nexus) (a : Act) (named : List Nexus) (kind : Kind) → ((n : Nexus) → told v s a n ≡ cond (is_among n named) None (Some kind)) → for_others s named kind (registrants v) ≡ raised v s a
others_told v s a named kind says = said_alike (for_other s named kind) (raised_for v s a) (λ n. other_told v s a named kind n (says n)) (registrants v)

-- an act that tells nobody anything
none_told : (v : State) (s : Nexus) (a : Act) → ((n : Nexus) → told v s a n ≡ None) → raised v s a ≡ []
none_told v s a says = said_alike (raised_for v s a) (λ n. None) (λ n. untold v s a n (says n)) (registrants v) ∙ said_nothing (registrants v)

-- a CLEAR tells all others the same
pub clear_told : (v : State) (s : Nexus) (a : Act) → a ≡ Clear → for_others s [] ReservationsPreempted (registrants v) ≡ raised v s a
clear_told v s a is = subst (λ (b : Act). for_others s [] ReservationsPreempted (registrants v) ≡ raised v s b) (sym is) (others_told v s Clear [] ReservationsPreempted (λ n. refl))

-- a RELEASE that releases does too, and another tells nobody anything
pub release_told : (v : State) (s : Nexus) (a : Act) {code : ℕ} → a ≡ Release code → is_releasing v s a ≡ true → for_others s [] ReservationsReleased (registrants v) ≡ raised v s a
release_told v s a {code} is =
    subst (λ (b : Act). is_releasing v s b ≡ true → for_others s [] ReservationsReleased (registrants v) ≡ raised v s b) (sym is)
    (λ h. others_told v s (Release code) [] ReservationsReleased (λ n. ap (λ (b : Bool). cond {A = Option Kind} b (Some ReservationsReleased) None) h))

pub release_untold : (v : State) (s : Nexus) (a : Act) {code : ℕ} → a ≡ Release code → is_releasing v s a ≡ false → raised v s a ≡ []
release_untold v s a {code} is =
    subst (λ (b : Act). is_releasing v s b ≡ false → raised v s b ≡ []) (sym is)
    (λ h. none_told v s (Release code) (λ n. ap (λ (b : Bool). cond {A = Option Kind} b (Some ReservationsReleased) None) h))

releasing : (a b c m : Bool) → (a && b && c) ≡ true → cond (a && b && c && not m) (Some ReservationsReleased) None ≡ cond m None (Some ReservationsReleased)
releasing true true true true h = refl
releasing true true true false h = refl
releasing true true false m h = absurd cc
releasing true false c m h = absurd cc
releasing false b c m h = absurd cc

keeping : (a b c m : Bool) → (a && b && c) ≡ false → cond (a && b && c && not m) (Some ReservationsReleased) None ≡ None
keeping true true true m h = absurd cc
keeping true true false m h = refl
keeping true false c m h = refl
keeping false b c m h = refl

-- so does a REGISTER, but for those that it names
pub register_told : (v : State) (s : Nexus) (a : Act) {k : ℕ} {targets : List Nexus} → a ≡ Register k targets → is_releasing v s a ≡ true → for_others s targets ReservationsReleased (registrants v) ≡ raised v s a
register_told v s a {k} {targets} is =
    subst (λ (b : Act). is_releasing v s b ≡ true → for_others s targets ReservationsReleased (registrants v) ≡ raised v s b) (sym is)
    (λ h. others_told v s (Register k targets) targets ReservationsReleased (λ n. releasing (k == 0) (is_registrants_only (res_type v)) (list_any (is_sole_holder v) targets) (is_among n targets) h))

pub register_untold : (v : State) (s : Nexus) (a : Act) {k : ℕ} {targets : List Nexus} → a ≡ Register k targets → is_releasing v s a ≡ false → raised v s a ≡ []
register_untold v s a {k} {targets} is =
    subst (λ (b : Act). is_releasing v s b ≡ false → raised v s b ≡ []) (sym is)
    (λ h. none_told v s (Register k targets) (λ n. keeping (k == 0) (is_registrants_only (res_type v)) (list_any (is_sole_holder v) targets) (is_among n targets) h))

-- RESERVE and REGISTER AND MOVE tell nobody anything
pub reserve_untold : (v : State) (s : Nexus) (a : Act) {t : ResType} → a ≡ Reserve t → raised v s a ≡ []
reserve_untold v s a {t} is = subst (λ (b : Act). raised v s b ≡ []) (sym is) (none_told v s (Reserve t) (λ n. refl))

pub move_untold : (v : State) (s : Nexus) (a : Act) {k : ℕ} {d : Nexus} {unreg : Bool} → a ≡ Move k d unreg → raised v s a ≡ []
move_untold v s a {k} {d} {unreg} is = subst (λ (b : Act). raised v s b ≡ []) (sym is) (none_told v s (Move k d unreg) (λ n. refl))

-- TransportIDs one behind another.
use Rattle.std.proofs.Common.{◌≡◌, ℕ, suc, ◌+◌, ◌-◌, ◌*◌, ◌/◌, ◌%◌, ◌≤◌, ◌&&◌, ◌||◌, not, Bool, true, false, cond, List, [], ◌∷◌, ◌++◌, append_assoc, length, take, drop, map, length-drop, refl, ap, subst, ◌∙◌, sym, arith, Some, None}
use Rattle.std.proofs.lemmas.Grind.{common_steps}
use Rattle.std.specs.List.{list_all}
use Rattle.scsi_cdb.specs.declared.service_action.OutServiceAction.{OutServiceAction}
use Rattle.scsi_nexus.specs.Limits.{list_limit}
use Rattle.scsi_nexus.specs.TransportId.{IsSas, sas_address}
use Rattle.pr_params.specs.Lists.{ids, is_sas, may_list, is_listed_length, listed_length, listed_ids, listed_defect}
use Rattle.permit_tables.specs.declared.list_defect.ListDefect.TheVariants.{Field, TransportId}
use Rattle.pr_params.proofs.ListLaws.{whole_rest}

-- the first TransportID, and those behind it
pub ids-step : (xs : List ℕ) → 24 ≤ length xs → ids (length xs / 24) xs ≡ take 24 xs ∷ ids (length (drop 24 xs) / 24) (drop 24 xs)
ids-step xs h = let e : length xs / 24 ≡ suc (length (drop 24 xs) / 24) = omega (arith, length-drop 24 xs) in rw e refl

-- a SAS TransportID passes the test
sas-test : (id : List ℕ) → IsSas id → is_sas id ≡ true
sas-test id sas = grind (arith, common_steps)

-- a SAS one: all are, if those behind it are
pub all-step : (xs id behind : List ℕ) → 24 ≤ length xs → id ≡ take 24 xs → behind ≡ drop 24 xs → IsSas id
    → list_all is_sas (ids (length xs / 24) xs) ≡ list_all is_sas (ids (length behind / 24) behind)
all-step xs id behind le first rest sas =
    ap (list_all is_sas) (ids-step xs le)
    ∙ ap (λ b. b && list_all is_sas (ids (length (drop 24 xs) / 24) (drop 24 xs))) (sas-test (take 24 xs) (subst IsSas first sas))
    ∙ ap (λ l. list_all is_sas (ids (length l / 24) l)) (sym rest)

-- the address of the first, and of those behind it
read-step : (xs id behind : List ℕ) → 24 ≤ length xs → id ≡ take 24 xs → behind ≡ drop 24 xs
    → map sas_address (ids (length xs / 24) xs) ≡ sas_address id ∷ map sas_address (ids (length behind / 24) behind)
read-step xs id behind le first rest =
    ap (map sas_address) (ids-step xs le)
    ∙ ap (λ l. sas_address l ∷ map sas_address (ids (length (drop 24 xs) / 24) (drop 24 xs))) (sym first)
    ∙ ap (λ l. sas_address id ∷ map sas_address (ids (length l / 24) l)) (sym rest)

-- what was read with one address more, and what is left
pub read-more : (whole xs id behind before after : List ℕ) (address : ℕ) → 24 ≤ length xs → id ≡ take 24 xs → behind ≡ drop 24 xs
    → address ≡ sas_address id → after ≡ before ++ address ∷ [] → whole ≡ before ++ map sas_address (ids (length xs / 24) xs)
    → whole ≡ after ++ map sas_address (ids (length behind / 24) behind)
read-more whole xs id behind before after address le first rest is push so_far =
    let left : List ℕ = map sas_address (ids (length behind / 24) behind) in
    so_far
    ∙ ap (λ l. before ++ l) (read-step xs id behind le first rest ∙ ap (λ a. a ∷ left) (sym is))
    ∙ sym (append_assoc before (address ∷ []) left)
    ∙ ap (λ l. l ++ left) (sym push)

-- the bytes behind the length field of a list with SPEC_I_PT
abbrev listed_bytes : List ℕ → List ℕ
listed_bytes bytes = take (length bytes - 28) (drop 28 bytes)

-- they are as many as the length field says
length-listed : (bytes : List ℕ) → length bytes ≡ 28 + listed_length bytes → length (listed_bytes bytes) ≡ listed_length bytes
length-listed bytes whole = ap length (whole_rest 28 bytes) ∙ omega (arith, length-drop 28 bytes)

-- their TransportIDs are those that the list names
pub ids-listed : (bytes : List ℕ) → length bytes ≡ 28 + listed_length bytes → ids (length (listed_bytes bytes) / 24) (listed_bytes bytes) ≡ listed_ids bytes
ids-listed bytes whole =
    ap (λ n. ids (n / 24) (listed_bytes bytes)) (length-listed bytes whole) ∙ ap (ids (listed_length bytes / 24)) (whole_rest 28 bytes)

-- a length of whole TransportIDs, of which there are not too many
right : (n : ℕ) → n % 24 ≡ 0 → n ≤ 24 * list_limit → is_listed_length n ≡ true
right n pieces room = grind (arith, common_steps)

-- the last of three tests decides where the first two passed
by_tests : {X : Type 0} (may fits sas : Bool) (f t n : X) → may ≡ true → fits ≡ true → cond (not may || not fits) f (cond (not sas) t n) ≡ cond sas n t
by_tests false fits sas f t n may h = cc
by_tests true false sas f t n may h = cc
by_tests true true false f t n may h = refl
by_tests true true true f t n may h = refl

-- where the service action may list and the length is right, the TransportIDs alone decide
pub defect-listed : (act : OutServiceAction) (bytes : List ℕ) → may_list act ≡ true → length bytes ≡ 28 + listed_length bytes
    → length (listed_bytes bytes) % 24 ≡ 0 → length (listed_bytes bytes) ≤ 24 * list_limit
    → listed_defect act bytes ≡ cond (list_all is_sas (listed_ids bytes)) None (Some TransportId)
defect-listed act bytes may whole pieces room =
    let n : length (listed_bytes bytes) ≡ listed_length bytes = length-listed bytes whole in
    let pieces' : listed_length bytes % 24 ≡ 0 = subst (λ k. k % 24 ≡ 0) n pieces in
    let room' : listed_length bytes ≤ 24 * list_limit = subst (λ k. k ≤ 24 * list_limit) n room in
    by_tests (may_list act) (is_listed_length (listed_length bytes)) (list_all is_sas (listed_ids bytes)) (Some Field) (Some TransportId) None may (right _ pieces' room')

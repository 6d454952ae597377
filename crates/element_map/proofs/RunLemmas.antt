-- The elements that are reported, type by type.
use Rattle.std.proofs.Common.{◌≡◌, ℕ, zero, suc, ◌+◌, ◌-◌, ◌≤◌, ◌==◌, ◌&&◌, ◌||◌, Bool, true, false, cond, nat_le, min, List, [], ◌∷◌, ◌++◌, length, take, drop, length-drop, append_assoc, Option, None, map, refl, ap, sym, ◌∙◌, inl, inr, arith}
use Rattle.std.proofs.lemmas.Bool.{cases_lt}
use Rattle.std.proofs.lemmas.List.{take_min, drop_all, length-take-le}
use Rattle.std.proofs.lemmas.List.Elements.{filter-append}
use Rattle.std.specs.List.{filter}
use Rattle.tape_medium.specs.declared.volume.VolumeTag.{VolumeTag}
use Rattle.tape_medium.specs.Elements.{Elements, tag_of}
use Rattle.tape_medium.specs.ElementStatus.{Reported, of_type, reported}
use Rattle.element_map.specs.declared.element_type.ElementType.{ElementType}
use Rattle.element_map.specs.declared.element_type.ElementType.TheVariants.{MediumTransport, DataTransfer, ImportExport, Storage}
use Rattle.element_map.specs.declared.run.Run.{Run}
use Rattle.element_map.specs.Runs.{code_of, first_of, tags_of, in_run, from_address, count_from}

-- whether an element is asked for
abbrev pub asks : ℕ → ℕ → Reported → Bool
asks asked start r = (asked == 0 || r.type_code == asked) && nat_le start r.address

-- of a type that isn't asked for there is none
filter-other : (asked start t first : ℕ) (tags : List (Option VolumeTag)) → (asked == 0 || t == asked) ≡ false → filter (asks asked start) (of_type t first tags) ≡ []
filter-other asked start t first [] other = refl
filter-other asked start t first (tag ∷ tags) other = rw other (filter-other asked start t (first + 1) tags other)

-- all from a first address at or behind the start
filter-all : (asked start t first : ℕ) (tags : List (Option VolumeTag)) → (asked == 0 || t == asked) ≡ true → start ≤ first → filter (asks asked start) (of_type t first tags) ≡ of_type t first tags
filter-all asked start t first [] same le = refl
filter-all asked start t first (tag ∷ tags) same le =
    let at : nat_le start first ≡ true = grind arith in
    let next : start ≤ first + 1 = omega arith in
    rw (same, at) (ap (λ rest. record { type_code = t; address = first; tag = tag } ∷ rest) (filter-all asked start t (first + 1) tags same next))

-- those from the start on
filter-from : (asked start t first skip : ℕ) (tags : List (Option VolumeTag)) → (asked == 0 || t == asked) ≡ true → start ≡ first + skip
    → filter (asks asked start) (of_type t first tags) ≡ of_type t (first + skip) (drop skip tags)
filter-from asked start t first zero tags same is =
    let le : start ≤ first = omega arith in
    filter-all asked start t first tags same le ∙ grind arith
filter-from asked start t first (suc skip) [] same is = refl
filter-from asked start t first (suc skip) (tag ∷ tags) same is =
    let before : nat_le start first ≡ false = grind arith in
    let next : start ≡ (first + 1) + skip = omega arith in
    let moved : (first + 1) + skip ≡ first + suc skip = omega arith in
    rw (same, before) (filter-from asked start t (first + 1) skip tags same next ∙ ap (λ at. of_type t at (drop skip tags)) moved)

-- the first elements of a type
take-of_type : (count t first : ℕ) (tags : List (Option VolumeTag)) → take count (of_type t first tags) ≡ of_type t first (take count tags)
take-of_type zero t first tags = refl
take-of_type (suc count) t first [] = refl
take-of_type (suc count) t first (tag ∷ tags) = ap (λ rest. record { type_code = t; address = first; tag = tag } ∷ rest) (take-of_type count t (first + 1) tags)

pub length-of_type : (t first : ℕ) (tags : List (Option VolumeTag)) → length (of_type t first tags) ≡ length tags
length-of_type t first [] = refl
length-of_type t first (tag ∷ tags) = ap suc (length-of_type t (first + 1) tags)

-- those of a type that is asked for
filter-asked : (asked start t first : ℕ) (tags : List (Option VolumeTag)) → (asked == 0 || t == asked) ≡ true
    → filter (asks asked start) (of_type t first tags) ≡ of_type t (first + (start - first)) (drop (start - first) tags)
filter-asked asked start t first tags same =
    elim (cases_lt start first) [
      | inl lt ↦
          let le : start ≤ first = omega arith in
          let none : start - first ≡ 0 = omega arith in
          let at : first + 0 ≡ first = omega arith in
          filter-all asked start t first tags same le ∙ rw (none, at) refl
      | inr le ↦
          let is : start ≡ first + (start - first) = omega arith in
          filter-from asked start t first (start - first) tags same is
    ]

take-none : {X : Type 0} (n : ℕ) (xs : List X) → xs ≡ [] → take n xs ≡ []
take-none zero xs none = refl
take-none (suc n) xs none = rw none refl

-- by numbers that stay within the list
within : (k count t first : ℕ) (tags : List (Option VolumeTag))
    → of_type t (first + k) (take count (drop k tags)) ≡ of_type t (first + min k (length tags)) (take (min count (length tags - k)) (drop (min k (length tags)) tags))
within k count t first tags =
    elim (cases_lt (length tags) k) [
      | inl lt ↦
          let le : length tags ≤ k = omega arith in
          let none : min count (length tags - k) ≡ 0 = omega arith in
          rw (take-none count (drop k tags) (drop_all k tags le), none) refl
      | inr le ↦
          let same : min k (length tags) ≡ k = omega arith in
          let rest : length tags - k ≡ length (drop k tags) = sym (length-drop k tags) in
          rw (same, rest, take_min count (drop k tags)) refl
    ]

-- those of a type that are reported
run_by : (b : Bool) (asked start count t first from n : ℕ) (tags : List (Option VolumeTag)) → (asked == 0 || t == asked) ≡ b
    → from ≡ min (start - first) (length tags) → n ≡ cond b (min count (length tags - (start - first))) 0
    → take count (filter (asks asked start) (of_type t first tags)) ≡ of_type t (first + from) (take n (drop from tags))
run_by true asked start count t first from n tags same begins counts =
    ap (take count) (filter-asked asked start t first tags same)
    ∙ take-of_type count t (first + (start - first)) (drop (start - first) tags)
    ∙ within (start - first) count t first tags
    ∙ rw (begins, counts) refl
run_by false asked start count t first from n tags other begins counts =
    take-none count _ (filter-other asked start t first tags other) ∙ rw counts refl

-- what the run of a type is
pub record IsChosen (e : Elements) (type : ElementType) (asked start most : ℕ) (run : Run) : Type 0 where
  pub from : run.from ≡ from_address type (length (tags_of e type)) start
  pub count : run.count ≡ count_from asked type (length (tags_of e type)) start most
  pub inside : run.from + run.count ≤ length (tags_of e type)

run_is : (e : Elements) (type : ElementType) (asked start count : ℕ) (run : Run) → IsChosen e type asked start count run
    → take count (filter (asks asked start) (of_type (code_of type) (first_of type) (tags_of e type))) ≡ in_run e type run.from run.count
run_is e type asked start count run chosen =
    run_by (asked == 0 || code_of type == asked) asked start count (code_of type) (first_of type) run.from run.count (tags_of e type) refl chosen.from chosen.count

-- how many a run has
pub length-in_run : (e : Elements) (type : ElementType) (from count : ℕ) → from + count ≤ length (tags_of e type) → length (in_run e type from count) ≡ count
length-in_run e type from count inside =
    let few : count ≤ length (drop from (tags_of e type)) = omega (arith, length-drop from (tags_of e type)) in
    length-of_type (code_of type) (first_of type + from) (take count (drop from (tags_of e type))) ∙ length-take-le count (drop from (tags_of e type)) few

-- at most `n` of two lists: of the first, and then of the second
take-parts : {X : Type 0} (n : ℕ) (xs ys : List X) → take n (xs ++ ys) ≡ take n xs ++ take (n - length (take n xs)) ys
take-parts zero xs ys = refl
take-parts (suc n) [] ys = let all : suc n - 0 ≡ suc n = omega arith in rw all refl
take-parts (suc n) (x ∷ xs) ys =
    let rest : suc n - suc (length (take n xs)) ≡ n - length (take n xs) = omega arith in
    rw rest (ap (λ all. x ∷ all) (take-parts n xs ys))

-- the elements of a type, and those behind them
run_step : (e : Elements) (type : ElementType) (asked start count : ℕ) (run : Run) (behind : List Reported) → IsChosen e type asked start count run
    → take count (filter (asks asked start) (of_type (code_of type) (first_of type) (tags_of e type) ++ behind))
    ≡ in_run e type run.from run.count ++ take (count - run.count) (filter (asks asked start) behind)
run_step e type asked start count run behind chosen =
    let own : List Reported = filter (asks asked start) (of_type (code_of type) (first_of type) (tags_of e type)) in
    let others : List Reported = filter (asks asked start) behind in
    ap (take count) (filter-append (asks asked start) (of_type (code_of type) (first_of type) (tags_of e type)) behind)
    ∙ take-parts count own others
    ∙ ap (λ reports. reports ++ take (count - length reports) others) (run_is e type asked start count run chosen)
    ∙ ap (λ n. in_run e type run.from run.count ++ take (count - n) others) (length-in_run e type run.from run.count chosen.inside)

pub four_appends : {X : Type 0} (a b c d : List X) → ((a ++ b) ++ c) ++ d ≡ a ++ (b ++ (c ++ d))
four_appends a b c d = append_assoc (a ++ b) c d ∙ append_assoc a b (c ++ d)

-- all that is reported
pub report_is : (e : Elements) (asked start count : ℕ) (medium_transport data_transfer import_export storage : Run)
    → IsChosen e MediumTransport asked start count medium_transport
    → IsChosen e DataTransfer asked start (count - medium_transport.count) data_transfer
    → IsChosen e ImportExport asked start (count - medium_transport.count - data_transfer.count) import_export
    → IsChosen e Storage asked start (count - medium_transport.count - data_transfer.count - import_export.count) storage
    → reported e asked start count
    ≡ in_run e MediumTransport medium_transport.from medium_transport.count ++ in_run e DataTransfer data_transfer.from data_transfer.count
    ++ in_run e ImportExport import_export.from import_export.count ++ in_run e Storage storage.from storage.count
report_is e asked start count medium_transport data_transfer import_export storage first second third fourth =
    ap (λ all. take count (filter (asks asked start) all))
    (four_appends (of_type 1 0 (None ∷ [])) (of_type 4 (first_of DataTransfer) e.data_transfer) (of_type 3 (first_of ImportExport) (map tag_of e.import_export)) (of_type 2 (first_of Storage) (map tag_of e.storage)))
    ∙ run_step e MediumTransport asked start _ medium_transport _ first
    ∙ ap (λ rest. in_run e MediumTransport medium_transport.from medium_transport.count ++ rest)
    (run_step e DataTransfer asked start _ data_transfer _ second
    ∙ ap (λ rest. in_run e DataTransfer data_transfer.from data_transfer.count ++ rest)
    (run_step e ImportExport asked start _ import_export _ third
    ∙ ap (λ rest. in_run e ImportExport import_export.from import_export.count ++ rest) (run_is e Storage asked start _ storage fourth)))
    ∙ sym
    (four_appends (in_run e MediumTransport medium_transport.from medium_transport.count) (in_run e DataTransfer data_transfer.from data_transfer.count)
    (in_run e ImportExport import_export.from import_export.count) (in_run e Storage storage.from storage.count))

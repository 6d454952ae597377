-- The pages of what is reported, and the header before them.
use Rattle.std.proofs.Common.{◌≡◌, ℕ, zero, suc, ◌+◌, ◌-◌, ◌*◌, ◌<◌, ◌≤◌, ◌==◌, Bool, true, false, if◌then◌else◌, List, [], ◌∷◌, ◌++◌, length, take, drop, get_or, length-drop, length-append, Option, None, refl, ap, sym, ◌∙◌, arith}
use Rattle.std.proofs.Math.Nat.{mul-le-mul_right}
use Rattle.std.proofs.lemmas.List.{append-nil, take_more, get_or-drop, length-take-le, flat_map_more}
use Rattle.std.proofs.lemmas.List.Elements.{filter-append}
use Rattle.std.specs.List.{filter}
use Rattle.tape_medium.specs.declared.volume.VolumeTag.{VolumeTag}
use Rattle.tape_medium.specs.Elements.{Elements}
use Rattle.tape_medium.specs.ElementStatus.{Reported, of_type, descriptor, page_of, pages, first_address, status_of, two_bytes, three_bytes}
use Rattle.element_map.specs.declared.element_type.ElementType.{ElementType}
use Rattle.element_map.specs.declared.element_type.ElementType.TheVariants.{MediumTransport, DataTransfer, ImportExport, Storage}
use Rattle.element_map.specs.declared.run.Run.{Run}
use Rattle.element_map.specs.declared.report.Report.{Report}
use Rattle.element_map.specs.Runs.{code_of, first_of, tags_of, in_run, in_report, number_in, first_in, first_of_report, IsReport}
use Rattle.element_map.specs.Pages.{reported_at, page_header, descriptors}
use Rattle.element_map.proofs.RunLemmas.{length-in_run, four_appends}

-- ONE PAGE

-- one more element of a type
of_type-more : (t first at : ℕ) (tags : List (Option VolumeTag)) (tag : Option VolumeTag) → at ≡ first + length tags
    → of_type t first (tags ++ tag ∷ []) ≡ of_type t first tags ++ record { type_code = t; address = at; tag = tag } ∷ []
of_type-more t first at [] tag is = let same : first ≡ at = omega arith in rw same refl
of_type-more t first at (other ∷ tags) tag is =
    let next : at ≡ (first + 1) + length tags = omega arith in
    ap (λ rest. record { type_code = t; address = first; tag = other } ∷ rest) (of_type-more t (first + 1) at tags tag next)

in_run-more : (e : Elements) (type : ElementType) (from at : ℕ) (tag : Option VolumeTag) → from ≤ at → at < length (tags_of e type) → tag ≡ get_or (tags_of e type) at None
    → in_run e type from (at + 1 - from) ≡ in_run e type from (at - from) ++ reported_at type at tag ∷ []
in_run-more e type from at tag le lt is =
    let rest : List (Option VolumeTag) = drop from (tags_of e type) in
    let k : ℕ = at - from in
    let more : at + 1 - from ≡ k + 1 = omega arith in
    let inside : k < length rest = omega (arith, length-drop from (tags_of e type)) in
    let some : k ≤ length rest = omega arith in
    let place : from + k ≡ at = omega arith in
    let own : get_or rest k None ≡ tag = get_or-drop from (tags_of e type) k None ∙ ap (λ i. get_or (tags_of e type) i None) place ∙ sym is in
    let behind : first_of type + at ≡ (first_of type + from) + length (take k rest) = omega (arith, length-take-le k rest some) in
    ap (λ n. in_run e type from n) more
    ∙ ap (of_type (code_of type) (first_of type + from)) (take_more rest k None inside ∙ ap (λ y. take k rest ++ y ∷ []) own)
    ∙ of_type-more (code_of type) (first_of type + from) (first_of type + at) (take k rest) tag behind

-- one more descriptor
pub descriptors-more : (e : Elements) (type : ElementType) (voltag : Bool) (from at : ℕ) (tag : Option VolumeTag) (front old new : List ℕ)
    → from ≤ at → at < length (tags_of e type) → tag ≡ get_or (tags_of e type) at None
    → old ≡ front ++ descriptors voltag (in_run e type from (at - from)) → new ≡ old ++ descriptor voltag (reported_at type at tag)
    → new ≡ front ++ descriptors voltag (in_run e type from (at + 1 - from))
descriptors-more e type voltag from at tag front old new le lt is so_far this =
    this ∙ ap (λ bytes. bytes ++ descriptor voltag (reported_at type at tag)) so_far
    ∙ flat_map_more (descriptor voltag) front (in_run e type from (at - from)) (reported_at type at tag)
    ∙ ap (λ rs. front ++ descriptors voltag rs) (sym (in_run-more e type from at tag le lt is))

pub times-more : (n from at d : ℕ) → from ≤ at → n + (at - from) * d + d ≡ n + (at + 1 - from) * d
times-more n from at d le = let more : at + 1 - from ≡ (at - from) + 1 = omega arith in rw more (grind arith)

-- there is room for one more descriptor
pub room_for_one : (n from at count d : ℕ) → from ≤ at → at < from + count → n + (at - from) * d + d ≤ n + count * d
room_for_one n from at count d le lt =
    let one : n + (at - from) * d + d ≡ n + (at + 1 - from) * d = times-more n from at d le in
    let few : at + 1 - from ≤ count = omega arith in
    omega (arith, one, mul-le-mul_right d few)

-- the page of some elements is their header and their descriptors
pub page_of-some : (voltag : Bool) (t n : ℕ) (rs : List Reported) → length rs ≡ n → 0 < n → page_of voltag t rs ≡ page_header voltag t n ++ descriptors voltag rs
page_of-some voltag t n [] is some = absurd (omega arith)
page_of-some voltag t n (r ∷ rs) is some = ap (λ k. page_header voltag t k ++ descriptors voltag (r ∷ rs)) is

-- ALL PAGES

filter-own : (t first : ℕ) (tags : List (Option VolumeTag)) → filter (λ r. r.type_code == t) (of_type t first tags) ≡ of_type t first tags
filter-own t first [] = refl
filter-own t first (tag ∷ tags) =
    let same : (t == t) ≡ true = grind arith in
    rw same (ap (λ rest. record { type_code = t; address = first; tag = tag } ∷ rest) (filter-own t (first + 1) tags))

filter-not : (u t first : ℕ) (tags : List (Option VolumeTag)) → (t == u) ≡ false → filter (λ r. r.type_code == u) (of_type t first tags) ≡ []
filter-not u t first [] other = refl
filter-not u t first (tag ∷ tags) other = rw other (filter-not u t (first + 1) tags other)

-- of four lists, what each leaves
filter-four : (p : Reported → Bool) (a b c d a' b' c' d' : List Reported) → filter p a ≡ a' → filter p b ≡ b' → filter p c ≡ c' → filter p d ≡ d'
    → filter p (((a ++ b) ++ c) ++ d) ≡ ((a' ++ b') ++ c') ++ d'
filter-four p a b c d a' b' c' d' ha hb hc hd =
    filter-append p ((a ++ b) ++ c) d
    ∙ ap (λ x. x ++ filter p d) (filter-append p (a ++ b) c)
    ∙ ap (λ x. (x ++ filter p c) ++ filter p d) (filter-append p a b)
    ∙ ap (λ x. ((x ++ filter p b) ++ filter p c) ++ filter p d) ha
    ∙ ap (λ x. ((a' ++ x) ++ filter p c) ++ filter p d) hb
    ∙ ap (λ x. ((a' ++ b') ++ x) ++ filter p d) hc
    ∙ ap (λ x. ((a' ++ b') ++ c') ++ x) hd

abbrev tagged : ElementType → Run → Elements → List (Option VolumeTag)
tagged type run e = take run.count (drop run.from (tags_of e type))

-- the elements of a type among all
filter-of : (u : ℕ) (e : Elements) (type : ElementType) (run : Run) → (code_of type == u) ≡ false → filter (λ r. r.type_code == u) (in_run e type run.from run.count) ≡ []
filter-of u e type run other = filter-not u (code_of type) (first_of type + run.from) (tagged type run e) other

abbrev run_in : Elements → ElementType → Run → List Reported
run_in e type run = in_run e type run.from run.count

own_in : (e : Elements) (type : ElementType) (run : Run) → filter (λ r. r.type_code == code_of type) (run_in e type run) ≡ run_in e type run
own_in e type run = filter-own (code_of type) (first_of type + run.from) (tagged type run e)

abbrev all_pages : Elements → Bool → Report → List ℕ
all_pages e voltag r =
    page_of voltag 1 (run_in e MediumTransport r.medium_transport) ++ page_of voltag 4 (run_in e DataTransfer r.data_transfer)
    ++ page_of voltag 3 (run_in e ImportExport r.import_export) ++ page_of voltag 2 (run_in e Storage r.storage)

pages_are : (e : Elements) (voltag : Bool) (r : Report) → pages voltag (in_report e r) ≡ all_pages e voltag r
pages_are e voltag r =
    let a : List Reported = run_in e MediumTransport r.medium_transport in
    let b : List Reported = run_in e DataTransfer r.data_transfer in
    let c : List Reported = run_in e ImportExport r.import_export in
    let d : List Reported = run_in e Storage r.storage in
    let p1 : filter (λ x. x.type_code == 1) (((a ++ b) ++ c) ++ d) ≡ a
    = filter-four (λ x. x.type_code == 1) a b c d a [] [] [] (own_in e MediumTransport r.medium_transport) (filter-of 1 e DataTransfer r.data_transfer refl) (filter-of 1 e ImportExport r.import_export refl) (filter-of 1 e Storage r.storage refl)
    ∙ simp append-nil in
    let p4 : filter (λ x. x.type_code == 4) (((a ++ b) ++ c) ++ d) ≡ b
    = filter-four (λ x. x.type_code == 4) a b c d [] b [] [] (filter-of 4 e MediumTransport r.medium_transport refl) (own_in e DataTransfer r.data_transfer) (filter-of 4 e ImportExport r.import_export refl) (filter-of 4 e Storage r.storage refl)
    ∙ simp append-nil in
    let p3 : filter (λ x. x.type_code == 3) (((a ++ b) ++ c) ++ d) ≡ c
    = filter-four (λ x. x.type_code == 3) a b c d [] [] c [] (filter-of 3 e MediumTransport r.medium_transport refl) (filter-of 3 e DataTransfer r.data_transfer refl) (own_in e ImportExport r.import_export) (filter-of 3 e Storage r.storage refl)
    ∙ simp append-nil in
    let p2 : filter (λ x. x.type_code == 2) (((a ++ b) ++ c) ++ d) ≡ d
    = filter-four (λ x. x.type_code == 2) a b c d [] [] [] d (filter-of 2 e MediumTransport r.medium_transport refl) (filter-of 2 e DataTransfer r.data_transfer refl) (filter-of 2 e ImportExport r.import_export refl) (own_in e Storage r.storage) in
    ap (λ x. page_of voltag 1 x ++ page_of voltag 4 (filter (λ r. r.type_code == 4) (((a ++ b) ++ c) ++ d)) ++ page_of voltag 3 (filter (λ r. r.type_code == 3) (((a ++ b) ++ c) ++ d)) ++ page_of voltag 2 (filter (λ r. r.type_code == 2) (((a ++ b) ++ c) ++ d))) p1
    ∙ ap (λ x. page_of voltag 1 a ++ page_of voltag 4 x ++ page_of voltag 3 (filter (λ r. r.type_code == 3) (((a ++ b) ++ c) ++ d)) ++ page_of voltag 2 (filter (λ r. r.type_code == 2) (((a ++ b) ++ c) ++ d))) p4
    ∙ ap (λ x. page_of voltag 1 a ++ page_of voltag 4 b ++ page_of voltag 3 x ++ page_of voltag 2 (filter (λ r. r.type_code == 2) (((a ++ b) ++ c) ++ d))) p3
    ∙ ap (λ x. page_of voltag 1 a ++ page_of voltag 4 b ++ page_of voltag 3 c ++ page_of voltag 2 x) p2

-- THE HEADER

number_is : (e : Elements) (r : Report) → IsReport e r → length (in_report e r) ≡ number_in r
number_is e r whole =
    let a : List Reported = run_in e MediumTransport r.medium_transport in
    let b : List Reported = run_in e DataTransfer r.data_transfer in
    let c : List Reported = run_in e ImportExport r.import_export in
    let d : List Reported = run_in e Storage r.storage in
    let la : length a ≡ r.medium_transport.count = length-in_run e MediumTransport r.medium_transport.from r.medium_transport.count whole.medium_transport in
    let lb : length b ≡ r.data_transfer.count = length-in_run e DataTransfer r.data_transfer.from r.data_transfer.count whole.data_transfer in
    let lc : length c ≡ r.import_export.count = length-in_run e ImportExport r.import_export.from r.import_export.count whole.import_export in
    let ld : length d ≡ r.storage.count = length-in_run e Storage r.storage.from r.storage.count whole.storage in
    omega (arith, length-append ((a ++ b) ++ c) d, length-append (a ++ b) c, length-append a b)

-- the first of some elements, or of what comes behind none
first_of_list : (t first n : ℕ) (tags : List (Option VolumeTag)) (behind : List Reported) → n ≤ length tags
    → first_address (of_type t first (take n tags) ++ behind) ≡ (if n == 0 then first_address behind else first)
first_of_list t first zero tags behind le = refl
first_of_list t first (suc n) [] behind le = absurd (omega arith)
first_of_list t first (suc n) (tag ∷ tags) behind le = grind arith

first_step : (e : Elements) (type : ElementType) (run : Run) (behind : List Reported) → run.from + run.count ≤ length (tags_of e type)
    → first_address (run_in e type run ++ behind) ≡ first_in type run (first_address behind)
first_step e type run behind inside =
    let few : run.count ≤ length (drop run.from (tags_of e type)) = omega (arith, length-drop run.from (tags_of e type)) in
    first_of_list (code_of type) (first_of type + run.from) run.count (drop run.from (tags_of e type)) behind few

first_is : (e : Elements) (r : Report) → IsReport e r → first_address (in_report e r) ≡ first_of_report r
first_is e r whole =
    let a : List Reported = run_in e MediumTransport r.medium_transport in
    let b : List Reported = run_in e DataTransfer r.data_transfer in
    let c : List Reported = run_in e ImportExport r.import_export in
    let d : List Reported = run_in e Storage r.storage in
    ap first_address (four_appends a b c d ∙ ap (λ x. a ++ (b ++ (c ++ x))) (sym (append-nil d)))
    ∙ first_step e MediumTransport r.medium_transport (b ++ (c ++ (d ++ []))) whole.medium_transport
    ∙ ap (first_in MediumTransport r.medium_transport)
    (first_step e DataTransfer r.data_transfer (c ++ (d ++ [])) whole.data_transfer
    ∙ ap (first_in DataTransfer r.data_transfer)
    (first_step e ImportExport r.import_export (d ++ []) whole.import_export
    ∙ ap (first_in ImportExport r.import_export) (first_step e Storage r.storage [] whole.storage)))

-- the header and the pages
pub status_is : (e : Elements) (voltag : Bool) (r : Report) (rs : List Reported) (n : ℕ) → in_report e r ≡ rs → IsReport e r → length (all_pages e voltag r) ≡ n
    → status_of voltag rs ≡ two_bytes (first_of_report r) ++ two_bytes (number_in r) ++ 0 ∷ three_bytes n ++ all_pages e voltag r
status_is e voltag r rs n is whole long =
    ap (status_of voltag) (sym is)
    ∙ ap (λ all. two_bytes (first_address (in_report e r)) ++ two_bytes (length (in_report e r)) ++ 0 ∷ three_bytes (length all) ++ all) (pages_are e voltag r)
    ∙ ap (λ k. two_bytes (first_address (in_report e r)) ++ two_bytes (length (in_report e r)) ++ 0 ∷ three_bytes k ++ all_pages e voltag r) long
    ∙ ap (λ k. two_bytes (first_address (in_report e r)) ++ two_bytes k ++ 0 ∷ three_bytes n ++ all_pages e voltag r) (number_is e r whole)
    ∙ ap (λ k. two_bytes k ++ two_bytes (number_in r) ++ 0 ∷ three_bytes n ++ all_pages e voltag r) (first_is e r whole)

-- what is written, piece by piece
pub status-written : (e : Elements) (voltag : Bool) (r : Report) (rs : List Reported) (first number long : ℕ) (none header one two three four : List ℕ)
    → in_report e r ≡ rs → IsReport e r → first ≡ first_of_report r → number ≡ number_in r
    → none ≡ [] → header ≡ none ++ (two_bytes first ++ two_bytes number ++ 0 ∷ three_bytes long)
    → one ≡ header ++ page_of voltag 1 (run_in e MediumTransport r.medium_transport) → two ≡ one ++ page_of voltag 4 (run_in e DataTransfer r.data_transfer)
    → three ≡ two ++ page_of voltag 3 (run_in e ImportExport r.import_export) → four ≡ three ++ page_of voltag 2 (run_in e Storage r.storage)
    → length four ≡ 8 + long → four ≡ status_of voltag rs
status-written e voltag r rs first number long none header one two three four is whole firsts numbers empty begun h1 h2 h3 h4 lengths =
    let p1 : List ℕ = page_of voltag 1 (run_in e MediumTransport r.medium_transport) in
    let p2 : List ℕ = page_of voltag 4 (run_in e DataTransfer r.data_transfer) in
    let p3 : List ℕ = page_of voltag 3 (run_in e ImportExport r.import_export) in
    let p4 : List ℕ = page_of voltag 2 (run_in e Storage r.storage) in
    let all : four ≡ two_bytes first ++ two_bytes number ++ 0 ∷ three_bytes long ++ all_pages e voltag r
    = h4 ∙ ap (λ x. x ++ p4) h3 ∙ ap (λ x. (x ++ p3) ++ p4) h2 ∙ ap (λ x. ((x ++ p2) ++ p3) ++ p4) h1 ∙ ap (λ x. (((x ++ p1) ++ p2) ++ p3) ++ p4) begun
    ∙ ap (λ x. ((((x ++ (two_bytes first ++ two_bytes number ++ 0 ∷ three_bytes long)) ++ p1) ++ p2) ++ p3) ++ p4) empty in
    let counted : length (all_pages e voltag r) ≡ long = omega (arith, ap length all) in
    all
    ∙ ap (λ k. two_bytes k ++ two_bytes number ++ 0 ∷ three_bytes long ++ all_pages e voltag r) firsts
    ∙ ap (λ k. two_bytes (first_of_report r) ++ two_bytes k ++ 0 ∷ three_bytes long ++ all_pages e voltag r) numbers
    ∙ sym (status_is e voltag r rs long is whole counted)

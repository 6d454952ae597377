-- The pages of what is reported, and the header before them.
use Rattle.std.proofs.Common.{◌≡◌, ℕ, zero, suc, ◌+◌, ◌-◌, ◌*◌, ◌<◌, ◌≤◌, ◌==◌, Bool, true, false, if◌then◌else◌, List, [], ◌∷◌, ◌++◌, length, take, drop, get_or, length-drop, length-append, append_assoc, Option, None, refl, ap, sym, ◌∙◌, arith}
use Rattle.std.proofs.lemmas.List.{append-nil, take_more, get_or-drop, length-take-le, flat_map_more}
use Rattle.std.proofs.lemmas.List.Elements.{filter-append}
use Rattle.std.specs.List.{filter, flat_map}
use Rattle.tape_medium.specs.declared.volume.VolumeTag.{VolumeTag}
use Rattle.tape_medium.specs.Elements.{Elements}
use Rattle.tape_medium.specs.ElementStatus.{Reported, of_type, first_address, tag_information}
use Rattle.inquiry_data.specs.declared.library_number.LibraryNumber.{LibraryNumber}
use Rattle.element_map.specs.declared.element_type.ElementType.{ElementType}
use Rattle.element_map.specs.declared.element_type.ElementType.TheVariants.{MediumTransport, DataTransfer, ImportExport, Storage}
use Rattle.element_map.specs.Runs.{code_of, first_of, tags_of, in_run}
use Rattle.element_map.specs.Pages.{reported_at}
use Rattle.element_map.proofs.RunLemmas.{length-in_run, four_appends}
use Rattle.element_sources.specs.declared.run.Run.{Run}
use Rattle.element_sources.specs.declared.report.Report.{Report}
use Rattle.element_sources.specs.Sources.{Sources}
use Rattle.element_sources.specs.HostStatus.{Form, page_header, page_in, pages_in, status_header, status_in, element_information, reported_source, identifier_of, host_descriptor}
use Rattle.element_sources.specs.Reports.{run_elements, report_elements, report_number, first_in, report_first, IsReport}

-- ONE DESCRIPTOR

-- the volume tag information that is appended where it is asked for
pub tag-some : (volume_tags : Bool) (tag front all : List ℕ) → volume_tags ≡ true → all ≡ front ++ tag → all ≡ front ++ (if volume_tags then tag else [])
tag-some volume_tags tag front all is this = rw is this

pub tag-none : (volume_tags : Bool) (tag front all : List ℕ) → volume_tags ≡ false → all ≡ front → all ≡ front ++ (if volume_tags then tag else [])
tag-none volume_tags tag front all is this = rw is (this ∙ sym (append-nil front))

-- the three pieces of a descriptor, one behind the other
pub descriptor-written : (s : Sources) (library : LibraryNumber) (volume_tags device_identifiers : Bool) (r : Reported) (old informed tagged : List ℕ)
    → informed ≡ old ++ element_information r (reported_source s r) → tagged ≡ informed ++ (if volume_tags then tag_information r.tag else [])
    → tagged ++ identifier_of library device_identifiers r ≡ old ++ host_descriptor s library volume_tags device_identifiers r
descriptor-written s library volume_tags device_identifiers r old informed tagged is_informed is_tagged =
    let information : List ℕ = element_information r (reported_source s r) in
    let tag : List ℕ = if volume_tags then tag_information r.tag else [] in
    let identifier : List ℕ = identifier_of library device_identifiers r in
    ap (λ bytes. bytes ++ identifier) is_tagged
    ∙ ap (λ bytes. (bytes ++ tag) ++ identifier) is_informed
    ∙ four_appends old information tag identifier

-- ONE PAGE

-- one more element of a type
of_type-more : (t first at : ℕ) (tags : List (Option VolumeTag)) (tag : Option VolumeTag) → at ≡ first + length tags
    → of_type t first (tags ++ tag ∷ []) ≡ of_type t first tags ++ record { type_code = t; address = at; tag = tag } ∷ []
of_type-more t first at [] tag is = let same : first ≡ at = omega arith in rw same refl
of_type-more t first at (other ∷ tags) tag is =
    let next : at ≡ (first + 1) + length tags = omega arith in
    ap (λ rest. record { type_code = t; address = first; tag = other } ∷ rest) (of_type-more t (first + 1) at tags tag next)

in_run-more : (e : Elements) (type : ElementType) (from at : ℕ) (tag : Option VolumeTag) → from ≤ at → at < length (tags_of e type) → tag ≡ get_or (tags_of e type) at None
    → in_run e type from (at + 1 - from) ≡ in_run e type from (at - from) ++ reported_at type at tag ∷ []
in_run-more e type from at tag le lt is =
    let rest : List (Option VolumeTag) = drop from (tags_of e type) in
    let k : ℕ = at - from in
    let more : at + 1 - from ≡ k + 1 = omega arith in
    let inside : k < length rest = omega (arith, length-drop from (tags_of e type)) in
    let some : k ≤ length rest = omega arith in
    let place : from + k ≡ at = omega arith in
    let own : get_or rest k None ≡ tag = get_or-drop from (tags_of e type) k None ∙ ap (λ i. get_or (tags_of e type) i None) place ∙ sym is in
    let behind : first_of type + at ≡ (first_of type + from) + length (take k rest) = omega (arith, length-take-le k rest some) in
    ap (λ n. in_run e type from n) more
    ∙ ap (of_type (code_of type) (first_of type + from)) (take_more rest k None inside ∙ ap (λ y. take k rest ++ y ∷ []) own)
    ∙ of_type-more (code_of type) (first_of type + from) (first_of type + at) (take k rest) tag behind

-- one more descriptor
pub descriptors-more : (e : Elements) (type : ElementType) (describe : Reported → List ℕ) (from at : ℕ) (r : Reported) (front old new : List ℕ)
    → from ≤ at → at < length (tags_of e type) → r ≡ reported_at type at (get_or (tags_of e type) at None)
    → old ≡ front ++ flat_map describe (in_run e type from (at - from)) → new ≡ old ++ describe r
    → new ≡ front ++ flat_map describe (in_run e type from (at + 1 - from))
descriptors-more e type describe from at r front old new le lt is so_far this =
    let tag : Option VolumeTag = get_or (tags_of e type) at None in
    this ∙ ap (λ bytes. bytes ++ describe r) so_far
    ∙ ap (λ x. (front ++ flat_map describe (in_run e type from (at - from))) ++ describe x) is
    ∙ flat_map_more describe front (in_run e type from (at - from)) (reported_at type at tag)
    ∙ ap (λ rs. front ++ flat_map describe rs) (sym (in_run-more e type from at tag le lt refl))

pub times-more : (n from at d : ℕ) → from ≤ at → n + (at - from) * d + d ≡ n + (at + 1 - from) * d
times-more n from at d le = let more : at + 1 - from ≡ (at - from) + 1 = omega arith in rw more (grind arith)

-- the page of some elements is their header and their descriptors
pub page_in-some : (form : Form) (t n : ℕ) (rs : List Reported) → length rs ≡ n → 0 < n
    → page_in form t rs ≡ page_header form.volume_tags t (form.descriptor_length t) n ++ flat_map form.descriptor rs
page_in-some form t n [] is some = absurd (omega arith)
page_in-some form t n (r ∷ rs) is some = ap (λ k. page_header form.volume_tags t (form.descriptor_length t) k ++ flat_map form.descriptor (r ∷ rs)) is

-- ALL PAGES

filter-own : (t first : ℕ) (tags : List (Option VolumeTag)) → filter (λ r. r.type_code == t) (of_type t first tags) ≡ of_type t first tags
filter-own t first [] = refl
filter-own t first (tag ∷ tags) =
    let same : (t == t) ≡ true = grind arith in
    rw same (ap (λ rest. record { type_code = t; address = first; tag = tag } ∷ rest) (filter-own t (first + 1) tags))

filter-not : (u t first : ℕ) (tags : List (Option VolumeTag)) → (t == u) ≡ false → filter (λ r. r.type_code == u) (of_type t first tags) ≡ []
filter-not u t first [] other = refl
filter-not u t first (tag ∷ tags) other = rw other (filter-not u t (first + 1) tags other)

-- of four lists, what each leaves
filter-four : (p : Reported → Bool) (a b c d a' b' c' d' : List Reported) → filter p a ≡ a' → filter p b ≡ b' → filter p c ≡ c' → filter p d ≡ d'
    → filter p (((a ++ b) ++ c) ++ d) ≡ ((a' ++ b') ++ c') ++ d'
filter-four p a b c d a' b' c' d' ha hb hc hd =
    filter-append p ((a ++ b) ++ c) d
    ∙ ap (λ x. x ++ filter p d) (filter-append p (a ++ b) c)
    ∙ ap (λ x. (x ++ filter p c) ++ filter p d) (filter-append p a b)
    ∙ ap (λ x. ((x ++ filter p b) ++ filter p c) ++ filter p d) ha
    ∙ ap (λ x. ((a' ++ x) ++ filter p c) ++ filter p d) hb
    ∙ ap (λ x. ((a' ++ b') ++ x) ++ filter p d) hc
    ∙ ap (λ x. ((a' ++ b') ++ c') ++ x) hd

own_in : (e : Elements) (type : ElementType) (run : Run) → filter (λ r. r.type_code == code_of type) (run_elements e type run) ≡ run_elements e type run
own_in e type run = filter-own (code_of type) (first_of type + run.from) (take run.count (drop run.from (tags_of e type)))

-- the elements of a type among all
other_in : (u : ℕ) (e : Elements) (type : ElementType) (run : Run) → (code_of type == u) ≡ false → filter (λ r. r.type_code == u) (run_elements e type run) ≡ []
other_in u e type run other = filter-not u (code_of type) (first_of type + run.from) (take run.count (drop run.from (tags_of e type))) other

abbrev pub all_pages : Elements → Form → Report → List ℕ
all_pages e form r =
    page_in form 1 (run_elements e MediumTransport r.medium_transport) ++ page_in form 4 (run_elements e DataTransfer r.data_transfer)
    ++ page_in form 3 (run_elements e ImportExport r.import_export) ++ page_in form 2 (run_elements e Storage r.storage)

pages_are : (e : Elements) (form : Form) (r : Report) → pages_in form (report_elements e r) ≡ all_pages e form r
pages_are e form r =
    let a : List Reported = run_elements e MediumTransport r.medium_transport in
    let b : List Reported = run_elements e DataTransfer r.data_transfer in
    let c : List Reported = run_elements e ImportExport r.import_export in
    let d : List Reported = run_elements e Storage r.storage in
    let p1 : filter (λ x. x.type_code == 1) (((a ++ b) ++ c) ++ d) ≡ a
    = filter-four (λ x. x.type_code == 1) a b c d a [] [] [] (own_in e MediumTransport r.medium_transport) (other_in 1 e DataTransfer r.data_transfer refl) (other_in 1 e ImportExport r.import_export refl) (other_in 1 e Storage r.storage refl)
    ∙ simp append-nil in
    let p4 : filter (λ x. x.type_code == 4) (((a ++ b) ++ c) ++ d) ≡ b
    = filter-four (λ x. x.type_code == 4) a b c d [] b [] [] (other_in 4 e MediumTransport r.medium_transport refl) (own_in e DataTransfer r.data_transfer) (other_in 4 e ImportExport r.import_export refl) (other_in 4 e Storage r.storage refl)
    ∙ simp append-nil in
    let p3 : filter (λ x. x.type_code == 3) (((a ++ b) ++ c) ++ d) ≡ c
    = filter-four (λ x. x.type_code == 3) a b c d [] [] c [] (other_in 3 e MediumTransport r.medium_transport refl) (other_in 3 e DataTransfer r.data_transfer refl) (own_in e ImportExport r.import_export) (other_in 3 e Storage r.storage refl)
    ∙ simp append-nil in
    let p2 : filter (λ x. x.type_code == 2) (((a ++ b) ++ c) ++ d) ≡ d
    = filter-four (λ x. x.type_code == 2) a b c d [] [] [] d (other_in 2 e MediumTransport r.medium_transport refl) (other_in 2 e DataTransfer r.data_transfer refl) (other_in 2 e ImportExport r.import_export refl) (own_in e Storage r.storage) in
    ap (λ x. page_in form 1 x ++ page_in form 4 (filter (λ r. r.type_code == 4) (((a ++ b) ++ c) ++ d)) ++ page_in form 3 (filter (λ r. r.type_code == 3) (((a ++ b) ++ c) ++ d)) ++ page_in form 2 (filter (λ r. r.type_code == 2) (((a ++ b) ++ c) ++ d))) p1
    ∙ ap (λ x. page_in form 1 a ++ page_in form 4 x ++ page_in form 3 (filter (λ r. r.type_code == 3) (((a ++ b) ++ c) ++ d)) ++ page_in form 2 (filter (λ r. r.type_code == 2) (((a ++ b) ++ c) ++ d))) p4
    ∙ ap (λ x. page_in form 1 a ++ page_in form 4 b ++ page_in form 3 x ++ page_in form 2 (filter (λ r. r.type_code == 2) (((a ++ b) ++ c) ++ d))) p3
    ∙ ap (λ x. page_in form 1 a ++ page_in form 4 b ++ page_in form 3 c ++ page_in form 2 x) p2

-- THE HEADER

number_is : (e : Elements) (r : Report) → IsReport e r → length (report_elements e r) ≡ report_number r
number_is e r whole =
    let a : List Reported = run_elements e MediumTransport r.medium_transport in
    let b : List Reported = run_elements e DataTransfer r.data_transfer in
    let c : List Reported = run_elements e ImportExport r.import_export in
    let d : List Reported = run_elements e Storage r.storage in
    let la : length a ≡ r.medium_transport.count = length-in_run e MediumTransport r.medium_transport.from r.medium_transport.count whole.medium_transport in
    let lb : length b ≡ r.data_transfer.count = length-in_run e DataTransfer r.data_transfer.from r.data_transfer.count whole.data_transfer in
    let lc : length c ≡ r.import_export.count = length-in_run e ImportExport r.import_export.from r.import_export.count whole.import_export in
    let ld : length d ≡ r.storage.count = length-in_run e Storage r.storage.from r.storage.count whole.storage in
    omega (arith, length-append ((a ++ b) ++ c) d, length-append (a ++ b) c, length-append a b)

-- the first of some elements, or of what comes behind none
first_of_list : (t first n : ℕ) (tags : List (Option VolumeTag)) (behind : List Reported) → n ≤ length tags
    → first_address (of_type t first (take n tags) ++ behind) ≡ (if n == 0 then first_address behind else first)
first_of_list t first zero tags behind le = refl
first_of_list t first (suc n) [] behind le = absurd (omega arith)
first_of_list t first (suc n) (tag ∷ tags) behind le = grind arith

first_step : (e : Elements) (type : ElementType) (run : Run) (behind : List Reported) → run.from + run.count ≤ length (tags_of e type)
    → first_address (run_elements e type run ++ behind) ≡ first_in type run (first_address behind)
first_step e type run behind inside =
    let few : run.count ≤ length (drop run.from (tags_of e type)) = omega (arith, length-drop run.from (tags_of e type)) in
    first_of_list (code_of type) (first_of type + run.from) run.count (drop run.from (tags_of e type)) behind few

first_is : (e : Elements) (r : Report) → IsReport e r → first_address (report_elements e r) ≡ report_first r
first_is e r whole =
    let a : List Reported = run_elements e MediumTransport r.medium_transport in
    let b : List Reported = run_elements e DataTransfer r.data_transfer in
    let c : List Reported = run_elements e ImportExport r.import_export in
    let d : List Reported = run_elements e Storage r.storage in
    ap first_address (four_appends a b c d ∙ ap (λ x. a ++ (b ++ (c ++ x))) (sym (append-nil d)))
    ∙ first_step e MediumTransport r.medium_transport (b ++ (c ++ (d ++ []))) whole.medium_transport
    ∙ ap (first_in MediumTransport r.medium_transport)
    (first_step e DataTransfer r.data_transfer (c ++ (d ++ [])) whole.data_transfer
    ∙ ap (first_in DataTransfer r.data_transfer)
    (first_step e ImportExport r.import_export (d ++ []) whole.import_export
    ∙ ap (first_in ImportExport r.import_export) (first_step e Storage r.storage [] whole.storage)))

-- the header and the pages
status_is : (e : Elements) (form : Form) (r : Report) (rs : List Reported) (n : ℕ) → report_elements e r ≡ rs → IsReport e r → length (all_pages e form r) ≡ n
    → status_in form rs ≡ status_header (report_first r) (report_number r) n ++ all_pages e form r
status_is e form r rs n is whole long =
    ap (status_in form) (sym is)
    ∙ ap (λ all. status_header (first_address (report_elements e r)) (length (report_elements e r)) (length all) ++ all) (pages_are e form r)
    ∙ ap (λ k. status_header (first_address (report_elements e r)) (length (report_elements e r)) k ++ all_pages e form r) long
    ∙ ap (λ k. status_header (first_address (report_elements e r)) k n ++ all_pages e form r) (number_is e r whole)
    ∙ ap (λ k. status_header k (report_number r) n ++ all_pages e form r) (first_is e r whole)

regrouped : (h p1 p2 p3 p4 : List ℕ) → (((h ++ p1) ++ p2) ++ p3) ++ p4 ≡ h ++ (((p1 ++ p2) ++ p3) ++ p4)
regrouped h p1 p2 p3 p4 = simp append_assoc

-- what is written, piece by piece
pub status-written : (e : Elements) (form : Form) (r : Report) (rs : List Reported) (first number long : ℕ) (none header one two three four : List ℕ)
    → report_elements e r ≡ rs → IsReport e r → first ≡ report_first r → number ≡ report_number r
    → none ≡ [] → header ≡ none ++ status_header first number long
    → one ≡ header ++ page_in form 1 (run_elements e MediumTransport r.medium_transport) → two ≡ one ++ page_in form 4 (run_elements e DataTransfer r.data_transfer)
    → three ≡ two ++ page_in form 3 (run_elements e ImportExport r.import_export) → four ≡ three ++ page_in form 2 (run_elements e Storage r.storage)
    → length four ≡ 8 + long → four ≡ status_in form rs
status-written e form r rs first number long none header one two three four is whole firsts numbers empty begun h1 h2 h3 h4 lengths =
    let p1 : List ℕ = page_in form 1 (run_elements e MediumTransport r.medium_transport) in
    let p2 : List ℕ = page_in form 4 (run_elements e DataTransfer r.data_transfer) in
    let p3 : List ℕ = page_in form 3 (run_elements e ImportExport r.import_export) in
    let p4 : List ℕ = page_in form 2 (run_elements e Storage r.storage) in
    let all : four ≡ status_header first number long ++ all_pages e form r
    = h4 ∙ ap (λ x. x ++ p4) h3 ∙ ap (λ x. (x ++ p3) ++ p4) h2 ∙ ap (λ x. ((x ++ p2) ++ p3) ++ p4) h1 ∙ ap (λ x. (((x ++ p1) ++ p2) ++ p3) ++ p4) begun
    ∙ ap (λ x. ((((x ++ status_header first number long) ++ p1) ++ p2) ++ p3) ++ p4) empty
    ∙ regrouped (status_header first number long) p1 p2 p3 p4 in
    let counted : length (all_pages e form r) ≡ long = omega (arith, ap length all, length-append (status_header first number long) (all_pages e form r)) in
    all
    ∙ ap (λ k. status_header k number long ++ all_pages e form r) firsts
    ∙ ap (λ k. status_header (report_first r) k long ++ all_pages e form r) numbers
    ∙ sym (status_is e form r rs long is whole counted)

-- Two forms that describe each element alike give one answer.
use Rattle.std.proofs.Common.{◌≡◌, ℕ, ◌==◌, Bool, true, false, if◌then◌else◌, List, [], ◌∷◌, ◌++◌, length, replicate, Option, None, is_some, refl, ap, sym, ◌∙◌}
use Rattle.std.specs.List.{filter, flat_map}
use Rattle.tape_medium.specs.Elements.{Elements}
use Rattle.tape_medium.specs.ElementStatus.{Reported, reported, first_address, tag_information, descriptor, page_of, status_of, element_status}
use Rattle.inquiry_data.specs.declared.library_number.LibraryNumber.{LibraryNumber}
use Rattle.element_sources.specs.Sources.{Sources, source_at}
use Rattle.element_sources.specs.HostStatus.{Form, page_header, page_in, status_header, status_in, plain_form, host_form, element_information, host_descriptor, reported_source}
use Rattle.element_sources.specs.Laws.{without_two_bytes, without_two_bytes_each}

abbrev of_type_code : List Reported → ℕ → List Reported
of_type_code rs t = filter (λ r. r.type_code == t) rs

-- from the pages of each type to the answer
pages_by : (f g : ℕ → List ℕ) → ((t : ℕ) → f t ≡ g t) → f 1 ++ f 4 ++ f 3 ++ f 2 ≡ g 1 ++ g 4 ++ g 3 ++ g 2
pages_by f g same =
    ap (λ x. x ++ f 4 ++ f 3 ++ f 2) (same 1) ∙ ap (λ x. g 1 ++ x ++ f 3 ++ f 2) (same 4) ∙ ap (λ x. g 1 ++ g 4 ++ x ++ f 2) (same 3) ∙ ap (λ x. g 1 ++ g 4 ++ g 3 ++ x) (same 2)

abbrev whole : List Reported → List ℕ → List ℕ
whole rs all = status_header (first_address rs) (length rs) (length all) ++ all

-- THE DEFAULT PROFILE'S FORM

plain_page : (voltag : Bool) (t : ℕ) (rs : List Reported) → page_of voltag t rs ≡ page_in (plain_form voltag) t rs
plain_page voltag t [] = refl
plain_page voltag t (r ∷ rs) = refl

plain_status : (voltag : Bool) (rs : List Reported) → status_of voltag rs ≡ status_in (plain_form voltag) rs
plain_status voltag rs =
    ap (whole rs)
    (pages_by (λ t. page_of voltag t (of_type_code rs t)) (λ t. page_in (plain_form voltag) t (of_type_code rs t)) (λ t. plain_page voltag t (of_type_code rs t)))

pub plain_is_default : (e : Elements) (type_code start count : ℕ) (volume_tags : Bool)
    → element_status e type_code start count volume_tags ≡ status_in (plain_form volume_tags) (reported e type_code start count)
plain_is_default e type_code start count volume_tags = plain_status volume_tags (reported e type_code start count)

-- TWO BYTES

pub descriptors_differ : (s : Sources) (library : LibraryNumber) (volume_tags : Bool) (r : Reported) → reported_source s r ≡ None
    → without_two_bytes (host_descriptor s library volume_tags false r) ≡ descriptor volume_tags r
descriptors_differ s library volume_tags r none =
    ap (λ (source : Option ℕ). without_two_bytes (element_information r source ++ (if volume_tags then tag_information r.tag else []) ++ replicate 4 0)) none

described_alike : (f g : Reported → List ℕ) → ((r : Reported) → f r ≡ g r) → (rs : List Reported) → flat_map f rs ≡ flat_map g rs
described_alike f g same [] = refl
described_alike f g same (r ∷ rs) = ap (λ x. x ++ flat_map f rs) (same r) ∙ ap (λ rest. g r ++ rest) (described_alike f g same rs)

abbrev form_of : Bool → (ℕ → ℕ) → (Reported → List ℕ) → Form
form_of voltag lengths describe = record { volume_tags = voltag; descriptor_length = lengths; descriptor = describe }

page_alike : (voltag : Bool) (lengths others : ℕ → ℕ) (f g : Reported → List ℕ) → ((r : Reported) → f r ≡ g r) → (t : ℕ) → lengths t ≡ others t → (rs : List Reported)
    → page_in (form_of voltag lengths f) t rs ≡ page_in (form_of voltag others g) t rs
page_alike voltag lengths others f g same t long [] = refl
page_alike voltag lengths others f g same t long (r ∷ rs) =
    ap (λ d. page_in (form_of voltag (λ u. d) f) t (r ∷ rs)) long
    ∙ ap (λ all. page_header voltag t (others t) (length (r ∷ rs)) ++ all) (described_alike f g same (r ∷ rs))

status_alike : (voltag : Bool) (lengths others : ℕ → ℕ) (f g : Reported → List ℕ) → ((r : Reported) → f r ≡ g r) → ((t : ℕ) → lengths t ≡ others t) → (rs : List Reported)
    → status_in (form_of voltag lengths f) rs ≡ status_in (form_of voltag others g) rs
status_alike voltag lengths others f g same long rs =
    ap (whole rs)
    (pages_by (λ t. page_in (form_of voltag lengths f) t (of_type_code rs t)) (λ t. page_in (form_of voltag others g) t (of_type_code rs t)) (λ t. page_alike voltag lengths others f g same t (long t) (of_type_code rs t)))

no_source : (s : Sources) (r : Reported) → ((address : ℕ) → source_at s address ≡ None) → (b : Bool) → (if b then source_at s r.address else None) ≡ None
no_source s r none true = none r.address
no_source s r none false = refl

same_lengths : (voltag : Bool) (s : Sources) (library : LibraryNumber) (t : ℕ) → (host_form s library voltag false).descriptor_length t ≡ (plain_form voltag).descriptor_length t
same_lengths true s library t = refl
same_lengths false s library t = refl

pub status_differs : (e : Elements) (s : Sources) (library : LibraryNumber) (type_code start count : ℕ) (volume_tags : Bool)
    → ((address : ℕ) → source_at s address ≡ None)
    → status_in (without_two_bytes_each (host_form s library volume_tags false)) (reported e type_code start count) ≡ element_status e type_code start count volume_tags
status_differs e s library type_code start count volume_tags none =
    status_alike volume_tags (host_form s library volume_tags false).descriptor_length (plain_form volume_tags).descriptor_length
    (λ r. without_two_bytes (host_descriptor s library volume_tags false r)) (descriptor volume_tags)
    (λ r. descriptors_differ s library volume_tags r (no_source s r none (is_some r.tag))) (λ t. same_lengths volume_tags s library t)
    (reported e type_code start count)
    ∙ sym (plain_is_default e type_code start count volume_tags)

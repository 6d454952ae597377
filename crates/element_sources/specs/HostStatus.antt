-- The parameter data of READ ELEMENT STATUS in the hosts' profile (SMC-3, "READ ELEMENT STATUS command"): which elements are reported, their
-- addresses, flags and tags are as in the default profile.
use Rattle.std.specs.Prelude.{ℕ, ◌+◌, ◌-◌, ◌*◌, Bool, ◌&&◌, ◌==◌, List, [], ◌∷◌, ◌++◌, length, filter, replicate, Option, None, is_some, unwrap_or, if◌then◌else◌}
use Rattle.std.specs.List.{flat_map}
use Rattle.tape_medium.specs.Elements.{Elements, first_data_transfer}
use Rattle.tape_medium.specs.ElementStatus.{Reported, reported, two_bytes, three_bytes, flags_of, tag_information, descriptor_length, descriptor, first_address}
use Rattle.inquiry_data.specs.declared.library_number.LibraryNumber.{LibraryNumber}
use Rattle.inquiry_data.specs.Identity.{unit}
use Rattle.inquiry_data.specs.Designators.{device_identifier}
use Rattle.element_sources.specs.declared.status_request.StatusRequest.{StatusRequest}
use Rattle.element_sources.specs.Sources.{Sources, source_at}

-- WHAT BOTH PROFILES SHARE: the header and the pages, with descriptors in a form

-- whether there is volume tag information, the length of the descriptors of a type of element, and the descriptor of an element
pub record Form : Type 0 where
  pub volume_tags : Bool
  pub descriptor_length : ℕ → ℕ
  pub descriptor : Reported → List ℕ

-- PVOLTAG is bit 7
abbrev pub page_header : (volume_tags : Bool) → (type_code descriptor_length count : ℕ) → List ℕ
page_header volume_tags type_code descriptor_length count =
    type_code ∷ (if volume_tags then 0x80 else 0) ∷ [] ++ two_bytes descriptor_length ++ 0 ∷ three_bytes (count * descriptor_length)

-- a page of the elements of one type, none where there is no such element
abbrev pub page_in : Form → (type_code : ℕ) → List Reported → List ℕ
page_in form type_code [] = []
page_in form type_code (r ∷ rs) =
    page_header form.volume_tags type_code (form.descriptor_length type_code) (length (r ∷ rs)) ++ flat_map form.descriptor (r ∷ rs)

abbrev pub page_among : Form → List Reported → (type_code : ℕ) → List ℕ
page_among form rs type_code = page_in form type_code (filter (λ r. r.type_code == type_code) rs)

-- a page for each type, in order of address
abbrev pub pages_in : Form → List Reported → List ℕ
pages_in form rs = page_among form rs 1 ++ page_among form rs 4 ++ page_among form rs 3 ++ page_among form rs 2

-- first address reported, number of elements, bytes that follow
abbrev pub status_header : (first_address number byte_count : ℕ) → List ℕ
status_header first_address number byte_count = two_bytes first_address ++ two_bytes number ++ 0 ∷ three_bytes byte_count

abbrev pub status_in : Form → List Reported → List ℕ
status_in form rs = status_header (first_address rs) (length rs) (length (pages_in form rs)) ++ pages_in form rs

-- the form of the default profile
abbrev pub plain_form : (volume_tags : Bool) → Form
plain_form volume_tags =
    record { volume_tags = volume_tags; descriptor_length = λ type_code. descriptor_length volume_tags; descriptor = descriptor volume_tags }

-- THE HOSTS' PROFILE

-- the element type code of data transfer elements
abbrev pub data_transfer_code : ℕ
data_transfer_code = 4

-- whether descriptors of elements of a type have a device identifier: with DVCID those of drives
abbrev pub is_identified : (device_identifiers : Bool) → (type_code : ℕ) → Bool
is_identified device_identifiers type_code = device_identifiers && type_code == data_transfer_code

-- the end of a descriptor is a device identifier of 38 bytes, or four zeros, as in the default profile
abbrev pub identifier_length : (device_identifiers : Bool) → (type_code : ℕ) → ℕ
identifier_length device_identifiers type_code = if is_identified device_identifiers type_code then 38 else 4

abbrev pub host_descriptor_length : (volume_tags device_identifiers : Bool) → (type_code : ℕ) → ℕ
host_descriptor_length volume_tags device_identifiers type_code =
    12 + (if volume_tags then 36 else 0) + identifier_length device_identifiers type_code

-- the logical unit number of the drive of a data transfer element: 1 of the first (profile)
abbrev pub drive_lun : Reported → ℕ
drive_lun r = r.address - first_data_transfer + 1

-- byte 6: LU_VALID, bit 4, and LOGICAL UNIT NUMBER, bits 2 to 0, of a drive (SMC-2; obsolete in SMC-3, and read by hosts)
abbrev pub logical_unit : Reported → ℕ
logical_unit r = if r.type_code == data_transfer_code then 0x10 + drive_lun r else 0

-- an empty element has no source
abbrev pub reported_source : Sources → Reported → Option ℕ
reported_source sources r = if is_some r.tag then source_at sources r.address else None

-- byte 9: SVALID, bit 7, where the source is known; MEDIUM TYPE, bits 2 to 0, is data, 1, where there is a volume
abbrev pub medium_flags : Reported → (source : Option ℕ) → ℕ
medium_flags r source = (if is_some source then 0x80 else 0) + (if is_some r.tag then 0x01 else 0)

-- bytes 0 to 11; 10 and 11 are the SOURCE STORAGE ELEMENT ADDRESS, zeros where it isn't known
abbrev pub element_information : Reported → (source : Option ℕ) → List ℕ
element_information r source =
    two_bytes r.address ++ flags_of r ∷ 0 ∷ 0 ∷ 0 ∷ logical_unit r ∷ 0 ∷ 0 ∷ medium_flags r source ∷ two_bytes (unwrap_or source 0)

-- the device identifier of a drive, or four zeros
abbrev pub identifier_of : LibraryNumber → (device_identifiers : Bool) → Reported → List ℕ
identifier_of library device_identifiers r =
    if is_identified device_identifiers r.type_code then device_identifier (unit library (drive_lun r)) else replicate 4 0

abbrev pub host_descriptor : Sources → LibraryNumber → (volume_tags device_identifiers : Bool) → Reported → List ℕ
host_descriptor sources library volume_tags device_identifiers r =
    element_information r (reported_source sources r)
    ++ (if volume_tags then tag_information r.tag else [])
    ++ identifier_of library device_identifiers r

abbrev pub host_form : Sources → LibraryNumber → (volume_tags device_identifiers : Bool) → Form
host_form sources library volume_tags device_identifiers =
    record {
      volume_tags = volume_tags;
      descriptor_length = host_descriptor_length volume_tags device_identifiers;
      descriptor = host_descriptor sources library volume_tags device_identifiers;
    }

abbrev pub host_status : Elements → Sources → LibraryNumber → StatusRequest → List ℕ
host_status elements sources library request =
    status_in (host_form sources library request.volume_tags request.device_identifiers)
    (reported elements request.element_type_code request.starting_element_address request.number_of_elements)

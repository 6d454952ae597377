-- What READ ELEMENT STATUS has in common in both profiles.
use Rattle.std.specs.Prelude.{◌≡◌, ℕ, Bool, false, List, None, slice_set}
use Rattle.tape_medium.specs.Elements.{Elements}
use Rattle.tape_medium.specs.ElementStatus.{Reported, reported, descriptor, element_status}
use Rattle.inquiry_data.specs.declared.library_number.LibraryNumber.{LibraryNumber}
use Rattle.element_sources.specs.Sources.{Sources, source_at}
use Rattle.element_sources.specs.HostStatus.{Form, status_in, plain_form, host_form, host_descriptor, reported_source}

-- the default profile's answer, in its form
abbrev pub PlainFormIsDefault : Type 0
PlainFormIsDefault = (e : Elements) (type_code start count : ℕ) (volume_tags : Bool)
    → element_status e type_code start count volume_tags ≡ status_in (plain_form volume_tags) (reported e type_code start count)

-- bytes 6 and 9 left aside: the logical unit number, and SVALID with the medium type
abbrev pub without_two_bytes : List ℕ → List ℕ
without_two_bytes bytes = slice_set (slice_set bytes 6 0) 9 0

-- a descriptor with no source and no device identifier is else the default profile's
abbrev pub DescriptorsDifferInTwoBytes : Type 0
DescriptorsDifferInTwoBytes = (s : Sources) (library : LibraryNumber) (volume_tags : Bool) (r : Reported) → reported_source s r ≡ None
    → without_two_bytes (host_descriptor s library volume_tags false r) ≡ descriptor volume_tags r

-- the same form, but for those two bytes of each descriptor
abbrev pub without_two_bytes_each : Form → Form
without_two_bytes_each form = record form { descriptor = λ r. without_two_bytes (form.descriptor r) }

-- and so is the whole answer where no source is known
abbrev pub StatusDiffersInTwoBytes : Type 0
StatusDiffersInTwoBytes = (e : Elements) (s : Sources) (library : LibraryNumber) (type_code start count : ℕ) (volume_tags : Bool)
    → ((address : ℕ) → source_at s address ≡ None)
    → status_in (without_two_bytes_each (host_form s library volume_tags false)) (reported e type_code start count)
    ≡ element_status e type_code start count volume_tags

-- INQUIRY data, uncut (SPC-4, "INQUIRY command").
use Rattle.std.specs.Prelude.{ℕ, ◌==◌, Bool, true, false, List, Option, Some, None, if◌then◌else◌}
use Rattle.scsi_cdb.specs.declared.kind.Kind.{Kind}
use Rattle.inquiry_data.specs.declared.inquiry_context.InquiryContext.{InquiryContext}
use Rattle.inquiry_data.specs.Standard.{standard_inquiry}
use Rattle.inquiry_data.specs.VitalProductData.{vital_product_page}

-- without EVPD the page code is 0; none of a page that the unit hasn't got
abbrev pub inquiry_data : Kind → InquiryContext → (vital_product_data : Bool) → (code : ℕ) → Option (List ℕ)
inquiry_data kind context false code = if code == 0x00 then Some (standard_inquiry kind) else None
inquiry_data kind context true code = vital_product_page kind context code

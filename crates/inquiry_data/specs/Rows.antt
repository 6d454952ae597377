-- Units of worked rows.
use Rattle.inquiry_data.specs.declared.inquiry_context.InquiryContext.{InquiryContext}
use Rattle.inquiry_data.specs.Identity.{library, unit}

-- the first drive of library 1A2B3C4Dh, at element address 0100h, asked by target port 1
abbrev pub first_drive : InquiryContext
first_drive = record { identity = unit (library 0x1A2B3C4D) 1; target_port = 1; element_address = 0x0100 }

-- the changer of that library, asked by target port 4
abbrev pub changer : InquiryContext
changer = record { identity = unit (library 0x1A2B3C4D) 0; target_port = 4; element_address = 0x0000 }

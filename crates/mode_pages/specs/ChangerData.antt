-- The data of MODE SENSE of a medium changer (SMC-3, "Mode parameters").
use Rattle.std.specs.Prelude.{ℕ, List, [], flat_map, Option, is_some, Result}
use Rattle.scsi_sense.specs.declared.condition.Condition.{Condition}
use Rattle.mode_pages.specs.Lists.{mode_data}
use Rattle.mode_pages.specs.Asked.{asked, asked_fault, those_asked}
use Rattle.mode_pages.specs.ChangerPages.{changer_pages, page_of_code, page_values, changeable_bits}
use Rattle.mode_pages.specs.DriveData.{answered}
use Rattle.mode_pages.specs.declared.changer_page.ChangerPage.{ChangerPage}
use Rattle.mode_pages.specs.declared.elements.ElementAddresses.{ElementAddresses}
use Rattle.mode_pages.specs.declared.request.ModeSense.{ModeSense}
use Rattle.mode_pages.specs.declared.request.PageControl.{PageControl}
use Rattle.mode_pages.specs.declared.request.PageControl.TheVariants as control

-- a page by the page control; the default values are the current ones, and of saved values there are none
abbrev pub page_shown : PageControl → ElementAddresses → ChangerPage → List ℕ
page_shown control.Current elements page = page_values page elements
page_shown control.Changeable elements page = changeable_bits page
page_shown control.Default elements page = page_values page elements
page_shown control.Saved elements page = []

abbrev pub changer_fault : ModeSense → Option Condition
changer_fault sense = asked_fault sense.page_control (asked sense.page_code sense.subpage_code) (is_some (page_of_code sense.page_code))

abbrev pub changer_pages_asked : ModeSense → List ChangerPage
changer_pages_asked sense = those_asked (asked sense.page_code sense.subpage_code) changer_pages (page_of_code sense.page_code)

-- the pages' bytes
unfoldable pub pages_shown : PageControl → ElementAddresses → List ChangerPage → List ℕ
pages_shown page_control elements pages = flat_map (page_shown page_control elements) pages

-- the data of a MODE SENSE that isn't refused: medium type and device-specific parameter are 0, and there is no block descriptor
abbrev pub changer_data : ModeSense → ElementAddresses → List ℕ
changer_data sense elements = mode_data sense.form 0 0 [] (pages_shown sense.page_control elements (changer_pages_asked sense))

-- THE ANSWER of a changer to MODE SENSE, before it is cut at the allocation length
abbrev pub changer_answer : ModeSense → ElementAddresses → Result (List ℕ) Condition
changer_answer sense elements = answered (changer_fault sense) (changer_data sense elements)

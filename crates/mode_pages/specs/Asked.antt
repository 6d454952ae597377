-- Which pages MODE SENSE asks for (SPC-4, "MODE SENSE(6) command").
use Rattle.std.specs.Prelude.{ℕ, ◌==◌, ◌%◌, ◌&&◌, Bool, true, false, not, if◌then◌else◌, List, [], Option, Some, None}
use Rattle.std.specs.Option.{option_to_list}
use Rattle.scsi_sense.specs.declared.condition.Condition.{Condition}
use Rattle.scsi_sense.specs.declared.condition.Condition.TheVariants.{InvalidFieldInCdb, SavingParametersNotSupported}
use Rattle.mode_pages.specs.declared.asked.PagesAsked.{PagesAsked}
use Rattle.mode_pages.specs.declared.asked.PagesAsked.TheVariants.{NoPage, AllPages, PageOfCode, PageOfSubpage}
use Rattle.mode_pages.specs.declared.request.PageControl.{PageControl}
use Rattle.mode_pages.specs.declared.request.PageControl.TheVariants as control

-- PC, two bits
abbrev pub page_control : ℕ → PageControl
page_control bits =
    if bits % 4 == 0 then control.Current
    else if bits % 4 == 1 then control.Changeable
    else if bits % 4 == 2 then control.Default
    else control.Saved

-- Page 00h is none (profile): header and block descriptor alone. A subpage code of 00h is the page without subpages, and FFh the page with all of
-- its subpages, which are none here. Page 3Fh is all pages.
abbrev pub asked : (page_code subpage_code : ℕ) → PagesAsked
asked page_code subpage_code =
    if page_code == 0x00 then NoPage
    else if not (subpage_code == 0x00) && not (subpage_code == 0xFF) then PageOfSubpage
    else if page_code == 0x3F then AllPages
    else PageOfCode

-- whether a unit has what is asked for, by whether it has the page of the page code
abbrev pub is_offered : PagesAsked → (has_page : Bool) → Bool
is_offered NoPage has_page = true
is_offered AllPages has_page = true
is_offered PageOfCode has_page = has_page
is_offered PageOfSubpage has_page = false

-- why MODE SENSE is refused: saved values aren't kept, and this is tested first
abbrev pub asked_fault : PageControl → PagesAsked → (has_page : Bool) → Option Condition
asked_fault control.Saved asked has_page = Some SavingParametersNotSupported
asked_fault page_control asked has_page = if is_offered asked has_page then None else Some InvalidFieldInCdb

-- the pages to be shown, of all of a unit's pages and the page of the page code
abbrev pub those_asked : {P : Type 0} → PagesAsked → (all : List P) → (of_code : Option P) → List P
those_asked NoPage all of_code = []
those_asked AllPages all of_code = all
those_asked PageOfCode all of_code = option_to_list of_code
those_asked PageOfSubpage all of_code = []

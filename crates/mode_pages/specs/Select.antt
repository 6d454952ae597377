-- What a MODE SELECT of a drive says (SPC-4, "MODE SELECT(6) command", "Mode parameter list formats"; SSC-4, "Mode parameters").
use Rattle.std.specs.Prelude.{ℕ, ◌+◌, ◌==◌, nat_lt, Bool, false, not, ◌||◌, if◌then◌else◌, List, [], ◌∷◌, length, drop, zero, suc, Option, Some, None, Result, Ok, Err}
use Rattle.scsi_cdb.specs.Bits.{bit, bits, byte, two_bytes, three_bytes}
use Rattle.scsi_sense.specs.declared.condition.Condition.{Condition}
use Rattle.scsi_sense.specs.declared.condition.Condition.TheVariants.{InvalidFieldInCdb, InvalidFieldInParameterList, ParameterListLengthError}
use Rattle.mode_pages.specs.Values.{mode_values}
use Rattle.mode_pages.specs.Lists.{header_length}
use Rattle.mode_pages.specs.DrivePages.{page_of_code, page_length}
use Rattle.mode_pages.specs.declared.drive_page.DrivePage.{DrivePage}
use Rattle.mode_pages.specs.declared.drive_page.DrivePage.TheVariants.{DataCompression, DeviceConfiguration, MediumPartition}
use Rattle.mode_pages.specs.declared.request.HeaderForm.{HeaderForm}
use Rattle.mode_pages.specs.declared.request.HeaderForm.TheVariants.{Six, Ten}
use Rattle.mode_pages.specs.declared.values.ModeValues.{ModeValues}

-- THE HEADER: BLOCK DESCRIPTOR LENGTH, and LONGLBA, which the shorter one hasn't
abbrev pub descriptor_length : HeaderForm → List ℕ → ℕ
descriptor_length Six list = byte list 3
descriptor_length Ten list = two_bytes list 6

abbrev pub has_long_lba : HeaderForm → List ℕ → Bool
has_long_lba Six list = false
has_long_lba Ten list = bit list 4 0

-- no block descriptor, or one of eight bytes
abbrev pub is_descriptor_length : ℕ → Bool
is_descriptor_length n = n == 0 || n == 8

-- where the pages begin
abbrev pub pages_at : HeaderForm → List ℕ → ℕ
pages_at form list = header_length form + descriptor_length form list

-- THE BLOCK DESCRIPTOR: its last three bytes are the block length, which must not be above the longest block. A density code is taken and
-- ignored (profile), and so is the number of blocks.
abbrev pub block_length_in : HeaderForm → List ℕ → ℕ
block_length_in form list = three_bytes list (header_length form + 5)

abbrev pub with_descriptor : (most_block : ℕ) → HeaderForm → List ℕ → ModeValues → Result ModeValues Condition
with_descriptor most_block form list before =
    if descriptor_length form list == 0 then Ok before
    else if nat_lt most_block (block_length_in form list) then Err InvalidFieldInParameterList
    else Ok (mode_values (block_length_in form list) before.compression)

-- THE PAGE at the head of the bytes. SPF, bit 6 of the page code's byte, says that a subpage code and a PAGE LENGTH of two bytes follow,
-- else PAGE LENGTH is the second byte.
abbrev pub has_subpage : List ℕ → Bool
has_subpage bytes = bit bytes 0 6

abbrev pub page_header_length : List ℕ → ℕ
page_header_length bytes = if has_subpage bytes then 4 else 2

-- the length of the page with its header
abbrev pub page_size : List ℕ → ℕ
page_size bytes = if has_subpage bytes then 4 + two_bytes bytes 2 else 2 + byte bytes 1

-- what no page may say: CAF, a change of the active format; an additional partition, since MAXIMUM ADDITIONAL PARTITIONS is 0
abbrev pub asks_too_much : DrivePage → List ℕ → Bool
asks_too_much DeviceConfiguration bytes = bit bytes 2 5
asks_too_much MediumPartition bytes = not (byte bytes 3 == 0)
asks_too_much page bytes = false

-- a page has the length that MODE SENSE shows
abbrev pub page_taken : Option DrivePage → List ℕ → Result DrivePage Condition
page_taken None bytes = Err InvalidFieldInParameterList
page_taken (Some page) bytes =
    if not (byte bytes 1 == page_length page) || asks_too_much page bytes then Err InvalidFieldInParameterList else Ok page

-- the page, or why it is refused: it is cut off, or it is none that the drive has
abbrev pub head_page : List ℕ → Result DrivePage Condition
head_page bytes =
    if nat_lt (length bytes) (page_header_length bytes) then Err ParameterListLengthError
    else if nat_lt (length bytes) (page_size bytes) then Err ParameterListLengthError
    else if has_subpage bytes then Err InvalidFieldInParameterList
    else page_taken (page_of_code (bits bytes 0 5 0)) bytes

-- what a page sets: compression, by DCE or by the algorithm; other fields are taken and ignored (profile)
abbrev pub with_page : DrivePage → List ℕ → ModeValues → ModeValues
with_page DataCompression bytes before = mode_values before.block_length (bit bytes 2 7)
with_page DeviceConfiguration bytes before = mode_values before.block_length (not (byte bytes 14 == 0))
with_page page bytes before = before

-- THE PAGES, one after another to the end of the bytes, of which there are at most `most`
abbrev pub then_on : Result DrivePage Condition → (DrivePage → Result ModeValues Condition) → Result ModeValues Condition
then_on (Err fault) next = Err fault
then_on (Ok page) next = next page

unfoldable pub pages_taken : List ℕ → (most : ℕ) → ModeValues → Result ModeValues Condition
pages_taken [] most before = Ok before
pages_taken (b ∷ bytes) zero before = Ok before
pages_taken (b ∷ bytes) (suc most) before =
    then_on (head_page (b ∷ bytes)) (λ page. pages_taken (drop (page_size (b ∷ bytes)) (b ∷ bytes)) most (with_page page (b ∷ bytes) before))

-- each page has bytes, so there are no more pages than bytes
abbrev pub with_pages : List ℕ → ModeValues → Result ModeValues Condition
with_pages bytes before = pages_taken bytes (length bytes) before

abbrev pub and_pages : Result ModeValues Condition → List ℕ → Result ModeValues Condition
and_pages (Err fault) bytes = Err fault
and_pages (Ok values) bytes = with_pages bytes values

-- THE VALUES after MODE SELECT, or why it is refused, in the order of the tests. A parameter list length of 0 is no error, and changes nothing.
abbrev pub selected : ModeValues → (most_block : ℕ) → HeaderForm → (save_pages : Bool) → (list_length : ℕ) → List ℕ → Result ModeValues Condition
selected before most_block form save_pages list_length list =
    if save_pages then Err InvalidFieldInCdb
    else if list_length == 0 then Ok before
    else if not (length list == list_length) then Err ParameterListLengthError
    else if nat_lt list_length (header_length form) then Err ParameterListLengthError
    else if has_long_lba form list then Err InvalidFieldInParameterList
    else if not (is_descriptor_length (descriptor_length form list)) then Err InvalidFieldInParameterList
    else if nat_lt list_length (pages_at form list) then Err ParameterListLengthError
    else and_pages (with_descriptor most_block form list before) (drop (pages_at form list) list)

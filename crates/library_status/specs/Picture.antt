-- The summary of a library as a picture: lines of graphic ASCII for a terminal of 80 columns (profile). Each but the first begins with the end of the one before.
use Rattle.std.specs.Prelude.{ℕ, ◌-◌, ◌*◌, ◌/◌, ◌%◌, ◌^◌, ◌==◌, ◌&&◌, nat_le, nat_lt, Bool, true, false, List, [], ◌∷◌, ◌++◌, length, replicate, take, Option, None, Some, String, string_bytes, if◌then◌else◌}
use Rattle.std.specs.Fmt.{decimal, format_spec, padded_integral}
use Rattle.std.specs.Global.{Global}
use Rattle.std.specs.List.{flat_map}
use Rattle.scsi_cdb.specs.declared.profile.Profile.{Profile}
use Rattle.scsi_nexus.specs.declared.nexus.Nexus.{Nexus}
use Rattle.permit_tables.specs.declared.res_type.ResType.{ResType}
use Rattle.permit_tables.specs.Types.{is_all_registrants}
use Rattle.permit_tables.specs.Text.{type_name}
use Rattle.tape_medium.specs.declared.volume.VolumeTag.{VolumeTag}
use Rattle.element_map.specs.Runs.{first_of}
use Rattle.library_status.specs.Words.{nexus_after, number_after, trimmed, word_text, words_after}
use Rattle.library_status.specs.Json.{element_type_text, kind_text, profile_text}
use Rattle.library_status.specs.declared.word.Word.TheVariants as word
use Rattle.library_status.specs.declared.summary.ElementSummary.{ElementSummary}
use Rattle.library_status.specs.declared.summary.LibrarySummary.{LibrarySummary}
use Rattle.library_status.specs.declared.summary.ServerSummary.{ServerSummary}
use Rattle.library_status.specs.declared.summary.SessionSummary.{SessionSummary}
use Rattle.library_status.specs.Sessions.{from_picture, nexus_picture, since_picture, traffic_picture}
use Rattle.library_status.specs.declared.summary.UnitContents.{UnitContents}
use Rattle.library_status.specs.declared.summary.UnitContents.TheVariants as contents
use Rattle.library_status.specs.declared.summary.UnitSummary.{UnitSummary}
use Rattle.library_status.specs.declared.summary.VolumeSummary.{VolumeSummary}

-- TAGS

-- a byte of a tag; what isn't graphic ASCII or a space has a question mark in its place
abbrev pub glyph : ℕ → List ℕ
glyph byte = (if nat_le 32 byte && nat_lt byte 127 then byte else 63) ∷ []

abbrev pub glyphs : List ℕ → List ℕ
glyphs bytes = flat_map glyph bytes

-- a tag in eight columns, at their right; of a longer one the first seven bytes are there, and a tilde
unfoldable pub in_columns : List ℕ → List ℕ
in_columns bytes = if nat_lt 8 (length bytes) then glyphs (take 7 bytes) ++ 126 ∷ [] else replicate (8 - length bytes) 32 ++ glyphs bytes

-- the whole of a tag
unfoldable pub volume_named : VolumeTag → List ℕ
volume_named tag = word_text word.InDrive ++ glyphs (trimmed tag.0 (length tag.0))

-- ELEMENTS

unfoldable pub cell_of : VolumeTag → List ℕ
cell_of tag = word_text word.Space ++ in_columns (trimmed tag.0 (length tag.0))

abbrev pub cell : Option VolumeTag → List ℕ
cell None = word_text word.EmptyCell
cell (Some tag) = cell_of tag

-- a new row, which begins with the address of its first element in six columns
unfoldable pub row : ℕ → List ℕ
row address = word_text word.EndOfLine ++ padded_integral (format_spec 32 0 0 6 (2 ^ 64 - 1)) false [] (decimal address)

-- the first row of a type, under a line with its name
unfoldable pub first_row : ElementSummary → List ℕ
first_row e = words_after word.TypeOfRows (element_type_text e.element_type) ++ row e.address

-- what begins with an element of this number within its type: there are eight in a row
abbrev pub row_at : (number : ℕ) → ElementSummary → List ℕ
row_at number e = if number == 0 then first_row e else if number % 8 == 0 then row e.address else []

unfoldable pub element_picture : ElementSummary → List ℕ
element_picture e = row_at (e.address - first_of e.element_type) e ++ cell e.tag

-- WHAT IS IN A UNIT

abbrev pub protection : Bool → List ℕ
protection true = word_text word.WriteProtected
protection false = []

unfoldable pub cartridge_picture : VolumeSummary → List ℕ
cartridge_picture v = volume_named v.tag ++ protection v.is_protected

unfoldable pub position_picture : VolumeSummary → List ℕ
position_picture v = number_after word.At v.position ++ number_after word.Written v.objects

unfoldable pub tape_picture : VolumeSummary → List ℕ
tape_picture v = position_picture v ++ number_after word.WrittenBytes v.bytes ++ number_after word.InImage v.unchanged

unfoldable pub volume_picture : VolumeSummary → List ℕ
volume_picture v = cartridge_picture v ++ tape_picture v

abbrev pub contents_picture : UnitContents → List ℕ
contents_picture (contents.Changer elements) = flat_map element_picture elements.items
contents_picture (contents.Drive None) = word_text word.NoVolume
contents_picture (contents.Drive (Some v)) = volume_picture v

-- UNITS

unfoldable pub title : UnitSummary → List ℕ
title u = number_after word.Unit u.lun ++ words_after word.UnitKind (kind_text u.contents)

unfoldable pub counts : UnitSummary → List ℕ
counts u = number_after word.SlotsUsed u.slots ++ number_after word.RecordsMade u.last ++ number_after word.NotHandedOut u.waiting

abbrev pub prevention : Bool → List ℕ
prevention true = word_text word.RemovalPrevented
prevention false = []

-- under a type of all registrants each registered nexus holds, and no one is named
abbrev pub held_by : ResType → Nexus → List ℕ
held_by type nexus = if is_all_registrants type then word_text word.ByAll else nexus_after word.By nexus

abbrev pub reservation_picture : Option (ResType × Nexus) → List ℕ
reservation_picture None = word_text word.NotReserved
reservation_picture (Some held) = words_after word.ReservedAs (type_name held.0) ++ held_by held.0 held.1

unfoldable pub holding : UnitSummary → List ℕ
holding u = reservation_picture u.reservation ++ number_after word.Registered (length u.registrations.items)

unfoldable pub standing : UnitSummary → List ℕ
standing u = counts u ++ prevention u.is_prevented ++ holding u

unfoldable pub unit_picture : UnitSummary → List ℕ
unit_picture u = title u ++ standing u ++ contents_picture u.contents

-- SESSIONS

-- a name in 70 columns; of a longer one the first 69 bytes are there, and a tilde
unfoldable pub name_in_columns : List ℕ → List ℕ
name_in_columns bytes = if nat_lt 70 (length bytes) then glyphs (take 69 bytes) ++ 126 ∷ [] else glyphs bytes

abbrev pub name_picture : Option (String Global) → List ℕ
name_picture None = []
name_picture (Some name) = word_text word.NameLine ++ name_in_columns (string_bytes name)

unfoldable pub origin_picture : SessionSummary → List ℕ
origin_picture s = name_picture s.name ++ from_picture s.address ++ since_picture s.start

unfoldable pub whose_picture : SessionSummary → List ℕ
whose_picture s = number_after word.SessionTitle s.number ++ nexus_picture s.nexus

unfoldable pub session_picture : SessionSummary → List ℕ
session_picture s = whose_picture s ++ origin_picture s ++ traffic_picture s

-- THE SERVER

-- a size in tenths of MiB, rounded down
unfoldable pub size_in_memory : ℕ → List ℕ
size_in_memory bytes =
    let tenths = bytes / 1024 * 10 / 1024 in
    number_after word.MemoryLine (tenths / 10) ++ number_after word.Point (tenths % 10) ++ word_text word.Mebibytes

abbrev pub memory_line : Option ℕ → List ℕ
memory_line None = []
memory_line (Some bytes) = size_in_memory bytes

-- a volume whose image can't be written
unfoldable pub failing_line : VolumeTag → List ℕ
failing_line tag = word_text word.FailingLine ++ glyphs (trimmed tag.0 (length tag.0))

abbrev pub inventory_line : Bool → List ℕ
inventory_line true = word_text word.FailingInventoryLine
inventory_line false = []

unfoldable pub server_picture : ServerSummary → List ℕ
server_picture s = memory_line s.memory ++ flat_map failing_line s.failing.items ++ inventory_line s.is_inventory_failing

-- THE LIBRARY

unfoldable pub head : Profile → ServerSummary → List ℕ
head profile server = words_after word.Profile (profile_text profile) ++ server_picture server

unfoldable pub units_picture : LibrarySummary → ServerSummary → List ℕ
units_picture l server = head l.profile server ++ flat_map unit_picture l.units.items

-- the picture, with the end of its last line
unfoldable pub picture : LibrarySummary → List SessionSummary → ServerSummary → List ℕ
picture l sessions server = units_picture l server ++ flat_map session_picture sessions ++ word_text word.EndOfLine

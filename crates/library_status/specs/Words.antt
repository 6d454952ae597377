-- What lines are made of: a value after the words before it (profile).
use Rattle.std.specs.Prelude.{ℕ, zero, suc, ◌-◌, ◌^◌, ◌==◌, ◌&&◌, ◌||◌, not, nat_le, nat_lt, Bool, false, List, [], ◌∷◌, ◌++◌, length, take, slice_index, codes, if◌then◌else◌}
use Rattle.std.specs.Fmt.{decimal, digits, format_spec, padded_integral}
use Rattle.std.specs.List.{flat_map}
use Rattle.scsi_nexus.specs.declared.nexus.Nexus.{Nexus}
use Rattle.scsi_nexus.specs.Text.{nexus_text}
use Rattle.tape_medium.specs.declared.volume.VolumeTag.{VolumeTag}
use Rattle.library_status.specs.declared.word.Word.{Word}
use Rattle.library_status.specs.declared.word.Word.TheVariants as word

-- what is between the values of a line of JSON, or of a picture
unfoldable pub word_text : Word → List ℕ
word_text word.Version = codes "{\"version\":1,\"profile\":\""
word_text word.Units = codes "\",\"units\":["
word_text word.Lun = codes "{\"lun\":"
word_text word.Kind = codes ",\"kind\":\""
word_text word.Used = codes "\",\"slots\":{\"used\":"
word_text word.Last = codes ",\"of\":128},\"records\":{\"last\":"
word_text word.Waiting = codes ",\"waiting\":"
word_text word.Prevented = codes "},\"removal_prevented\":"
word_text word.Generation = codes ",\"generation\":"
word_text word.Reservation = codes ",\"reservation\":"
word_text word.Registrations = codes ",\"registrations\":["
word_text word.Type = codes "{\"type\":\""
word_text word.Holder = codes "\",\"holder\":"
word_text word.Nexus = codes "{\"nexus\":\""
word_text word.Key = codes "\",\"key\":\""
word_text word.EndOfPair = codes "\"}"
word_text word.Address = codes "{\"address\":"
word_text word.ElementType = codes ",\"type\":\""
word_text word.Holds = codes "\",\"volume\":"
word_text word.Tag = codes "{\"tag\":\""
word_text word.Protected = codes "\",\"protected\":"
word_text word.Position = codes ",\"position\":"
word_text word.Objects = codes ",\"objects\":"
word_text word.Bytes = codes ",\"bytes\":"
word_text word.Elements = codes ",\"elements\":["
word_text word.Volume = codes ",\"volume\":"
word_text word.Quote = codes "\""
word_text word.End = codes "}"
word_text word.EndOfList = codes "]"
word_text word.Comma = codes ","
word_text word.Null = codes "null"
word_text word.Profile = codes "Library, profile "
word_text word.Unit = codes "\n\nLUN "
word_text word.UnitKind = codes ", "
word_text word.SlotsUsed = codes "\n  slots "
word_text word.RecordsMade = codes " of 128, records "
word_text word.NotHandedOut = codes ", waiting "
word_text word.RemovalPrevented = codes "\n  removal is prevented"
word_text word.NotReserved = codes "\n  not reserved"
word_text word.ReservedAs = codes "\n  reservation "
word_text word.By = codes " of "
word_text word.ByAll = codes " of all registrants"
word_text word.Registered = codes ", registrations "
word_text word.NoVolume = codes "\n  no volume"
word_text word.InDrive = codes "\n  volume "
word_text word.WriteProtected = codes ", write-protected"
word_text word.At = codes "\n  position "
word_text word.Written = codes ", objects "
word_text word.WrittenBytes = codes ", bytes "
word_text word.InImage = codes "\n  objects in its image "
word_text word.TypeOfRows = codes "\n  "
word_text word.EndOfLine = codes "\n"
word_text word.Space = codes " "
word_text word.EmptyCell = codes "        -"
word_text word.Sessions = codes "],\"sessions\":["
word_text word.SessionNumber = codes "{\"number\":"
word_text word.SessionNexus = codes ",\"nexus\":"
word_text word.SessionName = codes ",\"name\":"
word_text word.SessionAddress = codes ",\"address\":"
word_text word.SessionStart = codes ",\"start\":"
word_text word.Commands = codes ",\"commands\":"
word_text word.Received = codes ",\"received\":"
word_text word.Sent = codes ",\"sent\":"
word_text word.Memory = codes ",\"memory\":"
word_text word.Failing = codes ",\"failing\":{\"volumes\":["
word_text word.FailingInventory = codes "],\"inventory\":"
word_text word.EndOfStatus = codes "}}"
word_text word.SessionTitle = codes "\n\nSession "
word_text word.NotIn = codes ", not logged in"
word_text word.From = codes "\n  from "
word_text word.NameLine = codes "\n  "
word_text word.Since = codes "\n  since "
word_text word.CommandsLine = codes "\n  commands "
word_text word.ReceivedLine = codes "\n  bytes received "
word_text word.SentLine = codes ", sent "
word_text word.MemoryLine = codes "\n  memory "
word_text word.Point = codes "."
word_text word.Mebibytes = codes " MiB"
word_text word.FailingLine = codes "\n  failing: "
word_text word.FailingInventoryLine = codes "\n  failing: library.toml"

unfoldable pub words_after : Word → (words : List ℕ) → List ℕ
words_after before words = word_text before ++ words

unfoldable pub number_after : Word → ℕ → List ℕ
number_after before n = word_text before ++ decimal n

unfoldable pub nexus_after : Word → Nexus → List ℕ
nexus_after before nexus = word_text before ++ nexus_text nexus

-- in 16 hexadecimal digits
unfoldable pub key_after : Word → ℕ → List ℕ
key_after before key = word_text before ++ padded_integral (format_spec 32 0 4 16 (2 ^ 64 - 1)) false [] (digits 16 false key)

-- whether a string of JSON has a byte as it is: graphic ASCII and the space, but no quotation mark and no backslash
abbrev pub is_plain : ℕ → Bool
is_plain byte = (nat_le 32 byte && nat_lt byte 127) && not (byte == 34 || byte == 92)

-- a byte in a string; one that can't stand there is the escape of the character of its number (RFC 8259, "Strings")
abbrev pub escaped : ℕ → List ℕ
escaped byte =
    if is_plain byte then byte ∷ []
    else codes "\\u" ++ padded_integral (format_spec 32 0 4 4 (2 ^ 64 - 1)) false [] (digits 16 false byte)

-- the first n of some bytes, without the spaces at their end
abbrev pub trimmed : List ℕ → ℕ → List ℕ
trimmed bytes zero = []
trimmed bytes (suc n) = if slice_index bytes n == 32 then trimmed bytes n else take (suc n) bytes

-- a tag, whose padding isn't shown
unfoldable pub tag_after : Word → VolumeTag → List ℕ
tag_after before tag = word_text before ++ flat_map escaped (trimmed tag.0 (length tag.0))

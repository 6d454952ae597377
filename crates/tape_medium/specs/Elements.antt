use Rattle.std.specs.Prelude.{ℕ, ◌+◌, ◌-◌, Bool, ◌&&◌, ◌==◌, nat_le, nat_lt, List, length, replicate, slice_index_or, slice_set, Option, Some, None, Result, Ok, Err, if◌then◌else◌}
use Rattle.tape_medium.specs.declared.volume.VolumeTag.{VolumeTag}
use Rattle.tape_medium.specs.declared.volume.Volume.{Volume}
use Rattle.tape_medium.specs.declared.elements.MapFault.{MapFault}
use Rattle.tape_medium.specs.declared.elements.MapFault.TheVariants.{BadAddress, SourceEmpty, DestinationFull}

-- The elements of a medium changer (SMC-3, "MOVE MEDIUM command"), each list in order of address. A storage or
-- import/export element holds its volume; a data transfer element knows the tag of the volume in its drive.
-- The medium transport element is always empty (profile).
pub record Elements : Type 0 where
  pub data_transfer : List (Option VolumeTag)
  pub import_export : List (Option Volume)
  pub storage : List (Option Volume)

-- so many of each, all empty
abbrev pub empty_elements : ℕ → ℕ → ℕ → Elements
empty_elements data_transfer import_export storage =
    record { data_transfer = replicate data_transfer None; import_export = replicate import_export None; storage = replicate storage None }

-- which element an address names: its number within its type, from 0
pub data Element : Type 0 where
  Transport : Element
  DataTransfer : ℕ → Element
  ImportExport : ℕ → Element
  Storage : ℕ → Element
  Nowhere : Element

-- the first address of each type (profile)
abbrev pub first_data_transfer : ℕ
first_data_transfer = 0x100

abbrev pub first_import_export : ℕ
first_import_export = 0x200

abbrev pub first_storage : ℕ
first_storage = 0x400

abbrev pub is_among : ℕ → ℕ → ℕ → Bool
is_among first count address = nat_le first address && nat_lt address (first + count)

abbrev pub element_at : Elements → ℕ → Element
element_at e address =
    if address == 0 then Transport
    else if is_among first_data_transfer (length e.data_transfer) address then DataTransfer (address - first_data_transfer)
    else if is_among first_import_export (length e.import_export) address then ImportExport (address - first_import_export)
    else if is_among first_storage (length e.storage) address then Storage (address - first_storage)
    else Nowhere

abbrev pub tag_of : Option Volume → Option VolumeTag
tag_of None = None
tag_of (Some volume) = Some volume.tag

-- the tag in an element
abbrev pub tag_in : Elements → Element → Result (Option VolumeTag) MapFault
tag_in e Transport = Ok None
tag_in e (DataTransfer i) = Ok (slice_index_or e.data_transfer i None)
tag_in e (ImportExport i) = Ok (tag_of (slice_index_or e.import_export i None))
tag_in e (Storage i) = Ok (tag_of (slice_index_or e.storage i None))
tag_in e Nowhere = Err BadAddress

-- what a storage or import/export element holds; no other element holds volumes
abbrev pub held_in : Elements → Element → Option (Option Volume)
held_in e Transport = None
held_in e (DataTransfer i) = None
held_in e (ImportExport i) = Some (slice_index_or e.import_export i None)
held_in e (Storage i) = Some (slice_index_or e.storage i None)
held_in e Nowhere = None

-- the same elements, but for what one of them holds
abbrev pub holding : Elements → Element → Option Volume → Elements
holding e Transport held = e
holding e (DataTransfer i) held = e
holding e (ImportExport i) held = record e { import_export = slice_set e.import_export i held }
holding e (Storage i) held = record e { storage = slice_set e.storage i held }
holding e Nowhere held = e

-- one volume is taken out
abbrev pub taken : Elements → Element → Option (Option Volume) → Result (Elements × Volume) MapFault
taken e from None = Err BadAddress
taken e from (Some None) = Err SourceEmpty
taken e from (Some (Some volume)) = Ok (holding e from None, volume)

-- one volume is put in
abbrev pub put : Elements → Element → Volume → Option (Option Volume) → Result Elements MapFault
put e to volume None = Err BadAddress
put e to volume (Some (Some other)) = Err DestinationFull
put e to volume (Some None) = Ok (holding e to (Some volume))

-- one volume is taken out at the source and put in at the destination
abbrev pub moved : Elements → Element → Option (Option Volume) → Element → Option (Option Volume) → Result Elements MapFault
moved e from None to there = Err BadAddress
moved e from (Some held) to None = Err BadAddress
moved e from (Some None) to (Some there) = Err SourceEmpty
moved e from (Some (Some volume)) to (Some (Some other)) = Err DestinationFull
moved e from (Some (Some volume)) to (Some None) = Ok (holding (holding e from None) to (Some volume))

-- the tag of the volume in a drive is noted at its data transfer element
abbrev pub noted : Elements → Element → Option VolumeTag → Result Elements MapFault
noted e Transport tag = Err BadAddress
noted e (DataTransfer i) tag = Ok (record e { data_transfer = slice_set e.data_transfer i tag })
noted e (ImportExport i) tag = Err BadAddress
noted e (Storage i) tag = Err BadAddress
noted e Nowhere tag = Err BadAddress

-- A MOVE MEDIUM between any elements but the transport, as far as tags tell: what the element holds, and why the
-- move is refused
abbrev pub tag_held : Elements → Element → Option (Option VolumeTag)
tag_held e Transport = None
tag_held e (DataTransfer i) = Some (slice_index_or e.data_transfer i None)
tag_held e (ImportExport i) = Some (tag_of (slice_index_or e.import_export i None))
tag_held e (Storage i) = Some (tag_of (slice_index_or e.storage i None))
tag_held e Nowhere = None

abbrev pub refusal : Option (Option VolumeTag) → Option (Option VolumeTag) → Option MapFault
refusal None to = Some BadAddress
refusal (Some held) None = Some BadAddress
refusal (Some None) (Some there) = Some SourceEmpty
refusal (Some (Some tag)) (Some (Some other)) = Some DestinationFull
refusal (Some (Some tag)) (Some None) = None

-- THE CALLS, by address

abbrev pub reads : Elements → ℕ → Result (Option VolumeTag) MapFault
reads e address = tag_in e (element_at e address)

abbrev pub takes : Elements → ℕ → Result (Elements × Volume) MapFault
takes e address = let from = element_at e address in taken e from (held_in e from)

abbrev pub puts : Elements → ℕ → Volume → Result Elements MapFault
puts e address volume = let to = element_at e address in put e to volume (held_in e to)

abbrev pub notes : Elements → ℕ → Option VolumeTag → Result Elements MapFault
notes e address tag = noted e (element_at e address) tag

abbrev pub moves : Elements → ℕ → ℕ → Result Elements MapFault
moves e source destination =
    let from = element_at e source in
    let to = element_at e destination in
    moved e from (held_in e from) to (held_in e to)

-- why the map and the tags refuse a MOVE MEDIUM, in the order of the tests; the transport is the element 0 (profile)
abbrev pub move_refusal : Elements → ℕ → ℕ → ℕ → Option MapFault
move_refusal e transport source destination =
    if transport == 0 then refusal (tag_held e (element_at e source)) (tag_held e (element_at e destination)) else Some BadAddress

-- Where a changer's map and marks refuse nothing, an end of the move that is no drive's has the volume, or a free place.
use Rattle.std.proofs.Common.{◌≡◌, ℕ, Bool, true, false, ◌==◌, Option, Some, None, Result, Ok, Err, refl, sym, ◌∙◌}
use Rattle.std.specs.Prelude.{◌≢◌, cond, ◌-◌, IsOk, slice_index_or, length}
use Rattle.tape_medium.specs.declared.volume.Volume.{Volume}
use Rattle.tape_medium.specs.declared.volume.VolumeTag.{VolumeTag}
use Rattle.tape_medium.specs.declared.elements.MapFault.{MapFault}
use Rattle.tape_medium.specs.declared.elements.MapFault.TheVariants.{BadAddress}
use Rattle.tape_medium.specs.Elements.{Elements, Element, Transport, DataTransfer, ImportExport, Storage, Nowhere, first_data_transfer, first_import_export, first_storage, is_among, element_at, tag_of, tag_held, held_in, taken, put, refusal, move_refusal, takes, puts}
use Rattle.element_map.specs.Exchange.{has_drive, exchange_refusal}
use Rattle.scsi_cdb.specs.declared.request.Request.{Request}
use Rattle.device_server.specs.View as device
use Rattle.device_server.specs.HostChanger.{ChangerView}
use Rattle.device_server.specs.View.{DeviceView, Changer, drives_of}
use Rattle.device_server.specs.declared.fault.PutFault.{PutFault}
use Rattle.device_server.specs.declared.fault.TakeFault.{TakeFault}
use Rattle.logical_unit.specs.MoveJudgement.{HasRouteWays, HasWays}
use Rattle.logical_unit.specs.Route.{drive_at}
use Rattle.logical_unit.specs.declared.route.Errand.{Errand}
use Rattle.logical_unit.specs.declared.route.Errand.TheVariants as errand
use Rattle.logical_unit.specs.declared.route.Route.{Route}
use Rattle.logical_unit.proofs.ExchangeWays.{exchange_ways}
use Rattle.logical_unit.proofs.NamedDrives.{Asks}

-- what the map says where it refuses nothing: there is a volume at one end, and none at the other
pub record IsFree (from to : Option (Option VolumeTag)) : Type 0 where
  pub tag : VolumeTag
  pub source : from ≡ Some (Some tag)
  pub destination : to ≡ Some None

not_refused : (from to : Option (Option VolumeTag)) → refusal from to ≡ None → IsFree from to
not_refused None to h = absurd cc
not_refused (Some held) None h = absurd cc
not_refused (Some None) (Some there) h = absurd cc
not_refused (Some (Some tag)) (Some (Some other)) h = absurd cc
not_refused (Some (Some tag)) (Some None) h = record { tag = tag; source = refl; destination = refl }

-- an address that is no drive's
other_element : (transport drive portal slot : Bool) (at i j k l : ℕ) → cond drive (Some at) None ≡ None
    → cond transport Transport (cond drive (DataTransfer i) (cond portal (ImportExport j) (cond slot (Storage k) Nowhere))) ≢ DataTransfer l
other_element true drive portal slot at i j k l h = λ e. cc
other_element false true portal slot at i j k l h = absurd cc
other_element false false true slot at i j k l h = λ e. cc
other_element false false false true at i j k l h = λ e. cc
other_element false false false false at i j k l h = λ e. cc

no_drive : (e : Elements) (address l : ℕ) → drive_at (length e.data_transfer) address ≡ None → element_at e address ≢ DataTransfer l
no_drive e address l h =
    other_element (address == 0) (is_among first_data_transfer (length e.data_transfer) address) (is_among first_import_export (length e.import_export) address) (is_among first_storage (length e.storage) address)
    (address - 0xFF) (address - first_data_transfer) (address - first_import_export) (address - first_storage) l h

-- a volume goes into a place where none is
free_place : (e : Elements) (x : Element) (v : Volume) (o : Option Volume) → ◌≡◌ {A = Option (Option VolumeTag)} (Some (tag_of o)) (Some None) → IsOk (put e x v (Some o))
free_place e x v None h = refl
free_place e x v (Some w) h = absurd cc

goes_in : (e : Elements) (x : Element) (v : Volume) → tag_held e x ≡ Some None → ((l : ℕ) → x ≢ DataTransfer l) → IsOk (put e x v (held_in e x))
goes_in e Transport v h other = absurd cc
goes_in e (DataTransfer i) v h other = absurd (other i refl)
goes_in e (ImportExport i) v h other = free_place e (ImportExport i) v (slice_index_or e.import_export i None) h
goes_in e (Storage i) v h other = free_place e (Storage i) v (slice_index_or e.storage i None) h
goes_in e Nowhere v h other = absurd cc

-- and comes out of one that has it
full_place : (e : Elements) (x : Element) (tag : VolumeTag) (o : Option Volume) → ◌≡◌ {A = Option (Option VolumeTag)} (Some (tag_of o)) (Some (Some tag)) → IsOk (taken e x (Some o))
full_place e x tag None h = absurd cc
full_place e x tag (Some w) h = refl

comes_out : (e : Elements) (x : Element) (tag : VolumeTag) → tag_held e x ≡ Some (Some tag) → ((l : ℕ) → x ≢ DataTransfer l) → IsOk (taken e x (held_in e x))
comes_out e Transport tag h other = absurd cc
comes_out e (DataTransfer i) tag h other = absurd (other i refl)
comes_out e (ImportExport i) tag h other = full_place e (ImportExport i) tag (slice_index_or e.import_export i None) h
comes_out e (Storage i) tag h other = full_place e (Storage i) tag (slice_index_or e.storage i None) h
comes_out e Nowhere tag h other = absurd cc

-- the device answers as its map does
abbrev pub as_put : ChangerView → Result Elements MapFault → Result DeviceView PutFault
as_put c r = elim r [ Ok after ↦ Ok (Changer (record c { elements = after })) | Err fault ↦ Err (device.put_fault_of fault) ]

abbrev pub as_taken : ChangerView → Result (Elements × Volume) MapFault → Result (Volume × DeviceView) TakeFault
as_taken c r = elim r [ Ok it ↦ Ok (it.1, Changer (record c { elements = it.0 })) | Err fault ↦ Err (device.take_fault_of fault) ]

puts_ok : (c : ChangerView) (r : Result Elements MapFault) → IsOk r → IsOk (as_put c r)
puts_ok c (Ok after) h = refl
puts_ok c (Err fault) h = absurd cc

takes_ok : (c : ChangerView) (r : Result (Elements × Volume) MapFault) → IsOk r → IsOk (as_taken c r)
takes_ok c (Ok it) h = refl
takes_ok c (Err fault) h = absurd cc

ways_by : (transport : Bool) (c : ChangerView) (r : Route) → cond transport (refusal (tag_held c.elements (element_at c.elements r.source)) (tag_held c.elements (element_at c.elements r.destination))) (Some BadAddress) ≡ None
    → r.from ≡ drive_at (length c.elements.data_transfer) r.source → r.to ≡ drive_at (length c.elements.data_transfer) r.destination → HasRouteWays (Changer c) r
ways_by false c r h from to = absurd cc
ways_by true c r h from to =
    let e = c.elements in
    let free = not_refused (tag_held e (element_at e r.source)) (tag_held e (element_at e r.destination)) h in
    record {
      source = λ none. takes_ok c (takes e r.source) (comes_out e (element_at e r.source) free.tag free.source (λ l. no_drive e r.source l (sym from ∙ none)));
      destination = λ none volume. puts_ok c (puts e r.destination volume) (goes_in e (element_at e r.destination) volume free.destination (λ l. no_drive e r.destination l (sym to ∙ none)));
    }

pub route_ways : (c : ChangerView) (transport : ℕ) (r : Route) → move_refusal c.elements transport r.source r.destination ≡ None
    → r.from ≡ drive_at (length c.elements.data_transfer) r.source → r.to ≡ drive_at (length c.elements.data_transfer) r.destination → HasRouteWays (Changer c) r
route_ways c transport r h from to = ways_by (transport == 0) c r h from to

-- what the map and the marks say of what is left to the drives
abbrev pub IsForDrives : ChangerView → Errand → (transport : ℕ) → Type 0
IsForDrives c (errand.Move r) transport = move_refusal c.elements transport r.source r.destination ≡ None
IsForDrives c (errand.Exchange x) transport =
    (exchange_refusal c.elements transport x.source x.first x.second ≡ None) × (has_drive c.elements x.source x.first x.second ≡ true)

pub has_ways : (c : ChangerView) (q : Request) (e : Errand) (transport : ℕ) → Asks (drives_of (Changer c)) q e → IsForDrives c e transport → HasWays (Changer c) e
has_ways c q (errand.Move r) transport a free = route_ways c transport r free a.from a.to
has_ways c q (errand.Exchange x) transport a free = exchange_ways c transport x free.0 free.1 a.from a.between a.to

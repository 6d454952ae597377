-- Settling changes nothing else of a device.
use Rattle.std.proofs.Common.{◌≡◌, ℕ, List, length, get_or, set, map, Option, Some, None, refl, ap, sym, Bool, true, false, ◌==◌}
use Rattle.std.specs.Prelude.{unwrap_or, if◌then◌else◌}
use Rattle.std.specs.Option.{option_map}
use Rattle.std.proofs.Math.Seq.{map-set_same}
use Rattle.tape_medium.specs.declared.volume.Volume.{Volume}
use Rattle.tape_medium.specs.Elements.{Elements, Element, Transport, DataTransfer, ImportExport, Storage, Nowhere, element_at, held_in, holding}
use Rattle.tape_medium.specs.Settling.{settled_to, unsettled_place, unsettled_elements}
use Rattle.device_server.specs.declared.host_changer.HostChanger.{HostChanger}
use Rattle.device_server.specs.declared.host_drive.HostDrive.{HostDrive}
use Rattle.device_server.specs.Drive.{DriveView}
use Rattle.device_server.specs.HostChanger.{ChangerView}
use Rattle.device_server.specs.View.{Drive, Changer}
use Rattle.device_server.specs.Settled.{unsettled, SettlingChangesNothingElse, StaysTheSameWhenSettled}
use Rattle.device_server.proofs.SameDevice.{same_device}

place-settled : (objects : ℕ) (place : Option Volume) → unsettled_place (option_map (settled_to objects) place) ≡ unsettled_place place
place-settled objects None = refl
place-settled objects (Some volume) = refl

places-settled : (objects : ℕ) (places : List (Option Volume)) (i : ℕ)
    → map unsettled_place (set places i (option_map (settled_to objects) (get_or places i None))) ≡ map unsettled_place places
places-settled objects places i =
    map-set_same unsettled_place places i (option_map (settled_to objects) (get_or places i None)) None (place-settled objects (get_or places i None))

element-settled : (e : Elements) (at : Element) (objects : ℕ)
    → unsettled_elements (holding e at (option_map (settled_to objects) (unwrap_or (held_in e at) None))) ≡ unsettled_elements e
element-settled e Transport objects = refl
element-settled e (DataTransfer i) objects = refl
element-settled e (ImportExport i) objects = ap (λ places. record (unsettled_elements e) { import_export = places }) (places-settled objects e.import_export i)
element-settled e (Storage i) objects = ap (λ places. record (unsettled_elements e) { storage = places }) (places-settled objects e.storage i)
element-settled e Nowhere objects = refl

drive-settled : (d : DriveView) (objects : ℕ) (there : Bool)
    → unsettled (Drive d) ≡ unsettled (if there then Drive (record d { bay = option_map (settled_to objects) d.bay }) else Drive d)
drive-settled d objects true = sym (ap (λ bay. Drive (record d { bay = bay })) (place-settled objects d.bay))
drive-settled d objects false = refl

pub settling_changes : SettlingChangesNothingElse
settling_changes (Drive d) place objects = drive-settled d objects (place == 0)
settling_changes (Changer c) place objects =
    sym (ap (λ (e : Elements). Changer (record c { elements = e })) (element-settled c.elements (element_at c.elements place) objects))

abbrev unsettled_drive : DriveView → DriveView
unsettled_drive d = record d { bay = unsettled_place d.bay }

abbrev unsettled_changer : ChangerView → ChangerView
unsettled_changer c = record c { elements = unsettled_elements c.elements }

pub same_settled : StaysTheSameWhenSettled
same_settled (Drive d) (Drive b) same =
    let drives : unsettled_drive d ≡ unsettled_drive b = cc in
    let hosts : b.hosts ≡ d.hosts = sym (ap (λ (x : DriveView). x.hosts) drives) in
    same_device (Drive d) (Drive b) refl (ap (option_map (λ (h : HostDrive). h.identity)) hosts) refl
same_settled (Drive d) (Changer b) same = cc
same_settled (Changer c) (Drive b) same = cc
same_settled (Changer c) (Changer b) same =
    let changers : unsettled_changer c ≡ unsettled_changer b = cc in
    let hosts : b.hosts ≡ c.hosts = sym (ap (λ (x : ChangerView). x.hosts) changers) in
    let marks : b.elements.data_transfer ≡ c.elements.data_transfer = sym (ap (λ (x : ChangerView). x.elements.data_transfer) changers) in
    same_device (Changer c) (Changer b) refl (ap (option_map (λ (h : HostChanger). h.identity)) hosts) (ap length marks)

-- What a device was, and what it is left as, where a volume was taken out or put in and where a mark was set.
use Rattle.std.proofs.Common.{◌≡◌, ℕ, ◌-◌, ◌==◌, Bool, true, false, length, set, Option, Some, None, Result, Ok, Err, refl, ap, ◌∙◌, arith}
use Rattle.std.specs.Prelude.{cond, if◌then◌else◌, IsOk}
use Rattle.std.proofs.lemmas.Bool.Decides.{nat_tests}
use Rattle.tape_medium.specs.declared.volume.VolumeTag.{VolumeTag}
use Rattle.tape_medium.specs.declared.volume.Volume.{Volume}
use Rattle.tape_medium.specs.Elements.{Element, Transport, DataTransfer, ImportExport, Storage, Nowhere, is_among, first_data_transfer, first_import_export, first_storage, element_at, held_in, holding, noted}
use Rattle.tape_medium.specs.Elements as elements
use Rattle.device_server.specs.declared.fault.TakeFault.{TakeFault}
use Rattle.device_server.specs.declared.fault.TakeFault.TheVariants as take_fault
use Rattle.device_server.specs.declared.fault.PutFault.{PutFault}
use Rattle.device_server.specs.declared.fault.PutFault.TheVariants as put_fault
use Rattle.device_server.specs.declared.fault.BadPlace.{BadPlace}
use Rattle.device_server.specs.Drive.{DriveView, rewound}
use Rattle.device_server.specs.HostChanger.{ChangerView}
use Rattle.device_server.specs.View.{DeviceView, Drive, Changer, taken_from_bay, take_fault_of, put_in_bay, put_fault_of, taken, put, marked}

-- A DRIVE. What is taken out is its volume, rewound, and what is put in is rewound too

pub record IsOutOfBay (d : DriveView) (place : ℕ) (v : Volume) (after : DeviceView) : Type 0 where
  pub held : Volume
  pub is_zero : 0 ≡ place
  pub full : d.bay ≡ Some held
  pub volume : rewound held ≡ v
  pub left : Drive (record d { bay = None; loaded = false }) ≡ after

pub record IsInBay (d : DriveView) (place : ℕ) (v : Volume) (after : DeviceView) : Type 0 where
  pub is_zero : 0 ≡ place
  pub empty : d.bay ≡ None
  pub left : Drive (record d { bay = Some (rewound v); loaded = true }) ≡ after

zero_is : (place : ℕ) → (place == 0) ≡ true → 0 ≡ place
zero_is place h = grind (arith, nat_tests)

out_of_bay : (d : DriveView) (place : ℕ) (here : Bool) (o : Option Volume) (v : Volume) (after : DeviceView) → (place == 0) ≡ here → d.bay ≡ o
    → cond here (taken_from_bay d o) (Err take_fault.BadPlace) ≡ Ok (v, after) → IsOutOfBay d place v after
out_of_bay d place false o v after at is h = absurd cc
out_of_bay d place true None v after at is h = absurd cc
out_of_bay d place true (Some w) v after at is h =
    let both : (rewound w, Drive (record d { bay = None; loaded = false })) ≡ (v, after) = cc in
    record { held = w; is_zero = zero_is place at; full = is; volume = ap (λ (x : Volume × DeviceView). x.0) both; left = ap (λ (x : Volume × DeviceView). x.1) both }

in_bay : (d : DriveView) (place : ℕ) (here : Bool) (o : Option Volume) (v : Volume) (after : DeviceView) → (place == 0) ≡ here → d.bay ≡ o
    → cond here (put_in_bay d o v) (Err put_fault.BadPlace) ≡ Ok after → IsInBay d place v after
in_bay d place false o v after at is h = absurd cc
in_bay d place true (Some w) v after at is h = absurd cc
in_bay d place true None v after at is h = record { is_zero = zero_is place at; empty = is; left = cc }

pub drive_taken : (d : DriveView) (place : ℕ) (v : Volume) (after : DeviceView) → taken (Drive d) place ≡ Ok (v, after) → IsOutOfBay d place v after
drive_taken d place v after h = out_of_bay d place (place == 0) d.bay v after refl refl h

pub drive_put : (d : DriveView) (place : ℕ) (v : Volume) (after : DeviceView) → put (Drive d) place v ≡ Ok after → IsInBay d place v after
drive_put d place v after h = in_bay d place (place == 0) d.bay v after refl refl h

-- A CHANGER. One element is emptied, or filled

pub record IsOutOfElement (c : ChangerView) (place : ℕ) (v : Volume) (after : DeviceView) : Type 0 where
  pub full : held_in c.elements (element_at c.elements place) ≡ Some (Some v)
  pub left : Changer (record c { elements = holding c.elements (element_at c.elements place) None }) ≡ after

pub record IsInElement (c : ChangerView) (place : ℕ) (v : Volume) (after : DeviceView) : Type 0 where
  pub empty : held_in c.elements (element_at c.elements place) ≡ Some None
  pub left : Changer (record c { elements = holding c.elements (element_at c.elements place) (Some v) }) ≡ after

out_of_element : (c : ChangerView) (place : ℕ) (held : Option (Option Volume)) (v : Volume) (after : DeviceView) → held_in c.elements (element_at c.elements place) ≡ held
    → elim (elements.taken c.elements (element_at c.elements place) held) as (λ _. Result (Volume × DeviceView) TakeFault) [ Ok it ↦ Ok (it.1, Changer (record c { elements = it.0 })) | Err fault ↦ Err (take_fault_of fault) ] ≡ Ok (v, after)
    → IsOutOfElement c place v after
out_of_element c place None v after is h = absurd cc
out_of_element c place (Some None) v after is h = absurd cc
out_of_element c place (Some (Some w)) v after is h =
    let both : (w, Changer (record c { elements = holding c.elements (element_at c.elements place) None })) ≡ (v, after) = cc in
    record { full = is ∙ ap (λ (x : Volume × DeviceView). Some (Some x.0)) both; left = ap (λ (x : Volume × DeviceView). x.1) both }

in_element : (c : ChangerView) (place : ℕ) (held : Option (Option Volume)) (v : Volume) (after : DeviceView) → held_in c.elements (element_at c.elements place) ≡ held
    → elim (elements.put c.elements (element_at c.elements place) v held) as (λ _. Result DeviceView PutFault) [ Ok left ↦ Ok (Changer (record c { elements = left })) | Err fault ↦ Err (put_fault_of fault) ] ≡ Ok after
    → IsInElement c place v after
in_element c place None v after is h = absurd cc
in_element c place (Some (Some w)) v after is h = absurd cc
in_element c place (Some None) v after is h = record { empty = is; left = cc }

pub changer_taken : (c : ChangerView) (place : ℕ) (v : Volume) (after : DeviceView) → taken (Changer c) place ≡ Ok (v, after) → IsOutOfElement c place v after
changer_taken c place v after h = out_of_element c place (held_in c.elements (element_at c.elements place)) v after refl h

pub changer_put : (c : ChangerView) (place : ℕ) (v : Volume) (after : DeviceView) → put (Changer c) place v ≡ Ok after → IsInElement c place v after
changer_put c place v after h = in_element c place (held_in c.elements (element_at c.elements place)) v after refl h

-- A MARK is set at a data transfer element alone

-- what an address means, by its tests
abbrev pub chosen : (transport drive port slot : Bool) (i j k : ℕ) → Element
chosen transport drive port slot i j k =
    if transport then Transport else if drive then DataTransfer i else if port then ImportExport j else if slot then Storage k else Nowhere

-- a mark that is set at what is chosen
pub record IsNoted (c : ChangerView) (drive : Bool) (i : ℕ) (tag : Option VolumeTag) (after : DeviceView) : Type 0 where
  pub is_drive : drive ≡ true
  pub rest : Changer (record c { elements = record c.elements { data_transfer = set c.elements.data_transfer i tag } }) ≡ after

noted_at : (c : ChangerView) (transport drive port slot : Bool) (i j k : ℕ) (tag : Option VolumeTag) (after : DeviceView)
    → elim (noted c.elements (chosen transport drive port slot i j k) tag) as (λ _. Result DeviceView BadPlace) [ Ok left ↦ Ok (Changer (record c { elements = left })) | Err fault ↦ Err record {} ] ≡ Ok after
    → IsNoted c drive i tag after
noted_at c true drive port slot i j k tag after h = absurd cc
noted_at c false true port slot i j k tag after h = record { is_drive = refl; rest = cc }
noted_at c false false true slot i j k tag after h = absurd cc
noted_at c false false false true i j k tag after h = absurd cc
noted_at c false false false false i j k tag after h = absurd cc

pub marked_one : (c : ChangerView) (place : ℕ) (tag : Option VolumeTag) (after : DeviceView) → marked (Changer c) place tag ≡ Ok after
    → IsNoted c (is_among first_data_transfer (length c.elements.data_transfer) place) (place - first_data_transfer) tag after
marked_one c place tag after h =
    noted_at c (place == 0) (is_among first_data_transfer (length c.elements.data_transfer) place)
    (is_among first_import_export (length c.elements.import_export) place) (is_among first_storage (length c.elements.storage) place)
    (place - first_data_transfer) (place - first_import_export) (place - first_storage) tag after h

pub marks_at : (c : ChangerView) (transport drive port slot : Bool) (i j k : ℕ) (tag : Option VolumeTag) → transport ≡ false → drive ≡ true
    → IsOk (elim (noted c.elements (chosen transport drive port slot i j k) tag) as (λ _. Result DeviceView BadPlace) [ Ok left ↦ Ok (Changer (record c { elements = left })) | Err fault ↦ Err record {} ])
marks_at c true drive port slot i j k tag first second = absurd cc
marks_at c false true port slot i j k tag first second = refl
marks_at c false false port slot i j k tag first second = absurd cc

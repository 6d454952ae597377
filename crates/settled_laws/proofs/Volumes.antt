-- A reset, volumes that are taken out and put in, and marks, as if nothing was settled, and so at any two devices that are the same but settled.
use Rattle.std.proofs.Common.{◌≡◌, ℕ, Bool, true, false, ◌==◌, set, Option, Some, None, Result, Ok, Err, refl, sym, ap, ◌∙◌, if◌then◌else◌}
use Rattle.std.specs.Option.{option_map}
use Rattle.tape_medium.specs.declared.volume.Volume.{Volume}
use Rattle.tape_medium.specs.declared.volume.VolumeTag.{VolumeTag}
use Rattle.tape_medium.specs.declared.elements.MapFault.{MapFault}
use Rattle.tape_medium.specs.Elements as elements
use Rattle.tape_medium.specs.Elements.{Elements, Element, Transport, DataTransfer, ImportExport, Storage, Nowhere, element_at, held_in}
use Rattle.tape_medium.specs.Elements.{holding, takes, puts, notes}
use Rattle.tape_medium.specs.Settling.{settled_to, unsettled_place, unsettled_elements}
use Rattle.device_server.specs.declared.fault.TakeFault.{TakeFault}
use Rattle.device_server.specs.declared.fault.TakeFault.TheVariants as take_fault
use Rattle.device_server.specs.declared.fault.PutFault.{PutFault}
use Rattle.device_server.specs.declared.fault.PutFault.TheVariants as put_fault
use Rattle.device_server.specs.declared.fault.BadPlace.{BadPlace}
use Rattle.device_server.specs.declared.host_drive.HostDrive.{HostDrive}
use Rattle.device_server.specs.HostChanger.{ChangerView}
use Rattle.device_server.specs.Settled.{SameButSettled, unsettled}
use Rattle.device_server.specs.View.{DeviceView, Drive, Changer, taken, taken_from_bay, put, put_in_bay, marked, journeyed, exchange_journeyed, reset_of, take_fault_of}
use Rattle.device_server.specs.View.{put_fault_of}
use Rattle.settled_laws.specs.Alike.{TakenAlike, ChangedAlike, ResetAlike, GiveAlike, PutAlike, MarkAlike, JourneyAlike, ExchangeAlike}
use Rattle.settled_laws.proofs.Maps.{elements_twice, same_element, same_held, same_holding}
use Rattle.settled_laws.proofs.Performing.{drive_of}

-- A RESET

bay_reset : (bay : Option Volume) (loaded : Bool) (block_length : ℕ) (hosts : Option HostDrive)
    → unsettled (reset_of (Drive (drive_of bay loaded block_length hosts)))
    ≡ unsettled (reset_of (Drive (drive_of (unsettled_place bay) loaded block_length hosts)))
unfolding drive_of
bay_reset None loaded block_length hosts = refl
bay_reset (Some v) loaded block_length hosts = refl

reset_unsettled : (d : DeviceView) → SameButSettled (reset_of d) (reset_of (unsettled d))
unfolding drive_of
reset_unsettled (Drive d) = bay_reset d.bay d.loaded d.block_length d.hosts
reset_unsettled (Changer c) = sym (ap (λ (e : Elements). Changer (record c { elements = e })) (elements_twice c.elements))

pub reset_alike : ResetAlike
reset_alike one two same = reset_unsettled one ∙ ap (λ (d : DeviceView). unsettled (reset_of d)) same ∙ sym (reset_unsettled two)

-- VOLUMES TAKEN OUT

-- what was taken out, as if nothing was settled
taken_as : Result (Volume × DeviceView) TakeFault → Result (Volume × DeviceView) TakeFault
taken_as (Ok it) = Ok (settled_to 0 it.0, unsettled it.1)
taken_as (Err fault) = Err fault

taken_by : (r s : Result (Volume × DeviceView) TakeFault) → taken_as r ≡ taken_as s → TakenAlike r s
unfolding taken_as
taken_by (Ok one) (Ok two) same =
    let both : (settled_to 0 one.0, unsettled one.1) ≡ (settled_to 0 two.0, unsettled two.1) = cc in
    (ap (λ (it : Volume × DeviceView). it.0) both, ap (λ (it : Volume × DeviceView). it.1) both)
taken_by (Ok one) (Err fault) same = absurd cc
taken_by (Err fault) (Ok two) same = absurd cc
taken_by (Err one) (Err two) same = cc

bay_taken : (there : Bool) (bay : Option Volume) (loaded : Bool) (block_length : ℕ) (hosts : Option HostDrive)
    → taken_as (if there then taken_from_bay (drive_of bay loaded block_length hosts) bay else Err take_fault.BadPlace)
    ≡ taken_as (if there then taken_from_bay (drive_of (unsettled_place bay) loaded block_length hosts)
    (unsettled_place bay) else Err take_fault.BadPlace)
unfolding drive_of taken_as
bay_taken false bay loaded block_length hosts = refl
bay_taken true None loaded block_length hosts = refl
bay_taken true (Some v) loaded block_length hosts = refl

took : ChangerView → Result (Elements × Volume) MapFault → Result (Volume × DeviceView) TakeFault
took c (Ok it) = Ok (it.1, Changer (record c { elements = it.0 }))
took c (Err fault) = Err (take_fault_of fault)

element_taken : (c : ChangerView) (e : Elements) (from : Element) (held : Option (Option Volume))
    → taken_as (took c (elements.taken e from held))
    ≡ taken_as (took c (elements.taken (unsettled_elements e) from (option_map unsettled_place held)))
unfolding taken_as took
element_taken c e from None = refl
element_taken c e from (Some None) = refl
element_taken c e from (Some (Some v)) =
    let left : unsettled_elements (holding e from None) ≡ unsettled_elements (holding (unsettled_elements e) from None) =
    same_holding e from None
    ∙ sym (same_holding (unsettled_elements e) from None ∙ ap (λ (x : Elements). holding x from None) (elements_twice e)) in
    ap (λ (x : Elements). Ok (settled_to 0 v, Changer (record c { elements = x }))) left

taken_unsettled : (d : DeviceView) (place : ℕ) → taken_as (taken d place) ≡ taken_as (taken (unsettled d) place)
unfolding drive_of took
taken_unsettled (Drive d) place = bay_taken (place == 0) d.bay d.loaded d.block_length d.hosts
taken_unsettled (Changer c) place =
    let e : Elements = c.elements in
    let u : Elements = unsettled_elements e in
    element_taken c e (element_at e place) (held_in e (element_at e place))
    ∙ ap (λ (h : Option (Option Volume)). taken_as (took c (elements.taken u (element_at e place) h)))
    (sym (same_held e (element_at e place)))
    ∙ ap (λ (at : Element). taken_as (took c (elements.taken u at (held_in u at)))) (sym (same_element e place))

pub give_alike : GiveAlike
give_alike one two place same =
    taken_by (taken one place) (taken two place)
    (taken_unsettled one place ∙ ap (λ (d : DeviceView). taken_as (taken d place)) same ∙ sym (taken_unsettled two place))

-- WHAT IS CHANGED, as if nothing was settled

changed_as : {F : Type 0} → Result DeviceView F → Result DeviceView F
changed_as (Ok device) = Ok (unsettled device)
changed_as (Err fault) = Err fault

changed_by : {F : Type 0} (r s : Result DeviceView F) → changed_as r ≡ changed_as s → ChangedAlike r s
unfolding changed_as
changed_by (Ok one) (Ok two) same = cc
changed_by (Ok one) (Err fault) same = absurd cc
changed_by (Err fault) (Ok two) same = absurd cc
changed_by (Err one) (Err two) same = cc

-- VOLUMES PUT IN

bay_put : (there : Bool) (bay : Option Volume) (loaded : Bool) (block_length : ℕ) (hosts : Option HostDrive) (v : Volume)
    → changed_as (if there then put_in_bay (drive_of bay loaded block_length hosts) bay v else Err put_fault.BadPlace)
    ≡ changed_as (if there then put_in_bay (drive_of (unsettled_place bay) loaded block_length hosts) (unsettled_place bay)
    (settled_to 0 v) else Err put_fault.BadPlace)
unfolding drive_of changed_as
bay_put false bay loaded block_length hosts v = refl
bay_put true None loaded block_length hosts v = refl
bay_put true (Some other) loaded block_length hosts v = refl

did_put : ChangerView → Result Elements MapFault → Result DeviceView PutFault
did_put c (Ok after) = Ok (Changer (record c { elements = after }))
did_put c (Err fault) = Err (put_fault_of fault)

element_put : (c : ChangerView) (e : Elements) (to : Element) (v : Volume) (held : Option (Option Volume))
    → changed_as (did_put c (elements.put e to v held))
    ≡ changed_as (did_put c (elements.put (unsettled_elements e) to (settled_to 0 v) (option_map unsettled_place held)))
unfolding changed_as did_put
element_put c e to v None = refl
element_put c e to v (Some (Some other)) = refl
element_put c e to v (Some None) =
    let there : unsettled_elements (holding e to (Some v))
    ≡ unsettled_elements (holding (unsettled_elements e) to (Some (settled_to 0 v))) =
    same_holding e to (Some v)
    ∙ sym (same_holding (unsettled_elements e) to (Some (settled_to 0 v))
    ∙ ap (λ (x : Elements). holding x to (Some (settled_to 0 v))) (elements_twice e)) in
    ap (λ (x : Elements). Ok (Changer (record c { elements = x }))) there

put_unsettled : (d : DeviceView) (place : ℕ) (v : Volume)
    → changed_as (put d place v) ≡ changed_as (put (unsettled d) place (settled_to 0 v))
unfolding drive_of did_put
put_unsettled (Drive d) place v = bay_put (place == 0) d.bay d.loaded d.block_length d.hosts v
put_unsettled (Changer c) place v =
    let e : Elements = c.elements in
    let u : Elements = unsettled_elements e in
    let w = settled_to 0 v in
    element_put c e (element_at e place) v (held_in e (element_at e place))
    ∙ ap (λ (h : Option (Option Volume)). changed_as (did_put c (elements.put u (element_at e place) w h)))
    (sym (same_held e (element_at e place)))
    ∙ ap (λ (at : Element). changed_as (did_put c (elements.put u at w (held_in u at)))) (sym (same_element e place))

pub put_alike : PutAlike
put_alike one two place v w same volumes =
    changed_by (put one place v) (put two place w)
    (put_unsettled one place v ∙ ap (λ (d : DeviceView). changed_as (put d place (settled_to 0 v))) same
    ∙ ap (λ (x : Volume). changed_as (put (unsettled two) place x)) volumes ∙ sym (put_unsettled two place w))

-- MARKS

did_note : ChangerView → Result Elements MapFault → Result DeviceView BadPlace
did_note c (Ok after) = Ok (Changer (record c { elements = after }))
did_note c (Err fault) = Err record {}

element_noted : (c : ChangerView) (e : Elements) (at : Element) (tag : Option VolumeTag)
    → changed_as (did_note c (elements.noted e at tag)) ≡ changed_as (did_note c (elements.noted (unsettled_elements e) at tag))
unfolding changed_as did_note
element_noted c e Transport tag = refl
element_noted c e (DataTransfer i) tag =
    ap (λ (x : Elements). Ok (Changer (record c { elements = record x { data_transfer = set e.data_transfer i tag } }))) (sym (elements_twice e))
element_noted c e (ImportExport i) tag = refl
element_noted c e (Storage i) tag = refl
element_noted c e Nowhere tag = refl

marked_unsettled : (d : DeviceView) (place : ℕ) (tag : Option VolumeTag)
    → changed_as (marked d place tag) ≡ changed_as (marked (unsettled d) place tag)
unfolding did_note changed_as
marked_unsettled (Drive d) place tag = refl
marked_unsettled (Changer c) place tag =
    let e : Elements = c.elements in
    let u : Elements = unsettled_elements e in
    element_noted c e (element_at e place) tag
    ∙ ap (λ (at : Element). changed_as (did_note c (elements.noted u at tag))) (sym (same_element e place))

pub mark_alike : MarkAlike
mark_alike one two place tag same =
    changed_by (marked one place tag) (marked two place tag)
    (marked_unsettled one place tag ∙ ap (λ (d : DeviceView). changed_as (marked d place tag)) same ∙ sym (marked_unsettled two place tag))

-- JOURNEYS

journeyed_unsettled : (d : DeviceView) (source destination : ℕ) → unsettled (journeyed d source destination) ≡ journeyed (unsettled d) source destination
journeyed_unsettled (Drive d) source destination = refl
journeyed_unsettled (Changer c) source destination = refl

pub journey_alike : JourneyAlike
journey_alike one two source destination same =
    journeyed_unsettled one source destination ∙ ap (λ (d : DeviceView). journeyed d source destination) same
    ∙ sym (journeyed_unsettled two source destination)

exchange_unsettled : (d : DeviceView) (source first second : ℕ)
    → unsettled (exchange_journeyed d source first second) ≡ exchange_journeyed (unsettled d) source first second
exchange_unsettled (Drive d) source first second = refl
exchange_unsettled (Changer c) source first second = refl

pub exchange_alike : ExchangeAlike
exchange_alike one two source first second same =
    exchange_unsettled one source first second ∙ ap (λ (d : DeviceView). exchange_journeyed d source first second) same
    ∙ sym (exchange_unsettled two source first second)

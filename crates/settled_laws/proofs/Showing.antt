-- What a device shows, and what it refuses by the fields of a command, is a matter of what it is but for what is settled.
use Rattle.std.proofs.Common.{◌≡◌, ℕ, ◌&&◌, ◌||◌, not, Bool, is_none, is_some, Option, Some, None, Result, Ok, Err, refl, sym, ap, ◌∙◌, ◌==◌}
use Rattle.std.proofs.Common.{if◌then◌else◌}
use Rattle.scsi_cdb.specs.declared.host_request.HostRequest.{HostRequest}
use Rattle.scsi_cdb.specs.declared.host_request.HostRequest.TheVariants as host
use Rattle.scsi_cdb.specs.declared.kind.Kind.{Kind}
use Rattle.scsi_cdb.specs.declared.profile.CommandSet.{CommandSet}
use Rattle.scsi_cdb.specs.declared.profile.Profile.{Profile}
use Rattle.scsi_cdb.specs.Kinds.{commands}
use Rattle.scsi_cdb.specs.declared.request.Request.{Request}
use Rattle.scsi_cdb.specs.declared.request.Request.TheVariants as request
use Rattle.tape_medium.specs.declared.volume.Volume.{Volume}
use Rattle.tape_medium.specs.declared.volume.VolumeTag.{VolumeTag}
use Rattle.tape_medium.specs.declared.elements.MapFault.{MapFault}
use Rattle.tape_medium.specs.Elements.{Elements, Element, element_at, tag_in, tag_of, move_refusal}
use Rattle.tape_medium.specs.Settling.{unsettled_place, unsettled_elements}
use Rattle.element_map.specs.Exchange.{has_drive}
use Rattle.device_server.specs.Failures.{is_exchange_for_drives, is_for_drives, is_data_transfer, leaves_to_drives}
use Rattle.device_server.specs.HostChanger.{ChangerView}
use Rattle.device_server.specs.Settled.{unsettled}
use Rattle.device_server.specs.View.{DeviceView, Drive, Changer, kind_of, profile_of, identity_of, commands_of, drives_of, held_in}
use Rattle.device_server.specs.FieldFaults.{field_fault_of}
use Rattle.settled_laws.specs.Alike.{ShowAlike, RefuseAlike}
use Rattle.settled_laws.proofs.Maps.{same_element, same_tag_in, same_refusal, same_exchange_refusal}

-- as if nothing was settled, a device shows the same

pub kind_unsettled : (d : DeviceView) → kind_of (unsettled d) ≡ kind_of d
kind_unsettled (Drive d) = refl
kind_unsettled (Changer c) = refl

profile_unsettled : (d : DeviceView) → profile_of (unsettled d) ≡ profile_of d
unfolding profile_of
profile_unsettled (Drive d) = refl
profile_unsettled (Changer c) = refl

identity_unsettled : (d : DeviceView) → identity_of (unsettled d) ≡ identity_of d
identity_unsettled (Drive d) = refl
identity_unsettled (Changer c) = refl

pub commands_unsettled : (d : DeviceView) → commands_of (unsettled d) ≡ commands_of d
commands_unsettled d =
    ap (λ (p : Profile). commands p (kind_of (unsettled d))) (profile_unsettled d) ∙ ap (λ (k : Kind). commands (profile_of d) k) (kind_unsettled d)

drives_unsettled : (d : DeviceView) → drives_of (unsettled d) ≡ drives_of d
drives_unsettled (Drive d) = refl
drives_unsettled (Changer c) = refl

pub tag_unsettled : (bay : Option Volume) → tag_of (unsettled_place bay) ≡ tag_of bay
tag_unsettled None = refl
tag_unsettled (Some v) = refl

tag_there : Result (Option VolumeTag) MapFault → Option VolumeTag
tag_there (Ok tag) = tag
tag_there (Err fault) = None

held_unsettled : (d : DeviceView) (place : ℕ) → held_in (unsettled d) place ≡ held_in d place
unfolding tag_there
held_unsettled (Drive d) place = ap (λ (t : Option VolumeTag). if place == 0 then t else None) (tag_unsettled d.bay)
held_unsettled (Changer c) place =
    ap (λ (at : Element). tag_there (tag_in (unsettled_elements c.elements) at)) (same_element c.elements place)
    ∙ ap tag_there (same_tag_in c.elements (element_at c.elements place))

exchange_for_drives : (e : Elements) (command : HostRequest) → is_exchange_for_drives (unsettled_elements e) command ≡ is_exchange_for_drives e command
exchange_for_drives e (host.ExchangeMedium transport source first second inv1 inv2) =
    ap (λ (o : Option MapFault). not (inv1 || inv2) && (is_none o && has_drive e source first second)) (same_exchange_refusal e transport source first second)
exchange_for_drives e command = refl

unsettled_changer : ChangerView → ChangerView
unsettled_changer c = record c { elements = unsettled_elements c.elements }

for_drives : (c : ChangerView) (r : Request) → is_for_drives (unsettled_changer c) r ≡ is_for_drives c r
unfolding unsettled_changer
for_drives c (request.MoveMedium transport source destination invert) =
    let e = c.elements in
    let u = unsettled_elements e in
    let left : Option MapFault → Element → Element
    → Bool = λ o from to. not invert && (is_none o && (is_data_transfer from || is_data_transfer to)) in
    ap (λ (o : Option MapFault). left o (element_at u source) (element_at u destination)) (same_refusal e transport source destination)
    ∙ ap (λ (from : Element). left (move_refusal e transport source destination) from (element_at u destination)) (same_element e source)
    ∙ ap (λ (to : Element). left (move_refusal e transport source destination) (element_at e source) to) (same_element e destination)
for_drives c (request.Host command) = ap (λ (b : Bool). is_some c.hosts && b) (exchange_for_drives c.elements command)
for_drives c r = refl

leaves_unsettled : (d : DeviceView) (r : Request) → leaves_to_drives (unsettled d) r ≡ leaves_to_drives d r
unfolding unsettled_changer
leaves_unsettled (Drive d) r = refl
leaves_unsettled (Changer c) r = for_drives c r

pub show_alike : ShowAlike
show_alike one two same =
    record {
      kind = sym (kind_unsettled one) ∙ ap kind_of same ∙ kind_unsettled two;
      profile = sym (profile_unsettled one) ∙ ap profile_of same ∙ profile_unsettled two;
      identity = sym (identity_unsettled one) ∙ ap identity_of same ∙ identity_unsettled two;
      drives = sym (drives_unsettled one) ∙ ap drives_of same ∙ drives_unsettled two;
      held = λ place. sym (held_unsettled one place) ∙ ap (λ (d : DeviceView). held_in d place) same ∙ held_unsettled two place;
      leaves = λ r. sym (leaves_unsettled one r) ∙ ap (λ (d : DeviceView). leaves_to_drives d r) same ∙ leaves_unsettled two r;
    }

pub refuse_alike : RefuseAlike
refuse_alike one two r bytes same =
    ap (λ (c : CommandSet). field_fault_of c r bytes) (sym (commands_unsettled one) ∙ ap commands_of same ∙ commands_unsettled two)

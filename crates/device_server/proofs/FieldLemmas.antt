-- A command whose fields aren't refused is a device's step. A MOVE MEDIUM is refused by its fields where INVERT is 1, in both profiles.
use Rattle.std.proofs.Common.{◌≡◌, ℕ, Bool, true, false, List, Option, Some, None, refl, ap, ◌∙◌}
use Rattle.std.specs.Prelude.{◌||◌}
use Rattle.std.specs.Option.{option_map}
use Rattle.scsi_cdb.specs.declared.host_request.HostRequest.TheVariants.{ExchangeMedium}
use Rattle.scsi_cdb.specs.declared.kind.Kind.{Kind}
use Rattle.scsi_cdb.specs.declared.kind.Kind.TheVariants.{Changer as changer_kind}
use Rattle.scsi_cdb.specs.declared.profile.Profile.{Profile}
use Rattle.scsi_cdb.specs.declared.profile.Profile.TheVariants.{Spec, Hosts}
use Rattle.scsi_cdb.specs.declared.request.Request.{Request}
use Rattle.scsi_cdb.specs.declared.request.Request.TheVariants.{MoveMedium, Host}
use Rattle.scsi_sense.specs.declared.condition.Condition.{Condition}
use Rattle.scsi_sense.specs.declared.condition.Condition.TheVariants.{InvalidFieldInCdb}
use Rattle.element_map.specs.Exchange.{exchange_refusal}
use Rattle.device_server.specs.declared.host_changer.HostChanger.{HostChanger}
use Rattle.device_server.specs.declared.outcome.Outcome.{Outcome}
use Rattle.device_server.specs.Outcomes.{refused}
use Rattle.device_server.specs.Fields.{invalid_where}
use Rattle.device_server.specs.FieldFaults.{field_fault_by}
use Rattle.device_server.specs.HostChanger.{ChangerView, host_exchanged}
use Rattle.device_server.specs.View.{DeviceView, Changer, kind_of, profile_by, profile_of, field_fault, changer_stepped, stepped, performed}

fault_of_move : (p : Profile) (kind : Kind) (transport source destination : ℕ) (invert : Bool) (bytes : List ℕ)
    → field_fault_by p kind (MoveMedium transport source destination invert) bytes ≡ invalid_where invert
fault_of_move Spec kind transport source destination invert bytes = refl
fault_of_move Hosts kind transport source destination invert bytes = refl

pub move_unrefused : (p : Profile) (kind : Kind) (transport source destination : ℕ) (bytes : List ℕ)
    → field_fault_by p kind (MoveMedium transport source destination false) bytes ≡ None
move_unrefused p kind transport source destination bytes = fault_of_move p kind transport source destination false bytes

after_fields : DeviceView → (stepped_to : DeviceView × Outcome) → Option Condition → DeviceView × Outcome
after_fields device stepped_to o = elim o [ Some condition ↦ (device, refused condition) | None ↦ stepped_to ]

pub unrefused_performed : (device : DeviceView) (r : Request) (bytes : List ℕ) → field_fault device r bytes ≡ None → performed device r bytes ≡ stepped device r bytes
unfolding after_fields
unrefused_performed device r bytes none = ap (after_fields device (stepped device r bytes)) none

pub move_performed : (device : DeviceView) (transport source destination : ℕ) (bytes : List ℕ)
    → performed device (MoveMedium transport source destination false) bytes ≡ stepped device (MoveMedium transport source destination false) bytes
unfolding after_fields
move_performed device transport source destination bytes =
    ap (after_fields device (stepped device (MoveMedium transport source destination false) bytes))
    (fault_of_move (profile_of device) (kind_of device) transport source destination false bytes)

pub inverted_performed : (device : DeviceView) (transport source destination : ℕ) (bytes : List ℕ)
    → performed device (MoveMedium transport source destination true) bytes ≡ (device, refused InvalidFieldInCdb)
unfolding after_fields
inverted_performed device transport source destination bytes =
    ap (after_fields device (stepped device (MoveMedium transport source destination true) bytes))
    (fault_of_move (profile_of device) (kind_of device) transport source destination true bytes)

-- An EXCHANGE MEDIUM of the hosts' profile is refused by its fields where INV1 or INV2 is 1.
hosts_profile : (c : ChangerView) (h : HostChanger) → c.hosts ≡ Some h → profile_of (Changer c) ≡ Hosts
unfolding profile_of
hosts_profile c h is = ap (λ (o : Option HostChanger). profile_by (option_map (λ (x : HostChanger). x.identity) o)) is

pub exchange_fault : (c : ChangerView) (h : HostChanger) (transport source first second : ℕ) (inv1 inv2 : Bool) (bytes : List ℕ) → c.hosts ≡ Some h
    → field_fault (Changer c) (Host (ExchangeMedium transport source first second inv1 inv2)) bytes ≡ invalid_where (inv1 || inv2)
exchange_fault c h transport source first second inv1 inv2 bytes is =
    ap (λ (p : Profile). field_fault_by p changer_kind (Host (ExchangeMedium transport source first second inv1 inv2)) bytes) (hosts_profile c h is)

pub inverted_exchange : (c : ChangerView) (h : HostChanger) (transport source first second : ℕ) (inv1 inv2 : Bool) (bytes : List ℕ) → c.hosts ≡ Some h
    → (inv1 || inv2) ≡ true → performed (Changer c) (Host (ExchangeMedium transport source first second inv1 inv2)) bytes ≡ (Changer c, refused InvalidFieldInCdb)
unfolding after_fields
inverted_exchange c h transport source first second inv1 inv2 bytes is inverted =
    ap (after_fields (Changer c) (stepped (Changer c) (Host (ExchangeMedium transport source first second inv1 inv2)) bytes))
    (exchange_fault c h transport source first second inv1 inv2 bytes is ∙ ap invalid_where inverted)

pub exchange_performed : (c : ChangerView) (h : HostChanger) (transport source first second : ℕ) (bytes : List ℕ) → c.hosts ≡ Some h
    → performed (Changer c) (Host (ExchangeMedium transport source first second false false)) bytes
    ≡ (let step = host_exchanged c h source first second (exchange_refusal c.elements transport source first second) in (Changer step.0, step.1))
exchange_performed c h transport source first second bytes is =
    unrefused_performed (Changer c) (Host (ExchangeMedium transport source first second false false)) bytes (exchange_fault c h transport source first second false false bytes is)
    ∙ ap (λ (o : Option HostChanger). let step = changer_stepped o c (Host (ExchangeMedium transport source first second false false)) bytes in (Changer step.0, step.1)) is

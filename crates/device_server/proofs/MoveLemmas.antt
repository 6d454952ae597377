-- A changer through each of its commands, and a move of one volume.
use Rattle.std.proofs.Common.{◌≡◌, ℕ, Bool, true, false, List, inl, inr, Option, Some, None, Result, Ok, Err, unwrap_or, refl, sym, ap, ◌∙◌, subst}
use Rattle.std.specs.Prelude.{cond, ◌≢◌}
use Rattle.scsi_cdb.specs.declared.host_request.HostRequest.{HostRequest}
use Rattle.scsi_cdb.specs.declared.host_request.HostRequest.TheVariants as host
use Rattle.scsi_cdb.specs.declared.request.Request.{Request}
use Rattle.scsi_cdb.specs.declared.request.Request.TheVariants as request
use Rattle.scsi_sense.specs.declared.condition.Condition.{Condition}
use Rattle.scsi_sense.specs.declared.condition.Condition.TheVariants.{InitializingCommandRequired, InvalidCommandOperationCode, InvalidFieldInCdb}
use Rattle.scsi_sense.specs.declared.status.Status.TheVariants.{Good, CheckCondition}
use Rattle.tape_medium.specs.declared.elements.MapFault.{MapFault}
use Rattle.tape_medium.specs.declared.volume.Volume.{Volume}
use Rattle.tape_medium.specs.Elements.{Elements, Element, Transport, DataTransfer, ImportExport, Storage, Nowhere, is_among, first_data_transfer, first_import_export, first_storage, element_at, held_in, holding, moved, move_refusal}
use Rattle.tape_medium.specs.Elements as elements
use Rattle.tape_medium.proofs.VolumeLemmas.{keeps_all}
use Rattle.tape_medium.proofs.ElementLemmas.{element_at-holding, held_in-holding}
use Rattle.element_map.specs.Exchange.{exchange_refusal, exchanges}
use Rattle.device_server.specs.declared.host_changer.HostChanger.{HostChanger}
use Rattle.device_server.specs.declared.host_drive.HostDrive.{HostDrive}
use Rattle.device_server.specs.declared.outcome.Outcome.{Outcome}
use Rattle.device_server.specs.Outcomes.{refused}
use Rattle.device_server.specs.Drive.{DriveView, in_volume, in_bay}
use Rattle.device_server.specs.Changer.{moved_alone, carried, changer_step}
use Rattle.device_server.specs.HostChanger.{ChangerView, spec_changer, sources_exchanged, host_moved_alone, host_carried, host_exchanged_alone, host_exchanged, changer_command_step, host_changer_step}
use Rattle.device_server.specs.HostDrive.{not_ready, host_on_tape, host_in_volume, host_in_bay}
use Rattle.device_server.specs.View.{DeviceView, Drive, Changer, field_fault, drive_stepped, changer_stepped, stepped}
use Rattle.device_server.specs.Volumes.{Carries, Exchanges, is_move, MovesNothing, ChangersStay, MovesCarryOne, ExchangesCarryTwo}
use Rattle.device_server.proofs.FieldLemmas.{move_performed, inverted_performed}
use Rattle.device_server.proofs.ExchangeLemmas.{Crosses, crosses}
use Rattle.device_server.proofs.PlaceLemmas.{IsSet, sets}
use Rattle.device_server.proofs.SameDevice.{host_carried_elements}

-- COMMANDS OF A CHANGER

-- whether a step leaves the changer, where no volume is moved
abbrev Stays : Elements → Request → Elements × Outcome → Type 0
Stays e r x = MovesNothing r x.1 → x.0 ≡ e

moved_stays : (e : Elements) (r : Request) (result : Result Elements MapFault) → is_move r ≡ true → Stays e r (moved_alone e result)
moved_stays e r (Ok after) move nothing = elim nothing [ inl none ↦ absurd cc | inr failed ↦ absurd (failed refl) ]
moved_stays e r (Err fault) move nothing = refl

carried_stays : (e : Elements) (r : Request) (source destination : ℕ) (o : Option MapFault) → is_move r ≡ true → Stays e r (carried e source destination o)
carried_stays e r source destination (Some fault) move nothing = refl
carried_stays e r source destination None move nothing = moved_stays e r (elements.moves e source destination) move nothing

changer_stays : (e : Elements) (r : Request) → Stays e r (changer_step e r)
changer_stays e (request.MoveMedium transport source destination invert) =
    carried_stays e (request.MoveMedium transport source destination invert) source destination (move_refusal e transport source destination) refl
changer_stays e r = λ nothing. refl

-- of the hosts' profile
HostStays : ChangerView → Request → ChangerView × Outcome → Type 0
HostStays c r x = MovesNothing r x.1 → x.0 ≡ c

host_moved_stays : (c : ChangerView) (h : HostChanger) (r : Request) (source destination : ℕ) (result : Result Elements MapFault) → is_move r ≡ true
    → HostStays c r (host_moved_alone c h source destination result)
unfolding HostStays
host_moved_stays c h r source destination (Ok after) move nothing = elim nothing [ inl none ↦ absurd cc | inr failed ↦ absurd (failed refl) ]
host_moved_stays c h r source destination (Err fault) move nothing = refl

host_carried_stays : (c : ChangerView) (h : HostChanger) (r : Request) (source destination : ℕ) (o : Option MapFault) → is_move r ≡ true
    → HostStays c r (host_carried c h source destination o)
unfolding HostStays
host_carried_stays c h r source destination (Some fault) move nothing = refl
host_carried_stays c h r source destination None move nothing = host_moved_stays c h r source destination (elements.moves c.elements source destination) move nothing

host_exchanged_stays : (c : ChangerView) (h : HostChanger) (r : Request) (source first second : ℕ) (result : Result Elements MapFault) → is_move r ≡ true
    → HostStays c r (host_exchanged_alone c h source first second result)
unfolding HostStays
host_exchanged_stays c h r source first second (Ok after) move nothing = elim nothing [ inl none ↦ absurd cc | inr failed ↦ absurd (failed refl) ]
host_exchanged_stays c h r source first second (Err fault) move nothing = refl

host_exchange_stays : (c : ChangerView) (h : HostChanger) (r : Request) (source first second : ℕ) (o : Option MapFault) → is_move r ≡ true
    → HostStays c r (host_exchanged c h source first second o)
unfolding HostStays
host_exchange_stays c h r source first second (Some fault) move nothing = refl
host_exchange_stays c h r source first second None move nothing = host_exchanged_stays c h r source first second (exchanges c.elements source first second) move nothing

command_stays : (c : ChangerView) (h : HostChanger) (command : HostRequest) (bytes : List ℕ) → HostStays c (request.Host command) (changer_command_step c h command bytes)
unfolding HostStays
command_stays c h (host.ExchangeMedium transport source first second inv1 inv2) bytes =
    host_exchange_stays c h (request.Host (host.ExchangeMedium transport source first second inv1 inv2)) source first second
    (exchange_refusal c.elements transport source first second) refl
command_stays c h command bytes = λ nothing. refl

host_changer_stays : (c : ChangerView) (h : HostChanger) (r : Request) (bytes : List ℕ) → HostStays c r (host_changer_step c h r bytes)
unfolding HostStays
host_changer_stays c h (request.MoveMedium transport source destination invert) bytes =
    host_carried_stays c h (request.MoveMedium transport source destination invert) source destination (move_refusal c.elements transport source destination) refl
host_changer_stays c h (request.Host command) bytes = command_stays c h command bytes
host_changer_stays c h r bytes = λ nothing. refl

stepped_stays : (c : ChangerView) (o : Option HostChanger) (r : Request) (bytes : List ℕ) → HostStays c r (changer_stepped o c r bytes)
unfolding HostStays
stepped_stays c None r bytes = λ nothing. ap (λ (e : Elements). record c { elements = e }) (changer_stays c.elements r nothing)
stepped_stays c (Some h) r bytes = host_changer_stays c h r bytes

pub changers_stay : ChangersStay
unfolding HostStays
changers_stay (Drive d) r bytes k nothing = absurd cc
changers_stay (Changer c) r bytes k nothing =
    (elim (field_fault (Changer c) r bytes) as (λ (o : Option Condition). let step : DeviceView × Outcome = elim o [ Some condition ↦ (Changer c, refused condition) | None ↦ stepped (Changer c) r bytes ] in MovesNothing r step.1 → step.0 ≡ Changer c) [
      | Some condition ↦ λ none. refl
      | None ↦ λ none. ap Changer (stepped_stays c c.hosts r bytes none)
    ]) nothing

-- A MOVE

-- a full place isn't an empty one
apart : (e : Elements) (source destination : ℕ) (v : Volume) → held_in e (element_at e source) ≡ Some (Some v) → held_in e (element_at e destination) ≡ Some None → source ≢ destination
apart e source destination v full empty same =
    let one : held_in e (element_at e source) ≡ held_in e (element_at e destination) = ap (λ place. held_in e (element_at e place)) same in
    cc

carried_one : (e : Elements) (source destination : ℕ) (held there : Option (Option Volume)) → held_in e (element_at e source) ≡ held → held_in e (element_at e destination) ≡ there
    → (moved_alone e (moved e (element_at e source) held (element_at e destination) there)).1.status ≡ Good
    → Carries (Changer (spec_changer e)) (Changer (spec_changer (moved_alone e (moved e (element_at e source) held (element_at e destination) there)).0)) source destination
carried_one e source destination None there is_held is_there good = absurd cc
carried_one e source destination (Some None) None is_held is_there good = absurd cc
carried_one e source destination (Some (Some v)) None is_held is_there good = absurd cc
carried_one e source destination (Some None) (Some other) is_held is_there good = absurd cc
carried_one e source destination (Some (Some v)) (Some (Some w)) is_held is_there good = absurd cc
carried_one e source destination (Some (Some v)) (Some None) is_held is_there good =
    let from = element_at e source in
    let to = element_at e destination in
    let between = holding e from None in
    let named = element_at-holding e from None destination in
    let still : held_in between (element_at between destination) ≡ Some None = ap (held_in between) named ∙ held_in-holding e from to is_there in
    let first = sets e source (Some v) None is_held in
    let second = subst (λ (x : Element). IsSet between (holding between x (Some v)) destination (Some v)) named (sets between destination None (Some v) still) in
    record {
      volume = v;
      full = ap (λ x. unwrap_or x None) is_held;
      empty = ap (λ x. unwrap_or x None) is_there;
      left = second.others source (apart e source destination v is_held is_there) ∙ first.here;
      there = second.here;
      others = λ other not_source not_destination. second.others other not_destination ∙ first.others other not_source;
      all = keeps_all e (holding between to (Some v)) source destination (ap (λ held. moved e from held to (held_in e to)) is_held ∙ ap (λ place. moved e from (Some (Some v)) to place) is_there);
    }

carries_where : (e : Elements) (source destination : ℕ) (o : Option MapFault) → (carried e source destination o).1.status ≡ Good
    → Carries (Changer (spec_changer e)) (Changer (spec_changer (carried e source destination o).0)) source destination
carries_where e source destination (Some fault) good = absurd cc
carries_where e source destination None good =
    carried_one e source destination (held_in e (element_at e source)) (held_in e (element_at e destination)) refl refl good

-- a changer with these elements, whatever it keeps besides
carries_besides : (c after : ChangerView) (source destination : ℕ) → Carries (Changer (spec_changer c.elements)) (Changer (spec_changer after.elements)) source destination
    → Carries (Changer c) (Changer after) source destination
carries_besides c after source destination h =
    record { volume = h.volume; full = h.full; empty = h.empty; left = h.left; there = h.there; others = h.others; all = h.all }

carries_to : (c : ChangerView) (x : ChangerView × Outcome) (source destination : ℕ) (o : Option MapFault)
    → x.0.elements ≡ (carried c.elements source destination o).0 → x.1 ≡ (carried c.elements source destination o).1 → x.1.status ≡ Good
    → Carries (Changer c) (Changer x.0) source destination
carries_to c x source destination o same ends good =
    carries_besides c x.0 source destination
    (subst (λ (e : Elements). Carries (Changer (spec_changer c.elements)) (Changer (spec_changer e)) source destination) (sym same)
    (carries_where c.elements source destination o (sym (ap (λ (end : Outcome). end.status) ends) ∙ good)))

-- a move of the hosts' profile leaves the elements of the default one, and ends alike
host_moved_alike : (c : ChangerView) (h : HostChanger) (source destination : ℕ) (result : Result Elements MapFault)
    → (host_moved_alone c h source destination result).1 ≡ (moved_alone c.elements result).1
host_moved_alike c h source destination (Ok after) = refl
host_moved_alike c h source destination (Err fault) = refl

pub host_carried_alike : (c : ChangerView) (h : HostChanger) (source destination : ℕ) (o : Option MapFault)
    → (host_carried c h source destination o).1 ≡ (carried c.elements source destination o).1
host_carried_alike c h source destination (Some fault) = refl
host_carried_alike c h source destination None = host_moved_alike c h source destination (elements.moves c.elements source destination)

stepped_carries : (c : ChangerView) (o : Option HostChanger) (transport source destination : ℕ) (bytes : List ℕ)
    → (changer_stepped o c (request.MoveMedium transport source destination false) bytes).1.status ≡ Good
    → Carries (Changer c) (Changer (changer_stepped o c (request.MoveMedium transport source destination false) bytes).0) source destination
stepped_carries c None transport source destination bytes good =
    carries_to c (changer_stepped None c (request.MoveMedium transport source destination false) bytes) source destination
    (move_refusal c.elements transport source destination) refl refl good
stepped_carries c (Some h) transport source destination bytes good =
    let o = move_refusal c.elements transport source destination in
    carries_to c (host_carried c h source destination o) source destination o (host_carried_elements c h source destination o)
    (host_carried_alike c h source destination o) good

-- a drive has no MOVE MEDIUM
ready_fails : (d : DriveView) (v : Volume) (ready : Bool) → (cond ready (in_volume d v (v.tape, refused InvalidCommandOperationCode)) (d, refused InitializingCommandRequired)).1.status ≢ Good
ready_fails d v true good = cc
ready_fails d v false good = cc

bay_fails : (d : DriveView) (o : Option Volume) (transport source destination : ℕ) (bytes : List ℕ) → (in_bay d o (request.MoveMedium transport source destination false) bytes).1.status ≢ Good
bay_fails d None transport source destination bytes good = cc
bay_fails d (Some v) transport source destination bytes good = ready_fails d v d.loaded good

host_ready_fails : (ready : Bool) (x : DriveView × Outcome) (d : DriveView) (held : Bool) → x.1.status ≢ Good → (cond ready x (d, refused (not_ready held))).1.status ≢ Good
host_ready_fails true x d held fails good = fails good
host_ready_fails false x d held fails good = cc

check_fails : CheckCondition ≢ Good
check_fails e = cc

host_bay_fails : (d : DriveView) (h : HostDrive) (o : Option Volume) (transport source destination : ℕ) (bytes : List ℕ)
    → (host_in_bay d h o (request.MoveMedium transport source destination false) bytes).1.status ≢ Good
host_bay_fails d h None transport source destination bytes good = cc
host_bay_fails d h (Some v) transport source destination bytes good =
    let r : Request = request.MoveMedium transport source destination false in
    host_ready_fails d.loaded (host_in_volume d h v r (host_on_tape d.block_length v.protected v.tape r bytes)) d h.held check_fails good

drive_fails : (d : DriveView) (o : Option HostDrive) (transport source destination : ℕ) (bytes : List ℕ)
    → (drive_stepped o d (request.MoveMedium transport source destination false) bytes).1.status ≢ Good
drive_fails d None transport source destination bytes good = bay_fails d d.bay transport source destination bytes good
drive_fails d (Some h) transport source destination bytes good = host_bay_fails d h d.bay transport source destination bytes good

-- BY THE FIELDS
abbrev CarriesIf : DeviceView → (source destination : ℕ) → DeviceView × Outcome → Type 0
CarriesIf d source destination x = x.1.status ≡ Good → Carries d x.0 source destination

stepped_carry : (d : DeviceView) (transport source destination : ℕ) (bytes : List ℕ) → CarriesIf d source destination (stepped d (request.MoveMedium transport source destination false) bytes)
stepped_carry (Drive d) transport source destination bytes good = absurd (drive_fails d d.hosts transport source destination bytes good)
stepped_carry (Changer c) transport source destination bytes good = stepped_carries c c.hosts transport source destination bytes good

refused_carry : (d : DeviceView) (source destination : ℕ) → CarriesIf d source destination (d, refused InvalidFieldInCdb)
refused_carry d source destination good = absurd (check_fails good)

pub moves_carry_one : MovesCarryOne
moves_carry_one d transport source destination true bytes =
    subst (CarriesIf d source destination) (sym (inverted_performed d transport source destination bytes)) (refused_carry d source destination)
moves_carry_one d transport source destination false bytes =
    subst (CarriesIf d source destination) (sym (move_performed d transport source destination bytes)) (stepped_carry d transport source destination bytes)

-- AN EXCHANGE

bay_has_none : (d : DriveView) (o : Option Volume) (transport source first second : ℕ) (inv1 inv2 : Bool) (bytes : List ℕ)
    → (in_bay d o (request.Host (host.ExchangeMedium transport source first second inv1 inv2)) bytes).1.status ≢ Good
bay_has_none d None transport source first second inv1 inv2 bytes good = cc
bay_has_none d (Some v) transport source first second inv1 inv2 bytes good = ready_fails d v d.loaded good

-- a changer with these elements, whatever it keeps besides
exchanges_besides : (c after : ChangerView) (source first second : ℕ) → Crosses c.elements after.elements source first second
    → Exchanges (Changer c) (Changer after) source first second
exchanges_besides c after source first second x = record {
  one = x.one;
  other = x.other;
  apart = (x.not_source, x.not_first);
  full = x.full;
  first_full = x.first_full;
  empty = x.empty;
  left = x.left;
  first_there = x.first_there;
  there = x.there;
  others = x.others;
  all = x.all;
}

exchanged_alone_carries : (c : ChangerView) (h : HostChanger) (source first second : ℕ) (r : Result Elements MapFault) → exchanges c.elements source first second ≡ r
    → (host_exchanged_alone c h source first second r).1.status ≡ Good → Exchanges (Changer c) (Changer (host_exchanged_alone c h source first second r).0) source first second
exchanged_alone_carries c h source first second (Err fault) is good = absurd (check_fails good)
exchanged_alone_carries c h source first second (Ok after) is good =
    exchanges_besides c (record { elements = after; hosts = Some (sources_exchanged h source first second) }) source first second (crosses c.elements after source first second is)

exchanged_carries : (c : ChangerView) (h : HostChanger) (source first second : ℕ) (o : Option MapFault)
    → (host_exchanged c h source first second o).1.status ≡ Good → Exchanges (Changer c) (Changer (host_exchanged c h source first second o).0) source first second
exchanged_carries c h source first second (Some fault) good = absurd (check_fails good)
exchanged_carries c h source first second None good = exchanged_alone_carries c h source first second (exchanges c.elements source first second) refl good

stepped_exchanges : (c : ChangerView) (o : Option HostChanger) (transport source first second : ℕ) (inv1 inv2 : Bool) (bytes : List ℕ)
    → (changer_stepped o c (request.Host (host.ExchangeMedium transport source first second inv1 inv2)) bytes).1.status ≡ Good
    → Exchanges (Changer c) (Changer (changer_stepped o c (request.Host (host.ExchangeMedium transport source first second inv1 inv2)) bytes).0) source first second
stepped_exchanges c None transport source first second inv1 inv2 bytes good = absurd (check_fails good)
stepped_exchanges c (Some h) transport source first second inv1 inv2 bytes good =
    exchanged_carries c h source first second (exchange_refusal c.elements transport source first second) good

-- a drive has no EXCHANGE MEDIUM
drive_has_none : (d : DriveView) (o : Option HostDrive) (transport source first second : ℕ) (inv1 inv2 : Bool) (bytes : List ℕ)
    → (drive_stepped o d (request.Host (host.ExchangeMedium transport source first second inv1 inv2)) bytes).1.status ≢ Good
drive_has_none d None transport source first second inv1 inv2 bytes good = bay_has_none d d.bay transport source first second inv1 inv2 bytes good
drive_has_none d (Some h) transport source first second inv1 inv2 bytes good = check_fails good

abbrev ExchangesIf : DeviceView → (source first second : ℕ) → DeviceView × Outcome → Type 0
ExchangesIf d source first second x = x.1.status ≡ Good → Exchanges d x.0 source first second

stepped_exchange : (d : DeviceView) (transport source first second : ℕ) (inv1 inv2 : Bool) (bytes : List ℕ)
    → ExchangesIf d source first second (stepped d (request.Host (host.ExchangeMedium transport source first second inv1 inv2)) bytes)
stepped_exchange (Drive d) transport source first second inv1 inv2 bytes good = absurd (drive_has_none d d.hosts transport source first second inv1 inv2 bytes good)
stepped_exchange (Changer c) transport source first second inv1 inv2 bytes good = stepped_exchanges c c.hosts transport source first second inv1 inv2 bytes good

pub exchanges_carry_two : ExchangesCarryTwo
exchanges_carry_two d transport source first second inv1 inv2 bytes =
    let r : Request = request.Host (host.ExchangeMedium transport source first second inv1 inv2) in
    elim (field_fault d r bytes) as (λ (o : Option Condition). let step : DeviceView × Outcome = elim o [ Some condition ↦ (d, refused condition) | None ↦ stepped d r bytes ] in ExchangesIf d source first second step) [
      | Some condition ↦ λ good. absurd (check_fails good)
      | None ↦ stepped_exchange d transport source first second inv1 inv2 bytes
    ]

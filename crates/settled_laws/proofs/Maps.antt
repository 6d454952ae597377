-- Elements as if no object of any tape counted as unchanged: the same places, tags and refusals, and after each call again such elements.
use Rattle.std.proofs.Common.{◌≡◌, ℕ, ◌==◌, Bool, List, [], ◌∷◌, length, get_or, map, Option, Some, None, is_some, Result, Ok, Err, refl, sym, ap}
use Rattle.std.proofs.Common.{◌∙◌, if◌then◌else◌, ◌-◌, ◌&&◌}
use Rattle.std.proofs.lemmas.List.{length-map, map-set}
use Rattle.std.proofs.Math.ListN.{get_or-map}
use Rattle.std.specs.Option.{option_map}
use Rattle.tape_medium.specs.declared.volume.Volume.{Volume}
use Rattle.tape_medium.specs.declared.volume.VolumeTag.{VolumeTag}
use Rattle.tape_medium.specs.declared.elements.MapFault.{MapFault}
use Rattle.tape_medium.specs.declared.elements.MapFault.TheVariants.{BadAddress}
use Rattle.tape_medium.specs.Elements.{Elements, Element, Transport, DataTransfer, ImportExport, Storage, Nowhere, element_at, is_among}
use Rattle.tape_medium.specs.Elements.{first_data_transfer, first_import_export, first_storage, tag_of, tag_in, tag_held, held_in, holding}
use Rattle.tape_medium.specs.Elements.{moved, refusal, move_refusal, moves, taken, takes, put, puts}
use Rattle.tape_medium.specs.ElementStatus.{element_status}
use Rattle.tape_medium.specs.Settling.{settled_to, unsettled_place, unsettled_elements}
use Rattle.element_map.specs.Exchange.{fullness, is_exchange, exchange_refused, exchange_refusal, second_put, both_put, first_taken, exchanges}
use Rattle.inquiry_data.specs.declared.library_number.LibraryNumber.{LibraryNumber}
use Rattle.element_sources.specs.HostStatus.{host_status}
use Rattle.element_sources.specs.Sources.{Sources}
use Rattle.element_sources.specs.declared.status_request.StatusRequest.{StatusRequest}
use Rattle.device_server.specs.Changer.{changer_mode_data}
use Rattle.device_server.specs.HostChanger.{addresses_of, can_hold}

-- PLACES

pub place_twice : (p : Option Volume) → unsettled_place (unsettled_place p) ≡ unsettled_place p
place_twice None = refl
place_twice (Some v) = refl

places_twice : (ps : List (Option Volume)) → map unsettled_place (map unsettled_place ps) ≡ map unsettled_place ps
places_twice [] = refl
places_twice (None ∷ ps) = ap (λ (qs : List (Option Volume)). None ∷ qs) (places_twice ps)
places_twice (Some v ∷ ps) = ap (λ (qs : List (Option Volume)). Some (settled_to 0 v) ∷ qs) (places_twice ps)

same_tag : (p : Option Volume) → tag_of (unsettled_place p) ≡ tag_of p
same_tag None = refl
same_tag (Some v) = refl

same_tags : (ps : List (Option Volume)) → map tag_of (map unsettled_place ps) ≡ map tag_of ps
same_tags [] = refl
same_tags (None ∷ ps) = ap (λ (ts : List (Option VolumeTag)). None ∷ ts) (same_tags ps)
same_tags (Some v ∷ ps) = ap (λ (ts : List (Option VolumeTag)). Some v.tag ∷ ts) (same_tags ps)

-- ELEMENTS

elements_of : List (Option VolumeTag) → (import_export storage : List (Option Volume)) → Elements
elements_of marks import_export storage = record { data_transfer = marks; import_export = import_export; storage = storage }

pub elements_twice : (e : Elements) → unsettled_elements (unsettled_elements e) ≡ unsettled_elements e
unfolding elements_of
elements_twice e =
    ap (λ (ps : List (Option Volume)). elements_of e.data_transfer ps (map unsettled_place (map unsettled_place e.storage)))
    (places_twice e.import_export)
    ∙ ap (λ (ps : List (Option Volume)). elements_of e.data_transfer (map unsettled_place e.import_export) ps) (places_twice e.storage)

-- which element an address names is a matter of how many there are
abbrev element_among : (drives import_exports slots address : ℕ) → Element
element_among drives import_exports slots address =
    if address == 0 then Transport
    else if is_among first_data_transfer drives address then DataTransfer (address - first_data_transfer)
    else if is_among first_import_export import_exports address then ImportExport (address - first_import_export)
    else if is_among first_storage slots address then Storage (address - first_storage)
    else Nowhere

pub same_element : (e : Elements) (address : ℕ) → element_at (unsettled_elements e) address ≡ element_at e address
same_element e address =
    ap (λ (n : ℕ). element_among (length e.data_transfer) n (length (map unsettled_place e.storage)) address)
    (length-map e.import_export unsettled_place)
    ∙ ap (λ (n : ℕ). element_among (length e.data_transfer) (length e.import_export) n address) (length-map e.storage unsettled_place)

pub same_mode_data : (e : Elements) → changer_mode_data (unsettled_elements e) ≡ changer_mode_data e
same_mode_data e = let import_exports = length-map e.import_export unsettled_place in let slots =
    length-map e.storage unsettled_place in rw (import_exports, slots) refl

pub same_status : (e : Elements) (type_code start count : ℕ) (voltag : Bool)
    → element_status (unsettled_elements e) type_code start count voltag ≡ element_status e type_code start count voltag
same_status e type_code start count voltag =
    let import_exports = same_tags e.import_export in let slots = same_tags e.storage in rw (import_exports, slots) refl

-- and of the hosts' profile
pub same_addresses : (e : Elements) → addresses_of (unsettled_elements e) ≡ addresses_of e
same_addresses e = let import_exports = length-map e.import_export unsettled_place in let slots =
    length-map e.storage unsettled_place in rw (import_exports, slots) refl

pub same_host_status : (e : Elements) (sources : Sources) (library : LibraryNumber) (asked : StatusRequest)
    → host_status (unsettled_elements e) sources library asked ≡ host_status e sources library asked
same_host_status e sources library asked =
    let import_exports = same_tags e.import_export in let slots = same_tags e.storage in rw (import_exports, slots) refl

-- what an element has

pub same_tag_in : (e : Elements) (at : Element) → tag_in (unsettled_elements e) at ≡ tag_in e at
same_tag_in e Transport = refl
same_tag_in e (DataTransfer i) = refl
same_tag_in e (ImportExport i) =
    ap (λ (p : Option Volume). Ok (tag_of p)) (get_or-map unsettled_place e.import_export i None)
    ∙ ap (λ (t : Option VolumeTag). Ok t) (same_tag (get_or e.import_export i None))
same_tag_in e (Storage i) =
    ap (λ (p : Option Volume). Ok (tag_of p)) (get_or-map unsettled_place e.storage i None)
    ∙ ap (λ (t : Option VolumeTag). Ok t) (same_tag (get_or e.storage i None))
same_tag_in e Nowhere = refl

same_tag_held : (e : Elements) (at : Element) → tag_held (unsettled_elements e) at ≡ tag_held e at
same_tag_held e Transport = refl
same_tag_held e (DataTransfer i) = refl
same_tag_held e (ImportExport i) =
    ap (λ (p : Option Volume). Some (tag_of p)) (get_or-map unsettled_place e.import_export i None)
    ∙ ap (λ (t : Option VolumeTag). Some t) (same_tag (get_or e.import_export i None))
same_tag_held e (Storage i) =
    ap (λ (p : Option Volume). Some (tag_of p)) (get_or-map unsettled_place e.storage i None)
    ∙ ap (λ (t : Option VolumeTag). Some t) (same_tag (get_or e.storage i None))
same_tag_held e Nowhere = refl

pub same_held : (e : Elements) (at : Element) → held_in (unsettled_elements e) at ≡ option_map unsettled_place (held_in e at)
same_held e Transport = refl
same_held e (DataTransfer i) = refl
same_held e (ImportExport i) = ap (λ (p : Option Volume). Some p) (get_or-map unsettled_place e.import_export i None)
same_held e (Storage i) = ap (λ (p : Option Volume). Some p) (get_or-map unsettled_place e.storage i None)
same_held e Nowhere = refl

pub same_holding : (e : Elements) (at : Element) (p : Option Volume)
    → unsettled_elements (holding e at p) ≡ holding (unsettled_elements e) at (unsettled_place p)
unfolding elements_of
same_holding e Transport p = refl
same_holding e (DataTransfer i) p = refl
same_holding e (ImportExport i) p =
    ap (λ (ps : List (Option Volume)). elements_of e.data_transfer ps (map unsettled_place e.storage))
    (map-set unsettled_place e.import_export i p)
same_holding e (Storage i) p =
    ap (λ (ps : List (Option Volume)). elements_of e.data_transfer (map unsettled_place e.import_export) ps)
    (map-set unsettled_place e.storage i p)
same_holding e Nowhere p = refl

pub same_can_hold : (e : Elements) (address : ℕ) → can_hold (unsettled_elements e) address ≡ can_hold e address
same_can_hold e address =
    ap (λ (held : Option (Option VolumeTag)). is_some held)
    (ap (λ (at : Element). tag_held (unsettled_elements e) at) (same_element e address) ∙ same_tag_held e (element_at e address))

pub same_refusal : (e : Elements) (transport source destination : ℕ)
    → move_refusal (unsettled_elements e) transport source destination ≡ move_refusal e transport source destination
same_refusal e transport source destination =
    let from : tag_held (unsettled_elements e) (element_at (unsettled_elements e) source) ≡ tag_held e (element_at e source) =
    ap (λ (at : Element). tag_held (unsettled_elements e) at) (same_element e source) ∙ same_tag_held e (element_at e source) in
    let to : tag_held (unsettled_elements e) (element_at (unsettled_elements e) destination) ≡ tag_held e (element_at e destination) =
    ap (λ (at : Element). tag_held (unsettled_elements e) at) (same_element e destination) ∙ same_tag_held e (element_at e destination) in
    let refused_by : Option (Option VolumeTag) → Option (Option VolumeTag) → Option MapFault =
    λ a b. if transport == 0 then refusal a b else Some BadAddress in
    ap (λ (a : Option (Option VolumeTag)).
    refused_by a (tag_held (unsettled_elements e) (element_at (unsettled_elements e) destination))) from
    ∙ ap (λ (b : Option (Option VolumeTag)). refused_by (tag_held e (element_at e source)) b) to

same_fullness : (e : Elements) (address : ℕ) → fullness (unsettled_elements e) address ≡ fullness e address
same_fullness e address =
    ap (λ (held : Option (Option VolumeTag)). option_map is_some held)
    (ap (λ (at : Element). tag_held (unsettled_elements e) at) (same_element e address) ∙ same_tag_held e (element_at e address))

pub same_exchange_refusal : (e : Elements) (transport source first second : ℕ)
    → exchange_refusal (unsettled_elements e) transport source first second ≡ exchange_refusal e transport source first second
same_exchange_refusal e transport source first second =
    let u = unsettled_elements e in
    let refused_by : Option Bool → Option Bool → Option Bool → Option MapFault =
    λ a b c. if transport == 0 && is_exchange e source first second then exchange_refused a b c (source == second) else Some BadAddress in
    ap (λ (a : Option Bool). refused_by a (fullness u first) (fullness u second)) (same_fullness e source)
    ∙ ap (λ (b : Option Bool). refused_by (fullness e source) b (fullness u second)) (same_fullness e first)
    ∙ ap (λ (c : Option Bool). refused_by (fullness e source) (fullness e first) c) (same_fullness e second)

-- CALLS: what they leave is the same as if no object counted as unchanged

abbrev pub of_result : {A : Type 0} → (A → A) → Result A MapFault → Result A MapFault
of_result f (Ok x) = Ok (f x)
of_result f (Err fault) = Err fault

moved_same : (e : Elements) (from : Element) (held : Option (Option Volume)) (to : Element) (there : Option (Option Volume))
    → moved (unsettled_elements e) from (option_map unsettled_place held) to (option_map unsettled_place there)
    ≡ of_result unsettled_elements (moved e from held to there)
moved_same e from None to there = refl
moved_same e from (Some None) to None = refl
moved_same e from (Some (Some v)) to None = refl
moved_same e from (Some None) to (Some there) = refl
moved_same e from (Some (Some v)) to (Some (Some w)) = refl
moved_same e from (Some (Some v)) to (Some None) =
    let first : unsettled_elements (holding e from None) ≡ holding (unsettled_elements e) from None = same_holding e from None in
    let second : unsettled_elements (holding (holding e from None) to (Some v))
    ≡ holding (unsettled_elements (holding e from None)) to (Some (settled_to 0 v)) =
    same_holding (holding e from None) to (Some v) in
    ap (λ (x : Elements). Ok x) (sym (second ∙ ap (λ (x : Elements). holding x to (Some (settled_to 0 v))) first))

pub moves_same : (e : Elements) (source destination : ℕ)
    → moves (unsettled_elements e) source destination ≡ of_result unsettled_elements (moves e source destination)
moves_same e source destination =
    let u = unsettled_elements e in
    let from = same_element e source in
    let to = same_element e destination in
    ap (λ (at : Element). moved u at (held_in u at) (element_at u destination) (held_in u (element_at u destination))) from
    ∙ ap (λ (at : Element). moved u (element_at e source) (held_in u (element_at e source)) at (held_in u at)) to
    ∙ ap (λ (h : Option (Option Volume)). moved u (element_at e source) h (element_at e destination) (held_in u (element_at e destination)))
    (same_held e (element_at e source))
    ∙ ap (λ (h : Option (Option Volume)).
    moved u (element_at e source) (option_map unsettled_place (held_in e (element_at e source))) (element_at e destination) h)
    (same_held e (element_at e destination))
    ∙ moved_same e (element_at e source) (held_in e (element_at e source)) (element_at e destination) (held_in e (element_at e destination))

-- EXCHANGES, by their steps

abbrev of_take : Result (Elements × Volume) MapFault → Result (Elements × Volume) MapFault
of_take (Ok it) = Ok (unsettled_elements it.0, settled_to 0 it.1)
of_take (Err fault) = Err fault

taken_same : (e : Elements) (from : Element) (held : Option (Option Volume))
    → taken (unsettled_elements e) from (option_map unsettled_place held) ≡ of_take (taken e from held)
taken_same e from None = refl
taken_same e from (Some None) = refl
taken_same e from (Some (Some v)) = ap (λ (x : Elements). Ok (x, settled_to 0 v)) (sym (same_holding e from None))

takes_same : (e : Elements) (place : ℕ) → takes (unsettled_elements e) place ≡ of_take (takes e place)
takes_same e place =
    let u = unsettled_elements e in
    ap (λ (at : Element). taken u at (held_in u at)) (same_element e place)
    ∙ ap (taken u (element_at e place)) (same_held e (element_at e place))
    ∙ taken_same e (element_at e place) (held_in e (element_at e place))

put_same : (e : Elements) (to : Element) (v : Volume) (held : Option (Option Volume))
    → put (unsettled_elements e) to (settled_to 0 v) (option_map unsettled_place held) ≡ of_result unsettled_elements (put e to v held)
put_same e to v None = refl
put_same e to v (Some (Some w)) = refl
put_same e to v (Some None) = ap (λ (x : Elements). Ok x) (sym (same_holding e to (Some v)))

puts_same : (e : Elements) (place : ℕ) (v : Volume) → puts (unsettled_elements e) place (settled_to 0 v) ≡ of_result unsettled_elements (puts e place v)
puts_same e place v =
    let u = unsettled_elements e in
    ap (λ (at : Element). put u at (settled_to 0 v) (held_in u at)) (same_element e place)
    ∙ ap (put u (element_at e place) (settled_to 0 v)) (same_held e (element_at e place))
    ∙ put_same e (element_at e place) v (held_in e (element_at e place))

second_same : (second : ℕ) (other : Volume) (r : Result Elements MapFault)
    → second_put second (settled_to 0 other) (of_result unsettled_elements r) ≡ of_result unsettled_elements (second_put second other r)
second_same second other (Ok e) = puts_same e second other
second_same second other (Err fault) = refl

both_same : (first second : ℕ) (one : Volume) (r : Result (Elements × Volume) MapFault)
    → both_put first second (settled_to 0 one) (of_take r) ≡ of_result unsettled_elements (both_put first second one r)
both_same first second one (Ok it) =
    ap (second_put second (settled_to 0 it.1)) (puts_same it.0 first one) ∙ second_same second it.1 (puts it.0 first one)
both_same first second one (Err fault) = refl

first_same : (first second : ℕ) (r : Result (Elements × Volume) MapFault)
    → first_taken first second (of_take r) ≡ of_result unsettled_elements (first_taken first second r)
first_same first second (Ok it) =
    ap (both_put first second (settled_to 0 it.1)) (takes_same it.0 first) ∙ both_same first second it.1 (takes it.0 first)
first_same first second (Err fault) = refl

pub exchanges_same : (e : Elements) (source first second : ℕ)
    → exchanges (unsettled_elements e) source first second ≡ of_result unsettled_elements (exchanges e source first second)
exchanges_same e source first second = ap (first_taken first second) (takes_same e source) ∙ first_same first second (takes e source)

-- EXCHANGE MEDIUM (SMC-3, "EXCHANGE MEDIUM command"): the volume at the first destination goes to the second, and the one at the source to the
-- first. Where the second destination is the source, the two volumes change places.
use Rattle.std.specs.Prelude.{ℕ, ◌==◌, Bool, true, false, ◌&&◌, ◌||◌, not, length, Option, Some, None, is_some, option_map, Result, Ok, Err, if◌then◌else◌}
use Rattle.tape_medium.specs.declared.volume.Volume.{Volume}
use Rattle.tape_medium.specs.declared.elements.MapFault.{MapFault}
use Rattle.tape_medium.specs.declared.elements.MapFault.TheVariants.{BadAddress, SourceEmpty, DestinationFull}
use Rattle.tape_medium.specs.Elements.{Elements, element_at, first_data_transfer, is_among, tag_held, takes, puts}

-- THE ADDRESSES. Whether one is a drive's, and whether two are those of different drives
abbrev pub is_drives : Elements → (address : ℕ) → Bool
is_drives e address = is_among first_data_transfer (length e.data_transfer) address

abbrev pub are_two_drives : Elements → (address other : ℕ) → Bool
are_two_drives e address other = is_drives e address && is_drives e other && not (address == other)

-- the first destination is neither the source nor the second destination, and there are no two drives among the three (profile)
abbrev pub is_exchange : Elements → (source first second : ℕ) → Bool
is_exchange e source first second =
    not (source == first) && not (first == second)
    && not (are_two_drives e source first || are_two_drives e first second || are_two_drives e source second)

-- whether one of three addresses is a drive's
abbrev pub has_drive : Elements → (source first second : ℕ) → Bool
has_drive e source first second = is_drives e source || (is_drives e first || is_drives e second)

-- whether an element is full as far as tags tell, if it can hold a volume
abbrev pub fullness : Elements → (address : ℕ) → Option Bool
fullness e address = option_map is_some (tag_held e (element_at e address))

-- by whether each of the three is full: the second destination may be full where it is the source, which gives up its volume
abbrev pub exchange_refused : (source first second : Option Bool) → (is_swap : Bool) → Option MapFault
exchange_refused None first second is_swap = Some BadAddress
exchange_refused (Some source) None second is_swap = Some BadAddress
exchange_refused (Some source) (Some first) None is_swap = Some BadAddress
exchange_refused (Some false) (Some first) (Some second) is_swap = Some SourceEmpty
exchange_refused (Some true) (Some false) (Some second) is_swap = Some SourceEmpty
exchange_refused (Some true) (Some true) (Some false) is_swap = None
exchange_refused (Some true) (Some true) (Some true) true = None
exchange_refused (Some true) (Some true) (Some true) false = Some DestinationFull

-- why the map and the tags refuse an EXCHANGE MEDIUM, in the order of the tests; the transport is the element 0 (profile)
abbrev pub exchange_refusal : Elements → (transport source first second : ℕ) → Option MapFault
exchange_refusal e transport source first second =
    if transport == 0 && is_exchange e source first second
    then exchange_refused (fullness e source) (fullness e first) (fullness e second) (source == second)
    else Some BadAddress

-- THE VOLUMES, among storage and import/export elements: both are taken out, then both are put in, each by what the call before it left
abbrev pub second_put : (second : ℕ) → (other : Volume) → Result Elements MapFault → Result Elements MapFault
second_put second other (Ok e) = puts e second other
second_put second other (Err fault) = Err fault

abbrev pub both_put : (first second : ℕ) → (one : Volume) → Result (Elements × Volume) MapFault → Result Elements MapFault
both_put first second one (Ok it) = second_put second it.1 (puts it.0 first one)
both_put first second one (Err fault) = Err fault

abbrev pub first_taken : (first second : ℕ) → Result (Elements × Volume) MapFault → Result Elements MapFault
first_taken first second (Ok it) = both_put first second it.1 (takes it.0 first)
first_taken first second (Err fault) = Err fault

abbrev pub exchanges : Elements → (source first second : ℕ) → Result Elements MapFault
exchanges e source first second = first_taken first second (takes e source)

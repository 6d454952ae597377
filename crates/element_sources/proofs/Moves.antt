-- What a move changes of the sources, and what stays known of a volume.
use Rattle.std.proofs.Common.{◌≡◌, ◌≢◌, ℕ, ◌+◌, ◌-◌, ◌<◌, ◌≤◌, ◌==◌, Bool, true, false, if◌then◌else◌, List, [], ◌∷◌, length, Option, Some, None, is_some, IsTrue, refl, ap, sym, subst, ◌∙◌, arith, get_or-set_same, get_or-set_other}
use Rattle.std.proofs.lemmas.Bool.{eqb-true}
use Rattle.std.proofs.lemmas.List.{length-set}
use Rattle.tape_medium.specs.Elements.{is_among}
use Rattle.element_sources.specs.declared.place.Place.{Place}
use Rattle.element_sources.specs.declared.place.Place.TheVariants.{DataTransfer, ImportExport, Storage}
use Rattle.element_sources.specs.Sources.{Sources, place_at, IsPlace, source_at_place, source_at_some, source_at, source_set, last_outside, source_carried, source_moved, sources_crossed, source_exchanged}
use Rattle.element_sources.specs.Journeys.{Move, Carried, Exchanged, Journey, outside_after, arrived, travelled, noted, noted_all, travelled_all, IsCarried, IsExchanged, IsMove, AreMoves, origin_in, origin_at, IsKnown}

-- PLACES

abbrev pub address_of : Place → ℕ
address_of (DataTransfer i) = 0x100 + i
address_of (ImportExport i) = 0x200 + i
address_of (Storage i) = 0x400 + i

abbrev pub chosen : (b1 b2 b3 : Bool) → (address : ℕ) → Option Place
chosen b1 b2 b3 address =
    if b1 then Some (DataTransfer (address - 0x100)) else if b2 then Some (ImportExport (address - 0x200)) else if b3 then Some (Storage (address - 0x400)) else None

pub among_low : (first count address : ℕ) → is_among first count address ≡ true → first ≤ address
among_low first count address is = grind arith

pub among_high : (first count address : ℕ) → is_among first count address ≡ true → address - first < count
among_high first count address is = grind arith

chosen_address : (b1 b2 b3 : Bool) (address : ℕ) (p : Place) → (b1 ≡ true → 0x100 ≤ address) → (b2 ≡ true → 0x200 ≤ address) → (b3 ≡ true → 0x400 ≤ address)
    → chosen b1 b2 b3 address ≡ Some p → address ≡ address_of p
chosen_address true b2 b3 address p h1 h2 h3 is =
    let low : 0x100 ≤ address = h1 refl in
    let same : DataTransfer (address - 0x100) ≡ p = cc in
    let back : address ≡ 0x100 + (address - 0x100) = omega arith in
    back ∙ ap address_of same
chosen_address false true b3 address p h1 h2 h3 is =
    let low : 0x200 ≤ address = h2 refl in
    let same : ImportExport (address - 0x200) ≡ p = cc in
    let back : address ≡ 0x200 + (address - 0x200) = omega arith in
    back ∙ ap address_of same
chosen_address false false true address p h1 h2 h3 is =
    let low : 0x400 ≤ address = h3 refl in
    let same : Storage (address - 0x400) ≡ p = cc in
    let back : address ≡ 0x400 + (address - 0x400) = omega arith in
    back ∙ ap address_of same
chosen_address false false false address p h1 h2 h3 is = cc

pub place_address : (s : Sources) (address : ℕ) (p : Place) → place_at s address ≡ Some p → address ≡ address_of p
place_address s address p is =
    chosen_address (is_among 0x100 (length s.data_transfer) address) (is_among 0x200 (length s.import_export) address) (is_among 0x400 (length s.storage) address) address p
    (among_low 0x100 (length s.data_transfer) address) (among_low 0x200 (length s.import_export) address) (among_low 0x400 (length s.storage) address) is

chosen_within : (s : Sources) (b1 b2 b3 : Bool) (address : ℕ) (p : Place) → (b1 ≡ true → address - 0x100 < length s.data_transfer)
    → (b2 ≡ true → address - 0x200 < length s.import_export) → (b3 ≡ true → address - 0x400 < length s.storage)
    → chosen b1 b2 b3 address ≡ Some p → IsPlace s p
chosen_within s true b2 b3 address p h1 h2 h3 is = let same : DataTransfer (address - 0x100) ≡ p = cc in subst (IsPlace s) same (h1 refl)
chosen_within s false true b3 address p h1 h2 h3 is = let same : ImportExport (address - 0x200) ≡ p = cc in subst (IsPlace s) same (h2 refl)
chosen_within s false false true address p h1 h2 h3 is = let same : Storage (address - 0x400) ≡ p = cc in subst (IsPlace s) same (h3 refl)
chosen_within s false false false address p h1 h2 h3 is = cc

pub place_within : (s : Sources) (address : ℕ) (p : Place) → place_at s address ≡ Some p → IsPlace s p
place_within s address p is =
    chosen_within s (is_among 0x100 (length s.data_transfer) address) (is_among 0x200 (length s.import_export) address) (is_among 0x400 (length s.storage) address) address p
    (among_high 0x100 (length s.data_transfer) address) (among_high 0x200 (length s.import_export) address) (among_high 0x400 (length s.storage) address) is

-- a source that is set leaves the places
pub place_at-source_set : (s : Sources) (p : Place) (x : Option ℕ) (address : ℕ) → place_at (source_set s p x) address ≡ place_at s address
place_at-source_set s (DataTransfer i) x address = simp length-set
place_at-source_set s (ImportExport i) x address = simp length-set
place_at-source_set s (Storage i) x address = simp length-set

pub within-source_set : (s : Sources) (p q : Place) (x : Option ℕ) → IsPlace s q → IsPlace (source_set s p x) q
within-source_set s (DataTransfer i) (DataTransfer k) x is = omega (arith, is, length-set s.data_transfer i x)
within-source_set s (DataTransfer i) (ImportExport k) x is = is
within-source_set s (DataTransfer i) (Storage k) x is = is
within-source_set s (ImportExport i) (DataTransfer k) x is = is
within-source_set s (ImportExport i) (ImportExport k) x is = omega (arith, is, length-set s.import_export i x)
within-source_set s (ImportExport i) (Storage k) x is = is
within-source_set s (Storage i) (DataTransfer k) x is = is
within-source_set s (Storage i) (ImportExport k) x is = is
within-source_set s (Storage i) (Storage k) x is = omega (arith, is, length-set s.storage i x)

-- it is what was set there, and elsewhere as before
pub source-set_same : (s : Sources) (p : Place) (x : Option ℕ) → IsPlace s p → source_at_place (source_set s p x) p ≡ x
source-set_same s (DataTransfer i) x is = let inside : i < length s.data_transfer = is in rw get_or-set_same refl
source-set_same s (ImportExport i) x is = let inside : i < length s.import_export = is in rw get_or-set_same refl
source-set_same s (Storage i) x is = let inside : i < length s.storage = is in rw get_or-set_same refl

pub source-set_other : (s : Sources) (p q : Place) (x : Option ℕ) → address_of q ≢ address_of p → source_at_place (source_set s p x) q ≡ source_at_place s q
source-set_other s (DataTransfer i) (DataTransfer k) x other = let ne : k ≢ i = λ same. other (ap (λ n. 0x100 + n) same) in rw get_or-set_other refl
source-set_other s (DataTransfer i) (ImportExport k) x other = refl
source-set_other s (DataTransfer i) (Storage k) x other = refl
source-set_other s (ImportExport i) (DataTransfer k) x other = refl
source-set_other s (ImportExport i) (ImportExport k) x other = let ne : k ≢ i = λ same. other (ap (λ n. 0x200 + n) same) in rw get_or-set_other refl
source-set_other s (ImportExport i) (Storage k) x other = refl
source-set_other s (Storage i) (DataTransfer k) x other = refl
source-set_other s (Storage i) (ImportExport k) x other = refl
source-set_other s (Storage i) (Storage k) x other = let ne : k ≢ i = λ same. other (ap (λ n. 0x400 + n) same) in rw get_or-set_other refl

-- MOVES

-- a move from place to place
abbrev pub carried : Sources → (source : ℕ) → (from to : Place) → Sources
carried s source from to = source_set (source_set s from None) to (last_outside s source from)

place_at-carried : (s : Sources) (source : ℕ) (from to : Place) (address : ℕ) → place_at (carried s source from to) address ≡ place_at s address
place_at-carried s source from to address =
    place_at-source_set (source_set s from None) to (last_outside s source from) address ∙ place_at-source_set s from None address

carried_other : (s : Sources) (source destination address : ℕ) (from to q : Place) → place_at s source ≡ Some from → place_at s destination ≡ Some to
    → place_at s address ≡ Some q → address ≢ source → address ≢ destination → source_at_place (carried s source from to) q ≡ source_at_place s q
carried_other s source destination address from to q is_from is_to is_q not_source not_destination =
    let own : address ≡ address_of q = place_address s address q is_q in
    let not_from : address_of q ≢ address_of from = λ same. not_source (own ∙ same ∙ sym (place_address s source from is_from)) in
    let not_to : address_of q ≢ address_of to = λ same. not_destination (own ∙ same ∙ sym (place_address s destination to is_to)) in
    source-set_other (source_set s from None) to q (last_outside s source from) not_to ∙ source-set_other s from q None not_from

-- other elements keep their source
others_by : (s : Sources) (source destination address : ℕ) (P Q R : Option Place) → place_at s source ≡ P → place_at s destination ≡ Q → place_at s address ≡ R
    → address ≢ source → address ≢ destination → source_at_some (source_carried s source P Q) R ≡ source_at_some s R
others_by s source destination address None Q R p q r not_source not_destination = refl
others_by s source destination address (Some from) None R p q r not_source not_destination = refl
others_by s source destination address (Some from) (Some to) None p q r not_source not_destination = refl
others_by s source destination address (Some from) (Some to) (Some at) p q r not_source not_destination =
    carried_other s source destination address from to at p q r not_source not_destination

place_at-source_carried : (s : Sources) (source : ℕ) (P Q : Option Place) (address : ℕ) → place_at (source_carried s source P Q) address ≡ place_at s address
place_at-source_carried s source None Q address = refl
place_at-source_carried s source (Some from) None address = refl
place_at-source_carried s source (Some from) (Some to) address = place_at-carried s source from to address

pub place_at-source_moved : (s : Sources) (source destination address : ℕ) → place_at (source_moved s source destination) address ≡ place_at s address
place_at-source_moved s source destination address = place_at-source_carried s source (place_at s source) (place_at s destination) address

pub others_stay : (s : Sources) (source destination address : ℕ) → address ≢ source → address ≢ destination
    → source_at (source_moved s source destination) address ≡ source_at s address
others_stay s source destination address not_source not_destination =
    ap (source_at_some (source_moved s source destination)) (place_at-source_moved s source destination address)
    ∙ others_by s source destination address (place_at s source) (place_at s destination) (place_at s address) refl refl refl not_source not_destination

left_by : (s : Sources) (source destination : ℕ) (P Q : Option Place) → place_at s source ≡ P → place_at s destination ≡ Q → source ≢ destination
    → IsTrue (is_some P) → IsTrue (is_some Q) → source_at_some (source_carried s source P Q) P ≡ None
left_by s source destination None Q p q other is_p is_q = refl
left_by s source destination (Some from) None p q other is_p is_q = cc
left_by s source destination (Some from) (Some to) p q other is_p is_q =
    let not_to : address_of from ≢ address_of to = λ same. other (place_address s source from p ∙ same ∙ sym (place_address s destination to q)) in
    source-set_other (source_set s from None) to from (last_outside s source from) not_to ∙ source-set_same s from None (place_within s source from p)

pub source_is_left : (s : Sources) (source destination : ℕ) → source ≢ destination → IsTrue (is_some (place_at s source)) → IsTrue (is_some (place_at s destination))
    → source_at (source_moved s source destination) source ≡ None
source_is_left s source destination other is_p is_q =
    ap (source_at_some (source_moved s source destination)) (place_at-source_moved s source destination source)
    ∙ left_by s source destination (place_at s source) (place_at s destination) refl refl other is_p is_q

-- JOURNEYS

-- an origin depends on the source at the element alone
origin_by : (s s' : Sources) (address : ℕ) (R : Option Place) → source_at_some s' R ≡ source_at_some s R → origin_in s' address R ≡ origin_in s address R
origin_by s s' address None is = refl
origin_by s s' address (Some (DataTransfer i)) is = is
origin_by s s' address (Some (ImportExport i)) is = refl
origin_by s s' address (Some (Storage i)) is = refl

-- the volume that is moved
arrives : (s : Sources) (source destination outside : ℕ) (from to : Place) → place_at s destination ≡ Some to → last_outside s source from ≡ Some outside
    → origin_in (carried s source from to) destination (Some to) ≡ Some (outside_after (Some to) destination outside)
arrives s source destination outside from (DataTransfer i) q known =
    source-set_same (source_set s from None) (DataTransfer i) (last_outside s source from) (within-source_set s from (DataTransfer i) None (place_within s destination (DataTransfer i) q)) ∙ known
arrives s source destination outside from (ImportExport i) q known = refl
arrives s source destination outside from (Storage i) q known = refl

arrives_by : (s : Sources) (source destination outside : ℕ) (P Q : Option Place) → place_at s source ≡ P → place_at s destination ≡ Q
    → IsTrue (is_some P) → IsTrue (is_some Q) → origin_in s source P ≡ Some outside
    → origin_in (source_carried s source P Q) destination Q ≡ Some (outside_after Q destination outside)
arrives_by s source destination outside None Q p q is_p is_q known = cc
arrives_by s source destination outside (Some from) None p q is_p is_q known = cc
arrives_by s source destination outside (Some from) (Some to) p q is_p is_q known = arrives s source destination outside from to q known

elsewhere : (a b : ℕ) → (a == b) ≡ false → b ≢ a
elsewhere a b other = grind arith

-- one move
known_after : (s : Sources) (j : Journey) (source destination : ℕ) (b : Bool) → (source == j.address) ≡ b → IsCarried s j source destination → IsKnown s j
    → IsKnown (source_moved s source destination) (if b then arrived s j destination else j)
known_after s j source destination true same is known =
    let at : source ≡ j.address = eqb-true source j.address same in
    ap (origin_in (source_moved s source destination) destination) (place_at-source_moved s source destination destination)
    ∙ arrives_by s source destination j.outside (place_at s source) (place_at s destination) refl refl is.from is.to
    (ap (origin_at s) at ∙ known)
known_after s j source destination false other is known =
    let not_source : j.address ≢ source = elsewhere source j.address other in
    let not_destination : j.address ≢ destination = λ same. is.elsewhere (sym same) in
    ap (origin_in (source_moved s source destination) j.address) (place_at-source_moved s source destination j.address)
    ∙ origin_by s (source_moved s source destination) j.address (place_at s j.address)
    (others_by s source destination j.address (place_at s source) (place_at s destination) (place_at s j.address) refl refl refl not_source not_destination)
    ∙ known

-- EXCHANGES

-- what an exchange leaves where each of its addresses names an element
abbrev crossed : Sources → (source first : ℕ) → (from between to : Place) → Sources
crossed s source first from between to = source_set (source_set (source_set s from None) between (last_outside s source from)) to (last_outside s first between)

place_at-crossed : (s : Sources) (source first : ℕ) (from between to : Place) (address : ℕ) → place_at (crossed s source first from between to) address ≡ place_at s address
place_at-crossed s source first from between to address =
    place_at-source_set (source_set (source_set s from None) between (last_outside s source from)) to (last_outside s first between) address
    ∙ place_at-source_set (source_set s from None) between (last_outside s source from) address ∙ place_at-source_set s from None address

place_at-sources_crossed : (s : Sources) (source first : ℕ) (P Q R : Option Place) (address : ℕ) → place_at (sources_crossed s source first P Q R) address ≡ place_at s address
place_at-sources_crossed s source first None Q R address = refl
place_at-sources_crossed s source first (Some from) None R address = refl
place_at-sources_crossed s source first (Some from) (Some between) None address = refl
place_at-sources_crossed s source first (Some from) (Some between) (Some to) address = place_at-crossed s source first from between to address

place_at-source_exchanged : (s : Sources) (source first second address : ℕ) → place_at (source_exchanged s source first second) address ≡ place_at s address
place_at-source_exchanged s source first second address = place_at-sources_crossed s source first (place_at s source) (place_at s first) (place_at s second) address

-- two addresses of elements that aren't the same one
apart : (s : Sources) (a b : ℕ) (p q : Place) → place_at s a ≡ Some p → place_at s b ≡ Some q → a ≢ b → address_of p ≢ address_of q
apart s a b p q is_p is_q other same = other (place_address s a p is_p ∙ same ∙ sym (place_address s b q is_q))

crossed_other : (s : Sources) (source first second address : ℕ) (P Q R S : Option Place) → place_at s source ≡ P → place_at s first ≡ Q → place_at s second ≡ R → place_at s address ≡ S
    → address ≢ source → address ≢ first → address ≢ second → source_at_some (sources_crossed s source first P Q R) S ≡ source_at_some s S
crossed_other s source first second address None Q R S p q r t not_source not_first not_second = refl
crossed_other s source first second address (Some from) None R S p q r t not_source not_first not_second = refl
crossed_other s source first second address (Some from) (Some between) None S p q r t not_source not_first not_second = refl
crossed_other s source first second address (Some from) (Some between) (Some to) None p q r t not_source not_first not_second = refl
crossed_other s source first second address (Some from) (Some between) (Some to) (Some at) p q r t not_source not_first not_second =
    source-set_other (source_set (source_set s from None) between (last_outside s source from)) to at (last_outside s first between) (apart s address second at to t r not_second)
    ∙ source-set_other (source_set s from None) between at (last_outside s source from) (apart s address first at between t q not_first)
    ∙ source-set_other s from at None (apart s address source at from t p not_source)

pub others_stay_in_exchanges : (s : Sources) (source first second address : ℕ) → address ≢ source → address ≢ first → address ≢ second
    → source_at (source_exchanged s source first second) address ≡ source_at s address
others_stay_in_exchanges s source first second address not_source not_first not_second =
    ap (source_at_some (source_exchanged s source first second)) (place_at-source_exchanged s source first second address)
    ∙ crossed_other s source first second address (place_at s source) (place_at s first) (place_at s second) (place_at s address) refl refl refl refl not_source not_first not_second

crossed_left : (s : Sources) (source first second : ℕ) (P Q R : Option Place) → place_at s source ≡ P → place_at s first ≡ Q → place_at s second ≡ R
    → source ≢ first → source ≢ second → IsTrue (is_some P) → IsTrue (is_some Q) → IsTrue (is_some R) → source_at_some (sources_crossed s source first P Q R) P ≡ None
crossed_left s source first second None Q R p q r not_first not_second is_p is_q is_r = refl
crossed_left s source first second (Some from) None R p q r not_first not_second is_p is_q is_r = cc
crossed_left s source first second (Some from) (Some between) None p q r not_first not_second is_p is_q is_r = cc
crossed_left s source first second (Some from) (Some between) (Some to) p q r not_first not_second is_p is_q is_r =
    source-set_other (source_set (source_set s from None) between (last_outside s source from)) to from (last_outside s first between) (apart s source second from to p r not_second)
    ∙ source-set_other (source_set s from None) between from (last_outside s source from) (apart s source first from between p q not_first)
    ∙ source-set_same s from None (place_within s source from p)

pub source_is_left_in_exchanges : (s : Sources) (source first second : ℕ) → source ≢ first → source ≢ second
    → IsTrue (is_some (place_at s source)) → IsTrue (is_some (place_at s first)) → IsTrue (is_some (place_at s second))
    → source_at (source_exchanged s source first second) source ≡ None
source_is_left_in_exchanges s source first second not_first not_second is_p is_q is_r =
    ap (source_at_some (source_exchanged s source first second)) (place_at-source_exchanged s source first second source)
    ∙ crossed_left s source first second (place_at s source) (place_at s first) (place_at s second) refl refl refl not_first not_second is_p is_q is_r

-- a volume that arrives where its origin is set
set_arrives : (s : Sources) (destination outside : ℕ) (to : Place) (x : Option ℕ) → source_at_place s to ≡ x → x ≡ Some outside
    → origin_in s destination (Some to) ≡ Some (outside_after (Some to) destination outside)
set_arrives s destination outside (DataTransfer i) x is known = is ∙ known
set_arrives s destination outside (ImportExport i) x is known = refl
set_arrives s destination outside (Storage i) x is known = refl

-- the volume at the source
crossed_first : (s : Sources) (source first second outside : ℕ) (P Q R : Option Place) → place_at s source ≡ P → place_at s first ≡ Q → place_at s second ≡ R
    → first ≢ second → IsTrue (is_some P) → IsTrue (is_some Q) → IsTrue (is_some R) → origin_in s source P ≡ Some outside
    → origin_in (sources_crossed s source first P Q R) first Q ≡ Some (outside_after Q first outside)
crossed_first s source first second outside None Q R p q r not_second is_p is_q is_r known = cc
crossed_first s source first second outside (Some from) None R p q r not_second is_p is_q is_r known = cc
crossed_first s source first second outside (Some from) (Some between) None p q r not_second is_p is_q is_r known = cc
crossed_first s source first second outside (Some from) (Some between) (Some to) p q r not_second is_p is_q is_r known =
    set_arrives (crossed s source first from between to) first outside between (last_outside s source from)
    (source-set_other (source_set (source_set s from None) between (last_outside s source from)) to between (last_outside s first between) (apart s first second between to q r not_second)
    ∙ source-set_same (source_set s from None) between (last_outside s source from) (within-source_set s from between None (place_within s first between q)))
    known

-- and the one at the first destination
crossed_second : (s : Sources) (source first second outside : ℕ) (P Q R : Option Place) → place_at s source ≡ P → place_at s first ≡ Q → place_at s second ≡ R
    → IsTrue (is_some P) → IsTrue (is_some Q) → IsTrue (is_some R) → origin_in s first Q ≡ Some outside
    → origin_in (sources_crossed s source first P Q R) second R ≡ Some (outside_after R second outside)
crossed_second s source first second outside None Q R p q r is_p is_q is_r known = cc
crossed_second s source first second outside (Some from) None R p q r is_p is_q is_r known = cc
crossed_second s source first second outside (Some from) (Some between) None p q r is_p is_q is_r known = cc
crossed_second s source first second outside (Some from) (Some between) (Some to) p q r is_p is_q is_r known =
    set_arrives (crossed s source first from between to) second outside to (last_outside s first between)
    (source-set_same (source_set (source_set s from None) between (last_outside s source from)) to (last_outside s first between)
    (within-source_set (source_set s from None) between to (last_outside s source from) (within-source_set s from to None (place_within s second to r))))
    known

exchanged_after : (s : Sources) (j : Journey) (source first second : ℕ) (b c : Bool) → (source == j.address) ≡ b → (first == j.address) ≡ c → IsExchanged s j source first second → IsKnown s j
    → IsKnown (source_exchanged s source first second) (if b then arrived s j first else if c then arrived s j second else j)
exchanged_after s j source first second true c same is_first is known =
    let at : source ≡ j.address = eqb-true source j.address same in
    ap (origin_in (source_exchanged s source first second) first) (place_at-source_exchanged s source first second first)
    ∙ crossed_first s source first second j.outside (place_at s source) (place_at s first) (place_at s second) refl refl refl is.not_second is.from is.between is.to
    (ap (origin_at s) at ∙ known)
exchanged_after s j source first second false true other same is known =
    let at : first ≡ j.address = eqb-true first j.address same in
    ap (origin_in (source_exchanged s source first second) second) (place_at-source_exchanged s source first second second)
    ∙ crossed_second s source first second j.outside (place_at s source) (place_at s first) (place_at s second) refl refl refl is.from is.between is.to
    (ap (origin_at s) at ∙ known)
exchanged_after s j source first second false false other another is known =
    let not_source : j.address ≢ source = elsewhere source j.address other in
    let not_first : j.address ≢ first = elsewhere first j.address another in
    let not_second : j.address ≢ second = λ same. not_source (same ∙ is.elsewhere (sym same)) in
    ap (origin_in (source_exchanged s source first second) j.address) (place_at-source_exchanged s source first second j.address)
    ∙ origin_by s (source_exchanged s source first second) j.address (place_at s j.address)
    (crossed_other s source first second j.address (place_at s source) (place_at s first) (place_at s second) (place_at s j.address) refl refl refl refl not_source not_first not_second)
    ∙ known

-- one of either
known_after_either : (s : Sources) (j : Journey) (move : Move) → IsMove s j move → IsKnown s j → IsKnown (noted s move) (travelled s j move)
known_after_either s j (Carried source destination) is known = known_after s j source destination (source == j.address) refl is known
known_after_either s j (Exchanged source first second) is known =
    exchanged_after s j source first second (source == j.address) (first == j.address) refl refl is known

pub origins_stay : (s : Sources) (j : Journey) (moves : List Move) → AreMoves s j moves → IsKnown s j → IsKnown (noted_all s moves) (travelled_all s j moves)
origins_stay s j [] are known = known
origins_stay s j (move ∷ moves) are known =
    origins_stay (noted s move) (travelled s j move) moves are.1 (known_after_either s j move are.0 known)

pub starts_known : (s : Sources) (address i : ℕ) → place_at s address ≡ Some (Storage i) → origin_at s address ≡ Some address
starts_known s address i is = ap (origin_in s address) is

pub drives_have : (s : Sources) (j : Journey) (i : ℕ) → place_at s j.address ≡ Some (DataTransfer i) → IsKnown s j → source_at s j.address ≡ Some j.outside
drives_have s j i is known =
    ap (source_at_some s) is ∙ sym (ap (origin_in s j.address) is) ∙ known

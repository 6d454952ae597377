-- What sessions make of the seats of a library, by its services.
use Rattle.std.proofs.Common.{◌≡◌, ℕ, zero, suc, Bool, List, [], ◌∷◌, ◌++◌, length, map, Option, Some, None, inl, inr, refl, sym, ap, subst, ◌∙◌}
use Rattle.std.specs.Prelude.{All}
use Rattle.std.specs.List.{AllZip}
use Rattle.std.proofs.lemmas.List.Elements.{All-nil, All-cons, All-head, All-tail}
use Rattle.scsi_nexus.specs.declared.nexus.Nexus.{Nexus}
use Rattle.logical_unit.specs.Answers.{DoneValue}
use Rattle.lun_router.specs.Seats.{SeatValue, IsUntold, Notes, Settles}
use Rattle.session.specs.Answering.{Calls}
use Rattle.iscsi_session.specs.declared.register.NexusEnd.{NexusEnd}
use Rattle.iscsi_session.specs.declared.register.NexusEnd.TheVariants.{Lost, GoesOn}
use Rattle.session.specs.Serving.{IsLostBelow}
use Rattle.server.specs.SeatService.{DoesForWorker, MaySettle}
use Rattle.server.specs.Sessions.{ComesByOne, ComesBySessions, ComesToEnd, Sessions, Whose}
use Rattle.library_service.specs.LibraryService.{DoesToService, LibraryServiceValue, SettlesService, service_at}
use Rattle.library_server.specs.ServedSeats.{IsOfSessions, SeatsCome}

-- ---- a service's seat

settled_at : (p q : LibraryServiceValue) → MaySettle SettlesService p q → MaySettle Settles p.seat q.seat × (q.units ≡ p.units)
settled_at p q (inl same) = (inl (ap (λ (x : LibraryServiceValue). x.seat) same), ap (λ (x : LibraryServiceValue). x.units) same)
settled_at p q (inr so) = (inr (so.0, so.1.0), so.1.1)

does_at : (p q : LibraryServiceValue) (d : DoneValue) → DoesForWorker DoesToService SettlesService p d q → DoesForWorker Notes Settles p.seat d q.seat × (q.units ≡ p.units)
does_at p q d so = let settled = settled_at so.0 q so.2 in ((so.0.seat, so.1.0, settled.0), settled.1 ∙ so.1.1)

calls_at : (n : Nexus) (ds : List DoneValue) (p q : LibraryServiceValue) → Calls (DoesForWorker DoesToService SettlesService) n p ds q
    → Calls (DoesForWorker Notes Settles) n p.seat ds q.seat × (q.units ≡ p.units)
calls_at n [] p q so = (ap (λ (x : LibraryServiceValue). x.seat) so, ap (λ (x : LibraryServiceValue). x.units) so)
calls_at n (d ∷ ds) p q so =
    let here = does_at p so.0 d so.2 in
    let rest = calls_at n ds so.0 q so.3 in ((so.0.seat, so.1, here.0, rest.0), rest.1 ∙ here.1)

lost_at : (n : Nexus) (units : ℕ) (p q : LibraryServiceValue) (all : Bool) → IsLostBelow (DoesForWorker DoesToService SettlesService) n units p q all
    → IsLostBelow (DoesForWorker Notes Settles) n units p.seat q.seat all × (q.units ≡ p.units)
lost_at n zero p q all so = ((ap (λ (x : LibraryServiceValue). x.seat) so.0, so.1), ap (λ (x : LibraryServiceValue). x.units) so.0)
lost_at n (suc lun) p q all so =
    let before = lost_at n lun p so.0 so.1 so.3 in
    let here = does_at so.0 q so.2 so.5 in ((so.0.seat, so.1, so.2, before.0, so.4, here.0, so.6), here.1 ∙ before.1)

end_at : (u : ℕ) (n : Nexus) (end : NexusEnd) (p q : LibraryServiceValue) → p.units ≡ u
    → ComesToEnd (DoesForWorker DoesToService SettlesService) (λ x. x.units) n end p q
    → ComesToEnd (DoesForWorker Notes Settles) (λ _. u) n end p.seat q.seat × (q.units ≡ u)
end_at u n Lost p q size so =
    let calls = calls_at n so.calls.0 p so.before so.calls.1 in
    let lost = lost_at n so.before.units so.before q so.all so.lost in (
      record {
        before = so.before.seat;
        all = so.all;
        calls = (so.calls.0, calls.0);
        lost = subst (λ (k : ℕ). IsLostBelow (DoesForWorker Notes Settles) n k so.before.seat q.seat so.all) (calls.1 ∙ size) lost.0;
      },
      lost.1 ∙ calls.1 ∙ size,
    )
end_at u n GoesOn p q size so = let calls = calls_at n so.0 p q so.1 in ((so.0, calls.0), calls.1 ∙ size)

session_at : (u : ℕ) (who : Whose) (p q : LibraryServiceValue) → p.units ≡ u → ComesByOne (DoesForWorker DoesToService SettlesService) (λ x. x.units) who p q
    → ComesByOne (DoesForWorker Notes Settles) (λ _. u) who p.seat q.seat × (q.units ≡ u)
session_at u None p q size so = (ap (λ (x : LibraryServiceValue). x.seat) so, ap (λ (x : LibraryServiceValue). x.units) so ∙ size)
session_at u (Some who) p q size so = end_at u who.0 who.1 p q size so

sessions_at : (u : ℕ) (sessions : List Whose) (p q : LibraryServiceValue) → p.units ≡ u → Sessions DoesToService SettlesService (λ x. x.units) sessions p q
    → Sessions Notes Settles (λ _. u) sessions p.seat q.seat
sessions_at u [] p q size so = ap (λ (x : LibraryServiceValue). x.seat) so
sessions_at u (who ∷ others) p q size so =
    let here = session_at u who p so.0 size so.2 in
    let settled = settled_at so.0 so.1 so.3 in
    (so.0.seat, so.1.seat, here.0, settled.0, sessions_at u others so.1 q (settled.1 ∙ here.1) so.4)

seats_at : (u : ℕ) (seats : List SeatValue) (ends : List LibraryServiceValue) → AllZip (ComesBySessions DoesToService SettlesService (λ x. x.units)) (map (service_at u) seats) ends
    → SeatsCome u seats (map (λ x. x.seat) ends)
seats_at u [] [] so = tt
seats_at u [] (q ∷ ends) so = absurd so
seats_at u (s ∷ seats) [] so = absurd so
seats_at u (s ∷ seats) (q ∷ ends) so = ((so.0.0, sessions_at u so.0.0 (service_at u s) q refl so.0.1), seats_at u seats ends so.1)

-- ---- all seats of a library

pub of_sessions : (u : ℕ) (opened seats : List SeatValue) → All IsUntold opened → SeatsCome u opened seats → All (IsOfSessions u) seats × (length seats ≡ length opened)
of_sessions u [] [] untold so = (All-nil (IsOfSessions u), refl)
of_sessions u [] (t ∷ seats) untold so = absurd so
of_sessions u (s ∷ opened) [] untold so = absurd so
of_sessions u (s ∷ opened) (t ∷ seats) untold so =
    let rest = of_sessions u opened seats (All-tail IsUntold s opened untold) so.1 in (
      All-cons (IsOfSessions u) t seats (record { opened = s; untold = All-head IsUntold s opened untold; comes = so.0 }) rest.0,
      ap suc rest.1,
    )

-- ---- what services give back

-- services that were made for seats had their sessions, and their seats are back
pub seats_left : (u : ℕ) (seats back none : List SeatValue) (services ends : List LibraryServiceValue) → services ≡ map (service_at u) seats
    → AllZip (ComesBySessions DoesToService SettlesService (λ x. x.units)) services ends → none ≡ [] → back ≡ none ++ map (λ x. x.seat) ends → SeatsCome u seats back
seats_left u seats back none services ends made came empty given =
    let back_is : back ≡ map (λ x. x.seat) ends = given ∙ ap (λ (xs : List SeatValue). xs ++ map (λ (x : LibraryServiceValue). x.seat) ends) empty in
    subst (λ (xs : List SeatValue). SeatsCome u seats xs) (sym back_is)
    (seats_at u seats ends (subst (λ (xs : List LibraryServiceValue). AllZip (ComesBySessions DoesToService SettlesService (λ x. x.units)) xs ends) made came))

pub as_many : {A B : Type 0} (R : A → B → Type 0) (xs : List A) (ys : List B) → AllZip R xs ys → length ys ≡ length xs
as_many R [] [] so = refl
as_many R [] (y ∷ ys) so = absurd so
as_many R (x ∷ xs) [] so = absurd so
as_many R (x ∷ xs) (y ∷ ys) so = ap suc (as_many R xs ys so.1)

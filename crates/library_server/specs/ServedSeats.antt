-- What sessions make of the seats of a library.
use Rattle.std.specs.Prelude.{ℕ, List}
use Rattle.std.specs.List.{AllZip}
use Rattle.lun_router.specs.Seats.{SeatValue, IsUntold, Notes, Settles}
use Rattle.server.specs.Sessions.{ComesBySessions}

-- a seat, at a library of so many units
abbrev pub SeatComes : (units : ℕ) → SeatValue → SeatValue → Type 0
SeatComes units s t = ComesBySessions Notes Settles (λ _. units) s t

-- as many seats, each come from its own
abbrev pub SeatsCome : (units : ℕ) → List SeatValue → List SeatValue → Type 0
SeatsCome units = AllZip (SeatComes units)

-- a seat that was told nothing when the library was opened
pub record IsOfSessions (units : ℕ) (seat : SeatValue) : Type 0 where
  pub opened : SeatValue
  pub untold : IsUntold opened
  pub comes : SeatComes units opened seat

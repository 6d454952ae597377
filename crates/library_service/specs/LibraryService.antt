-- A library's service for sessions.
use Rattle.std.specs.Prelude.{◌≡◌, ℕ, List}
use Rattle.logical_unit.specs.Answers.{DoneValue}
use Rattle.lun_router.specs.Seats.{SeatValue, Notes, Settles}

-- what its seat holds, and how many units the library has
pub record LibraryServiceValue : Type 0 where
  pub seat : SeatValue
  pub units : ℕ

abbrev pub service_at : (units : ℕ) → SeatValue → LibraryServiceValue
service_at units seat = record { seat = seat; units = units }

-- what a call with this answer does to it
abbrev pub DoesToService : LibraryServiceValue → DoneValue → LibraryServiceValue → Type 0
DoesToService p d q = Notes p.seat d q.seat × (q.units ≡ p.units)

-- its seat was settled by the numbers up to which each unit's records were handed out, by LUN
abbrev pub SettlesService : (drained : List ℕ) → LibraryServiceValue → LibraryServiceValue → Type 0
SettlesService drained p q = Settles drained p.seat q.seat × (q.units ≡ p.units)

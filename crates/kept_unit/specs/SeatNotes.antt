-- What a seat has noted, without where it lies.
use Rattle.kept_unit.specs.declared.seat_notes.SeatNotes.{SeatNotes}
use Rattle.kept_unit.specs.Listing.{NotesValue}

abbrev pub notes_value : SeatNotes → NotesValue
notes_value n = record { handed_over = n.handed_over; settled = n.settled.now; listed = n.listed.now }

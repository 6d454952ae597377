-- What replies wait for that say that something is kept.
use Rattle.std.specs.Prelude.{◌≡◌, Bool, true, false, Option, Some, None, is_some}
use Rattle.scsi_cdb.specs.declared.classes.Class.{Class}
use Rattle.scsi_sense.specs.CarriedOut.{is_carried_out}
use Rattle.logical_unit.specs.Answers.{DoneValue}
use Rattle.logical_unit.specs.AtOnce.{asks_at_once}
use Rattle.logical_unit.specs.declared.act_kind.ActKind.TheVariants.{Command}
use Rattle.tickets.specs.declared.ticket.ReplyTicket.{ReplyTicket}
use Rattle.tickets.specs.declared.ticket.Ticket.{Ticket}

-- what a command left that was carried out is kept by a ticket where the reply says so by its class, unless its host said that it needn't wait
abbrev pub KeepsWhereSaid : (says_kept : Class → Bool) → DoneValue → Option Ticket → Type 0
KeepsWhereSaid says_kept d kept =
    (class : Class) → is_carried_out d.reply.status d.reply.sense ≡ true → d.act ≡ Some (Command class) → says_kept class ≡ true → asks_at_once d.asked ≡ false
    → is_some kept ≡ true

-- something that is to be kept is waited for
abbrev pub HasKept : Option ReplyTicket → Type 0
HasKept None = ⊥
HasKept (Some ticket) = is_some ticket.kept ≡ true

-- the reply waits for it
abbrev pub WaitsWhereKept : (says_kept : Class → Bool) → DoneValue → Option ReplyTicket → Type 0
WaitsWhereKept says_kept d ticket =
    (class : Class) → is_carried_out d.reply.status d.reply.sense ≡ true → d.act ≡ Some (Command class) → says_kept class ≡ true → asks_at_once d.asked ≡ false → HasKept ticket

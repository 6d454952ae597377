use Rattle.std.proofs.Common.{◌≡◌, ◌+◌, ◌-◌, length}
use Rattle.iscsi_login.specs.Offers.{negotiated_by, negotiated_within}
use Rattle.iscsi_login.proofs.offers.negotiated_by.Given as goal

-- what is left comes to what the text comes to
abbrev pub invariant-items : goal.invariant-items
invariant-items l = negotiated_within (length l.text + 1 - l.counter) l.negotiation l.left ≡ negotiated_by l.fn.negotiation l.text

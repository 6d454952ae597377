use Rattle.std.proofs.Common.{◌≡◌, ◌+◌, ◌≤◌, vec_len}
use Rattle.std.specs.Prelude.{vec_capacity, All}
use Rattle.lun_router.specs.Seats.{IsUntold}
use Rattle.lun_router.proofs.library.Library.new.Given as goal

abbrev pub invariant-loop-i : goal.invariant-loop-i
invariant-loop-i g l =
    (vec_len l.all ≡ l._i)
    × All IsUntold l.all.items
    × (l.fn.seats ≤ vec_capacity l.all)
    × (l.shares.zero.parts + l._i ≡ l.fn.seats) × (l.shares.one.parts + l._i ≡ l.fn.seats) × (l.shares.two.parts + l._i ≡ l.fn.seats) × (l.shares.three.parts + l._i ≡ l.fn.seats) × (l.shares.four.parts + l._i ≡ l.fn.seats)
    × (l.shares.zero.amount ≡ 0) × (l.shares.one.amount ≡ 0) × (l.shares.two.amount ≡ 0) × (l.shares.three.amount ≡ 0) × (l.shares.four.amount ≡ 0)

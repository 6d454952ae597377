use Rattle.std.proofs.Common.{◌≡◌, ◌+◌}
use Rattle.std.specs.Prelude.{sum_by, vec_len}
use Rattle.lun_router.specs.Seats.{SeatValue}
use Rattle.lun_router.proofs.closing.gather.Given as goal

abbrev pub invariant-loop-seat : goal.invariant-loop-seat
invariant-loop-seat g l =
    (l.all.zero.parts + vec_len l.seats ≡ vec_len l.fn.seats)
    × (l.all.one.parts + vec_len l.seats ≡ vec_len l.fn.seats)
    × (l.all.two.parts + vec_len l.seats ≡ vec_len l.fn.seats)
    × (l.all.three.parts + vec_len l.seats ≡ vec_len l.fn.seats)
    × (l.all.four.parts + vec_len l.seats ≡ vec_len l.fn.seats)
    × (l.all.zero.amount + sum_by (λ (s : SeatValue). s.amounts.zero) l.seats.items ≡ sum_by (λ (s : SeatValue). s.amounts.zero) l.fn.seats.items)
    × (l.all.one.amount + sum_by (λ (s : SeatValue). s.amounts.one) l.seats.items ≡ sum_by (λ (s : SeatValue). s.amounts.one) l.fn.seats.items)
    × (l.all.two.amount + sum_by (λ (s : SeatValue). s.amounts.two) l.seats.items ≡ sum_by (λ (s : SeatValue). s.amounts.two) l.fn.seats.items)
    × (l.all.three.amount + sum_by (λ (s : SeatValue). s.amounts.three) l.seats.items ≡ sum_by (λ (s : SeatValue). s.amounts.three) l.fn.seats.items)
    × (l.all.four.amount + sum_by (λ (s : SeatValue). s.amounts.four) l.seats.items ≡ sum_by (λ (s : SeatValue). s.amounts.four) l.fn.seats.items)

abbrev pub decreases-loop-seat : goal.decreases-loop-seat
decreases-loop-seat g l = l.seats.len

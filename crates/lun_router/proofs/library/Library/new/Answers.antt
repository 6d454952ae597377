use Rattle.std.proofs.Common.{◌≡◌, [], ◌∷◌, List, sym, subst, arith, rules}
use Rattle.std.specs.Prelude.{All}
use Rattle.std.proofs.lemmas.List.Elements.{All-append, All-cons, All-nil}
use Rattle.std.specs.Option.{ForSome}
use Rattle.scsi_cdb.specs.declared.profile.Profile.{Profile}
use Rattle.lun_router.specs.Seats.{SeatValue, IsUntold}
use Rattle.lun_router.specs.Units.{IsAt}
use Rattle.lun_router.proofs.library.Library.new.Goals as goal

pub loop-i-preserved : goal.loop-i-preserved
loop-i-preserved g c =
    let more = c.push_reserved.ensures in
    let was = c.loop-i.invariant in
    let parts = c.cut.ensures.parts in
    let amounts = c.cut.ensures.amounts in
    let untold = λ (s : SeatValue). IsUntold s in (
      omega (arith, more.len, was.0),
      subst (λ (l : List SeatValue). All untold l) (sym more.items) (All-append untold c.loop-i.all.items (c.cut.result ∷ []) was.1 (All-cons untold c.cut.result [] c.cut.ensures.seat (All-nil untold))),
      omega (arith, more.capacity, was.2),
      omega (arith, parts.0, was.3),
      omega (arith, parts.1, was.4),
      omega (arith, parts.2, was.5),
      omega (arith, parts.3, was.6),
      omega (arith, parts.4, was.7),
      amounts.0,
      amounts.1,
      amounts.2,
      amounts.3,
      amounts.4,
    )

pub loop-i-init : goal.loop-i-init
loop-i-init g c =
    let parts = c.open-locks.ensures.parts in
    let amounts = c.open-locks.ensures.amounts in
    let none : c.reserve.new.self.items ≡ [] = search rules in (
      search rules,
      subst (λ (l : List SeatValue). All (λ (s : SeatValue). IsUntold s) l) (sym none) (All-nil (λ (s : SeatValue). IsUntold s)),
      search rules,
      omega (arith, parts.0, c.requires.parts),
      omega (arith, parts.1, c.requires.parts),
      omega (arith, parts.2, c.requires.parts),
      omega (arith, parts.3, c.requires.parts),
      omega (arith, parts.4, c.requires.parts),
      amounts.0,
      amounts.1,
      amounts.2,
      amounts.3,
      amounts.4,
    )

pub open-locks-requires-clause-changer : goal.open-locks-requires-clause-changer
open-locks-requires-clause-changer g c =
    λ κs within. subst (λ (p : Profile). IsAt p 0 c.split_units.result.changer.unit) c.requires.profile c.split_units.ensures.changer

pub open-locks-requires-clause-first : goal.open-locks-requires-clause-first
open-locks-requires-clause-first g c =
    λ κs within. subst (λ (p : Profile). IsAt p 1 c.split_units.result.first.unit) c.requires.profile c.split_units.ensures.first

pub open-locks-requires-clause-second : goal.open-locks-requires-clause-second
open-locks-requires-clause-second g c =
    λ κs within. subst (λ (p : Profile). ForSome c.split_units.result.second (λ u. IsAt p 2 u.unit)) c.requires.profile c.split_units.ensures.second

pub open-locks-requires-clause-third : goal.open-locks-requires-clause-third
open-locks-requires-clause-third g c =
    λ κs within. subst (λ (p : Profile). ForSome c.split_units.result.third (λ u. IsAt p 3 u.unit)) c.requires.profile c.split_units.ensures.third

pub open-locks-requires-clause-fourth : goal.open-locks-requires-clause-fourth
open-locks-requires-clause-fourth g c =
    λ κs within. subst (λ (p : Profile). ForSome c.split_units.result.fourth (λ u. IsAt p 4 u.unit)) c.requires.profile c.split_units.ensures.fourth

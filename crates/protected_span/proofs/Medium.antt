-- A volume that goes in or out of a drive, at two units that look alike to those inside: what a move needs of the span.
use Rattle.std.proofs.Common.{◌≡◌, Bool, true, false, cond, not, List, Result, Ok, Err, refl, ap, subst}
use Rattle.std.specs.Prelude.{length, ◌==◌}
use Rattle.scsi_cdb.specs.declared.kind.Kind.{Kind}
use Rattle.scsi_cdb.specs.declared.kind.Kind.TheVariants as kind
use Rattle.scsi_nexus.specs.declared.nexus.Nexus.{Nexus}
use Rattle.unit_attention.specs.declared.kind.Kind.TheVariants.{MediumChanged}
use Rattle.tape_medium.specs.declared.volume.Volume.{Volume}
use Rattle.device_server.specs.View.{DeviceView, kind_of, taken, put}
use Rattle.device_server.specs.declared.fault.TakeFault.{TakeFault}
use Rattle.device_server.specs.declared.fault.PutFault.{PutFault}
use Rattle.logical_unit.specs.declared.medium_fault.MediumFault.{MediumFault}
use Rattle.logical_unit.specs.declared.medium_fault.MediumFault.TheVariants.{NotADrive, Prevented}
use Rattle.logical_unit.specs.UnitView.{UnitView}
use Rattle.judgement.specs.UnitState.{with_medium, is_prevented}
use Rattle.logical_unit.specs.Medium.{taken_out, taken_as, put_in, put_as}
use Rattle.logical_unit.specs.Move.{IsSameUnit}
use Rattle.logical_unit.proofs.SameUnits.{out_same, in_same}
use Rattle.protected_span.proofs.InsidersView.{Alike}
use Rattle.protected_span.proofs.Carry.{Same, With, Takes}
use Rattle.protected_span.proofs.Slots.{raised_for_all-alike}

module _ (inside : Nexus → Bool) where
  -- the same device, the same reservations where they are the same, and alike to those inside
  pub record Beside (f g : UnitView) : Type 0 where
    pub device : f.device ≡ g.device
    pub state : Alike inside f.state g.state

  abbrev TakesAlike : Result (Volume × UnitView) MediumFault → Result (Volume × UnitView) MediumFault → Type 0
  TakesAlike o p = Same (With Beside) o p

  abbrev PutsAlike : Result UnitView MediumFault → Result UnitView MediumFault → Type 0
  PutsAlike o p = Same Beside o p

  medium_alike : (f g : UnitView) → Alike inside f.state g.state → Alike inside (with_medium f.state) (with_medium g.state)
  medium_alike f g a = record { lun = a.lun; units = a.units; profile = a.profile; slots = λ m is. raised_for_all-alike f.state.slots g.state.slots m MediumChanged (a.slots m is); preventers = a.preventers; own = a.own }

  taken_alike : (f g : UnitView) (o : Result (Volume × DeviceView) TakeFault) → Beside f g → TakesAlike (taken_as f o) (taken_as g o)
  taken_alike f g (Ok it) b = (refl, record { device = refl; state = b.state })
  taken_alike f g (Err fault) b = refl

  put_alike : (f g : UnitView) (o : Result DeviceView PutFault) → Beside f g → PutsAlike (put_as f o) (put_as g o)
  put_alike f g (Ok d) b = record { device = refl; state = medium_alike f g b.state }
  put_alike f g (Err fault) b = refl

  unless_prevented : (f g : UnitView) (b : Bool) → TakesAlike (taken_as f (taken f.device 0)) (taken_as g (taken g.device 0)) → TakesAlike (cond b (Err Prevented) (taken_as f (taken f.device 0))) (cond b (Err Prevented) (taken_as g (taken g.device 0)))
  unless_prevented f g true h = refl
  unless_prevented f g false h = h

  by_kind : (f g : UnitView) (k : Kind) → Beside f g
      → TakesAlike (elim k [ kind.Changer ↦ Err NotADrive | kind.Drive ↦ cond (is_prevented f.state) (Err Prevented) (taken_as f (taken f.device 0)) ]) (elim k [ kind.Changer ↦ Err NotADrive | kind.Drive ↦ cond (is_prevented g.state) (Err Prevented) (taken_as g (taken g.device 0)) ])
  by_kind f g kind.Changer b = refl
  by_kind f g kind.Drive b =
      subst (λ x. TakesAlike (cond (is_prevented f.state) (Err Prevented) (taken_as f (taken f.device 0))) (cond x (Err Prevented) (taken_as g (taken g.device 0)))) (ap (λ (ps : List Nexus). not (length ps == 0)) b.state.preventers)
      (unless_prevented f g (is_prevented f.state) (subst (λ (d : DeviceView). TakesAlike (taken_as f (taken f.device 0)) (taken_as g (taken d 0))) b.device (taken_alike f g (taken f.device 0) b)))

  -- a volume is taken out of both alike
  pub takes_alike : (f g : UnitView) → Beside f g → TakesAlike (taken_out f) (taken_out g)
  takes_alike f g b =
      subst (λ (k : Kind). TakesAlike (taken_out f) (elim k [ kind.Changer ↦ Err NotADrive | kind.Drive ↦ cond (is_prevented g.state) (Err Prevented) (taken_as g (taken g.device 0)) ])) (ap kind_of b.device)
      (by_kind f g (kind_of f.device) b)

  put_by_kind : (f g : UnitView) (v : Volume) (k : Kind) → Beside f g → PutsAlike (elim k [ kind.Changer ↦ Err NotADrive | kind.Drive ↦ put_as f (put f.device 0 v) ]) (elim k [ kind.Changer ↦ Err NotADrive | kind.Drive ↦ put_as g (put g.device 0 v) ])
  put_by_kind f g v kind.Changer b = refl
  put_by_kind f g v kind.Drive b = subst (λ (d : DeviceView). PutsAlike (put_as f (put f.device 0 v)) (put_as g (put d 0 v))) b.device (put_alike f g (put f.device 0 v) b)

  -- and put into both alike
  pub puts_alike : (f g : UnitView) (v : Volume) → Beside f g → PutsAlike (put_in f v) (put_in g v)
  puts_alike f g v b =
      subst (λ (k : Kind). PutsAlike (put_in f v) (elim k [ kind.Changer ↦ Err NotADrive | kind.Drive ↦ put_as g (put g.device 0 v) ])) (ap kind_of b.device) (put_by_kind f g v (kind_of f.device) b)

  -- what else is said of two such units is kept where it rests on what a move leaves of each
  module _ (Rel : UnitView → UnitView → Type 0) (look : (f g : UnitView) → Rel f g → Beside f g) (stays : (f g v w : UnitView) → Rel f g → IsSameUnit f v → IsSameUnit g w → Beside v w → Rel v w) where
    out_as : (f g : UnitView) (o p : Result (Volume × UnitView) MediumFault) → taken_out f ≡ o → taken_out g ≡ p → Rel f g → TakesAlike o p → Same (With Rel) o p
    out_as f g (Ok a) (Ok b) e d rel h = (h.0, stays f g a.1 b.1 rel (out_same f a.1 a.0 e) (out_same g b.1 b.0 d) h.1)
    out_as f g (Err x) (Err y) e d rel h = h
    out_as f g (Ok a) (Err y) e d rel h = absurd h
    out_as f g (Err x) (Ok b) e d rel h = absurd h

    in_as : (f g : UnitView) (v : Volume) (o p : Result UnitView MediumFault) → put_in f v ≡ o → put_in g v ≡ p → Rel f g → PutsAlike o p → Same Rel o p
    in_as f g v (Ok a) (Ok b) e d rel h = stays f g a b rel (in_same f a v e) (in_same g b v d) h
    in_as f g v (Err x) (Err y) e d rel h = h
    in_as f g v (Ok a) (Err y) e d rel h = absurd h
    in_as f g v (Err x) (Ok b) e d rel h = absurd h

    pub takes : Takes Rel
    takes = record {
      out = λ f g rel. out_as f g (taken_out f) (taken_out g) refl refl rel (takes_alike f g (look f g rel));
      comes = λ f g v rel. in_as f g v (put_in f v) (put_in g v) refl refl rel (puts_alike f g v (look f g rel));
    }

-- A drive that gave its volume takes another.
use Rattle.std.proofs.Common.{◌≡◌, [], ◌∷◌, Option, Some, None, Result, Ok, Err, refl, sym, ap, ◌∙◌, subst}
use Rattle.std.specs.Prelude.{IsOk}
use Rattle.scsi_cdb.specs.declared.kind.Kind.{Kind}
use Rattle.scsi_cdb.specs.declared.kind.Kind.TheVariants as kind
use Rattle.tape_medium.specs.declared.volume.Volume.{Volume}
use Rattle.tape_medium.specs.declared.volume.VolumeTag.{VolumeTag}
use Rattle.tape_medium.specs.Elements.{tag_of}
use Rattle.device_server.specs.Drive.{DriveView}
use Rattle.device_server.specs.Marks.{marks}
use Rattle.device_server.specs.View.{DeviceView, Drive, Changer, kind_of, put_in_bay, put}
use Rattle.device_server.specs.declared.fault.PutFault.{PutFault}
use Rattle.device_server.proofs.MarkLemmas.{drives_give}
use Rattle.logical_unit.specs.Medium.{taken_out, put_as, put_in}
use Rattle.logical_unit.specs.UnitView.{UnitView}
use Rattle.logical_unit.proofs.Halves.{in_by, is_out}

record Puts (device : DeviceView) (w : Volume) : Type 0 where
  after : DeviceView
  is : put device 0 w ≡ Ok after

bay_free : (x : DriveView) (o : Option Volume) (w : Volume) → x.bay ≡ o → tag_of o ≡ None → Puts (Drive x) w
bay_free x None w bay h = record { after = _; is = ap (λ (held : Option Volume). put_in_bay x held w) bay }
bay_free x (Some v) w bay h = absurd cc

free : (device : DeviceView) (w : Volume) → kind_of device ≡ kind.Drive → marks device ≡ None ∷ [] → Puts device w
free (Drive x) w k h = let none : tag_of x.bay ≡ None = cc in bay_free x x.bay w refl none
free (Changer c) w k h = absurd cc

pub takes_after : (d e : UnitView) (v w : Volume) → taken_out d ≡ Ok (v, e) → IsOk (put_in e w)
takes_after d e v w h =
    let out = is_out d e v h in
    let gave = drives_give d.device out.device 0 v out.kind out.taken in
    let is : e.device ≡ out.device = ap (λ (u : UnitView). u.device) out.unit in
    let drive : kind_of out.device ≡ kind.Drive = gave.device.kind ∙ out.kind in
    let puts = free out.device w drive gave.empty in
    subst (λ (k : Kind). IsOk (in_by e w k)) (sym (ap kind_of is ∙ drive))
    (subst (λ (o : Result DeviceView PutFault). IsOk (put_as e o)) (sym (ap (λ (x : DeviceView). put x 0 w) is ∙ puts.is)) refl)

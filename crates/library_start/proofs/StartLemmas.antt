-- A library at power on, volume by volume and drive by drive.
use Rattle.std.proofs.Common.{◌≡◌, ℕ, ◌+◌, List, [], ◌∷◌, ◌++◌, length, Option, refl, ap, sym, subst, ◌∙◌, arith}
use Rattle.std.proofs.lemmas.List.{length-set, map-append}
use Rattle.tape_medium.specs.declared.volume.Volume.{Volume}
use Rattle.tape_medium.specs.Elements.{Elements}
use Rattle.device_server.specs.Drive.{DriveView}
use Rattle.device_server.specs.View.{Drive}
use Rattle.logical_unit.specs.Step.{made}
use Rattle.logical_unit.specs.UnitView.{UnitWithRoom, units_of}
use Rattle.library_inventory.specs.declared.element.Element.{Element}
use Rattle.library_inventory.specs.declared.element.Element.TheVariants.{DataTransfer, Storage, ImportExport}
use Rattle.library_start.specs.declared.start.StartedVolume.{StartedVolume}
use Rattle.device_server.specs.declared.host_changer.HostChanger.{HostChanger}
use Rattle.library_start.specs.Starting.{ShelvesView, IsShelved, AreShelved, drive_units, units_over}

-- one volume more
pub AreShelved-more : (s m t : ShelvesView) (xs : List StartedVolume) (x : StartedVolume) → AreShelved s xs m → IsShelved m x.element x.volume t
    → AreShelved s (xs ++ x ∷ []) t
AreShelved-more s m t [] x same h = let P : ShelvesView → Type 0 = λ v. IsShelved v x.element x.volume t in (t, subst P same h, refl)
AreShelved-more s m t (y ∷ xs) x those h = (those.0, those.1, AreShelved-more those.0 m t xs x those.2 h)

-- the drives are as many
IsShelved-length : (s t : ShelvesView) (element : Element) (volume : Volume) → IsShelved s element volume t → length t.drives ≡ length s.drives
IsShelved-length s t (Storage number) volume h = ap length h.1
IsShelved-length s t (ImportExport number) volume h = ap length h.1
IsShelved-length s t (DataTransfer number) volume h = ap length h.2 ∙ length-set _ _ _

pub AreShelved-length : (s t : ShelvesView) (xs : List StartedVolume) → AreShelved s xs t → length t.drives ≡ length s.drives
AreShelved-length s t [] same = ap (λ v. length v.drives) same
AreShelved-length s t (x ∷ xs) those =
    AreShelved-length those.0 t xs those.2 ∙ IsShelved-length s those.0 x.element x.volume those.1

-- one drive more
drive_units-more : (ds : List DriveView) (d : DriveView) (lun at units : ℕ) → at ≡ lun + length ds
    → drive_units (ds ++ d ∷ []) lun units ≡ drive_units ds lun units ++ made (Drive d) at units 0 ∷ []
drive_units-more [] d lun at units is =
    let same : lun ≡ at = omega arith in
    ap (λ n. made (Drive d) n units 0 ∷ []) same
drive_units-more (x ∷ ds) d lun at units is =
    let next : at ≡ (lun + 1) + length ds = omega arith in
    ap (λ rest. made (Drive x) lun units 0 ∷ rest) (drive_units-more ds d (lun + 1) at units next)

pub units_over-more : (hosts : Option HostChanger) (us : List UnitWithRoom) (u : UnitWithRoom) (units lun : ℕ) (e : Elements) (ds : List DriveView) (d : DriveView)
    → units_of us ≡ units_over hosts units (record { elements = e; drives = ds })
    → u ≡ record { unit = made (Drive d) lun units 0; room = 0 } → lun ≡ length ds + 1
    → units_of (us ++ u ∷ []) ≡ units_over hosts units (record { elements = e; drives = ds ++ d ∷ [] })
units_over-more hosts us u units lun e ds d those is at =
    let from_one : lun ≡ 1 + length ds = omega arith in
    map-append (λ v. v.unit) us (u ∷ [])
    ∙ ap (λ vs. vs ++ u.unit ∷ []) those
    ∙ ap (λ v. units_over hosts units (record { elements = e; drives = ds }) ++ v.unit ∷ []) is
    ∙ ap (λ rest. units_over hosts units (record { elements = e; drives = [] }) ++ rest) (sym (drive_units-more ds d 1 lun units from_one))

-- A class's name at the left of its places is what `{:<27}` writes of it.
use Rattle.std.proofs.Common.{◌≡◌, ◌^◌, ◌-◌, Bool, refl}
use Rattle.std.proofs.lemmas.Slice.Eq.{bytes_eq-Decides}
use Rattle.std.specs.Str.{bytes_eq}
use Rattle.permission_chart.proofs.EachClass.{each_class}
use Rattle.std.proofs.Math.Utf8.{encode}
use Rattle.std.specs.Fmt.{padded, take_chars, char_count, format_spec}
use Rattle.permission_chart.specs.Chart.{at_left}
use Rattle.permit_tables.specs.Text.{class_name}
use Rattle.scsi_cdb.specs.declared.classes.Class.{Class}

pub padded-class_name : (c : Class) → padded (format_spec 32 1 0 27 (2 ^ 64 - 1)) (class_name c) ≡ at_left 27 (class_name c)
unfolding padded take_chars char_count encode
padded-class_name c =
    let same : (x : Class) → Bool = λ x. bytes_eq (padded (format_spec 32 1 0 27 (2 ^ 64 - 1)) (class_name x)) (at_left 27 (class_name x)) in
    (bytes_eq-Decides _ _).0 (each_class same refl c)

-- The kinds of units by their numbers (profile), and the commands of a unit by the profile and its kind.
use Rattle.std.specs.Prelude.{ℕ, ◌==◌, if◌then◌else◌}
use Rattle.scsi_cdb.specs.declared.kind.Kind.{Kind}
use Rattle.scsi_cdb.specs.declared.kind.Kind.TheVariants.{Drive, Changer}
use Rattle.scsi_cdb.specs.declared.profile.CommandSet.{CommandSet}
use Rattle.scsi_cdb.specs.declared.profile.Profile.{Profile}

-- the changer is logical unit 0, and the drives are the others
abbrev pub kind_at : (lun : ℕ) → Kind
kind_at lun = if lun == 0 then Changer else Drive

-- the commands of units of a kind in libraries of a profile
abbrev pub commands : Profile → Kind → CommandSet
commands profile kind = record { profile = profile; kind = kind }

-- those of the unit of a number
abbrev pub commands_at : Profile → (lun : ℕ) → CommandSet
commands_at profile lun = commands profile (kind_at lun)

-- In the default profile the fields of each of the device's commands are refused by a condition of its class.
use Rattle.std.proofs.Common.{◌≡◌, ℕ, Bool, true, false, List, Option, Some, None, refl}
use Rattle.std.specs.Prelude.{◌+◌, ◌==◌, nat_lt, not, ◌&&◌, length, cond}
use Rattle.scsi_cdb.specs.declared.classes.Class.{Class}
use Rattle.scsi_cdb.specs.declared.classes.Class.TheVariants as class
use Rattle.scsi_cdb.specs.declared.kind.Kind.{Kind}
use Rattle.scsi_cdb.specs.declared.profile.Profile.{Profile}
use Rattle.scsi_cdb.specs.declared.profile.Profile.TheVariants.{Spec}
use Rattle.scsi_cdb.specs.declared.request.Request.{Request}
use Rattle.scsi_cdb.specs.declared.request.Request.TheVariants as request
use Rattle.scsi_cdb.specs.Classes.{class_of}
use Rattle.scsi_sense.specs.declared.condition.Condition.{Condition}
use Rattle.scsi_sense.specs.declared.condition.Condition.TheVariants.{InvalidFieldInCdb, InvalidFieldInParameterList, ParameterListLengthError, SavingParametersNotSupported}
use Rattle.device_server.specs.Fields.{invalid_where, mode_select_fault, write_fault, spec_field_fault}
use Rattle.tape_medium.specs.Limits.{most_block}
use Rattle.device_server.specs.Mode.{list_fault, descriptor_length, block_length_in}
use Rattle.logical_unit.specs.Legal.{is_field_fault}

-- nothing is refused, or what may be reported of the class
abbrev pub IsFaultIf : Class → Option Condition → Type 0
IsFaultIf class None = Unit {0}
IsFaultIf class (Some condition) = is_field_fault class condition ≡ true

pub where_fits : (k : Class) (wrong : Bool) → is_field_fault k InvalidFieldInCdb ≡ true → IsFaultIf k (invalid_where wrong)
where_fits k true h = h
where_fits k false h = tt

sense_fits : (saved wrong : Bool) → IsFaultIf class.ModeSense (cond saved (Some SavingParametersNotSupported) (invalid_where wrong))
sense_fits true wrong = refl
sense_fits false wrong = where_fits class.ModeSense wrong refl

pub write_fits : (p : Profile) (fixed : Bool) (l : ℕ) (bytes : List ℕ) → IsFaultIf class.Write (write_fault p fixed l bytes)
write_fits p true l bytes = tt
write_fits p false l bytes = where_fits class.Write _ refl

-- the tests of MODE SELECT's list, one after another
tests_fit : (none other short unknown wrong long : Bool)
    → IsFaultIf class.ModeSelect (cond none None (cond other (Some ParameterListLengthError) (cond short (Some ParameterListLengthError) (cond unknown (Some InvalidFieldInParameterList) (cond wrong (Some ParameterListLengthError) (cond long (Some InvalidFieldInParameterList) None))))))
tests_fit true other short unknown wrong long = tt
tests_fit false true short unknown wrong long = refl
tests_fit false false true unknown wrong long = refl
tests_fit false false false true wrong long = refl
tests_fit false false false false true long = refl
tests_fit false false false false false true = refl
tests_fit false false false false false false = tt

list_fits : (told : ℕ) (list : List ℕ) → IsFaultIf class.ModeSelect (list_fault told list)
list_fits told list =
    let described = descriptor_length list in
    tests_fit (told == 0) (not (length list == told)) (nat_lt told 4) (not (described == 0) && not (described == 8)) (not (told == 4 + described)) (described == 8 && nat_lt (most_block Spec) (block_length_in list))

select_fits : (save : Bool) (told : ℕ) (list : List ℕ) → IsFaultIf class.ModeSelect (mode_select_fault save told list)
select_fits true told list = refl
select_fits false told list = list_fits told list

pub spec_fits : (kind : Kind) (r : Request) (bytes : List ℕ) → IsFaultIf (class_of r) (spec_field_fault kind r bytes)
spec_fits kind request.TestUnitReady bytes = tt
spec_fits kind request.Rewind bytes = tt
spec_fits kind (request.RequestSense desc l) bytes = tt
spec_fits kind request.ReadBlockLimits bytes = tt
spec_fits kind request.InitializeElementStatus bytes = tt
spec_fits kind (request.Read sili fixed l) bytes = where_fits class.Read _ refl
spec_fits kind (request.Write fixed l) bytes = write_fits Spec fixed l bytes
spec_fits kind (request.WriteFilemarks wsmk immed l) bytes = where_fits class.WriteFilemarks wsmk refl
spec_fits kind (request.Space code l) bytes = where_fits class.Space _ refl
spec_fits kind (request.Inquiry evpd page l) bytes = tt
spec_fits kind (request.ModeSelect sp l) bytes = select_fits sp l bytes
spec_fits kind request.Erase bytes = tt
spec_fits kind (request.ModeSense dbd pc page subpage l) bytes = sense_fits _ _
spec_fits kind (request.LoadUnload hold eot load) bytes = where_fits class.LoadUnload _ refl
spec_fits kind (request.PreventAllowMediumRemoval prevent) bytes = tt
spec_fits kind (request.Locate bt cp object partition) bytes = where_fits class.Locate _ refl
spec_fits kind request.ReadPosition bytes = tt
spec_fits kind (request.PersistentReserveIn action l) bytes = tt
spec_fits kind (request.PersistentReserveOut action scope_type l) bytes = tt
spec_fits kind (request.ReportLuns select l) bytes = tt
spec_fits kind (request.MoveMedium transport source destination invert) bytes = where_fits class.MoveMedium invert refl
spec_fits kind (request.ReadElementStatus voltag type_code start count true dvcid l) bytes = where_fits class.ReadElementStatusCurdata _ refl
spec_fits kind (request.ReadElementStatus voltag type_code start count false dvcid l) bytes = where_fits class.ReadElementStatus _ refl
spec_fits kind (request.Host command) bytes = tt

-- In the hosts' profile too the fields of each of the device's commands are refused by a condition of its class.
use Rattle.std.proofs.Common.{ℕ, Bool, true, false, List, [], ◌∷◌, Option, Some, None, Result, Ok, Err, refl}
use Rattle.std.specs.Prelude.{cond, length, drop, zero, suc, ◌==◌, ◌||◌, ◌&&◌, not, nat_lt}
use Rattle.std.specs.Option.{option_map}
use Rattle.scsi_cdb.specs.Bits.{bits, byte}
use Rattle.scsi_cdb.specs.Classes.{class_of}
use Rattle.scsi_cdb.specs.declared.classes.Class.TheVariants as class
use Rattle.scsi_cdb.specs.declared.host_request.HostRequest.{HostRequest}
use Rattle.scsi_cdb.specs.declared.host_request.HostRequest.TheVariants as host
use Rattle.scsi_cdb.specs.declared.kind.Kind.{Kind}
use Rattle.scsi_cdb.specs.declared.kind.Kind.TheVariants as kind
use Rattle.scsi_cdb.specs.declared.profile.CommandSet.{CommandSet}
use Rattle.scsi_cdb.specs.declared.profile.Profile.{Profile}
use Rattle.scsi_cdb.specs.declared.profile.Profile.TheVariants.{Spec, Hosts}
use Rattle.scsi_cdb.specs.declared.request.Request.{Request}
use Rattle.scsi_cdb.specs.declared.request.Request.TheVariants as request
use Rattle.scsi_sense.specs.declared.condition.Condition.{Condition}
use Rattle.scsi_sense.specs.declared.condition.Condition.TheVariants.{InvalidFieldInCdb, InvalidFieldInParameterList, ParameterListLengthError}
use Rattle.tape_medium.specs.Limits.{most_block}
use Rattle.mode_pages.specs.Asked.{asked, is_offered, asked_fault}
use Rattle.mode_pages.specs.DrivePages.{page_of_code, page_length}
use Rattle.mode_pages.specs.Lists.{header_length}
use Rattle.mode_pages.specs.Select as mode
use Rattle.mode_pages.specs.Values.{mode_values, default_values}
use Rattle.mode_pages.specs.declared.asked.PagesAsked.{PagesAsked}
use Rattle.mode_pages.specs.declared.drive_page.DrivePage.{DrivePage}
use Rattle.mode_pages.specs.declared.request.HeaderForm.{HeaderForm}
use Rattle.mode_pages.specs.declared.request.HeaderForm.TheVariants.{Six, Ten}
use Rattle.mode_pages.specs.declared.request.ModeSense.{ModeSense}
use Rattle.mode_pages.specs.declared.request.PageControl.{PageControl}
use Rattle.mode_pages.specs.declared.request.PageControl.TheVariants as control
use Rattle.mode_pages.specs.declared.values.ModeValues.{ModeValues}
use Rattle.log_pages.specs.LogSelect as log
use Rattle.log_pages.specs.LogSense.{is_refused, page_fault}
use Rattle.log_pages.specs.Pages.{common_page_at, drive_page_at, last_of_common, last_of_drive}
use Rattle.log_pages.specs.declared.change.LogChange.{LogChange}
use Rattle.log_pages.specs.declared.change.LogChange.TheVariants.{Unchanged}
use Rattle.log_pages.specs.declared.log_select.LogSelect.{LogSelect}
use Rattle.log_pages.specs.declared.log_sense.LogSense.{LogSense}
use Rattle.supported_commands.specs.Answers as codes
use Rattle.supported_commands.specs.Options.{options_at}
use Rattle.supported_commands.specs.declared.options.ReportingOptions.{ReportingOptions}
use Rattle.device_server.specs.FieldFaults.{field_fault_by, field_fault_of}
use Rattle.device_server.specs.Hosts.{mode_sense, log_sense, log_select, codes_fault}
use Rattle.device_server.specs.HostFields.{refusal_of, host_mode_sense_fault, log_sense_fault, host_command_fault, host_field_fault}
use Rattle.logical_unit.proofs.FieldFaults.{IsFaultIf, where_fits, write_fits, spec_fits}

-- LISTS. What is refused of a MODE SELECT, and of a LOG SELECT, is of the CDB or of the list
abbrev Fits : {A : Type 0} → Result A Condition → Type 0
Fits r = IsFaultIf class.ModeSelect (refusal_of r)

either_fits : {A : Type 0} (b : Bool) (x y : Result A Condition) → Fits x → Fits y → Fits (cond b x y)
either_fits true x y p q = p
either_fits false x y p q = q

-- MODE SELECT: the head of a page, and each page
taken_fits : (page : Option DrivePage) (bytes : List ℕ) → Fits (mode.page_taken page bytes)
taken_fits None bytes = refl
taken_fits (Some page) bytes =
    either_fits (not (byte bytes 1 == page_length page) || mode.asks_too_much page bytes) (Err InvalidFieldInParameterList) (Ok page) refl tt

head_fits : (bytes : List ℕ) → Fits (mode.head_page bytes)
head_fits bytes =
    either_fits (nat_lt (length bytes) (mode.page_header_length bytes)) (Err ParameterListLengthError) _ refl
    (either_fits (nat_lt (length bytes) (mode.page_size bytes)) (Err ParameterListLengthError) _ refl
    (either_fits (mode.has_subpage bytes) (Err InvalidFieldInParameterList) (mode.page_taken (page_of_code (bits bytes 0 5 0)) bytes) refl
    (taken_fits (page_of_code (bits bytes 0 5 0)) bytes)))

then_fits : (page : Result DrivePage Condition) (next : DrivePage → Result ModeValues Condition) → Fits page → ((p : DrivePage) → Fits (next p))
    → Fits (mode.then_on page next)
then_fits (Err condition) next head rest = head
then_fits (Ok page) next head rest = rest page

pages_fit : (bytes : List ℕ) (most : ℕ) (before : ModeValues) → Fits (mode.pages_taken bytes most before)
unfolding mode.pages_taken
pages_fit [] most before = tt
pages_fit (b ∷ bytes) zero before = tt
pages_fit (b ∷ bytes) (suc most) before =
    then_fits (mode.head_page (b ∷ bytes)) (λ page. mode.pages_taken (drop (mode.page_size (b ∷ bytes)) (b ∷ bytes)) most (mode.with_page page (b ∷ bytes) before))
    (head_fits (b ∷ bytes)) (λ page. pages_fit (drop (mode.page_size (b ∷ bytes)) (b ∷ bytes)) most (mode.with_page page (b ∷ bytes) before))

and_fits : (values : Result ModeValues Condition) (bytes : List ℕ) → Fits values → Fits (mode.and_pages values bytes)
and_fits (Err condition) bytes fits = fits
and_fits (Ok values) bytes fits = pages_fit bytes (length bytes) values

-- the block descriptor before them
descriptor_fits : (most : ℕ) (form : HeaderForm) (list : List ℕ) (before : ModeValues) → Fits (mode.with_descriptor most form list before)
descriptor_fits most form list before =
    either_fits (mode.descriptor_length form list == 0) (Ok before) _ tt
    (either_fits (nat_lt most (mode.block_length_in form list)) (Err InvalidFieldInParameterList)
    (Ok (mode_values (mode.block_length_in form list) before.compression)) refl tt)

selected_fits : (before : ModeValues) (most : ℕ) (form : HeaderForm) (save_pages : Bool) (told : ℕ) (list : List ℕ)
    → Fits (mode.selected before most form save_pages told list)
selected_fits before most form save_pages told list =
    let values = mode.with_descriptor most form list before in
    let pages : List ℕ = drop (mode.pages_at form list) list in
    either_fits save_pages (Err InvalidFieldInCdb) _ refl
    (either_fits (told == 0) (Ok before) _ tt
    (either_fits (not (length list == told)) (Err ParameterListLengthError) _ refl
    (either_fits (nat_lt told (header_length form)) (Err ParameterListLengthError) _ refl
    (either_fits (mode.has_long_lba form list) (Err InvalidFieldInParameterList) _ refl
    (either_fits (not (mode.is_descriptor_length (mode.descriptor_length form list))) (Err InvalidFieldInParameterList) _ refl
    (either_fits (nat_lt told (mode.pages_at form list)) (Err ParameterListLengthError) (mode.and_pages values pages) refl
    (and_fits values pages (descriptor_fits most form list before))))))))

-- LOG SELECT
reset_fits : (pages : Option LogChange) (select : LogSelect) (data_length : ℕ) → Fits (log.selected_pages pages select data_length)
reset_fits None select data_length = refl
reset_fits (Some pages) select data_length =
    either_fits select.save_parameters (Err InvalidFieldInCdb) _ refl
    (either_fits (select.parameter_code_reset && not (select.list_length == 0)) (Err InvalidFieldInCdb) _ refl
    (either_fits select.parameter_code_reset (Ok pages) _ tt
    (either_fits (select.list_length == 0) (Ok Unchanged) _ tt
    (either_fits (not (select.list_length == data_length)) (Err ParameterListLengthError) (Err InvalidFieldInParameterList) refl refl))))

log_selected_fits : (k : Kind) (select : LogSelect) (data_length : ℕ) → Fits (log.selected k select data_length)
log_selected_fits k select data_length = reset_fits (log.pages_reset k select.page_code select.subpage_code) select data_length

-- MODE SENSE: of the CDB, or saved values are asked for
offered_fits : (is : Bool) → IsFaultIf class.ModeSense (cond is None (Some InvalidFieldInCdb))
offered_fits true = tt
offered_fits false = refl

asked_fits : (page_control : PageControl) (pages : PagesAsked) (has_page : Bool) → IsFaultIf class.ModeSense (asked_fault page_control pages has_page)
asked_fits control.Current pages has_page = offered_fits (is_offered pages has_page)
asked_fits control.Changeable pages has_page = offered_fits (is_offered pages has_page)
asked_fits control.Default pages has_page = offered_fits (is_offered pages has_page)
asked_fits control.Saved pages has_page = refl

mode_sense_fits : (k : Kind) (sense : ModeSense) → IsFaultIf class.ModeSense (host_mode_sense_fault k sense)
mode_sense_fits kind.Drive sense = asked_fits sense.page_control (asked sense.page_code sense.subpage_code) _
mode_sense_fits kind.Changer sense = asked_fits sense.page_control (asked sense.page_code sense.subpage_code) _

-- LOG SENSE
page_fits : (last_code : Option ℕ) (sense : LogSense) → IsFaultIf class.LogSense (page_fault last_code sense)
page_fits None sense = refl
page_fits (Some last_code) sense = where_fits class.LogSense (is_refused sense last_code) refl

log_sense_fits : (k : Kind) (sense : LogSense) → IsFaultIf class.LogSense (log_sense_fault k sense)
log_sense_fits kind.Drive sense = page_fits (option_map last_of_drive (drive_page_at sense.page_code sense.subpage_code)) sense
log_sense_fits kind.Changer sense = page_fits (option_map last_of_common (common_page_at sense.page_code sense.subpage_code)) sense

-- REPORT SUPPORTED OPERATION CODES
codes_fit : (k : Kind) (rctd : Bool) (options : Option ReportingOptions) (code action : ℕ)
    → IsFaultIf class.ReportSupportedOperationCodes (codes_fault k rctd options code action)
codes_fit k rctd None code action = refl
codes_fit k rctd (Some options) code action =
    where_fits class.ReportSupportedOperationCodes (codes.is_refused options (codes.command_with_code k code)) refl

-- THE COMMANDS that only this profile has, and all
command_fits : (k : Kind) (command : HostRequest) (bytes : List ℕ) → IsFaultIf (class_of (request.Host command)) (host_command_fault k command bytes)
command_fits k (host.SendDiagnostic code test l) bytes = where_fits class.SendDiagnostic (not (code == 0) || not (l == 0)) refl
command_fits k (host.LogSelect pcr sp pc page subpage l) bytes = log_selected_fits k (log_select pcr sp page subpage l) (length bytes)
command_fits k (host.LogSense ppc sp pc page subpage pointer l) bytes = log_sense_fits k (log_sense ppc sp page subpage pointer)
command_fits k (host.ModeSelect10 sp l) bytes = selected_fits default_values (most_block Hosts) Ten sp l bytes
command_fits k (host.ModeSense10 dbd pc page subpage l) bytes = mode_sense_fits k (mode_sense Ten dbd pc page subpage)
command_fits k (host.ReportSupportedOperationCodes rctd options code action l) bytes = codes_fit k rctd (options_at options) code action
command_fits k (host.ReportSupportedTaskManagementFunctions repd l) bytes = tt
command_fits k (host.PositionToElement transport destination invert) bytes = where_fits class.PositionToElement invert refl
command_fits k (host.ExchangeMedium transport source first second inv1 inv2) bytes = where_fits class.ExchangeMedium (inv1 || inv2) refl
command_fits k (host.InitializeElementStatusWithRange fast range start count) bytes = tt

-- READ ELEMENT STATUS has a class of its own with CURDATA
status_fits : (curdata wrong : Bool) → IsFaultIf (cond curdata class.ReadElementStatusCurdata class.ReadElementStatus) (cond wrong (Some InvalidFieldInCdb) None)
status_fits true wrong = where_fits class.ReadElementStatusCurdata wrong refl
status_fits false wrong = where_fits class.ReadElementStatus wrong refl

host_fits : (k : Kind) (r : Request) (bytes : List ℕ) → IsFaultIf (class_of r) (host_field_fault k r bytes)
host_fits k (request.Write fixed l) bytes = write_fits Hosts fixed l bytes
host_fits k (request.ModeSelect sp l) bytes = selected_fits default_values (most_block Hosts) Six sp l bytes
host_fits k (request.ModeSense dbd pc page subpage l) bytes = mode_sense_fits k (mode_sense Six dbd pc page subpage)
host_fits k (request.LoadUnload hold eot load) bytes = where_fits class.LoadUnload (eot || hold && load) refl
host_fits k (request.Locate bt cp object partition) bytes = where_fits class.Locate (cp && not (partition == 0)) refl
host_fits k (request.ReadElementStatus voltag type_code start count curdata dvcid l) bytes = status_fits curdata (nat_lt 4 type_code)
host_fits k (request.Host command) bytes = command_fits k command bytes
host_fits k r bytes = spec_fits k r bytes

-- BY THE PROFILE
profile_fits : (p : Profile) (k : Kind) (r : Request) (bytes : List ℕ) → IsFaultIf (class_of r) (field_fault_by p k r bytes)
profile_fits Spec k r bytes = spec_fits k r bytes
profile_fits Hosts k r bytes = host_fits k r bytes

pub fields_fit : (commands : CommandSet) (r : Request) (bytes : List ℕ) → IsFaultIf (class_of r) (field_fault_of commands r bytes)
fields_fit commands r bytes = profile_fits commands.profile commands.kind r bytes

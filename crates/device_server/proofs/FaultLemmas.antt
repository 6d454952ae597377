-- What is refused by fields reports something else than 44h/00h.
use Rattle.std.proofs.Common.{◌≡◌, ℕ, Bool, true, false, List, [], ◌∷◌, Option, Some, None, Result, Ok, Err, refl}
use Rattle.std.specs.Prelude.{cond, length, drop, zero, suc, ◌==◌, ◌||◌, ◌&&◌, ◌+◌, not, nat_lt}
use Rattle.scsi_cdb.specs.Bits.{bits, byte}
use Rattle.scsi_cdb.specs.declared.host_request.HostRequest.{HostRequest}
use Rattle.scsi_cdb.specs.declared.host_request.HostRequest.TheVariants as host
use Rattle.scsi_cdb.specs.declared.kind.Kind.{Kind}
use Rattle.scsi_cdb.specs.declared.kind.Kind.TheVariants as kind
use Rattle.scsi_cdb.specs.declared.profile.CommandSet.{CommandSet}
use Rattle.scsi_cdb.specs.declared.profile.Profile.{Profile}
use Rattle.scsi_cdb.specs.declared.profile.Profile.TheVariants.{Spec, Hosts}
use Rattle.scsi_cdb.specs.declared.request.Request.{Request}
use Rattle.scsi_cdb.specs.declared.request.Request.TheVariants as request
use Rattle.scsi_sense.specs.Conditions.{sense_for}
use Rattle.scsi_sense.specs.declared.condition.Condition.{Condition}
use Rattle.scsi_sense.specs.declared.condition.Condition.TheVariants.{InvalidFieldInCdb, InvalidFieldInParameterList, ParameterListLengthError, SavingParametersNotSupported}
use Rattle.tape_medium.specs.Limits.{most_block}
use Rattle.mode_pages.specs.Asked.{asked, is_offered, asked_fault}
use Rattle.mode_pages.specs.DrivePages.{page_of_code, page_length}
use Rattle.mode_pages.specs.Lists.{header_length}
use Rattle.mode_pages.specs.Select as mode
use Rattle.mode_pages.specs.Values.{mode_values, default_values}
use Rattle.mode_pages.specs.declared.asked.PagesAsked.{PagesAsked}
use Rattle.mode_pages.specs.declared.drive_page.DrivePage.{DrivePage}
use Rattle.mode_pages.specs.declared.request.HeaderForm.{HeaderForm}
use Rattle.mode_pages.specs.declared.request.HeaderForm.TheVariants.{Six, Ten}
use Rattle.mode_pages.specs.declared.request.ModeSense.{ModeSense}
use Rattle.mode_pages.specs.declared.request.PageControl.{PageControl}
use Rattle.mode_pages.specs.declared.request.PageControl.TheVariants as control
use Rattle.mode_pages.specs.declared.values.ModeValues.{ModeValues}
use Rattle.log_pages.specs.LogSelect as log
use Rattle.log_pages.specs.LogSense.{is_refused, page_fault}
use Rattle.log_pages.specs.Pages.{common_page_at, drive_page_at, last_of_common, last_of_drive}
use Rattle.log_pages.specs.declared.change.LogChange.{LogChange}
use Rattle.log_pages.specs.declared.change.LogChange.TheVariants.{Unchanged}
use Rattle.log_pages.specs.declared.log_select.LogSelect.{LogSelect}
use Rattle.log_pages.specs.declared.log_sense.LogSense.{LogSense}
use Rattle.supported_commands.specs.Answers as codes
use Rattle.supported_commands.specs.Options.{options_at}
use Rattle.supported_commands.specs.declared.options.ReportingOptions.{ReportingOptions}
use Rattle.std.specs.Option.{option_map}
use Rattle.device_server.specs.Failures.{is_failure}
use Rattle.device_server.specs.Fields.{invalid_where, is_page_of, spec_field_fault}
use Rattle.device_server.specs.FieldFaults.{field_fault_by, field_fault_of}
use Rattle.device_server.specs.Hosts.{mode_sense, log_sense, log_select, codes_fault}
use Rattle.device_server.specs.HostFields.{refusal_of, host_mode_sense_fault, log_sense_fault, host_command_fault, host_field_fault}
use Rattle.device_server.specs.Mode.{descriptor_length, block_length_in, list_fault}

abbrev pub fault_fails : Option Condition → Bool
fault_fails None = false
fault_fails (Some condition) = is_failure (Some (sense_for condition))

pub invalid_free : (wrong : Bool) → fault_fails (invalid_where wrong) ≡ false
invalid_free true = refl
invalid_free false = refl

either_fault : (b : Bool) (x y : Option Condition) → fault_fails x ≡ false → fault_fails y ≡ false → fault_fails (cond b x y) ≡ false
either_fault true x y p q = p
either_fault false x y p q = q

list_free : (told : ℕ) (list : List ℕ) → fault_fails (list_fault told list) ≡ false
list_free told list =
    let d = descriptor_length list in
    either_fault (told == 0) None _ refl
    (either_fault (not (length list == told)) (Some ParameterListLengthError) _ refl
    (either_fault (nat_lt told 4) (Some ParameterListLengthError) _ refl
    (either_fault (not (d == 0) && not (d == 8)) (Some InvalidFieldInParameterList) _ refl
    (either_fault (not (told == 4 + d)) (Some ParameterListLengthError) _ refl
    (either_fault (d == 8 && nat_lt (most_block Spec) (block_length_in list)) (Some InvalidFieldInParameterList) None refl refl)))))

spec_free : (kind : Kind) (r : Request) (bytes : List ℕ) → fault_fails (spec_field_fault kind r bytes) ≡ false
spec_free kind (request.Read sili fixed l) bytes = invalid_free (sili && fixed)
spec_free kind (request.Write true l) bytes = refl
spec_free kind (request.Write false l) bytes = invalid_free (nat_lt (most_block Spec) l || not (length bytes == l))
spec_free kind (request.WriteFilemarks wsmk immed count) bytes = invalid_free wsmk
spec_free kind (request.Space code count) bytes = invalid_free _
spec_free kind (request.ModeSelect true l) bytes = refl
spec_free kind (request.ModeSelect false l) bytes = list_free l bytes
spec_free kind (request.ModeSense dbd pc page subpage l) bytes =
    either_fault (pc == 3) (Some SavingParametersNotSupported) _ refl (invalid_free (not (pc == 0) || not (subpage == 0) || not (is_page_of kind page)))
spec_free kind (request.LoadUnload hold eot load) bytes = invalid_free (hold || eot)
spec_free kind (request.Locate bt cp object partition) bytes = invalid_free (bt || cp)
spec_free kind (request.MoveMedium transport source destination invert) bytes = invalid_free invert
spec_free kind (request.ReadElementStatus voltag type_code start count curdata dvcid l) bytes = invalid_free (nat_lt 4 type_code || dvcid)
spec_free kind r bytes = refl

-- THE HOSTS' PROFILE. An answer that refuses reports something else too
abbrev pub fails : {A : Type 0} → Result A Condition → Bool
fails r = fault_fails (refusal_of r)

pub either_answer : {A : Type 0} (b : Bool) (x y : Result A Condition) → fails x ≡ false → fails y ≡ false → fails (cond b x y) ≡ false
either_answer true x y p q = p
either_answer false x y p q = q

-- MODE SELECT
taken_free : (page : Option DrivePage) (bytes : List ℕ) → fails (mode.page_taken page bytes) ≡ false
taken_free None bytes = refl
taken_free (Some page) bytes =
    either_answer (not (byte bytes 1 == page_length page) || mode.asks_too_much page bytes) (Err InvalidFieldInParameterList) (Ok page) refl refl

head_free : (bytes : List ℕ) → fails (mode.head_page bytes) ≡ false
head_free bytes =
    either_answer (nat_lt (length bytes) (mode.page_header_length bytes)) (Err ParameterListLengthError) _ refl
    (either_answer (nat_lt (length bytes) (mode.page_size bytes)) (Err ParameterListLengthError) _ refl
    (either_answer (mode.has_subpage bytes) (Err InvalidFieldInParameterList) (mode.page_taken (page_of_code (bits bytes 0 5 0)) bytes) refl
    (taken_free (page_of_code (bits bytes 0 5 0)) bytes)))

then_free : (page : Result DrivePage Condition) (next : DrivePage → Result ModeValues Condition) → fails page ≡ false
    → ((p : DrivePage) → fails (next p) ≡ false) → fails (mode.then_on page next) ≡ false
then_free (Err condition) next head rest = head
then_free (Ok page) next head rest = rest page

pages_free : (bytes : List ℕ) (most : ℕ) (before : ModeValues) → fails (mode.pages_taken bytes most before) ≡ false
unfolding mode.pages_taken
pages_free [] most before = refl
pages_free (b ∷ bytes) zero before = refl
pages_free (b ∷ bytes) (suc most) before =
    then_free (mode.head_page (b ∷ bytes)) (λ page. mode.pages_taken (drop (mode.page_size (b ∷ bytes)) (b ∷ bytes)) most (mode.with_page page (b ∷ bytes) before))
    (head_free (b ∷ bytes)) (λ page. pages_free (drop (mode.page_size (b ∷ bytes)) (b ∷ bytes)) most (mode.with_page page (b ∷ bytes) before))

and_free : (values : Result ModeValues Condition) (bytes : List ℕ) → fails values ≡ false → fails (mode.and_pages values bytes) ≡ false
and_free (Err condition) bytes free = free
and_free (Ok values) bytes free = pages_free bytes (length bytes) values

descriptor_free : (most : ℕ) (form : HeaderForm) (list : List ℕ) (before : ModeValues) → fails (mode.with_descriptor most form list before) ≡ false
descriptor_free most form list before =
    either_answer (mode.descriptor_length form list == 0) (Ok before) _ refl
    (either_answer (nat_lt most (mode.block_length_in form list)) (Err InvalidFieldInParameterList)
    (Ok (mode_values (mode.block_length_in form list) before.compression)) refl refl)

pub selected_free : (before : ModeValues) (most : ℕ) (form : HeaderForm) (save_pages : Bool) (told : ℕ) (list : List ℕ)
    → fails (mode.selected before most form save_pages told list) ≡ false
selected_free before most form save_pages told list =
    let values = mode.with_descriptor most form list before in
    let pages : List ℕ = drop (mode.pages_at form list) list in
    either_answer save_pages (Err InvalidFieldInCdb) _ refl
    (either_answer (told == 0) (Ok before) _ refl
    (either_answer (not (length list == told)) (Err ParameterListLengthError) _ refl
    (either_answer (nat_lt told (header_length form)) (Err ParameterListLengthError) _ refl
    (either_answer (mode.has_long_lba form list) (Err InvalidFieldInParameterList) _ refl
    (either_answer (not (mode.is_descriptor_length (mode.descriptor_length form list))) (Err InvalidFieldInParameterList) _ refl
    (either_answer (nat_lt told (mode.pages_at form list)) (Err ParameterListLengthError) (mode.and_pages values pages) refl
    (and_free values pages (descriptor_free most form list before))))))))

-- MODE SENSE
offered_free : (is : Bool) → fault_fails (cond is None (Some InvalidFieldInCdb)) ≡ false
offered_free true = refl
offered_free false = refl

pub asked_free : (page_control : PageControl) (pages : PagesAsked) (has_page : Bool) → fault_fails (asked_fault page_control pages has_page) ≡ false
asked_free control.Current pages has_page = offered_free (is_offered pages has_page)
asked_free control.Changeable pages has_page = offered_free (is_offered pages has_page)
asked_free control.Default pages has_page = offered_free (is_offered pages has_page)
asked_free control.Saved pages has_page = refl

pub mode_sense_free : (k : Kind) (sense : ModeSense) → fault_fails (host_mode_sense_fault k sense) ≡ false
mode_sense_free kind.Drive sense = asked_free sense.page_control (asked sense.page_code sense.subpage_code) _
mode_sense_free kind.Changer sense = asked_free sense.page_control (asked sense.page_code sense.subpage_code) _

-- LOG SENSE and LOG SELECT
page_free : (last_code : Option ℕ) (sense : LogSense) → fault_fails (page_fault last_code sense) ≡ false
page_free None sense = refl
page_free (Some last_code) sense = invalid_free (is_refused sense last_code)

pub log_sense_free : (k : Kind) (sense : LogSense) → fault_fails (log_sense_fault k sense) ≡ false
log_sense_free kind.Drive sense = page_free (option_map last_of_drive (drive_page_at sense.page_code sense.subpage_code)) sense
log_sense_free kind.Changer sense = page_free (option_map last_of_common (common_page_at sense.page_code sense.subpage_code)) sense

reset_free : (pages : Option LogChange) (select : LogSelect) (data_length : ℕ) → fails (log.selected_pages pages select data_length) ≡ false
reset_free None select data_length = refl
reset_free (Some pages) select data_length =
    either_answer select.save_parameters (Err InvalidFieldInCdb) _ refl
    (either_answer (select.parameter_code_reset && not (select.list_length == 0)) (Err InvalidFieldInCdb) _ refl
    (either_answer select.parameter_code_reset (Ok pages) _ refl
    (either_answer (select.list_length == 0) (Ok Unchanged) _ refl
    (either_answer (not (select.list_length == data_length)) (Err ParameterListLengthError) (Err InvalidFieldInParameterList) refl refl))))

pub log_selected_free : (k : Kind) (select : LogSelect) (data_length : ℕ) → fails (log.selected k select data_length) ≡ false
log_selected_free k select data_length = reset_free (log.pages_reset k select.page_code select.subpage_code) select data_length

-- REPORT SUPPORTED OPERATION CODES
codes_free : (k : Kind) (rctd : Bool) (options : Option ReportingOptions) (code action : ℕ) → fault_fails (codes_fault k rctd options code action) ≡ false
codes_free k rctd None code action = refl
codes_free k rctd (Some options) code action = invalid_free (codes.is_refused options (codes.command_with_code k code))

command_free : (k : Kind) (command : HostRequest) (bytes : List ℕ) → fault_fails (host_command_fault k command bytes) ≡ false
command_free k (host.SendDiagnostic code test l) bytes = invalid_free (not (code == 0) || not (l == 0))
command_free k (host.LogSelect pcr sp pc page subpage l) bytes = log_selected_free k (log_select pcr sp page subpage l) (length bytes)
command_free k (host.LogSense ppc sp pc page subpage pointer l) bytes = log_sense_free k (log_sense ppc sp page subpage pointer)
command_free k (host.ModeSelect10 sp l) bytes = selected_free default_values (most_block Hosts) Ten sp l bytes
command_free k (host.ModeSense10 dbd pc page subpage l) bytes = mode_sense_free k (mode_sense Ten dbd pc page subpage)
command_free k (host.ReportSupportedOperationCodes rctd options code action l) bytes = codes_free k rctd (options_at options) code action
command_free k (host.ReportSupportedTaskManagementFunctions repd l) bytes = refl
command_free k (host.PositionToElement transport destination invert) bytes = invalid_free invert
command_free k (host.ExchangeMedium transport source first second inv1 inv2) bytes = invalid_free (inv1 || inv2)
command_free k (host.InitializeElementStatusWithRange fast range start count) bytes = refl

host_free : (k : Kind) (r : Request) (bytes : List ℕ) → fault_fails (host_field_fault k r bytes) ≡ false
host_free k (request.Write true l) bytes = refl
host_free k (request.Write false l) bytes = invalid_free (nat_lt (most_block Hosts) l || not (length bytes == l))
host_free k (request.ModeSelect sp l) bytes = selected_free default_values (most_block Hosts) Six sp l bytes
host_free k (request.ModeSense dbd pc page subpage l) bytes = mode_sense_free k (mode_sense Six dbd pc page subpage)
host_free k (request.LoadUnload hold eot load) bytes = invalid_free (eot || hold && load)
host_free k (request.Locate bt cp object partition) bytes = invalid_free (cp && not (partition == 0))
host_free k (request.ReadElementStatus voltag type_code start count curdata dvcid l) bytes = invalid_free (nat_lt 4 type_code)
host_free k (request.Host command) bytes = command_free k command bytes
host_free k r bytes = spec_free k r bytes

profile_free : (p : Profile) (k : Kind) (r : Request) (bytes : List ℕ) → fault_fails (field_fault_by p k r bytes) ≡ false
profile_free Spec k r bytes = spec_free k r bytes
profile_free Hosts k r bytes = host_free k r bytes

pub field_free : (commands : CommandSet) (r : Request) (bytes : List ℕ) → fault_fails (field_fault_of commands r bytes) ≡ false
field_free commands r bytes = profile_free commands.profile commands.kind r bytes

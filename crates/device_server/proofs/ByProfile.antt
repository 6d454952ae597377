-- The default profile is as it was, and in the hosts' profile fields decide what is carried out of the commands that it has besides.
use Rattle.std.proofs.lemmas.Bool.{eqb-true}
use Rattle.std.proofs.lemmas.Bool.Decides.{nat_tests}
use Rattle.std.proofs.Common.{arith, ◌≡◌, ◌↔◌, ℕ, Bool, true, false, List, [], ◌∷◌, Option, Some, None, Result, Ok, Err, refl, sym, ap, ◌∙◌}
use Rattle.std.specs.Prelude.{cond, length, drop, zero, suc, ◌==◌, ◌||◌, not, nat_lt}
use Rattle.std.specs.Option.{option_map}
use Rattle.scsi_cdb.specs.Commands.{command_of}
use Rattle.scsi_cdb.specs.Encoding.{IsOf}
use Rattle.scsi_cdb.specs.Kinds.{commands}
use Rattle.scsi_cdb.specs.declared.host_request.HostRequest.{HostRequest}
use Rattle.scsi_cdb.specs.declared.host_request.HostRequest.TheVariants as host
use Rattle.scsi_cdb.specs.declared.kind.Kind.{Kind}
use Rattle.scsi_cdb.specs.declared.kind.Kind.TheVariants.{Drive as drive_kind}
use Rattle.scsi_cdb.specs.declared.profile.Profile.{Profile}
use Rattle.scsi_cdb.specs.declared.profile.Profile.TheVariants.{Spec, Hosts}
use Rattle.scsi_cdb.specs.declared.request.Request.{Request}
use Rattle.scsi_cdb.specs.declared.request.Request.TheVariants as request
use Rattle.scsi_sense.specs.declared.condition.Condition.{Condition}
use Rattle.scsi_sense.specs.declared.condition.Condition.TheVariants.{InvalidFieldInCdb, InvalidFieldInParameterList, ParameterListLengthError}
use Rattle.scsi_sense.specs.declared.status.Status.TheVariants.{Good}
use Rattle.tape_medium.specs.Limits.{most_block}
use Rattle.inquiry_data.specs.declared.unit_identity.UnitIdentity.{UnitIdentity}
use Rattle.mode_pages.specs.DriveData.{answered, drive_fault, drive_data}
use Rattle.mode_pages.specs.Lists.{header_length}
use Rattle.mode_pages.specs.Select as mode
use Rattle.mode_pages.specs.Values.{mode_values, default_values}
use Rattle.mode_pages.specs.declared.drive_page.DrivePage.{DrivePage}
use Rattle.mode_pages.specs.declared.request.HeaderForm.{HeaderForm}
use Rattle.mode_pages.specs.declared.request.HeaderForm.TheVariants.{Six, Ten}
use Rattle.mode_pages.specs.declared.values.ModeValues.{ModeValues}
use Rattle.log_pages.specs.LogSelect as log
use Rattle.log_pages.specs.LogSense.{why_not, drive_log_data}
use Rattle.log_pages.proofs.Fields.{drives_refuse_fields}
use Rattle.log_pages.specs.declared.change.LogChange.{LogChange}
use Rattle.supported_commands.specs.Answers as codes
use Rattle.supported_commands.specs.Options.{options_at}
use Rattle.supported_commands.specs.declared.options.ReportingOptions.{ReportingOptions}
use Rattle.device_server.specs.declared.host_drive.HostDrive.{HostDrive}
use Rattle.device_server.specs.declared.outcome.Outcome.{Outcome}
use Rattle.device_server.specs.ByProfile.{FieldsOfSpec, DrivesOfSpec, ChangersOfSpec, IdentitiesAreOfHosts, IsGoodUnlessRefused, FieldsDecideHostCommands, FieldsDecideModeSelect, FieldsDecideModeSense, ModeSelectTellsChanges}
use Rattle.device_server.specs.Drive.{DriveView}
use Rattle.device_server.specs.FieldFaults.{field_fault_by}
use Rattle.device_server.specs.Hosts.{mode_sense, log_sense, log_select, codes_asked, codes_fault, codes_answer}
use Rattle.device_server.specs.HostDrive.{is_other, is_other_mode, mode_of, mode_state, host_selects, drive_log, host_log_selects, host_command_step, host_drive_step}
use Rattle.device_server.specs.HostFields.{refusal_of, host_command_fault, host_field_fault}
use Rattle.device_server.specs.Outcomes.{told_of_mode, answers}
use Rattle.device_server.specs.View.{DeviceView, Drive, identity_of, profile_by, profile_of, drive_stepped}
use Rattle.device_server.proofs.FieldLemmas.{unrefused_performed}

-- THE DEFAULT PROFILE

pub fields_of_spec : FieldsOfSpec
fields_of_spec kind r bytes = refl

as_device : DriveView × Outcome → DeviceView × Outcome
as_device step = (Drive step.0, step.1)

pub drives_of_spec : DrivesOfSpec
unfolding as_device
drives_of_spec d r bytes none = ap (λ (o : Option HostDrive). as_device (drive_stepped o d r bytes)) none

pub changers_of_spec : ChangersOfSpec
changers_of_spec e r bytes = refl

identity_by : (o : Option UnitIdentity) → (profile_by o ≡ Spec) ↔ (o ≡ None)
identity_by None = (λ spec. refl, λ none. refl)
identity_by (Some identity) = (λ spec. absurd cc, λ none. absurd cc)

pub identities_are_of_hosts : IdentitiesAreOfHosts
unfolding profile_of
identities_are_of_hosts device = identity_by (identity_of device)

-- MODE SELECT is refused whatever the values were before, or isn't

either_alike : (b : Bool) (x y z w : Result ModeValues Condition) → refusal_of x ≡ refusal_of z → refusal_of y ≡ refusal_of w
    → refusal_of (cond b x y) ≡ refusal_of (cond b z w)
either_alike true x y z w p q = p
either_alike false x y z w p q = q

then_alike : (page : Result DrivePage Condition) (f g : DrivePage → Result ModeValues Condition) → ((p : DrivePage) → refusal_of (f p) ≡ refusal_of (g p))
    → refusal_of (mode.then_on page f) ≡ refusal_of (mode.then_on page g)
then_alike (Err condition) f g same = refl
then_alike (Ok page) f g same = same page

pages_alike : (bytes : List ℕ) (most : ℕ) (a b : ModeValues) → refusal_of (mode.pages_taken bytes most a) ≡ refusal_of (mode.pages_taken bytes most b)
unfolding mode.pages_taken
pages_alike [] most a b = refl
pages_alike (x ∷ bytes) zero a b = refl
pages_alike (x ∷ bytes) (suc most) a b =
    then_alike (mode.head_page (x ∷ bytes))
    (λ page. mode.pages_taken (drop (mode.page_size (x ∷ bytes)) (x ∷ bytes)) most (mode.with_page page (x ∷ bytes) a))
    (λ page. mode.pages_taken (drop (mode.page_size (x ∷ bytes)) (x ∷ bytes)) most (mode.with_page page (x ∷ bytes) b))
    (λ page. pages_alike (drop (mode.page_size (x ∷ bytes)) (x ∷ bytes)) most (mode.with_page page (x ∷ bytes) a) (mode.with_page page (x ∷ bytes) b))

and_alike : (r s : Result ModeValues Condition) (bytes : List ℕ) → refusal_of r ≡ refusal_of s → refusal_of (mode.and_pages r bytes) ≡ refusal_of (mode.and_pages s bytes)
and_alike (Ok a) (Ok b) bytes same = pages_alike bytes (length bytes) a b
and_alike (Ok a) (Err condition) bytes same = absurd cc
and_alike (Err condition) (Ok b) bytes same = absurd cc
and_alike (Err one) (Err two) bytes same = same

descriptor_alike : (most : ℕ) (form : HeaderForm) (list : List ℕ) (a b : ModeValues)
    → refusal_of (mode.with_descriptor most form list a) ≡ refusal_of (mode.with_descriptor most form list b)
descriptor_alike most form list a b =
    let length_in : ℕ = mode.block_length_in form list in
    let above : Bool = nat_lt most length_in in
    either_alike (mode.descriptor_length form list == 0) (Ok a) (cond above (Err InvalidFieldInParameterList) (Ok (mode_values length_in a.compression)))
    (Ok b) (cond above (Err InvalidFieldInParameterList) (Ok (mode_values length_in b.compression))) refl
    (either_alike above (Err InvalidFieldInParameterList) (Ok (mode_values length_in a.compression))
    (Err InvalidFieldInParameterList) (Ok (mode_values length_in b.compression)) refl refl)

-- with the tests before the block descriptor
tested : (a b c d e f : Bool) → (first last : Result ModeValues Condition) → Result ModeValues Condition
tested a b c d e f first last =
    cond a (Err InvalidFieldInCdb) (cond b first (cond c (Err ParameterListLengthError) (cond d (Err ParameterListLengthError)
    (cond e (Err InvalidFieldInParameterList) (cond f (Err InvalidFieldInParameterList) last)))))

tested_alike : (a b c d e f : Bool) (first last x y : Result ModeValues Condition) → refusal_of first ≡ refusal_of x → refusal_of last ≡ refusal_of y
    → refusal_of (tested a b c d e f first last) ≡ refusal_of (tested a b c d e f x y)
unfolding tested
tested_alike true b c d e f first last x y p q = refl
tested_alike false true c d e f first last x y p q = p
tested_alike false false true d e f first last x y p q = refl
tested_alike false false false true e f first last x y p q = refl
tested_alike false false false false true f first last x y p q = refl
tested_alike false false false false false true first last x y p q = refl
tested_alike false false false false false false first last x y p q = q

pub selected_alike : (a b : ModeValues) (most : ℕ) (form : HeaderForm) (save_pages : Bool) (told : ℕ) (list : List ℕ)
    → refusal_of (mode.selected a most form save_pages told list) ≡ refusal_of (mode.selected b most form save_pages told list)
unfolding tested
selected_alike a b most form save_pages told list =
    let pages : List ℕ = drop (mode.pages_at form list) list in
    let cut : Bool = nat_lt told (mode.pages_at form list) in
    let of_a : Result ModeValues Condition = mode.and_pages (mode.with_descriptor most form list a) pages in
    let of_b : Result ModeValues Condition = mode.and_pages (mode.with_descriptor most form list b) pages in
    tested_alike save_pages (told == 0) (not (length list == told)) (nat_lt told (header_length form)) (mode.has_long_lba form list)
    (not (mode.is_descriptor_length (mode.descriptor_length form list))) (Ok a) (cond cut (Err ParameterListLengthError) of_a)
    (Ok b) (cond cut (Err ParameterListLengthError) of_b) refl
    (either_alike cut (Err ParameterListLengthError) of_a (Err ParameterListLengthError) of_b refl
    (and_alike (mode.with_descriptor most form list a) (mode.with_descriptor most form list b) pages (descriptor_alike most form list a b)))

-- WHAT ISN'T REFUSED IS GOOD

answers_good : (l : ℕ) (answer : Result (List ℕ) Condition) → refusal_of answer ≡ None → (answers l answer).status ≡ Good
answers_good l (Ok bytes) none = refl
answers_good l (Err condition) none = absurd cc

selects_good : (d : DriveView) (h : HostDrive) (values : Result ModeValues Condition) → refusal_of values ≡ None → (host_selects d h values).1.status ≡ Good
selects_good d h (Ok values) none = refl
selects_good d h (Err condition) none = absurd cc

log_selects_good : (d : DriveView) (h : HostDrive) (change : Result LogChange Condition) → refusal_of change ≡ None → (host_log_selects d h change).1.status ≡ Good
log_selects_good d h (Ok change) none = refl
log_selects_good d h (Err condition) none = absurd cc

why_refused : (answer : Result (List ℕ) Condition) → refusal_of answer ≡ why_not answer
why_refused (Ok bytes) = refl
why_refused (Err condition) = refl

answered_refusal : (fault : Option Condition) (bytes : List ℕ) → refusal_of (answered fault bytes) ≡ fault
answered_refusal None bytes = refl
answered_refusal (Some condition) bytes = refl

code_refusal : (refused : Bool) (bytes : List ℕ) → refusal_of (cond refused (Err InvalidFieldInCdb) (Ok bytes)) ≡ cond refused (Some InvalidFieldInCdb) None
code_refusal true bytes = refl
code_refusal false bytes = refl

codes_refusal : (kind : Kind) (rctd : Bool) (options : Option ReportingOptions) (code action : ℕ)
    → refusal_of (codes_answer kind rctd options code action) ≡ codes_fault kind rctd options code action
codes_refusal kind rctd None code action = refl
codes_refusal kind rctd (Some options) code action =
    code_refusal (codes.is_refused options (codes.command_with_code kind code)) (codes.data_for kind (codes_asked rctd options code action) options)

select_good : (d : DriveView) (h : HostDrive) (form : HeaderForm) (sp : Bool) (l : ℕ) (bytes : List ℕ)
    → refusal_of (mode.selected default_values (most_block Hosts) form sp l bytes) ≡ None
    → (host_selects d h (mode.selected (mode_of d h) (most_block Hosts) form sp l bytes)).1.status ≡ Good
select_good d h form sp l bytes none =
    selects_good d h (mode.selected (mode_of d h) (most_block Hosts) form sp l bytes)
    (selected_alike (mode_of d h) default_values (most_block Hosts) form sp l bytes ∙ none)

sense_good : (d : DriveView) (h : HostDrive) (form : HeaderForm) (dbd : Bool) (pc page subpage l : ℕ) → drive_fault (mode_sense form dbd pc page subpage) ≡ None
    → (answers l (answered (drive_fault (mode_sense form dbd pc page subpage)) (drive_data (mode_sense form dbd pc page subpage) (mode_state d h)))).status ≡ Good
sense_good d h form dbd pc page subpage l none =
    let sense = mode_sense form dbd pc page subpage in
    answers_good l (answered (drive_fault sense) (drive_data sense (mode_state d h))) (answered_refusal (drive_fault sense) (drive_data sense (mode_state d h)) ∙ none)

command_good : (d : DriveView) (h : HostDrive) (command : HostRequest) (bytes : List ℕ) → IsOf (commands Hosts drive_kind) (request.Host command)
    → host_command_fault drive_kind command bytes ≡ None → (host_command_step d h command bytes).1.status ≡ Good
unfolding command_of
command_good d h (host.SendDiagnostic code test l) bytes of_drives none = refl
command_good d h (host.LogSelect pcr sp pc page subpage l) bytes of_drives none =
    log_selects_good d h (log.selected drive_kind (log_select pcr sp page subpage l) (length bytes)) none
command_good d h (host.LogSense ppc sp pc page subpage pointer l) bytes of_drives none =
    let answer : Result (List ℕ) Condition = drive_log_data (log_sense ppc sp page subpage pointer) (drive_log d h) in
    answers_good l answer (why_refused answer ∙ drives_refuse_fields (log_sense ppc sp page subpage pointer) (drive_log d h) ∙ none)
command_good d h (host.ModeSelect10 sp l) bytes of_drives none = select_good d h Ten sp l bytes none
command_good d h (host.ModeSense10 dbd pc page subpage l) bytes of_drives none = sense_good d h Ten dbd pc page subpage l none
command_good d h (host.ReportSupportedOperationCodes rctd options code action l) bytes of_drives none =
    answers_good l (codes_answer drive_kind rctd (options_at options) code action) (codes_refusal drive_kind rctd (options_at options) code action ∙ none)
command_good d h (host.ReportSupportedTaskManagementFunctions repd l) bytes of_drives none = refl
command_good d h (host.PositionToElement transport destination invert) bytes of_drives none = let no : false ≡ true = of_drives.1 in absurd cc
command_good d h (host.InitializeElementStatusWithRange fast range start count) bytes of_drives none = let no : false ≡ true = of_drives.0 in absurd cc
command_good d h (host.ExchangeMedium transport source first second inv1 inv2) bytes of_drives none = let no : false ≡ true = of_drives.0 in absurd cc

-- at a drive of the hosts' profile
hosts_profile : (d : DriveView) (h : HostDrive) → d.hosts ≡ Some h → profile_of (Drive d) ≡ Hosts
unfolding profile_of
hosts_profile d h is = ap (λ (o : Option HostDrive). profile_by (option_map (λ (x : HostDrive). x.identity) o)) is

good_by_fields : (d : DriveView) (h : HostDrive) (r : Request) (bytes : List ℕ) → d.hosts ≡ Some h
    → (host_field_fault drive_kind r bytes ≡ None → (host_drive_step d h r bytes).1.status ≡ Good) → IsGoodUnlessRefused d r bytes
good_by_fields d h r bytes is step none =
    ap (λ (x : DeviceView × Outcome). x.1.status) (unrefused_performed (Drive d) r bytes none)
    ∙ ap (λ (o : Option HostDrive). (drive_stepped o d r bytes).1.status) is
    ∙ step (sym (ap (λ (p : Profile). field_fault_by p drive_kind r bytes) (hosts_profile d h is)) ∙ none)

pub fields_decide_host_commands : FieldsDecideHostCommands
fields_decide_host_commands d h command bytes is of_drives = good_by_fields d h (request.Host command) bytes is (command_good d h command bytes of_drives)

pub fields_decide_mode_select : FieldsDecideModeSelect
fields_decide_mode_select d h sp l bytes is = good_by_fields d h (request.ModeSelect sp l) bytes is (select_good d h Six sp l bytes)

pub fields_decide_mode_sense : FieldsDecideModeSense
fields_decide_mode_sense d h dbd pc page subpage l bytes is =
    good_by_fields d h (request.ModeSense dbd pc page subpage l) bytes is (sense_good d h Six dbd pc page subpage l)

-- WHERE A VALUE CHANGED

parts : (same other : Bool) → (not same || other) ≡ false → (same ≡ true) × (other ≡ false)
parts true true h = absurd cc
parts true false h = (refl, refl)
parts false other h = absurd cc

same_bool : (before after : Bool) → is_other before after ≡ false → after ≡ before
same_bool true true h = refl
same_bool true false h = absurd cc
same_bool false true h = absurd cc
same_bool false false h = refl

not_itself : (b : Bool) → is_other b b ≡ false
not_itself true = refl
not_itself false = refl

itself : (n : ℕ) → (n == n) ≡ true
itself n = grind (arith, nat_tests)

same_mode : (before after : ModeValues) → is_other_mode before after ≡ false → after ≡ before
same_mode before after h =
    let two = parts (after.block_length == before.block_length) (is_other before.compression after.compression) h in
    ap (λ (n : ℕ). mode_values n after.compression) (eqb-true after.block_length before.block_length two.0)
    ∙ ap (λ (b : Bool). mode_values before.block_length b) (same_bool before.compression after.compression two.1)

mode_itself : (m : ModeValues) → is_other_mode m m ≡ false
mode_itself m =
    ap (λ (same : Bool). not same || is_other m.compression m.compression) (itself m.block_length) ∙ not_itself m.compression

untold : (changed : Bool) → told_of_mode changed ≡ None → changed ≡ false
untold true h = absurd cc
untold false h = refl

pub mode_select_tells_changes : ModeSelectTellsChanges
mode_select_tells_changes d h values = (
  λ told. same_mode (mode_of d h) values (untold (is_other_mode (mode_of d h) values) told),
  λ same. ap (λ (m : ModeValues). told_of_mode (is_other_mode (mode_of d h) m)) same ∙ ap told_of_mode (mode_itself (mode_of d h)),
)

-- A command of a nexus to which the changing classes are closed moves the tape at most.
use Rattle.std.proofs.Common.{◌≡◌, ℕ, Bool, true, false, cond, ◌==◌, ◌&&◌, List, [], Option, Some, None, Result, Ok, Err, inl, inr, refl, sym, ap, subst}
use Rattle.std.specs.Prelude.{ℤ, pos, negsuc, length}
use Rattle.scsi_cdb.specs.declared.profile.Profile.{Profile}
use Rattle.scsi_cdb.specs.declared.profile.Profile.TheVariants.{Spec, Hosts}
use Rattle.scsi_cdb.specs.declared.request.Request.{Request}
use Rattle.scsi_cdb.specs.declared.request.Request.TheVariants as request
use Rattle.scsi_cdb.specs.Classes.{class_of}
use Rattle.scsi_nexus.specs.declared.nexus.Nexus.{Nexus}
use Rattle.scsi_sense.specs.declared.condition.Condition.{Condition}
use Rattle.scsi_sense.specs.declared.condition.Condition.TheVariants.{InitializingCommandRequired, InvalidFieldInCdb, MediumRemovalPrevented}
use Rattle.permit_tables.specs.declared.cell.Cell.{Cell}
use Rattle.permit_tables.specs.declared.res_type.ResType.{ResType}
use Rattle.permit_tables.specs.declared.role.Role.{Role}
use Rattle.permit_tables.specs.Permission.{Changing, group_of, row_allows, is_allowed}
use Rattle.tape_medium.specs.Object.{Object}
use Rattle.tape_medium.specs.Tape.{ahead, object_at, passed}
use Rattle.tape_medium.specs.Space.{spaced}
use Rattle.tape_medium.specs.TapeView.{TapeView}
use Rattle.tape_medium.specs.declared.space.SpaceCode.{SpaceCode}
use Rattle.tape_medium.specs.declared.space.SpaceCode.TheVariants.{Blocks, Marks, EndOfData}
use Rattle.tape_medium.specs.declared.volume.Volume.{Volume}
use Rattle.pr_core.specs.State.{res_type, role}
use Rattle.pr_core.specs.Outcome.{refusal}
use Rattle.permit_tables.specs.declared.pr_fault.PrFault.{PrFault}
use Rattle.pr_core.specs.declared.verdict.Verdict.TheVariants.{Allowed, Denied}
use Rattle.audit_log.specs.declared.stage.Stage.TheVariants as stage
use Rattle.audit_log.specs.declared.stage.Stage.TheVariants.{ResetAttention, OtherAttention, Fields}
use Rattle.device_server.specs.declared.outcome.Outcome.{Outcome}
use Rattle.device_server.specs.Outcomes.{done, refused}
use Rattle.device_server.specs.Drive.{DriveView, run, after_run, behind_run, reads, reads_fixed, unless_nothing, is_fixed_transfer, space_code, on_tape, in_volume, in_bay, drive_step}
use Rattle.device_server.specs.declared.host_drive.HostDrive.{HostDrive}
use Rattle.device_server.specs.HostDrive.{not_ready, host_on_tape, host_in_volume, host_in_bay, host_drive_step}
use Rattle.device_server.specs.View.{DeviceView, Drive, Changer, commands_of, field_fault, drive_stepped, stepped, performed}
use Rattle.device_server.specs.Volumes.{SameVolume, SameAt}
use Rattle.device_server.proofs.TapeLemmas.{same_volume}
use Rattle.logical_unit.specs.Contents.{settings_of, SameContents, MayNotChange, OutsiderChangesNothing}
use Rattle.logical_unit.proofs.EndsOf.{by_ends}
use Rattle.logical_unit.proofs.OutsiderLeavesContents.{barred, host_command_quiet, changer_by}
use Rattle.judgement.specs.declared.command.Command.{Command}
use Rattle.judgement.specs.declared.command.Command.TheVariants.{ReserveOut, ReserveIn, Inquiry, ReportLuns, RequestSense, Prevent, Device}
use Rattle.judgement.specs.declared.decision.Decision.{Decision}
use Rattle.judgement.specs.declared.reply.Reply.{Reply}
use Rattle.judgement.specs.Conditions.{condition_of_refusal}
use Rattle.judgement.specs.Decisions.{at_stage}
use Rattle.judgement.specs.Replies.{check}
use Rattle.judgement.specs.Replies.{good}
use Rattle.judgement.specs.Commands.{decoded_command}
use Rattle.judgement.specs.JudgedUnit.{JudgedUnit}
use Rattle.logical_unit.specs.UnitView.{UnitView}
use Rattle.judgement.specs.UnitState.{accepted, is_prevented}
use Rattle.judgement.specs.Judge.{cell_of, carried_out}
use Rattle.judgement.specs.Readings.{verdict_of}
use Rattle.judgement.specs.Judge.{steps, unloads, performs, at_cell, judged_as}
use Rattle.logical_unit.specs.Step.{contacted_present}
use Rattle.judgement.proofs.Carried.{prevents_by}

-- the same objects, of a tape as long
pub record SameTape (t s : TapeView) : Type 0 where
  pub objects : t.objects ≡ s.objects
  pub capacity : t.capacity ≡ s.capacity

same_tape : (t : TapeView) → SameTape t t
same_tape t = record { objects = refl; capacity = refl }

passed_same : (o : Option Object) (t s : TapeView) → SameTape t s → SameTape t (passed o s)
passed_same None t s h = h
passed_same (Some x) t s h = record { objects = h.objects; capacity = h.capacity }

either_same : {A : Type 0} (t : TapeView) (b : Bool) (x y : TapeView × A) → SameTape t x.0 → SameTape t y.0 → SameTape t (cond b x y).0
either_same t true x y p q = p
either_same t false x y p q = q

run_same : (t : TapeView) (count : ℕ) (blocks : List Object) → SameTape t (after_run t count blocks)
run_same t count blocks =
    elim (length blocks == count) as (λ b. SameTape t (cond b (behind_run t blocks) (passed (object_at (behind_run t blocks)) (behind_run t blocks)))) [
      | true ↦ record { objects = refl; capacity = refl }
      | false ↦ passed_same (object_at (behind_run t blocks)) t (behind_run t blocks) (record { objects = refl; capacity = refl })
    ]

spaced_same : (code : SpaceCode) (t : TapeView) (count : ℤ) → SameTape t (spaced code t count).0
spaced_same EndOfData t count = record { objects = refl; capacity = refl }
spaced_same Blocks t (pos n) = record { objects = refl; capacity = refl }
spaced_same Blocks t (negsuc n) = record { objects = refl; capacity = refl }
spaced_same Marks t (pos n) = record { objects = refl; capacity = refl }
spaced_same Marks t (negsuc n) = record { objects = refl; capacity = refl }

module _ (ty : ResType) (ro : Role) (closed : row_allows Changing ty ro ≡ false) where
  abbrev Let : Request → Type 0
  Let r = row_allows (group_of (class_of r)) ty ro ≡ true

  tape_same : (p : Profile) (m : ℕ) (protected : Bool) (t : TapeView) (r : Request) (bytes : List ℕ) → Let r → SameTape t (on_tape p m protected t r bytes).0
  tape_same p m protected t request.TestUnitReady bytes h = same_tape t
  tape_same p m protected t request.Rewind bytes h = record { objects = refl; capacity = refl }
  tape_same p m protected t (request.RequestSense desc l) bytes h = same_tape t
  tape_same p m protected t request.ReadBlockLimits bytes h = same_tape t
  tape_same p m protected t request.InitializeElementStatus bytes h = same_tape t
  tape_same p m protected t (request.Read sili false asked) bytes h = either_same t (asked == 0) (t, done []) (reads sili m asked t) (same_tape t) (passed_same (object_at t) t t (same_tape t))
  tape_same p m protected t (request.Read sili true count) bytes h =
      either_same t (is_fixed_transfer p m count) (unless_nothing count t (reads_fixed m count t)) (t, refused InvalidFieldInCdb)
      (either_same t (count == 0) (t, done []) (reads_fixed m count t) (same_tape t) (run_same t count (run m (ahead t) count))) (same_tape t)
  tape_same p m protected t (request.Write fixed asked) bytes h = barred _ h closed
  tape_same p m protected t (request.WriteFilemarks wsmk immed count) bytes h = barred _ h closed
  tape_same p m protected t (request.Space code count) bytes h = spaced_same (space_code code) t count
  tape_same p m protected t (request.Inquiry evpd page l) bytes h = same_tape t
  tape_same p m protected t (request.ModeSelect sp l) bytes h = same_tape t
  tape_same p m protected t request.Erase bytes h = barred _ h closed
  tape_same p m protected t (request.ModeSense dbd pc page subpage l) bytes h = same_tape t
  tape_same p m protected t (request.LoadUnload hold eot load) bytes h = same_tape t
  tape_same p m protected t (request.PreventAllowMediumRemoval prevent) bytes h = same_tape t
  tape_same p m protected t (request.Locate bt cp object partition) bytes h = record { objects = refl; capacity = refl }
  tape_same p m protected t request.ReadPosition bytes h = same_tape t
  tape_same p m protected t (request.PersistentReserveIn action l) bytes h = same_tape t
  tape_same p m protected t (request.PersistentReserveOut action scope_type l) bytes h = same_tape t
  tape_same p m protected t (request.ReportLuns select l) bytes h = same_tape t
  tape_same p m protected t (request.MoveMedium transport source destination invert) bytes h = same_tape t
  tape_same p m protected t (request.ReadElementStatus voltag type_code start count curdata dvcid l) bytes h = same_tape t
  tape_same p m protected t (request.Host command) bytes h = same_tape t

  host_tape_same : (m : ℕ) (protected : Bool) (t : TapeView) (r : Request) (bytes : List ℕ) → Let r → SameTape t (host_on_tape m protected t r bytes).0
  host_tape_same m protected t (request.Write fixed told) bytes h = barred _ h closed
  host_tape_same m protected t (request.WriteFilemarks wsmk immed count) bytes h = barred _ h closed
  host_tape_same m protected t request.ReadPosition bytes h = same_tape t
  host_tape_same m protected t r bytes h = tape_same Hosts m protected t r bytes h

  abbrev SameDrive : DriveView → DriveView → Type 0
  SameDrive d e = SameContents (Drive d) (Drive e)

  volume_self : (o : Option Volume) → SameAt SameVolume o o
  volume_self None = tt
  volume_self (Some v) = same_volume v

  drive_self : (d : DriveView) → SameDrive d d
  drive_self d = (refl, refl, refl, volume_self d.bay)

  in_volume_same : (d : DriveView) (v : Volume) (x : TapeView × Outcome) → d.bay ≡ Some v → SameTape v.tape x.0 → SameDrive d (in_volume d v x).0
  in_volume_same d v x e h = (
    refl,
    refl,
    refl,
    subst (λ (o : Option Volume). SameAt SameVolume o (Some (record v { tape = x.0 }))) (sym e)
        (record { cartridge = record { tag = refl; protected = refl; capacity = sym h.capacity }; objects = sym h.objects }),
  )

  either_drive : (d : DriveView) (b : Bool) (x y : DriveView × Outcome) → SameDrive d x.0 → SameDrive d y.0 → SameDrive d (cond b x y).0
  either_drive d true x y p q = p
  either_drive d false x y p q = q

  bay_same : (d : DriveView) (o : Option Volume) (r : Request) (bytes : List ℕ) → d.bay ≡ o → Let r → SameDrive d (in_bay d o r bytes).0
  bay_same d None r bytes e h = drive_self d
  bay_same d (Some v) r bytes e h =
      either_drive d d.loaded (in_volume d v (on_tape Spec d.block_length v.protected v.tape r bytes)) (d, refused InitializingCommandRequired)
      (in_volume_same d v (on_tape Spec d.block_length v.protected v.tape r bytes) e (tape_same Spec d.block_length v.protected v.tape r bytes h)) (drive_self d)

  drive_same : (d : DriveView) (r : Request) (bytes : List ℕ) → Let r → SameDrive d (drive_step d r bytes).0
  drive_same d request.ReadBlockLimits bytes h = drive_self d
  drive_same d (request.ModeSelect sp l) bytes h = barred _ h closed
  drive_same d (request.ModeSense dbd pc page subpage l) bytes h = drive_self d
  drive_same d (request.LoadUnload hold eot load) bytes h = barred _ h closed
  drive_same d request.TestUnitReady bytes h = bay_same d d.bay request.TestUnitReady bytes refl h
  drive_same d request.Rewind bytes h = bay_same d d.bay request.Rewind bytes refl h
  drive_same d (request.RequestSense desc l) bytes h = bay_same d d.bay (request.RequestSense desc l) bytes refl h
  drive_same d request.InitializeElementStatus bytes h = bay_same d d.bay request.InitializeElementStatus bytes refl h
  drive_same d (request.Read sili fixed l) bytes h = bay_same d d.bay (request.Read sili fixed l) bytes refl h
  drive_same d (request.Write fixed l) bytes h = bay_same d d.bay (request.Write fixed l) bytes refl h
  drive_same d (request.WriteFilemarks wsmk immed l) bytes h = bay_same d d.bay (request.WriteFilemarks wsmk immed l) bytes refl h
  drive_same d (request.Space code l) bytes h = bay_same d d.bay (request.Space code l) bytes refl h
  drive_same d (request.Inquiry evpd page l) bytes h = bay_same d d.bay (request.Inquiry evpd page l) bytes refl h
  drive_same d request.Erase bytes h = bay_same d d.bay request.Erase bytes refl h
  drive_same d (request.PreventAllowMediumRemoval prevent) bytes h = bay_same d d.bay (request.PreventAllowMediumRemoval prevent) bytes refl h
  drive_same d (request.Locate bt cp l partition) bytes h = bay_same d d.bay (request.Locate bt cp l partition) bytes refl h
  drive_same d request.ReadPosition bytes h = bay_same d d.bay request.ReadPosition bytes refl h
  drive_same d (request.PersistentReserveIn action l) bytes h = bay_same d d.bay (request.PersistentReserveIn action l) bytes refl h
  drive_same d (request.PersistentReserveOut action scope_type l) bytes h = bay_same d d.bay (request.PersistentReserveOut action scope_type l) bytes refl h
  drive_same d (request.ReportLuns select l) bytes h = bay_same d d.bay (request.ReportLuns select l) bytes refl h
  drive_same d (request.MoveMedium transport source destination invert) bytes h = bay_same d d.bay (request.MoveMedium transport source destination invert) bytes refl h
  drive_same d (request.ReadElementStatus voltag type_code start count curdata dvcid l) bytes h = bay_same d d.bay (request.ReadElementStatus voltag type_code start count curdata dvcid l) bytes refl h
  drive_same d (request.Host command) bytes h = bay_same d d.bay (request.Host command) bytes refl h

  -- in the hosts' profile READ is counted
  host_in_volume_same : (d : DriveView) (h : HostDrive) (v : Volume) (r : Request) (x : TapeView × Outcome) → d.hosts ≡ Some h → d.bay ≡ Some v → SameTape v.tape x.0 → SameDrive d (host_in_volume d h v r x).0
  host_in_volume_same d h v r x is e same = (refl, refl, ap settings_of is, (in_volume_same d v x e same).3)

  host_bay_same : (d : DriveView) (h : HostDrive) (o : Option Volume) (r : Request) (bytes : List ℕ) → d.hosts ≡ Some h → d.bay ≡ o → Let r → SameDrive d (host_in_bay d h o r bytes).0
  host_bay_same d h None r bytes is e lets = drive_self d
  host_bay_same d h (Some v) r bytes is e lets =
      either_drive d d.loaded (host_in_volume d h v r (host_on_tape d.block_length v.protected v.tape r bytes)) (d, refused (not_ready h.held))
      (host_in_volume_same d h v r (host_on_tape d.block_length v.protected v.tape r bytes) is e (host_tape_same d.block_length v.protected v.tape r bytes lets)) (drive_self d)

  host_drive_same : (d : DriveView) (h : HostDrive) (r : Request) (bytes : List ℕ) → d.hosts ≡ Some h → Let r → SameDrive d (host_drive_step d h r bytes).0
  host_drive_same d h request.ReadBlockLimits bytes is lets = drive_self d
  host_drive_same d h (request.ModeSelect sp l) bytes is lets = barred _ lets closed
  host_drive_same d h (request.ModeSense dbd pc page subpage l) bytes is lets = drive_self d
  host_drive_same d h (request.LoadUnload hold eot load) bytes is lets = barred _ lets closed
  host_drive_same d h (request.Host command) bytes is lets =
      let q = host_command_quiet ty ro closed d h command bytes lets in subst (λ (e : DriveView). SameDrive d e) (sym q.same) (drive_self d)
  host_drive_same d h r bytes is lets = host_bay_same d h d.bay r bytes is refl lets

  drive_by : (o : Option HostDrive) (d : DriveView) (r : Request) (bytes : List ℕ) → d.hosts ≡ o → Let r → SameDrive d (drive_stepped o d r bytes).0
  drive_by None d r bytes is lets = drive_same d r bytes lets
  drive_by (Some h) d r bytes is lets = host_drive_same d h r bytes is lets

  device_self : (d : DeviceView) → SameContents d d
  device_self (Drive d) = drive_self d
  device_self (Changer c) = refl

  stepped_same : (d : DeviceView) (r : Request) (bytes : List ℕ) → Let r → SameContents d (stepped d r bytes).0
  stepped_same (Drive d) r bytes h = drive_by d.hosts d r bytes refl h
  stepped_same (Changer c) r bytes h = sym (changer_by ty ro closed c.hosts c r bytes h).same

  pub performed_same : (d : DeviceView) (r : Request) (bytes : List ℕ) → Let r → SameContents d (performed d r bytes).0
  performed_same d r bytes h =
      elim (field_fault d r bytes) as (λ (o : Option Condition). let step : DeviceView × Outcome = elim o [ Some condition ↦ (d, refused condition) | None ↦ stepped d r bytes ] in SameContents d step.0) [
        | Some condition ↦ device_self d
        | None ↦ stepped_same d r bytes h
      ]

module _ (u : JudgedUnit) (n : Nexus) (closed : MayNotChange u.state.reservations n) where
  abbrev Keeps : JudgedUnit × Decision × Reply → Type 0
  Keeps x = SameContents u.device x.0.device

  self : SameContents u.device u.device
  self = device_self (res_type u.state.reservations) (role u.state.reservations n) closed u.device

  prevents_keeps : (zero one : Bool) → Keeps (prevents_by u n zero one)
  prevents_keeps true one = self
  prevents_keeps false true = self
  prevents_keeps false false = self

  steps_keeps : (at : Cell) (r : Request) (bytes : List ℕ) (b : Bool) → is_allowed (class_of r) (res_type u.state.reservations) (role u.state.reservations n) ≡ true → Keeps (at_cell at (cond b (u, at_stage stage.Device, check MediumRemovalPrevented) (steps u n (performed u.device r bytes))))
  steps_keeps at r bytes true lets = self
  steps_keeps at r bytes false lets = performed_same (res_type u.state.reservations) (role u.state.reservations n) closed u.device r bytes lets

  performs_keeps : (at : Cell) (r : Request) (bytes : List ℕ) → is_allowed (class_of r) (res_type u.state.reservations) (role u.state.reservations n) ≡ true → Keeps (at_cell at (performs u n r bytes))
  performs_keeps at r bytes lets =
      elim (field_fault u.device r bytes) as (λ (o : Option Condition). Keeps (at_cell at (elim o [ Some condition ↦ (u, at_stage Fields, check condition) | None ↦ cond (unloads r && is_prevented u.state) (u, at_stage stage.Device, check MediumRemovalPrevented) (steps u n (performed u.device r bytes)) ]))) [
        | Some condition ↦ self
        | None ↦ steps_keeps at r bytes (unloads r && is_prevented u.state) lets
      ]

  allowed_class : (b : Bool) (c : Cell) → cond b Allowed (Denied c) ≡ Allowed → b ≡ true
  allowed_class true c h = refl
  allowed_class false c h = cc

  carried_keeps : (at : Cell) (c : Command) (bytes : List ℕ) → verdict_of u.state.reservations n c ≡ Allowed → Keeps (at_cell at (carried_out u n c bytes))
  carried_keeps at (ReserveOut p) bytes v =
      elim (refusal u.state.reservations n p) as (λ (o : Option PrFault). Keeps (at_cell at (elim o [ Some fault ↦ (u, at_stage Fields, check (condition_of_refusal fault)) | None ↦ (record u { state = accepted u.state n p }, at_stage stage.Device, good []) ]))) [
        | Some fault ↦ self
        | None ↦ self
      ]
  carried_keeps at (ReserveIn a l) bytes v = self
  carried_keeps at (Inquiry e p l) bytes v = self
  carried_keeps at (ReportLuns s l) bytes v = self
  carried_keeps at (RequestSense d l) bytes v = self
  carried_keeps at (Prevent p) bytes v = prevents_keeps (p == 0) (p == 1)
  carried_keeps at (Device r) bytes v = performs_keeps at r bytes (allowed_class _ _ v)

  pub judged_keeps : (c : Result Command Condition) (bytes : List ℕ) → Keeps (judged_as u n c bytes)
  judged_keeps (Err condition) bytes = self
  judged_keeps (Ok c) bytes = by_ends (λ (v : JudgedUnit). SameContents u.device v.device) u n c bytes self (λ kind. self) (carried_keeps (cell_of u n c) c bytes)

pub changes_nothing : OutsiderChangesNothing
changes_nothing u v n cdb bytes r closed (inl e) =
    subst (λ (x : UnitView × Reply). SameContents u.device x.0.device) (sym e) (self (contacted_present u n) n closed)
changes_nothing u v n cdb bytes r closed (inr e) =
    subst (λ (x : UnitView × Reply). SameContents u.device x.0.device) (sym e.2) (judged_keeps (contacted_present u n) n closed (decoded_command (commands_of u.device) cdb bytes) bytes)

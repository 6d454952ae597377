-- A command that is neither of the reading nor of the changing classes leaves its device.
use Rattle.std.proofs.Common.{◌≡◌, ℕ, Bool, true, false, cond, List, Option, Some, None, Result, Ok, Err, refl, sym, ap, ◌∙◌}
use Rattle.scsi_cdb.specs.declared.profile.Profile.{Profile}
use Rattle.scsi_cdb.specs.declared.profile.Profile.TheVariants.{Spec, Hosts}
use Rattle.scsi_cdb.specs.declared.request.Request.{Request}
use Rattle.scsi_cdb.specs.declared.request.Request.TheVariants as request
use Rattle.scsi_cdb.specs.Classes.{class_of}
use Rattle.scsi_sense.specs.declared.condition.Condition.{Condition}
use Rattle.scsi_sense.specs.declared.condition.Condition.TheVariants.{InitializingCommandRequired}
use Rattle.permit_tables.specs.declared.res_type.ResType.{ResType}
use Rattle.permit_tables.specs.declared.role.Role.{Role}
use Rattle.permit_tables.specs.Permission.{Reading, Changing, group_of, row_allows}
use Rattle.tape_medium.specs.TapeView.{TapeView}
use Rattle.tape_medium.specs.declared.volume.Volume.{Volume}
use Rattle.device_server.specs.declared.outcome.Outcome.{Outcome}
use Rattle.device_server.specs.Outcomes.{refused, answers}
use Rattle.tape_medium.specs.Elements.{Elements}
use Rattle.scsi_cdb.specs.declared.host_request.HostRequest.{HostRequest}
use Rattle.scsi_cdb.specs.declared.host_request.HostRequest.TheVariants as host
use Rattle.device_server.specs.declared.host_changer.HostChanger.{HostChanger}
use Rattle.device_server.specs.declared.host_drive.HostDrive.{HostDrive}
use Rattle.device_server.specs.Changer.{changer_step}
use Rattle.device_server.specs.Drive.{DriveView, on_tape, in_volume, in_bay, drive_step}
use Rattle.device_server.specs.HostChanger.{ChangerView, changer_command_step, host_changer_step}
use Rattle.device_server.specs.HostDrive.{not_ready, host_on_tape, host_in_volume, host_in_bay, host_command_step, host_drive_step}
use Rattle.device_server.specs.View.{DeviceView, Drive, Changer, field_fault, drive_stepped, changer_stepped, stepped, performed}

-- a sender of this role reads and changes nothing under this type
pub record Shut (t : ResType) (ro : Role) : Type 0 where
  pub reading : row_allows Reading t ro ≡ false
  pub changing : row_allows Changing t ro ≡ false

pub barred : {A : Type 0} (b : Bool) → b ≡ true → b ≡ false → A
barred true e f = absurd cc
barred false e f = absurd cc

-- a step that leaves all as it is
pub record Quiet {A : Type 0} (a : A) (x : A × Outcome) : Type 0 where
  pub same : x.0 ≡ a
  pub steady : x.1.told ≡ None

-- a class that the permission table lets through
abbrev pub Let : ResType → Role → Request → Type 0
Let t ro r = row_allows (group_of (class_of r)) t ro ≡ true

tape_quiet : (ty : ResType) (ro : Role) → Shut ty ro → (p : Profile) (m : ℕ) (protected : Bool) (t : TapeView) (r : Request) (bytes : List ℕ) → Let ty ro r → Quiet t (on_tape p m protected t r bytes)
tape_quiet ty ro s p m protected t request.TestUnitReady bytes h = record { same = refl; steady = refl }
tape_quiet ty ro s p m protected t request.Rewind bytes h = barred _ h s.reading
tape_quiet ty ro s p m protected t (request.RequestSense desc l) bytes h = record { same = refl; steady = refl }
tape_quiet ty ro s p m protected t request.ReadBlockLimits bytes h = record { same = refl; steady = refl }
tape_quiet ty ro s p m protected t request.InitializeElementStatus bytes h = record { same = refl; steady = refl }
tape_quiet ty ro s p m protected t (request.Read sili fixed asked) bytes h = barred _ h s.reading
tape_quiet ty ro s p m protected t (request.Write fixed asked) bytes h = barred _ h s.changing
tape_quiet ty ro s p m protected t (request.WriteFilemarks wsmk immed count) bytes h = barred _ h s.changing
tape_quiet ty ro s p m protected t (request.Space code count) bytes h = barred _ h s.reading
tape_quiet ty ro s p m protected t (request.Inquiry evpd page l) bytes h = record { same = refl; steady = refl }
tape_quiet ty ro s p m protected t (request.ModeSelect sp l) bytes h = record { same = refl; steady = refl }
tape_quiet ty ro s p m protected t request.Erase bytes h = barred _ h s.changing
tape_quiet ty ro s p m protected t (request.ModeSense dbd pc page subpage l) bytes h = record { same = refl; steady = refl }
tape_quiet ty ro s p m protected t (request.LoadUnload hold eot load) bytes h = record { same = refl; steady = refl }
tape_quiet ty ro s p m protected t (request.PreventAllowMediumRemoval prevent) bytes h = record { same = refl; steady = refl }
tape_quiet ty ro s p m protected t (request.Locate bt cp object partition) bytes h = barred _ h s.reading
tape_quiet ty ro s p m protected t request.ReadPosition bytes h = record { same = refl; steady = refl }
tape_quiet ty ro s p m protected t (request.PersistentReserveIn action l) bytes h = record { same = refl; steady = refl }
tape_quiet ty ro s p m protected t (request.PersistentReserveOut action scope_type l) bytes h = record { same = refl; steady = refl }
tape_quiet ty ro s p m protected t (request.ReportLuns select l) bytes h = record { same = refl; steady = refl }
tape_quiet ty ro s p m protected t (request.MoveMedium transport source destination invert) bytes h = record { same = refl; steady = refl }
tape_quiet ty ro s p m protected t (request.ReadElementStatus voltag type_code start count curdata dvcid l) bytes h = record { same = refl; steady = refl }
tape_quiet ty ro s p m protected t (request.Host command) bytes h = record { same = refl; steady = refl }

host_tape_quiet : (ty : ResType) (ro : Role) → Shut ty ro → (m : ℕ) (protected : Bool) (t : TapeView) (r : Request) (bytes : List ℕ) → Let ty ro r → Quiet t (host_on_tape m protected t r bytes)
host_tape_quiet ty ro s m protected t (request.Write fixed told) bytes h = barred _ h s.changing
host_tape_quiet ty ro s m protected t (request.WriteFilemarks wsmk immed count) bytes h = barred _ h s.changing
host_tape_quiet ty ro s m protected t request.ReadPosition bytes h = record { same = refl; steady = refl }
host_tape_quiet ty ro s m protected t r bytes h = tape_quiet ty ro s Hosts m protected t r bytes h

in_volume_quiet : (d : DriveView) (v : Volume) (x : TapeView × Outcome) → d.bay ≡ Some v → Quiet v.tape x → Quiet d (in_volume d v x)
in_volume_quiet d v x h q = record {
  same = ap (λ t. record d { bay = Some (record v { tape = t }) }) q.same ∙ ap (λ o. record d { bay = o }) (sym h);
  steady = q.steady;
}

either_quiet : {A : Type 0} (a : A) (b : Bool) (x y : A × Outcome) → Quiet a x → Quiet a y → Quiet a (cond b x y)
either_quiet a true x y p q = p
either_quiet a false x y p q = q

bay_quiet : (ty : ResType) (ro : Role) → Shut ty ro → (d : DriveView) (o : Option Volume) (r : Request) (bytes : List ℕ) → d.bay ≡ o → Let ty ro r → Quiet d (in_bay d o r bytes)
bay_quiet ty ro s d None r bytes e h = record { same = refl; steady = refl }
bay_quiet ty ro s d (Some v) r bytes e h =
    either_quiet d d.loaded (in_volume d v (on_tape Spec d.block_length v.protected v.tape r bytes)) (d, refused InitializingCommandRequired)
    (in_volume_quiet d v (on_tape Spec d.block_length v.protected v.tape r bytes) e (tape_quiet ty ro s Spec d.block_length v.protected v.tape r bytes h)) (record { same = refl; steady = refl })

drive_quiet : (ty : ResType) (ro : Role) → Shut ty ro → (d : DriveView) (r : Request) (bytes : List ℕ) → Let ty ro r → Quiet d (drive_step d r bytes)
drive_quiet ty ro s d request.TestUnitReady bytes h = bay_quiet ty ro s d d.bay request.TestUnitReady bytes refl h
drive_quiet ty ro s d request.Rewind bytes h = bay_quiet ty ro s d d.bay request.Rewind bytes refl h
drive_quiet ty ro s d (request.RequestSense desc l) bytes h = bay_quiet ty ro s d d.bay (request.RequestSense desc l) bytes refl h
drive_quiet ty ro s d request.ReadBlockLimits bytes h = record { same = refl; steady = refl }
drive_quiet ty ro s d request.InitializeElementStatus bytes h = bay_quiet ty ro s d d.bay request.InitializeElementStatus bytes refl h
drive_quiet ty ro s d (request.Read sili fixed l) bytes h = bay_quiet ty ro s d d.bay (request.Read sili fixed l) bytes refl h
drive_quiet ty ro s d (request.Write fixed l) bytes h = bay_quiet ty ro s d d.bay (request.Write fixed l) bytes refl h
drive_quiet ty ro s d (request.WriteFilemarks wsmk immed l) bytes h = bay_quiet ty ro s d d.bay (request.WriteFilemarks wsmk immed l) bytes refl h
drive_quiet ty ro s d (request.Space code l) bytes h = bay_quiet ty ro s d d.bay (request.Space code l) bytes refl h
drive_quiet ty ro s d (request.Inquiry evpd page l) bytes h = bay_quiet ty ro s d d.bay (request.Inquiry evpd page l) bytes refl h
drive_quiet ty ro s d (request.ModeSelect sp l) bytes h = barred _ h s.changing
drive_quiet ty ro s d request.Erase bytes h = bay_quiet ty ro s d d.bay request.Erase bytes refl h
drive_quiet ty ro s d (request.ModeSense dbd pc page subpage l) bytes h = record { same = refl; steady = refl }
drive_quiet ty ro s d (request.LoadUnload hold eot load) bytes h = barred _ h s.changing
drive_quiet ty ro s d (request.PreventAllowMediumRemoval prevent) bytes h = bay_quiet ty ro s d d.bay (request.PreventAllowMediumRemoval prevent) bytes refl h
drive_quiet ty ro s d (request.Locate bt cp l partition) bytes h = bay_quiet ty ro s d d.bay (request.Locate bt cp l partition) bytes refl h
drive_quiet ty ro s d request.ReadPosition bytes h = bay_quiet ty ro s d d.bay request.ReadPosition bytes refl h
drive_quiet ty ro s d (request.PersistentReserveIn action l) bytes h = bay_quiet ty ro s d d.bay (request.PersistentReserveIn action l) bytes refl h
drive_quiet ty ro s d (request.PersistentReserveOut action scope_type l) bytes h = bay_quiet ty ro s d d.bay (request.PersistentReserveOut action scope_type l) bytes refl h
drive_quiet ty ro s d (request.ReportLuns select l) bytes h = bay_quiet ty ro s d d.bay (request.ReportLuns select l) bytes refl h
drive_quiet ty ro s d (request.MoveMedium transport source destination invert) bytes h = bay_quiet ty ro s d d.bay (request.MoveMedium transport source destination invert) bytes refl h
drive_quiet ty ro s d (request.ReadElementStatus voltag type_code start count curdata dvcid l) bytes h = bay_quiet ty ro s d d.bay (request.ReadElementStatus voltag type_code start count curdata dvcid l) bytes refl h
drive_quiet ty ro s d (request.Host command) bytes h = bay_quiet ty ro s d d.bay (request.Host command) bytes refl h

-- A CHANGER's elements change by a MOVE MEDIUM alone
changer_quiet : (ty : ResType) (ro : Role) → row_allows Changing ty ro ≡ false → (e : Elements) (r : Request) → Let ty ro r → Quiet e (changer_step e r)
changer_quiet ty ro closed e request.TestUnitReady h = record { same = refl; steady = refl }
changer_quiet ty ro closed e request.Rewind h = record { same = refl; steady = refl }
changer_quiet ty ro closed e (request.RequestSense desc l) h = record { same = refl; steady = refl }
changer_quiet ty ro closed e request.ReadBlockLimits h = record { same = refl; steady = refl }
changer_quiet ty ro closed e request.InitializeElementStatus h = record { same = refl; steady = refl }
changer_quiet ty ro closed e (request.Read sili fixed l) h = record { same = refl; steady = refl }
changer_quiet ty ro closed e (request.Write fixed l) h = record { same = refl; steady = refl }
changer_quiet ty ro closed e (request.WriteFilemarks wsmk immed l) h = record { same = refl; steady = refl }
changer_quiet ty ro closed e (request.Space code l) h = record { same = refl; steady = refl }
changer_quiet ty ro closed e (request.Inquiry evpd page l) h = record { same = refl; steady = refl }
changer_quiet ty ro closed e (request.ModeSelect sp l) h = record { same = refl; steady = refl }
changer_quiet ty ro closed e request.Erase h = record { same = refl; steady = refl }
changer_quiet ty ro closed e (request.ModeSense dbd pc page subpage l) h = record { same = refl; steady = refl }
changer_quiet ty ro closed e (request.LoadUnload hold eot load) h = record { same = refl; steady = refl }
changer_quiet ty ro closed e (request.PreventAllowMediumRemoval prevent) h = record { same = refl; steady = refl }
changer_quiet ty ro closed e (request.Locate bt cp l partition) h = record { same = refl; steady = refl }
changer_quiet ty ro closed e request.ReadPosition h = record { same = refl; steady = refl }
changer_quiet ty ro closed e (request.PersistentReserveIn action l) h = record { same = refl; steady = refl }
changer_quiet ty ro closed e (request.PersistentReserveOut action scope_type l) h = record { same = refl; steady = refl }
changer_quiet ty ro closed e (request.ReportLuns select l) h = record { same = refl; steady = refl }
changer_quiet ty ro closed e (request.MoveMedium transport source destination invert) h = barred _ h closed
changer_quiet ty ro closed e (request.ReadElementStatus voltag type_code start count curdata dvcid l) h = record { same = refl; steady = refl }
changer_quiet ty ro closed e (request.Host command) h = record { same = refl; steady = refl }

-- IN THE HOSTS' PROFILE. Data that are answered tell nothing
answers_steady : (n : ℕ) (o : Result (List ℕ) Condition) → (answers n o).told ≡ None
answers_steady n (Ok bytes) = refl
answers_steady n (Err condition) = refl

-- a command of another class than the reading and the changing ones isn't counted
uncounted : (ty : ResType) (ro : Role) → Shut ty ro → (d : DriveView) (h : HostDrive) (v : Volume) (r : Request) (x : TapeView × Outcome) → d.hosts ≡ Some h → d.bay ≡ Some v → Let ty ro r → Quiet v.tape x
    → Quiet d (host_in_volume d h v r x)
uncounted ty ro s d h v (request.Read sili fixed l) x is bay lets q = barred _ lets s.reading
uncounted ty ro s d h v (request.Write fixed l) x is bay lets q = barred _ lets s.changing
uncounted ty ro s d h v r x is bay lets q = record {
  same = ap (λ t. record d { bay = Some (record v { tape = t }); hosts = Some h }) q.same ∙ ap (λ o. record d { bay = o; hosts = Some h }) (sym bay) ∙ ap (λ o. record d { hosts = o }) (sym is);
  steady = q.steady;
}

host_bay_quiet : (ty : ResType) (ro : Role) → Shut ty ro → (d : DriveView) (h : HostDrive) (o : Option Volume) (r : Request) (bytes : List ℕ) → d.hosts ≡ Some h → d.bay ≡ o → Let ty ro r → Quiet d (host_in_bay d h o r bytes)
host_bay_quiet ty ro s d h None r bytes is e lets = record { same = refl; steady = refl }
host_bay_quiet ty ro s d h (Some v) r bytes is e lets =
    either_quiet d d.loaded (host_in_volume d h v r (host_on_tape d.block_length v.protected v.tape r bytes)) (d, refused (not_ready h.held))
    (uncounted ty ro s d h v r (host_on_tape d.block_length v.protected v.tape r bytes) is e lets (host_tape_quiet ty ro s d.block_length v.protected v.tape r bytes lets)) (record { same = refl; steady = refl })

pub host_command_quiet : (ty : ResType) (ro : Role) → row_allows Changing ty ro ≡ false → (d : DriveView) (h : HostDrive) (c : HostRequest) (bytes : List ℕ) → Let ty ro (request.Host c) → Quiet d (host_command_step d h c bytes)
host_command_quiet ty ro closed d h (host.SendDiagnostic code test l) bytes lets = record { same = refl; steady = refl }
host_command_quiet ty ro closed d h (host.LogSelect pcr sp pc page subpage l) bytes lets = barred _ lets closed
host_command_quiet ty ro closed d h (host.LogSense ppc sp pc page subpage pointer l) bytes lets = record { same = refl; steady = answers_steady l _ }
host_command_quiet ty ro closed d h (host.ModeSelect10 sp l) bytes lets = barred _ lets closed
host_command_quiet ty ro closed d h (host.ModeSense10 dbd pc page subpage l) bytes lets = record { same = refl; steady = answers_steady l _ }
host_command_quiet ty ro closed d h (host.ReportSupportedOperationCodes rctd options code action l) bytes lets = record { same = refl; steady = answers_steady l _ }
host_command_quiet ty ro closed d h (host.ReportSupportedTaskManagementFunctions repd l) bytes lets = record { same = refl; steady = refl }
host_command_quiet ty ro closed d h (host.PositionToElement transport destination invert) bytes lets = record { same = refl; steady = refl }
host_command_quiet ty ro closed d h (host.ExchangeMedium transport source first second inv1 inv2) bytes lets = record { same = refl; steady = refl }
host_command_quiet ty ro closed d h (host.InitializeElementStatusWithRange fast range start count) bytes lets = record { same = refl; steady = refl }

host_drive_quiet : (ty : ResType) (ro : Role) → Shut ty ro → (d : DriveView) (h : HostDrive) (r : Request) (bytes : List ℕ) → d.hosts ≡ Some h → Let ty ro r → Quiet d (host_drive_step d h r bytes)
host_drive_quiet ty ro s d h request.ReadBlockLimits bytes is lets = record { same = refl; steady = refl }
host_drive_quiet ty ro s d h (request.ModeSelect sp l) bytes is lets = barred _ lets s.changing
host_drive_quiet ty ro s d h (request.ModeSense dbd pc page subpage l) bytes is lets = record { same = refl; steady = answers_steady l _ }
host_drive_quiet ty ro s d h (request.LoadUnload hold eot load) bytes is lets = barred _ lets s.changing
host_drive_quiet ty ro s d h (request.Host command) bytes is lets = host_command_quiet ty ro s.changing d h command bytes lets
host_drive_quiet ty ro s d h r bytes is lets = host_bay_quiet ty ro s d h d.bay r bytes is refl lets

changer_command_quiet : (ty : ResType) (ro : Role) → row_allows Changing ty ro ≡ false → (c : ChangerView) (h : HostChanger) (command : HostRequest) (bytes : List ℕ) → Let ty ro (request.Host command) → Quiet c (changer_command_step c h command bytes)
changer_command_quiet ty ro closed c h (host.SendDiagnostic code test l) bytes lets = record { same = refl; steady = refl }
changer_command_quiet ty ro closed c h (host.LogSelect pcr sp pc page subpage l) bytes lets = barred _ lets closed
changer_command_quiet ty ro closed c h (host.LogSense ppc sp pc page subpage pointer l) bytes lets = record { same = refl; steady = answers_steady l _ }
changer_command_quiet ty ro closed c h (host.ModeSelect10 sp l) bytes lets = record { same = refl; steady = refl }
changer_command_quiet ty ro closed c h (host.ModeSense10 dbd pc page subpage l) bytes lets = record { same = refl; steady = answers_steady l _ }
changer_command_quiet ty ro closed c h (host.ReportSupportedOperationCodes rctd options code action l) bytes lets = record { same = refl; steady = answers_steady l _ }
changer_command_quiet ty ro closed c h (host.ReportSupportedTaskManagementFunctions repd l) bytes lets = record { same = refl; steady = refl }
changer_command_quiet ty ro closed c h (host.PositionToElement transport destination invert) bytes lets = barred _ lets closed
changer_command_quiet ty ro closed c h (host.InitializeElementStatusWithRange fast range start count) bytes lets = record { same = refl; steady = refl }
changer_command_quiet ty ro closed c h (host.ExchangeMedium transport source first second inv1 inv2) bytes lets = barred _ lets closed

host_changer_quiet : (ty : ResType) (ro : Role) → row_allows Changing ty ro ≡ false → (c : ChangerView) (h : HostChanger) (r : Request) (bytes : List ℕ) → Let ty ro r → Quiet c (host_changer_step c h r bytes)
host_changer_quiet ty ro closed c h request.TestUnitReady bytes lets = record { same = refl; steady = refl }
host_changer_quiet ty ro closed c h request.InitializeElementStatus bytes lets = record { same = refl; steady = refl }
host_changer_quiet ty ro closed c h (request.ModeSense dbd pc page subpage l) bytes lets = record { same = refl; steady = answers_steady l _ }
host_changer_quiet ty ro closed c h (request.MoveMedium transport source destination invert) bytes lets = barred _ lets closed
host_changer_quiet ty ro closed c h (request.ReadElementStatus voltag type_code start count curdata dvcid l) bytes lets = record { same = refl; steady = refl }
host_changer_quiet ty ro closed c h (request.Host command) bytes lets = changer_command_quiet ty ro closed c h command bytes lets
host_changer_quiet ty ro closed c h r bytes lets = record { same = refl; steady = refl }

-- BY THE PROFILE
drive_by : (ty : ResType) (ro : Role) → Shut ty ro → (o : Option HostDrive) (d : DriveView) (r : Request) (bytes : List ℕ) → d.hosts ≡ o → Let ty ro r → Quiet d (drive_stepped o d r bytes)
drive_by ty ro s None d r bytes is lets = drive_quiet ty ro s d r bytes lets
drive_by ty ro s (Some h) d r bytes is lets = host_drive_quiet ty ro s d h r bytes is lets

pub changer_by : (ty : ResType) (ro : Role) → row_allows Changing ty ro ≡ false → (o : Option HostChanger) (c : ChangerView) (r : Request) (bytes : List ℕ) → Let ty ro r → Quiet c (changer_stepped o c r bytes)
changer_by ty ro closed None c r bytes lets = let q = changer_quiet ty ro closed c.elements r lets in record { same = ap (λ e. record c { elements = e }) q.same; steady = q.steady }
changer_by ty ro closed (Some h) c r bytes lets = host_changer_quiet ty ro closed c h r bytes lets

stepped_quiet : (ty : ResType) (ro : Role) → Shut ty ro → (d : DeviceView) (r : Request) (bytes : List ℕ) → Let ty ro r → Quiet d (stepped d r bytes)
stepped_quiet ty ro s (Drive d) r bytes h = let q = drive_by ty ro s d.hosts d r bytes refl h in record { same = ap Drive q.same; steady = q.steady }
stepped_quiet ty ro s (Changer c) r bytes h = let q = changer_by ty ro s.changing c.hosts c r bytes h in record { same = ap Changer q.same; steady = q.steady }

-- the device stays as it was, and nothing is told
pub performed_quiet : (ty : ResType) (ro : Role) → Shut ty ro → (d : DeviceView) (r : Request) (bytes : List ℕ) → Let ty ro r → Quiet d (performed d r bytes)
performed_quiet ty ro s d r bytes h =
    elim (field_fault d r bytes) as (λ (o : Option Condition). Quiet d (elim o [ Some condition ↦ (d, refused condition) | None ↦ stepped d r bytes ])) [
      | Some condition ↦ record { same = refl; steady = refl }
      | None ↦ stepped_quiet ty ro s d r bytes h
    ]

-- A PROTECTED SPAN: a stretch of a run in which a reservation keeps one unit for some nexuses, those inside. The commands of all others to
-- that unit can be struck out, and nobody inside sees a difference.
use Rattle.std.specs.Prelude.{◌≡◌, ◌⊎◌, ℕ, Bool, true, false, not, List, [], ◌∷◌, slice_get, Some, Result, Ok}
use Rattle.std.specs.List.{list_all}
use Rattle.scsi_cdb.specs.declared.service_action.OutServiceAction.{OutServiceAction}
use Rattle.scsi_cdb.specs.declared.service_action.OutServiceAction.TheVariants as out
use Rattle.scsi_nexus.specs.declared.nexus.Nexus.{Nexus}
use Rattle.scsi_nexus.specs.Order.{same_nexus}
use Rattle.scsi_sense.specs.declared.condition.Condition.{Condition}
use Rattle.permit_tables.specs.declared.res_type.ResType.TheVariants as type
use Rattle.pr_params.specs.Lists.{has_spec_i_pt, has_all_tg_pt, register_params}
use Rattle.pr_core.specs.State.{State, key, is_registered, res_type}
use Rattle.pr_core.specs.Targets.{targets}
use Rattle.device_server.specs.View.{commands_of}
use Rattle.judgement.specs.declared.command.Command.{Command}
use Rattle.judgement.specs.declared.command.Command.TheVariants.{ReserveOut, ReserveIn}
use Rattle.judgement.specs.Commands.{decoded_command}
use Rattle.judgement.specs.declared.reply.Reply.{Reply}
use Rattle.logical_unit.specs.UnitView.{UnitView}
use Rattle.target_core.specs.declared.event.Event.{Event}
use Rattle.target_core.specs.Run.{Runs}
use Rattle.protected_span.specs.Reached.{AreReached}
use Rattle.protected_span.specs.Struck.{struck, RunsThrough, IsServed, InSpan, is_exact, Tells, EndsAlike, Serves}

-- THE SPAN OF A HOLDER h, of Exclusive Access
abbrev pub is_the_holder : (h : Nexus) → Nexus → Bool
is_the_holder h n = same_nexus n h

abbrev pub Holds : (h : Nexus) → UnitView → Type 0
Holds h u = u.state.reservations.reservation ≡ Some (type.Ea, h)

-- the reservation acts of h that look at no other's key: it preempts nobody, moves nothing, and registers itself alone
abbrev pub ConcernsItself : (h : Nexus) → OutServiceAction → (named : List Nexus) → Type 0
ConcernsItself h out.Register named = named ≡ h ∷ []
ConcernsItself h out.RegisterAndIgnoreExistingKey named = named ≡ h ∷ []
ConcernsItself h out.Reserve named = Unit {0}
ConcernsItself h out.Release named = Unit {0}
ConcernsItself h out.Clear named = Unit {0}
ConcernsItself h act named = ⊥

-- what h may send: any command, but of the reservation acts only those
abbrev pub MaySend : Nexus → Result Command Condition → Type 0
MaySend h (Ok (ReserveOut p)) = ConcernsItself h p.act (targets h p)
MaySend h c = Unit {0}

-- a command to the unit: of h, one that it may send; of another, one that leaves h its key
pub record IsFair (h : Nexus) (n : Nexus) (cdb bytes : List ℕ) (u v : UnitView) : Type 0 where
  pub own : same_nexus n h ≡ true → MaySend h (decoded_command (commands_of u.device) cdb bytes)
  pub others : same_nexus n h ≡ false → key v.state.reservations h ≡ key u.state.reservations h

-- a REGISTER list with neither SPEC_I_PT nor ALL_TG_PT names its sender alone (SPC-4, "REGISTER service action")
abbrev pub RegistersItself : Type 0
RegistersItself =
    (n : Nexus) (act : OutServiceAction) (scope_type : ℕ) (bytes : List ℕ) → has_spec_i_pt bytes ≡ false → has_all_tg_pt bytes ≡ false
    → targets n (register_params act scope_type bytes) ≡ n ∷ []

-- at the start h holds, and no other prevents removal
pub record BeginsFor (h : Nexus) (u : UnitView) : Type 0 where
  pub holds : Holds h u
  pub alone : list_all (is_the_holder h) u.state.preventers ≡ true

-- h goes on holding, and each command to the unit is fair
abbrev pub HolderStep : (lun : ℕ) (h : Nexus) → List UnitView → Event → Reply → List UnitView → Type 0
HolderStep lun h us e r ms = InSpan lun (Holds h) (IsFair h) us e r ms

-- PERSISTENT RESERVE IN shows registrations of others, and the generation
abbrev pub is_read : Result Command Condition → Bool
is_read (Ok (ReserveIn action allocation_length)) = true
is_read c = false

-- a span of h, from units as they can be: it begins at the unit u, and each step is one of it
pub record IsHolderSpan (lun : ℕ) (h : Nexus) (us : List UnitView) (u : UnitView) (es : List Event) (rs : List Reply) (vs : List UnitView) : Type 0 where
  pub reached : AreReached us
  pub place : slice_get us lun ≡ Some u
  pub begins : BeginsFor h u
  pub run : RunsThrough (HolderStep lun h) us es rs vs

-- in a span of h the other nexuses' commands to the unit may be struck out: device and units end the same, and every other event is
-- answered the same, but for the data of PERSISTENT RESERVE IN and for the numbers of the unit's records
abbrev pub HolderSpan : Type 0
HolderSpan =
    (us vs ws : List UnitView) (es : List Event) (rs qs : List Reply) (lun : ℕ) (h : Nexus) (u : UnitView) → IsHolderSpan lun h us u es rs vs
    → RunsThrough IsServed us (struck lun (is_the_holder h) es) qs ws
    → EndsAlike lun vs ws × Tells lun (is_the_holder h) (is_exact lun (λ n cdb bytes. not (is_read (decoded_command (commands_of u.device) cdb bytes)))) es rs qs

-- THE SPAN OF A GROUP, those inside: Exclusive Access of registrants, and the registered nexuses are those inside
pub record IsSharedBy (inside : Nexus → Bool) (v : State) : Type 0 where
  pub held : (res_type v ≡ type.Earo) ⊎ (res_type v ≡ type.Eaar)
  pub registered : (n : Nexus) → is_registered v n ≡ inside n

pub record BeginsForGroup (inside : Nexus → Bool) (u : UnitView) : Type 0 where
  pub shared : IsSharedBy inside u.state.reservations
  pub alone : list_all inside u.state.preventers ≡ true

-- the registered nexuses stay those, and any command may come
abbrev pub GroupStep : (lun : ℕ) (inside : Nexus → Bool) → List UnitView → Event → Reply → List UnitView → Type 0
GroupStep lun inside us e r ms = InSpan lun (λ v. IsSharedBy inside v.state.reservations) (λ n cdb bytes u v. Unit {0}) us e r ms

-- a span of a group, as one of a holder
pub record IsGroupSpan (lun : ℕ) (inside : Nexus → Bool) (us : List UnitView) (u : UnitView) (es : List Event) (rs : List Reply) (vs : List UnitView) : Type 0 where
  pub reached : AreReached us
  pub place : slice_get us lun ≡ Some u
  pub begins : BeginsForGroup inside u
  pub run : RunsThrough (GroupStep lun inside) us es rs vs

-- in a span of a group the commands to the unit of all others may be struck out, and PERSISTENT RESERVE IN too is answered the same
abbrev pub GroupSpan : Type 0
GroupSpan =
    (us vs ws : List UnitView) (es : List Event) (rs qs : List Reply) (lun : ℕ) (inside : Nexus → Bool) (u : UnitView) → IsGroupSpan lun inside us u es rs vs
    → RunsThrough IsServed us (struck lun inside es) qs ws
    → EndsAlike lun vs ws × Tells lun inside (is_exact lun (λ n cdb bytes. true)) es rs qs

-- WHAT IS LEFT CAN BE SERVED

-- there is such a run of what is left of a span: struck commands only free slots and numbers
abbrev pub SpansServe : Type 0
SpansServe =
    (us vs : List UnitView) (es : List Event) (rs : List Reply) (lun : ℕ) (u : UnitView)
    → ((h : Nexus) → IsHolderSpan lun h us u es rs vs → Serves us (struck lun (is_the_holder h) es))
    × ((inside : Nexus → Bool) → IsGroupSpan lun inside us u es rs vs → Serves us (struck lun inside es))

-- a span is a run of the target
abbrev pub SpansAreRuns : Type 0
SpansAreRuns =
    (us vs : List UnitView) (es : List Event) (rs : List Reply) (lun : ℕ) (h : Nexus) (inside : Nexus → Bool)
    → (RunsThrough (HolderStep lun h) us es rs vs → Runs us es rs vs)
    × (RunsThrough (GroupStep lun inside) us es rs vs → Runs us es rs vs)
    × (RunsThrough IsServed us es rs vs → Runs us es rs vs)

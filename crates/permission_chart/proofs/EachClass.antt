-- Each class is in the list of them, so a test that all in the list pass, which computes, holds of each class.
use Rattle.std.proofs.Common.{◌≡◌, ℕ, true, false, not, Bool, ◌==◌, length, List, Option, Some, None, refl, sym, ap, subst, ◌∙◌, lit<, get_or}
use Rattle.std.proofs.lemmas.Bool.{eqb-true}
use Rattle.std.proofs.lemmas.List.{get_or_default}
use Rattle.std.proofs.lemmas.List.Sums.{AllPass-from_list_all}
use Rattle.std.specs.List.{Contains, list_all}
use Rattle.permission_chart.specs.Classes.{is_host, every_class, HasEachClass}
use Rattle.scsi_cdb.specs.declared.classes.Class.{Class}
use Rattle.scsi_cdb.specs.declared.classes.Class.TheVariants.{TestUnitReady, RequestSense, Inquiry, ReportLuns, PersistentReserveIn, AllowRemoval, ReadBlockLimits, ReadPosition, ReadElementStatusCurdata, ModeSense, Read, Space, Locate, Rewind, ReadElementStatus, ModeSelect, PreventRemoval, Write, WriteFilemarks, Erase, LoadUnload, MoveMedium, InitializeElementStatus, Register, RegisterAndIgnoreExistingKey, Clear, Preempt, PreemptAndAbort, Release, Reserve, RegisterAndMove, SendDiagnostic, LogSelect, LogSense, ModeSelect10, ModeSense10, ReportSupportedOperationCodes, ReportSupportedTaskManagementFunctions, PositionToElement, ExchangeMedium}
use Rattle.scsi_cdb.specs.declared.profile.Profile.TheVariants.{Spec, Hosts}

-- each class at its place
abbrev pub every_class_has : (c : Class) → Contains (every_class Hosts) c
every_class_has TestUnitReady = (0, lit< tt, refl)
every_class_has RequestSense = (1, lit< tt, refl)
every_class_has Inquiry = (2, lit< tt, refl)
every_class_has ReportLuns = (3, lit< tt, refl)
every_class_has PersistentReserveIn = (4, lit< tt, refl)
every_class_has AllowRemoval = (5, lit< tt, refl)
every_class_has ReadBlockLimits = (6, lit< tt, refl)
every_class_has ReadPosition = (7, lit< tt, refl)
every_class_has ReadElementStatusCurdata = (8, lit< tt, refl)
every_class_has ModeSense = (9, lit< tt, refl)
every_class_has Read = (10, lit< tt, refl)
every_class_has Space = (11, lit< tt, refl)
every_class_has Locate = (12, lit< tt, refl)
every_class_has Rewind = (13, lit< tt, refl)
every_class_has ReadElementStatus = (14, lit< tt, refl)
every_class_has ModeSelect = (15, lit< tt, refl)
every_class_has PreventRemoval = (16, lit< tt, refl)
every_class_has Write = (17, lit< tt, refl)
every_class_has WriteFilemarks = (18, lit< tt, refl)
every_class_has Erase = (19, lit< tt, refl)
every_class_has LoadUnload = (20, lit< tt, refl)
every_class_has MoveMedium = (21, lit< tt, refl)
every_class_has InitializeElementStatus = (22, lit< tt, refl)
every_class_has Register = (23, lit< tt, refl)
every_class_has RegisterAndIgnoreExistingKey = (24, lit< tt, refl)
every_class_has Clear = (25, lit< tt, refl)
every_class_has Preempt = (26, lit< tt, refl)
every_class_has PreemptAndAbort = (27, lit< tt, refl)
every_class_has Release = (28, lit< tt, refl)
every_class_has Reserve = (29, lit< tt, refl)
every_class_has RegisterAndMove = (30, lit< tt, refl)
every_class_has SendDiagnostic = (31, lit< tt, refl)
every_class_has LogSelect = (32, lit< tt, refl)
every_class_has LogSense = (33, lit< tt, refl)
every_class_has ModeSelect10 = (34, lit< tt, refl)
every_class_has ModeSense10 = (35, lit< tt, refl)
every_class_has ReportSupportedOperationCodes = (36, lit< tt, refl)
every_class_has ReportSupportedTaskManagementFunctions = (37, lit< tt, refl)
every_class_has PositionToElement = (38, lit< tt, refl)
every_class_has ExchangeMedium = (39, lit< tt, refl)

-- and in the list of the default profile
shared_has : (c : Class) → is_host c ≡ false → Contains (every_class Spec) c
shared_has TestUnitReady other = (0, lit< tt, refl)
shared_has RequestSense other = (1, lit< tt, refl)
shared_has Inquiry other = (2, lit< tt, refl)
shared_has ReportLuns other = (3, lit< tt, refl)
shared_has PersistentReserveIn other = (4, lit< tt, refl)
shared_has AllowRemoval other = (5, lit< tt, refl)
shared_has ReadBlockLimits other = (6, lit< tt, refl)
shared_has ReadPosition other = (7, lit< tt, refl)
shared_has ReadElementStatusCurdata other = (8, lit< tt, refl)
shared_has ModeSense other = (9, lit< tt, refl)
shared_has Read other = (10, lit< tt, refl)
shared_has Space other = (11, lit< tt, refl)
shared_has Locate other = (12, lit< tt, refl)
shared_has Rewind other = (13, lit< tt, refl)
shared_has ReadElementStatus other = (14, lit< tt, refl)
shared_has ModeSelect other = (15, lit< tt, refl)
shared_has PreventRemoval other = (16, lit< tt, refl)
shared_has Write other = (17, lit< tt, refl)
shared_has WriteFilemarks other = (18, lit< tt, refl)
shared_has Erase other = (19, lit< tt, refl)
shared_has LoadUnload other = (20, lit< tt, refl)
shared_has MoveMedium other = (21, lit< tt, refl)
shared_has InitializeElementStatus other = (22, lit< tt, refl)
shared_has Register other = (23, lit< tt, refl)
shared_has RegisterAndIgnoreExistingKey other = (24, lit< tt, refl)
shared_has Clear other = (25, lit< tt, refl)
shared_has Preempt other = (26, lit< tt, refl)
shared_has PreemptAndAbort other = (27, lit< tt, refl)
shared_has Release other = (28, lit< tt, refl)
shared_has Reserve other = (29, lit< tt, refl)
shared_has RegisterAndMove other = (30, lit< tt, refl)
shared_has SendDiagnostic other = absurd cc
shared_has LogSelect other = absurd cc
shared_has LogSense other = absurd cc
shared_has ModeSelect10 other = absurd cc
shared_has ModeSense10 other = absurd cc
shared_has ReportSupportedOperationCodes other = absurd cc
shared_has ReportSupportedTaskManagementFunctions other = absurd cc
shared_has PositionToElement other = absurd cc
shared_has ExchangeMedium other = absurd cc

-- a test that each class of the list passes
pub each_class : (test : Class → Bool) → list_all test (every_class Hosts) ≡ true → (c : Class) → test c ≡ true
each_class test passes c =
    let at = every_class_has c in
    subst (λ (x : Class). test x ≡ true) at.2 (AllPass-from_list_all test (every_class Hosts) passes at.0 c at.1)

-- the place of a class in the list, by which classes are told apart
abbrev pub place : Class → ℕ
place c = (every_class_has c).0

same_place : (a b : Class) → place a ≡ place b → a ≡ b
same_place a b e =
    sym (every_class_has a).2
    ∙ get_or_default (every_class Hosts) (place a) a b (every_class_has a).1
    ∙ ap (λ (k : ℕ). get_or (every_class Hosts) k b) e
    ∙ (every_class_has b).2

-- whether this class was found
abbrev pub is_found : Class → Option Class → Bool
is_found c None = false
is_found c (Some other) = place other == place c

pub found : (c : Class) (o : Option Class) → is_found c o ≡ true → o ≡ Some c
found c None h = absurd cc
found c (Some other) h = ap (λ (x : Class). Some x) (same_place other c (eqb-true _ _ h))

-- THE DEFAULT PROFILE has no class that only the hosts' has
is_shared : Class → Bool
is_shared c = not (is_host c)

no_host : (b : Bool) → b ≡ true → not b ≡ true → ⊥
no_host true h n = absurd cc
no_host false h n = absurd cc

host_not_shared : (c : Class) → is_host c ≡ true → ¬ Contains (every_class Spec) c
unfolding is_shared
host_not_shared c h at =
    no_host (is_host c) h (subst (λ (x : Class). is_shared x ≡ true) at.2 (AllPass-from_list_all is_shared (every_class Spec) refl at.0 c at.1))

pub has_each_class : HasEachClass
has_each_class = record { hosts = every_class_has; spec = shared_has; spec_alone = host_not_shared }

-- The worked rows, computed.
use Rattle.std.proofs.Common.{◌≡◌, ℕ, ◌==◌, Bool, true, false, Option, Some, None, refl, ap, inl, inr}
use Rattle.scsi_nexus.specs.declared.nexus.Nexus.{Nexus}
use Rattle.scsi_nexus.specs.Order.{same_nexus}
use Rattle.permit_tables.specs.declared.res_type.ResType.{ResType}
use Rattle.permit_tables.specs.Types.{code_of}
use Rattle.std.specs.Global.{Vec}
use Rattle.arrayvec.specs.ArrayVec.{ArrayVec}
use Rattle.scsi_cdb.specs.Commands as cdb
use Rattle.tape_medium.specs.declared.volume.VolumeTag.{VolumeTag}
use Rattle.pr_core.specs.State.{keys_after}
use Rattle.device_server.specs.View.{profile_of}
use Rattle.protected_span.specs.Rows.{a, WorkedSpan, StruckOut, ConditionsAreNeeded, ConditionsSay, MayNot, Contents}

pub worked_span : (tag : VolumeTag) → WorkedSpan tag
unfolding cdb.command_of profile_of keys_after
worked_span tag = record { all = refl; alone = refl; data_beside = refl; data_alone = refl; device_beside = refl; device_alone = refl; beside = refl }

pub struck_out : (cdb : ArrayVec ℕ) (bytes : Vec ℕ) → StruckOut cdb bytes
struck_out cdb bytes = record { commands = refl; others = refl }

pub needed : (tag : VolumeTag) → ConditionsAreNeeded tag
unfolding cdb.command_of profile_of keys_after
needed tag = record {
  preempt_beside = refl;
  preempt_alone = refl;
  register_beside = refl;
  register_alone = refl;
  move_allowed = refl;
  move_beside = refl;
  move_alone = refl;
  key_changed = refl;
  release_late = refl;
  release_alone = refl;
  unloads_beside = refl;
  unloads_alone = refl;
}

-- whether A has a reservation, and whether one is of Exclusive Access
abbrev by_a : Option (ResType × Nexus) → Bool
by_a None = false
by_a (Some r) = same_nexus r.1 a

abbrev is_exclusive_access : Option (ResType × Nexus) → Bool
is_exclusive_access None = false
is_exclusive_access (Some r) = code_of r.0 == 3

pub say : (tag : VolumeTag) → ConditionsSay tag
say tag = record {
  no_preempt = λ m. m;
  no_abort = λ m. m;
  no_move = λ m. m;
  no_other = λ m. cc;
  no_other_ignoring = λ m. cc;
  itself = refl;
  begins = record { holds = refl; alone = refl };
  not_holding = λ s. let e : true ≡ false = ap by_a s.holds in cc;
  another_prevents = λ s. let e = s.alone in cc;
  group_prevents = λ s. let e = s.alone in cc;
  write_exclusive = λ s. let e : false ≡ true = ap is_exclusive_access s.holds in cc;
  registrants_only = λ s. elim s.held [ inl e ↦ cc | inr e ↦ cc ];
}

pub may_not : MayNot
may_not = record { we = refl; ea = refl; wero = refl; earo = refl; wear = refl; eaar = refl; registered = λ e. cc; holder = λ e. cc; unreserved = λ e. cc }

-- what a drive of the hosts' profile keeps: whether its volume is held, and the compression
abbrev held_of : {A : Type 0} → Option (A × Bool × Bool) → Bool
held_of None = false
held_of (Some it) = it.1

abbrev compression_of : {A : Type 0} → Option (A × Bool × Bool) → Bool
compression_of None = false
compression_of (Some it) = it.2

pub contents : (tag : VolumeTag) → Contents tag
contents tag = record {
  moved = (refl, refl, refl, record { cartridge = record { tag = refl; protected = refl; capacity = refl }; objects = refl });
  written = λ e. let same = e.3.objects in cc;
  gone = λ e. e.3;
  unloaded = λ e. let same = e.0 in cc;
  set = λ e. let same = e.1 in cc;
  counted = λ h other. (refl, refl, refl, record { cartridge = record { tag = refl; protected = refl; capacity = refl }; objects = refl });
  held = λ h e. let same : false ≡ true = ap held_of e.2 in cc;
  compression = λ h e. let same : true ≡ false = ap compression_of e.2 in cc;
}

-- The rows of answers at the reservation check: what is due is computed, and each neighbour differs from it at one place.
use Rattle.std.proofs.Common.{◌≡◌, ℕ, Bool, true, false, List, [], ◌∷◌, length, Option, Some, None, refl, ap, arith}
use Rattle.scsi_cdb.specs.Commands as cdb
use Rattle.scsi_nexus.specs.Order.{same_nexus}
use Rattle.permit_tables.specs.declared.role.Role.{Role}
use Rattle.permit_tables.specs.declared.role.Role.TheVariants.{Other}
use Rattle.permit_tables.specs.declared.key_rule.KeyRule.{KeyRule}
use Rattle.pr_core.specs.State.{keys_after}
use Rattle.tape_medium.specs.declared.volume.VolumeTag.{VolumeTag}
use Rattle.audit_log.specs.declared.record.Record.{Record}
use Rattle.device_server.specs.View.{DeviceView, Drive, Changer, profile_of}
use Rattle.judgement.specs.declared.reply.Reply.{Reply}
use Rattle.logical_unit.specs.UnitView.{UnitView}
use Rattle.unit_laws.specs.Rows.{a}
use Rattle.unit_laws.specs.CheckRows.{BarredWrite, BarredRegister, AllowedWrite}

-- what an answer says, place by place
abbrev role_in : List Record → Role
role_in [] = Other
role_in (e ∷ es) = elim e.cell [ None ↦ Other | Some cell ↦ cell.role ]

abbrev rule_in : List Record → Option KeyRule
rule_in [] = None
rule_in (e ∷ es) = e.rule

abbrev is_of_a : List Record → Bool
is_of_a [] = false
is_of_a (e ∷ es) = elim e.nexus [ None ↦ false | Some n ↦ same_nexus n a ]

abbrev position_in : DeviceView → ℕ
position_in (Drive d) = elim d.bay [ None ↦ 0 | Some volume ↦ volume.tape.position ]
position_in (Changer e) = 0

abbrev is_loaded_in : DeviceView → Bool
is_loaded_in (Drive d) = d.loaded
is_loaded_in (Changer e) = false

pub barred_write : (tag : VolumeTag) → BarredWrite tag
unfolding cdb.command_of profile_of keys_after
barred_write tag = record {
  due = record { conflicts = (λ status allowed. cc, λ barred. refl); carried_out = λ allowed. absurd cc; unchanged = λ barred. refl };
  good = λ d. let e = d.conflicts.1 (λ allowed. cc) in cc;
  unnumbered = λ d. let e : 0 ≡ 1 = ap (λ (x : UnitView × Reply). x.1.number) (d.unchanged (λ allowed. cc)) in omega arith;
  with_data = λ d. let e : 1 ≡ 0 = ap (λ (x : UnitView × Reply). length x.1.payload) (d.unchanged (λ allowed. cc)) in omega arith;
  registration_lost = λ d. let e : 0 ≡ 1 = ap (λ (x : UnitView × Reply). length x.0.state.reservations.keys) (d.unchanged (λ allowed. cc)) in omega arith;
  prevented = λ d. let e : 1 ≡ 0 = ap (λ (x : UnitView × Reply). length x.0.state.preventers) (d.unchanged (λ allowed. cc)) in omega arith;
  written = λ d. let e : 1 ≡ 0 = ap (λ (x : UnitView × Reply). position_in x.0.device) (d.unchanged (λ allowed. cc)) in omega arith;
  unloaded = λ d. let e : false ≡ true = ap (λ (x : UnitView × Reply). is_loaded_in x.0.device) (d.unchanged (λ allowed. cc)) in cc;
  unrecorded = λ d. let e : 0 ≡ 1 = ap (λ (x : UnitView × Reply). length x.0.records) (d.unchanged (λ allowed. cc)) in omega arith;
  recorded_twice = λ d. let e : 2 ≡ 1 = ap (λ (x : UnitView × Reply). length x.0.records) (d.unchanged (λ allowed. cc)) in omega arith;
  another_cell = λ d. let e = ap (λ (x : UnitView × Reply). role_in x.0.records) (d.unchanged (λ allowed. cc)) in cc;
  another_rule = λ d. let e = ap (λ (x : UnitView × Reply). rule_in x.0.records) (d.unchanged (λ allowed. cc)) in cc;
  another_sender = λ d. let e : true ≡ false = ap (λ (x : UnitView × Reply). is_of_a x.0.records) (d.unchanged (λ allowed. cc)) in cc;
}

pub barred_register : (tag : VolumeTag) → BarredRegister tag
unfolding cdb.command_of profile_of keys_after
barred_register tag = record {
  due = record { conflicts = (λ status allowed. cc, λ barred. refl); carried_out = λ allowed. absurd cc; unchanged = λ barred. refl };
  no_rule = λ d. let e = ap (λ (x : UnitView × Reply). rule_in x.0.records) (d.unchanged (λ allowed. cc)) in cc;
  another_rule = λ d. let e = ap (λ (x : UnitView × Reply). rule_in x.0.records) (d.unchanged (λ allowed. cc)) in cc;
}

pub allowed_write : (tag : VolumeTag) → AllowedWrite tag
unfolding cdb.command_of profile_of keys_after
allowed_write tag = record {
  due = record { conflicts = (λ status allowed. cc, λ barred. absurd (barred refl)); carried_out = λ allowed. refl; unchanged = λ barred. absurd (barred refl) };
  conflict = λ d. d.conflicts.0 refl refl;
  unwritten = λ d. let e : 0 ≡ 1 = ap (λ (x : UnitView × Reply). position_in x.0.device) (d.carried_out refl) in omega arith;
  unrecorded = λ d. let e : 0 ≡ 1 = ap (λ (x : UnitView × Reply). length x.0.records) (d.carried_out refl) in omega arith;
}

-- The worked cases compute.
use Rattle.std.proofs.Common.{refl}
use Rattle.pr_core.specs.State.{keys_after}
use Rattle.unit_laws.specs.ReservationRows.{WorkedRows, ToldRows, RefusalRows}

pub worked : WorkedRows
unfolding keys_after
worked = record {
  in_order = refl;
  register_zero = refl;
  register_zero_is_no_act = refl;
  register_wrong_key = refl;
  register_other_key = refl;
  reserve_denied = refl;
  clear_denied = refl;
  preempt_shared_key_allowed = refl;
  preempt_shared_key = refl;
  preempt_shared_key_raised = refl;
  preempt_shared_key_removed = refl;
  outlives_maker = refl;
  outlives_maker_role = refl;
  ends_with_the_last = refl;
  preempt_zero_takes = refl;
  preempt_zero_takes_raised = refl;
  preempt_zero_allowed = refl;
  preempt_zero_refused = refl;
  preempt_nobody = refl;
  preempt_unknown_type = refl;
  release_other_type = refl;
  release = refl;
  release_raised = refl;
  unregister = refl;
  unregister_raised = refl;
  register_and_move = refl;
  register_and_move_unregisters = refl;
  register_and_move_all = refl;
  register_and_move_itself = refl;
  register_and_move_nothing = refl;
  reserve_unknown = refl;
  reserve_again = refl;
  preempt_zero_same_type = refl;
  preempt_zero_same_type_raised = refl;
  preempt_not_taking = refl;
  preempt_not_taking_raised = refl;
  clear_raised = refl;
  after_clear = refl;
  all_ports = refl;
  one_port_less = refl;
  unregistered_at_one_port = refl;
  registered_at_one_port = refl;
  listed = refl;
  listed_twice = refl;
  listed_nobody = refl;
  listed_from_registered = refl;
  listed_from_registered_refused = refl;
  listed_at_all_ports = refl;
  defect_names_the_sender = refl;
  defect_refused = refl;
  all_ports_release = refl;
  all_ports_release_raised = refl;
  all_ports_release_removed = refl;
}

pub told : ToldRows
unfolding keys_after
told = record {
  release_wear = refl;
  release_eaar = refl;
  release_we = refl;
  release_ea = refl;
  unregister_we = refl;
  unregister_we_raised = refl;
  unregister_ea_raised = refl;
  unregister_other_raised = refl;
  unregister_earo_raised = refl;
  preempt_other_type = refl;
  preempt_same_type = refl;
  move_raised = refl;
  clear_unreserved = refl;
  clear_unreserved_raised = refl;
  preempt_and_abort = refl;
}

pub refused : RefusalRows
unfolding keys_after
refused = record {
  ignore_other_key = refl;
  ignore_other_key_registers = refl;
  clear_wrong_key = refl;
  reserve_unregistered = refl;
  preempt_and_abort_nobody = refl;
  move_nothing = refl;
  move_zero = refl;
  move_to_port_0 = refl;
  move_to_port_4 = refl;
  move_to_port_5 = refl;
  move_to_nobody = refl;
  release_by_another = refl;
  release_by_another_accepted = refl;
  release_by_another_changes_nothing = refl;
  release_nothing = refl;
  reserve_scope = refl;
  reserve_scope_again = refl;
  release_scope = refl;
  preempt_scope = refl;
  preempt_scope_ignored = refl;
  reserve_same = refl;
  generation_wraps = refl;
}

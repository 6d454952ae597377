use Rattle.std.proofs.Common.{◌≡◌, ◌≤◌, ◌+◌, ◌-◌, length}
use Rattle.iscsi_answers.specs.DataIns.{data_ins, data_ins_within}
use Rattle.iscsi_answers.proofs.data_in.count_data_ins.Given as goal

-- what was counted, with the PDUs of what is left
abbrev pub invariant-segments : goal.invariant-segments
invariant-segments l =
    (l.data_ins + length (data_ins_within (length l.bytes - l.counter) l.transfer l.offset l.data_ins l.rest) ≡ length (data_ins l.transfer l.bytes))
    × (l.offset + length l.rest ≡ length l.bytes)
    × (l.data_ins ≤ l.counter)

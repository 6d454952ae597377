use Rattle.std.proofs.Common.{◌≡◌, ◌≤◌, ◌+◌, ◌-◌, ◌++◌, length}
use Rattle.iscsi_answers.specs.Written.{bytes_of_all}
use Rattle.iscsi_answers.specs.DataIns.{data_ins, data_ins_within}
use Rattle.iscsi_answers.proofs.data_in.write_data_ins.Given as goal

-- what is written, with the PDUs of what is left
abbrev pub invariant-segments : goal.invariant-segments
invariant-segments l =
    (l.out.items ++ bytes_of_all (data_ins_within (length l.bytes - l.counter) l.transfer l.offset l.data_sn l.rest) ≡ l.initial.out.items ++ bytes_of_all (data_ins l.transfer l.bytes))
    × (l.data_sn + length (data_ins_within (length l.bytes - l.counter) l.transfer l.offset l.data_sn l.rest) ≡ length (data_ins l.transfer l.bytes))
    × (l.offset + length l.rest ≡ length l.bytes)
    × (l.data_sn ≤ l.counter)

use Rattle.std.proofs.Common.{◌≡◌, ◌≤◌, ◌*◌, take, vec_len}
use Rattle.std.specs.List.{flat_map}
use Rattle.log_pages.specs.Parameters.{parameter_from}
use Rattle.log_pages.proofs.writing.parameters_from.Given as goal

abbrev pub invariant-loop-parameter : goal.invariant-loop-parameter
invariant-loop-parameter l = record {
  bytes : l.list.items ≡ flat_map (parameter_from l.pointer) (take l.parameter-index l.parameters);
  short : vec_len l.list ≤ 12 * l.parameter-index;
}

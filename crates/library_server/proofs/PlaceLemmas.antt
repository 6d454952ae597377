-- How many places there are.
use Rattle.std.proofs.Common.{◌+◌, ◌<◌, ◌≤◌, Option, Some, None, arith}
use Rattle.std.specs.Prelude.{String}
use Rattle.std.specs.Global.{Global}
use Rattle.command_line.specs.Tasks.{IsPlace}
use Rattle.command_line.specs.declared.task.IscsiOptions.{IscsiOptions}
use Rattle.library_server.specs.Places.{count_of, portals_of}

-- a library that is served has one at least, and five at most
pub some_places : (socket : Option (String Global)) (iscsi : Option IscsiOptions) → IsPlace socket iscsi → 0 < portals_of iscsi + count_of socket
some_places None None place = absurd place
some_places None (Some options) place = omega (arith, place.some_portals)
some_places (Some path) None place = omega arith
some_places (Some path) (Some options) place = omega (arith, place.some_portals)

pub few_places : (socket : Option (String Global)) (iscsi : Option IscsiOptions) → IsPlace socket iscsi → portals_of iscsi + count_of socket ≤ 5
few_places None None place = absurd place
few_places None (Some options) place = omega (arith, place.few_portals)
few_places (Some path) None place = omega arith
few_places (Some path) (Some options) place = omega (arith, place.few_portals)

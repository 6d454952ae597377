-- PDUs in the bytes of the stream, one behind another.
use Rattle.std.specs.Prelude.{ℕ, List}
use Rattle.std.specs.List.{flat_map}
use Rattle.iscsi_pdu.specs.Pdus.{TargetPduValue, target_bytes}

unfoldable pub bytes_of : TargetPduValue → List ℕ
bytes_of pdu = target_bytes pdu

abbrev pub bytes_of_all : List TargetPduValue → List ℕ
bytes_of_all pdus = flat_map bytes_of pdus

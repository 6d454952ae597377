-- How much room a connection makes for what comes and for what it answers (profile).
use Rattle.std.specs.Prelude.{ℕ, ◌+◌, ◌*◌}
use Rattle.iscsi_keys.specs.Limits.{segment_limit}

-- as many bytes as are written at once
abbrev pub batch_size : ℕ
batch_size = 65536

-- for the PDU with the longest data segment, and for others behind it
abbrev pub pdu_buffer_size : ℕ
pdu_buffer_size = segment_limit + batch_size

-- for what waits to be written, as much as is written at once at the most, and for the data of a command behind it, in PDUs
abbrev pub out_room : ℕ
out_room = 3 * batch_size

-- How many commands are under way, and how much data they hold (profile).
use Rattle.std.specs.Prelude.{ℕ, ◌-◌, ◌*◌}
use Rattle.iscsi_keys.specs.Limits.{segment_limit}

-- the most commands that wait, are in hand, or have their replies held: so many that have used a number up, and so many for immediate
-- delivery
abbrev pub most_under_way : ℕ
most_under_way = 32

-- the most commands that wait
abbrev pub most_waiting : ℕ
most_waiting = 2 * most_under_way

-- the most bytes of data that a session holds, in its buffers and its commands
abbrev pub session_limit : ℕ
session_limit = 4194304

-- the most bytes of data that the commands that wait hold in all: what is left of a session's beside three data segments, for the buffer
-- of PDUs, the answers that wait to be written, and text
abbrev pub most_held : ℕ
most_held = session_limit - 3 * segment_limit

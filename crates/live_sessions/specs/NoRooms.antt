-- What is told of an initiator that isn't let in though its login is as it should be (profile).
use Rattle.std.specs.Prelude.{ℕ, List, ◌++◌, codes}
use Rattle.std.specs.Net.Text.{ip_text}
use Rattle.live_sessions.specs.declared.no_room.NoRoom.{NoRoom}
use Rattle.live_sessions.specs.declared.no_room.NoRoom.TheVariants as no_room

abbrev pub no_room_text : NoRoom → List ℕ
no_room_text no_room.Portal = codes "as many sessions are in as there are workers"
no_room_text no_room.Nexus = codes "its name has 8 sessions here"
no_room_text (no_room.Address address) = codes "its name is in from " ++ (ip_text address ++ codes ", and there is no --multipath")
no_room_text no_room.Name = codes "another name has its SAS address"
no_room_text no_room.Secret = codes "its name is in by another line of the secrets file"
no_room_text no_room.Isid = codes "a session of its ISID came in meanwhile"
no_room_text no_room.Stranger = codes "hosts that are named need the slots that are left"
no_room_text no_room.Socket = codes "its nexus has a session at the Unix socket"
no_room_text no_room.Loss = codes "its nexus is being lost"

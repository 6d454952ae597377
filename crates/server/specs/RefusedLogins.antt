-- What is told of a login that was refused at a portal (profile).
use Rattle.std.specs.Prelude.{ℕ, List, [], ◌++◌, codes, Option, Some, None}
use Rattle.std.specs.Fmt.{decimal}
use Rattle.std.specs.Net.Text.{socket_text}
use Rattle.server.specs.Faults.{cause_words, whose}
use Rattle.live_sessions.specs.declared.no_room.NoRoom.{NoRoom}
use Rattle.live_sessions.specs.NoRooms.{no_room_text}
use Rattle.server.specs.declared.refused_login.RefusedLogin.{RefusedLogin}

abbrev pub reason_text : Option NoRoom → List ℕ
reason_text None = []
reason_text (Some reason) = no_room_text reason ++ codes ": "

-- who it was, from where, and why there was no room, before what any session is told of that is refused so
abbrev pub refused_login_text : RefusedLogin → List ℕ
refused_login_text login =
    codes "vtl: session " ++ (decimal login.session.number ++ (whose login.session.nexus
    ++ (login.name.now ++ (codes " from " ++ (socket_text login.peer ++ (codes ": " ++ (reason_text login.no_room ++ cause_words login.session.cause)))))))

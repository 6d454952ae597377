use Rattle.std.proofs.Common.{◌≡◌, ◌++◌, take}
use Rattle.std.specs.List.{flat_map}
use Rattle.std.specs.Prelude.{string_bytes}
use Rattle.library_status.specs.Picture.{session_picture}
use Rattle.library_status.proofs.picture.write_sessions.Given as goal

abbrev pub invariant-loop-session : goal.invariant-loop-session
invariant-loop-session l = string_bytes l.text ≡ string_bytes l.initial.text ++ flat_map session_picture (take l.session-index l.sessions)

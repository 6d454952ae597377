use Rattle.std.proofs.Common.{◌≡◌, ◌∷◌, map, take}
use Rattle.frames.specs.Frames.{Login}
use Rattle.script_lines.specs.Script.{request_values}
use Rattle.client_session.specs.Talking.{frame_of, streams, Talks}
use Rattle.client_session.proofs.host_session.HostSession.exchange_frames.Given as goal

-- LOGIN and the first requests were answered
abbrev pub invariant-loop-request : goal.invariant-loop-request
invariant-loop-request g l =
    ((l.self.profile ≡ l.fn.self.profile) × (l.self.explanations ≡ l.fn.self.explanations))
    × Talks l.fn.self.profile l.fn.self.explanations (Login l.fn.self.nexus ∷ map frame_of (request_values (take l.request-index l.requests)))
    (streams (g.R.Read.remaining l.fn.reader) (g.W.Write.contents l.fn.writer) (g.O.Write.contents l.fn.out))
    (streams (g.R.Read.remaining l.reader) (g.W.Write.contents l.writer) (g.O.Write.contents l.out)) l.self.read_buffer

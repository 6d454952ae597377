use Rattle.std.proofs.Math.Seq.{drop-append_seam}
use Rattle.frames.specs.Sending.{frame_bytes}
use Rattle.frames.proofs.WrittenFrames.{frame_again, sent_in_stream}
use Rattle.frames.proofs.sending_laws.frame_is_read.Goals as goal

pub returns-clause-parsed : goal.returns-clause-parsed
returns-clause-parsed c = frame_again

pub returns-clause-rest : goal.returns-clause-rest
returns-clause-rest c f rest = drop-append_seam (frame_bytes f) rest

pub returns-clause-stream : goal.returns-clause-stream
returns-clause-stream c p f rest others stop can wide more = sent_in_stream p f rest others stop can wide more

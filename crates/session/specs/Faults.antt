-- The faults of a stream of frames, as those of its session.
use Rattle.frames.specs.declared.fault.FrameFault.{FrameFault}
use Rattle.frames.specs.declared.fault.FrameFault.TheVariants as frame
use Rattle.session.specs.declared.fault.SessionFault.{SessionFault}
use Rattle.session.specs.declared.fault.SessionFault.TheVariants.{BadFrame, TooLong, AlreadyConnected, Read, Write, NoMemory}

abbrev pub of_frame : FrameFault → SessionFault
of_frame frame.BadFrame = BadFrame
of_frame frame.TooLong = TooLong

-- faults of the stream that a session reads, or of reading and writing it
abbrev pub IsOfStream : SessionFault → Type 0
IsOfStream BadFrame = Unit {0}
IsOfStream TooLong = Unit {0}
IsOfStream Read = Unit {0}
IsOfStream Write = Unit {0}
IsOfStream AlreadyConnected = ⊥
IsOfStream NoMemory = ⊥

-- of an answer: memory is refused, or it has more data than a reply carries
abbrev pub IsOfAnswer : SessionFault → Type 0
IsOfAnswer NoMemory = Unit {0}
IsOfAnswer TooLong = Unit {0}
IsOfAnswer fault = ⊥

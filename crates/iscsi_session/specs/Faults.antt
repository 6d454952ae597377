-- What ends a connection early that is in full feature.
use Rattle.iscsi_session.specs.declared.fault.IscsiFault.{IscsiFault}
use Rattle.iscsi_session.specs.declared.fault.IscsiFault.TheVariants.{Refused, BadPdu, TooMuchData, Silent, Read, Write, NoMemory}

-- anything but a refusal
abbrev pub IsLater : IscsiFault → Type 0
IsLater (Refused status) = ⊥
IsLater (BadPdu fault) = Unit {0}
IsLater TooMuchData = Unit {0}
IsLater Silent = Unit {0}
IsLater Read = Unit {0}
IsLater Write = Unit {0}
IsLater NoMemory = Unit {0}

-- in the midst of an answer: memory is refused, or the commands that wait hold too much data
abbrev pub IsInside : IscsiFault → Type 0
IsInside (Refused status) = ⊥
IsInside (BadPdu fault) = ⊥
IsInside TooMuchData = Unit {0}
IsInside Silent = ⊥
IsInside Read = ⊥
IsInside Write = ⊥
IsInside NoMemory = Unit {0}

-- where something is read: nothing came, or the read failed; or memory is refused
abbrev pub IsOfReading : IscsiFault → Type 0
IsOfReading (Refused status) = ⊥
IsOfReading (BadPdu fault) = ⊥
IsOfReading TooMuchData = ⊥
IsOfReading Silent = Unit {0}
IsOfReading Read = Unit {0}
IsOfReading Write = ⊥
IsOfReading NoMemory = Unit {0}

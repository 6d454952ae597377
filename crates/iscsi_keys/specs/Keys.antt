-- The table of keys: how each is written and negotiated, in which range, and the target's own value (RFC 7143, "Login/Text
-- Operational Text Keys"; the target's own values: profile).
use Rattle.std.specs.Prelude.{ℕ, Bool, true, false, List, [], ◌∷◌, codes}
use Rattle.iscsi_keys.specs.Limits.{segment_limit}
use Rattle.iscsi_keys.specs.declared.key.Key.{Key}
use Rattle.iscsi_keys.specs.declared.key.Key.TheVariants as key
use Rattle.iscsi_keys.specs.declared.kind.KeyKind.{KeyKind}
use Rattle.iscsi_keys.specs.declared.kind.KeyKind.TheVariants as kind
use Rattle.iscsi_keys.specs.declared.kind.Range.{Range}
use Rattle.iscsi_keys.specs.declared.word.Word.TheVariants as word

abbrev pub key_name : Key → List ℕ
key_name key.InitiatorName = codes "InitiatorName"
key_name key.InitiatorAlias = codes "InitiatorAlias"
key_name key.TargetName = codes "TargetName"
key_name key.SessionType = codes "SessionType"
key_name key.AuthMethod = codes "AuthMethod"
key_name key.HeaderDigest = codes "HeaderDigest"
key_name key.DataDigest = codes "DataDigest"
key_name key.MaxConnections = codes "MaxConnections"
key_name key.InitialR2t = codes "InitialR2T"
key_name key.ImmediateData = codes "ImmediateData"
key_name key.MaxRecvDataSegmentLength = codes "MaxRecvDataSegmentLength"
key_name key.MaxBurstLength = codes "MaxBurstLength"
key_name key.FirstBurstLength = codes "FirstBurstLength"
key_name key.DefaultTime2Wait = codes "DefaultTime2Wait"
key_name key.DefaultTime2Retain = codes "DefaultTime2Retain"
key_name key.MaxOutstandingR2t = codes "MaxOutstandingR2T"
key_name key.DataPduInOrder = codes "DataPDUInOrder"
key_name key.DataSequenceInOrder = codes "DataSequenceInOrder"
key_name key.ErrorRecoveryLevel = codes "ErrorRecoveryLevel"
key_name key.TaskReporting = codes "TaskReporting"
key_name key.IfMarker = codes "IFMarker"
key_name key.OfMarker = codes "OFMarker"
key_name key.IfMarkInt = codes "IFMarkInt"
key_name key.OfMarkInt = codes "OFMarkInt"

abbrev pub range : (least most own : ℕ) → Range
range least most own = record { least = least; most = most; own = own }

abbrev pub key_kind : Key → KeyKind
key_kind key.InitiatorName = kind.Declared
key_kind key.InitiatorAlias = kind.Declared
key_kind key.TargetName = kind.Declared
key_kind key.SessionType = kind.Declared
key_kind key.AuthMethod = kind.AuthMethod
key_kind key.HeaderDigest = kind.List word.None
key_kind key.DataDigest = kind.List word.None
key_kind key.MaxConnections = kind.Smaller (range 1 65535 1)
key_kind key.InitialR2t = kind.Or false
key_kind key.ImmediateData = kind.And true
key_kind key.MaxRecvDataSegmentLength = kind.DeclaredNumber (range 512 16777215 segment_limit)
key_kind key.MaxBurstLength = kind.Smaller (range 512 16777215 1048576)
key_kind key.FirstBurstLength = kind.Smaller (range 512 16777215 262144)
key_kind key.DefaultTime2Wait = kind.Larger (range 0 3600 0)
key_kind key.DefaultTime2Retain = kind.Smaller (range 0 3600 0)
key_kind key.MaxOutstandingR2t = kind.Smaller (range 1 65535 1)
key_kind key.DataPduInOrder = kind.Or true
key_kind key.DataSequenceInOrder = kind.Or true
key_kind key.ErrorRecoveryLevel = kind.Smaller (range 0 2 0)
key_kind key.TaskReporting = kind.List word.Rfc3720
key_kind key.IfMarker = kind.And false
key_kind key.OfMarker = kind.And false
key_kind key.IfMarkInt = kind.Obsolete
key_kind key.OfMarkInt = kind.Obsolete

-- the keys that a discovery session has no use for
abbrev pub is_of_data_transfer : Key → Bool
is_of_data_transfer key.InitiatorName = false
is_of_data_transfer key.InitiatorAlias = false
is_of_data_transfer key.TargetName = false
is_of_data_transfer key.SessionType = false
is_of_data_transfer key.AuthMethod = false
is_of_data_transfer key.HeaderDigest = false
is_of_data_transfer key.DataDigest = false
is_of_data_transfer key.MaxConnections = true
is_of_data_transfer key.InitialR2t = true
is_of_data_transfer key.ImmediateData = true
is_of_data_transfer key.MaxRecvDataSegmentLength = false
is_of_data_transfer key.MaxBurstLength = true
is_of_data_transfer key.FirstBurstLength = true
is_of_data_transfer key.DefaultTime2Wait = false
is_of_data_transfer key.DefaultTime2Retain = false
is_of_data_transfer key.MaxOutstandingR2t = true
is_of_data_transfer key.DataPduInOrder = true
is_of_data_transfer key.DataSequenceInOrder = true
is_of_data_transfer key.ErrorRecoveryLevel = false
is_of_data_transfer key.TaskReporting = true
is_of_data_transfer key.IfMarker = false
is_of_data_transfer key.OfMarker = false
is_of_data_transfer key.IfMarkInt = false
is_of_data_transfer key.OfMarkInt = false

unfoldable pub all_keys : List Key
all_keys =
    key.InitiatorName ∷ key.InitiatorAlias ∷ key.TargetName ∷ key.SessionType ∷ key.AuthMethod ∷ key.HeaderDigest
    ∷ key.DataDigest ∷ key.MaxConnections ∷ key.InitialR2t ∷ key.ImmediateData ∷ key.MaxRecvDataSegmentLength ∷ key.MaxBurstLength
    ∷ key.FirstBurstLength ∷ key.DefaultTime2Wait ∷ key.DefaultTime2Retain ∷ key.MaxOutstandingR2t ∷ key.DataPduInOrder ∷
    key.DataSequenceInOrder
    ∷ key.ErrorRecoveryLevel ∷ key.TaskReporting ∷ key.IfMarker ∷ key.OfMarker ∷ key.IfMarkInt ∷ key.OfMarkInt ∷ []

abbrev pub key_place : Key → ℕ
key_place key.InitiatorName = 0
key_place key.InitiatorAlias = 1
key_place key.TargetName = 2
key_place key.SessionType = 3
key_place key.AuthMethod = 4
key_place key.HeaderDigest = 5
key_place key.DataDigest = 6
key_place key.MaxConnections = 7
key_place key.InitialR2t = 8
key_place key.ImmediateData = 9
key_place key.MaxRecvDataSegmentLength = 10
key_place key.MaxBurstLength = 11
key_place key.FirstBurstLength = 12
key_place key.DefaultTime2Wait = 13
key_place key.DefaultTime2Retain = 14
key_place key.MaxOutstandingR2t = 15
key_place key.DataPduInOrder = 16
key_place key.DataSequenceInOrder = 17
key_place key.ErrorRecoveryLevel = 18
key_place key.TaskReporting = 19
key_place key.IfMarker = 20
key_place key.OfMarker = 21
key_place key.IfMarkInt = 22
key_place key.OfMarkInt = 23

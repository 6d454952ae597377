-- What is to be kept of a command that ended GOOD, by its class (SSC-4, SMC-3, and profile).
use Rattle.std.specs.Prelude.{Bool, true, false, if◌then◌else◌}
use Rattle.scsi_cdb.specs.declared.classes.Class.{Class}
use Rattle.scsi_cdb.specs.declared.classes.Class.TheVariants as class
use Rattle.saved_media.specs.declared.wish.Wish.{Wish}
use Rattle.saved_media.specs.declared.wish.Wish.TheVariants.{Nothing, Behind, Volume, VolumeBehind, Move}

-- what a WRITE wrote is copied behind it; a volume that was written on, or loaded or unloaded, and one that was moved, is kept at once;
-- with IMMED that is begun at once
abbrev pub wish_of : Class → (immediate : Bool) → Wish
wish_of class.Write immediate = Behind
wish_of class.WriteFilemarks immediate = if immediate then VolumeBehind else Volume
wish_of class.Erase immediate = Volume
wish_of class.LoadUnload immediate = Volume
wish_of class.MoveMedium immediate = Move
wish_of class.TestUnitReady immediate = Nothing
wish_of class.RequestSense immediate = Nothing
wish_of class.Inquiry immediate = Nothing
wish_of class.ReportLuns immediate = Nothing
wish_of class.PersistentReserveIn immediate = Nothing
wish_of class.AllowRemoval immediate = Nothing
wish_of class.ReadBlockLimits immediate = Nothing
wish_of class.ReadPosition immediate = Nothing
wish_of class.ReadElementStatusCurdata immediate = Nothing
wish_of class.ModeSense immediate = Nothing
wish_of class.Read immediate = Nothing
wish_of class.Space immediate = Nothing
wish_of class.Locate immediate = Nothing
wish_of class.Rewind immediate = Nothing
wish_of class.ReadElementStatus immediate = Nothing
wish_of class.ModeSelect immediate = Nothing
wish_of class.PreventRemoval immediate = Nothing
wish_of class.InitializeElementStatus immediate = Nothing
wish_of class.Register immediate = Nothing
wish_of class.RegisterAndIgnoreExistingKey immediate = Nothing
wish_of class.Clear immediate = Nothing
wish_of class.Preempt immediate = Nothing
wish_of class.PreemptAndAbort immediate = Nothing
wish_of class.Release immediate = Nothing
wish_of class.Reserve immediate = Nothing
wish_of class.RegisterAndMove immediate = Nothing
wish_of class.SendDiagnostic immediate = Nothing
wish_of class.LogSelect immediate = Nothing
wish_of class.LogSense immediate = Nothing
wish_of class.ModeSelect10 immediate = Nothing
wish_of class.ModeSense10 immediate = Nothing
wish_of class.ReportSupportedOperationCodes immediate = Nothing
wish_of class.ReportSupportedTaskManagementFunctions immediate = Nothing
wish_of class.PositionToElement immediate = Nothing
wish_of class.ExchangeMedium immediate = Move

-- whether the reply waits
abbrev pub is_waited_for : Wish → Bool
is_waited_for Nothing = false
is_waited_for Behind = false
is_waited_for Volume = true
is_waited_for VolumeBehind = false
is_waited_for Move = true

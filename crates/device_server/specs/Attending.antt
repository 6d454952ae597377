-- What is known of an attendant that was let at a device which somebody else holds.
use Rattle.std.specs.Prelude.{◌≡◌, ℕ}
use Rattle.scsi_cdb.specs.declared.kind.Kind.{Kind}
use Rattle.device_server.specs.View.{DeviceView, kind_of}

-- it was asked to look after the device, some one of a kind, of the unit of a number, and did what it does
abbrev pub WasAsked : {A : Type 0} → (looks_after : A → (lun : ℕ) → (before after : DeviceView) → A → Type 0) → (lun : ℕ) → Kind → (old new : A) → Type 0
WasAsked looks_after lun kind old new = (before after : DeviceView) × ((kind_of before ≡ kind) × looks_after old lun before after new)

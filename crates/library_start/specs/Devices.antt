-- What contracts see of the devices of the library.
use Rattle.std.specs.Prelude.{ℕ, Option, Some, None}
use Rattle.element_sources.specs.Sources.{source_at}
use Rattle.device_server.specs.declared.host_changer.HostChanger.{HostChanger}
use Rattle.device_server.specs.View.{DeviceView, Drive, Changer}
use Rattle.library_start.specs.declared.device.Device.{Device}
use Rattle.library_start.specs.declared.device.Device.TheVariants as device

abbrev pub shown_as : Device → DeviceView
shown_as (device.Changer changer) = Changer changer
shown_as (device.Tape drive) = Drive drive

-- from where the volume in an element came, if the device is a changer of the hosts' profile that knows it
abbrev pub source_in : Option HostChanger → (address : ℕ) → Option ℕ
source_in None address = None
source_in (Some hosts) address = source_at hosts.sources address

abbrev pub source_of : DeviceView → (address : ℕ) → Option ℕ
source_of (Changer changer) address = source_in changer.hosts address
source_of (Drive drive) address = None

-- The devices of a library by its profile, and from where its volumes came before the start.
use Rattle.std.specs.Prelude.{◌≡◌, ℕ, zero, suc, ◌+◌, List, [], ◌∷◌, ◌++◌, fold, replicate, Option, Some, None}
use Rattle.tape_medium.specs.Elements.{Elements}
use Rattle.element_sources.specs.Sources.{Sources, none_known, source_known}
use Rattle.inquiry_data.specs.Identity.{unit}
use Rattle.device_server.specs.Drive.{DriveView, empty_drive}
use Rattle.device_server.specs.HostDrive.{empty_host_drive}
use Rattle.device_server.specs.HostChanger.{ChangerView, spec_changer}
use Rattle.device_server.specs.declared.host_changer.HostChanger.{HostChanger}
use Rattle.library_inventory.specs.Elements.{address_of}
use Rattle.library_inventory.specs.declared.element.Element.{Element}
use Rattle.library_inventory.specs.declared.element.LibrarySize.{LibrarySize}
use Rattle.program_options.specs.declared.library_profile.LibraryProfile.{LibraryProfile}
use Rattle.program_options.specs.declared.library_profile.LibraryProfile.TheVariants.{Spec, Hosts}
use Rattle.library_start.specs.declared.start.StartedVolume.{StartedVolume}

-- the drive that is a logical unit, empty; one of the hosts' profile is that unit of its library
abbrev pub drive_at : LibraryProfile → (lun : ℕ) → DriveView
drive_at Spec lun = empty_drive
drive_at (Hosts number) lun = empty_host_drive (unit number lun)

-- so many, the logical units from 1 on
abbrev pub empty_drives : LibraryProfile → (drives : ℕ) → List DriveView
empty_drives profile zero = []
empty_drives profile (suc k) = empty_drives profile k ++ drive_at profile (k + 1) ∷ []

-- what a changer keeps besides: one of the hosts' profile is logical unit 0 of its library, and knows sources
abbrev pub hosts_with : LibraryProfile → Sources → Option HostChanger
hosts_with Spec sources = None
hosts_with (Hosts number) sources = Some (record { identity = unit number 0; sources = sources })

abbrev pub changer_with : LibraryProfile → Elements → Sources → ChangerView
changer_with profile elements sources = record { elements = elements; hosts = hosts_with profile sources }

-- the address of a source, if there is one
abbrev pub address_in : (source : Option Element) → Option ℕ
address_in None = None
address_in (Some element) = address_of element

-- the source of the volume in an element, if both have addresses
abbrev pub source_in : Sources → (address source : Option ℕ) → Sources
source_in s None source = s
source_in s (Some address) None = s
source_in s (Some address) (Some source) = source_known s address source

abbrev pub sourced : Sources → StartedVolume → Sources
sourced s started = source_in s (address_of started.element) (address_in started.source)

-- THE SOURCES that the volumes of a library have at its start
abbrev pub sources_at_start : LibrarySize → List StartedVolume → Sources
sources_at_start size volumes = fold sourced (none_known size.drives size.import_exports size.slots) volumes

-- a library of the default profile has the devices that know nothing of hosts
pub record DefaultDevices : Type 0 where
  pub drives : (drives : ℕ) → empty_drives Spec drives ≡ replicate drives empty_drive
  pub changer : (elements : Elements) (sources : Sources) → changer_with Spec elements sources ≡ spec_changer elements

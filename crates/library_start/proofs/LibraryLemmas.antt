-- The units of the library stand in the order of a target.
use Rattle.std.proofs.Common.{◌≡◌, ℕ, zero, suc, ◌+◌, ◌≤◌, List, ◌∷◌, Option, None, refl, arith}
use Rattle.std.specs.Prelude.{replicate}
use Rattle.element_sources.specs.Sources.{Sources, none_known}
use Rattle.library_start.specs.Profiles.{changer_with}
use Rattle.program_options.specs.declared.library_profile.LibraryProfile.{LibraryProfile}
use Rattle.program_options.specs.declared.library_profile.LibraryProfile.TheVariants.{Spec, Hosts}
use Rattle.device_server.specs.View.{Changer, profile_of}
use Rattle.tape_medium.specs.declared.volume.Volume.{Volume}
use Rattle.logical_unit.specs.Step.{made}
use Rattle.target_core.specs.Faults.{fault_of}
use Rattle.target_core.specs.declared.order.CoreFault.{CoreFault}
use Rattle.program_options.specs.declared.library_options.LibraryOptions.{LibraryOptions}
use Rattle.library_start.specs.StockedDevices.{drives_to, library_of}
use Rattle.program_options.specs.Options.{AreInRange}
use Rattle.library_start.specs.Stock.{stocked}

-- a changer with so many unmarked elements, and so many empty drives
abbrev pub fault_with : LibraryProfile → Sources → (drives : ℕ) → (places import_exports : List (Option Volume)) → Option CoreFault
fault_with profile sources drives places import_exports =
    fault_of (made (Changer (changer_with profile (record { data_transfer = replicate drives None; import_export = import_exports; storage = places }) sources)) 0 (drives + 1) 0 ∷ drives_to profile drives (drives + 1))

-- by the profile and the number of drives
by_drives : (profile : LibraryProfile) (sources : Sources) (drives : ℕ) (places import_exports : List (Option Volume)) → 1 ≤ drives → drives ≤ 4
    → fault_with profile sources drives places import_exports ≡ None
unfolding profile_of
by_drives profile sources zero places import_exports low high = absurd (omega (arith, low))
by_drives Spec sources (suc zero) places import_exports low high = refl
by_drives Spec sources (suc (suc zero)) places import_exports low high = refl
by_drives Spec sources (suc (suc (suc zero))) places import_exports low high = refl
by_drives Spec sources (suc (suc (suc (suc zero)))) places import_exports low high = refl
by_drives (Hosts number) sources (suc zero) places import_exports low high = refl
by_drives (Hosts number) sources (suc (suc zero)) places import_exports low high = refl
by_drives (Hosts number) sources (suc (suc (suc zero))) places import_exports low high = refl
by_drives (Hosts number) sources (suc (suc (suc (suc zero)))) places import_exports low high = refl
by_drives profile sources (suc (suc (suc (suc (suc k))))) places import_exports low high = absurd (omega (arith, high))

pub in_order : (profile : LibraryProfile) (options : LibraryOptions) → AreInRange options → fault_of (library_of profile options) ≡ None
in_order profile options range =
    by_drives profile (none_known options.drives options.import_exports options.slots) options.drives (stocked options).storage (stocked options).import_export
    range.some_drives range.few_drives

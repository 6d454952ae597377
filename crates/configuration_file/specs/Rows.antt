-- Worked rows: what values say, what is reported of those that say nothing, and how the program ends.
use Rattle.std.specs.Prelude.{◌≡◌, Some, None, true, false, codes, negsuc, pos}
use Rattle.program_options.specs.ChapDigests.{digests_in}
use Rattle.program_options.specs.Profiles.{number_in, profile_in}
use Rattle.program_options.specs.Sizes.{memory_size_in, volume_size_in}
use Rattle.program_options.specs.declared.chap_digests.ChapDigests.TheVariants.{Sha256}
use Rattle.scsi_cdb.specs.declared.profile.Profile.TheVariants as scsi
use Rattle.toml.specs.Data.{array, boolean, integer, no_items, string}
use Rattle.configuration_file.specs.Faults.{configuration_status, form_text}
use Rattle.configuration_file.specs.Values.{number_said, switch_said, text_said, word_said}
use Rattle.configuration_file.specs.declared.fault.ConfigurationFault.TheVariants as file
use Rattle.configuration_file.specs.declared.form.ValueForm.TheVariants.{Number, Switch}

pub record ValuesRead : Type 0 where
  pub no_number : number_said 1 4 None ≡ Some None
  pub least : number_said 1 4 (Some (integer (pos 1))) ≡ Some (Some 1)
  pub most : number_said 1 4 (Some (integer (pos 4))) ≡ Some (Some 4)
  pub too_small : number_said 1 4 (Some (integer (pos 0))) ≡ None
  pub too_large : number_said 1 4 (Some (integer (pos 5))) ≡ None
  pub below_zero : number_said 0 16 (Some (integer (negsuc 0))) ≡ None
  pub number_in_quotes : number_said 1 4 (Some (string (codes "2"))) ≡ None
  pub on : switch_said (Some (boolean true)) ≡ Some (Some true)
  pub off : switch_said (Some (boolean false)) ≡ Some (Some false)
  pub one_is_no_switch : switch_said (Some (integer (pos 1))) ≡ None
  pub text : text_said (Some (string (codes "/run/vtl"))) ≡ Some (Some (codes "/run/vtl"))
  pub array_is_no_text : text_said (Some (array no_items)) ≡ None
  pub size : word_said volume_size_in (Some (string (codes "1G"))) ≡ Some (Some 1073741824)
  pub bad_size : word_said memory_size_in (Some (string (codes "4GB"))) ≡ None
  pub size_without_quotes : word_said volume_size_in (Some (integer (pos 16777216))) ≡ None
  pub profile : word_said profile_in (Some (string (codes "hosts"))) ≡ Some (Some scsi.Hosts)
  pub bad_profile : word_said profile_in (Some (string (codes "Hosts"))) ≡ None
  pub library : word_said number_in (Some (string (codes "1a2b3c4D"))) ≡ Some (Some (record { number = 0x1A2B3C4D }))
  pub bad_library : word_said number_in (Some (string (codes "1A2B3C4"))) ≡ None
  pub library_without_quotes : word_said number_in (Some (integer (pos 12345678))) ≡ None
  pub digests : word_said digests_in (Some (string (codes "sha256"))) ≡ Some (Some Sha256)
  pub bad_digests : word_said digests_in (Some (string (codes "md5"))) ≡ None

pub record FormsTold : Type 0 where
  pub switch : form_text Switch ≡ codes "give true or false"
  pub number : form_text (Number 1 64) ≡ codes "give a whole number from 1 to 64"

pub record StatusesOfFiles : Type 0 where
  pub no_memory : configuration_status file.NoMemory ≡ 3

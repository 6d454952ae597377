-- The exit status of a file of configuration that gives no options, and what is reported of it (profile).
use Rattle.std.specs.Prelude.{ℕ, List, ◌++◌, codes, decimal, String}
use Rattle.std.specs.Global.{Global}
use Rattle.given_options.specs.declared.key.ServeKey.{ServeKey}
use Rattle.given_options.specs.declared.word_fault.WordFault.{WordFault}
use Rattle.given_options.specs.declared.word_fault.WordFault.TheVariants as word
use Rattle.configuration_file.specs.declared.form.ValueForm.{ValueForm}
use Rattle.configuration_file.specs.declared.form.ValueForm.TheVariants.{Switch, Number, Text, Texts, TextTable}
use Rattle.configuration_file.specs.declared.key_fault.KeyFault.{KeyFault}
use Rattle.configuration_file.specs.declared.key_fault.KeyFault.TheVariants as key
use Rattle.configuration_file.specs.declared.key_fault.ValueFault.TheVariants as value
use Rattle.configuration_file.specs.declared.text_fault.TextFault.{TextFault}
use Rattle.configuration_file.specs.declared.text_fault.TextFault.TheVariants as text
use Rattle.configuration_file.specs.declared.fault.ConfigurationFault.{ConfigurationFault}
use Rattle.configuration_file.specs.declared.fault.ConfigurationFault.TheVariants as file

abbrev pub form_text : ValueForm → List ℕ
form_text Switch = codes "give true or false"
form_text (Number least most) = codes "give a whole number from " ++ decimal least ++ codes " to " ++ decimal most
form_text Text = codes "give a text in quotes"
form_text Texts = codes "give an array of texts, such as [\"a\", \"b\"]"
form_text TextTable = codes "give a table with a line \"NAME\" = \"SAS\" for each host"

-- what is wrong with a key whose words are refused
abbrev pub fault_of_words : ServeKey → ValueForm → WordFault → KeyFault
fault_of_words at form word.NoMemory = key.NoMemory
fault_of_words at form word.NoWords = key.Value at (value.Form form)
fault_of_words at form (word.Options fault) = key.Value at (value.Options fault)
fault_of_words at form (word.Word fault text) = key.Value at (value.Word fault text)

-- what is wrong with a text, by what is wrong with a key of it
abbrev pub fault_on_line : (line : ℕ) → KeyFault → TextFault
fault_on_line line key.NoMemory = text.NoMemory
fault_on_line line (key.Unknown name) = text.Key line (key.Unknown name)
fault_on_line line (key.Value at fault) = text.Key line (key.Value at fault)

abbrev pub fault_of_text : String Global → TextFault → ConfigurationFault
fault_of_text path text.NoMemory = file.NoMemory
fault_of_text path (text.Syntax line fault) = file.Text path (text.Syntax line fault)
fault_of_text path (text.Key line fault) = file.Text path (text.Key line fault)

-- something is to be put right before; there was no memory; or the file can't be read
abbrev pub configuration_status : ConfigurationFault → ℕ
configuration_status file.NoMemory = 3
configuration_status (file.CannotRead path) = 4
configuration_status (file.TooLong path) = 2
configuration_status (file.Text path fault) = 2

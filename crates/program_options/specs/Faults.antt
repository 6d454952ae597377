-- What is said of each fault, and the exit status of a program that ends by it (profile).
use Rattle.std.specs.Prelude.{ℕ, List, codes}
use Rattle.program_options.specs.declared.option_fault.OptionFault.{OptionFault}
use Rattle.program_options.specs.declared.option_fault.OptionFault.TheVariants.{MoreVolumes, VolumesLargerThanMemory, BadVolumeSize, BadMemorySize, BadNexus, NoPlace, ManyPortals, BadAddress, OpenAddress, BadToldAddress, NobodyLetIn, BadHost, BadSas, BadName, ManyHosts, NameTwice, SasTwice, NoSlotForOthers, BadDigests, BadFormat, BadProfile, BadLibraryNumber, NumberWithoutHosts, OpenMetrics, UncountedRecords}

abbrev pub option_fault_text : OptionFault → List ℕ
option_fault_text MoreVolumes = codes "vtl: more volumes than slots"
option_fault_text VolumesLargerThanMemory = codes "vtl: the volumes may hold more together than --memory, and all of them are in memory: give a larger --memory, fewer --volumes or a smaller --volume-size"
option_fault_text BadVolumeSize = codes "vtl: not a volume size: give a number of bytes from 1M to 64G, such as 16M"
option_fault_text BadMemorySize = codes "vtl: not a memory size: give a number of bytes from 1M to 65536G, such as 4G"
option_fault_text BadNexus = codes "vtl: bad nexus"
option_fault_text NoPlace = codes "vtl: nowhere to serve: give --socket <PATH> or --iscsi <ADDRESS:PORT>"
option_fault_text ManyPortals = codes "vtl: --iscsi is given more than 4 times: there are 4 target ports"
option_fault_text BadAddress = codes "vtl: not an IP address with a port: give one such as 127.0.0.1:3260 or [::1]:3260"
option_fault_text OpenAddress = codes "vtl: other machines can reach this address: give --chap <FILE>, or --no-authentication if all of them may log in"
option_fault_text BadToldAddress = codes "vtl: not an address for initiators after =: give a host and a port, such as tapes.example:3260 or [2001:db8::1]:3260"
option_fault_text NobodyLetIn = codes "vtl: --iscsi lets nobody in: give --host <NAME=SAS> for each host, or --any-host"
option_fault_text BadHost = codes "vtl: not a host: give a name and a SAS address, such as iqn.2026-11.example:a=500000000000000a"
option_fault_text BadSas = codes "vtl: not a SAS address after the name of a host: give its 16 hexadecimal digits"
option_fault_text BadName = codes "vtl: not an iSCSI name: give one in lower case, such as iqn.2026-11.example:a"
option_fault_text ManyHosts = codes "vtl: --host is given more than 64 times: give --any-host instead of some"
option_fault_text NameTwice = codes "vtl: a name is given twice: give it once, with one SAS address"
option_fault_text SasTwice = codes "vtl: two names have one SAS address: give each its own"
option_fault_text NoSlotForOthers = codes "vtl: --any-host can let nobody else in: each --host takes a slot at each --iscsi, and there are 128"
option_fault_text BadDigests = codes "vtl: not a list of CHAP digests: give sha256 or sha256,md5"
option_fault_text BadFormat = codes "vtl: not a format of records: give json or text"
option_fault_text BadProfile = codes "vtl: not a profile: give spec or hosts"
option_fault_text BadLibraryNumber = codes "vtl: not the number of a library: give its 8 hexadecimal digits, such as 1A2B3C4D"
option_fault_text NumberWithoutHosts = codes "vtl: --library-id needs --profile hosts: no other library has a number"
option_fault_text OpenMetrics = codes "vtl: other machines can reach this address: give --metrics-open if all of them may read what is counted"
option_fault_text UncountedRecords = codes "vtl: --metrics needs --records or --drain: records are counted as they are written"

abbrev pub option_status : OptionFault → ℕ
option_status fault = 2

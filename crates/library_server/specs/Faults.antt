-- The exit status of each fault of serving, and what is told of it (profile).
use Rattle.std.specs.Prelude.{ℕ, List, ◌++◌, codes, string_bytes, Option, Some, None}
use Rattle.std.specs.Fmt.{decimal}
use Rattle.iscsi_chap.specs.declared.secrets_fault.LineFault.{LineFault}
use Rattle.iscsi_chap.specs.declared.secrets_fault.LineFault.TheVariants.{FieldCount, Name, SecretLength, SameSecret, UserTwice, SecretOfHost, SecretOfTarget}
use Rattle.media_folder.specs.Faults.{folder_status}
use Rattle.program_options.specs.ListenFaults.{listen_status, listen_text}
use Rattle.record_file.specs.Faults.{file_fault_text}
use Rattle.library_server.specs.ServerFaults as host
use Rattle.library_server.specs.declared.socket_fault.SocketFault.{SocketFault}
use Rattle.library_server.specs.declared.socket_fault.SocketFault.TheVariants as serve

abbrev pub socket_status : SocketFault → ℕ
socket_status (serve.Listen fault) = listen_status fault
socket_status (serve.CannotRead path) = 4
socket_status (serve.OpenSecrets path) = 2
socket_status (serve.BadSecrets path number what) = 2
socket_status (serve.Folder fault) = folder_status fault
socket_status (serve.Records fault) = 4
socket_status (serve.Server fault) = host.exit_status fault
socket_status serve.Lines = 4

-- no secret is told
abbrev pub line_words : LineFault → List ℕ
line_words FieldCount = codes "give NAME USER SECRET, or NAME USER SECRET TARGET-USER TARGET-SECRET"
line_words Name = codes "NAME is not an iSCSI name: give one such as iqn.2026-11.example:a"
line_words SecretLength = codes "a secret has 12 to 128 bytes"
line_words SameSecret = codes "the target has the host's secret: give it another"
line_words UserTwice = codes "the host has a line with this user already"
line_words (SecretOfHost line) = codes "the target has the secret of the host in line " ++ (decimal line ++ codes ": give it another")
line_words (SecretOfTarget line) = codes "the host has the secret of the target in line " ++ (decimal line ++ codes ": give it another")

-- the second line names the path; no clause says what is told of a folder
abbrev pub socket_text : SocketFault → Option (List ℕ)
socket_text (serve.Listen fault) = Some (listen_text fault)
socket_text (serve.CannotRead path) = Some (codes "vtl: device fault\nvtl: cannot read " ++ string_bytes path)
socket_text (serve.OpenSecrets path) =
    Some (codes "vtl: " ++ (string_bytes path ++ (codes " must be readable by its owner only (chmod 600 " ++ (string_bytes path ++ codes ")"))))
socket_text (serve.BadSecrets path number what) =
    Some (codes "vtl: " ++ (string_bytes path ++ (codes ", line " ++ (decimal number ++ (codes ": " ++ line_words what)))))
socket_text (serve.Folder fault) = None
socket_text (serve.Records fault) = Some (file_fault_text fault)
socket_text (serve.Server fault) = Some (host.fault_text fault)
socket_text serve.Lines = Some (codes "vtl: device fault\nvtl: the lines of what would be served could not be written")

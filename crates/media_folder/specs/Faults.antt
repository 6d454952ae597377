-- The exit status of each fault of a folder, and of one that is looked over (profile).
use Rattle.std.specs.Prelude.{ℕ}
use Rattle.media_folder.specs.declared.fault.FolderFault.{FolderFault}
use Rattle.media_folder.specs.declared.fault.FolderFault.TheVariants as folder
use Rattle.media_folder.specs.declared.check_fault.CheckFault.{CheckFault}
use Rattle.media_folder.specs.declared.check_fault.CheckFault.TheVariants as check

-- something is to be put right before; there was no memory; or the folder fails
abbrev pub folder_status : FolderFault → ℕ
folder_status folder.NoMemory = 3
folder_status (folder.CannotMake path error) = 4
folder_status (folder.CannotRead path error) = 4
folder_status (folder.CannotWrite path error) = 4
folder_status (folder.CannotLock path error) = 4
folder_status (folder.Moved path) = 4
folder_status (folder.LockLost path) = 4
folder_status (folder.NoProc path) = 4
folder_status (folder.InUse path) = 2
folder_status (folder.NoLibrary path) = 2
folder_status (folder.BadInventory path fault) = 2
folder_status (folder.NoSize size) = 2
folder_status (folder.Start fault) = 2
folder_status (folder.NothingServed path) = 2
folder_status (folder.NothingToProtect path) = 2
folder_status folder.NoName = 2
folder_status folder.NoNumber = 4

-- the same of a folder that was looked over
abbrev pub check_status : CheckFault → ℕ
check_status (check.Folder fault) = folder_status fault
check_status (check.Faulty path count) = 2
check_status (check.CannotRead path count) = 4
check_status check.Write = 4

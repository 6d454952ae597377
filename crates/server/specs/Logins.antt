-- What is told of an initiator of iSCSI that has logged in (profile).
use Rattle.std.specs.Prelude.{ℕ, List, ◌++◌, codes}
use Rattle.std.specs.Fmt.{decimal}
use Rattle.scsi_nexus.specs.Text.{nexus_text}
use Rattle.server.specs.declared.logged_in.LoggedIn.{LoggedIn}

abbrev pub logged_in_text : LoggedIn → List ℕ
logged_in_text login =
    codes "vtl: session " ++ (decimal login.number ++ (codes " of " ++ (nexus_text login.nexus ++ (codes ": " ++ (login.name.now ++ codes " logged in")))))

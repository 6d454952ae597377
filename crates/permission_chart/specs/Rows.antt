-- Worked charts and names.
use Rattle.std.specs.Prelude.{◌≡◌, [], ◌∷◌, ◌++◌, codes, Some}
use Rattle.permission_chart.specs.Chart.{chart, class_line}
use Rattle.permission_chart.specs.Names.{IsNameOf, IsClassNamed}
use Rattle.scsi_cdb.specs.declared.classes.Class.TheVariants.{LogSense, PersistentReserveIn, Read, Reserve, Write}
use Rattle.scsi_cdb.specs.declared.profile.Profile.TheVariants.{Spec, Hosts}

pub record ChartRows : Type 0 where
  pub two_classes : chart (Write ∷ Read ∷ [])
      ≡ codes "A allowed, C conflict         NONE     WE     EA   WERO   EARO   WEAR   EAAR" ++ 10 ∷ []
      ++ codes "HOLDER REGISTERED OTHER        R O  H R O  H R O  H R O  H R O  H   O  H   O" ++ 10 ∷ []
      ++ codes "WRITE(6)                       A A  A C C  A C C  A A C  A A C  A   C  A   C" ++ 10 ∷ []
      ++ codes "READ(6)                        A A  A A A  A C C  A A A  A A C  A   A  A   C" ++ 10 ∷ []
  pub act : class_line Reserve
      ≡ codes "RESERVE                        A A  A C C  A C C  A C C  A C C  A   C  A   C" ++ 10 ∷ []

pub record NameRows : Type 0 where
  pub whole : IsNameOf (codes "WRITE(6)") Write
  pub small_letters : IsNameOf (codes "write(6)") Write
  pub part : ¬ IsNameOf (codes "WRITE") Write
  pub found : IsClassNamed Spec (codes "Pr-In") (Some PersistentReserveIn)
  pub found_for_hosts : IsClassNamed Hosts (codes "Log-Sense") (Some LogSense)

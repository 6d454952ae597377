use Rattle.std.proofs.Common.{refl}
use Rattle.mode_pages.specs.declared.drive_page.DrivePage.TheVariants as page
use Rattle.mode_pages.proofs.laws.pages_are_whole.Goals as goal

pub returns : goal.returns
returns c page.ReadWriteErrorRecovery compression = (refl, refl, refl, refl, refl, refl, refl)
returns c page.DisconnectReconnect compression = (refl, refl, refl, refl, refl, refl, refl)
returns c page.Control compression = (refl, refl, refl, refl, refl, refl, refl)
returns c page.DataCompression compression = (refl, refl, refl, refl, refl, refl, refl)
returns c page.DeviceConfiguration compression = (refl, refl, refl, refl, refl, refl, refl)
returns c page.MediumPartition compression = (refl, refl, refl, refl, refl, refl, refl)
returns c page.InformationalExceptionsControl compression = (refl, refl, refl, refl, refl, refl, refl)
returns c page.MediumConfiguration compression = (refl, refl, refl, refl, refl, refl, refl)

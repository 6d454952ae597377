-- The pages that are shown, put together, and their lengths.
use Rattle.std.proofs.Common.{◌≡◌, ℕ, ◌≤◌, Bool, List, [], ◌∷◌, ◌++◌, length, sym, ap, ◌∙◌, arith, lit≤, append_assoc}
use Rattle.std.proofs.lemmas.List.{append-nil}
use Rattle.mode_pages.specs.declared.request.PageControl.{PageControl}
use Rattle.mode_pages.specs.declared.request.PageControl.TheVariants as control
use Rattle.mode_pages.specs.declared.drive_page.DrivePage.{DrivePage}
use Rattle.mode_pages.specs.declared.drive_page.DrivePage.TheVariants as page
use Rattle.mode_pages.specs.declared.changer_page.ChangerPage.{ChangerPage}
use Rattle.mode_pages.specs.declared.changer_page.ChangerPage.TheVariants as changer_page
use Rattle.mode_pages.specs.declared.elements.ElementAddresses.{ElementAddresses}
use Rattle.mode_pages.specs.declared.values.ModeValues.{ModeValues}
use Rattle.mode_pages.specs.DrivePages as drives
use Rattle.mode_pages.specs.DriveData as drive_data
use Rattle.mode_pages.specs.ChangerPages as changers
use Rattle.mode_pages.specs.ChangerData as changer_data

-- lists that grew by one page after another
pub grown_by_eight : (l0 l1 l2 l3 l4 l5 l6 l7 l8 a b c d e f g h : List ℕ)
    → l1 ≡ l0 ++ a → l2 ≡ l1 ++ b → l3 ≡ l2 ++ c → l4 ≡ l3 ++ d → l5 ≡ l4 ++ e → l6 ≡ l5 ++ f → l7 ≡ l6 ++ g → l8 ≡ l7 ++ h → l0 ≡ []
    → l8 ≡ a ++ (b ++ (c ++ (d ++ (e ++ (f ++ (g ++ (h ++ [])))))))
grown_by_eight l0 l1 l2 l3 l4 l5 l6 l7 l8 a b c d e f g h e1 e2 e3 e4 e5 e6 e7 e8 e0 =
    rw (e8, e7, e6, e5, e4, e3, e2, e1, e0) (simp (append_assoc, append-nil))

pub grown_by_five : (l0 l1 l2 l3 l4 l5 a b c d e : List ℕ)
    → l1 ≡ l0 ++ a → l2 ≡ l1 ++ b → l3 ≡ l2 ++ c → l4 ≡ l3 ++ d → l5 ≡ l4 ++ e → l0 ≡ []
    → l5 ≡ a ++ (b ++ (c ++ (d ++ (e ++ []))))
grown_by_five l0 l1 l2 l3 l4 l5 a b c d e e1 e2 e3 e4 e5 e0 = rw (e5, e4, e3, e2, e1, e0) (simp (append_assoc, append-nil))

drive_values_short : (p : DrivePage) (b : Bool) → length (drives.page_values p b) ≤ 32
drive_values_short page.ReadWriteErrorRecovery b = lit≤ tt
drive_values_short page.DisconnectReconnect b = lit≤ tt
drive_values_short page.Control b = lit≤ tt
drive_values_short page.DataCompression b = lit≤ tt
drive_values_short page.DeviceConfiguration b = lit≤ tt
drive_values_short page.MediumPartition b = lit≤ tt
drive_values_short page.InformationalExceptionsControl b = lit≤ tt
drive_values_short page.MediumConfiguration b = lit≤ tt

drive_bits_short : (p : DrivePage) → length (drives.changeable_bits p) ≤ 32
drive_bits_short page.ReadWriteErrorRecovery = lit≤ tt
drive_bits_short page.DisconnectReconnect = lit≤ tt
drive_bits_short page.Control = lit≤ tt
drive_bits_short page.DataCompression = lit≤ tt
drive_bits_short page.DeviceConfiguration = lit≤ tt
drive_bits_short page.MediumPartition = lit≤ tt
drive_bits_short page.InformationalExceptionsControl = lit≤ tt
drive_bits_short page.MediumConfiguration = lit≤ tt

drive_page_short : (c : PageControl) (v : ModeValues) (p : DrivePage) → length (drive_data.page_shown c v p) ≤ 32
drive_page_short control.Current v p = drive_values_short p v.compression
drive_page_short control.Changeable v p = drive_bits_short p
drive_page_short control.Default v p = drive_values_short p _
drive_page_short control.Saved v p = lit≤ tt

drive_table_short : (c : PageControl) (v : ModeValues) → length (drive_data.pages_shown c v drives.drive_pages) ≤ 124
unfolding drive_data.pages_shown
drive_table_short control.Current v = lit≤ tt
drive_table_short control.Changeable v = lit≤ tt
drive_table_short control.Default v = lit≤ tt
drive_table_short control.Saved v = lit≤ tt

pub drive_pages_short : (c : PageControl) (v : ModeValues) (list : List ℕ) → list ≡ drive_data.pages_shown c v drives.drive_pages → length list ≤ 124
drive_pages_short c v list same = rw same (drive_table_short c v)

pub one_drive_page : (c : PageControl) (v : ModeValues) (p : DrivePage) (before list : List ℕ) → before ≡ [] → list ≡ before ++ drive_data.page_shown c v p
    → list ≡ drive_data.pages_shown c v (p ∷ [])
unfolding drive_data.pages_shown
one_drive_page c v p before list empty grown = grown ∙ ap (λ b. b ++ drive_data.page_shown c v p) empty ∙ sym (append-nil (drive_data.page_shown c v p))

pub one_drive_page_short : (c : PageControl) (v : ModeValues) (p : DrivePage) (before list : List ℕ) → before ≡ [] → list ≡ before ++ drive_data.page_shown c v p
    → length list ≤ 124
one_drive_page_short c v p before list empty grown =
    let short : length (drive_data.page_shown c v p) ≤ 32 = drive_page_short c v p in
    rw (grown, empty) (omega arith)

changer_values_short : (p : ChangerPage) (e : ElementAddresses) → length (changers.page_values p e) ≤ 20
changer_values_short changer_page.Control e = lit≤ tt
changer_values_short changer_page.InformationalExceptionsControl e = lit≤ tt
changer_values_short changer_page.ElementAddressAssignment e = lit≤ tt
changer_values_short changer_page.TransportGeometryParameters e = lit≤ tt
changer_values_short changer_page.DeviceCapabilities e = lit≤ tt

changer_bits_short : (p : ChangerPage) → length (changers.changeable_bits p) ≤ 20
changer_bits_short changer_page.Control = lit≤ tt
changer_bits_short changer_page.InformationalExceptionsControl = lit≤ tt
changer_bits_short changer_page.ElementAddressAssignment = lit≤ tt
changer_bits_short changer_page.TransportGeometryParameters = lit≤ tt
changer_bits_short changer_page.DeviceCapabilities = lit≤ tt

changer_page_short : (c : PageControl) (e : ElementAddresses) (p : ChangerPage) → length (changer_data.page_shown c e p) ≤ 20
changer_page_short control.Current e p = changer_values_short p e
changer_page_short control.Changeable e p = changer_bits_short p
changer_page_short control.Default e p = changer_values_short p e
changer_page_short control.Saved e p = lit≤ tt

changer_table_short : (c : PageControl) (e : ElementAddresses) → length (changer_data.pages_shown c e changers.changer_pages) ≤ 68
unfolding changer_data.pages_shown
changer_table_short control.Current e = lit≤ tt
changer_table_short control.Changeable e = lit≤ tt
changer_table_short control.Default e = lit≤ tt
changer_table_short control.Saved e = lit≤ tt

pub changer_pages_short : (c : PageControl) (e : ElementAddresses) (list : List ℕ) → list ≡ changer_data.pages_shown c e changers.changer_pages → length list ≤ 68
changer_pages_short c e list same = rw same (changer_table_short c e)

pub one_changer_page : (c : PageControl) (e : ElementAddresses) (p : ChangerPage) (before list : List ℕ) → before ≡ [] → list ≡ before ++ changer_data.page_shown c e p
    → list ≡ changer_data.pages_shown c e (p ∷ [])
unfolding changer_data.pages_shown
one_changer_page c e p before list empty grown = grown ∙ ap (λ b. b ++ changer_data.page_shown c e p) empty ∙ sym (append-nil (changer_data.page_shown c e p))

pub one_changer_page_short : (c : PageControl) (e : ElementAddresses) (p : ChangerPage) (before list : List ℕ) → before ≡ [] → list ≡ before ++ changer_data.page_shown c e p
    → length list ≤ 68
one_changer_page_short c e p before list empty grown =
    let short : length (changer_data.page_shown c e p) ≤ 20 = changer_page_short c e p in
    rw (grown, empty) (omega arith)

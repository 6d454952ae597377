-- What a drive shows is selected when it is sent.
use Rattle.std.proofs.Common.{◌≡◌, ℕ, ◌+◌, ◌*◌, ◌/◌, ◌%◌, ◌^◌, ◌<◌, ◌≤◌, Bool, true, false, cond, List, Result, Ok, Err, refl, ap, ◌∙◌, arith, ltb}
use Rattle.std.proofs.lemmas.Grind.{common_steps}
use Rattle.std.proofs.lemmas.Bool.{le-ltb}
use Rattle.std.specs.Bool.{if◌then◌else◌}
use Rattle.scsi_sense.specs.declared.condition.Condition.{Condition}
use Rattle.scsi_sense.specs.declared.condition.Condition.TheVariants.{InvalidFieldInParameterList}
use Rattle.mode_pages.specs.DriveData.{pages_shown, drive_data}
use Rattle.mode_pages.specs.DrivePages.{page_code}
use Rattle.mode_pages.specs.Laws.{EachPageIsSelected, AllPagesAreSelected, DescriptorIsSelected, ShownChangesNothing, sense, drive_state, shown, sent, shows_compression}
use Rattle.mode_pages.specs.Select.{pages_taken, with_pages, and_pages}
use Rattle.mode_pages.specs.Values.{mode_values}
use Rattle.mode_pages.specs.declared.drive_page.DrivePage.{DrivePage}
use Rattle.mode_pages.specs.declared.drive_page.DrivePage.TheVariants as page
use Rattle.mode_pages.specs.declared.request.HeaderForm.{HeaderForm}
use Rattle.mode_pages.specs.declared.request.HeaderForm.TheVariants.{Six, Ten}
use Rattle.mode_pages.specs.declared.request.PageControl.TheVariants as control
use Rattle.mode_pages.specs.declared.values.ModeValues.{ModeValues}

three_back : (n : ℕ) → n < 2 ^ 24 → n / 2 ^ 16 % 256 * 2 ^ 16 + n / 2 ^ 8 % 256 * 2 ^ 8 + n % 256 ≡ n
three_back n fits = grind (arith, common_steps)

-- a block length that isn't above the longest block is taken
taken : (most big n : ℕ) (x : Bool) (rest : List ℕ) (after : Result ModeValues Condition) → big ≡ n → n ≤ most → with_pages rest (mode_values n x) ≡ after
    → and_pages (cond (ltb most big) (Err InvalidFieldInParameterList) (Ok (mode_values big x))) rest ≡ after
taken most big n x rest after same within pages = rw (same, le-ltb most n within) pages

pub descriptor : DescriptorIsSelected
unfolding pages_taken pages_shown
descriptor Six before state most can = taken most _ _ _ _ _ (three_back _ can.1) can.0 refl
descriptor Ten before state most can = taken most _ _ _ _ _ (three_back _ can.1) can.0 refl

page_at : (form : HeaderForm) (p : DrivePage) (before : ModeValues) (n : ℕ) (x write_protected has_volume : Bool) (most : ℕ) → n ≤ most → n < 2 ^ 24
    → sent before most form (shown form (page_code p) (drive_state (mode_values n x) write_protected has_volume))
    ≡ Ok (mode_values n (if shows_compression p then x else before.compression))
unfolding pages_taken pages_shown
page_at Six page.ReadWriteErrorRecovery before n x w v most within fits = taken most _ n _ _ _ (three_back n fits) within refl
page_at Six page.DisconnectReconnect before n x w v most within fits = taken most _ n _ _ _ (three_back n fits) within refl
page_at Six page.Control before n x w v most within fits = taken most _ n _ _ _ (three_back n fits) within refl
page_at Six page.DataCompression before n true w v most within fits = taken most _ n _ _ _ (three_back n fits) within refl
page_at Six page.DataCompression before n false w v most within fits = taken most _ n _ _ _ (three_back n fits) within refl
page_at Six page.DeviceConfiguration before n true w v most within fits = taken most _ n _ _ _ (three_back n fits) within refl
page_at Six page.DeviceConfiguration before n false w v most within fits = taken most _ n _ _ _ (three_back n fits) within refl
page_at Six page.MediumPartition before n x w v most within fits = taken most _ n _ _ _ (three_back n fits) within refl
page_at Six page.InformationalExceptionsControl before n x w v most within fits = taken most _ n _ _ _ (three_back n fits) within refl
page_at Six page.MediumConfiguration before n x w v most within fits = taken most _ n _ _ _ (three_back n fits) within refl
page_at Ten page.ReadWriteErrorRecovery before n x w v most within fits = taken most _ n _ _ _ (three_back n fits) within refl
page_at Ten page.DisconnectReconnect before n x w v most within fits = taken most _ n _ _ _ (three_back n fits) within refl
page_at Ten page.Control before n x w v most within fits = taken most _ n _ _ _ (three_back n fits) within refl
page_at Ten page.DataCompression before n true w v most within fits = taken most _ n _ _ _ (three_back n fits) within refl
page_at Ten page.DataCompression before n false w v most within fits = taken most _ n _ _ _ (three_back n fits) within refl
page_at Ten page.DeviceConfiguration before n true w v most within fits = taken most _ n _ _ _ (three_back n fits) within refl
page_at Ten page.DeviceConfiguration before n false w v most within fits = taken most _ n _ _ _ (three_back n fits) within refl
page_at Ten page.MediumPartition before n x w v most within fits = taken most _ n _ _ _ (three_back n fits) within refl
page_at Ten page.InformationalExceptionsControl before n x w v most within fits = taken most _ n _ _ _ (three_back n fits) within refl
page_at Ten page.MediumConfiguration before n x w v most within fits = taken most _ n _ _ _ (three_back n fits) within refl

pub each_page : EachPageIsSelected
each_page form p before state most can =
    page_at form p before state.values.block_length state.values.compression state.write_protected state.has_volume most can.0 can.1

all_at : (form : HeaderForm) (disabled : Bool) (before : ModeValues) (n : ℕ) (x write_protected has_volume : Bool) (most : ℕ) → n ≤ most → n < 2 ^ 24
    → sent before most form (drive_data (sense form disabled control.Current 0x3F 0x00) (drive_state (mode_values n x) write_protected has_volume))
    ≡ Ok (mode_values (if disabled then before.block_length else n) x)
unfolding pages_taken pages_shown
all_at Six true before n true w v most within fits = refl
all_at Six false before n true w v most within fits = taken most _ n _ _ _ (three_back n fits) within refl
all_at Six true before n false w v most within fits = refl
all_at Six false before n false w v most within fits = taken most _ n _ _ _ (three_back n fits) within refl
all_at Ten true before n true w v most within fits = refl
all_at Ten false before n true w v most within fits = taken most _ n _ _ _ (three_back n fits) within refl
all_at Ten true before n false w v most within fits = refl
all_at Ten false before n false w v most within fits = taken most _ n _ _ _ (three_back n fits) within refl

pub all_pages : AllPagesAreSelected
all_pages form disabled before state most can =
    all_at form disabled before state.values.block_length state.values.compression state.write_protected state.has_volume most can.0 can.1

same_value : (b x : Bool) → (if b then x else x) ≡ x
same_value true x = refl
same_value false x = refl

pub nothing : ShownChangesNothing
nothing form p state most can =
    each_page form p state.values state most can ∙ ap (λ (x : Bool). Ok (mode_values state.values.block_length x)) (same_value (shows_compression p) state.values.compression)

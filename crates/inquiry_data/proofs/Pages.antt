-- The pages that a unit lists are those that it answers.
use Rattle.std.proofs.Common.{◌≡◌, ◌==◌, ◌||◌, ℕ, zero, suc, arith, lit<, Bool, true, false, cond, List, [], ◌∷◌, Option, Some, refl, is_some}
use Rattle.std.specs.Prelude.{map}
use Rattle.std.specs.List.{list_any}
use Rattle.std.specs.List.Sorted.{IsStrictlyIncreasing}
use Rattle.scsi_cdb.specs.declared.kind.Kind.{Kind}
use Rattle.scsi_cdb.specs.declared.kind.Kind.TheVariants.{Drive, Changer}
use Rattle.inquiry_data.specs.declared.page.VitalProductPage.{VitalProductPage}
use Rattle.inquiry_data.specs.declared.inquiry_context.InquiryContext.{InquiryContext}
use Rattle.inquiry_data.specs.VitalProductData.{page_code, pages_of, page_among, data_of_page, supported_pages, ListedPagesAreAnswered, ListsAscend}

by_test : (kind : Kind) (context : InquiryContext) (page : VitalProductPage) (rest : Option VitalProductPage) (b other : Bool)
    → is_some (data_of_page kind context rest) ≡ other
    → is_some (data_of_page kind context (cond b (Some page) rest)) ≡ (b || other)
by_test kind context page rest true other others = refl
by_test kind context page rest false other others = others

among : (kind : Kind) (context : InquiryContext) (code : ℕ) (pages : List VitalProductPage)
    → is_some (data_of_page kind context (page_among pages code)) ≡ list_any (λ listed. listed == code) (map page_code pages)
among kind context code [] = refl
among kind context code (page ∷ pages) =
    by_test kind context page (page_among pages code) (page_code page == code) (list_any (λ listed. listed == code) (map page_code pages))
    (among kind context code pages)

pub listed_pages_are_answered : ListedPagesAreAnswered
listed_pages_are_answered kind context code = among kind context code (pages_of kind)

ascending_in_drives : IsStrictlyIncreasing (supported_pages Drive)
ascending_in_drives zero within = lit< tt
ascending_in_drives (suc zero) within = lit< tt
ascending_in_drives (suc (suc zero)) within = lit< tt
ascending_in_drives (suc (suc (suc zero))) within = lit< tt
ascending_in_drives (suc (suc (suc (suc zero)))) within = lit< tt
ascending_in_drives (suc (suc (suc (suc (suc zero))))) within = lit< tt
ascending_in_drives (suc (suc (suc (suc (suc (suc zero)))))) within = lit< tt
ascending_in_drives (suc (suc (suc (suc (suc (suc (suc zero))))))) within = lit< tt
ascending_in_drives (suc (suc (suc (suc (suc (suc (suc (suc zero)))))))) within = lit< tt
ascending_in_drives (suc (suc (suc (suc (suc (suc (suc (suc (suc k))))))))) within = absurd (omega arith)

ascending_in_changers : IsStrictlyIncreasing (supported_pages Changer)
ascending_in_changers zero within = lit< tt
ascending_in_changers (suc zero) within = lit< tt
ascending_in_changers (suc (suc zero)) within = lit< tt
ascending_in_changers (suc (suc (suc zero))) within = lit< tt
ascending_in_changers (suc (suc (suc (suc k)))) within = absurd (omega arith)

pub lists_ascend : ListsAscend
lists_ascend Drive = (ascending_in_drives, lit< tt)
lists_ascend Changer = (ascending_in_changers, lit< tt)

-- Which options can't be given together, and which mean nothing without another, whichever source gives them (profile).
use Rattle.std.specs.Prelude.{ℕ, ◌≡◌, ◌&&◌, not, Bool, List, [], ◌∷◌, ◌++◌, codes, find, Option, Some, None, Result, Ok, Err}
use Rattle.given_options.specs.Given.{is_given}
use Rattle.given_options.specs.Keys.{option_text}
use Rattle.given_options.specs.declared.key.ServeKey.TheVariants.{Media, NewLibrary, WaitForFolder, Memory, VolumesLargerThanMemory, Metrics, MetricsOpen, Sessions, Workers, Iscsi, TargetName, Hosts, AnyHost, Multipath, Chap, ChapDigests, NoAuthentication, Spans, Drain, KeepRecords, Records, Format}
use Rattle.given_options.specs.declared.options.GivenOptions.{GivenOptions}
use Rattle.given_options.specs.declared.rule.OptionRule.{OptionRule}
use Rattle.given_options.specs.declared.rule.OptionRule.TheVariants.{Excludes, Needs}

-- the ways to end, to keep records and to show who one is; and all that is only of iSCSI, of its secrets, of a folder, of a file of
-- records, or of metrics
abbrev pub option_rules : List OptionRule
option_rules =
    Excludes Workers Sessions ∷ Excludes Sessions Iscsi ∷ Excludes Drain Spans ∷ Excludes KeepRecords Drain ∷
    Excludes Records Spans ∷ Excludes Records Drain ∷ Excludes Records KeepRecords ∷
    Excludes NoAuthentication Chap ∷ Needs Format Records ∷ Needs NewLibrary Media ∷ Needs WaitForFolder Media ∷ Needs VolumesLargerThanMemory Memory ∷ Needs TargetName Iscsi ∷ Needs Hosts Iscsi ∷ Needs AnyHost Iscsi ∷
    Needs Multipath Iscsi ∷ Needs Chap Iscsi ∷ Needs ChapDigests Chap ∷ Needs NoAuthentication Iscsi ∷ Needs MetricsOpen Metrics ∷ []

abbrev pub is_broken : GivenOptions → OptionRule → Bool
is_broken given (Excludes one other) = is_given one given && is_given other given
is_broken given (Needs one other) = is_given one given && not (is_given other given)

abbrev pub judged : Option OptionRule → Result (Unit {0}) OptionRule
judged None = Ok tt
judged (Some rule) = Err rule

-- the first rule that is broken, if one is
abbrev pub judged_options : GivenOptions → Result (Unit {0}) OptionRule
judged_options given = judged (find (is_broken given) option_rules)

abbrev pub GoTogether : GivenOptions → Type 0
GoTogether given = judged_options given ≡ Ok tt

abbrev pub rule_text : OptionRule → List ℕ
rule_text (Excludes one other) = codes "vtl: --" ++ option_text one ++ codes " cannot be used with --" ++ option_text other
rule_text (Needs one other) = codes "vtl: --" ++ option_text one ++ codes " needs --" ++ option_text other

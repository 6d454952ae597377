use Rattle.std.proofs.Common.{◌≡◌, arith, ap, sym, subst, ◌∙◌, ◌-◌, ◌/◌, map, length, take, drop, cond, is_some, IfSome, Option, None, Some}
use Rattle.std.specs.List.{list_all}
use Rattle.scsi_nexus.specs.TransportId.{sas_address}
use Rattle.pr_params.specs.Lists.{ids, is_sas}
use Rattle.permit_tables.specs.declared.list_defect.ListDefect.TheVariants.{TransportId}
use Rattle.permit_tables.specs.AddressList.{AddressList}
use Rattle.pr_params.proofs.IdLaws.{ids-listed, defect-listed}
use Rattle.pr_params.proofs.register_list.listed_addresses.Goals as goal

pub returns-in-Some-clause-defect : goal.returns-in-Some-clause-defect
returns-in-Some-clause-defect c =
    let whole = c.requires in
    defect-listed c.args.act c.args.bytes.now (sym c.if-not-may_list.ensures) whole (omega arith) (omega arith)
    ∙ ap (λ b. cond b None (Some TransportId))
    (sym (sym (ap is_some c.in-Some.is) ∙ c.in_ok-targets.ensures.all ∙ ap (list_all is_sas) (ids-listed c.args.bytes.now whole)))

pub returns-in-Some-clause-targets : goal.returns-in-Some-clause-targets
returns-in-Some-clause-targets c =
    let whole = c.requires in
    let listed = c.in_ok-targets.ensures.addresses in
    let read = subst (λ (o : Option AddressList). IfSome o (λ t. t.items ≡ map sas_address (ids (length (take (length c.args.bytes.now - 28) (drop 28 c.args.bytes.now)) / 24)
    (take (length c.args.bytes.now - 28) (drop 28 c.args.bytes.now))))) c.in-Some.is listed in
    read ∙ ap (map sas_address) (ids-listed c.args.bytes.now whole)

pub returns-in-None-clause-defect : goal.returns-in-None-clause-defect
returns-in-None-clause-defect c =
    let whole = c.requires in
    defect-listed c.args.act c.args.bytes.now (sym c.if-not-may_list.ensures) whole (omega arith) (omega arith)
    ∙ ap (λ b. cond b None (Some TransportId))
    (sym (sym (ap is_some c.in-None.is) ∙ c.in_ok-targets.ensures.all ∙ ap (list_all is_sas) (ids-listed c.args.bytes.now whole)))

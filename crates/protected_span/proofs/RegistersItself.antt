-- A REGISTER list with neither SPEC_I_PT nor ALL_TG_PT names its sender alone.
use Rattle.std.proofs.Common.{◌≡◌, Bool, true, false, cond, ◌&&◌, [], ◌∷◌, ◌++◌, refl, ◌∙◌}
use Rattle.std.specs.Prelude.{if◌then◌else◌, is_some, is_none, map}
use Rattle.std.specs.List.{flat_map}
use Rattle.scsi_nexus.specs.TransportId.{sas_address}
use Rattle.pr_params.specs.Lists.{register_params, register_defect, listed_ids}
use Rattle.protected_span.specs.Span.{RegistersItself}
use Rattle.pr_core.specs.Targets.{at_all_ports, at_ports}

pub names_itself : RegistersItself
names_itself n act scope bytes none one =
    let p = register_params act scope bytes in
    (λ i. if is_some p.defect then n ∷ [] else n ∷ (if one i then at_all_ports n.sas else []) ++ flat_map (at_ports n p) (if none i && is_none (register_defect act bytes) then map sas_address (listed_ids bytes) else []))
    ∙ same (is_some p.defect)
  where
    same : (b : Bool) → cond b (n ∷ []) (n ∷ []) ≡ n ∷ []
    same true = refl
    same false = refl

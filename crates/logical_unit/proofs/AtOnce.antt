-- A command of a drive that asks for its status at once says the same in the hosts' profile.
use Rattle.std.proofs.Common.{◌≡◌, ℕ, true, List, Ok, ap, ◌∙◌, subst}
use Rattle.scsi_cdb.specs.declared.kind.Kind.{Kind}
use Rattle.scsi_cdb.specs.declared.kind.Kind.TheVariants.{Drive}
use Rattle.scsi_cdb.specs.declared.profile.CommandSet.{CommandSet}
use Rattle.scsi_cdb.specs.declared.profile.Profile.{Profile}
use Rattle.scsi_cdb.specs.declared.profile.Profile.TheVariants.{Spec, Hosts}
use Rattle.scsi_cdb.specs.declared.request.Request.{Request}
use Rattle.scsi_cdb.specs.Classes.{is_immediate}
use Rattle.scsi_cdb.specs.Commands.{decoded}
use Rattle.scsi_cdb.specs.Kinds.{commands}
use Rattle.scsi_cdb.proofs.Profiles.{hosts_decode}
use Rattle.logical_unit.specs.AtOnce.{is_at_once}

-- at a drive of either profile
in_hosts : (p : Profile) (cdb : List ℕ) (r : Request) → decoded (commands p Drive) cdb ≡ Ok r → decoded (commands Hosts Drive) cdb ≡ Ok r
in_hosts Spec cdb r reads = hosts_decode Drive cdb r reads
in_hosts Hosts cdb r reads = reads

pub at_once : (s : CommandSet) (cdb : List ℕ) (r : Request) → s.kind ≡ Drive → decoded s cdb ≡ Ok r → is_immediate r ≡ true
    → is_at_once (decoded (commands Hosts Drive) cdb) ≡ true
at_once s cdb r drive reads now =
    let at_drive : decoded (commands s.profile Drive) cdb ≡ Ok r = subst (λ (k : Kind). decoded (commands s.profile k) cdb ≡ Ok r) drive reads in
    ap is_at_once (in_hosts s.profile cdb r at_drive) ∙ now

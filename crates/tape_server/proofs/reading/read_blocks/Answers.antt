use Rattle.std.proofs.Common.{◌≡◌, ℕ, true, ◌≤◌, ◌*◌, length, length-append, ap, arith, rules}
use Rattle.std.proofs.lemmas.Grind.{common_steps}
use Rattle.tape_medium.specs.Tape.{ahead}
use Rattle.device_server.specs.Drive.{is_fixed_transfer}
use Rattle.scsi_cdb.specs.declared.profile.Profile.{Profile}
use Rattle.scsi_cdb.specs.declared.profile.Profile.TheVariants.{Spec, Hosts}
use Rattle.tape_medium.specs.Limits.{block_limit}
use Rattle.tape_server.proofs.RunLemmas.{length-run}
use Rattle.tape_server.proofs.reading.read_blocks.Goals as goal

whole-fits : (profile : Profile) (size count : ℕ) → is_fixed_transfer profile size count ≡ true → count * size ≤ block_limit
whole-fits Spec size count h = grind (arith, common_steps)
whole-fits Hosts size count h = grind (arith, common_steps)

pub end_of_run-requires : goal.end_of_run-requires
end_of_run-requires c =
    let run = length-run c.args.block_length c.args.count (ahead c.args.tape.now) in
    let fits = whole-fits c.args.profile c.args.block_length c.args.count (search rules) in
    let read = simp length-append at (ap length c.read_run-done.ensures.bytes) in
    let none = ap length c.in_ok-bytes.ensures.items in
    omega (arith, run, fits, read, none)

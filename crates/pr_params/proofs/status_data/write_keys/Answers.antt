use Rattle.std.proofs.lemmas.Grind.{common_steps}
use Rattle.std.proofs.Common.{ℕ, ◌+◌, ◌*◌, ◌/◌, length, take, refl, ap, ◌∙◌, arith, rules}
use Rattle.byteorder.specs.Endian.{big_bytes}
use Rattle.scsi_nexus.specs.declared.nexus.Nexus.{Nexus}
use Rattle.pr_params.specs.Status.{header}
use Rattle.pr_params.proofs.DescriptorLaws.{cut_at}
use Rattle.pr_params.proofs.status_data.write_keys.Goals as goal

pub returns : goal.returns
returns c =
    c.truncate.ensures.items ∙ ap (λ n. take n c.loop-key.data.items) c.from.ensures
    ∙ cut_at (λ (e : Nexus × ℕ). big_bytes 8 e.1) 8 (λ e. refl) c.args.pairs.now c.shown-first.result.now
    (c.args.allocation_length / 8 + 1) c.loop-key.key-index c.args.allocation_length (header c.args.generation (8 * length c.args.pairs.now)) c.loop-key.data.items
    c.shown-first.ensures c.loop-key-test.false c.loop-key.invariant (omega arith)

pub loop-key-init : goal.loop-key-init
loop-key-init c = search rules

pub loop-key-preserved : goal.loop-key-preserved
loop-key-preserved c = grind (arith, common_steps)

pub overflow_cast-first : goal.overflow_cast-first
overflow_cast-first c = grind (arith, common_steps)

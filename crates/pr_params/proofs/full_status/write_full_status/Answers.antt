use Rattle.std.proofs.Common.{◌+◌, ◌*◌, ◌/◌, length, take, ap, ◌∙◌, arith, rules}
use Rattle.pr_params.specs.Status.{full_status_of, header}
use Rattle.pr_params.proofs.DescriptorLaws.{written, cut_at, length-full_status}
use Rattle.pr_params.proofs.full_status.write_full_status.Goals as goal

pub loop-nexus-preserved : goal.loop-nexus-preserved
loop-nexus-preserved c =
    written (full_status_of c.args.reservation) c.shown-first.result.now c.loop-nexus.nexus-index (record { 0 = record { sas = 0; port = 0 }; 1 = 0 })
    (header c.args.generation (48 * length c.args.pairs.now)) c.loop-nexus.data.items _ c.full_status_descriptor.result
    c.loop-nexus-test.true c.in_ok-extend_from_slice.ensures.items c.loop-nexus.invariant c.full_status_descriptor.ensures

pub returns : goal.returns
returns c =
    c.truncate.ensures.items ∙ ap (λ n. take n c.loop-nexus.data.items) c.from.ensures
    ∙ cut_at (full_status_of c.args.reservation) 48 (length-full_status c.args.reservation) c.args.pairs.now c.shown-first.result.now
    (c.args.allocation_length / 48 + 1) c.loop-nexus.nexus-index c.args.allocation_length (header c.args.generation (48 * length c.args.pairs.now)) c.loop-nexus.data.items
    c.shown-first.ensures c.loop-nexus-test.false c.loop-nexus.invariant (omega arith)

pub loop-nexus-init : goal.loop-nexus-init
loop-nexus-init c = search rules

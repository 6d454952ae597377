use Rattle.std.proofs.Common.{◌≡◌, ◌+◌, ◌-◌, ◌*◌, ◌≤◌, ◌<◌, ◌++◌, length, vec_len, arith, ap, ◌∙◌}
use Rattle.std.specs.List.{flat_map}
use Rattle.element_map.specs.Runs.{code_of, tags_of, in_run}
use Rattle.element_sources.specs.HostStatus.{host_descriptor, host_descriptor_length}
use Rattle.element_sources.specs.Reports.{as_reported}
use Rattle.element_sources.proofs.Pages.{descriptors-more, times-more}
use Rattle.element_sources.proofs.status.put_descriptors.Goals as goal

pub loop-at-preserved : goal.loop-at-preserved
loop-at-preserved c =
    let request = c.args.request.now in
    let from : c.args.run.from ≤ c.loop-at.at = omega arith in
    let inside : c.loop-at.at < length (tags_of c.args.elements.now c.args.element_type) = omega arith in
    let wrote = c.in_ok-put_descriptor.ensures in
    let so_far = c.loop-at.invariant in
    let one = host_descriptor_length request.volume_tags request.device_identifiers in
    record {
      items = descriptors-more c.args.elements.now c.args.element_type (host_descriptor c.args.sources.now c.args.library request.volume_tags request.device_identifiers)
          c.args.run.from c.loop-at.at (as_reported c.element_numbered-element.result) _ _ _ from inside c.element_numbered-element.ensures.element so_far.items wrote.items;
      length = wrote.length
          ∙ ap (λ type. vec_len c.loop-at.bytes + one (code_of type)) c.element_numbered-element.ensures.element_type
          ∙ ap (λ n. n + one (code_of c.args.element_type)) so_far.length
          ∙ times-more (vec_len c.args.bytes.now) c.args.run.from c.loop-at.at (one (code_of c.args.element_type)) from;
    }

pub returns-clause-items : goal.returns-clause-items
returns-clause-items c =
    let request = c.args.request.now in
    let all : c.loop-at.at - c.args.run.from ≡ c.args.run.count = omega (arith, c.loop-at-test.false, c.loop-at.auto) in
    c.loop-at.invariant.items
    ∙ ap (λ n. c.args.bytes.now.items ++ flat_map (host_descriptor c.args.sources.now c.args.library request.volume_tags request.device_identifiers) (in_run c.args.elements.now c.args.element_type c.args.run.from n)) all

pub returns-clause-length : goal.returns-clause-length
returns-clause-length c =
    let request = c.args.request.now in
    let all : c.loop-at.at - c.args.run.from ≡ c.args.run.count = omega (arith, c.loop-at-test.false, c.loop-at.auto) in
    c.loop-at.invariant.length
    ∙ ap (λ n. vec_len c.args.bytes.now + n * host_descriptor_length request.volume_tags request.device_identifiers (code_of c.args.element_type)) all

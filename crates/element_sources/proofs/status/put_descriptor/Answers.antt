use Rattle.std.proofs.Common.{◌≡◌, ◌++◌, [], if◌then◌else◌, ap, ◌∙◌}
use Rattle.std.proofs.lemmas.Result.{IfOk-equal}
use Rattle.tape_medium.specs.ElementStatus.{tag_information}
use Rattle.element_sources.specs.HostStatus.{element_information, reported_source}
use Rattle.element_sources.specs.Reports.{as_reported}
use Rattle.element_sources.proofs.Pages.{descriptor-written, tag-some, tag-none}
use Rattle.element_sources.proofs.status.put_descriptor.Goals as goal
use Rattle.element_sources.proofs.status.put_descriptor.Goals.{then-request+in_ok-put_tag_information, else-request}

pub returns-clause-items : goal.returns-clause-items
returns-clause-items c =
    let request = c.args.request.now in
    let reported = as_reported c.args.element in
    let old = c.args.bytes.now.items in
    let informed = c.extend_from_slice.new.self.items in
    let information : informed ≡ old ++ element_information reported (reported_source c.args.sources.now reported)
    = c.in_ok-extend_from_slice.ensures.items ∙ ap (λ piece. old ++ piece) (c.information.ensures ∙ ap (element_information reported) c.source.ensures) in
    let tag : c.if-request.bytes.items ≡ informed ++ (if request.volume_tags then tag_information c.args.element.tag else [])
    = elim c.if-request.branch [
      | then-request+in_ok-put_tag_information w ↦
          let appended : c.if-request.bytes.items ≡ informed ++ tag_information c.args.element.tag = rw w.bytes-is w.in_ok-put_tag_information.ensures.items in
          tag-some request.volume_tags (tag_information c.args.element.tag) informed c.if-request.bytes.items w.if-request.true appended
      | else-request w ↦
          let same : c.if-request.bytes.items ≡ informed = rw w.bytes-is in
          tag-none request.volume_tags (tag_information c.args.element.tag) informed c.if-request.bytes.items w.if-request.false same
    ] in
    IfOk-equal c.put_identifier.result _ _ _ c.put_identifier.ensures.items
    (descriptor-written c.args.sources.now c.args.library request.volume_tags request.device_identifiers reported old informed c.if-request.bytes.items information tag)

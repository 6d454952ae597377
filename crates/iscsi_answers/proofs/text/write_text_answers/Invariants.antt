use Rattle.std.proofs.Common.{◌≡◌, ◌+◌, ◌-◌, ◌++◌, length}
use Rattle.iscsi_answers.specs.Texts.{text_items, text_items_within, target_items}
use Rattle.iscsi_answers.proofs.text.write_text_answers.Given as goal

-- what is written, with the answers to what is left
abbrev pub invariant-items : goal.invariant-items
invariant-items l =
    l.out.items ++ text_items_within (length l.text + 1 - l.counter) l.discovery l.portals.name.now (target_items l.portals.name.now l.portals.group l.portals.address.now l.portals.all.now) l.left
    ≡ l.initial.out.items ++ text_items l.discovery l.portals.name.now (target_items l.portals.name.now l.portals.group l.portals.address.now l.portals.all.now) l.text

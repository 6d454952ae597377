use Rattle.std.proofs.Common.{◌≡◌, drop}
use lib.Pointwise.{pointwise}
use Rattle.iscsi_keys.specs.IscsiNames.{fits}
use Rattle.iscsi_keys.proofs.iscsi_name.has_form.Given as goal

-- what is left is to have the form that is left
abbrev pub invariant-loop-place : goal.invariant-loop-place
invariant-loop-place l = pointwise fits (drop l.place-index l.form) l.left ≡ pointwise fits l.form l.text

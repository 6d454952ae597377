use Rattle.std.proofs.Common.{refl, inl, inr, rules}
use Rattle.scsi_sense.specs.declared.condition.Condition.TheVariants.{InvalidFieldInCdb}
use Rattle.unit_laws.proofs.laws.legal_and_illegal_records.Goals as goal

pub returns-clause-legal : goal.returns-clause-legal
returns-clause-legal c = record {
  known = search rules;
  prevented = search rules;
  refused_fields = record {
    room = refl;
    listless = refl;
    judged = record {
      stage = inl refl;
      cell = refl;
      rule = refl;
      whole = inr (refl, refl);
      fields = λ e. record { condition = InvalidFieldInCdb; of_class = refl; status = refl; sense = refl };
      unit = λ own e. absurd cc;
      told = λ kind e. absurd cc;
    };
  };
}

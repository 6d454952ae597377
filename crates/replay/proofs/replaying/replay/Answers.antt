use Rattle.std.proofs.Common.{rules}
use Rattle.replay.proofs.replaying.replay.Goals as goal

pub returns-in-Ok-clause-ok : goal.returns-in-Ok-clause-ok
returns-in-Ok-clause-ok g c =
    let ran = c.in_ok-run.ensures in
    record {
      ran = record {
        input = c.in_ok-input.input.items;
        events = c.in_ok-events.events;
        replies = ran.0;
        whole = c.in_ok-input.ensures.ok;
        script = search rules;
        run = ran.1;
      };
      lines = rw (c.as_bytes.ensures.value, c.in_ok-records.ensures, c.all.ensures.units, c.deref-2.ensures.value, ran.2, c.profile-profile.ensures.changer, c.new-text.ensures.items) at c.in-Ok.ensures;
    }

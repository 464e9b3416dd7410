use Rattle.std.proofs.Common.{◌≡◌, ◌-◌, ◌*◌, ◌≤◌, length}
use Rattle.std.specs.List.{concat}
use Rattle.esa_job.specs.Request.{inputs_at}
use Rattle.esa_job.specs.Seen.{request_of}
use Rattle.esa_command.specs.Stand.{stand}
use Rattle.esa_gathering.specs.Together.{texts_of}
use Rattle.esa_gathering.proofs.Reading.{Goes}
use Rattle.esa_gathering.proofs.taking.take_texts.Given as goal

abbrev pub invariant-loop-name : goal.invariant-loop-name
invariant-loop-name g l =
    let stands = stand g.K.Cabinet.told g.K.Cabinet.faults g.K.Cabinet.heard in
    record {
      few : l.place ≤ length (inputs_at (request_of l.job));
      number : l.texts.len ≡ l.place;
      room : 16 ≤ l.texts.cap;
      small : length (concat (texts_of l.texts.items)) ≤ l.place * 268435456;
      goes : Goes (inputs_at (request_of l.job)) (stands l.initial.cabinet) l.place (texts_of l.texts.items) (stands l.cabinet);
    }

abbrev pub decreases-loop-name : goal.decreases-loop-name
decreases-loop-name g l = length (inputs_at (request_of l.job)) - l.place

use Rattle.std.proofs.Common.{◌≢◌, [], ◌∷◌, refl, sym, subst}
use Rattle.esa_parallel.specs.Crews.{AllAreDone, AllTookPart, uncut_of}
use Rattle.esa_spec.specs.Histories.{lists}
use Rattle.esa_shuffle.specs.Loading.{HasGiven}
use Rattle.esa_shuffle.specs.Records.{IsShuffledFrom}
use Rattle.esa_shuffle.specs.Runs.{seen_of}
use Rattle.esa_command.specs.Stand.{stand}
use Rattle.esa_running.specs.ByCrew.{IsByCrew}
use Rattle.esa_running.specs.ComingOut.{batch_told, batch_part, IsLoaded}
use Rattle.esa_running.specs.RunEnded.{history_in}
use Rattle.esa_running.specs.RunOwes.{IsRecorded}
use Rattle.esa_taking.specs.RunTaken.{run_taken}
use Rattle.esa_taking.specs.Wanted.{block_keys, outer_keys, turns_by, HasFewAttempts}
use Rattle.esa_running.proofs.ComingOut.{loaded, made_of}
use Rattle.esa_running.proofs.Asking.{can_be_asked}
use Rattle.esa_running.proofs.threaded.crew_ready.Goals as goal

pub end_ran-requires-clause-ends : goal.end_ran-requires-clause-ends
end_ran-requires-clause-ends g c = (g.V.Device.faults c.args.recorder.device, g.K.Cabinet.faults c.args.cabinet.now, c.in-Ok.ensures.ends)

pub returns-in-Ok : goal.returns-in-Ok
returns-in-Ok g c =
    let input = c.args.input.now in
    let asked = run_taken input in
    let ran = c.in-Ok.ran in
    let device = g.V.Device.faults c.args.recorder.device in
    let batch = g.K.Cabinet.faults c.args.cabinet.now in
    let stands = stand g.K.Cabinet.told g.K.Cabinet.faults g.K.Cabinet.heard in
    let taken = stands c.args.cabinet.now in
    let acted = stands c.crew_batch.new.cabinet in
    let seen = seen_of g.V.Device.faults device batch ran.recorder ran.history acted.faults in
    let ends = c.in-Ok.ensures.ends in
    let gave =
    subst (λ p. HasGiven p (batch_told asked taken.told) (batch_part asked) taken.heard acted.heard (ran.history ≢ p.workers ∷ [])
    (IsShuffledFrom p asked.draws (turns_by asked ran.history) (outer_keys asked) (block_keys asked) ran.history ran.recorder.log ran.outcome)) c.requires.taken.plan c.in-Ok.ensures.given in
    let crew : IsByCrew asked ran.history (uncut_of ran.outcome) =
    λ asks. record {
      took_part = subst (λ p. AllTookPart p (lists p.workers ran.history)) c.requires.taken.plan c.in-Ok.ensures.took_part;
      done = subst (λ p. AllAreDone p asked.draws (lists p.workers ran.history) ran.outcome) c.requires.taken.plan c.in-Ok.ensures.done;
    } in
    let done =
    c.end_ran.ensures.works device batch gave.given ends
    (made_of asked taken acted ran.history ran.recorder.log ran.outcome gave seen ran.recorder.last ran.failures c.requires.taken.limits refl ends crew) in
    record {
      work = done.work;
      acted = acted;
      owes = record {
        can = can_be_asked c.args.input.now c.requires.taken;
        given = gave.given;
        load = subst (λ history. IsLoaded asked taken acted history gave.given) (sym c.end_ran.ensures.history) (loaded asked taken acted ran.history ran.recorder.log ran.outcome gave);
        became = done.became;
        few = subst (HasFewAttempts asked) (sym c.end_ran.ensures.history) c.in-Ok.ensures.few;
        crew = done.crew;
        ends = done.ends;
        recorder = subst (λ p. IsRecorded g.V.Device.told p (history_in c.end_ran.result.history) c.end_ran.result.recorder) c.requires.taken.plan c.end_ran.ensures.recorder;
        still = c.crew_batch.ensures.told;
      };
      settles = done.settles;
    }

use Rattle.std.proofs.Common.{◌≢◌, [], ◌∷◌}
use Rattle.std.proofs.lemmas.Result.{IfOk-weaker}
use Rattle.esa_shuffle.specs.Records.{IsShuffledFrom}
use Rattle.esa_shuffling.specs.Drawn.{draws_of}
use Rattle.esa_taking.specs.RunTaken.{run_taken}
use Rattle.esa_taking.specs.Wanted.{block_keys, outer_keys, turns_by}
use Rattle.esa_running.proofs.ComingOut.{given_as}
use Rattle.esa_running.proofs.threaded.crew_records.Goals as goal

pub returns-clause-given : goal.returns-clause-given
returns-clause-given g c =
    let input = c.args.input.now in
    let asked = run_taken input in
    let p = input.plan in
    let ds = draws_of input.coins in
    let batch = c.args.batch.now in
    let told = g.K.Cabinet.told batch.cabinet.now in
    let before = g.K.Cabinet.heard batch.cabinet.now in
    let after = g.K.Cabinet.heard c.shuffle_by_crew.new.batch.cabinet.now in
    IfOk-weaker c.shuffle_by_crew.result _ _
    (λ ran gave.
    given_as asked told batch.cabinet.ghost_name p batch.name.now batch.start batch.size batch.count before after (ran.history ≢ p.workers ∷ [])
    (IsShuffledFrom p ds (turns_by asked ran.history) (outer_keys asked) (block_keys asked) ran.history ran.recorder.log ran.outcome)
    c.requires.name c.requires.start c.requires.size c.requires.count gave)
    c.shuffle_by_crew.ensures.given

-- The attempts end the run after the load, or the load does.
use Rattle.std.proofs.Common.{◌≡◌, ◌≢◌, true, false, ℕ, ◌*◌, [], ◌∷◌, ◌++◌, All, length, Ok, Err, arith, refl, sym, ap, ◌∙◌, subst}
use Rattle.esa_params.specs.Form.{envelope_length}
use Rattle.esa_params.specs.Sizes.{Sizes, first}
use Rattle.esa_floor.specs.Parts.{Parts}
use Rattle.esa_floor.specs.Written.{WritesInput}
use Rattle.esa_spec.specs.Histories.{begun}
use Rattle.esa_model.specs.Forecast.{made}
use Rattle.esa_shuffle.specs.Loading.{HasGiven, TakesBatch}
use Rattle.esa_shuffle.specs.Runs.{MayEnd}
use Rattle.esa_shuffle.proofs.Behind.{load_cut}
use Rattle.esa_shuffle.proofs.Ending.{may_front}
use Rattle.esa_shuffle.proofs.Inputs.{written_by}
use Rattle.esa_shuffle.proofs.Loaded.{given_where}
use Rattle.esa_shuffle.proofs.Records.{not_shuffled, shuffled_from, written_from}
use Rattle.esa_shuffle.proofs.runs.load_and_run.Goals as goal

pub returns-in-Ok-clause-ends : goal.returns-in-Ok-clause-ends
returns-in-Ok-clause-ends g c =
    let before = g.R.Records.faults c.args.batch.now in
    subst (λ (n : ℕ). MayEnd g.V.Device.faults g.G.Told.plan g.G.Told.draws (made g.G.Told.plan g.G.Told.draws c.args.turns.now) before n c.make_attempts-outcome.new.floor c.make_attempts-outcome.new.failures c.make_attempts-outcome.result)
    (sym c.in-Ok.ensures.ends.1) (c.make_attempts-outcome.ensures.ends before)

pub returns-in-Ok-clause-given : goal.returns-in-Ok-clause-given
returns-in-Ok-clause-given g c =
    let p = g.G.Told.plan in
    let ds = g.G.Told.draws in
    let hs = made p ds c.args.turns.now in
    let f = c.args.floor.now in
    let told = g.R.Records.told c.args.batch.now in
    let part = g.R.Records.part (g.R.Records.grounds c.args.batch.now) in
    let before = g.R.Records.heard c.args.batch.now in
    let after = g.R.Records.heard c.load.new.batch in
    let last = c.make_attempts-outcome.new.floor in
    let o = c.make_attempts-outcome.result in
    let has = subst (λ (q : Sizes). HasGiven q told part before after (true ≡ true) (TakesBatch f c.load.new.floor (Ok tt))) c.requires.new.stands.of.plan c.in-Ok.ensures.given in
    record {
      given = has.given;
      load = given_where p told part before after (true ≡ true) (last.history ≢ []) has.given (λ _. refl) has.load;
      became = shuffled_from p ds hs f.outer f.run c.load.new.floor last o has.given (ap (λ (x : Parts _). x.plan) c.load.ensures.floor ∙ c.requires.new.stands.of.plan)
          (ap (λ (x : Parts _). x.outer) c.load.ensures.floor) (ap (λ (x : Parts _). x.run) c.load.ensures.floor) c.make_attempts-outcome.ensures.origin
          (has.load.bytes ∙ ap (λ (n : ℕ). envelope_length p.form * first p n) (has.load.whole refl)) c.make_attempts-outcome.ensures.log has.became.input
          c.make_attempts-outcome.ensures.outputs c.make_attempts-outcome.ensures.input c.make_attempts-outcome.ensures.took (c.load.ensures.input c.requires.log) (c.make_attempts-outcome.ensures.failed (c.in-Ok.ensures.failed c.requires.log))
          c.make_attempts-outcome.ensures.reads
          (written_from p ds hs f.outer f.run c.load.new.floor last o has.given (ap (λ (x : Parts _). x.plan) c.load.ensures.floor ∙ c.requires.new.stands.of.plan)
          (ap (λ (x : Parts _). x.outer) c.load.ensures.floor) (ap (λ (x : Parts _). x.run) c.load.ensures.floor) c.make_attempts-outcome.ensures.origin
          (has.load.bytes ∙ ap (λ (n : ℕ). envelope_length p.form * first p n) (has.load.whole refl)) c.make_attempts-outcome.ensures.log has.became.input
          f tt has.became c.requires.log c.keeps_its_log.ensures
          (may_front g.V.Device.faults p ds hs 0 0 last c.make_attempts-outcome.new.failures o (c.make_attempts-outcome.ensures.ends 0)));
    }

pub returns-in-Err-clause-given : goal.returns-in-Err-clause-given
returns-in-Err-clause-given g c =
    let p = g.G.Told.plan in
    let ds = g.G.Told.draws in
    let f = c.args.floor.now in
    let told = g.R.Records.told c.args.batch.now in
    let part = g.R.Records.part (g.R.Records.grounds c.args.batch.now) in
    let before = g.R.Records.heard c.args.batch.now in
    let after = g.R.Records.heard c.load.new.batch in
    let has = subst (λ (q : Sizes). HasGiven q told part before after (false ≡ true) (TakesBatch {T = Unit {0}} f c.load.new.floor (Err c.in-Err.outcome))) c.requires.new.stands.of.plan c.in-Err.ensures.given in
    record {
      given = has.given;
      load = given_where p told part before after (false ≡ true) (c.load.new.floor.history ≢ []) has.given
          (λ some. absurd (some (ap (λ (x : Parts _). x.history) c.load.ensures.floor ∙ c.requires.new.history))) has.load;
      became = not_shuffled p ds (made p ds c.args.turns.now) f.outer f.run (c.load.new.floor.history ++ p.workers ∷ []) c.load.new.floor.recorder.log c.in-Err.outcome has.given c.in-Err.ensures.ends.2
          (subst (λ (q : Sizes). All (WritesInput q) c.load.new.floor.recorder.log) (ap (λ (x : Parts _). x.plan) c.load.ensures.floor ∙ c.requires.new.stands.of.plan) (c.load.ensures.input c.requires.log)) (c.in-Err.ensures.failed c.requires.log)
          (written_by c.load.new.floor.plan p c.load.new.floor.run f.run has.given c.load.new.floor.recorder.log (ap (λ (x : Parts _). x.plan) c.load.ensures.floor ∙ c.requires.new.stands.of.plan)
          (ap (λ (x : Parts _). x.run) c.load.ensures.floor) (has.became.written c.requires.log));
    }

pub load-requires-clause-new : goal.load-requires-clause-new
load-requires-clause-new g c =
    let new = c.requires.new in
    record {
      stands = new.stands;
      planned = new.planned;
      none_begun = ap (begun c.args.floor.now.plan.workers) new.history;
      room = let none = ap length new.history in let some = new.room in omega (arith, none, some);
      outcome = new.outcome;
      trace = new.trace;
      calm = new.calm;
    }

pub returns-in-Ok-clause-cut : goal.returns-in-Ok-clause-cut
returns-in-Ok-clause-cut g c = c.make_attempts-outcome.ensures.cut

pub returns-in-Err-clause-cut : goal.returns-in-Err-clause-cut
returns-in-Err-clause-cut g c =
    load_cut g.V.Device.faults g.G.Told.plan g.G.Told.draws (made g.G.Told.plan g.G.Told.draws c.args.turns.now) (g.R.Records.faults c.args.batch.now) (g.R.Records.faults c.load.new.batch) c.load.new.floor
    (ap (λ (x : Parts _). x.history) c.load.ensures.floor ∙ c.requires.new.history) c.in-Err.outcome c.in-Err.ensures.ends

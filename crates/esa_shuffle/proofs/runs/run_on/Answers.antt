-- The floor was given up as it had ended.
use Rattle.std.proofs.Common.{◌≡◌, ◌≢◌, ℕ, List, [], ◌∷◌, ◌++◌, sym, ap, ap₂, ◌∙◌, subst}
use Rattle.esa_device.specs.Recording.{Recorded}
use Rattle.esa_params.specs.Sizes.{Sizes}
use Rattle.esa_floor.specs.Parts.{Parts}
use Rattle.esa_floor.specs.declared.floor.Roots.{Roots}
use Rattle.esa_model.specs.Forecast.{made}
use Rattle.esa_spec.specs.Histories.{lists}
use Rattle.esa_shuffle.specs.Records.{IsShuffledFrom}
use Rattle.esa_shuffle.specs.Runs.{EndWithCut, lists_ended}
use Rattle.esa_shuffle.proofs.Ending.{ends_seen}
use Rattle.esa_shuffle.proofs.Loaded.{given_where}
use Rattle.esa_shuffle.proofs.runs.run_on.Goals as goal

pub returns-clause-ends : goal.returns-clause-ends
returns-clause-ends g c =
    let p = g.G.Told.plan in
    let ds = g.G.Told.draws in
    let done = c.load_and_run-outcome in
    ends_seen g.V.Device.faults ds (made p ds c.args.turns.now) (g.R.Records.faults c.args.batch.now) (g.R.Records.faults done.new.batch) done.new.floor done.new.failures p done.result
    c.args.floor.faults c.args.floor.run c.give-recorder.result.recorder c.give-recorder.result.history
    (ap (λ (r : Roots). r.faults) done.ensures.origin) (ap (λ (r : Roots). r.run) done.ensures.origin)
    (ap (λ x. x.recorder) c.give-recorder.ensures ∙ ap (λ (x : Parts _). x.recorder) c.end.ensures.ended)
    (ap (λ x. x.history) c.give-recorder.ensures ∙ ap (λ (x : Parts _). x.history) c.end.ensures.ended)
    done.ensures.ends

pub returns-clause-given : goal.returns-clause-given
returns-clause-given g c =
    let p = g.G.Told.plan in
    let ds = g.G.Told.draws in
    let hs = made p ds c.args.turns.now in
    let done = c.load_and_run-outcome in
    let recorder = ap (λ x. x.recorder) c.give-recorder.ensures ∙ ap (λ (x : Parts _). x.recorder) c.end.ensures.ended in
    let history : c.give-recorder.result.history ≡ done.new.floor.history ++ p.workers ∷ [] =
    ap (λ x. x.history) c.give-recorder.ensures ∙ ap (λ (x : Parts _). x.history) c.end.ensures.ended
    ∙ ap (λ (q : Sizes). done.new.floor.history ++ q.workers ∷ []) done.ensures.ends.stands.of.plan in
    let has = done.ensures.given in
    record {
      given = has.given;
      load = given_where p (g.R.Records.told c.args.batch.now) (g.R.Records.part (g.R.Records.grounds c.args.batch.now)) (g.R.Records.heard c.args.batch.now) (g.R.Records.heard done.new.batch)
          (done.new.floor.history ≢ []) (c.give-recorder.result.history ≢ p.workers ∷ []) has.given
          (λ more none. more
          (ap (λ x. x.history) c.give-recorder.ensures ∙ ap (λ (x : Parts _). x.history) c.end.ensures.ended
          ∙ ap₂ (λ (h : List ℕ) (q : Sizes). h ++ q.workers ∷ []) none done.ensures.ends.stands.of.plan))
          has.load;
      became = subst (λ (h : List ℕ). IsShuffledFrom p ds hs c.args.floor.outer c.args.floor.run h c.give-recorder.result.recorder.log done.result has.given) (sym history)
          (subst (λ (r : Recorded _). IsShuffledFrom p ds hs c.args.floor.outer c.args.floor.run (done.new.floor.history ++ p.workers ∷ []) r.log done.result has.given) (sym recorder) has.became);
    }

pub returns-clause-cut : goal.returns-clause-cut
returns-clause-cut g c =
    let p = g.G.Told.plan in
    let hs = made p g.G.Told.draws c.args.turns.now in
    let done = c.load_and_run-outcome in
    let recorder = ap (λ x. x.recorder) c.give-recorder.ensures ∙ ap (λ (x : Parts _). x.recorder) c.end.ensures.ended in
    let history : c.give-recorder.result.history ≡ done.new.floor.history ++ p.workers ∷ [] =
    ap (λ x. x.history) c.give-recorder.ensures ∙ ap (λ (x : Parts _). x.history) c.end.ensures.ended
    ∙ ap (λ (q : Sizes). done.new.floor.history ++ q.workers ∷ []) done.ensures.ends.stands.of.plan in
    subst (λ (h : List ℕ). EndWithCut p (lists p.workers h) hs c.give-recorder.result.recorder.trace done.result) (sym history)
    (subst (λ (r : Recorded _). EndWithCut p (lists_ended p done.new.floor) hs r.trace done.result) (sym recorder) done.ensures.cut)

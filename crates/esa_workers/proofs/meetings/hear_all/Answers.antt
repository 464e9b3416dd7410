-- One pass more was heard.
use Rattle.std.proofs.Common.{ℕ, ◌<◌, length, get_or, sym, ap, ◌∙◌, subst, inl, inr, arith}
use Rattle.std.proofs.lemmas.Bool.{cases_eq}
use Rattle.std.proofs.lemmas.List.{get_or_default}
use Rattle.esa_workers.specs.Meetings.{Knows}
use Rattle.esa_workers.proofs.Eaching.{put_back}
use Rattle.esa_workers.proofs.Meeting.{as_before, knows_from, knows_old, knows_on, met_before}
use Rattle.esa_workers.proofs.meetings.hear_all.Goals as goal

pub loop-post-preserved : goal.loop-post-preserved
loop-post-preserved g c =
    let inv = c.loop-post.invariant in
    let t = c.args.turnstile.now in
    let n = c.loop-post.post-index in
    let now = c.loop-post.posts in
    let met = c.hear.ensures.met in
    let before = c.loop-post.into in
    let after = c.hear.new.into in
    let put = put_back now n _ c.hear.new.post c.hear.ensures.same in
    record {
      same = put ∙ inv.same;
      pass = met.pass;
      outside = met.outside;
      counts = as_before c.args.into.now before after inv.counts (met_before t _ before after met);
      before = knows_on c.args.into.now before after inv.before (knows_old t _ before after met);
      heard = λ k d within.
          subst (λ ps. Knows after (get_or ps k d).pass) (sym put)
          (elim (cases_eq k n) [
            | inl same ↦
                let test = c.loop-post-test.true in
                let long = ap length inv.same in
                let inside : n < length now = omega (arith, long, test) in
                subst (λ (k : ℕ). Knows after (get_or now k d).pass) (sym same)
                (subst (λ p. Knows after p.pass) (get_or_default now n _ d inside) (knows_from t _ before after met))
            | inr other ↦ knows_on (get_or now k d).pass before after (inv.heard k d (let apart = other in omega (arith, within, apart))) (knows_old t _ before after met)
          ]);
    }

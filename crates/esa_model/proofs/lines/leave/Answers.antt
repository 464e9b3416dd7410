use Rattle.std.proofs.Common.{◌≡◌, ℕ, ◌+◌, ◌≤◌, length, get_or, set, ap, ◌∙◌, arith, inl, inr, get_or-set_other, get_or-set_same, add-one}
use Rattle.std.specs.Prelude.{sum_by}
use Rattle.std.proofs.lemmas.Bool.{cases_eq}
use Rattle.esa_params.specs.Sizes.{below}
use Rattle.esa_laws.proofs.Ranges.{sum-below-suc}
use Rattle.esa_model.specs.Passed.{staying}
use Rattle.esa_model.proofs.lines.leave.Goals as goal

pub loop-target-preserved : goal.loop-target-preserved
loop-target-preserved c =
    let t = c.loop-target.target in
    let gone = c.loop-target.gone in
    let before = c.args.gone.now in
    let arrived = c.args.arrived.now in
    let inv = c.loop-target.invariant in
    let wrote = get_or gone t 0 + c.min-leaving.result in
    let same : get_or gone t 0 ≡ get_or before t 0 = inv.others t (omega arith) in
    let long : length gone ≡ length before = c.loop-target.auto.gone in
    let fewer : get_or before t 0 ≤ get_or arrived t 0 = c.requires.few t (omega arith) in
    let here = get_or-set_same gone t wrote 0 (omega arith) in
    let more : sum_by (staying c.args.c arrived before) (below (t + 1)) ≡ sum_by (staying c.args.c arrived before) (below t) + staying c.args.c arrived before t =
    ap (λ (n : ℕ). sum_by (staying c.args.c arrived before) (below n)) (add-one t) ∙ sum-below-suc (staying c.args.c arrived before) t in
    record {
      done = λ i i_in.
          elim (cases_eq i t) [
            | inl is ↦ ap (λ (j : ℕ). get_or (set gone t wrote) j 0) is ∙ here ∙ omega (arith, ap (λ (j : ℕ). get_or before j 0) is, ap (λ (j : ℕ). get_or arrived j 0) is)
            | inr other ↦ get_or-set_other gone t i wrote 0 other ∙ inv.done i (omega arith)
          ];
      others = λ i i_in. get_or-set_other gone t i wrote 0 (λ (is : i ≡ t). absurd (omega arith)) ∙ inv.others i (omega arith);
      total = omega arith;
      small = omega arith;
    }

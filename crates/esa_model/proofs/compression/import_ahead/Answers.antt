use Rattle.std.proofs.Common.{◌≡◌, ℕ, suc, ◌+◌, ◌-◌, ◌*◌, ◌≤◌, [], ◌∷◌, map, ◌∙◌, subst, arith}
use Rattle.std.specs.Prelude.{min}
use Rattle.std.specs.List.{range_with_len}
use Rattle.std.proofs.Math.Nat.{mul-le-mul_right}
use Rattle.esa_spec.specs.Verdicts.{Import, imported}
use Rattle.esa_spec.specs.declared.event.Verdict.TheVariants.{Good}
use Rattle.esa_model.specs.Walked.{AreMade, Grows}
use Rattle.esa_model.proofs.StepLemmas.{bad-is, made-import, made-imports_bad}
use Rattle.esa_laws.proofs.LengthLaws.{imported-rises}
use Rattle.esa_model.proofs.compression.import_ahead.Goals as goal

pub returns-in_default : goal.returns-in_default
returns-in_default c =
    let p = c.args.plan.now in
    let from = c.args.window.now.imported in
    let n = c.loop-ahead._ahead - from in
    let inv = c.loop-ahead.invariant in
    let last : min (c.args.output + p.w) p.b ≡ c.min-end.result = omega (arith, c.min-end.ensures, c.w.ensures.value, c.b.ensures.value) in
    let within : suc n ≤ imported p (suc c.args.output) - from = omega (arith, inv.from, c.loop-ahead-test.true, last) in
    let bad = bad-is c.import.result (λ good. c.in_default.not-Good good) in
    let next : c.loop-ahead.window.imported ≡ from + n = omega (arith, inv.imported, inv.from) in
    let product = mul-le-mul_right {m = suc n} {n = imported p (suc c.args.output) - from} (p.b + 1) within in
    let one_more : suc n * (p.b + 1) ≡ n * (p.b + 1) + (p.b + 1) = omega arith in
    let started = c.requires.imported in
    record {
      within = c.import.ensures.within;
      imported = λ good. absurd (c.in_default.not-Good good);
      reached = λ good. absurd (c.in_default.not-Good good);
      made = λ d arrived reached.
          subst (λ (s : ℕ). AreMade p d c.args.attempt (map (Import c.args.output) (range_with_len s (imported p (suc c.args.output) - s))) c.import.result c.args.trace.now c.import.new.trace) started
          (made-imports_bad p d c.args.attempt c.args.output from (suc n) (imported p (suc c.args.output) - from) c.import.result c.args.trace.now c.import.new.trace within bad
          (made-import p d c.args.attempt c.args.output from n c.import.result c.args.trace.now c.loop-ahead.trace c.import.new.trace (inv.made d arrived reached)
          (subst (λ (i : ℕ). AreMade p d c.args.attempt (Import c.args.output i ∷ []) c.import.result c.loop-ahead.trace c.import.new.trace) next
          (c.import.ensures.made d arrived (inv.reached d arrived reached)))));
      grows =
          subst (λ (s : ℕ). Grows c.args.trace.now c.import.new.trace ((imported p (suc c.args.output) - s) * (p.b + 1))) started
          record {
            room = c.import.ensures.grows.room ∙ inv.grows.room;
            few = omega (arith, c.import.ensures.grows.few, inv.grows.few, product, one_more);
          };
    }

pub loop-ahead-preserved : goal.loop-ahead-preserved
loop-ahead-preserved c =
    let p = c.args.plan.now in
    let from = c.args.window.now.imported in
    let n = c.loop-ahead._ahead - from in
    let inv = c.loop-ahead.invariant in
    let next : c.loop-ahead.window.imported ≡ from + n = omega (arith, inv.imported, inv.from) in
    let more : suc n ≡ c.loop-ahead._ahead + 1 - from = omega (arith, inv.from) in
    let one_more : suc n * (p.b + 1) ≡ n * (p.b + 1) + (p.b + 1) = omega arith in
    record {
      within = c.import.ensures.within;
      from = omega (arith, inv.from);
      imported = c.import.ensures.imported ∙ omega (arith, inv.imported);
      reached = λ d arrived reached. c.import.ensures.reached d arrived (inv.reached d arrived reached);
      made = λ d arrived reached.
          subst (λ (m : ℕ). AreMade p d c.args.attempt (map (Import c.args.output) (range_with_len from m)) Good c.args.trace.now c.import.new.trace) more
          (made-import p d c.args.attempt c.args.output from n Good c.args.trace.now c.loop-ahead.trace c.import.new.trace (inv.made d arrived reached)
          (subst (λ (i : ℕ). AreMade p d c.args.attempt (Import c.args.output i ∷ []) Good c.loop-ahead.trace c.import.new.trace) next
          (c.in-Good.ensures.made d arrived (inv.reached d arrived reached))));
      grows =
          subst (λ (m : ℕ). Grows c.args.trace.now c.import.new.trace (m * (p.b + 1))) more
          record {
            room = c.import.ensures.grows.room ∙ inv.grows.room;
            few = omega (arith, c.import.ensures.grows.few, inv.grows.few, one_more);
          };
    }

pub returns-clause-made : goal.returns-clause-made
returns-clause-made c d arrived reached =
    let p = c.args.plan.now in
    let from = c.args.window.now.imported in
    let inv = c.loop-ahead.invariant in
    let last : min (c.args.output + p.w) p.b ≡ c.min-end.result = omega (arith, c.min-end.ensures, c.w.ensures.value, c.b.ensures.value) in
    let rises : from ≤ c.min-end.result = omega (arith, imported-rises p c.args.output, c.requires.imported, last) in
    let whole : c.loop-ahead._ahead - from ≡ imported p (suc c.args.output) - from = omega (arith, rises, c.loop-ahead-test.false, last, inv.from, c.loop-ahead.auto._ahead-end) in
    subst (λ (s : ℕ). AreMade p d c.args.attempt (map (Import c.args.output) (range_with_len s (imported p (suc c.args.output) - s))) Good c.args.trace.now c.loop-ahead.trace) c.requires.imported
    (subst (λ (m : ℕ). AreMade p d c.args.attempt (map (Import c.args.output) (range_with_len from m)) Good c.args.trace.now c.loop-ahead.trace) whole (inv.made d arrived reached))

use Rattle.std.proofs.Common.{◌≡◌, ℕ, suc, ◌+◌, ◌-◌, ◌*◌, ◌<◌, ◌≤◌, refl, ap, sym, ◌∙◌, subst, arith, add-one}
use Rattle.std.specs.List.{flat_map}
use Rattle.std.proofs.Math.Nat.{add-mul, mul-le-mul_right}
use Rattle.esa_params.specs.Sizes.{below}
use Rattle.esa_laws.proofs.WalkLaws.{reached-zero}
use Rattle.esa_spec.specs.Verdicts.{imported, steps_of}
use Rattle.esa_spec.specs.declared.event.Verdict.TheVariants.{Good}
use Rattle.esa_model.specs.Walked.{AreMade}
use Rattle.esa_model.proofs.StepLemmas.{bad-is, made-none, made-output, made-outputs_bad}
use Rattle.esa_laws.proofs.LengthLaws.{imported-few, imported-rises}
use Rattle.esa_model.proofs.compression.compress.Goals as goal

pub loop-output-init : goal.loop-output-init
loop-output-init c = record {
  within = record { imported = omega arith; reached = omega arith };
  imported_so_far = refl;
  reached = λ d arrived. sym (reached-zero c.args.plan.now d);
  made = λ d arrived. made-none c.args.plan.now d c.args.attempt c.args.trace.now;
  grows = record { room = refl; few = omega arith };
}

pub put_out-requires-clause-room : goal.put_out-requires-clause-room
put_out-requires-clause-room c =
    let p = c.args.plan.now in
    let j = c.loop-output.output in
    let inv = c.loop-output.invariant in
    let k = imported p j in
    let m = imported p (suc j) - k in
    let rises = imported-rises p j in
    let within : k + m ≤ p.b = omega (arith, rises, imported-few p (suc j)) in
    let both = add-mul k m (p.b + 1) in
    let all = mul-le-mul_right {m = k + m} {n = p.b} (p.b + 1) within in
    let inside : j < p.b = omega (arith, c.loop-output-test.true, c.b-output-end.ensures.value) in
    omega (arith, inv.grows.room, inv.grows.few, both, all, inside, c.requires.room)

pub returns-in_default : goal.returns-in_default
returns-in_default c =
    let p = c.args.plan.now in
    let j = c.loop-output.output in
    let inv = c.loop-output.invariant in
    let inside : j + 1 ≤ p.b = omega (arith, c.loop-output-test.true, c.b-output-end.ensures.value) in
    let bad = bad-is c.put_out.result (λ good. c.in_default.not-Good good) in
    record {
      made = λ d arrived.
          made-outputs_bad p d c.args.attempt (j + 1) p.b c.put_out.result c.args.trace.now c.put_out.new.trace inside bad
          (made-output p d c.args.attempt j c.put_out.result c.args.trace.now c.loop-output.trace c.put_out.new.trace (inv.made d arrived)
          (c.put_out.ensures.made d arrived (inv.reached d arrived)));
    }

pub loop-output-preserved : goal.loop-output-preserved
loop-output-preserved c =
    let p = c.args.plan.now in
    let j = c.loop-output.output in
    let inv = c.loop-output.invariant in
    let k = imported p j in
    let m = imported p (suc j) - k in
    let rises = imported-rises p j in
    let both = add-mul k m (p.b + 1) in
    let sum : k + m ≡ imported p (j + 1) = omega (arith, rises, ap (imported p) (add-one j)) in
    let product = ap (λ (n : ℕ). n * (p.b + 1)) sum in
    record {
      within = c.put_out.ensures.within;
      imported_so_far = c.in-Good.ensures.imported refl ∙ ap (imported p) (sym (add-one j));
      reached = λ d arrived. c.in-Good.ensures.reached refl d arrived (inv.reached d arrived);
      made = λ d arrived.
          made-output p d c.args.attempt j Good c.args.trace.now c.loop-output.trace c.put_out.new.trace (inv.made d arrived)
          (c.in-Good.ensures.made d arrived (inv.reached d arrived));
      grows = record {
        room = c.put_out.ensures.grows.room ∙ inv.grows.room;
        few = omega (arith, c.put_out.ensures.grows.few, inv.grows.few, both, product);
      };
    }

pub returns : goal.returns
returns c =
    let p = c.args.plan.now in
    let last : c.loop-output.output ≡ p.b = omega (arith, c.loop-output-test.false, c.b-output-end.ensures.value, c.loop-output.auto.output-end) in
    record {
      made = λ d arrived.
          subst (λ (n : ℕ). AreMade p d c.args.attempt (flat_map (steps_of p) (below n)) Good c.args.trace.now c.loop-output.trace) last
          (c.loop-output.invariant.made d arrived);
    }

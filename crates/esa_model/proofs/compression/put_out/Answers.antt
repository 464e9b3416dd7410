use Rattle.std.proofs.Common.{suc, ◌-◌, [], ◌∷◌, map, refl, arith}
use Rattle.std.specs.List.{range_with_len}
use Rattle.esa_spec.specs.Verdicts.{Import, Put, imported}
use Rattle.esa_model.proofs.StepLemmas.{bad-is, made-more, made-bad}
use Rattle.esa_model.proofs.compression.put_out.Goals as goal

pub returns-in-Good-clause-made : goal.returns-in-Good-clause-made
returns-in-Good-clause-made c d arrived reached =
    let p = c.args.plan.now in
    made-more p d c.args.attempt (map (Import c.args.output) (range_with_len (imported p c.args.output) (imported p (suc c.args.output) - imported p c.args.output))) (Put c.args.output ∷ [])
    c.put.result c.args.trace.now c.import_ahead.new.trace c.put.new.trace
    (c.in-Good.ensures.made d arrived reached) (c.put.ensures.made d (c.in-Good.ensures.reached refl d arrived reached))

pub returns-in_default : goal.returns-in_default
returns-in_default c =
    let p = c.args.plan.now in
    let bad = bad-is c.import_ahead.result (λ good. c.in_default.not-Good good) in
    record {
      within = c.import_ahead.ensures.within;
      imported = λ good. absurd (c.in_default.not-Good good);
      reached = λ good. absurd (c.in_default.not-Good good);
      made = λ d arrived reached.
          made-bad p d c.args.attempt (map (Import c.args.output) (range_with_len (imported p c.args.output) (imported p (suc c.args.output) - imported p c.args.output))) (Put c.args.output ∷ [])
          c.import_ahead.result c.args.trace.now c.import_ahead.new.trace bad (c.import_ahead.ensures.made d arrived reached);
      grows = record { room = c.import_ahead.ensures.grows.room; few = omega (arith, c.import_ahead.ensures.grows.few) };
    }

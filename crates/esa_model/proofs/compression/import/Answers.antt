use Rattle.std.proofs.Common.{rules, ◌+◌, ◌<◌, ◌≤◌, Bool, cond, length, ap, sym, ◌∙◌, arith, length-append}
use Rattle.std.proofs.lemmas.Bool.{lt-ltb, le-ltb}
use Rattle.esa_params.specs.Sizes.{first}
use Rattle.esa_laws.proofs.WalkLaws.{reached-more}
use Rattle.esa_spec.specs.Traces.{import_reads}
use Rattle.esa_spec.specs.Verdicts.{Import, reached}
use Rattle.esa_spec.specs.declared.event.Verdict.TheVariants.{Good, QueueOverflow}
use Rattle.esa_model.specs.Recorded.{Recorded}
use Rattle.esa_laws.proofs.LengthLaws.{length-import}
use Rattle.esa_model.proofs.StepLemmas.{made-one}
use Rattle.esa_model.proofs.compression.import.Goals as goal

pub overflow_add-window : goal.overflow_add-window
overflow_add-window c =
    let fits : c.args.window.now.imported + 1 < 4294967296 = omega (arith, c.requires.left, c.requires.planned.parameters.b_greatest) in
    search rules

pub returns-then-from-window-clause-reached : goal.returns-then-from-window-clause-reached
returns-then-from-window-clause-reached c d arrived is =
    omega (arith, reached-more c.args.plan.now d c.args.window.now.imported, arrived c.args.window.now.imported c.requires.left, is)

pub returns-else-from-window-clause-reached : goal.returns-else-from-window-clause-reached
returns-else-from-window-clause-reached c d arrived is =
    omega (arith, reached-more c.args.plan.now d c.args.window.now.imported, arrived c.args.window.now.imported c.requires.left, is)

pub returns-then-from-window-clause-made : goal.returns-then-from-window-clause-made
returns-then-from-window-clause-made c d arrived is =
    let p = c.args.plan.now in
    let i = c.args.window.now.imported in
    let over : first p c.args.output + p.q < reached p d (i + 1) =
    omega (arith, reached-more p d i, arrived i c.requires.left, is, c.if-from-window.true, c.q.ensures.value) in
    made-one p d c.args.attempt (Import c.args.output i) (QueueOverflow i) c.args.trace.now c.read_import.new.trace
    (sym (ap (λ (b : Bool). cond b (QueueOverflow i) Good) (lt-ltb (first p c.args.output + p.q) (reached p d (i + 1)) over)))
    c.read_import.ensures

pub returns-else-from-window-clause-made : goal.returns-else-from-window-clause-made
returns-else-from-window-clause-made c d arrived is =
    let p = c.args.plan.now in
    let i = c.args.window.now.imported in
    let fits : reached p d (i + 1) ≤ first p c.args.output + p.q =
    omega (arith, reached-more p d i, arrived i c.requires.left, is, c.if-from-window.false, c.q.ensures.value) in
    made-one p d c.args.attempt (Import c.args.output i) Good c.args.trace.now c.read_import.new.trace
    (sym (ap (λ (b : Bool). cond b (QueueOverflow i) Good) (le-ltb (first p c.args.output + p.q) (reached p d (i + 1)) fits)))
    c.read_import.ensures

pub returns-then-from-window-clause-grows : goal.returns-then-from-window-clause-grows
returns-then-from-window-clause-grows c =
    let reads = import_reads c.args.plan.now c.args.attempt c.args.window.now.imported in
    let long = ap (λ (r : Recorded). length r.accesses) c.read_import.ensures ∙ length-append c.args.trace.now.accesses reads in
    record { room = ap (λ (r : Recorded). r.room) c.read_import.ensures; few = omega (arith, long, length-import c.args.plan.now c.args.attempt c.args.window.now.imported) }

pub returns-else-from-window-clause-grows : goal.returns-else-from-window-clause-grows
returns-else-from-window-clause-grows c =
    let reads = import_reads c.args.plan.now c.args.attempt c.args.window.now.imported in
    let long = ap (λ (r : Recorded). length r.accesses) c.read_import.ensures ∙ length-append c.args.trace.now.accesses reads in
    record { room = ap (λ (r : Recorded). r.room) c.read_import.ensures; few = omega (arith, long, length-import c.args.plan.now c.args.attempt c.args.window.now.imported) }

use Rattle.std.proofs.Common.{◌≡◌, ◌+◌, ◌-◌, ◌*◌, ◌≤◌, ℕ, suc, [], ◌∷◌, Ok, Err, map, refl, sym, ap, ◌∙◌, subst, arith}
use Rattle.std.specs.List.{range_with_len}
use Rattle.std.proofs.Math.Nat.{mul-le-mul_right}
use Rattle.esa_compress.proofs.ImportLaws.{climbs}
use Rattle.esa_floor.specs.Parts.{Parts}
use Rattle.esa_floor.specs.Standing.{turns_made}
use Rattle.esa_floor.specs.Written.{attempt_turns}
use Rattle.esa_params.specs.Sizes.{Sizes, first}
use Rattle.esa_spec.specs.Turns.{order}
use Rattle.esa_spec.specs.Verdicts.{Import, reached}
use Rattle.esa_press.specs.Pressed.{Pressed}
use Rattle.esa_press.specs.Stepped.{AreMade}
use Rattle.esa_press.proofs.Stepping.{made_import, made_imports_bad, made_none, still_at}
use Rattle.esa_press.proofs.Storing.{holds_read, reads_then, stops_too}
use Rattle.esa_press.proofs.Fetching.{faithful_before, reads_none}
use Rattle.esa_press.specs.Contents.{KeepsWaiting, waiting_items}
use Rattle.esa_press.proofs.press.Press.import_ahead.Goals as goal

pub import_target-requires-clause-at : goal.import_target-requires-clause-at
import_target-requires-clause-at g c =
    let inv = c.loop-target.invariant in
    let f = c.args.floor.now in
    let d = g.G.Told.draws c.args.attempt in
    let n = c.loop-target.target - c.args.from in
    let here : c.args.from + n ≡ c.loop-target.target = omega (arith, inv.from) in
    let at = c.requires.at in
    let rises = climbs f.plan d (turns_made f) at.counted.drawn at.counted.all at.counted.fits c.args.from n (omega (arith, inv.from, c.loop-target-test.true, c.requires.end)) in
    still_at (g.C.Coins.plan c.args.coins.now) d c.args.attempt c.args.output c.loop-target.target f c.loop-target.floor c.args.self.now c.loop-target.self inv.floor inv.others inv.ready
    at.plan at.run at.coins at.attempt at.ready at.counted (omega (arith, rises, at.put, ap (reached f.plan d) here)) inv.waits

pub import_target-requires-clause-target : goal.import_target-requires-clause-target
import_target-requires-clause-target g c =
    let same : c.loop-target.floor.plan.b ≡ c.args.floor.now.plan.b = ap (λ (f : Parts _). f.plan.b) c.loop-target.invariant.floor in
    omega (arith, same, c.requires.end, c.loop-target-test.true)

pub import_target-requires-clause-room : goal.import_target-requires-clause-room
import_target-requires-clause-room g c =
    let inv = c.loop-target.invariant in
    let b = c.args.floor.now.plan.b in
    let n = c.loop-target.target - c.args.from in
    let same : c.loop-target.floor.plan.b ≡ b = ap (λ (f : Parts _). f.plan.b) inv.floor in
    let within : suc n ≤ c.args.end - c.args.from = omega (arith, inv.from, c.loop-target-test.true) in
    let product = mul-le-mul_right {m = suc n} {n = c.args.end - c.args.from} (b + 1) within in
    let one_more : suc n * (b + 1) ≡ n * (b + 1) + (b + 1) = omega arith in
    omega (arith, same, inv.used, c.requires.room, product, one_more)

pub loop-target-init : goal.loop-target-init
loop-target-init g c =
    let f = c.args.floor.now in
    let d = g.G.Told.draws c.args.attempt in
    let none : c.args.from - c.args.from ≡ 0 = omega arith in
    record {
      from = omega arith;
      floor = refl;
      others = refl;
      ready = refl;
      total = refl;
      used = omega arith;
      waits = c.requires.at.waits;
      made = subst (λ (n : ℕ). AreMade {T = Unit {0}} g.V.Device.faults f.plan f.run d (order f.plan.b (turns_made f)) c.args.attempt (map (Import c.args.output) (range_with_len c.args.from n)) f.recorder f.recorder (Ok tt))
          (sym none) (made_none g.V.Device.faults f.plan f.run d c.args.attempt (order f.plan.b (turns_made f)) f.recorder tt);
      log = reads_none f.recorder.log;
      failed = λ none. none;
      reads = λ made gave. gave;
      keeps = λ record_of planned orders holds faithful waits. waits;
    }

pub returns-in-Err-clause-log : goal.returns-in-Err-clause-log
returns-in-Err-clause-log g c =
    reads_then c.args.floor.now.recorder.log c.loop-target.floor.recorder.log c.import_target.new.floor.recorder.log c.loop-target.invariant.log c.import_target.ensures.log

pub returns-in-Err-clause-failed : goal.returns-in-Err-clause-failed
returns-in-Err-clause-failed g c = λ none. c.in-Err.ensures.failed (c.loop-target.invariant.failed none)

pub returns-clause-failed : goal.returns-clause-failed
returns-clause-failed g c = c.loop-target.invariant.failed

pub returns-in-Err-clause-keeps : goal.returns-in-Err-clause-keeps
returns-in-Err-clause-keeps g c = λ record_of planned orders holds faithful waits.
    let inv = c.loop-target.invariant in
    let f = c.args.floor.now in
    let a = c.args.attempt in
    let d = g.G.Told.draws a in
    let h = turns_made f in
    let t = c.loop-target.target in
    let old = c.loop-target.floor.recorder.log in
    let new = c.import_target.new.floor.recorder.log in
    let lists = g.C.Coins.order_list c.args.coins.now a in
    let here : KeepsWaiting {T = Unit {0}} f.plan f.run d h a lists record_of c.args.output t (t + 1) old new c.loop-target.self.queue c.import_target.new.self.queue (Err c.in-Err.halt) =
    subst (λ (x : Parts _). KeepsWaiting {T = Unit {0}} x.plan x.run d (turns_made x) a lists record_of c.args.output t (t + 1) old new c.loop-target.self.queue c.import_target.new.self.queue (Err c.in-Err.halt))
    inv.floor (c.in-Err.ensures.keeps record_of) in
    stops_too _ _ _ c.in-Err.halt
    (here planned orders (holds_read f.plan f.run d h a record_of f.recorder.log old inv.log holds) faithful
    (inv.keeps record_of planned orders holds (faithful_before f.plan old new c.import_target.ensures.log faithful) waits))

pub returns-clause-keeps : goal.returns-clause-keeps
returns-clause-keeps g c = λ record_of planned orders holds faithful waits.
    let f = c.args.floor.now in
    let last : c.loop-target.target ≡ c.args.end = omega (arith, c.loop-target-test.false, c.loop-target.auto.target-end) in
    c.loop-target.invariant.keeps record_of planned orders holds faithful waits
    ∙ ap (waiting_items f.plan (g.G.Told.draws c.args.attempt) (turns_made f) record_of c.args.output) last

pub returns-in-Err-clause-made : goal.returns-in-Err-clause-made
returns-in-Err-clause-made g c =
    let inv = c.loop-target.invariant in
    let f = c.args.floor.now in
    let d = g.G.Told.draws c.args.attempt in
    let o = order f.plan.b (turns_made f) in
    let t = c.loop-target.target in
    let n = t - c.args.from in
    let here : t ≡ c.args.from + n = omega (arith, inv.from) in
    let old = c.loop-target.floor.recorder in
    let new = c.import_target.new.floor.recorder in
    made_imports_bad g.V.Device.faults f.plan f.run d o c.args.attempt c.args.output c.args.from (suc n) (c.args.end - c.args.from) f.recorder new c.in-Err.halt
    (omega (arith, inv.from, c.loop-target-test.true))
    (made_import g.V.Device.faults f.plan f.run d o c.args.attempt c.args.output c.args.from n f.recorder old new tt (Err c.in-Err.halt) inv.made
    (subst (λ (i : ℕ). AreMade {T = Unit {0}} g.V.Device.faults f.plan f.run d o c.args.attempt (Import c.args.output i ∷ []) old new (Err c.in-Err.halt)) here
    (subst (λ (x : Parts _). AreMade {T = Unit {0}} g.V.Device.faults x.plan x.run d (order x.plan.b (turns_made x)) c.args.attempt (Import c.args.output t ∷ []) old new (Err c.in-Err.halt)) inv.floor
    c.in-Err.ensures.made)))

pub loop-target-preserved : goal.loop-target-preserved
loop-target-preserved g c =
    let inv = c.loop-target.invariant in
    let f = c.args.floor.now in
    let d = g.G.Told.draws c.args.attempt in
    let o = order f.plan.b (turns_made f) in
    let t = c.loop-target.target in
    let n = t - c.args.from in
    let here : t ≡ c.args.from + n = omega (arith, inv.from) in
    let more : suc n ≡ t + 1 - c.args.from = omega (arith, inv.from) in
    let old = c.loop-target.floor.recorder in
    let new = c.import_target.new.floor.recorder in
    let same : c.loop-target.floor.plan.b ≡ f.plan.b = ap (λ (f : Parts _). f.plan.b) inv.floor in
    let one_more : suc n * (f.plan.b + 1) ≡ n * (f.plan.b + 1) + (f.plan.b + 1) = omega arith in
    let product = ap (λ (m : ℕ). m * (f.plan.b + 1)) more in
    let a = c.args.attempt in
    let h = turns_made f in
    let lists = g.C.Coins.order_list c.args.coins.now a in
    record {
      from = omega (arith, inv.from);
      floor = c.import_target.ensures.floor ∙ ap (λ (x : Parts _). record x { recorder = new }) inv.floor;
      others = c.import_target.ensures.others ∙ ap (λ (w : Pressed). record w { queue = c.import_target.new.self.queue; counts = c.import_target.new.self.counts }) inv.others;
      ready = c.import_target.ensures.ready ∙ inv.ready;
      total = c.import_target.ensures.total ∙ inv.total;
      used = omega (arith, c.import_target.ensures.used, inv.used, same, one_more, product);
      waits = c.in_default.ensures.waits ∙ ap (λ (q : Sizes). reached q d (t + 1) - first q c.args.output) (ap (λ (f : Parts _). f.plan) inv.floor);
      made =
          subst (λ (m : ℕ). AreMade {T = Unit {0}} g.V.Device.faults f.plan f.run d o c.args.attempt (map (Import c.args.output) (range_with_len c.args.from m)) f.recorder new (Ok tt)) more
          (made_import g.V.Device.faults f.plan f.run d o c.args.attempt c.args.output c.args.from n f.recorder old new tt (Ok tt) inv.made
          (subst (λ (i : ℕ). AreMade {T = Unit {0}} g.V.Device.faults f.plan f.run d o c.args.attempt (Import c.args.output i ∷ []) old new (Ok tt)) here
          (subst (λ (x : Parts _). AreMade {T = Unit {0}} g.V.Device.faults x.plan x.run d (order x.plan.b (turns_made x)) c.args.attempt (Import c.args.output t ∷ []) old new (Ok tt)) inv.floor
          c.in_default.ensures.made)));
      log = reads_then f.recorder.log old.log new.log inv.log c.import_target.ensures.log;
      failed = λ none. c.in_default.ensures.failed (inv.failed none);
      reads = λ made gave. c.in_default.ensures.reads (subst (λ (x : Parts _). attempt_turns x a ≡ turns_made x) (sym inv.floor) made) (inv.reads made gave);
      keeps = λ record_of planned orders holds faithful waits.
          let one : KeepsWaiting {T = Unit {0}} f.plan f.run d h a lists record_of c.args.output t (t + 1) old.log new.log c.loop-target.self.queue c.import_target.new.self.queue (Ok tt) =
          subst (λ (x : Parts _). KeepsWaiting {T = Unit {0}} x.plan x.run d (turns_made x) a lists record_of c.args.output t (t + 1) old.log new.log c.loop-target.self.queue c.import_target.new.self.queue (Ok tt))
          inv.floor (c.in_default.ensures.keeps record_of) in
          one planned orders (holds_read f.plan f.run d h a record_of f.recorder.log old.log inv.log holds) faithful
          (inv.keeps record_of planned orders holds (faithful_before f.plan old.log new.log c.import_target.ensures.log faithful) waits);
    }

pub returns-clause-made : goal.returns-clause-made
returns-clause-made g c =
    let f = c.args.floor.now in
    let d = g.G.Told.draws c.args.attempt in
    let whole : c.loop-target.target - c.args.from ≡ c.args.end - c.args.from = omega (arith, c.loop-target-test.false, c.loop-target.auto.target-end, c.requires.from) in
    subst (λ (m : ℕ). AreMade {T = Unit {0}} g.V.Device.faults f.plan f.run d (order f.plan.b (turns_made f)) c.args.attempt (map (Import c.args.output) (range_with_len c.args.from m)) f.recorder c.loop-target.floor.recorder (Ok tt))
    whole c.loop-target.invariant.made

pub returns-in-Err-clause-reads : goal.returns-in-Err-clause-reads
returns-in-Err-clause-reads g c = λ made gave.
    let inv = c.loop-target.invariant in
    c.in-Err.ensures.reads (subst (λ (x : Parts _). attempt_turns x c.args.attempt ≡ turns_made x) (sym inv.floor) made) (inv.reads made gave)

pub returns-clause-reads : goal.returns-clause-reads
returns-clause-reads g c = c.loop-target.invariant.reads

use Rattle.std.proofs.Common.{◌≡◌, ◌+◌, ◌-◌, ◌*◌, ◌<◌, ◌≤◌, ℕ, suc, Ok, Err, length, refl, sym, ap, ◌∙◌, subst, arith, add-one, map}
use Rattle.std.proofs.Math.Nat.{add-mul, mul-le-mul_right}
use Rattle.esa_floor.specs.Keeping.{HasInput}
use Rattle.esa_floor.specs.Parts.{Parts}
use Rattle.esa_floor.specs.Standing.{turns_made}
use Rattle.esa_laws.proofs.SizeLaws.{first-zero}
use Rattle.esa_laws.proofs.WalkLaws.{reached-zero}
use Rattle.esa_params.specs.Sizes.{Sizes, first, ArePlanned}
use Rattle.esa_spec.specs.Turns.{order}
use Rattle.esa_spec.specs.Verdicts.{imported, reached, steps_of}
use Rattle.esa_press.specs.Pressed.{Pressed}
use Rattle.esa_press.specs.Stepped.{AreMade}
use Rattle.esa_press.proofs.Stepping.{made_none, made_output, made_outputs_bad, still_at}
use Rattle.esa_laws.proofs.LengthLaws.{imported-few, imported-rises}
use Rattle.esa_press.proofs.Storing.{input_pressed, pressing_faithful, pressing_read, pressing_then, put_none, stops_with}
use Rattle.esa_press.proofs.Fetching.{reads_none}
use Rattle.esa_press.specs.Contents.{ArePut, PutsWaiting}
use Rattle.std.proofs.Math.Seq.{drop-nil}
use Rattle.esa_floor.specs.Written.{EachTookItsBlock, attempt_turns}
use Rattle.esa_press.proofs.Taking.{took_put, took_put_until}
use Rattle.esa_press.proofs.press.Press.compress.Goals as goal

pub loop-output-init : goal.loop-output-init
loop-output-init g c =
    let f = c.args.floor.now in
    let d = g.G.Told.draws c.args.attempt in
    let none : reached f.plan d 0 ≡ 0 = reached-zero f.plan d in
    let start : first f.plan 0 ≡ 0 = first-zero f.plan in
    let empty : length c.clear.new.self.queue ≡ 0 = ap (λ (w : Pressed). length w.queue) c.clear.ensures in
    record {
      from = refl;
      floor = refl;
      others = c.clear.ensures ∙ ap (λ (w : Pressed). record c.args.self.now { queue = w.queue; counts = w.counts }) (sym c.clear.ensures);
      ready = refl;
      total = refl;
      used = omega arith;
      put = omega (arith, none, start);
      waits = omega (arith, none, start, empty);
      made = made_none g.V.Device.faults f.plan f.run d c.args.attempt (order f.plan.b (turns_made f)) f.recorder tt;
      log = pressing_read f.recorder.log f.recorder.log (reads_none f.recorder.log);
      failed = λ none. none;
      reads = λ made gave. gave;
      puts = λ record_of orders holds faithful. (
        put_none f.plan f.run d (turns_made f) c.args.attempt record_of f.recorder.log,
        ap (λ (w : Pressed). w.queue) c.clear.ensures ∙ sym (ap (map record_of) (drop-nil (first f.plan 0))),
      );
    }

pub returns-in-Err-clause-log : goal.returns-in-Err-clause-log
returns-in-Err-clause-log g c =
    pressing_then c.args.floor.now.recorder.log c.loop-output.floor.recorder.log c.put_out.new.floor.recorder.log c.loop-output.invariant.log c.put_out.ensures.log

pub returns-in-Err-clause-input : goal.returns-in-Err-clause-input
returns-in-Err-clause-input g c = λ record_of faithful input.
    let f = c.args.floor.now in
    let new = c.put_out.new.floor.recorder in
    subst (λ (x : Parts _). HasInput x record_of) (sym (c.put_out.ensures.floor ∙ ap (λ (x : Parts _). record x { recorder = new }) c.loop-output.invariant.floor))
    (input_pressed f new record_of (returns-in-Err-clause-log g c) faithful input)

pub returns-clause-input : goal.returns-clause-input
returns-clause-input g c = λ record_of faithful input.
    let inv = c.loop-output.invariant in
    subst (λ (x : Parts _). HasInput x record_of) (sym inv.floor) (input_pressed c.args.floor.now c.loop-output.floor.recorder record_of inv.log faithful input)

pub returns-in-Err-clause-outputs : goal.returns-in-Err-clause-outputs
returns-in-Err-clause-outputs g c = λ record_of orders holds faithful.
    let inv = c.loop-output.invariant in
    let f = c.args.floor.now in
    let a = c.args.attempt in
    let d = g.G.Told.draws a in
    let h = turns_made f in
    let j = c.loop-output.output in
    let first_log = f.recorder.log in
    let old = c.loop-output.floor.recorder.log in
    let new = c.put_out.new.floor.recorder.log in
    let lists = g.C.Coins.order_list c.args.coins.now a in
    let plan_is : c.plan-plan.result ≡ f.plan = c.plan-plan.ensures ∙ c.requires.plan in
    let inside : j < f.plan.b = omega (arith, c.loop-output-test.true, c.b-output-end.ensures.value, ap (λ (q : Sizes). q.b) plan_is) in
    let planned : ArePlanned f.plan = subst ArePlanned plan_is c.w.ensures.limits in
    let here : PutsWaiting {T = Unit {0}} f.plan f.run d h a lists record_of j c.loop-output.from c.min-end.result first_log old new c.loop-output.self.queue c.put_out.new.self.queue (Err c.in-Err.halt) =
    subst (λ (x : Parts _). PutsWaiting {T = Unit {0}} x.plan x.run d (turns_made x) a lists record_of j c.loop-output.from c.min-end.result first_log old new c.loop-output.self.queue c.put_out.new.self.queue (Err c.in-Err.halt))
    inv.floor (c.in-Err.ensures.puts record_of first_log) in
    let so_far = inv.puts record_of orders holds (pressing_faithful f.plan old new c.put_out.ensures.log faithful) in
    stops_with _ _ _ _ c.in-Err.halt (here planned orders holds so_far.0 faithful so_far.1) (λ put. (j, inside, put))

pub returns-clause-outputs : goal.returns-clause-outputs
returns-clause-outputs g c = λ record_of orders holds faithful.
    let f = c.args.floor.now in
    let plan_is : c.plan-plan.result ≡ f.plan = c.plan-plan.ensures ∙ c.requires.plan in
    let last : c.loop-output.output ≡ f.plan.b = omega (arith, c.loop-output-test.false, c.loop-output.auto.output-end, c.b-output-end.ensures.value, ap (λ (q : Sizes). q.b) plan_is) in
    subst (λ (n : ℕ). ArePut f.plan f.run (g.G.Told.draws c.args.attempt) (turns_made f) c.args.attempt record_of n f.recorder.log c.loop-output.floor.recorder.log) last
    (c.loop-output.invariant.puts record_of orders holds faithful).0

pub returns-in-Err-clause-took : goal.returns-in-Err-clause-took
returns-in-Err-clause-took g c = λ record_of made orders holds took.
    let f = c.args.floor.now in
    let a = c.args.attempt in
    let new = c.put_out.new.floor.recorder in
    subst (λ (x : Parts _). EachTookItsBlock g.G.Told.draws record_of x) (sym (c.put_out.ensures.floor ∙ ap (λ (x : Parts _). record x { recorder = new }) c.loop-output.invariant.floor))
    (λ input. took_put_until f g.G.Told.draws a (turns_made f) record_of made new f.plan.b c.in-Err.halt
    (returns-in-Err-clause-outputs g c record_of orders holds input.faithful) took input)

pub returns-clause-took : goal.returns-clause-took
returns-clause-took g c = λ record_of made orders holds took.
    let f = c.args.floor.now in
    let a = c.args.attempt in
    let new = c.loop-output.floor.recorder in
    subst (λ (x : Parts _). EachTookItsBlock g.G.Told.draws record_of x) (sym c.loop-output.invariant.floor)
    (λ input. took_put f g.G.Told.draws a (turns_made f) record_of made new f.plan.b
    (returns-clause-outputs g c record_of orders holds input.faithful) took input)

pub put_out-requires-clause-at : goal.put_out-requires-clause-at
put_out-requires-clause-at g c =
    let inv = c.loop-output.invariant in
    let given = c.requires in
    still_at (g.C.Coins.plan c.args.coins.now) (g.G.Told.draws c.args.attempt) c.args.attempt c.loop-output.output c.loop-output.from c.args.floor.now c.loop-output.floor c.args.self.now c.loop-output.self
    inv.floor inv.others inv.ready given.plan given.run given.coins given.attempt given.ready given.counted inv.put inv.waits

pub put_out-requires-clause-room : goal.put_out-requires-clause-room
put_out-requires-clause-room g c =
    let inv = c.loop-output.invariant in
    let p = c.args.floor.now.plan in
    let j = c.loop-output.output in
    let same : c.loop-output.floor.plan.b ≡ p.b = ap (λ (f : Parts _). f.plan.b) inv.floor in
    let plan_is : c.plan-plan.result ≡ p = c.plan-plan.ensures ∙ c.requires.plan in
    let end_is : c.min-end.result ≡ imported p (suc j) = omega (arith, c.min-end.ensures, c.w.ensures.value, c.b.ensures.value, ap (λ (q : Sizes). q.w) plan_is, ap (λ (q : Sizes). q.b) plan_is) in
    let rises = imported-rises p j in
    let m = c.min-end.result - c.loop-output.from in
    let inside : j < p.b = omega (arith, c.loop-output-test.true, c.b-output-end.ensures.value, ap (λ (q : Sizes). q.b) plan_is) in
    let within : c.loop-output.from + m ≤ p.b = omega (arith, rises, imported-few p (suc j), inv.from, end_is) in
    let both = add-mul c.loop-output.from m (p.b + 1) in
    let all = mul-le-mul_right {m = c.loop-output.from + m} {n = p.b} (p.b + 1) within in
    let own = ap (λ (n : ℕ). m * (n + 1)) same in
    omega (arith, inv.used, both, all, inside, c.requires.room, own)

pub returns-in-Err-clause-made : goal.returns-in-Err-clause-made
returns-in-Err-clause-made g c =
    let inv = c.loop-output.invariant in
    let f = c.args.floor.now in
    let d = g.G.Told.draws c.args.attempt in
    let o = order f.plan.b (turns_made f) in
    let j = c.loop-output.output in
    let old = c.loop-output.floor.recorder in
    let new = c.put_out.new.floor.recorder in
    let plan_is : c.plan-plan.result ≡ f.plan = c.plan-plan.ensures ∙ c.requires.plan in
    made_outputs_bad g.V.Device.faults f.plan f.run d o c.args.attempt (j + 1) f.plan.b f.recorder new c.in-Err.halt
    (omega (arith, c.loop-output-test.true, c.b-output-end.ensures.value, ap (λ (q : Sizes). q.b) plan_is))
    (made_output g.V.Device.faults f.plan f.run d o c.args.attempt j f.recorder old new tt (Err c.in-Err.halt) inv.made
    (subst (λ (x : Parts _). AreMade {T = Unit {0}} g.V.Device.faults x.plan x.run d (order x.plan.b (turns_made x)) c.args.attempt (steps_of x.plan j) old new (Err c.in-Err.halt)) inv.floor
    c.in-Err.ensures.made))

pub loop-output-preserved : goal.loop-output-preserved
loop-output-preserved g c =
    let inv = c.loop-output.invariant in
    let f = c.args.floor.now in
    let p = f.plan in
    let d = g.G.Told.draws c.args.attempt in
    let o = order p.b (turns_made f) in
    let j = c.loop-output.output in
    let old = c.loop-output.floor.recorder in
    let new = c.put_out.new.floor.recorder in
    let same : c.loop-output.floor.plan.b ≡ p.b = ap (λ (f : Parts _). f.plan.b) inv.floor in
    let plan_is : c.plan-plan.result ≡ p = c.plan-plan.ensures ∙ c.requires.plan in
    let end_is : c.min-end.result ≡ imported p (suc j) = omega (arith, c.min-end.ensures, c.w.ensures.value, c.b.ensures.value, ap (λ (q : Sizes). q.w) plan_is, ap (λ (q : Sizes). q.b) plan_is) in
    let rises = imported-rises p j in
    let m = c.min-end.result - c.loop-output.from in
    let sum_is : c.loop-output.from + m ≡ c.min-end.result = omega (arith, rises, inv.from, end_is) in
    let both = add-mul c.loop-output.from m (p.b + 1) in
    let product = ap (λ (n : ℕ). n * (p.b + 1)) sum_is in
    let own = ap (λ (n : ℕ). m * (n + 1)) same in
    let a = c.args.attempt in
    let h = turns_made f in
    let lists = g.C.Coins.order_list c.args.coins.now a in
    let planned : ArePlanned p = subst ArePlanned plan_is c.w.ensures.limits in
    record {
      from = end_is ∙ ap (imported p) (sym (add-one j));
      floor = c.put_out.ensures.floor ∙ ap (λ (x : Parts _). record x { recorder = new }) inv.floor;
      others = c.put_out.ensures.others ∙ ap (λ (w : Pressed). record w { queue = c.put_out.new.self.queue; counts = c.put_out.new.self.counts }) inv.others;
      ready = c.put_out.ensures.ready ∙ inv.ready;
      total = c.put_out.ensures.total ∙ inv.total;
      used = omega (arith, c.put_out.ensures.used, inv.used, both, product, own);
      put = subst (λ (q : Sizes). first q (j + 1) ≤ reached q d c.min-end.result) (ap (λ (f : Parts _). f.plan) inv.floor) c.in_default.ensures.put;
      waits = c.in_default.ensures.waits ∙ ap (λ (q : Sizes). reached q d c.min-end.result - first q (j + 1)) (ap (λ (f : Parts _). f.plan) inv.floor);
      made =
          made_output g.V.Device.faults p f.run d o c.args.attempt j f.recorder old new tt (Ok tt) inv.made
          (subst (λ (x : Parts _). AreMade {T = Unit {0}} g.V.Device.faults x.plan x.run d (order x.plan.b (turns_made x)) c.args.attempt (steps_of x.plan j) old new (Ok tt)) inv.floor
          c.in_default.ensures.made);
      log = pressing_then f.recorder.log old.log new.log inv.log c.put_out.ensures.log;
      failed = λ none. c.in_default.ensures.failed (inv.failed none);
      reads = λ made gave. c.in_default.ensures.reads (subst (λ (x : Parts _). attempt_turns x a ≡ turns_made x) (sym inv.floor) made) (inv.reads made gave);
      puts = λ record_of orders holds faithful.
          let one : PutsWaiting {T = Unit {0}} p f.run d h a lists record_of j c.loop-output.from c.min-end.result f.recorder.log old.log new.log c.loop-output.self.queue c.put_out.new.self.queue (Ok tt) =
          subst (λ (x : Parts _). PutsWaiting {T = Unit {0}} x.plan x.run d (turns_made x) a lists record_of j c.loop-output.from c.min-end.result f.recorder.log old.log new.log c.loop-output.self.queue c.put_out.new.self.queue (Ok tt))
          inv.floor (c.in_default.ensures.puts record_of f.recorder.log) in
          let so_far = inv.puts record_of orders holds (pressing_faithful p old.log new.log c.put_out.ensures.log faithful) in
          one planned orders holds so_far.0 faithful so_far.1;
    }

pub returns-in-Err-clause-failed : goal.returns-in-Err-clause-failed
returns-in-Err-clause-failed g c = λ none. c.in-Err.ensures.failed (c.loop-output.invariant.failed none)

pub returns-clause-failed : goal.returns-clause-failed
returns-clause-failed g c = c.loop-output.invariant.failed

pub returns-in-Err-clause-reads : goal.returns-in-Err-clause-reads
returns-in-Err-clause-reads g c = λ made gave.
    let inv = c.loop-output.invariant in
    c.in-Err.ensures.reads (subst (λ (x : Parts _). attempt_turns x c.args.attempt ≡ turns_made x) (sym inv.floor) made) (inv.reads made gave)

pub returns-clause-reads : goal.returns-clause-reads
returns-clause-reads g c = c.loop-output.invariant.reads

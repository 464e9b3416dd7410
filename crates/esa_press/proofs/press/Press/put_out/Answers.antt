use Rattle.std.proofs.Common.{◌≡◌, ◌+◌, ◌-◌, ◌≤◌, ℕ, suc, [], ◌∷◌, ◌++◌, Err, All, map, sym, ap, ◌∙◌, subst, arith, length, take, drop}
use Rattle.std.specs.List.{range_with_len}
use Rattle.esa_device.specs.Logs.{NoneFailed}
use Rattle.esa_compress.proofs.ImportLaws.{climbs, queue-front, queue-put}
use Rattle.esa_floor.specs.Standing.{turns_made}
use Rattle.esa_params.specs.Sizes.{Sizes, first, size}
use Rattle.esa_spec.specs.Turns.{order}
use Rattle.esa_spec.specs.Verdicts.{Import, Put, imported, reached}
use Rattle.esa_device.specs.Recording.{Recorded}
use Rattle.esa_envelope.specs.declared.keys.Keys.{Keys}
use Rattle.esa_press.specs.Pressed.{Pressed, PutAnswer}
use Rattle.esa_press.specs.Stepped.{AreMade}
use Rattle.esa_floor.specs.Written.{GaveItsOwn, attempt_turns}
use Rattle.esa_floor.proofs.Giving.{gave-write}
use Rattle.esa_press.proofs.Failing.{put_ends}
use Rattle.esa_press.proofs.Fetching.{on_ok}
use Rattle.esa_press.proofs.Giving.{put_gave}
use Rattle.esa_press.proofs.Stepping.{made_bad, made_more, put_one, put_totals, put_waits}
use Rattle.esa_press.proofs.Storing.{holds_on, output_put, pressing_faithful, pressing_put, pressing_read, pressing_then, put_answer_is, put_read, stops_with}
use Rattle.esa_press.specs.Contents.{GoesOnPressing}
use Rattle.esa_laws.proofs.SizeLaws.{first-more}
use Rattle.esa_press.proofs.press.Press.put_out.Goals as goal

pub put-requires-clause-bucket : goal.put-requires-clause-bucket
put-requires-clause-bucket g c =
    let same : c.import_ahead.new.self.plan.b ≡ c.args.floor.now.plan.b = ap (λ (w : Pressed). w.plan.b) c.import_ahead.ensures.others ∙ ap (λ (q : Sizes). q.b) c.requires.at.plan in
    omega (arith, same, c.requires.output)

pub returns-in-Err-clause-made : goal.returns-in-Err-clause-made
returns-in-Err-clause-made g c =
    let f = c.args.floor.now in
    let d = g.G.Told.draws c.args.attempt in
    let o = order f.plan.b (turns_made f) in
    let j = c.args.output in
    let new = c.import_ahead.new.floor.recorder in
    subst (λ (s : ℕ). AreMade {T = Unit {0}} g.V.Device.faults f.plan f.run d o c.args.attempt (map (Import j) (range_with_len s (imported f.plan (suc j) - s)) ++ Put j ∷ []) f.recorder new (Err c.in-Err.halt)) c.requires.from
    (subst (λ (e : ℕ). AreMade {T = Unit {0}} g.V.Device.faults f.plan f.run d o c.args.attempt (map (Import j) (range_with_len c.args.from (e - c.args.from)) ++ Put j ∷ []) f.recorder new (Err c.in-Err.halt)) c.requires.end
    (made_bad g.V.Device.faults f.plan f.run d c.args.attempt o (map (Import j) (range_with_len c.args.from (c.args.end - c.args.from))) (Put j ∷ []) f.recorder new c.in-Err.halt c.in-Err.ensures.made))

pub returns-clause-made : goal.returns-clause-made
returns-clause-made g c =
    let f = c.args.floor.now in
    let d = g.G.Told.draws c.args.attempt in
    let o = order f.plan.b (turns_made f) in
    let j = c.args.output in
    let w = c.import_ahead.new.self in
    let mid = c.import_ahead.new.floor.recorder in
    let new = c.put.new.recorder in
    let n = c.args.end - c.args.from in
    let here : c.args.from + n ≡ c.args.end = omega (arith, c.requires.rises) in
    let rises = climbs f.plan d (turns_made f) c.requires.at.counted.drawn c.requires.at.counted.all c.requires.at.counted.fits c.args.from n (omega (arith, c.requires.rises, c.requires.within)) in
    let put : first f.plan j ≤ reached f.plan d c.args.end = omega (arith, rises, c.requires.at.put, ap (reached f.plan d) here) in
    let plan_is : w.plan ≡ f.plan = ap (λ (x : Pressed). x.plan) c.import_ahead.ensures.others ∙ c.requires.at.plan in
    let run_is : w.run ≡ f.run = ap (λ (x : Pressed). x.run) c.import_ahead.ensures.others ∙ c.requires.at.run in
    subst (λ (s : ℕ). AreMade {T = Unit {0}} g.V.Device.faults f.plan f.run d o c.args.attempt (map (Import j) (range_with_len s (imported f.plan (suc j) - s)) ++ Put j ∷ []) f.recorder new c.put.result) c.requires.from
    (subst (λ (e : ℕ). AreMade {T = Unit {0}} g.V.Device.faults f.plan f.run d o c.args.attempt (map (Import j) (range_with_len c.args.from (e - c.args.from)) ++ Put j ∷ []) f.recorder new c.put.result) c.requires.end
    (made_more g.V.Device.faults f.plan f.run d c.args.attempt o (map (Import j) (range_with_len c.args.from n)) (Put j ∷ []) f.recorder mid new c.in_default.field-0 c.put.result c.in_default.ensures.made
    (put_one g.V.Device.faults f.plan f.run d c.args.attempt o g.V.Device.told g.V.Device.last_call j (subst (λ (m : ℕ). first f.plan j ≤ reached f.plan d m) c.requires.end put)
    w.queue c.put.new.self.queue (c.in_default.ensures.waits ∙ ap (λ (m : ℕ). reached f.plan d m - first f.plan j) c.requires.end) mid new c.put.result
    (subst (λ (r : Recorded _). PutAnswer g.V.Device.told g.V.Device.faults g.V.Device.last_call f.plan f.run c.args.attempt j w.queue c.put.new.self.queue r new c.put.result) c.recorder.ensures.value
    (subst (λ (k : Keys). PutAnswer g.V.Device.told g.V.Device.faults g.V.Device.last_call f.plan k c.args.attempt j w.queue c.put.new.self.queue c.recorder.result.now new c.put.result) run_is
    (subst (λ (q : Sizes). PutAnswer g.V.Device.told g.V.Device.faults g.V.Device.last_call q w.run c.args.attempt j w.queue c.put.new.self.queue c.recorder.result.now new c.put.result) plan_is c.put.ensures.answer))))))

pub returns-clause-put : goal.returns-clause-put
returns-clause-put g c =
    let f = c.args.floor.now in
    let d = g.G.Told.draws c.args.attempt in
    let j = c.args.output in
    let w = c.import_ahead.new.self in
    let n = c.args.end - c.args.from in
    let here : c.args.from + n ≡ c.args.end = omega (arith, c.requires.rises) in
    let rises = climbs f.plan d (turns_made f) c.requires.at.counted.drawn c.requires.at.counted.all c.requires.at.counted.fits c.args.from n (omega (arith, c.requires.rises, c.requires.within)) in
    let put : first f.plan j ≤ reached f.plan d c.args.end = omega (arith, rises, c.requires.at.put, ap (reached f.plan d) here) in
    let plan_is : w.plan ≡ f.plan = ap (λ (x : Pressed). x.plan) c.import_ahead.ensures.others ∙ c.requires.at.plan in
    on_ok c.put.result
    (put_waits g.V.Device.told g.V.Device.faults g.V.Device.last_call f.plan d w.run c.args.attempt j w.queue c.put.new.self.queue c.recorder.result.now c.put.new.recorder (reached f.plan d c.args.end) c.put.result
    (subst (λ (q : Sizes). PutAnswer g.V.Device.told g.V.Device.faults g.V.Device.last_call q w.run c.args.attempt j w.queue c.put.new.self.queue c.recorder.result.now c.put.new.recorder c.put.result) plan_is c.put.ensures.answer)
    put c.in_default.ensures.waits)
    (λ both. both.0)

pub returns-clause-total : goal.returns-clause-total
returns-clause-total g c =
    let w = c.import_ahead.new.self in
    put_totals g.V.Device.told g.V.Device.faults g.V.Device.last_call w.plan w.run c.args.attempt c.args.output w.queue c.put.new.self.queue c.recorder.result.now c.put.new.recorder c.put.result c.put.ensures.answer
    ∙ ap (λ (r : Recorded _). length r.trace + r.room) c.recorder.ensures.value
    ∙ c.import_ahead.ensures.total

pub returns-in-Err-clause-log : goal.returns-in-Err-clause-log
returns-in-Err-clause-log g c = pressing_read c.args.floor.now.recorder.log c.import_ahead.new.floor.recorder.log c.import_ahead.ensures.log

pub returns-clause-log : goal.returns-clause-log
returns-clause-log g c =
    let w = c.import_ahead.new.self in
    let mid = c.import_ahead.new.floor.recorder in
    pressing_then c.args.floor.now.recorder.log mid.log c.put.new.recorder.log (pressing_read c.args.floor.now.recorder.log mid.log c.import_ahead.ensures.log)
    (subst (λ (r : Recorded _). GoesOnPressing r.log c.put.new.recorder.log) c.recorder.ensures.value
    (pressing_put g.V.Device.told g.V.Device.faults g.V.Device.last_call w.plan w.run c.args.attempt c.args.output w.queue c.put.new.self.queue c.recorder.result.now c.put.new.recorder c.put.result c.put.ensures.answer))

pub returns-in-Err-clause-puts : goal.returns-in-Err-clause-puts
returns-in-Err-clause-puts g c = λ record_of before planned orders holds so_far faithful waits.
    let f = c.args.floor.now in
    let d = g.G.Told.draws c.args.attempt in
    let h = turns_made f in
    let new = c.import_ahead.new.floor.recorder.log in
    stops_with _ _ _ _ c.in-Err.halt
    (c.in-Err.ensures.keeps record_of planned orders (holds_on f.plan f.run d h c.args.attempt record_of c.args.output before f.recorder.log so_far.log holds) faithful waits)
    (λ done. put_read f.plan f.run d h c.args.attempt record_of c.args.output before f.recorder.log new so_far c.import_ahead.ensures.log)

pub returns-clause-puts : goal.returns-clause-puts
returns-clause-puts g c = λ record_of before planned orders holds so_far faithful waits.
    let f = c.args.floor.now in
    let a = c.args.attempt in
    let d = g.G.Told.draws a in
    let h = turns_made f in
    let j = c.args.output in
    let i = c.args.end in
    let w = c.import_ahead.new.self in
    let mid = c.import_ahead.new.floor.recorder in
    let new = c.put.new.recorder in
    let n = i - c.args.from in
    let here : c.args.from + n ≡ i = omega (arith, c.requires.rises) in
    let rises = climbs f.plan d h c.requires.at.counted.drawn c.requires.at.counted.all c.requires.at.counted.fits c.args.from n (omega (arith, c.requires.rises, c.requires.within)) in
    let put : first f.plan j ≤ reached f.plan d i = omega (arith, rises, c.requires.at.put, ap (reached f.plan d) here) in
    let plan_is : w.plan ≡ f.plan = ap (λ (x : Pressed). x.plan) c.import_ahead.ensures.others ∙ c.requires.at.plan in
    let run_is : w.run ≡ f.run = ap (λ (x : Pressed). x.run) c.import_ahead.ensures.others ∙ c.requires.at.run in
    let next = first-more f.plan j in
    let long = c.in_default.ensures.waits in
    let answer = put_answer_is g.V.Device.told g.V.Device.faults g.V.Device.last_call a j w f.plan f.run plan_is run_is c.put.new.self.queue c.recorder.result.now mid new c.put.result c.recorder.ensures.value c.put.ensures.answer in
    let on = pressing_put g.V.Device.told g.V.Device.faults g.V.Device.last_call f.plan f.run a j w.queue c.put.new.self.queue mid new c.put.result answer in
    let still = pressing_faithful f.plan mid.log new.log on faithful in
    let here_waits = c.in_default.ensures.keeps record_of planned orders (holds_on f.plan f.run d h a record_of j before f.recorder.log so_far.log holds) still waits in
    output_put f.plan f.run d h a record_of g.V.Device.told g.V.Device.faults g.V.Device.last_call j i before mid new w.queue c.put.new.self.queue c.put.result
    c.requires.output c.requires.at.counted.all
    (λ enough. ap (take (size f.plan j)) here_waits
    ∙ queue-front f.plan d h c.requires.at.counted.drawn c.requires.at.counted.all c.requires.at.counted.fits record_of j i c.requires.within (omega (arith, enough, next, put, long)))
    (ap (drop (size f.plan j)) here_waits ∙ queue-put f.plan d h c.requires.at.counted.drawn c.requires.at.counted.all c.requires.at.counted.fits record_of j i)
    (put_read f.plan f.run d h a record_of j before f.recorder.log mid.log so_far c.import_ahead.ensures.log) answer

pub returns-in-Err-clause-failed : goal.returns-in-Err-clause-failed
returns-in-Err-clause-failed g c = c.in-Err.ensures.failed

pub returns-clause-failed : goal.returns-clause-failed
returns-clause-failed g c = λ none.
    let w = c.import_ahead.new.self in
    put_ends g.V.Device.told g.V.Device.faults g.V.Device.last_call w.plan w.run c.args.attempt c.args.output w.queue c.put.new.self.queue c.recorder.result.now c.put.new.recorder c.put.result c.put.ensures.answer
    (subst (λ (r : Recorded _). NoneFailed r.log) (sym c.recorder.ensures.value) (c.in_default.ensures.failed none))

pub returns-in-Err-clause-reads : goal.returns-in-Err-clause-reads
returns-in-Err-clause-reads g c = c.in-Err.ensures.reads

pub returns-clause-reads : goal.returns-clause-reads
returns-clause-reads g c = λ made gave.
    let w = c.import_ahead.new.self in
    let mid = c.import_ahead.new.floor in
    put_gave (GaveItsOwn g.G.Told.draws mid) (gave-write mid.plan mid.run g.G.Told.draws (attempt_turns mid))
    g.V.Device.told g.V.Device.faults g.V.Device.last_call w.plan w.run c.args.attempt c.args.output w.queue c.put.new.self.queue c.recorder.result.now c.put.new.recorder c.put.result c.put.ensures.answer
    (subst (λ (r : Recorded _). All (GaveItsOwn g.G.Told.draws mid) r.log) (sym c.recorder.ensures.value) (c.in_default.ensures.reads made gave))

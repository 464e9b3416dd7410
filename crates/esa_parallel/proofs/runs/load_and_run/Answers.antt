-- The attempts end the run after the load, or the load does.
use Rattle.std.proofs.Common.{◌≡◌, ◌≢◌, true, false, ℕ, ◌*◌, ◌≤◌, [], ◌∷◌, ◌++◌, All, drop, length, Ok, Err, refl, sym, ap, ◌∙◌, subst, arith}
use Rattle.std.proofs.lemmas.List.{drop_all}
use mathlib.Core.List.{IsPrefix}
use Rattle.esa_params.specs.Form.{envelope_length}
use Rattle.esa_params.specs.Sizes.{Sizes, first}
use Rattle.esa_floor.specs.Parts.{Parts}
use Rattle.esa_floor.specs.Written.{WritesInput}
use Rattle.esa_floor.proofs.Giving.{gave-input, input_written}
use Rattle.esa_floor.proofs.Writing.{took-input}
use Rattle.esa_spec.specs.Histories.{begun}
use Rattle.esa_shuffle.specs.Loading.{HasGiven, TakesBatch}
use Rattle.esa_shuffle.specs.Records.{IsShuffledFrom}
use Rattle.esa_shuffle.specs.Runs.{MayEnd, lists_ended}
use Rattle.esa_shuffle.proofs.Ending.{may_front}
use Rattle.esa_shuffle.proofs.Inputs.{written_by}
use Rattle.esa_shuffle.proofs.Loaded.{given_where}
use Rattle.esa_shuffle.proofs.Records.{not_shuffled, shuffled_from, written_from}
use Rattle.esa_workers.proofs.Meeting.{front_refl}
use Rattle.esa_parallel.specs.Crews.{AllAreDone, AllTookPart}
use Rattle.esa_parallel.specs.Fronts.{behind}
use Rattle.esa_parallel.proofs.Attempting.{rests_still}
use Rattle.esa_parallel.proofs.Fronting.{has_loaded, load_failed, none_done, none_few, none_took_part}
use Rattle.esa_parallel.proofs.runs.load_and_run.Given.{Over}
use Rattle.esa_parallel.proofs.runs.load_and_run.Goals.{After-load, After-make_attempts-over}
use Rattle.esa_parallel.proofs.runs.load_and_run.Goals as goal

pub make_attempts-over-requires-clause-floor : goal.make_attempts-over-requires-clause-floor
make_attempts-over-requires-clause-floor g c =
    λ lives outlive. has_loaded g.G.Told.plan c.args.turnstile.now c.args.owner.now c.args.held.value c.load.new.floor c.load.ensures.floor c.requires.log c.requires.floor

pub make_attempts-over-requires-clause-posts : goal.make_attempts-over-requires-clause-posts
make_attempts-over-requires-clause-posts g c = λ lives outlive k d inside.
    let f = c.args.held.value in
    let loaded = c.load.new.floor in
    let stash = ap (λ (x : Parts _). x.stash) c.load.ensures.floor in
    rests_still g.G.Told.plan f loaded (c.load.ensures.floor ∙ ap (λ s. record f { recorder = loaded.recorder; stash = s }) (sym stash))
    g.V.Device.faults g.G.Told.draws g.C.Coins.target_list c.args.turnstile.now k _ (c.requires.posts k d inside)

pub make_attempts-over-requires-clause-took : goal.make_attempts-over-requires-clause-took
make_attempts-over-requires-clause-took g c = λ lives outlive record_of items. took-input g.G.Told.draws record_of c.load.new.floor
    (input_written c.load.new.floor.plan c.load.new.floor.recorder.log (c.load.ensures.input c.requires.log))

pub make_attempts-over-requires-clause-failed : goal.make_attempts-over-requires-clause-failed
make_attempts-over-requires-clause-failed g c = λ lives outlive. c.in-Ok.ensures.failed c.requires.log

pub make_attempts-over-requires-clause-reads : goal.make_attempts-over-requires-clause-reads
make_attempts-over-requires-clause-reads g c = λ lives outlive. gave-input g.G.Told.draws c.load.new.floor (c.load.ensures.input c.requires.log)

-- nobody had come before the attempts
none_came : (g : Over) (c : After-make_attempts-over g) → length c.args.held.value.history ≡ 0
none_came g c = ap length (sym (ap (λ (x : Parts _). x.history) c.load.ensures.floor) ∙ c.make_attempts-over.ensures.alone)

pub returns-in-Ok-clause-ends : goal.returns-in-Ok-clause-ends
returns-in-Ok-clause-ends g c =
    let before = g.B.Records.faults c.args.batch.now in
    let over = c.make_attempts-over.result in
    let p = g.G.Told.plan in
    let none = none_came g (goal.at.returns-in-Ok-clause-ends g c).After-make_attempts-over in
    subst (λ (n : ℕ). MayEnd g.V.Device.faults p g.G.Told.draws (lists_ended p (behind n over.held.value)) before (g.B.Records.faults c.load.new.batch) (behind n over.held.value) c.make_attempts-over.new.failures over.outcome)
    (sym none)
    (subst (λ (n : ℕ). MayEnd g.V.Device.faults p g.G.Told.draws (lists_ended p over.held.value) before n over.held.value c.make_attempts-over.new.failures over.outcome)
    (sym c.in-Ok.ensures.ends.1) (c.make_attempts-over.ensures.ends before))

pub returns-in-Ok-clause-few : goal.returns-in-Ok-clause-few
returns-in-Ok-clause-few g c =
    let over = c.make_attempts-over.result in
    let none = none_came g (goal.at.returns-in-Ok-clause-few g c).After-make_attempts-over in
    subst (λ (n : ℕ). length (lists_ended g.G.Told.plan (behind n over.held.value)) ≤ g.G.Told.plan.attempts) (sym none) c.make_attempts-over.ensures.few

pub returns-in-Ok-clause-took_part : goal.returns-in-Ok-clause-took_part
returns-in-Ok-clause-took_part g c =
    let over = c.make_attempts-over.result in
    let none = none_came g (goal.at.returns-in-Ok-clause-took_part g c).After-make_attempts-over in
    subst (λ (n : ℕ). AllTookPart g.G.Told.plan (lists_ended g.G.Told.plan (behind n over.held.value))) (sym none) c.make_attempts-over.ensures.took_part

pub returns-in-Ok-clause-done : goal.returns-in-Ok-clause-done
returns-in-Ok-clause-done g c =
    let over = c.make_attempts-over.result in
    let none = none_came g (goal.at.returns-in-Ok-clause-done g c).After-make_attempts-over in
    subst (λ (n : ℕ). AllAreDone g.G.Told.plan g.G.Told.draws (lists_ended g.G.Told.plan (behind n over.held.value)) over.outcome) (sym none) c.make_attempts-over.ensures.done

pub returns-in-Ok-clause-given : goal.returns-in-Ok-clause-given
returns-in-Ok-clause-given g c =
    let p = g.G.Told.plan in
    let ds = g.G.Told.draws in
    let f = c.args.held.value in
    let told = g.B.Records.told c.args.batch.now in
    let part = g.B.Records.part (g.B.Records.grounds c.args.batch.now) in
    let before = g.B.Records.heard c.args.batch.now in
    let after = g.B.Records.heard c.load.new.batch in
    let last = c.make_attempts-over.result.held.value in
    let o = c.make_attempts-over.result.outcome in
    let done = c.make_attempts-over.ensures in
    let none = none_came g (goal.at.returns-in-Ok-clause-given g c).After-make_attempts-over in
    let has = subst (λ (q : Sizes). HasGiven q told part before after (true ≡ true) (TakesBatch f c.load.new.floor (Ok tt))) c.requires.new.stands.of.plan c.in-Ok.ensures.given in
    subst (λ (n : ℕ). HasGiven p told part before after ((behind n last).history ≢ [])
    (IsShuffledFrom p ds (lists_ended p (behind n last)) f.outer f.run ((behind n last).history ++ p.workers ∷ []) last.recorder.log o)) (sym none)
    (record {
      given = has.given;
      load = given_where p told part before after (true ≡ true) (last.history ≢ []) has.given (λ _. refl) has.load;
      became = shuffled_from p ds (lists_ended p last) f.outer f.run c.load.new.floor last o has.given (ap (λ (x : Parts _). x.plan) c.load.ensures.floor ∙ c.requires.new.stands.of.plan)
          (ap (λ (x : Parts _). x.outer) c.load.ensures.floor) (ap (λ (x : Parts _). x.run) c.load.ensures.floor) done.origin
          (has.load.bytes ∙ ap (λ (n : ℕ). envelope_length p.form * first p n) (has.load.whole refl)) done.log has.became.input
          done.outputs done.input (λ record_of items before. done.took record_of items) (c.load.ensures.input c.requires.log) done.failed (λ before. done.reads)
          (written_from p ds (lists_ended p last) f.outer f.run c.load.new.floor last o has.given (ap (λ (x : Parts _). x.plan) c.load.ensures.floor ∙ c.requires.new.stands.of.plan)
          (ap (λ (x : Parts _). x.outer) c.load.ensures.floor) (ap (λ (x : Parts _). x.run) c.load.ensures.floor) done.origin
          (has.load.bytes ∙ ap (λ (n : ℕ). envelope_length p.form * first p n) (has.load.whole refl)) done.log has.became.input
          f tt has.became c.requires.log c.keeps_its_log.ensures
          (may_front g.V.Device.faults p ds (lists_ended p last) 0 0 last c.make_attempts-over.new.failures o (done.ends 0)));
    })

pub returns-in-Ok-clause-longer : goal.returns-in-Ok-clause-longer
returns-in-Ok-clause-longer g c =
    let over = c.make_attempts-over.result in
    subst (λ h. IsPrefix h over.held.value.history) (sym (sym (ap (λ (x : Parts _). x.history) c.load.ensures.floor) ∙ c.make_attempts-over.ensures.alone)) (over.held.value.history, refl)

-- the load begins no attempt
none_begun : (g : Over) (c : After-load g) → begun c.load.new.floor.plan.workers c.load.new.floor.history ≡ 0
none_begun g c = subst (λ (x : Parts _). begun x.plan.workers x.history ≡ 0) (sym c.load.ensures.floor) c.requires.new.none_begun

pub returns-in-Err-clause-ends : goal.returns-in-Err-clause-ends
returns-in-Err-clause-ends g c =
    let f = c.load.new.floor in
    let p = g.G.Told.plan in
    let end = c.in-Err.ensures.ends in
    let before = g.B.Records.faults c.args.batch.now in
    let now = g.B.Records.faults c.load.new.batch in
    let none = none_begun g (goal.at.returns-in-Err-clause-ends g c).After-load in
    subst (λ (n : ℕ). MayEnd g.V.Device.faults p g.G.Told.draws (lists_ended p (behind n f)) before now (behind n f) c.args.failures.now c.in-Err.outcome)
    (ap (λ (x : Parts _). length x.history) c.load.ensures.floor)
    (load_failed g.V.Device.faults p g.G.Told.draws f c.in-Err.outcome end.0 none before now c.args.failures.now end.2 end.1 c.requires.failures)

pub returns-in-Err-clause-few : goal.returns-in-Err-clause-few
returns-in-Err-clause-few g c =
    let f = c.load.new.floor in
    let p = g.G.Told.plan in
    let none = none_begun g (goal.at.returns-in-Err-clause-few g c).After-load in
    subst (λ (n : ℕ). length (lists_ended p (behind n f)) ≤ p.attempts) (ap (λ (x : Parts _). length x.history) c.load.ensures.floor)
    (none_few g.V.Device.faults p g.G.Told.draws f c.in-Err.outcome c.in-Err.ensures.ends.0 none)

pub returns-in-Err-clause-took_part : goal.returns-in-Err-clause-took_part
returns-in-Err-clause-took_part g c =
    let f = c.load.new.floor in
    let p = g.G.Told.plan in
    let none = none_begun g (goal.at.returns-in-Err-clause-took_part g c).After-load in
    subst (λ (n : ℕ). AllTookPart p (lists_ended p (behind n f))) (ap (λ (x : Parts _). length x.history) c.load.ensures.floor)
    (none_took_part g.V.Device.faults p g.G.Told.draws f c.in-Err.outcome c.in-Err.ensures.ends.0 none)

pub returns-in-Err-clause-longer : goal.returns-in-Err-clause-longer
returns-in-Err-clause-longer g c =
    subst (IsPrefix c.args.held.value.history) (sym (ap (λ (x : Parts _). x.history) c.load.ensures.floor)) (front_refl c.args.held.value.history)

pub returns-in-Ok-clause-stands : goal.returns-in-Ok-clause-stands
returns-in-Ok-clause-stands g c = (c.make_attempts-over.ensures.ends 0).stands

pub returns-in-Err-clause-stands : goal.returns-in-Err-clause-stands
returns-in-Err-clause-stands g c = c.in-Err.ensures.ends.0

pub returns-in-Err-clause-done : goal.returns-in-Err-clause-done
returns-in-Err-clause-done g c =
    let f = c.load.new.floor in
    let p = g.G.Told.plan in
    let none = none_begun g (goal.at.returns-in-Err-clause-done g c).After-load in
    subst (λ (n : ℕ). AllAreDone p g.G.Told.draws (lists_ended p (behind n f)) c.in-Err.outcome) (ap (λ (x : Parts _). length x.history) c.load.ensures.floor)
    (none_done g.V.Device.faults p g.G.Told.draws f c.in-Err.outcome c.in-Err.ensures.ends.0 none c.in-Err.ensures.ends.2)

pub returns-in-Err-clause-given : goal.returns-in-Err-clause-given
returns-in-Err-clause-given g c =
    let p = g.G.Told.plan in
    let f = c.args.held.value in
    let loaded = c.load.new.floor in
    let log = loaded.recorder.log in
    let told = g.B.Records.told c.args.batch.now in
    let part = g.B.Records.part (g.B.Records.grounds c.args.batch.now) in
    let before = g.B.Records.heard c.args.batch.now in
    let after = g.B.Records.heard c.load.new.batch in
    let h = drop (length f.history) loaded.history in
    let gone : h ≡ [] = ap (λ (x : Parts _). drop (length f.history) x.history) c.load.ensures.floor ∙ drop_all (length f.history) f.history (omega arith) in
    let has = subst (λ (q : Sizes). HasGiven q told part before after (false ≡ true) (TakesBatch {T = Unit {0}} f loaded (Err c.in-Err.outcome))) c.requires.new.stands.of.plan c.in-Err.ensures.given in
    record {
      given = has.given;
      load = given_where p told part before after (false ≡ true) (h ≢ []) has.given (λ some. absurd (some gone)) has.load;
      became = not_shuffled p g.G.Told.draws (lists_ended p (behind (length f.history) loaded)) f.outer f.run (h ++ p.workers ∷ []) log c.in-Err.outcome has.given c.in-Err.ensures.ends.2
          (subst (λ (q : Sizes). All (WritesInput q) log) (ap (λ (x : Parts _). x.plan) c.load.ensures.floor ∙ c.requires.new.stands.of.plan) (c.load.ensures.input c.requires.log))
          (c.in-Err.ensures.failed c.requires.log)
          (written_by loaded.plan p loaded.run f.run has.given log (ap (λ (x : Parts _). x.plan) c.load.ensures.floor ∙ c.requires.new.stands.of.plan)
          (ap (λ (x : Parts _). x.run) c.load.ensures.floor) (has.became.written c.requires.log));
    }

-- An attempt by the crew ends the run, or leads on.
use Rattle.std.proofs.Common.{◌≡◌, ℕ, ◌+◌, ◌<◌, ◌≤◌, List, [], length, Result, Ok, append-nil, refl, sym, ap, ◌∙◌, subst, arith}
use Rattle.std.proofs.lemmas.List.{length-map}
use Rattle.std.proofs.lemmas.List.FromFn.{length-range_with_len}
use Rattle.std.specs.Prelude.{OnOk}
use Rattle.esa_device.specs.Logs.{IsFaithful}
use Rattle.esa_envelope.specs.declared.keys.Keys.{Keys}
use Rattle.esa_params.specs.Sizes.{Sizes, below}
use Rattle.esa_press.specs.Contents.{AreOutputsStored}
use Rattle.esa_report.specs.declared.item.Item.{Item}
use Rattle.esa_spec.specs.Draws.{Draw}
use Rattle.esa_spec.specs.Fronts.{Begins}
use Rattle.esa_spec.specs.declared.event.Verdict.{Verdict}
use Rattle.esa_vault.specs.declared.fault.VaultFault.{VaultFault}
use Rattle.esa_ending.specs.Seen.{turns_in, verdict_in}
use Rattle.esa_ending.proofs.FrontLaws.{onward}
use Rattle.esa_floor.specs.Keeping.{HasInput}
use Rattle.esa_floor.specs.Marks.{roots_of}
use Rattle.esa_floor.specs.Standing.{turns_made}
use Rattle.esa_floor.specs.Written.{EachGaveItsBlock, EachUntil, GaveItsOwn}
use Rattle.esa_floor.specs.declared.floor.Roots.{Roots}
use Rattle.esa_floor.specs.declared.turn.Outcome.{Outcome}
use Rattle.esa_shuffle.specs.Attempts.{AttemptEnd}
use Rattle.esa_vault.specs.Traffic.{FailedByFault}
use Rattle.esa_shuffle.specs.Records.{FailedByOutcome, ReadsOf}
use Rattle.esa_shuffle.specs.Runs.{MayEnd, lists_ended}
use Rattle.esa_shuffle.proofs.Contents.{faithful_before}
use Rattle.esa_shuffle.proofs.Giving.{cut_gave}
use Rattle.esa_shuffle.proofs.Stopped.{good_is}
use Rattle.esa_shuffle.proofs.Taken.{cut_short, cut_failed}
use Rattle.esa_workers.proofs.Distributing.{first_of}
use Rattle.esa_parallel.specs.Crews.{AllAreDone, IsDoneByAll, TookPart}
use Rattle.esa_parallel.proofs.Between.{IsBetween, alone_now, done_all, done_cut, done_good, ends_all, ends_cut, ends_good, few_all, few_now, first_between, last, leads_on, none_before, took_part_now}
use Rattle.esa_parallel.proofs.attempts.make_attempts.Given.{Over}
use Rattle.esa_parallel.proofs.attempts.make_attempts.Goals.{After-make_attempt-after, In-loop-attempt}
use Rattle.esa_parallel.proofs.attempts.make_attempts.Goals as goal

pub loop-attempt-init : goal.loop-attempt-init
loop-attempt-init g c =
    let f = c.args.held.value in
    record {
      between = first_between g.V.Device.faults g.G.Told.plan g.G.Told.draws f c.args.failures.now c.requires.next.of.plan c.requires.next
          (none_before g.V.Device.faults g.G.Told.plan g.G.Told.draws f c.requires.next c.requires.next.of.plan) c.requires.failures;
      floor = c.requires.floor;
      tickets = let all = c.requires.tickets in omega (arith, all);
      each = c.requires.each;
      posts = c.requires.posts;
      first = λ start. refl;
      unused = λ start. c.requires.unused;
      alone = λ some. absurd (omega (arith, some));
      plan = c.requires.plan;
      run = c.requires.run;
      log = ([], sym (append-nil f.recorder.log));
      input = λ record_of faithful input. input;
      took = c.requires.took;
      failed = c.requires.failed;
      reads = c.requires.reads;
      origin = refl;
    }

-- an attempt of the plan is to be made
inside : (g : Over) (c : In-loop-attempt g) → c.loop-attempt.attempt < g.G.Told.plan.attempts
inside g c = omega (arith, c.loop-attempt-test.true, c.attempts-attempt-end.ensures.value, ap (λ (q : Sizes). q.attempts) (c.plan.ensures ∙ c.requires.next.of.plan))

pub make_attempt-after-requires-clause-stands : goal.make_attempt-after-requires-clause-stands
make_attempt-after-requires-clause-stands g c = λ lives outlive.
    c.loop-attempt.invariant.between.next (inside g (goal.at.make_attempt-after-requires-clause-stands g c).In-loop-attempt)

pub make_attempt-after-requires-clause-tickets : goal.make_attempt-after-requires-clause-tickets
make_attempt-after-requires-clause-tickets g c =
    let some = c.loop-attempt.invariant.tickets in
    let fewer = inside g (goal.at.make_attempt-after-requires-clause-tickets g c).In-loop-attempt in
    λ lives outlive. omega (arith, some, fewer)

pub make_attempt-after-requires-clause-orders : goal.make_attempt-after-requires-clause-orders
make_attempt-after-requires-clause-orders g c = λ lives outlive i i_in. sym (ap (λ (d : Draw). d.order i) (c.requires.draws c.loop-attempt.attempt))

pub add-requires : goal.add-requires
add-requires g c =
    let inv = c.loop-attempt.invariant in
    let a = c.loop-attempt.attempt in
    let fewer = inside g (goal.at.add-requires g c).In-loop-attempt in
    let long = ap length inv.between.failed ∙ length-map (below a) (verdict_in g.G.Told.plan g.G.Told.draws (lists_ended g.G.Told.plan c.loop-attempt.held.value)) ∙ length-range_with_len 0 a in
    let most = c.requires.planned.parameters.attempts_greatest in
    omega (arith, long, fewer, most)

-- the attempt was made
module _ (g : Over) (c : After-make_attempt-after g) where
  abbrev p : Sizes
  p = g.G.Told.plan

  abbrev ds : ℕ → Draw
  ds = g.G.Told.draws

  abbrev a : ℕ
  a = c.loop-attempt.attempt

  abbrev pre : List ℕ
  pre = c.args.held.value.history

  fewer : a < p.attempts
  fewer = omega (arith, c.loop-attempt-test.true, c.attempts-attempt-end.ensures.value, ap (λ (q : Sizes). q.attempts) (c.plan.ensures ∙ c.requires.next.of.plan))

  roots : roots_of c.make_attempt-after.result.held.value ≡ roots_of c.loop-attempt.held.value
  roots = c.make_attempt-after.ensures.floor.origin ∙ sym c.loop-attempt.invariant.floor.origin

  same : c.make_attempt-after.result.held.value.plan ≡ p
  same = ap (λ (r : Roots). r.plan) roots ∙ c.loop-attempt.invariant.between.plan

  took : TookPart p (turns_made c.make_attempt-after.result.held.value)
  took = record { workers = c.make_attempt-after.ensures.turns.workers; each = c.make_attempt-after.ensures.turns.each }

  nobody : pre ≡ []
  nobody =
      let inv = c.loop-attempt.invariant in
      alone_now p.workers a pre c.loop-attempt.held.value.history inv.alone inv.first c.requires.floor.named
      (none_before g.V.Device.faults p ds c.args.held.value c.requires.next c.requires.next.of.plan)
      (λ start k less.
      let few : k < length c.loop-attempt.posts = let each = inv.each in omega (arith, each, less) in
      let d = first_of c.loop-attempt.posts (omega (arith, few)) in
      c.make_attempt-after.ensures.fresh k d few (inv.unused start k d few))

  log_on : Begins c.args.held.value.recorder.log c.make_attempt-after.result.held.value.recorder.log
  log_on =
      onward c.args.held.value.recorder.log c.loop-attempt.held.value.recorder.log c.make_attempt-after.result.held.value.recorder.log c.loop-attempt.invariant.log c.make_attempt-after.ensures.log

  origin_on : roots_of c.make_attempt-after.result.held.value ≡ roots_of c.args.held.value
  origin_on = roots ∙ c.loop-attempt.invariant.origin

  input_before : (record_of : ℕ → Item) → IsFaithful p c.make_attempt-after.result.held.value.recorder.log → HasInput c.args.held.value record_of → HasInput c.loop-attempt.held.value record_of
  input_before record_of faithful =
      c.loop-attempt.invariant.input record_of
      (faithful_before p c.loop-attempt.held.value.recorder.log c.make_attempt-after.result.held.value.recorder.log c.make_attempt-after.ensures.log faithful)

  input_on : (record_of : ℕ → Item) → IsFaithful p c.make_attempt-after.result.held.value.recorder.log → HasInput c.args.held.value record_of
      → HasInput c.make_attempt-after.result.held.value record_of
  input_on record_of faithful input = c.make_attempt-after.ensures.input record_of faithful (input_before record_of faithful input)

  -- it ended with a verdict
  module _ (v : Verdict) (is : c.make_attempt-after.result.end ≡ Ok v) where
    end_is : AttemptEnd g.V.Device.faults p ds a c.make_attempt-after.result.held.value (Ok v)
    end_is = subst (AttemptEnd g.V.Device.faults p ds a c.make_attempt-after.result.held.value) is c.make_attempt-after.ensures.ends

    done_is : IsDoneByAll p (ds a) (turns_made c.make_attempt-after.result.held.value)
    done_is = subst (λ (r : Result Verdict VaultFault). OnOk r (IsDoneByAll p (ds a) (turns_made c.make_attempt-after.result.held.value))) is c.make_attempt-after.ensures.done

    failed_is : FailedByFault (Ok v) c.make_attempt-after.result.held.value.recorder.log
    failed_is = subst (λ (r : Result Verdict VaultFault). FailedByFault r c.make_attempt-after.result.held.value.recorder.log) is c.make_attempt-after.ensures.failed

    reads_is : EachGaveItsBlock ds c.make_attempt-after.result.held.value
    reads_is =
        let new = c.make_attempt-after.result.held.value in
        subst (λ (r : Result Verdict VaultFault). EachUntil (GaveItsOwn ds new) r new.recorder.log) is c.make_attempt-after.ensures.reads

pub returns-then-is_good-clause-ends : goal.returns-then-is_good-clause-ends
returns-then-is_good-clause-ends g c =
    let at = (goal.at.returns-then-is_good-clause-ends g c).After-make_attempt-after in
    ends_good g.V.Device.faults (p g at) (ds g at) (pre g at) (a g at) c.loop-attempt.held.value c.make_attempt-after.result.held.value c.loop-attempt.failures c.loop-attempt.invariant.between (fewer g at)
    (same g at) (took g at) c.make_attempt-after.ensures.history c.in-Ok.verdict (end_is g at c.in-Ok.verdict c.in-Ok.is) (nobody g at) (sym c.is_good.ensures ∙ c.if-is_good.true)

pub returns-then-is_good-clause-few : goal.returns-then-is_good-clause-few
returns-then-is_good-clause-few g c =
    let at = (goal.at.returns-then-is_good-clause-few g c).After-make_attempt-after in
    few_now g.V.Device.faults (p g at) (ds g at) (pre g at) (a g at) c.loop-attempt.held.value c.make_attempt-after.result.held.value c.loop-attempt.failures c.loop-attempt.invariant.between (fewer g at)
    (same g at) (took g at) c.make_attempt-after.ensures.history

pub returns-then-is_good-clause-took_part : goal.returns-then-is_good-clause-took_part
returns-then-is_good-clause-took_part g c =
    let at = (goal.at.returns-then-is_good-clause-took_part g c).After-make_attempt-after in
    took_part_now g.V.Device.faults (p g at) (ds g at) (pre g at) (a g at) c.loop-attempt.held.value c.make_attempt-after.result.held.value c.loop-attempt.failures c.loop-attempt.invariant.between (fewer g at)
    (same g at) (took g at) c.make_attempt-after.ensures.history

pub returns-then-is_good-clause-done : goal.returns-then-is_good-clause-done
returns-then-is_good-clause-done g c =
    let at = (goal.at.returns-then-is_good-clause-done g c).After-make_attempt-after in
    done_good g.V.Device.faults (p g at) (ds g at) (pre g at) (a g at) c.loop-attempt.held.value c.make_attempt-after.result.held.value c.loop-attempt.failures c.loop-attempt.invariant.between (fewer g at)
    (same g at) (took g at) c.make_attempt-after.ensures.history (done_is g at c.in-Ok.verdict c.in-Ok.is)

pub returns-then-is_good-clause-alone : goal.returns-then-is_good-clause-alone
returns-then-is_good-clause-alone g c = nobody g (goal.at.returns-then-is_good-clause-alone g c).After-make_attempt-after

pub returns-then-is_good-clause-log : goal.returns-then-is_good-clause-log
returns-then-is_good-clause-log g c = log_on g (goal.at.returns-then-is_good-clause-log g c).After-make_attempt-after

pub returns-then-is_good-clause-origin : goal.returns-then-is_good-clause-origin
returns-then-is_good-clause-origin g c = origin_on g (goal.at.returns-then-is_good-clause-origin g c).After-make_attempt-after

pub returns-then-is_good-clause-input : goal.returns-then-is_good-clause-input
returns-then-is_good-clause-input g c = input_on g (goal.at.returns-then-is_good-clause-input g c).After-make_attempt-after

pub returns-then-is_good-clause-outputs : goal.returns-then-is_good-clause-outputs
returns-then-is_good-clause-outputs g c = λ record_of named items faithful input called.
    let at = (goal.at.returns-then-is_good-clause-outputs g c).After-make_attempt-after in
    let q = p g at in
    let d = ds g at in
    let n = a g at in
    let new = c.make_attempt-after.result.held.value in
    let log = new.recorder.log in
    let run = c.args.held.value.run in
    let number : n ≡ named = cc called in
    let good = c.in-Ok.is ∙ ap Ok (good_is c.in-Ok.verdict (sym c.is_good.ensures ∙ c.if-is_good.true)) in
    let turns = last g.V.Device.faults q d (pre g at) n c.loop-attempt.held.value new c.loop-attempt.failures c.loop-attempt.invariant.between (fewer g at) (same g at) (took g at)
    c.make_attempt-after.ensures.history in
    subst (λ (i : ℕ). AreOutputsStored q run (d i) (turns_in (lists_ended q new) i) i record_of q.b log) number
    (subst (λ (h : List ℕ). AreOutputsStored q run (d n) h n record_of q.b log) (sym turns)
    (subst (λ (k : Keys). AreOutputsStored q k (d n) (turns_made new) n record_of q.b log) (ap (λ (r : Roots). r.run) c.loop-attempt.invariant.origin)
    (c.make_attempt-after.ensures.outputs record_of items faithful (input_before g at record_of faithful input) good)))

pub returns-then-is_good-clause-took : goal.returns-then-is_good-clause-took
returns-then-is_good-clause-took g c = c.make_attempt-after.ensures.took

pub returns-then-is_good-clause-failed : goal.returns-then-is_good-clause-failed
returns-then-is_good-clause-failed g c = failed_is g (goal.at.returns-then-is_good-clause-failed g c).After-make_attempt-after c.in-Ok.verdict c.in-Ok.is

pub returns-then-is_good-clause-reads : goal.returns-then-is_good-clause-reads
returns-then-is_good-clause-reads g c = reads_is g (goal.at.returns-then-is_good-clause-reads g c).After-make_attempt-after c.in-Ok.verdict c.in-Ok.is

pub returns-in-Err-clause-ends : goal.returns-in-Err-clause-ends
returns-in-Err-clause-ends g c =
    let at = (goal.at.returns-in-Err-clause-ends g c).After-make_attempt-after in
    let new = c.make_attempt-after.result.held.value in
    subst (λ (o : Outcome). (count : ℕ) → MayEnd g.V.Device.faults (p g at) (ds g at) (lists_ended (p g at) new) count count new c.loop-attempt.failures o) (sym c.outcome_by.ensures)
    (ends_cut g.V.Device.faults (p g at) (ds g at) (pre g at) (a g at) c.loop-attempt.held.value new c.loop-attempt.failures c.loop-attempt.invariant.between (fewer g at)
    (same g at) (took g at) c.make_attempt-after.ensures.history (nobody g at) c.in-Err.fault
    (subst (AttemptEnd g.V.Device.faults (p g at) (ds g at) (a g at) new) c.in-Err.is c.make_attempt-after.ensures.ends))

pub returns-in-Err-clause-few : goal.returns-in-Err-clause-few
returns-in-Err-clause-few g c =
    let at = (goal.at.returns-in-Err-clause-few g c).After-make_attempt-after in
    few_now g.V.Device.faults (p g at) (ds g at) (pre g at) (a g at) c.loop-attempt.held.value c.make_attempt-after.result.held.value c.loop-attempt.failures c.loop-attempt.invariant.between (fewer g at)
    (same g at) (took g at) c.make_attempt-after.ensures.history

pub returns-in-Err-clause-took_part : goal.returns-in-Err-clause-took_part
returns-in-Err-clause-took_part g c =
    let at = (goal.at.returns-in-Err-clause-took_part g c).After-make_attempt-after in
    took_part_now g.V.Device.faults (p g at) (ds g at) (pre g at) (a g at) c.loop-attempt.held.value c.make_attempt-after.result.held.value c.loop-attempt.failures c.loop-attempt.invariant.between (fewer g at)
    (same g at) (took g at) c.make_attempt-after.ensures.history

pub returns-in-Err-clause-done : goal.returns-in-Err-clause-done
returns-in-Err-clause-done g c =
    let at = (goal.at.returns-in-Err-clause-done g c).After-make_attempt-after in
    let new = c.make_attempt-after.result.held.value in
    subst (AllAreDone (p g at) (ds g at) (lists_ended (p g at) new)) (sym c.outcome_by.ensures)
    (done_cut g.V.Device.faults (p g at) (ds g at) (pre g at) (a g at) c.loop-attempt.held.value new c.loop-attempt.failures c.loop-attempt.invariant.between (fewer g at)
    (same g at) (took g at) c.make_attempt-after.ensures.history c.in-Err.fault)

pub returns-in-Err-clause-alone : goal.returns-in-Err-clause-alone
returns-in-Err-clause-alone g c = nobody g (goal.at.returns-in-Err-clause-alone g c).After-make_attempt-after

pub returns-in-Err-clause-log : goal.returns-in-Err-clause-log
returns-in-Err-clause-log g c = log_on g (goal.at.returns-in-Err-clause-log g c).After-make_attempt-after

pub returns-in-Err-clause-origin : goal.returns-in-Err-clause-origin
returns-in-Err-clause-origin g c = origin_on g (goal.at.returns-in-Err-clause-origin g c).After-make_attempt-after

pub returns-in-Err-clause-input : goal.returns-in-Err-clause-input
returns-in-Err-clause-input g c = input_on g (goal.at.returns-in-Err-clause-input g c).After-make_attempt-after

pub returns-in-Err-clause-outputs : goal.returns-in-Err-clause-outputs
returns-in-Err-clause-outputs g c = λ record_of named items faithful input called. absurd (cut_short c.in-Err.fault named (sym c.outcome_by.ensures ∙ called))

pub returns-in-Err-clause-took : goal.returns-in-Err-clause-took
returns-in-Err-clause-took g c = c.make_attempt-after.ensures.took

pub returns-in-Err-clause-failed : goal.returns-in-Err-clause-failed
returns-in-Err-clause-failed g c =
    let log = c.make_attempt-after.result.held.value.recorder.log in
    subst (λ (o : Outcome). FailedByOutcome o log) (sym c.outcome_by.ensures)
    (cut_failed c.in-Err.fault log (subst (λ (r : Result Verdict VaultFault). FailedByFault r log) c.in-Err.is c.make_attempt-after.ensures.failed))

pub returns-in-Err-clause-reads : goal.returns-in-Err-clause-reads
returns-in-Err-clause-reads g c =
    let new = c.make_attempt-after.result.held.value in
    let Own = GaveItsOwn g.G.Told.draws new in
    subst (λ (o : Outcome). ReadsOf Own o new.recorder.log) (sym c.outcome_by.ensures)
    (cut_gave Own c.in-Err.fault new.recorder.log (subst (λ (r : Result Verdict VaultFault). EachUntil Own r new.recorder.log) c.in-Err.is c.make_attempt-after.ensures.reads))

pub returns-clause-reads : goal.returns-clause-reads
returns-clause-reads g c = c.loop-attempt.invariant.reads

pub loop-attempt-preserved : goal.loop-attempt-preserved
loop-attempt-preserved g c =
    let at = (goal.at.loop-attempt-preserved g c).After-make_attempt-after in
    let inv = c.loop-attempt.invariant in
    let done = c.make_attempt-after.ensures in
    let new = c.make_attempt-after.result.held.value in
    let v = c.in-Ok.verdict in
    record {
      between = subst (IsBetween g.V.Device.faults (p g at) (ds g at) (pre g at) (a g at + 1) new) (sym c.add.ensures)
          (leads_on g.V.Device.faults (p g at) (ds g at) (pre g at) (a g at) c.loop-attempt.held.value new c.loop-attempt.failures inv.between (fewer g at) (same g at) (took g at) done.history v
          (end_is g at v c.in-Ok.is) (done_is g at v c.in-Ok.is) done.outcome (sym c.is_good.ensures ∙ c.if-is_good.false));
      floor = done.floor;
      tickets = let some = inv.tickets in let one = done.tickets in let few = fewer g at in omega (arith, some, one, few);
      each = done.each ∙ inv.each;
      posts = done.posts;
      first = λ start. absurd (omega (arith, start));
      unused = λ start. absurd (omega (arith, start));
      alone = λ some. nobody g at;
      plan = done.plan ∙ inv.plan;
      run = done.run ∙ inv.run ∙ sym (ap (λ (r : Roots). r.run) (roots g at));
      log = log_on g at;
      input = input_on g at;
      took = done.took;
      failed = failed_is g at v c.in-Ok.is;
      reads = reads_is g at v c.in-Ok.is;
      origin = origin_on g at;
    }

pub returns-clause-ends : goal.returns-clause-ends
returns-clause-ends g c =
    let inv = c.loop-attempt.invariant in
    let a = c.loop-attempt.attempt in
    let p = g.G.Told.plan in
    let least = c.requires.planned.parameters.attempts_least in
    let past = c.loop-attempt-test.false in
    let most = c.loop-attempt.auto.attempt-end in
    let value = c.attempts-attempt-end.ensures.value in
    let plan = ap (λ (q : Sizes). q.attempts) (c.plan.ensures ∙ c.requires.next.of.plan) in
    let some : 1 ≤ a = omega (arith, least, past, value, plan) in
    ends_all g.V.Device.faults p g.G.Told.draws c.args.held.value.history a c.loop-attempt.held.value c.loop-attempt.failures inv.between (inv.alone some) some
    (omega (arith, past, most, value, plan))

pub returns-clause-alone : goal.returns-clause-alone
returns-clause-alone g c =
    let a = c.loop-attempt.attempt in
    let p = g.G.Told.plan in
    let least = c.requires.planned.parameters.attempts_least in
    let past = c.loop-attempt-test.false in
    let value = c.attempts-attempt-end.ensures.value in
    let plan = ap (λ (q : Sizes). q.attempts) (c.plan.ensures ∙ c.requires.next.of.plan) in
    let some : 1 ≤ a = omega (arith, least, past, value, plan) in
    c.loop-attempt.invariant.alone some

pub returns-clause-few : goal.returns-clause-few
returns-clause-few g c =
    let most = c.loop-attempt.auto.attempt-end in
    let value = c.attempts-attempt-end.ensures.value in
    let plan = ap (λ (q : Sizes). q.attempts) (c.plan.ensures ∙ c.requires.next.of.plan) in
    few_all g.V.Device.faults g.G.Told.plan g.G.Told.draws c.args.held.value.history c.loop-attempt.attempt c.loop-attempt.held.value c.loop-attempt.failures c.loop-attempt.invariant.between
    (omega (arith, most, value, plan))

pub returns-clause-done : goal.returns-clause-done
returns-clause-done g c =
    done_all g.V.Device.faults g.G.Told.plan g.G.Told.draws c.args.held.value.history c.loop-attempt.attempt c.loop-attempt.held.value c.loop-attempt.failures c.loop-attempt.invariant.between

pub returns-clause-outputs : goal.returns-clause-outputs
returns-clause-outputs g c = λ record_of named items faithful input called. absurd (cc called)

-- The floor stands once the number is added: one in no attempt, one that has a stop, and one at work.
use Rattle.std.proofs.Common.{◌≡◌, ◌≢◌, length, Option, Some, None, refl, sym, ap, ◌∙◌, subst, arith, rules}
use Rattle.esa_floor.specs.Parts.{Parts, with_entry}
use Rattle.esa_floor.specs.Standing.{IsAtWork, attempt_begun, turns_made}
use Rattle.esa_floor.specs.Working.{Working}
use Rattle.esa_floor.specs.declared.turn.Stop.{Stop}
use Rattle.esa_floor.proofs.Resting.{none_or_some, of_on, rests_on, room_left, round_on, stops_behind, working, works_on}
use Rattle.esa_floor.proofs.Turning.{stands_later, turned}
use Rattle.esa_floor.proofs.floor.Floor.take.Goals as goal

pub returns-then-is_none-clause-stands : goal.returns-then-is_none-clause-stands
returns-then-is_none-clause-stands g c =
    let f = c.args.self.now in
    let n = c.args.worker.now.number in
    let few = c.requires.of.number in
    let worker : n ≢ f.plan.workers = λ same. absurd (omega (arith, same, few)) in
    let none : f.attempt ≡ None = search rules in
    record {
      of = of_on g.V.Device.faults g.G.Told.draws f n worker g.G.Told.plan (with_entry f n) c.requires.stands.of c.requires.room refl refl refl refl refl;
      drawn = c.requires.stands.drawn;
      state = rests_on g.V.Device.faults g.G.Told.draws f n worker none c.requires.stands.state;
    }

pub act-requires-clause-room : goal.act-requires-clause-room
act-requires-clause-room g c = λ inside.
    let f = c.args.self.now in
    let n = c.args.worker.now.number in
    let few = c.requires.of.number in
    let worker : n ≢ f.plan.workers = λ same. absurd (omega (arith, same, few)) in
    let some : f.attempt ≢ None = search rules in
    let runs : f.stop ≡ None = sym (ap (λ (x : Parts _). x.stop) c.self.view_is) ∙ c.in-None.is in
    let is = working g.V.Device.faults g.G.Told.draws f f.outcome f.attempt c.requires.stands.state some in
    room_left g.V.Device.faults g.G.Told.draws f g.G.Told.plan c.requires.stands.of is.1 runs n worker (omega (arith, inside))

pub returns-in-Some-clause-stands : goal.returns-in-Some-clause-stands
returns-in-Some-clause-stands g c =
    let f = c.args.self.now in
    let n = c.args.worker.now.number in
    let few = c.requires.of.number in
    let worker : n ≢ f.plan.workers = λ same. absurd (omega (arith, same, few)) in
    let some : f.attempt ≢ None = search rules in
    let stopped : f.stop ≡ Some c.in-Some.stop = sym (ap (λ (x : Parts _). x.stop) c.self.view_is) ∙ c.in-Some.is in
    let is = working g.V.Device.faults g.G.Told.draws f f.outcome f.attempt c.requires.stands.state some in
    record {
      of = of_on g.V.Device.faults g.G.Told.draws f n worker g.G.Told.plan (with_entry f n) c.requires.stands.of c.requires.room refl refl refl refl refl;
      drawn = c.requires.stands.drawn;
      state = works_on g.V.Device.faults g.G.Told.draws f (with_entry f n) f.outcome f.attempt is.0 is.2
          (subst (λ (s : Option Stop). IsAtWork g.V.Device.faults g.G.Told.draws (turned f n f.recorder f.stash f.counts f.counted s) (attempt_begun f)) (sym stopped)
          (stands_later g.V.Device.faults g.G.Told.draws f (attempt_begun f) n is.1 worker c.in-Some.stop stopped));
    }

pub returns-in-None-clause-stands : goal.returns-in-None-clause-stands
returns-in-None-clause-stands g c =
    let f = c.args.self.now in
    let n = c.args.worker.now.number in
    let new = c.act.new.self in
    let few = c.requires.of.number in
    let worker : n ≢ f.plan.workers = λ same. absurd (omega (arith, same, few)) in
    let some : f.attempt ≢ None = search rules in
    let is = working g.V.Device.faults g.G.Told.draws f f.outcome f.attempt c.requires.stands.state some in
    record {
      of = of_on g.V.Device.faults g.G.Told.draws f n worker g.G.Told.plan (with_entry new n) c.requires.stands.of c.requires.room
          (ap (λ (x : Parts _). x.plan) c.act.ensures.kept) (ap (λ (x : Parts _). (with_entry x n).history) c.act.ensures.kept) (ap (λ (x : Parts _). x.room) c.act.ensures.kept)
          c.act.ensures.ready c.act.ensures.room;
      drawn = c.requires.stands.drawn;
      state = works_on g.V.Device.faults g.G.Told.draws f (with_entry new n) new.outcome new.attempt
          (ap (λ (x : Parts _). x.outcome) c.act.ensures.kept ∙ is.0) (ap (λ (x : Parts _). x.attempt) c.act.ensures.kept ∙ is.2) c.act.ensures.stands.0;
    }

pub returns-in-None-clause-worker : goal.returns-in-None-clause-worker
returns-in-None-clause-worker g c = λ some.
    let f = c.args.self.now in
    let n = c.args.worker.now.number in
    let new = c.act.new.self in
    let few = c.requires.of.number in
    let worker : n ≢ f.plan.workers = λ same. absurd (omega (arith, same, few)) in
    record {
      attempt = ap (λ (x : Working _). x.attempt) c.act.ensures.moved ∙ (c.requires.worker some).attempt ∙ sym (ap (λ (x : Parts _). x.attempt) c.act.ensures.kept);
      round = λ runs. round_on g.V.Device.faults g.G.Told.draws f n worker (with_entry new n)
          (ap (λ (x : Parts _). x.plan) c.act.ensures.kept) (ap (λ (x : Parts _). (with_entry x n).history) c.act.ensures.kept) c.act.new.worker (c.act.ensures.round runs);
    }

pub returns-in-None-clause-holds : goal.returns-in-None-clause-holds
returns-in-None-clause-holds g c = c.act.ensures.holds

pub returns-then-is_none-clause-holds : goal.returns-then-is_none-clause-holds
returns-then-is_none-clause-holds g c = λ record_of input some runs second inside.
    let none : c.args.self.now.attempt ≡ None = search rules in
    absurd (some none)

pub returns-in-Some-clause-holds : goal.returns-in-Some-clause-holds
returns-in-Some-clause-holds g c = λ record_of input some runs second inside.
    let stopped : c.args.self.now.stop ≡ Some c.in-Some.stop = sym (ap (λ (x : Parts _). x.stop) c.self.view_is) ∙ c.in-Some.is in
    absurd (none_or_some c.in-Some.stop (sym stopped ∙ runs))

pub returns-in-None-clause-deals : goal.returns-in-None-clause-deals
returns-in-None-clause-deals g c = λ some before runs. c.act.ensures.deals runs

pub returns-in-None-clause-leaves : goal.returns-in-None-clause-leaves
returns-in-None-clause-leaves g c = λ some before runs. c.act.ensures.leaves runs

pub returns-in-None-clause-stops : goal.returns-in-None-clause-stops
returns-in-None-clause-stops g c = λ some runs stopped.
    let f = c.args.self.now in
    let n = c.args.worker.now.number in
    stops_behind g.V.Device.faults g.G.Told.draws (with_entry c.act.new.self n) (attempt_begun f) (length (turns_made f)) c.act.new.self.stop refl stopped c.act.ensures.stands

pub returns-then-is_none-clause-stops : goal.returns-then-is_none-clause-stops
returns-then-is_none-clause-stops g c = λ some runs stopped.
    let none : c.args.self.now.attempt ≡ None = search rules in
    absurd (some none)

pub returns-in-Some-clause-stops : goal.returns-in-Some-clause-stops
returns-in-Some-clause-stops g c = λ some runs stopped.
    let is : c.args.self.now.stop ≡ Some c.in-Some.stop = sym (ap (λ (x : Parts _). x.stop) c.self.view_is) ∙ c.in-Some.is in
    absurd (none_or_some c.in-Some.stop (sym is ∙ runs))

pub returns-in-None-clause-failed : goal.returns-in-None-clause-failed
returns-in-None-clause-failed g c = c.act.ensures.failed

pub returns-in-None-clause-reads : goal.returns-in-None-clause-reads
returns-in-None-clause-reads g c = λ some runs. c.act.ensures.reads

pub returns-then-is_none-clause-reads : goal.returns-then-is_none-clause-reads
returns-then-is_none-clause-reads g c = λ some runs.
    let none : c.args.self.now.attempt ≡ None = search rules in
    absurd (some none)

pub returns-in-Some-clause-reads : goal.returns-in-Some-clause-reads
returns-in-Some-clause-reads g c = λ some runs.
    let is : c.args.self.now.stop ≡ Some c.in-Some.stop = sym (ap (λ (x : Parts _). x.stop) c.self.view_is) ∙ c.in-Some.is in
    absurd (none_or_some c.in-Some.stop (sym is ∙ runs))

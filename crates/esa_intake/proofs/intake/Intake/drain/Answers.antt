use Rattle.std.proofs.Common.{◌≡◌, ◌≤◌, [], length, take, refl, sym, ap, subst, arith}
use Rattle.std.proofs.lemmas.List.{nil_from_length, length-take}
use Rattle.crossbeam_queue.specs.Fifo.{Pops, Learns}
use Rattle.crossbeam_queue.specs.Passes.{view}
use Rattle.esa_intake.specs.Keeping.{IsSealedOf, Kept, with_taken, TakerSees}
use Rattle.esa_intake.specs.Standing.{TakerRest}
use Rattle.esa_intake.proofs.Rules.{takes, taker_sees}
use Rattle.esa_intake.proofs.Counts.{nothing_left}
use Rattle.esa_intake.proofs.Closing.{seen_rest}
use Rattle.esa_intake.proofs.intake.Intake.drain.Goals as goal

pub pop_as-requires-clause-rule : goal.pop_as-requires-clause-rule
pop_as-requires-clause-rule g c =
    let taking = c.loop-place.invariant.taking in
    let hand = view c.loop-place.taker.pass in (
      subst (λ place. Pops Kept place hand (λ sealed now. (now ≡ with_taken hand sealed) × IsSealedOf hand.form sealed)) (sym taking.2) (takes hand taking.3),
      subst (λ place. Learns Kept place hand (TakerSees hand)) (sym taking.2) (taker_sees hand taking.3),
    )

pub returns-in-None-clause-rest : goal.returns-in-None-clause-rest
returns-in-None-clause-rest g c =
    let held = c.in-None.ensures.rule.1 in
    let hand = view c.args.taker.now.pass in
    seen_rest hand (view c.loop-place.taker.pass) (take c.loop-place.place c.loop-place.rest) held.0 c.loop-place.invariant.hand c.requires.taker.0.4 c.requires.taker.1 (nil_from_length held.0 held.1) held.2

pub returns-clause-rest : goal.returns-clause-rest
returns-clause-rest g c =
    let seen = c.learn_as.ensures.rule in
    let before = c.len_as.ensures.rule in
    let hand = view c.args.taker.now.pass in
    let later = view c.loop-place.taker.pass in
    let is = c.loop-place.invariant.hand in
    let rest = take c.loop-place.place c.loop-place.rest in
    let place : c.loop-place.place ≡ length c.loop-place.rest = omega (arith, c.loop-place-test.false, c.loop-place.auto.place-end, c.loop-place.invariant.long) in
    let few : length before.1.0 ≤ length rest = omega (arith, before.0, before.1.1, c.requires.taker.0.1, c.requires.room, c.loop-place.invariant.long, length-take c.loop-place.place c.loop-place.rest, place) in
    let left : seen.0 ≡ [] = nothing_left hand later before.1.0 seen.0 hand.taken rest before.1.2 seen.1 c.requires.taker.0.4 c.loop-place.invariant.taking.4 c.requires.taker.1 (ap (λ v. v.senders) is) (ap (λ v. v.closed) is) refl (ap (λ v. v.taken) is) few in
    subst (λ n. TakerRest c.args.taker.now (take n c.loop-place.rest)) place (seen_rest hand later rest seen.0 is c.requires.taker.0.4 c.requires.taker.1 left seen.1)

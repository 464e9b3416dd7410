-- A worker finds the floor as its pass says, and its pass has seen what the turn made of it.
use Rattle.std.proofs.Common.{◌≡◌, ℕ, ◌+◌, List, [], ◌∷◌, ◌++◌, sym, ap, ◌∙◌, subst, arith}
use Rattle.esa_laws.proofs.FinishLaws.{turns_of-append}
use Rattle.esa_turnstile.specs.Entries.{times}
use mathlib.Core.List.{IsPrefix}
use Rattle.esa_floor.specs.Trails.{trail_of as trail_in}
use Rattle.esa_floor.specs.declared.floor.Roots.{Roots}
use Rattle.esa_turnstile.specs.Passes.{added_of, opened_of, seen_of, trail_of}
use Rattle.esa_workers.proofs.Meeting.{front_trans}
use Rattle.esa_workers.proofs.Placing.{found, of_same, placed_after, same_on}
use Rattle.esa_workers.proofs.works.step.Goals as goal

pub turn_on-turn-requires-clause-finds : goal.turn_on-turn-requires-clause-finds
turn_on-turn-requires-clause-finds g c =
    let pass = c.args.post.now.pass in
    let f = c.enter-held.result.value in
    found g.V.Device.faults g.G.Told.plan g.G.Told.draws f c.enter-held.ensures.sound pass c.args.post.now.worker
    c.enter-held.ensures.begins
    (subst (λ (n : ℕ). times n f.history ≡ added_of pass) c.requires.manned.number c.enter-held.ensures.own)
    (subst (λ (n : ℕ). times n (seen_of pass) ≡ added_of pass) c.requires.manned.number c.number-number.ensures.seen)
    c.enter-held.ensures.mark c.enter-held.ensures.trail
    (c.requires.manned.of.outer ∙ sym (ap (λ (r : Roots). r.outer) c.enter-held.ensures.origin))
    (c.requires.manned.of.run ∙ sym (ap (λ (r : Roots). r.run) c.enter-held.ensures.origin)) c.requires.placed

pub returns-clause-manned : goal.returns-clause-manned
returns-clause-manned g c =
    let w = c.args.post.now.worker in
    let same = same_on w c.turn_on-turn.new.worker c.prepare.new.self c.turn_on-turn.ensures.same c.prepare.ensures.kept in
    record {
      pass = c.leave.ensures.pass.0;
      outside = c.leave.ensures.outside;
      number = c.leave.ensures.pass.1 ∙ c.enter-held.ensures.pass.1 ∙ c.requires.manned.number ∙ sym same.number;
      of = of_same (opened_of c.args.turnstile.now) g.G.Told.draws g.C.Coins.target_list w c.prepare.new.self same c.requires.manned.of;
      ready = c.prepare.ensures.ready;
    }

pub returns-clause-placed : goal.returns-clause-placed
returns-clause-placed g c =
    let t = c.turn_on-turn in
    let w = c.args.post.now.worker in
    let same = same_on w t.new.worker c.prepare.new.self t.ensures.same c.prepare.ensures.kept in
    let origin = t.ensures.origin ∙ c.enter-held.ensures.origin in
    placed_after g.V.Device.faults g.G.Told.plan g.G.Told.draws t.new.floor t.ensures.kept c.leave.new.pass t.new.worker c.prepare.new.self
    c.leave.ensures.seen.0 c.leave.ensures.seen.1 c.leave.ensures.seen.2
    (same.outer ∙ c.requires.manned.of.outer ∙ sym (ap (λ (r : Roots). r.outer) origin)) (same.run ∙ c.requires.manned.of.run ∙ sym (ap (λ (r : Roots). r.run) origin))
    c.prepare.ensures.kept c.prepare.ensures.round t.ensures.keeps t.ensures.worker t.ensures.idle

pub returns-clause-used : goal.returns-clause-used
returns-clause-used g c =
    let pass = c.args.post.now.pass in
    let f = c.enter-held.result.value in
    let begins = c.enter-held.ensures.begins in
    let number = c.leave.ensures.pass.1 ∙ c.enter-held.ensures.pass.1 in
    let all : times pass.number f.history ≡ times pass.number (seen_of pass) + times pass.number begins.0 =
    ap (times pass.number) (sym begins.1) ∙ turns_of-append pass.number (seen_of pass) begins.0 in
    let own = c.enter-held.ensures.own in
    let counted = c.number-number.ensures.seen in
    let none : times pass.number begins.0 ≡ 0 = omega (arith, all, own, counted) in
    record {
      others = begins.0;
      none_own = ap (λ (n : ℕ). times n begins.0) number ∙ none;
      seen = c.leave.ensures.seen.0 ∙ c.turn_on-turn.ensures.history
          ∙ ap (λ (n : ℕ). f.history ++ n ∷ []) (sym c.requires.manned.number ∙ sym number)
          ∙ ap (λ (l : List ℕ). l ++ c.leave.new.pass.number ∷ []) (sym begins.1);
      mark = let now = c.leave.ensures.seen.1 in let first = c.enter-held.ensures.mark in let second = c.turn_on-turn.ensures.mark in omega (arith, now, first, second);
      trail = subst (IsPrefix (trail_of pass)) (sym c.leave.ensures.seen.2)
          (front_trans (trail_of pass) (trail_in f) (trail_in c.turn_on-turn.new.floor) c.enter-held.ensures.trail c.turn_on-turn.ensures.trail);
      left = c.leave.ensures.counts.1 ∙ c.enter-held.ensures.kept.4;
      number = number;
    }

pub leave-requires-clause-trail : goal.leave-requires-clause-trail
leave-requires-clause-trail g c =
    subst (λ (l : List (List ℕ)). IsPrefix l (trail_in c.turn_on-turn.new.floor)) (sym c.enter-held.ensures.found.2) c.turn_on-turn.ensures.trail

-- The owner leaves the floor that it has begun, and finds what the crew made of it.
use Rattle.std.proofs.Common.{◌≡◌, ℕ, ◌+◌, ◌<◌, List, [], ◌∷◌, ◌++◌, All, length, get_or, sym, ap, ◌∙◌, subst, arith}
use mathlib.Core.List.{IsPrefix}
use Rattle.esa_floor.specs.Parts.{Parts}
use Rattle.esa_floor.specs.Trails.{IsKept, trail_of}
use Rattle.esa_floor.specs.declared.floor.Roots.{Roots}
use Rattle.esa_turnstile.specs.Entries.{times}
use Rattle.esa_turnstile.specs.Passes.{IsOutside, IsPassOf, added_of, found_of, found_trail_of, left_of, number_of}
use Rattle.esa_workers.specs.Meetings.{Knows}
use Rattle.esa_workers.specs.Posts.{HasWorked}
use Rattle.esa_workers.proofs.Distributing.{HasBegun, HasCrewed, HasFound, attempt_found, can_work, fresh, history_found, input_found, kept_begun, log_found, rests_at, turns_of_all, written}
use Rattle.esa_workers.proofs.Meeting.{front_refl}
use Rattle.esa_workers.proofs.distributions.distribute.Given.{Over}
use Rattle.esa_workers.proofs.distributions.distribute.Goals.{After-enter, After-keeps_its_log, After-leave}
use Rattle.esa_workers.proofs.distributions.distribute.Goals as goal

-- the attempt was begun
kept : (g : Over) (c : After-keeps_its_log g) → IsKept g.V.Device.faults g.G.Told.plan g.G.Told.draws c.begin.new.self
kept g c =
    kept_begun g.V.Device.faults g.G.Told.plan g.G.Told.draws c.args.held.value c.begin.new.self c.args.attempt c.begin.ensures.begun c.begin.ensures.stands c.keeps_its_log.ensures
    c.requires.took c.requires.failed c.requires.reads

-- and the owner has left
begun : (g : Over) (c : After-leave g) → IsKept g.V.Device.faults g.G.Told.plan g.G.Told.draws c.begin.new.self
    → HasBegun g.V.Device.faults g.G.Told.draws g.G.Told.plan c.args.held.value c.begin.new.self c.args.attempt c.leave.new.pass
begun g c keeps = record {
  is = c.begin.ensures.begun;
  kept = keeps;
  own = c.leave.ensures.pass.1 ∙ c.requires.floor.number;
  seen = c.leave.ensures.seen.0;
  mark = c.leave.ensures.seen.1;
  trail = c.leave.ensures.seen.2;
}

-- it has come in again
module _ (g : Over) (c : After-enter g) where
  number : number_of c.hear_all.new.into ≡ g.G.Told.plan.workers
  number = c.hear_all.ensures.counts.number ∙ ap number_of c.tell_all.ensures.same ∙ c.leave.ensures.pass.1 ∙ c.requires.floor.number

  found : HasFound g.V.Device.faults g.G.Told.draws g.G.Told.plan c.leave.new.pass c.hear_all.new.into c.enter.result.value
  found = record {
    kept = c.enter.ensures.sound;
    knows = subst (λ q. Knows c.hear_all.new.into q) c.tell_all.ensures.same c.hear_all.ensures.before;
    same = c.hear_all.ensures.counts.added ∙ ap added_of c.tell_all.ensures.same;
    begins = c.enter.ensures.begins;
    marks = c.enter.ensures.mark;
    trails = c.enter.ensures.trail;
    counts = subst (λ (n : ℕ). times n c.enter.result.value.history ≡ added_of c.hear_all.new.into) number c.enter.ensures.own;
  }

  crewed : HasCrewed g.V.Device.faults g.G.Told.draws g.C.Coins.target_list g.G.Told.plan c.args.turnstile.now c.args.held.value c.leave.new.pass c.hear_all.new.into c.args.posts.now c.tell_all.new.posts
      c.hear_all.new.posts
  crewed = record {
    long = c.requires.each;
    told_long = c.tell_all.ensures.each;
    new_long = ap length c.hear_all.ensures.same ∙ c.crew.ensures.each ∙ c.tell_all.ensures.each;
    rests = c.requires.posts;
    told = c.tell_all.ensures.told;
    worked = λ k d inside. subst (λ ps. HasWorked g.V.Device.faults g.G.Told.draws g.C.Coins.target_list g.G.Told.plan c.args.turnstile.now (get_or c.tell_all.new.posts k d) (get_or ps k d))
        (sym c.hear_all.ensures.same) (c.crew.ensures.worked k d inside);
    knows = λ k d inside. subst (λ ps. Knows c.hear_all.new.into (get_or ps k d).pass) (sym c.hear_all.ensures.same)
        (c.hear_all.ensures.heard k d (let same = ap length c.hear_all.ensures.same in omega (arith, same, inside)));
  }

  named : All (λ entry. entry < g.G.Told.plan.workers + 1) c.enter.result.value.history
  named = subst (λ (n : ℕ). All (λ entry. entry < n) c.enter.result.value.history) c.requires.passes c.enter.ensures.named

pub leave-requires-clause-added : goal.leave-requires-clause-added
leave-requires-clause-added g c =
    let f = c.args.held.value in
    let owner = c.args.owner.now in
    let is = c.begin.ensures.begun in
    let plan = sym (ap (λ (x : Parts _). x.plan) is) ∙ c.begin.ensures.stands.of.plan in
    ap (λ (x : Parts _). x.history) is ∙ ap (λ (l : List ℕ). l ++ f.plan.workers ∷ []) (sym c.requires.floor.found)
    ∙ ap (λ (n : ℕ). found_of owner ++ n ∷ []) (ap (λ q. q.workers) plan ∙ sym c.requires.floor.number)

pub leave-requires-clause-sound : goal.leave-requires-clause-sound
leave-requires-clause-sound g c = kept g (goal.at.leave-requires-clause-sound g c).After-keeps_its_log

pub leave-requires-clause-mark : goal.leave-requires-clause-mark
leave-requires-clause-mark g c = let first = c.requires.floor.mark in let second = c.begin.ensures.mark in omega (arith, first, second)

pub leave-requires-clause-trail : goal.leave-requires-clause-trail
leave-requires-clause-trail g c = subst (λ (x : Parts _). IsPrefix (found_trail_of c.args.owner.now) (trail_of x)) (sym c.begin.ensures.begun) c.requires.floor.trail

pub tell_all-requires-clause-posts : goal.tell_all-requires-clause-posts
tell_all-requires-clause-posts g c = λ k d inside.
    let rests = c.requires.posts k d inside in
    (rests.manned.pass, rests.manned.outside)

pub crew-requires-clause-can_work : goal.crew-requires-clause-can_work
crew-requires-clause-can_work g c = λ lives outlive k d inside.
    let at = goal.at.crew-requires-clause-can_work g c in
    let each = c.tell_all.ensures.each in
    let before : k < length c.args.posts.now = omega (arith, each, inside) in
    can_work g.V.Device.faults g.G.Told.draws g.C.Coins.target_list g.G.Told.plan c.args.turnstile.now c.args.held.value c.begin.new.self c.args.attempt c.leave.new.pass
    (begun g at.After-leave (kept g at.After-keeps_its_log))
    k (get_or c.args.posts.now k d) (get_or c.tell_all.new.posts k d) (c.requires.posts k d before) (c.tell_all.ensures.told k d before)

pub hear_all-requires-clause-into : goal.hear_all-requires-clause-into
hear_all-requires-clause-into g c =
    subst (λ p. IsPassOf c.args.turnstile.now p × IsOutside p) (sym c.tell_all.ensures.same) (c.leave.ensures.pass.0, c.leave.ensures.outside)

pub hear_all-requires-clause-posts : goal.hear_all-requires-clause-posts
hear_all-requires-clause-posts g c = λ k d inside.
    let each = c.crew.ensures.each in
    let worked = c.crew.ensures.worked k d (omega (arith, each, inside)) in
    (worked.manned.pass, worked.manned.outside)

pub enter-requires-clause-ticket : goal.enter-requires-clause-ticket
enter-requires-clause-ticket g c =
    let kept = c.hear_all.ensures.counts.left ∙ ap left_of c.tell_all.ensures.same in
    let one = c.leave.ensures.counts.1 in
    let two = c.requires.tickets in
    omega (arith, kept, one, two)

pub returns-clause-kept : goal.returns-clause-kept
returns-clause-kept g c = c.enter.ensures.sound

pub returns-clause-attempt : goal.returns-clause-attempt
returns-clause-attempt g c =
    let at = goal.at.returns-clause-attempt g c in
    attempt_found g.V.Device.faults g.G.Told.draws g.C.Coins.target_list g.G.Told.plan c.args.turnstile.now c.args.held.value c.begin.new.self c.args.attempt c.leave.new.pass
    (begun g at.After-leave (kept g at.After-keeps_its_log)) c.hear_all.new.into c.enter.result.value (found g at.After-enter)

pub returns-clause-history : goal.returns-clause-history
returns-clause-history g c =
    let at = goal.at.returns-clause-history g c in
    history_found g.V.Device.faults g.G.Told.draws g.C.Coins.target_list g.G.Told.plan c.args.turnstile.now c.args.held.value c.begin.new.self c.args.attempt c.leave.new.pass
    (begun g at.After-leave (kept g at.After-keeps_its_log)) c.hear_all.new.into c.enter.result.value (found g at.After-enter)

pub returns-clause-log : goal.returns-clause-log
returns-clause-log g c =
    let at = goal.at.returns-clause-log g c in
    log_found g.V.Device.faults g.G.Told.draws g.C.Coins.target_list g.G.Told.plan c.args.turnstile.now c.args.held.value c.begin.new.self c.args.attempt c.leave.new.pass
    (begun g at.After-leave (kept g at.After-keeps_its_log)) c.hear_all.new.into c.enter.result.value (found g at.After-enter)

pub returns-clause-input : goal.returns-clause-input
returns-clause-input g c =
    let at = goal.at.returns-clause-input g c in
    let roots = c.enter.ensures.origin ∙ sym c.requires.floor.origin in
    input_found g.V.Device.faults g.G.Told.draws g.C.Coins.target_list g.G.Told.plan c.args.turnstile.now c.args.held.value c.begin.new.self c.args.attempt c.leave.new.pass
    (begun g at.After-leave (kept g at.After-keeps_its_log)) c.hear_all.new.into c.enter.result.value (found g at.After-enter) (ap (λ (r : Roots). r.outer) roots) (ap (λ (r : Roots). r.run) roots)

pub returns-clause-all : goal.returns-clause-all
returns-clause-all g c =
    let at = goal.at.returns-clause-all g c in
    written g.V.Device.faults g.G.Told.draws g.C.Coins.target_list g.G.Told.plan c.args.turnstile.now c.args.held.value c.begin.new.self c.args.attempt c.leave.new.pass
    (begun g at.After-leave (kept g at.After-keeps_its_log)) c.hear_all.new.into c.enter.result.value (found g at.After-enter) c.args.posts.now c.tell_all.new.posts c.hear_all.new.posts (crewed g at.After-enter)
    c.requires.some (named g at.After-enter)

pub returns-clause-turns : goal.returns-clause-turns
returns-clause-turns g c =
    let at = goal.at.returns-clause-turns g c in
    turns_of_all g.V.Device.faults g.G.Told.draws g.C.Coins.target_list g.G.Told.plan c.args.turnstile.now c.args.held.value c.begin.new.self c.args.attempt c.leave.new.pass
    (begun g at.After-leave (kept g at.After-keeps_its_log)) c.hear_all.new.into c.enter.result.value (found g at.After-enter) c.args.posts.now c.tell_all.new.posts c.hear_all.new.posts (crewed g at.After-enter)
    c.requires.some (named g at.After-enter)

pub returns-clause-posts : goal.returns-clause-posts
returns-clause-posts g c = λ k d inside.
    let at = goal.at.returns-clause-posts g c in
    let all = crewed g at.After-enter in
    let here : k < g.G.Told.plan.workers = let long = all.long in let same = all.new_long in omega (arith, long, same, inside) in
    rests_at g.V.Device.faults g.G.Told.draws g.C.Coins.target_list g.G.Told.plan c.args.turnstile.now c.args.held.value c.begin.new.self c.args.attempt c.leave.new.pass
    (begun g at.After-leave (kept g at.After-keeps_its_log)) c.hear_all.new.into c.enter.result.value (found g at.After-enter) c.args.posts.now c.tell_all.new.posts c.hear_all.new.posts all
    c.requires.some (named g at.After-enter) k here d

pub returns-clause-fresh : goal.returns-clause-fresh
returns-clause-fresh g c = λ k d inside.
    let at = goal.at.returns-clause-fresh g c in
    fresh g.V.Device.faults g.G.Told.draws g.C.Coins.target_list g.G.Told.plan c.args.turnstile.now c.args.held.value c.begin.new.self c.args.attempt c.leave.new.pass
    (begun g at.After-leave (kept g at.After-keeps_its_log)) k (get_or c.args.posts.now k d) (get_or c.tell_all.new.posts k d) (c.requires.posts k d inside) (c.tell_all.ensures.told k d inside)

pub returns-clause-floor : goal.returns-clause-floor
returns-clause-floor g c =
    let at = (goal.at.returns-clause-floor g c).After-enter in
    record {
      pass = c.enter.ensures.pass.0;
      inside = c.enter.ensures.inside;
      number = c.enter.ensures.pass.1 ∙ number g at;
      found = c.enter.ensures.found.0;
      mark = let same = c.enter.ensures.found.1 in omega (arith, same);
      trail = subst (λ (l : List (List ℕ)). IsPrefix l (trail_of c.enter.result.value)) (sym c.enter.ensures.found.2) (front_refl (trail_of c.enter.result.value));
      origin = c.enter.ensures.origin;
      named = named g at;
      room =
          let fewer = c.enter.ensures.room in
          let all = c.requires.room in
          let same = ap (λ (r : Roots). r.room) c.enter.ensures.origin in
          omega (arith, fewer, all, same);
    }

pub returns-clause-tickets : goal.returns-clause-tickets
returns-clause-tickets g c =
    let kept = c.enter.ensures.kept.4 ∙ c.hear_all.ensures.counts.left ∙ ap left_of c.tell_all.ensures.same in
    let one = c.leave.ensures.counts.1 in
    omega (arith, kept, one)

pub returns-clause-each : goal.returns-clause-each
returns-clause-each g c = ap length c.hear_all.ensures.same ∙ c.crew.ensures.each ∙ c.tell_all.ensures.each

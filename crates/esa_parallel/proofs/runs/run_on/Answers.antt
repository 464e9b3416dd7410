-- The owner finds a floor on which nothing was done, and gives it up as it has ended.
use Rattle.std.proofs.Common.{◌≡◌, ◌≢◌, ℕ, ◌<◌, ◌≤◌, List, [], ◌∷◌, ◌++◌, All, length, drop, sym, ap, ◌∙◌, subst, arith, length-append}
use mathlib.Core.List.{IsPrefix}
use Rattle.esa_device.specs.Recording.{Recorded}
use Rattle.esa_params.specs.Sizes.{Sizes}
use Rattle.esa_spec.specs.Draws.{Draw}
use Rattle.esa_spec.specs.Histories.{begun, lists}
use Rattle.esa_floor.specs.Parts.{Parts}
use Rattle.esa_floor.specs.Trails.{trail_of}
use Rattle.esa_floor.specs.declared.floor.Roots.{Roots}
use Rattle.esa_shuffle.specs.Runs.{EndsRun, lists_ended, opens_last, seen_of}
use Rattle.esa_shuffle.proofs.Ending.{ends_seen, fresh}
use Rattle.esa_shuffle.proofs.Loaded.{given_where}
use Rattle.esa_turnstile.specs.Entries.{times}
use Rattle.esa_turnstile.specs.Passes.{added_of, opened_of}
use Rattle.esa_workers.proofs.Meeting.{front_refl}
use Rattle.esa_parallel.specs.Crews.{AllAreDone, AllTookPart}
use Rattle.esa_parallel.specs.Fronts.{behind}
use Rattle.esa_parallel.proofs.Fronting.{drop_on, front_long, no_log, seen_nothing, shuffled_same, unbegun}
use Rattle.esa_parallel.proofs.runs.run_on.Given.{Over}
use Rattle.esa_parallel.proofs.runs.run_on.Goals.{After-behind, After-enter-held}
use Rattle.esa_parallel.proofs.runs.run_on.Goals as goal

-- the owner has come in
module _ (g : Over) (c : After-enter-held g) where
  none : begun g.G.Told.plan.workers c.enter-held.result.value.history ≡ 0
  none =
      subst (λ (n : ℕ). times n c.enter-held.result.value.history ≡ added_of c.args.owner.now) c.requires.number c.enter-held.ensures.own ∙ c.requires.owner_new.1.nothing_added

  room : length c.enter-held.result.value.history < c.enter-held.result.value.room
  room =
      let fewer = c.enter-held.ensures.room in
      let all = c.requires.room in
      let same = ap (λ (r : Roots). r.room) c.enter-held.ensures.origin in
      omega (arith, fewer, all, same)

pub load_and_run-held-requires-clause-new : goal.load_and_run-held-requires-clause-new
load_and_run-held-requires-clause-new g c =
    let at = (goal.at.load_and_run-held-requires-clause-new g c).After-enter-held in
    λ lives outlive. unbegun g.V.Device.faults g.G.Told.plan g.G.Told.draws c.enter-held.result.value c.enter-held.ensures.sound.stands (none g at) c.requires.new.planned (room g at)

pub load_and_run-held-requires-clause-log : goal.load_and_run-held-requires-clause-log
load_and_run-held-requires-clause-log g c =
    let at = (goal.at.load_and_run-held-requires-clause-log g c).After-enter-held in
    λ lives outlive. no_log g.V.Device.faults g.G.Told.plan g.G.Told.draws c.enter-held.result.value c.enter-held.ensures.sound.stands (none g at) c.enter-held.ensures.sound.logged

pub load_and_run-held-requires-clause-floor : goal.load_and_run-held-requires-clause-floor
load_and_run-held-requires-clause-floor g c =
    let at = (goal.at.load_and_run-held-requires-clause-floor g c).After-enter-held in
    let f = c.enter-held.result.value in
    λ lives outlive. record {
      pass = c.enter-held.ensures.pass.0;
      inside = c.enter-held.ensures.inside;
      number = c.enter-held.ensures.pass.1 ∙ c.requires.number;
      found = c.enter-held.ensures.found.0;
      mark = let same = c.enter-held.ensures.found.1 in omega (arith, same);
      trail = subst (λ (l : List (List ℕ)). IsPrefix l (trail_of f)) (sym c.enter-held.ensures.found.2) (front_refl (trail_of f));
      origin = c.enter-held.ensures.origin;
      named = subst (λ (n : ℕ). All (λ entry. entry < n) f.history) c.requires.passes c.enter-held.ensures.named;
      room = room g at;
    }

pub load_and_run-held-requires-clause-tickets : goal.load_and_run-held-requires-clause-tickets
load_and_run-held-requires-clause-tickets g c =
    let kept = c.enter-held.ensures.kept.4 in
    let all = c.requires.owner_new.1.all_left in
    let enough = c.requires.tickets in
    λ lives outlive. omega (arith, kept, all, enough)

pub load_and_run-held-requires-clause-posts : goal.load_and_run-held-requires-clause-posts
load_and_run-held-requires-clause-posts g c = λ lives outlive k d inside.
    let rests = c.requires.posts k d inside in
    record {
      manned = rests.manned;
      number_is = rests.number_is;
      placed = rests.placed;
      tickets = rests.tickets;
      seen = seen_nothing _ (opened_of c.args.turnstile.now).history c.enter-held.result.value.history c.requires.new.history rests.seen;
    }

pub end-requires-clause-room : goal.end-requires-clause-room
end-requires-clause-room g c =
    let last = c.load_and_run-held.result.held.value in
    let few = c.load_and_run-held.ensures.stands.of.entries in
    let long = length-append last.history (last.plan.workers ∷ []) in
    omega (arith, few, long)

pub behind-requires : goal.behind-requires
behind-requires g c =
    let f = c.enter-held.result.value in
    let last = c.load_and_run-held.result.held.value in
    let long = front_long f.history last.history c.load_and_run-held.ensures.longer in
    let before = ap length c.history-before.ensures in
    let given = ap (λ x. length x.history) c.give-recorder.ensures ∙ ap (λ (x : Parts _). length x.history) c.end.ensures.ended in
    let more = length-append last.history (last.plan.workers ∷ []) in
    omega (arith, long, before, given, more)

-- the run has ended
module _ (g : Over) (c : After-behind g) where
  abbrev p : Sizes
  p = g.G.Told.plan

  abbrev ds : ℕ → Draw
  ds = g.G.Told.draws

  abbrev n : ℕ
  n = length c.enter-held.result.value.history

  -- the entries behind those that came before the run
  entries : c.behind.result ≡ drop n c.load_and_run-held.result.held.value.history ++ c.load_and_run-held.result.held.value.plan.workers ∷ []
  entries =
      let last = c.load_and_run-held.result.held.value in
      c.behind.ensures ∙ ap (λ (k : ℕ). drop k c.give-recorder.result.history) (ap length c.history-before.ensures)
      ∙ ap (drop n) (ap (λ x. x.history) c.give-recorder.ensures ∙ ap (λ (x : Parts _). x.history) c.end.ensures.ended)
      ∙ drop_on n last.history (last.plan.workers ∷ []) (front_long c.enter-held.result.value.history last.history c.load_and_run-held.ensures.longer)

  entries_are : drop n c.load_and_run-held.result.held.value.history ++ p.workers ∷ [] ≡ c.behind.result
  entries_are =
      ap (λ (q : Sizes). drop n c.load_and_run-held.result.held.value.history ++ q.workers ∷ []) (sym c.load_and_run-held.ensures.stands.of.plan) ∙ sym entries

  lists_are : lists_ended p (behind n c.load_and_run-held.result.held.value) ≡ lists p.workers c.behind.result
  lists_are = ap (lists p.workers) entries_are

  recorder_is : c.give-recorder.result.recorder ≡ c.load_and_run-held.result.held.value.recorder
  recorder_is = ap (λ x. x.recorder) c.give-recorder.ensures ∙ ap (λ (x : Parts _). x.recorder) c.end.ensures.ended

  ends : EndsRun p ds (lists p.workers c.behind.result)
      (seen_of g.V.Device.faults (opened_of c.args.turnstile.now).faults (g.B.Records.faults c.args.batch.now) c.give-recorder.result.recorder c.behind.result (g.B.Records.faults c.load_and_run-held.new.batch))
      (opens_last p (opened_of c.args.turnstile.now).run c.give-recorder.result.recorder.last) c.load_and_run-held.new.failures c.load_and_run-held.result.outcome
  ends =
      let opened = opened_of c.args.turnstile.now in
      let over = c.load_and_run-held.result in
      let done = c.load_and_run-held.ensures in
      let last = over.held.value in
      let before = g.B.Records.faults c.args.batch.now in
      let now = g.B.Records.faults c.load_and_run-held.new.batch in
      let failures = c.load_and_run-held.new.failures in
      let r = c.give-recorder.result.recorder in
      subst (λ (hs : List (List ℕ)). EndsRun p ds hs (seen_of g.V.Device.faults opened.faults before r c.behind.result now) (opens_last p opened.run r.last) failures over.outcome) lists_are
      (ends_seen g.V.Device.faults ds (lists_ended p (behind n last)) before now (behind n last) failures p over.outcome opened.faults opened.run r c.behind.result
      (ap (λ (x : Roots). x.faults) (done.origin ∙ c.enter-held.ensures.origin)) (ap (λ (x : Roots). x.run) (done.origin ∙ c.enter-held.ensures.origin)) recorder_is entries done.ends)

pub returns-clause-ends : goal.returns-clause-ends
returns-clause-ends g c = ends g (goal.at.returns-clause-ends g c).After-behind

pub returns-clause-few : goal.returns-clause-few
returns-clause-few g c =
    subst (λ (hs : List (List ℕ)). length hs ≤ g.G.Told.plan.attempts) (lists_are g (goal.at.returns-clause-few g c).After-behind) c.load_and_run-held.ensures.few

pub returns-clause-took_part : goal.returns-clause-took_part
returns-clause-took_part g c = subst (AllTookPart g.G.Told.plan) (lists_are g (goal.at.returns-clause-took_part g c).After-behind) c.load_and_run-held.ensures.took_part

pub returns-clause-done : goal.returns-clause-done
returns-clause-done g c =
    subst (λ (hs : List (List ℕ)). AllAreDone g.G.Told.plan g.G.Told.draws hs c.load_and_run-held.result.outcome) (lists_are g (goal.at.returns-clause-done g c).After-behind) c.load_and_run-held.ensures.done

pub returns-clause-fresh : goal.returns-clause-fresh
returns-clause-fresh g c =
    let at = (goal.at.returns-clause-fresh g c).After-behind in
    let opened = opened_of c.args.turnstile.now in
    let r = c.give-recorder.result.recorder in
    fresh (p g at) (ds g at) (lists (p g at).workers c.behind.result)
    (seen_of g.V.Device.faults opened.faults (g.B.Records.faults c.args.batch.now) r c.behind.result (g.B.Records.faults c.load_and_run-held.new.batch))
    (opens_last (p g at) opened.run r.last) c.load_and_run-held.new.failures c.load_and_run-held.result.outcome (ends g at) c.requires.new.planned

pub returns-clause-given : goal.returns-clause-given
returns-clause-given g c =
    let at = (goal.at.returns-clause-given g c).After-behind in
    let q = p g at in
    let opened = opened_of c.args.turnstile.now in
    let f = c.enter-held.result.value in
    let origin = c.enter-held.ensures.origin in
    let last = c.load_and_run-held.result.held.value in
    let h = drop (n g at) last.history in
    let has = c.load_and_run-held.ensures.given in
    record {
      given = has.given;
      load = given_where q (g.B.Records.told c.args.batch.now) (g.B.Records.part (g.B.Records.grounds c.args.batch.now)) (g.B.Records.heard c.args.batch.now) (g.B.Records.heard c.load_and_run-held.new.batch)
          (h ≢ []) (c.behind.result ≢ q.workers ∷ []) has.given (λ more none. more (sym (entries_are g at) ∙ ap (λ (xs : List ℕ). xs ++ q.workers ∷ []) none)) has.load;
      became = shuffled_same q (ds g at) c.load_and_run-held.result.outcome has.given f.outer opened.outer f.run opened.run (h ++ q.workers ∷ []) c.behind.result last.recorder.log
          c.give-recorder.result.recorder.log (ap (λ (r : Roots). r.outer) origin) (ap (λ (r : Roots). r.run) origin)
          (entries_are g at) (ap (λ (r : Recorded _). r.log) (sym (recorder_is g at))) has.became;
    }

-- What the queues and the slots hold by the turns that are done, turn after turn.
use Rattle.std.proofs.Common.{◌≡◌, ◌≢◌, ℕ, ◌-◌, List, [], ◌∷◌, ◌++◌, length, map, Option, Some, None, refl, sym, ap, ◌∙◌, subst, arith, append-nil, append_assoc, length-append}
use Rattle.esa_spec.specs.Draws.{Draw}
use Rattle.esa_spec.specs.Lines.{queued}
use Rattle.esa_spec.specs.Turns.{order}
use Rattle.esa_stash.specs.Stash.{queue_at}
use Rattle.esa_params.specs.Sizes.{Sizes}
use Rattle.esa_floor.specs.Keeping.{AreChunksStored, HoldsDone, KeepsDone, QueuesHold, QueuesHoldAfter, SlotsHold, SlotsHoldAfter, StopsAfter, StopsBehind}
use Rattle.esa_floor.specs.Parts.{Parts, begun_as, with_entry}
use Rattle.esa_floor.specs.Standing.{Stands, StopsAt, attempt_begun, turns_made}
use Rattle.esa_floor.specs.declared.turn.Stop.{Stop}
use Rattle.esa_floor.proofs.Queueing.{queues_begun}
use Rattle.esa_floor.proofs.Resting.{begun_on, none_or_some, turns_are, working}
use Rattle.esa_floor.proofs.Stopping.{roomy}
use Rattle.esa_floor.proofs.Storing.{slots_begun}
use Rattle.esa_floor.proofs.Turning.{stops_later}

is_empty : (xs : List ℕ) → length xs ≡ 0 → xs ≡ []
is_empty [] none = refl
is_empty (x ∷ xs) none = absurd (omega (arith, none))

module _ {V : Type 0} (faults : V → ℕ) (ds : ℕ → Draw) (f : Parts V) where
  abbrev StopsWith : ℕ → Option Stop → Type 0
  StopsWith done s = StopsAt faults (ds (attempt_begun f)) (attempt_begun f) f done s

  -- where there is no stop, all turns are done
  pub all_done : (h : List ℕ) → StopsBehind faults ds h f → f.stop ≡ None → h ≡ turns_made f
  all_done h stops runs =
      let all : length h ≡ length (turns_made f) = (subst (StopsWith (length h)) runs stops.stops).0 in
      let long = ap length stops.turns ∙ length-append h stops.behind in
      let none : length stops.behind ≡ 0 = omega (arith, all, long) in
      sym (stops.turns ∙ ap (λ (xs : List ℕ). h ++ xs) (is_empty stops.behind none) ∙ append-nil h)

  -- so the queues and the slots hold the records of all turns
  pub queues_done : KeepsDone faults ds f → QueuesHold ds f
  queues_done keeps record_of input some runs i inside =
      let holds = keeps some in
      subst (λ (h : List ℕ). queue_at f.stash i ≡ map record_of (queued f.plan (ds (attempt_begun f)) (order f.plan.b h) (length (order f.plan.b h)) i))
      (all_done holds.done holds.stops runs) (holds.queues record_of input i inside)

  pub slots_done : KeepsDone faults ds f → SlotsHold ds f
  slots_done keeps record_of input some runs =
      let holds = keeps some in
      subst (λ (h : List ℕ). AreChunksStored f.plan f.run (attempt_begun f) (ds (attempt_begun f)) record_of h f.recorder.log)
      (all_done holds.done holds.stops runs) (holds.slots record_of input)

  -- a floor at work whose turns have not stopped has no fault
  pub calm_on : (p : Sizes) → Stands faults p ds f → f.attempt ≢ None → f.stop ≡ None → faults f.recorder.device ≡ f.faults
  calm_on p stands some runs =
      let is = working faults ds f f.outcome f.attempt stands.state some in
      (subst (StopsWith is.1.done) runs is.1.stops).1

  pub done_all : faults f.recorder.device ≡ f.faults → f.attempt ≢ None → f.stop ≡ None → QueuesHold ds f → SlotsHold ds f → HoldsDone faults ds f
  done_all calm some runs queues slots = record {
    done = turns_made f;
    stops = record {
      behind = [];
      turns = sym (append-nil (turns_made f));
      stops = subst (StopsWith (length (turns_made f))) (sym runs) (refl, calm);
    };
    queues = λ record_of input. queues record_of input some runs;
    slots = λ record_of input. slots record_of input some runs;
  }

  -- where the turns stopped at the last one, those before it are done
  pub done_before : (h : List ℕ) → StopsAfter faults ds h f → QueuesHoldAfter ds h f → SlotsHoldAfter ds h f → HoldsDone faults ds f
  done_before h stops queues slots = record {
    done = h;
    stops = record { behind = stops.failed ∷ []; turns = stops.turns; stops = stops.stops };
    queues = queues;
    slots = slots;
  }

  -- a turn behind a stop is none of them
  module _ (n room : ℕ) (worker : n ≢ f.plan.workers) where
    abbrev after : Parts V
    after = record f { history = f.history ++ n ∷ []; room = room }

    begun_is : attempt_begun after ≡ attempt_begun f
    begun_is = ap (λ (k : ℕ). k - 1) (begun_on faults ds f n worker after refl refl)

    stops_still : (h : List ℕ) (s : Stop) → f.stop ≡ Some s → StopsBehind faults ds h f → StopsBehind faults ds h after
    stops_still h s stopped stops =
        let a = attempt_begun f in
        let why = (stops_later faults (ds a) f a n (length h) f.stop worker s (subst (StopsWith (length h)) stopped stops.stops)).1 in
        record {
          behind = stops.behind ++ n ∷ [];
          turns = turns_are faults ds f n worker after refl refl ∙ ap (λ (xs : List ℕ). xs ++ n ∷ []) stops.turns ∙ append_assoc h stops.behind (n ∷ []);
          stops = subst (λ (k : ℕ). StopsAt faults (ds k) k after (length h) f.stop) (sym begun_is)
              (subst (λ (o : Option Stop). StopsAt faults (ds a) a after (length h) o) (sym stopped)
              (roomy faults (ds a) a (with_entry f n) room (length h) (Some s) why));
        }

    pub done_still : (s : Stop) → f.stop ≡ Some s → HoldsDone faults ds f → HoldsDone faults ds after
    done_still s stopped holds = record {
      done = holds.done;
      stops = stops_still holds.done s stopped holds.stops;
      queues = λ record_of input i inside.
          subst (λ (k : ℕ). queue_at f.stash i ≡ map record_of (queued f.plan (ds k) (order f.plan.b holds.done) (length (order f.plan.b holds.done)) i)) (sym begun_is)
          (holds.queues record_of input i inside);
      slots = λ record_of input.
          subst (λ (k : ℕ). AreChunksStored f.plan f.run k (ds k) record_of holds.done f.recorder.log) (sym begun_is) (holds.slots record_of input);
    }

-- when an attempt is begun, no turn is done
pub done_begun : {V : Type 0} (faults : V → ℕ) (ds : ℕ → Draw) (f : Parts V) (p : Sizes) (attempt : ℕ) → Stands faults p ds (begun_as f attempt)
    → KeepsDone faults ds (begun_as f attempt)
done_begun faults ds f p attempt stands some =
    done_all faults ds (begun_as f attempt) (calm_on faults ds (begun_as f attempt) p stands some refl) some refl (queues_begun ds f attempt) (slots_begun ds f attempt)

-- a floor after a turn
module _ {V : Type 0} (faults : V → ℕ) (ds : ℕ → Draw) (f new : Parts V) (n room : ℕ) (worker : n ≢ f.plan.workers) (same : new.attempt ≡ f.attempt)
    (calm : new.attempt ≢ None → new.stop ≡ None → faults new.recorder.device ≡ new.faults)
    (later : f.stop ≢ None → new ≡ record f { history = f.history ++ n ∷ []; room = room })
    (queues : QueuesHold ds f → QueuesHold ds new) (slots : SlotsHold ds f → SlotsHold ds new)
    (stops : f.attempt ≢ None → f.stop ≡ None → new.stop ≢ None → StopsAfter faults ds (turns_made f) new)
    (queues_before : f.attempt ≢ None → f.stop ≡ None → new.stop ≢ None → QueuesHold ds f → QueuesHoldAfter ds (turns_made f) new)
    (slots_before : f.attempt ≢ None → f.stop ≡ None → new.stop ≢ None → SlotsHold ds f → SlotsHoldAfter ds (turns_made f) new)
  where
    by_stop : (s now : Option Stop) → f.stop ≡ s → new.stop ≡ now → KeepsDone faults ds f → KeepsDone faults ds new
    by_stop (Some s) now stopped goes keeps some =
        subst (HoldsDone faults ds) (sym (later (λ none. none_or_some s (sym stopped ∙ none))))
        (done_still faults ds f n room worker s stopped (keeps (λ none. some (same ∙ none))))
    by_stop None None runs goes keeps some =
        done_all faults ds new (calm some goes) some goes (queues (queues_done faults ds f keeps)) (slots (slots_done faults ds f keeps))
    by_stop None (Some s) runs halts keeps some =
        let was : f.attempt ≢ None = λ none. some (same ∙ none) in
        let halted : new.stop ≢ None = λ none. none_or_some s (sym halts ∙ none) in
        done_before faults ds new (turns_made f) (stops was runs halted) (queues_before was runs halted (queues_done faults ds f keeps))
        (slots_before was runs halted (slots_done faults ds f keeps))

    pub done_turn : KeepsDone faults ds f → KeepsDone faults ds new
    done_turn = by_stop f.stop new.stop refl refl

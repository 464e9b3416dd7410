-- What the rest of an attempt leaves of what its distribution made.
use Rattle.std.proofs.Common.{◌≡◌, ℕ, ◌+◌, ◌<◌, List, [], ◌∷◌, ◌++◌, All, length, Option, Some, None, Result, Ok, Err, refl, sym, ap, ◌∙◌, subst, arith}
use Rattle.std.specs.Prelude.{OnOk}
use mathlib.Core.List.{IsPrefix}
use Rattle.esa_floor.specs.Marks.{mark_of, roots_of}
use Rattle.esa_floor.specs.Parts.{Parts}
use Rattle.esa_floor.specs.Standing.{Stands, turns_made}
use Rattle.esa_floor.specs.Trails.{trail_of}
use Rattle.esa_floor.specs.Working.{Working}
use Rattle.esa_floor.specs.declared.floor.Roots.{Roots}
use Rattle.esa_floor.specs.declared.turn.Stop.{Stop}
use Rattle.esa_floor.specs.declared.turn.Stop.TheVariants as stop
use Rattle.esa_floor.proofs.Trailing.{texts_begin}
use Rattle.esa_params.specs.Sizes.{Sizes}
use Rattle.esa_spec.specs.Draws.{Draw}
use Rattle.esa_spec.specs.Fronts.{Begins}
use Rattle.esa_spec.specs.Turns.{order}
use Rattle.esa_spec.specs.Verdicts.{failing}
use Rattle.esa_spec.specs.declared.event.Verdict.{Verdict}
use Rattle.esa_vault.specs.declared.fault.VaultFault.{VaultFault}
use Rattle.esa_shuffle.specs.Attempts.{EndsByStop}
use Rattle.esa_shuffle.proofs.Stopped.{overflow_fails}
use Rattle.esa_turnstile.specs.Passes.{found_trail_of}
use Rattle.esa_turnstile.specs.declared.pass.Pass.{Pass}
use Rattle.esa_turnstile.specs.declared.turnstile.Turnstile.{Turnstile}
use Rattle.esa_workers.specs.Distributions.{AreDone, AreTurnsOfAll, HasFloor, Rests}
use Rattle.esa_workers.specs.declared.posts.Manned.{Manned}
use Rattle.esa_workers.proofs.Meeting.{front_trans}
use Rattle.esa_parallel.specs.Crews.{IsDoneByAll}

-- a floor whose recorder and stash have changed
module _ {V : Type 0} (p : Sizes) (f g : Parts V) (same : g ≡ record f { recorder = g.recorder; stash = g.stash }) where
  history_is : g.history ≡ f.history
  history_is = ap (λ (x : Parts V). x.history) same

  pub turns_still : turns_made g ≡ turns_made f
  turns_still = ap (λ (x : Parts V). turns_made x) same

  pub turns_of_all_still : AreTurnsOfAll p f.stop (turns_made f) → AreTurnsOfAll p g.stop (turns_made g)
  turns_of_all_still all = subst (λ (x : Parts V). AreTurnsOfAll p x.stop (turns_made x)) (sym same) all

  pub longer_still : (old : List ℕ) → f.history ≡ (old ++ p.workers ∷ []) ++ turns_made f → g.history ≡ (old ++ p.workers ∷ []) ++ turns_made g
  longer_still old longer = history_is ∙ longer ∙ ap (λ (h : List ℕ). (old ++ p.workers ∷ []) ++ h) (sym turns_still)

  pub has_floor_still : (t : Turnstile (Parts V) Roots) (owner : Pass (Parts V)) → Begins f.recorder.log g.recorder.log → HasFloor p t owner f → HasFloor p t owner g
  has_floor_still t owner on has = record {
    pass = has.pass;
    inside = has.inside;
    number = has.number;
    found = has.found ∙ sym history_is;
    mark = let below = has.mark in let is = ap (λ (x : Parts V). mark_of x) same in omega (arith, below, is);
    trail = front_trans (found_trail_of owner) (trail_of f) (trail_of g) has.trail (texts_begin f.recorder.log g.recorder.log on);
    origin = ap (λ (x : Parts V). roots_of x) same ∙ has.origin;
    named = subst (All (λ entry. entry < p.workers + 1)) (sym history_is) has.named;
    room = subst (λ (x : Parts V). length x.history < x.room) (sym same) has.room;
  }

  pub rests_still : {C : Type 0} (faults : V → ℕ) (ds : ℕ → Draw) (target_lists : C → ℕ → ℕ → List ℕ) (t : Turnstile (Parts V) Roots) (k : ℕ) (m : Manned (Working C) (Parts V))
      → Rests faults ds target_lists p t f k m → Rests faults ds target_lists p t g k m
  rests_still faults ds target_lists t k m rests = record {
    manned = rests.manned;
    number_is = rests.number_is;
    placed = rests.placed;
    tickets = rests.tickets;
    seen = subst (IsPrefix _) (sym history_is) rests.seen;
  }

-- where an attempt is over and no exchange failed, its turns have not stopped. So each worker found no bucket left
module _ {V : Type 0} (faults : V → ℕ) (p : Sizes) (ds : ℕ → Draw) (f : Parts V) (a : ℕ) (stands : Stands faults p ds f) (at : f.attempt ≡ Some a) (room : length f.history < f.room) where
  abbrev DoneBy : Result Verdict VaultFault → Type 0
  DoneBy end = OnOk end (IsDoneByAll p (ds a) (turns_made f))

  done_by : (end : Result Verdict VaultFault) (s : Option Stop) → f.stop ≡ s → AreDone p s (turns_made f) → EndsByStop s end → DoneBy end
  done_by (Err why) s is done stopped = tt
  done_by (Ok v) None is done stopped = λ runs. done
  done_by (Ok v) (Some (stop.StashOverflow j)) is done stopped = λ runs.
      absurd (overflow_fails faults p ds f a stands at room j is (ap (λ (q : Sizes). failing q (ds a) (order q.b (turns_made f))) stands.of.plan ∙ runs))
  done_by (Ok v) (Some (stop.DeviceFault number)) is done stopped = absurd (cc stopped)
  done_by (Ok v) (Some (stop.Tampered number)) is done stopped = absurd (cc stopped)

  pub done_by_all : (end : Result Verdict VaultFault) → EndsByStop f.stop end → AreTurnsOfAll p f.stop (turns_made f) → DoneBy end
  done_by_all end stopped all = done_by end f.stop refl all.done stopped

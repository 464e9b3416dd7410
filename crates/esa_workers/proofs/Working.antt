-- What holds of a post between two turns of its work, and once it has worked.
use Rattle.std.proofs.Common.{◌≡◌, ℕ, ◌<◌, ◌≤◌, ◌⊎◌, List, [], ◌∷◌, ◌++◌, refl, sym, ap, ◌∙◌, arith, inl, inr, append-nil, append_assoc}
use mathlib.Core.List.{IsPrefix}
use Rattle.esa_params.specs.Sizes.{Sizes}
use Rattle.esa_spec.specs.Draws.{Draw}
use Rattle.esa_floor.specs.Parts.{Parts}
use Rattle.esa_floor.specs.Working.{Working}
use Rattle.esa_floor.specs.declared.turn.Turn.{Turn}
use Rattle.esa_turnstile.specs.Passes.{left_of, mark_of, number_of, seen_of, trail_of}
use Rattle.esa_turnstile.specs.declared.pass.Pass.{Pass}
use Rattle.esa_turnstile.specs.declared.turnstile.Turnstile.{Turnstile}
use Rattle.esa_workers.specs.Posts.{CanWork, HasWorked, IsManned, IsPlaced, IsUsed}
use Rattle.esa_workers.specs.Works.{GoesOn, IsIdle, Leaves}
use Rattle.esa_workers.specs.declared.posts.Manned.{Manned}
use Rattle.esa_workers.proofs.Meeting.{front_refl, front_trans}
use Rattle.esa_workers.proofs.Counting.{HasEnough, attempts_end, goes_on}

pub one_left : {V : Type 0} (p : Sizes) (pass : Pass (Parts V)) → HasEnough p pass → 0 < left_of pass
one_left p pass (inl tickets) = tickets.one
one_left p pass (inr tickets) = tickets.one

-- the post may go on, and has seen more than at first
pub record IsGoing {V C O : Type 0} (faults : V → ℕ) (ds : ℕ → Draw) (target_lists : C → ℕ → ℕ → List ℕ) (p : Sizes) (t : Turnstile (Parts V) O) (old now : Manned (Working C) (Parts V)) : Type 0 where
  pub manned : IsManned ds target_lists t now
  pub placed : IsPlaced faults ds p now.pass now.worker now.worker.attempt
  pub enough : HasEnough p now.pass
  pub number : number_of now.pass ≡ number_of old.pass
  pub since : List ℕ
  pub seen : seen_of now.pass ≡ seen_of old.pass ++ since
  pub mark : mark_of old.pass ≤ mark_of now.pass
  pub trail : IsPrefix (trail_of old.pass) (trail_of now.pass)

module _ {V C O : Type 0} (faults : V → ℕ) (ds : ℕ → Draw) (target_lists : C → ℕ → ℕ → List ℕ) (p : Sizes) (t : Turnstile (Parts V) O) (old : Manned (Working C) (Parts V)) where
  pub starts : CanWork faults ds target_lists p t old → IsGoing faults ds target_lists p t old old
  starts can = record {
    manned = can.manned;
    placed = can.placed;
    enough = inl can.tickets;
    number = refl;
    since = [];
    seen = sym (append-nil (seen_of old.pass));
    mark = omega arith;
    trail = front_refl (trail_of old.pass);
  }

  module _ (now new : Manned (Working C) (Parts V)) (going : IsGoing faults ds target_lists p t old now) (manned : IsManned ds target_lists t new)
      (placed : IsPlaced faults ds p new.pass new.worker new.worker.attempt ⊎ IsIdle p (seen_of new.pass) (mark_of new.pass)) (used : IsUsed now.pass new.pass) where
    abbrev between : List ℕ
    between = going.since ++ used.others

    seen_is : seen_of new.pass ≡ (seen_of old.pass ++ between) ++ number_of new.pass ∷ []
    seen_is =
        used.seen ∙ ap (λ (l : List ℕ). (l ++ used.others) ++ number_of new.pass ∷ []) going.seen
        ∙ ap (λ (l : List ℕ). l ++ number_of new.pass ∷ []) (append_assoc (seen_of old.pass) going.since used.others)

    mark_is : mark_of old.pass ≤ mark_of new.pass
    mark_is = let first = going.mark in let second = used.mark in omega (arith, first, second)

    pub has_worked : (answer : Turn) → Leaves p (seen_of new.pass) (mark_of new.pass) (number_of new.pass) answer → HasWorked faults ds target_lists p t old new
    has_worked answer leaves = record {
      manned = manned;
      placed = placed;
      number = used.number ∙ going.number;
      between = between;
      seen = seen_is;
      mark = mark_is;
      trail = front_trans (trail_of old.pass) (trail_of now.pass) (trail_of new.pass) going.trail used.trail;
      left = attempts_end p now.pass new.pass used going.enough;
      answer = answer;
      leaves = leaves;
    }

    pub going_on : 1 ≤ p.b → GoesOn p (seen_of new.pass) (mark_of new.pass) (number_of new.pass) → IsGoing faults ds target_lists p t old new
    going_on buckets goes = record {
      manned = manned;
      placed = still placed;
      enough = inr (goes_on p now.pass new.pass used (mark_of new.pass) buckets goes going.enough);
      number = used.number ∙ going.number;
      since = between ++ number_of new.pass ∷ [];
      seen = seen_is ∙ append_assoc (seen_of old.pass) between (number_of new.pass ∷ []);
      mark = mark_is;
      trail = front_trans (trail_of old.pass) (trail_of now.pass) (trail_of new.pass) going.trail used.trail;
    }
      where
        still : IsPlaced faults ds p new.pass new.worker new.worker.attempt ⊎ IsIdle p (seen_of new.pass) (mark_of new.pass) → IsPlaced faults ds p new.pass new.worker new.worker.attempt
        still (inl placed) = placed
        still (inr idle) = let working = goes.at_work in absurd (omega (arith, idle, working))

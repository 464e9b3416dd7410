-- What a pass that meets others one after another has seen.
use Rattle.std.proofs.Common.{◌≡◌, ℕ, ◌+◌, ◌<◌, ◌≤◌, List, [], ◌++◌, length, get_or, set, sym, ap, ◌∙◌, subst, arith, append_assoc, append-nil}
use mathlib.Core.List.{IsPrefix}
use Rattle.esa_turnstile.specs.Passes.{seen_of, trail_of}
use Rattle.esa_turnstile.specs.declared.pass.Pass.{Pass}
use Rattle.esa_turnstile.specs.declared.turnstile.Turnstile.{Turnstile}
use Rattle.esa_workers.specs.Meetings.{HasMet, IsAsBefore, Knows, WasTold}
use Rattle.esa_workers.specs.declared.posts.Manned.{Manned}
use Rattle.esa_workers.proofs.Eaching.{one_more, rest_on}

-- beginnings of a list
pub front_refl : {X : Type 0} (xs : List X) → IsPrefix xs xs
front_refl xs = ([], append-nil xs)

pub front_trans : {X : Type 0} (xs ys zs : List X) → IsPrefix xs ys → IsPrefix ys zs → IsPrefix xs zs
front_trans {X} xs ys zs h k = (h.0 ++ k.0, sym (append_assoc xs h.0 k.0) ∙ (ap (λ (l : List X). l ++ k.0) h.1 ∙ k.1))

module _ {T : Type 0} where
  pub knows_itself : (pass : Pass T) → Knows pass pass
  knows_itself pass = record { seen = front_refl (seen_of pass); mark = omega arith; trail = front_refl (trail_of pass) }

  pub knows_on : (a b c : Pass T) → Knows b a → Knows c b → Knows c a
  knows_on a b c h k = record {
    seen = front_trans (seen_of a) (seen_of b) (seen_of c) h.seen k.seen;
    mark = let first = h.mark in let second = k.mark in omega (arith, first, second);
    trail = front_trans (trail_of a) (trail_of b) (trail_of c) h.trail k.trail;
  }

  pub as_before : (a b c : Pass T) → IsAsBefore a b → IsAsBefore b c → IsAsBefore a c
  as_before a b c h k = record { number = k.number ∙ h.number; added = k.added ∙ h.added; left = k.left ∙ h.left }

  module _ {O : Type 0} (t : Turnstile T O) (from old new : Pass T) (met : HasMet t from old new) where
    pub knows_from : Knows new from
    knows_from = record { seen = met.seen_from; mark = let most = met.mark in omega (arith, most); trail = met.trail_from }

    pub knows_old : Knows new old
    knows_old = record { seen = met.seen; mark = let most = met.mark in omega (arith, most); trail = met.trail }

    pub met_before : IsAsBefore old new
    met_before = record { number = met.number; added = met.added; left = met.left }

-- one post more was told
module _ {W T O : Type 0} (t : Turnstile T O) (from : Pass T) (old now : List (Manned W T)) (n : ℕ) (new : Manned W T) (inside : n < length now) (each : length now ≡ length old)
    (rest : (k : ℕ) (d : Manned W T) → n ≤ k → get_or now k d ≡ get_or old k d) where
  pub told_more : (item : Manned W T) (told_by : Pass T) → told_by ≡ from → WasTold t told_by (get_or now n item) new
      → ((k : ℕ) (d : Manned W T) → k < n → WasTold t from (get_or old k d) (get_or now k d))
      → (k : ℕ) (d : Manned W T) → k < n + 1 → WasTold t from (get_or old k d) (get_or (set now n new) k d)
  told_more item told_by same told before =
      one_more (WasTold t from) old now n new inside each rest item before (subst (λ (p : Pass T). WasTold t p (get_or now n item) new) same told)

  pub untold : (k : ℕ) (d : Manned W T) → n + 1 ≤ k → get_or (set now n new) k d ≡ get_or old k d
  untold = rest_on (WasTold t from) old now n new inside each rest

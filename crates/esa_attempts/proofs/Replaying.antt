-- A floor that is made, loaded, and on which attempts follow one another.
use Rattle.std.proofs.Common.{◌≡◌, ◌≢◌, ℕ, ◌+◌, ◌*◌, ◌<◌, ◌≤◌, List, [], ◌∷◌, length, take, Option, Some, None, sym, ap, ◌∙◌, subst, arith}
use Rattle.std.proofs.lemmas.List.{length-append, length-take}
use Rattle.esa_laws.proofs.FinishLaws.{length-completed}
use Rattle.esa_crew.proofs.Finishing.{begins_again, has_failed, is_over}
use Rattle.esa_crew.specs.Replays.{IsReplayed}
use Rattle.esa_floor.specs.Marks.{roots_of}
use Rattle.esa_floor.specs.Parts.{Parts, begun_as}
use Rattle.esa_floor.specs.Standing.{Stands, attempt_begun}
use Rattle.esa_floor.specs.declared.floor.Roots.{Roots}
use Rattle.esa_floor.specs.declared.turn.Stop.{Stop}
use Rattle.esa_floor.proofs.Resting.{working}
use Rattle.esa_params.specs.Sizes.{ArePlanned, Sizes}
use Rattle.esa_spec.specs.Completion.{completed, full, turns_needed}
use Rattle.esa_spec.specs.Draws.{Draw}
use Rattle.esa_spec.specs.Histories.{begun}
use Rattle.esa_shuffle.specs.Loading.{IsUnbegun}

-- a floor f that was made as g, where g has done nothing
pub made_unbegun : {V : Type 0} (faults : V → ℕ) (p plan : Sizes) (ds : ℕ → Draw) (f g : Parts V) → Stands faults p ds f → f ≡ g → ArePlanned plan → p ≡ plan
    → g.history ≡ [] → 0 < g.room → g.outcome ≡ None → g.recorder.trace ≡ [] → faults g.recorder.device ≡ g.faults → IsUnbegun faults p ds f
made_unbegun {V} faults p plan ds f g stands made planned same none some goes_on untouched calm = record {
  stands = stands;
  planned = subst ArePlanned (sym same) planned;
  none_begun = ap (λ (x : Parts V). begun x.plan.workers x.history) made ∙ ap (begun g.plan.workers) none;
  room = let empty = ap (λ (x : Parts V). length x.history) made ∙ ap length none in let room = ap (λ (x : Parts V). x.room) made in omega (arith, empty, room, some);
  outcome = ap (λ (x : Parts V). x.outcome) made ∙ goes_on;
  trace = ap (λ (x : Parts V). x.recorder.trace) made ∙ untouched;
  calm = ap (λ (x : Parts V). faults x.recorder.device) made ∙ calm ∙ sym (ap (λ (x : Parts V). x.faults) made);
}

there : (o : Option ℕ) (a : ℕ) → o ≡ Some a → o ≢ None
there o a e never = let clash : Some a ≡ None = sym e ∙ never in cc clash

-- the attempt at work is the one that was begun last
number_is : {V : Type 0} (faults : V → ℕ) (p : Sizes) (ds : ℕ → Draw) (f : Parts V) (a : ℕ) → Stands faults p ds f → f.attempt ≡ Some a → attempt_begun f ≡ a
number_is faults p ds f a stands at =
    let both : Some (attempt_begun f) ≡ Some a = sym (working faults ds f f.outcome f.attempt stands.state (there f.attempt a at)).2 ∙ at in cc both

-- and the run has not ended
goes_on : {V : Type 0} (faults : V → ℕ) (p : Sizes) (ds : ℕ → Draw) (f : Parts V) (a : ℕ) → Stands faults p ds f → f.attempt ≡ Some a → f.outcome ≡ None
goes_on faults p ds f a stands at = (working faults ds f f.outcome f.attempt stands.state (there f.attempt a at)).0

pub some_begun : {V : Type 0} (f : Parts V) (a : ℕ) → f.attempt ≡ Some a → f.attempt ≢ None
some_begun f a at = there f.attempt a at

-- a replay takes no more turns than the completed list has
few_taken : (p : Sizes) (d : Draw) (turns : List ℕ) (count : ℕ) → length (take count (full p d turns)) ≤ length turns + p.b * (p.b + 3) * p.workers
few_taken p d turns count =
    let some = length-take count (full p d turns) in
    let whole = length-take (turns_needed p d (completed p turns)) (completed p turns) in
    let long = length-completed p turns in
    omega (arith, some, whole, long)

-- the history of an attempt that was begun and replayed
longer : {V : Type 0} (d : Draw) (n a : ℕ) (turns : List ℕ) (f begun new : Parts V) → begun ≡ begun_as f a → IsReplayed begun.plan d n turns begun new
    → length new.history ≤ length f.history + 1 + (length turns + f.plan.b * (f.plan.b + 3) * f.plan.workers)
longer {V} d n a turns f begun new is replayed =
    let on = subst (λ (q : Sizes). IsReplayed q d n turns begun new) (ap (λ (x : Parts V). x.plan) is) replayed in
    let taken = ap length on.history ∙ length-append begun.history (take on.count (full f.plan d turns)) in
    let first = ap (λ (x : Parts V). length x.history) is ∙ length-append f.history (f.plan.workers ∷ []) in
    let few = few_taken f.plan d turns on.count in
    omega (arith, taken, first, few)

-- a floor with room for all turns of an attempt has it when the attempt is begun, where most is how many these are
pub room_begun : {V : Type 0} (a : ℕ) (turns : List ℕ) (f begun : Parts V) (plan : Sizes) (most entries : ℕ) → begun ≡ begun_as f a
    → most ≡ length turns + plan.b * (plan.b + 3) * plan.workers → plan ≡ f.plan → length f.history + entries ≤ f.room → 1 + most ≤ entries
    → length begun.history + length (completed begun.plan turns) ≤ begun.room
room_begun {V} a turns f begun plan most entries is value same room few =
    let all = value ∙ ap (λ (q : Sizes). length turns + q.b * (q.b + 3) * q.workers) same in
    subst (λ (x : Parts V). length x.history + length (completed x.plan turns) ≤ x.room) (sym is)
    (let long = length-completed f.plan turns in let one = length-append f.history (f.plan.workers ∷ []) in omega (arith, long, one, all, room, few))

-- behind the turns of an attempt there is room for the entries that are left
pub room_left : {V : Type 0} (d : Draw) (n a : ℕ) (turns : List ℕ) (f begun new : Parts V) (plan : Sizes) (most entries : ℕ) → begun ≡ begun_as f a
    → IsReplayed begun.plan d n turns begun new → roots_of new ≡ roots_of begun → most ≡ length turns + plan.b * (plan.b + 3) * plan.workers → plan ≡ f.plan
    → length f.history + entries ≤ f.room → length new.history + entries ≤ new.room + (1 + most)
room_left {V} d n a turns f begun new plan most entries is replayed origin value same room =
    let all = value ∙ ap (λ (q : Sizes). length turns + q.b * (q.b + 3) * q.workers) same in
    let more = longer d n a turns f begun new is replayed in
    let kept = ap (λ (r : Roots). r.room) origin ∙ ap (λ (x : Parts V). x.room) is in
    omega (arith, all, more, kept, room)

-- where the attempt at work has overflowed the stash, the next one may begin
pub leads_on : {V : Type 0} (faults : V → ℕ) (p : Sizes) (ds : ℕ → Draw) (f : Parts V) (a j : ℕ) → Stands faults p ds f → f.attempt ≡ Some a → length f.history < f.room
    → f.stop ≡ Some (Stop.StashOverflow j) → a + 1 < f.plan.attempts → Stands faults p ds (begun_as f (a + 1))
leads_on {V} faults p ds f a j stands at room stopped more =
    let some = some_begun f a at in
    let same = number_is faults p ds f a stands at in
    let within = subst (λ (q : Sizes). a + 1 < q.attempts) stands.of.plan more in
    subst (λ (n : ℕ). Stands faults p ds (begun_as f (n + 1))) same
    (begins_again faults p ds f (attempt_begun f) (is_over faults p ds f stands some room j stopped) (has_failed faults p ds f stands some room j stopped)
    (goes_on faults p ds f a stands at) (subst (λ (n : ℕ). n + 1 < p.attempts) (sym same) within))

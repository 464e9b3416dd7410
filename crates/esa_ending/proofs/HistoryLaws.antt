-- How the stored turns of a run end, by what made the access that cut it.
use Rattle.std.proofs.Common.{◌≡◌, ℕ, ◌+◌, true, List, [], length, take, Some, sym, ap, subst, ◌∙◌}
use Rattle.esa_params.specs.Sizes.{Sizes}
use Rattle.esa_params.specs.Slots.{access_of, at}
use Rattle.esa_params.specs.declared.slot.Access.{Access}
use Rattle.esa_params.specs.declared.slot.Op.{Op}
use Rattle.esa_params.specs.declared.slot.Op.TheVariants.{Read as Reads, Write as Writes}
use Rattle.esa_params.specs.declared.slot.Region.{Region}
use Rattle.esa_params.specs.declared.slot.Region.TheVariants.{Input, Mid, Tail, Output}
use Rattle.esa_spec.specs.Traces.{asked, chunk_slot}
use Rattle.esa_spec.specs.declared.event.Event.{Event}
use Rattle.esa_spec.specs.declared.event.Event.TheVariants as event
use Rattle.esa_ending.specs.Seen.{EndBy, EndsWithTurn, HistoryEnds, IsBehind, is_behind, turns_in}

module _ (p : Sizes) (made hs : List (List ℕ)) (access : Access) where
  -- a write of the load
  pub ends-in-load : access.op ≡ Writes → access.region ≡ Input → made ≡ [] → HistoryEnds p made hs access
  ends-in-load writes input none =
      subst (λ (op : Op). EndBy op access.region p made hs access) (sym writes)
      (subst (λ (region : Region). EndBy Writes region p made hs access) (sym input) none)

  by-behind : (op : Op) (region : Region) → is_behind op region ≡ true → made ≡ take (access.attempt + 1) hs → EndBy op region p made hs access
  by-behind Writes Input is all = cc
  by-behind Writes Mid is all = cc
  by-behind Writes Tail is all = all
  by-behind Writes Output is all = all
  by-behind Reads Input is all = cc
  by-behind Reads Mid is all = all
  by-behind Reads Tail is all = all
  by-behind Reads Output is all = all

  -- an access behind the turns of attempt a
  pub ends-behind : (a : ℕ) → IsBehind a access → made ≡ take (a + 1) hs → HistoryEnds p made hs access
  ends-behind a is all =
      by-behind access.op access.region is.1 (all ∙ ap (λ (n : ℕ). take (n + 1) hs) (sym is.0))

-- an access of a turn
module _ (p : Sizes) (made hs : List (List ℕ)) (a : ℕ) (long : length made ≡ a + 1) where
  by-event : (e : Event) (access : Access) → asked p a e ≡ Some access → EndsWithTurn p a (turns_in made a) access → HistoryEnds p made hs access
  by-event (event.Read j) access asks ends =
      let same : access_of p a Reads (at Input j) ≡ access = cc asks in
      subst (λ (x : Access). EndsWithTurn p a (turns_in made a) x → HistoryEnds p made hs x) same (λ by. (long, by)) ends
  by-event (event.Write j i) access asks ends =
      let same : access_of p a Writes (chunk_slot p j i) ≡ access = cc asks in
      subst (λ (x : Access). EndsWithTurn p a (turns_in made a) x → HistoryEnds p made hs x) same (λ by. (long, by)) ends
  by-event (event.Claim j) access asks ends = absurd (cc asks)
  by-event (event.Exchange j) access asks ends = absurd (cc asks)
  by-event event.Done access asks ends = absurd (cc asks)
  by-event event.Idle access asks ends = absurd (cc asks)

  pub ends-with-turn : (access : Access) → EndsWithTurn p a (turns_in made a) access → HistoryEnds p made hs access
  ends-with-turn access ends = by-event _ access ends.made ends

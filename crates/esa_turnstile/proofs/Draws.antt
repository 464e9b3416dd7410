-- The step that draws a ticket.
use Rattle.std.proofs.Common.{◌≡◌, ℕ, ◌+◌, ◌%◌, ◌^◌, ◌<◌, ◌≤◌, List, [], ◌∷◌, length, get_or, set, sum_by, Option, refl, ap, ◌∙◌, mod-eq_of_lt, arith}
use mathlib.Core.Option.{some, none}
use lib.ListN.{get_elem?}
use Rattle.atomic_table.specs.Table.{State, Me, step, keeps, Allows}
use Rattle.esa_turnstile.specs.declared.view.About.{About}
use Rattle.esa_turnstile.specs.declared.view.Mark.{Mark}
use Rattle.esa_turnstile.specs.declared.view.Stage.{Stage}
use Rattle.esa_turnstile.specs.declared.view.Stage.TheVariants.{Outside, Waiting, Inside}
use Rattle.esa_turnstile.specs.declared.view.View.{View}
use Rattle.esa_turnstile.specs.Views.{held, is_inside, left_in, with_ticket}
use Rattle.esa_turnstile.specs.Lock.{InStage, Fits, Kept}
use Rattle.esa_turnstile.specs.Steps.{Draws}
use Rattle.esa_turnstile.proofs.Totals.{at-le-sum}
use Rattle.esa_turnstile.proofs.Rebuilt.{ticket-below, same-slot, rebuilt}

in-stage-more : (log : List ℕ) (marks : ℕ → Mark) (drawn : ℕ) (st : Stage) → InStage log marks drawn st → InStage log marks (drawn + 1) st
in-stage-more log marks drawn Outside i = tt
in-stage-more log marks drawn (Waiting t) i = (i.0, omega (arith, i.1))
in-stage-more log marks drawn (Inside s) i = (omega (arith, i.0), i.1, i.2)

module _ {T O : Type 0} (log_of : T → List ℕ) (origin : T → O) (IsSound : T → Type 0) (mark : T → Mark) (about : About T) where
  abbrev K : State (Option T) (View T) → Type 0
  K s = Kept log_of origin IsSound mark about s

  fits-more : (log : List ℕ) (marks : ℕ → Mark) (drawn : ℕ) (v : View T) → Fits about log marks drawn v → Fits about log marks (drawn + 1) v
  fits-more log marks drawn v f = record { told = f.told; begins = f.begins; heard = f.heard; share = f.share; counts = f.counts; single = f.single; stage = in-stage-more log marks drawn v.stage f.stage }

  drawn-at : (s : State (Option T) (View T)) (k : K s) (id n : ℕ) (v : View T) → get_elem? s.views id ≡ some v → v.stage ≡ Outside → length v.members ≡ 1 → 0 < v.left → n ≡ k.drawn
      → K record { words = set s.words 0 ((n + 1) % 2 ^ 64); homes = s.homes; views = set s.views id (with_ticket v n) }
  drawn-at s k id n v at out single more is =
      let w : View T = with_ticket v n in let f = k.fits id v at in let d : ℕ = k.drawn in let l : ℕ = length k.log in
      let none_held : held v.stage ≡ 0 = ap held out in
      let lefts : v.left ≤ sum_by left_in s.views = at-le-sum left_in s.views id v at in
      let supply = k.supply in let small = k.small in let queue = k.queue in
      let fits : n + 1 < 2 ^ 64 = omega arith in
      let next : (n + 1) % 2 ^ 64 ≡ d + 1 = mod-eq_of_lt fits ∙ ap (λ (z : ℕ). z + 1) is in
      rebuilt log_of origin IsSound mark about s k id v w (set s.words 0 ((n + 1) % 2 ^ 64)) s.homes k.log k.marks (d + 1) at
      (ap (λ (z : List ℕ). set z 0 ((n + 1) % 2 ^ 64)) k.words ∙ ap (λ (z : ℕ). z ∷ l ∷ []) next)
      (omega arith) (omega arith) refl (λ x. refl) k.named k.bounded k.rises
      (λ j u _ e. fits-more k.log k.marks d u (k.fits j u e))
      record {
        told = f.told;
        begins = f.begins;
        heard = f.heard;
        share = let sh = f.share in omega arith;
        counts = f.counts;
        single = λ _. single;
        stage = (omega arith, omega arith);
      }
      (λ j u _ e _ h same. let b = ticket-below k.log k.marks d u.stage (k.fits j u e).stage h in omega arith)
      (same-slot log_of origin IsSound mark about s k.log k.marks id v w (set s.words 0 ((n + 1) % 2 ^ 64)) at (ap is_inside out) refl k.slot)

  pub draws : (slots id : ℕ) (me : Me (Option T) (View T)) → me.0.stage ≡ Outside → length me.0.members ≡ 1 → 0 < me.0.left
      → Allows K slots id me 0 (λ n. (n + 1) % 2 ^ 64) (Draws (step slots 0 1 0 none) me)
  draws slots id me out single more s k _ at _ =
      let n : ℕ = get_or s.words 0 0 in
      (with_ticket me.0 n, keeps, tt, drawn-at s k id n me.0 at out single more (ap (λ (z : List ℕ). get_or z 0 0) k.words), refl)

-- The step that looks whether it is a seat's turn.
use Rattle.std.proofs.Common.{◌≡◌, ◌≢◌, ℕ, ◌*◌, ◌<◌, ◌≤◌, false, List, [], ◌∷◌, length, get_or, set, All, Option, Some, IfSome, refl, sym, ap, ◌∙◌, subst, inr, ⊎_elim, true≢false, arith}
use Rattle.std.proofs.lemmas.List.Elements.{All-weaker}
use mathlib.Core.List.{IsPrefix}
use mathlib.Core.Option.{some, none, some-injective}
use mathlib.Core.Logic.{dite}
use native.Mathlib.Decide.{ℕ_discrete}
use lib.ListN.{get_elem?}
use Rattle.atomic_table.specs.Table.{State, Me, step, keeps, takes, Allows}
use Rattle.atomic_table.proofs.Lists.{set_here}
use Rattle.esa_turnstile.specs.declared.view.About.{About}
use Rattle.esa_turnstile.specs.declared.view.Mark.{Mark}
use Rattle.esa_turnstile.specs.declared.view.Member.{Member}
use Rattle.esa_turnstile.specs.declared.view.Stage.TheVariants.{Waiting}
use Rattle.esa_turnstile.specs.declared.view.View.{View}
use Rattle.esa_turnstile.specs.Entries.{times}
use Rattle.esa_turnstile.specs.Views.{held, ticket, is_inside, entered}
use Rattle.esa_turnstile.specs.Lock.{InStage, IsCounted, Fits, IsHome, IsAway, Kept}
use Rattle.esa_turnstile.specs.Steps.{sight_of, IsFound, Looks}
use Rattle.esa_turnstile.proofs.Totals.{at-below}
use Rattle.esa_turnstile.proofs.Prefixes.{prefix-length}
use Rattle.esa_turnstile.proofs.Rising.{below-as}
use Rattle.esa_turnstile.proofs.Rebuilt.{inside-held, inside-ticket, ticket-below, rebuilt, stays}

module _ {T O : Type 0} (log_of : T → List ℕ) (origin : T → O) (IsSound : T → Type 0) (mark : T → Mark) (about : About T) where
  abbrev St : Type 0
  St = State (Option T) (View T)

  abbrev K : St → Type 0
  K s = Kept log_of origin IsSound mark about s

  -- what a seat that knows the turnstile can say of the value at home
  found-home : (s : St) (k : K s) (v : View T) → Fits about k.log k.marks k.drawn v → v.seen.mark ≡ k.marks (length v.seen.entries) → length k.log < about.passes * about.tickets
      → (h : IsHome log_of origin IsSound mark about k.log k.marks s) → IsFound log_of origin IsSound mark about v h.value
  found-home s k v f marked room h =
      let short = prefix-length v.seen.entries k.log f.begins in record {
        begins = subst (IsPrefix v.seen.entries) (sym h.log_is) f.begins;
        own = All-weaker (IsCounted about.passes k.log v.seen.entries) (λ (m : Member). times m.number (log_of h.value) ≡ m.added) (λ m c. ap (times m.number) h.log_is ∙ c.in_log) v.members f.counts;
        origin_is = h.origin_is;
        sound = h.sound;
        mark_above = below-as _ _ _ _ marked h.mark_is (k.rises (length v.seen.entries) (length k.log) short);
        mark_same = λ same. h.mark_is ∙ (ap k.marks (ap length (sym h.log_is) ∙ same) ∙ sym marked);
        named = subst (All (λ (n : ℕ). n < about.passes)) (sym h.log_is) k.named;
        bounded = λ n. subst (λ (z : List ℕ). times n z ≤ about.tickets) (sym h.log_is) (k.bounded n);
        room = subst (λ (z : List ℕ). length z < about.passes * about.tickets) (sym h.log_is) room;
      }

  told-of : (o : Option (About T)) (P : About T → Type 0) (a : About T) → o ≡ Some a → IfSome o P → P a
  told-of o P a e h = subst (λ (z : Option (About T)). IfSome z P) e h

  found-for : (v : View T) (x : T) (a : About T) → a ≡ about → IsFound log_of origin IsSound mark about v x → IsFound log_of origin IsSound mark a v x
  found-for v x a e f = subst (λ (z : About T). IsFound log_of origin IsSound mark z v x) (sym e) f

  -- where its ticket is served, nobody else is inside, and so the slot is at home
  home-now : (s : St) (k : K s) (id : ℕ) (v : View T) → get_elem? s.views id ≡ some v → held v.stage ≡ 1 → is_inside v.stage ≡ false → ticket v.stage ≡ length k.log → IsHome log_of origin IsSound mark about k.log k.marks s
  home-now s k id v at holds waits mine = ⊎_elim (λ (h : IsHome log_of origin IsSound mark about k.log k.marks s). h)
      (λ (a : IsAway log_of origin IsSound mark s).
      let same : a.who ≡ id = k.alone a.who id a.with_view v a.at at (inside-held a.with_view.stage a.inside) holds
      (inside-ticket k.log k.marks k.drawn a.with_view.stage (k.fits a.who a.with_view a.at).stage a.inside ∙ sym mine) in
      let view : a.with_view ≡ v = some-injective _ _ (sym a.at ∙ (ap (get_elem? s.views) same ∙ at)) in
      absurd (true≢false (sym a.inside ∙ (ap (λ (z : View T). is_inside z.stage) view ∙ waits))))
      k.slot

  taken : (s : St) (k : K s) (id n : ℕ) (v : View T) → get_elem? s.views id ≡ some v → held v.stage ≡ 1 → n ≡ length k.log → ticket v.stage ≡ length k.log
      → (h : IsHome log_of origin IsSound mark about k.log k.marks s) → K record { words = set s.words 1 n; homes = set s.homes 0 none; views = set s.views id (entered v (sight_of log_of mark h.value)) }
  taken s k id n v at holds is mine h =
      let w : View T = entered v (sight_of log_of mark h.value) in let f = k.fits id v at in let d : ℕ = k.drawn in let l : ℕ = length k.log in
      let below = ticket-below k.log k.marks d v.stage f.stage holds in
      let now : ticket w.stage ≡ ticket v.stage = ap length h.log_is ∙ sym mine in
      rebuilt log_of origin IsSound mark about s k id v w (set s.words 1 n) (set s.homes 0 none) k.log k.marks d at
      (ap (λ (z : List ℕ). set z 1 n) k.words ∙ ap (λ (z : ℕ). d ∷ z ∷ []) is)
      (omega arith) refl refl (λ x. refl) k.named k.bounded k.rises
      (λ j u _ e. k.fits j u e)
      record {
        told = f.told;
        begins = f.begins;
        heard = f.heard;
        share = let sh = f.share in omega arith;
        counts = f.counts;
        single = λ _. f.single holds;
        stage = (omega arith, h.log_is, h.mark_is);
      }
      (λ j u ne e _ held_u same. ne (sym (k.alone id j v u at e holds held_u (sym now ∙ same))))
      (inr record { gone = ap (λ z. set z 0 none) h.there; who = id; with_view = w; at = set_here s.views id w (at-below s.views id v at); inside = refl })

  pub looks : (slots id t : ℕ) (me : Me (Option T) (View T)) → me.0.stage ≡ Waiting t
      → Allows K slots id me 1 (λ n. n) (Looks log_of origin IsSound mark (step slots 1 0 0 none) me)
  looks slots id t me waits s k _ at _ =
      let n : ℕ = get_or s.words 1 0 in let v : View T = me.0 in let f = k.fits id v at in
      let is : n ≡ length k.log = ap (λ (z : List ℕ). get_or z 1 0) k.words in
      let holds : held v.stage ≡ 1 = ap held waits in
      let room : length k.log < about.passes * about.tickets = let b = ticket-below k.log k.marks k.drawn v.stage f.stage holds in let q = k.queue in let p = k.supply in let i = subst (InStage k.log k.marks k.drawn) waits f.stage in omega arith in
      dite (ℕ_discrete n (ticket v.stage))
      (λ (hit : n ≡ ticket v.stage).
      let mine : ticket v.stage ≡ length k.log = sym hit ∙ is in
      let h = home-now s k id v at holds (ap is_inside waits) mine in (
        entered v (sight_of log_of mark h.value),
        takes 0 (Some h.value),
        ap (λ z. get_elem? z 0) h.there,
        taken s k id n v at holds is mine h,
        ((λ _. (h.value, refl, λ a e. let q = told-of v.about _ a e f.told in found-for v h.value a q.0 (found-home s k v f q.1 room h))), λ miss. absurd (miss hit)),
      ))
      (λ (miss : n ≢ ticket v.stage). (v, keeps, tt, stays log_of origin IsSound mark about s k id n v at is, ((λ hit. absurd (miss hit)), λ _. refl)))

abbrev first-slot : {T : Type 0} → Option T → List (ℕ × Option T) → Option T
first-slot d [] = d
first-slot d (p ∷ ps) = p.1

pub same-value : {T : Type 0} (m c d : List (ℕ × Option T)) (x y : T) (r : Option T) → m ≡ (0, Some x) ∷ c → m ≡ (0, r) ∷ d → r ≡ Some y → x ≡ y
same-value m c d x y r e f g = let q : Some x ≡ Some y = ap (first-slot r) (sym e ∙ f) ∙ g in cc

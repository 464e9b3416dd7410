-- What all steps of one seat have in common.
use Rattle.std.proofs.Common.{◌≡◌, ◌≢◌, ℕ, ◌+◌, ◌<◌, ◌≤◌, ◌⊎◌, true, false, List, [], ◌∷◌, length, set, All, Option, refl, sym, ap, ◌∙◌, subst, inl, inr, ⊎_elim, true≢false, arith}
use mathlib.Core.Option.{some, some-injective}
use mathlib.Core.Option as maybe
use lib.ListN.{get_elem?}
use Rattle.atomic_table.specs.Table.{State}
use Rattle.atomic_table.proofs.Lists.{at_set, set_again, set_else}
use Rattle.esa_turnstile.specs.declared.view.About.{About}
use Rattle.esa_turnstile.specs.declared.view.Mark.{Mark}
use Rattle.esa_turnstile.specs.declared.view.Stage.{Stage}
use Rattle.esa_turnstile.specs.declared.view.Stage.TheVariants.{Outside, Waiting, Inside}
use Rattle.esa_turnstile.specs.declared.view.View.{View}
use Rattle.esa_turnstile.specs.Entries.{times}
use Rattle.esa_turnstile.specs.Views.{held, ticket, is_inside, left_in, held_in, members_in, bearers}
use Rattle.esa_turnstile.specs.Lock.{InStage, Fits, IsHome, IsAway, Kept}
use Rattle.esa_turnstile.specs.Marks.{IsBelow}
use Rattle.esa_turnstile.proofs.Totals.{sum-set}

pub inside-held : (st : Stage) → is_inside st ≡ true → held st ≡ 1
inside-held Outside e = absurd (true≢false (sym e))
inside-held (Waiting t) e = absurd (true≢false (sym e))
inside-held (Inside s) e = refl

pub outside-not_inside : (st : Stage) → held st ≡ 0 → is_inside st ≡ false
outside-not_inside Outside e = refl
outside-not_inside (Waiting t) e = absurd (omega arith)
outside-not_inside (Inside s) e = absurd (omega arith)

pub ticket-below : (log : List ℕ) (marks : ℕ → Mark) (drawn : ℕ) (st : Stage) → InStage log marks drawn st → held st ≡ 1 → ticket st < drawn
ticket-below log marks drawn Outside i h = absurd (omega arith)
ticket-below log marks drawn (Waiting t) i h = i.1
ticket-below log marks drawn (Inside s) i h = let e : length s.entries ≡ length log = ap length i.1 in omega (arith, i.0)

-- who is inside has the ticket that is served
pub inside-ticket : (log : List ℕ) (marks : ℕ → Mark) (drawn : ℕ) (st : Stage) → InStage log marks drawn st → is_inside st ≡ true → ticket st ≡ length log
inside-ticket log marks drawn Outside i h = absurd (true≢false (sym h))
inside-ticket log marks drawn (Waiting t) i h = absurd (true≢false (sym h))
inside-ticket log marks drawn (Inside s) i h = ap length i.1

module _ {T O : Type 0} (log_of : T → List ℕ) (origin : T → O) (IsSound : T → Type 0) (mark : T → Mark) (about : About T) where
  abbrev pub St : Type 0
  St = State (Option T) (View T)

  abbrev pub K : St → Type 0
  K s = Kept log_of origin IsSound mark about s

  abbrev pub Home : List ℕ → (ℕ → Mark) → St → Type 0
  Home log marks s = IsHome log_of origin IsSound mark about log marks s

  abbrev pub Away : St → Type 0
  Away s = IsAway log_of origin IsSound mark s

  -- where a seat that is not inside stays out, the slot stays where it is
  pub same-slot : (s : St) (log : List ℕ) (marks : ℕ → Mark) (id : ℕ) (v w : View T) (ws : List ℕ) → get_elem? s.views id ≡ some v → is_inside v.stage ≡ false → is_inside w.stage ≡ false
      → Home log marks s ⊎ Away s → Home log marks record { words = ws; homes = s.homes; views = set s.views id w } ⊎ Away record { words = ws; homes = s.homes; views = set s.views id w }
  same-slot s log marks id v w ws at out out' slot = ⊎_elim
      (λ (h : Home log marks s). inl record {
        value = h.value;
        there = h.there;
        log_is = h.log_is;
        origin_is = h.origin_is;
        sound = h.sound;
        mark_is = h.mark_is;
        nobody = λ i u e. ⊎_elim (λ (t : (i ≡ id) × (w ≡ u)). subst (λ (z : View T). is_inside z.stage ≡ false) t.1 out') (λ (t : (i ≢ id) × (get_elem? s.views i ≡ some u)). h.nobody i u t.1) (at_set s.views id i w u e);
      })
      (λ (a : Away s). inr record {
        gone = a.gone;
        who = a.who;
        with_view = a.with_view;
        at = set_else s.views id a.who w
            (λ e. true≢false (sym a.inside ∙ ap (λ (z : View T). is_inside z.stage) (some-injective _ _ (sym a.at ∙ ap (λ (j : ℕ). get_elem? s.views j) e ∙ at)) ∙ out)) ∙ a.at;
        inside = a.inside;
      })
      slot

  -- one seat's view goes from v to w, and the words, the slot and the entries change
  pub rebuilt : (s : St) (k : K s) (id : ℕ) (v w : View T) (ws : List ℕ) (hs : List (maybe.Option (Option T))) (log : List ℕ) (marks : ℕ → Mark) (drawn : ℕ) → get_elem? s.views id ≡ some v
      → ws ≡ drawn ∷ length log ∷ []
      → (drawn + length k.log) + held v.stage ≡ (k.drawn + length log) + held w.stage
      → drawn + w.left ≡ k.drawn + v.left
      → length w.members ≡ length v.members
      → ((x : ℕ) → bearers x w ≡ bearers x v)
      → All (λ x. x < about.passes) log
      → ((x : ℕ) → times x log ≤ about.tickets)
      → ((i j : ℕ) → i ≤ j → IsBelow (marks i) (marks j))
      → ((j : ℕ) (u : View T) → j ≢ id → get_elem? s.views j ≡ some u → Fits about log marks drawn u)
      → Fits about log marks drawn w
      → ((j : ℕ) (u : View T) → j ≢ id → get_elem? s.views j ≡ some u → held w.stage ≡ 1 → held u.stage ≡ 1 → ticket w.stage ≢ ticket u.stage)
      → Home log marks record { words = ws; homes = hs; views = set s.views id w } ⊎ Away record { words = ws; homes = hs; views = set s.views id w }
      → K record { words = ws; homes = hs; views = set s.views id w }
  rebuilt s k id v w ws hs log marks drawn at words queue supply members bears named bounded rises others mine apart slot = record {
    log = log;
    marks = marks;
    drawn = drawn;
    words = words;
    queue = let t = sum-set held_in s.views id v w at in let q = k.queue in omega arith;
    alone = λ i j a b e g h l same. ⊎_elim
        (λ (p : (i ≡ id) × (w ≡ a)). ⊎_elim
        (λ (q : (j ≡ id) × (w ≡ b)). p.0 ∙ sym q.0)
        (λ (q : (j ≢ id) × (get_elem? s.views j ≡ some b)). absurd (apart j b q.0 q.1 (ap held_in p.1 ∙ h) l (ap (λ (z : View T). ticket z.stage) p.1 ∙ same)))
        (at_set s.views id j w b g))
        (λ (p : (i ≢ id) × (get_elem? s.views i ≡ some a)). ⊎_elim
        (λ (q : (j ≡ id) × (w ≡ b)). absurd (apart i a p.0 p.1 (ap held_in q.1 ∙ l) h (ap (λ (z : View T). ticket z.stage) q.1 ∙ sym same)))
        (λ (q : (j ≢ id) × (get_elem? s.views j ≡ some b)). k.alone i j a b p.1 q.1 h l same)
        (at_set s.views id j w b g))
        (at_set s.views id i w a e);
    supply = let t = sum-set left_in s.views id v w at in let q = k.supply in omega arith;
    small = k.small;
    named = named;
    bounded = bounded;
    whole = let t = sum-set members_in s.views id v w at in let q = k.whole in omega arith;
    once = λ x. let t = sum-set (bearers x) s.views id v w at in let q = k.once x in omega (arith, bears x);
    rises = rises;
    fits = λ i u e. ⊎_elim (λ (t : (i ≡ id) × (w ≡ u)). subst (Fits about log marks drawn) t.1 mine) (λ (t : (i ≢ id) × (get_elem? s.views i ≡ some u)). others i u t.0 t.1) (at_set s.views id i w u e);
    slot = slot;
  }

  -- a look at the served ticket that changes nothing
  pub stays : (s : St) (k : K s) (id n : ℕ) (v : View T) → get_elem? s.views id ≡ some v → n ≡ length k.log
      → K record { words = set s.words 1 n; homes = s.homes; views = set s.views id v }
  stays s k id n v at is =
      let same : set s.words 1 n ≡ s.words = ap (λ (z : List ℕ). set z 1 n) k.words ∙ (ap (λ (z : ℕ). k.drawn ∷ z ∷ []) is ∙ sym k.words) in
      subst (λ (z : List ℕ × List (View T)). K record { words = z.0; homes = s.homes; views = z.1 }) (λ i. (sym same i, sym (set_again s.views id v at) i)) k

-- What is known once all passes are back in one seat.
use Rattle.std.proofs.Common.{◌≡◌, ◌≢◌, ℕ, ◌<◌, List, length, All, Option, Some, IfSome, refl, sym, ap, ◌∙◌, subst, ⊎_elim, true≢false, arith}
use Rattle.std.proofs.lemmas.List.Elements.{All-weaker, All-contains}
use mathlib.Core.List.{IsPrefix}
use mathlib.Core.Option.{some, some-injective}
use lib.ListN.{get_elem?}
use Rattle.atomic_table.specs.Table.{State, Final, Seen}
use Rattle.esa_turnstile.specs.declared.view.About.{About}
use Rattle.esa_turnstile.specs.declared.view.Mark.{Mark}
use Rattle.esa_turnstile.specs.declared.view.Member.{Member}
use Rattle.esa_turnstile.specs.declared.view.Sight.{Sight}
use Rattle.esa_turnstile.specs.declared.view.Stage.TheVariants.{Outside}
use Rattle.esa_turnstile.specs.declared.view.View.{View}
use Rattle.esa_turnstile.specs.declared.pass.Pass.{Pass}
use Rattle.esa_turnstile.specs.Entries.{times}
use Rattle.esa_turnstile.specs.Views.{is_inside, members_in}
use Rattle.esa_turnstile.specs.Lock.{IsCounted, IsEarlier, IsHome, IsAway, Kept}
use Rattle.esa_turnstile.specs.Marks.{IsBelow}
use Rattle.esa_turnstile.specs.Passes.{IsNewPass, member_of}
use Rattle.esa_turnstile.specs.Closing.{Knows, IsSettled}
use Rattle.esa_turnstile.proofs.Totals.{two-le-sum}
use Rattle.esa_turnstile.proofs.Prefixes.{prefix-length, prefix-trans}
use Rattle.esa_turnstile.proofs.Rising.{below-as}
use Rattle.esa_turnstile.proofs.Rebuilt.{inside-held}

module _ {T : Type 0} where
  pub new-for : (t t' m m' : ℕ) (p : Pass T) → t ≡ t' → m ≡ m' → IsNewPass t m p → IsNewPass t' m' p
  new-for t t' m m' p e f h = subst (λ (a : ℕ × ℕ). IsNewPass a.0 a.1 p) (λ i. (e i, f i)) h

module _ {T O : Type 0} (log_of : T → List ℕ) (origin : T → O) (IsSound : T → Type 0) (mark : T → Mark) (about : About T) where
  abbrev V : Type 0
  V = View T

  abbrev St : Type 0
  St = State (Option T) V

  abbrev K : St → Type 0
  K s = Kept log_of origin IsSound mark about s

  -- who is inside stands for a pass, so where one seat outside stands for all of them nobody is
  home-alone : (s : St) (k : K s) (id : ℕ) (v : V) → get_elem? s.views id ≡ some v → v.stage ≡ Outside → length v.members ≡ about.passes → IsHome log_of origin IsSound mark about k.log k.marks s
  home-alone s k id v at out all = ⊎_elim (λ (h : IsHome log_of origin IsSound mark about k.log k.marks s). h)
      (λ (a : IsAway log_of origin IsSound mark s).
      let ne : a.who ≢ id = λ same. true≢false (sym a.inside ∙ (ap (λ (z : V). is_inside z.stage) (some-injective _ _ (sym a.at ∙ (ap (get_elem? s.views) same ∙ at))) ∙ ap is_inside out)) in
      let one : length a.with_view.members ≡ 1 = (k.fits a.who a.with_view a.at).single (inside-held a.with_view.stage a.inside) in
      let two = two-le-sum members_in s.views a.who id a.with_view v ne a.at at in let w = k.whole in absurd (omega arith))
      k.slot

  told-of : (o : Option (About T)) (P : About T → Type 0) (a : About T) → o ≡ Some a → IfSome o P → P a
  told-of o P a e h = subst (λ (z : Option (About T)). IfSome z P) e h

  settled : (s : St) (k : K s) (id : ℕ) (v : V) (x : T) → get_elem? s.views id ≡ some v → v.about ≡ Some about → (h : IsHome log_of origin IsSound mark about k.log k.marks s) → h.value ≡ x → IsSettled log_of origin IsSound mark about v x
  settled s k id v x at told h is =
      let f = k.fits id v at in let log_is : log_of x ≡ k.log = ap log_of (sym is) ∙ h.log_is in let mark_is : mark x ≡ k.marks (length k.log) = ap mark (sym is) ∙ h.mark_is in
      let begins : (s : Sight) → IsEarlier k.marks v.seen.entries s → IsPrefix s.entries k.log = λ s e. prefix-trans s.entries v.seen.entries k.log e.begins f.begins in record {
        begins = All-weaker (IsEarlier k.marks v.seen.entries) (λ (s : Sight). IsPrefix s.entries (log_of x)) (λ (s : Sight) e. subst (IsPrefix s.entries) (sym log_is) (begins s e)) v.heard f.heard;
        counts = All-weaker (IsCounted about.passes k.log v.seen.entries) (λ (m : Member). times m.number (log_of x) ≡ m.added) (λ (m : Member) c. ap (times m.number) log_is ∙ c.in_log) v.members f.counts;
        named = subst (All (λ (n : ℕ). n < about.passes)) (sym log_is) k.named;
        origin_is = ap origin (sym is) ∙ h.origin_is;
        sound = subst IsSound is h.sound;
        mark_above = All-weaker (IsEarlier k.marks v.seen.entries) (λ (s : Sight). IsBelow s.mark (mark x))
            (λ (s : Sight) e. below-as _ _ _ _ e.marked mark_is (k.rises (length s.entries) (length k.log) (prefix-length s.entries k.log (begins s e)))) v.heard f.heard;
        mark_same = All-weaker (IsEarlier k.marks v.seen.entries) (λ (s : Sight). length (log_of x) ≡ length s.entries → mark x ≡ s.mark)
            (λ (s : Sight) e same. mark_is ∙ (ap k.marks (ap length (sym log_is) ∙ same) ∙ sym e.marked)) v.heard f.heard;
      }

  -- the slot has the value
  in-slot : (ws : List ℕ) (xs : List (Option T)) (id : ℕ) (v : V) → v.stage ≡ Outside → length v.members ≡ about.passes → v.about ≡ Some about → Final (Seen K id v) ws xs
      → (x : T) × (get_elem? xs 0 ≡ some (Some x)) × IsSettled log_of origin IsSound mark about v x
  in-slot ws xs id v out all told final =
      let s = final.0 in let k = final.1.0 in let at = final.1.1 in let h = home-alone s k id v at out all in
      (h.value, final.4 0 (Some h.value) (ap (λ z. get_elem? z 0) h.there), settled s k id v h.value at told h refl)

  pub closes : (ws : List ℕ) (xs : List (Option T)) (id : ℕ) (v : V) (r : Option T) → v.stage ≡ Outside → length v.members ≡ about.passes → v.about ≡ Some about → Final (Seen K id v) ws xs → get_elem? xs 0 ≡ some r
      → (x : T) × (r ≡ Some x) × IsSettled log_of origin IsSound mark about v x
  closes ws xs id v r out all told final got = let y = in-slot ws xs id v out all told final in (y.0, some-injective _ _ (sym got ∙ y.1), y.2)

  pub closes-with : (v : V) (x y : T) (r : Option T) → r ≡ Some x → r ≡ Some y → IsSettled log_of origin IsSound mark about v x → IsSettled log_of origin IsSound mark about v y
  closes-with v x y r e f h = let q : Some x ≡ Some y = sym e ∙ f in let same : x ≡ y = cc in subst (IsSettled log_of origin IsSound mark about v) same h

  -- and so of each pass that the seat knows
  pub pass-begins : (v : V) (x : T) (p : Pass T) → IsSettled log_of origin IsSound mark about v x → Knows v p → IsPrefix p.seat.me.0.seen.entries (log_of x)
  pass-begins v x p h k = All-contains (λ (s : Sight). IsPrefix s.entries (log_of x)) v.heard p.seat.me.0.seen h.begins k.1

  pub pass-counts : (v : V) (x : T) (p : Pass T) → IsSettled log_of origin IsSound mark about v x → Knows v p → times (member_of p).number (log_of x) ≡ (member_of p).added
  pass-counts v x p h k = All-contains (λ (m : Member). times m.number (log_of x) ≡ m.added) v.members (member_of p) h.counts k.0

  pub pass-mark : (v : V) (x : T) (p : Pass T) → IsSettled log_of origin IsSound mark about v x → Knows v p → IsBelow p.seat.me.0.seen.mark (mark x)
  pass-mark v x p h k = All-contains (λ (s : Sight). IsBelow s.mark (mark x)) v.heard p.seat.me.0.seen h.mark_above k.1

  pub pass-mark_same : (v : V) (x : T) (p : Pass T) → IsSettled log_of origin IsSound mark about v x → Knows v p → length (log_of x) ≡ length p.seat.me.0.seen.entries → mark x ≡ p.seat.me.0.seen.mark
  pass-mark_same v x p h k = All-contains (λ (s : Sight). length (log_of x) ≡ length s.entries → mark x ≡ s.mark) v.heard p.seat.me.0.seen h.mark_same k.1

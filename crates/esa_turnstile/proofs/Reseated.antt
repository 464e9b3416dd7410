-- Seats that are cut in two or put together, while the words and the slot stay.
use Rattle.std.proofs.Common.{◌≡◌, ◌≢◌, ℕ, ◌+◌, ◌≤◌, true, false, List, [], ◌∷◌, ◌++◌, length, set, sum_by, Option, sym, ap, ◌∙◌, subst, inl, inr, ⊎_elim, true≢false, arith}
use Rattle.std.proofs.lemmas.Bool.{cases_Bool}
use Rattle.std.proofs.lemmas.List.Sums.{sum_by_push}
use mathlib.Core.Option.{some, some-injective}
use lib.ListN.{get_elem?}
use Rattle.atomic_table.specs.Table.{State, Splits, Joins}
use Rattle.atomic_table.proofs.Lists.{at_set, at_snoc, at_longer, set_else}
use Rattle.esa_turnstile.specs.declared.view.About.{About}
use Rattle.esa_turnstile.specs.declared.view.Mark.{Mark}
use Rattle.esa_turnstile.specs.declared.view.View.{View}
use Rattle.esa_turnstile.specs.Views.{held, is_inside, left_in, held_in, members_in, bearers}
use Rattle.esa_turnstile.specs.Lock.{Fits, IsHome, IsAway, Kept}
use Rattle.esa_turnstile.specs.Marks.{IsBelow}
use Rattle.esa_turnstile.proofs.Totals.{sum-set}
use Rattle.esa_turnstile.proofs.Rebuilt.{inside-held}

module _ {A : Type 0} (f : A → ℕ) where
  sum-split : (xs : List A) (i : ℕ) (v left right : A) → get_elem? xs i ≡ some v → f left + f right ≡ f v → sum_by f (set xs i left ++ right ∷ []) ≡ sum_by f xs
  sum-split xs i v left right at e = omega (arith, sum_by_push f (set xs i left) right, sum-set f xs i v left at)

  sum-join : (xs : List A) (i j : ℕ) (v w both spent : A) → get_elem? xs i ≡ some v → get_elem? (set xs i both) j ≡ some w → f both + f spent ≡ f v + f w → sum_by f (set (set xs i both) j spent) ≡ sum_by f xs
  sum-join xs i j v w both spent at there e = omega (arith, sum-set f xs i v both at, sum-set f (set xs i both) j w spent there)

module _ {T O : Type 0} (log_of : T → List ℕ) (origin : T → O) (IsSound : T → Type 0) (mark : T → Mark) (about : About T) where
  abbrev V : Type 0
  V = View T

  abbrev St : Type 0
  St = State (Option T) V

  abbrev K : St → Type 0
  K s = Kept log_of origin IsSound mark about s

  -- the same tickets and passes, in other seats. Who holds a ticket keeps its seat
  reseated : (s : St) (k : K s) (views : List V)
      → sum_by held_in views ≡ sum_by held_in s.views
      → sum_by left_in views ≡ sum_by left_in s.views
      → sum_by members_in views ≡ sum_by members_in s.views
      → ((x : ℕ) → sum_by (bearers x) views ≡ sum_by (bearers x) s.views)
      → ((i : ℕ) (u : V) → get_elem? views i ≡ some u → Fits about k.log k.marks k.drawn u)
      → ((i : ℕ) (u : V) → get_elem? views i ≡ some u → held u.stage ≡ 1 → get_elem? s.views i ≡ some u)
      → ((i : ℕ) (u : V) → get_elem? s.views i ≡ some u → held u.stage ≡ 1 → get_elem? views i ≡ some u)
      → K record { words = s.words; homes = s.homes; views = views }
  reseated s k views helds lefts members bears fits back forth = record {
    log = k.log;
    marks = k.marks;
    drawn = k.drawn;
    words = k.words;
    queue = k.queue ∙ ap (λ (z : ℕ). length k.log + z) (sym helds);
    alone = λ i j v w e g h l same. k.alone i j v w (back i v e h) (back j w g l) h l same;
    supply = ap (λ (z : ℕ). k.drawn + z) lefts ∙ k.supply;
    small = k.small;
    named = k.named;
    bounded = k.bounded;
    whole = members ∙ k.whole;
    once = λ x. subst (λ (z : ℕ). z ≤ 1) (sym (bears x)) (k.once x);
    rises = k.rises;
    fits = fits;
    slot = ⊎_elim
        (λ (h : IsHome log_of origin IsSound mark about k.log k.marks s). inl record {
          value = h.value;
          there = h.there;
          log_is = h.log_is;
          origin_is = h.origin_is;
          sound = h.sound;
          mark_is = h.mark_is;
          nobody = λ i u e. ⊎_elim (λ (yes : is_inside u.stage ≡ true). absurd (true≢false (sym yes ∙ h.nobody i u (back i u e (inside-held u.stage yes))))) (λ (no : is_inside u.stage ≡ false). no) (cases_Bool (is_inside u.stage));
        })
        (λ (a : IsAway log_of origin IsSound mark s). inr record { gone = a.gone; who = a.who; with_view = a.with_view; at = forth a.who a.with_view a.at (inside-held a.with_view.stage a.inside); inside = a.inside })
        k.slot;
  }

  zero-not-one : (n : ℕ) → n ≡ 0 → n ≡ 1 → ⊥
  zero-not-one n e g = omega arith

  -- who holds a ticket is not the seat that is outside
  not-it : (views : List V) (i id : ℕ) (u v : V) → get_elem? views i ≡ some u → get_elem? views id ≡ some v → held u.stage ≡ 1 → held v.stage ≡ 0 → i ≢ id
  not-it views i id u v e at h out same = zero-not-one (held v.stage) out (ap held_in (some-injective _ _ (sym at ∙ (ap (get_elem? views) (sym same) ∙ e))) ∙ h)

  pub splits : (id : ℕ) (v left right : V) → held v.stage ≡ 0 → held left.stage ≡ 0 → held right.stage ≡ 0
      → left.left + right.left ≡ v.left
      → length left.members + length right.members ≡ length v.members
      → ((x : ℕ) → bearers x left + bearers x right ≡ bearers x v)
      → ((log : List ℕ) (marks : ℕ → Mark) (drawn : ℕ) → Fits about log marks drawn v → Fits about log marks drawn left × Fits about log marks drawn right)
      → Splits K id v left right
  splits id v left right out out-left out-right lefts members bears fits s k at =
      let both = fits k.log k.marks k.drawn (k.fits id v at) in let vs : List V = set s.views id left in
      reseated s k (vs ++ right ∷ [])
      (sum-split held_in s.views id v left right at (omega arith))
      (sum-split left_in s.views id v left right at lefts)
      (sum-split members_in s.views id v left right at members)
      (λ x. sum-split (bearers x) s.views id v left right at (bears x))
      (λ i u e. ⊎_elim
      (λ (old : get_elem? vs i ≡ some u). ⊎_elim
      (λ (t : (i ≡ id) × (left ≡ u)). subst (Fits about k.log k.marks k.drawn) t.1 both.0)
      (λ (t : (i ≢ id) × (get_elem? s.views i ≡ some u)). k.fits i u t.1)
      (at_set s.views id i left u old))
      (λ (new : right ≡ u). subst (Fits about k.log k.marks k.drawn) new both.1)
      (at_snoc vs right u i e))
      (λ i u e h. ⊎_elim
      (λ (old : get_elem? vs i ≡ some u). ⊎_elim
      (λ (t : (i ≡ id) × (left ≡ u)). absurd (zero-not-one (held left.stage) out-left (ap held_in t.1 ∙ h)))
      (λ (t : (i ≢ id) × (get_elem? s.views i ≡ some u)). t.1)
      (at_set s.views id i left u old))
      (λ (new : right ≡ u). absurd (zero-not-one (held right.stage) out-right (ap held_in new ∙ h)))
      (at_snoc vs right u i e))
      (λ i u e h. at_longer vs (right ∷ []) i u (set_else s.views id i left (not-it s.views i id u v e at h out) ∙ e))

  pub joins : (id : ℕ) (v : V) (other : ℕ) (w both spent : V) → held v.stage ≡ 0 → held w.stage ≡ 0 → held both.stage ≡ 0 → held spent.stage ≡ 0
      → both.left + spent.left ≡ v.left + w.left
      → length both.members + length spent.members ≡ length v.members + length w.members
      → ((x : ℕ) → bearers x both + bearers x spent ≡ bearers x v + bearers x w)
      → ((log : List ℕ) (marks : ℕ → Mark) (drawn : ℕ) → ((i j : ℕ) → i ≤ j → IsBelow (marks i) (marks j)) → Fits about log marks drawn v → Fits about log marks drawn w → Fits about log marks drawn both × Fits about log marks drawn spent)
      → Joins K id v other w both spent
  joins id v other w both spent out out-w out-both out-spent lefts members bears fits s k at apart there =
      let vs : List V = set s.views id both in
      let there' : get_elem? s.views other ≡ some w = ⊎_elim (λ (t : (other ≡ id) × (both ≡ w)). absurd (apart t.0)) (λ (t : (other ≢ id) × (get_elem? s.views other ≡ some w)). t.1) (at_set s.views id other both w there) in
      let two = fits k.log k.marks k.drawn k.rises (k.fits id v at) (k.fits other w there') in
      reseated s k (set vs other spent)
      (sum-join held_in s.views id other v w both spent at there (omega arith))
      (sum-join left_in s.views id other v w both spent at there lefts)
      (sum-join members_in s.views id other v w both spent at there members)
      (λ x. sum-join (bearers x) s.views id other v w both spent at there (bears x))
      (λ i u e. ⊎_elim
      (λ (t : (i ≡ other) × (spent ≡ u)). subst (Fits about k.log k.marks k.drawn) t.1 two.1)
      (λ (t : (i ≢ other) × (get_elem? vs i ≡ some u)). ⊎_elim
      (λ (p : (i ≡ id) × (both ≡ u)). subst (Fits about k.log k.marks k.drawn) p.1 two.0)
      (λ (p : (i ≢ id) × (get_elem? s.views i ≡ some u)). k.fits i u p.1)
      (at_set s.views id i both u t.1))
      (at_set vs other i spent u e))
      (λ i u e h. ⊎_elim
      (λ (t : (i ≡ other) × (spent ≡ u)). absurd (zero-not-one (held spent.stage) out-spent (ap held_in t.1 ∙ h)))
      (λ (t : (i ≢ other) × (get_elem? vs i ≡ some u)). ⊎_elim
      (λ (p : (i ≡ id) × (both ≡ u)). absurd (zero-not-one (held both.stage) out-both (ap held_in p.1 ∙ h)))
      (λ (p : (i ≢ id) × (get_elem? s.views i ≡ some u)). p.1)
      (at_set s.views id i both u t.1))
      (at_set vs other i spent u e))
      (λ i u e h. set_else vs other i spent (not-it s.views i other u w e there' h out-w) ∙ (set_else s.views id i both (not-it s.views i id u v e at h out) ∙ e))

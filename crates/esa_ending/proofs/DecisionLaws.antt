-- What decides how a run ends.
use Rattle.std.proofs.Common.{inl, inr, ◌⊎◌, ◌≡◌, ℕ, suc, ◌+◌, ◌≤◌, ◌<◌, Bool, true, false, cond, ◌&&◌, List, [], ◌∷◌, ◌++◌, length, take, map, refl, sym, ◌∙◌, ap, arith}
use Rattle.std.specs.List.{flat_map, filter_map}
use Rattle.std.specs.Prelude.{Option, Some, None, slice_get}
use Rattle.esa_params.specs.Sizes.{Sizes, below, places_of}
use Rattle.esa_laws.proofs.FinishLaws.{AllBelow, All-below, All-tail}
use Rattle.esa_laws.proofs.LaterLaws.{good-ends}
use Rattle.esa_laws.proofs.OrderLaws.{finished-targets, order-below, trace-targets, verdict-targets}
use Rattle.esa_laws.proofs.Ranges.{map-below-same}
use Rattle.esa_spec.specs.Completion.{all_finished}
use Rattle.esa_spec.specs.Draws.{Draw, chosen}
use Rattle.esa_spec.specs.Lines.{batches, chosen_places}
use Rattle.esa_spec.specs.Places.{arranged, entry, exchange_of, imports, padded, places}
use Rattle.esa_spec.specs.Queue.{leaving, queue}
use Rattle.esa_spec.specs.Traces.{all_failed, good_attempt}
use Rattle.esa_spec.specs.Turns.{order}
use Rattle.esa_spec.specs.Verdicts.{is_finished, is_good, verdict}
use Rattle.esa_spec.specs.declared.event.Verdict.{Verdict}
use Rattle.esa_ending.specs.Endings.{Succeeds, ComesOut, Overflows}
use Rattle.esa_ending.specs.Seen.{Seen, stored, history_of, turns_in, verdict_in, come_out, SameTargets, SameOrders}

-- draws that agree on the targets of some attempts
module _ (p : Sizes) (ds es : ℕ → Draw) (n : ℕ) (same : (x : ℕ) → x < n → SameTargets p (ds x) (es x)) where
  pub good-same : (a : ℕ) (hs : List (List ℕ)) → a + length hs ≤ n → good_attempt p ds a hs ≡ good_attempt p es a hs
  good-same a [] a_in = refl
  good-same a (h ∷ hs) a_in =
      let here = same a (omega arith) in
      ap (λ y. cond y (cond (is_good (verdict p (ds a) h)) (Some a) (good_attempt p ds (a + 1) hs)) None) (finished-targets p (ds a) (es a) here h)
      ∙ ap (λ y. cond (is_finished p (es a) h) (cond (is_good y) (Some a) (good_attempt p ds (a + 1) hs)) None) (verdict-targets p (ds a) (es a) here h)
      ∙ ap (λ y. cond (is_finished p (es a) h) (cond (is_good (verdict p (es a) h)) (Some a) y) None) (good-same (a + 1) hs (omega arith))

module _ (p : Sizes) (ds es : ℕ → Draw) (hs : List (List ℕ)) (seen other : Seen) (same : (x : ℕ) → x < length hs → SameTargets p (ds x) (es x)) where
  pub success-same : (a e : ℕ) → Succeeds p ds hs seen a → Succeeds p es hs other e → (a ≡ e) × (seen.trace ≡ other.trace) × (seen.history ≡ other.history)
  success-same a e s t =
      let both : Some a ≡ Some e = sym s.good ∙ good-same p ds es (length hs) same 0 hs (omega arith) ∙ t.good in
      let is : a ≡ e = cc in
      let turns : stored p seen ≡ stored p other = s.turns ∙ ap (λ y. take (y + 1) hs) is ∙ sym t.turns in
      (is, s.whole ∙ trace-targets p ds es hs same ∙ sym t.whole, s.history ∙ ap (history_of p) turns ∙ sym t.history)

  pub overflow-same : (failures others : List Verdict) → Overflows p ds hs seen failures → Overflows p es hs other others
      → (failures ≡ others) × (seen.trace ≡ other.trace) × (seen.history ≡ other.history)
  overflow-same failures others s t =
      let verdicts = map-below-same (verdict_in p ds hs) (verdict_in p es hs) p.attempts
      (λ x x_in. verdict-targets p (ds x) (es x) (same x (omega (arith, s.planned))) (turns_in hs x)) in
      (s.verdicts ∙ verdicts ∙ sym t.verdicts, s.whole ∙ trace-targets p ds es hs same ∙ sym t.whole, s.history ∙ ap (history_of p) (s.turns ∙ sym t.turns) ∙ sym t.history)

  pub not-both : (a : ℕ) (failures : List Verdict) → Succeeds p ds hs seen a → Overflows p es hs other failures → ⊥
  not-both a failures s t =
      let good : good_attempt p es 0 hs ≡ Some a = sym (good-same p ds es (length hs) same 0 hs (omega arith)) ∙ s.good in
      let ends = good-ends p es 0 a hs good in
      let fails = t.failed in
      cc

-- the first good attempt, or none
module _ (p : Sizes) (ds : ℕ → Draw) where
  abbrev Ended : ℕ → List (List ℕ) → Type 0
  Ended a hs = (all_failed p ds a hs ≡ true) ⊎ ((m : ℕ) × (m < a + length hs) × (good_attempt p ds a hs ≡ Some m))

  step-by : (a : ℕ) (h : List ℕ) (hs : List (List ℕ)) (c g : Bool) → is_finished p (ds a) h ≡ c → is_good (verdict p (ds a) h) ≡ g
      → all_finished p ds a (h ∷ hs) ≡ true → (all_finished p ds (a + 1) hs ≡ true → Ended (a + 1) hs) → Ended a (h ∷ hs)
  step-by a h hs false g ec eg e later = let is = sym (ap (λ y. y && all_finished p ds (a + 1) hs) ec) ∙ e in absurd (cc)
  step-by a h hs true true ec eg e later =
      let good : good_attempt p ds a (h ∷ hs) ≡ Some a =
      ap (λ y. cond y (cond (is_good (verdict p (ds a) h)) (Some a) (good_attempt p ds (a + 1) hs)) None) ec
      ∙ ap (λ y. cond y (Some a) (good_attempt p ds (a + 1) hs)) eg in
      inr (a, omega arith, good)
  step-by a h hs true false ec eg e later = on (later (sym (ap (λ y. y && all_finished p ds (a + 1) hs) ec) ∙ e))
    where
      on : Ended (a + 1) hs → Ended a (h ∷ hs)
      on (inl fails) =
          inl (ap (λ y. cond y (cond (is_good (verdict p (ds a) h)) false true) false && all_failed p ds (a + 1) hs) ec
          ∙ ap (λ y. cond y false true && all_failed p ds (a + 1) hs) eg ∙ fails)
      on (inr found) =
          inr (
            found.0,
            (let bound = found.1 in omega arith),
            ap (λ y. cond y (cond (is_good (verdict p (ds a) h)) (Some a) (good_attempt p ds (a + 1) hs)) None) ec
                ∙ ap (λ y. cond y (Some a) (good_attempt p ds (a + 1) hs)) eg ∙ found.2,
          )

  pub ended-from : (a : ℕ) (hs : List (List ℕ)) → all_finished p ds a hs ≡ true → Ended a hs
  ended-from a [] e = inl refl
  ended-from a (h ∷ hs) e = step-by a h hs (is_finished p (ds a) h) (is_good (verdict p (ds a) h)) refl refl e (ended-from (a + 1) hs)

  pub one-of-both : (hs : List (List ℕ)) → all_finished p ds 0 hs ≡ true
      → (all_failed p ds 0 hs ≡ true) ⊎ ((a : ℕ) × (a < length hs) × (good_attempt p ds 0 hs ≡ Some a))
  one-of-both hs e = by (ended-from 0 hs e)
    where
      by : Ended 0 hs → (all_failed p ds 0 hs ≡ true) ⊎ ((a : ℕ) × (a < length hs) × (good_attempt p ds 0 hs ≡ Some a))
      by (inl fails) = inl fails
      by (inr found) = inr (found.0, (let bound = found.1 in omega arith), found.2)

-- the attempt that succeeds is one of those that are there
within-by : (a m n : ℕ) (later : Option ℕ) (c g : Bool) → cond c (cond g (Some a) later) None ≡ Some m → (later ≡ Some m → m < a + 1 + n) → m < a + suc n
within-by a m n later true true e on = let is : a ≡ m = cc in omega (arith, is)
within-by a m n later true false e on = let bound = on e in omega arith
within-by a m n later false g e on = absurd (cc)

good-within : (p : Sizes) (ds : ℕ → Draw) (a m : ℕ) (hs : List (List ℕ)) → good_attempt p ds a hs ≡ Some m → m < a + length hs
good-within p ds a m [] e = absurd (cc)
good-within p ds a m (h ∷ hs) e =
    within-by a m (length hs) (good_attempt p ds (a + 1) hs) (is_finished p (ds a) h) (is_good (verdict p (ds a) h)) e (good-within p ds (a + 1) m hs)

-- functions that agree on the elements of a list
map-same : {Y : Type 0} (f g : ℕ → Y) (b : ℕ) (xs : List ℕ) → AllBelow b xs → ((x : ℕ) → x < b → f x ≡ g x) → map f xs ≡ map g xs
map-same f g b [] all same = refl
map-same f g b (x ∷ xs) all same =
    ap (λ y. y ∷ map f xs) (same x (all 0 0 (omega arith))) ∙ ap (λ y. g x ∷ y) (map-same f g b xs (All-tail b x xs all) same)

flat-same : {Y : Type 0} (f g : ℕ → List Y) (b : ℕ) (xs : List ℕ) → AllBelow b xs → ((x : ℕ) → x < b → f x ≡ g x) → flat_map f xs ≡ flat_map g xs
flat-same f g b [] all same = refl
flat-same f g b (x ∷ xs) all same =
    ap (λ y. y ++ flat_map f xs) (same x (all 0 0 (omega arith))) ∙ ap (λ y. g x ++ y) (flat-same f g b xs (All-tail b x xs all) same)

module _ (p : Sizes) (d e : Draw) (h : List ℕ) (targets : SameTargets p d e) (orders : SameOrders p d e) where
  imports-same : (i : ℕ) → imports p d (order p.b h) i ≡ imports p e (order p.b h) i
  imports-same i =
      let o = order p.b h in
      let same : batches p d o i ≡ batches p e o i =
      map-same (chosen_places p d i) (chosen_places p e i) p.b o (order-below p.b h) (λ j j_in. ap (λ t. chosen i t (places_of p j)) (targets j j_in)) in
      ap (λ bs. flat_map (λ j. padded p.c (leaving p.c bs (exchange_of o j))) (below p.b) ++ padded p.k (queue p.c bs p.b)) same

  arranged-same : (i : ℕ) → i < p.b → arranged p d (order p.b h) i ≡ arranged p e (order p.b h) i
  arranged-same i i_in =
      ap (λ y. filter_map (entry y) (d.order i)) (imports-same i) ∙ ap (filter_map (entry (imports p e (order p.b h) i))) (orders i i_in)

  pub places-same : places p d h ≡ places p e h
  places-same = flat-same (arranged p d (order p.b h)) (arranged p e (order p.b h)) p.b (below p.b) (All-below p.b p.b (omega arith)) arranged-same

module _ (p : Sizes) (ds es : ℕ → Draw) (hs : List (List ℕ)) (seen other : Seen) (same : (x : ℕ) → x < length hs → SameTargets p (ds x) (es x)) where
  pub output-same : {X : Type 0} (a e : ℕ) (records out others : List X) → SameOrders p (ds a) (es a)
      → Succeeds p ds hs seen a → Succeeds p es hs other e
      → ComesOut p ds hs a records out → ComesOut p es hs e records others → out ≡ others
  output-same a e records out others orders s t from to =
      let a_in = good-within p ds 0 a hs s.good in
      let is = (success-same p ds es hs seen other same a e s t).0 in
      from.order
      ∙ ap (filter_map (slice_get records)) (places-same p (ds a) (es a) (turns_in hs a) (same a (omega arith)) orders)
      ∙ ap (λ y. come_out p (es y) (turns_in hs y) records) is
      ∙ sym to.order

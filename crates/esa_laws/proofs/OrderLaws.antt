-- Neither the verdict nor the accesses depend on the orders, nor on targets of a bucket or an attempt that isn't there.
use Rattle.std.proofs.Common.{◌≡◌, ℕ, suc, ◌+◌, ◌<◌, true, false, cond, ◌||◌, ◌==◌, ◌*◌, List, [], ◌∷◌, ◌++◌, length, take, map, refl, sym, ◌∙◌, ap, arith, subst}
use Rattle.std.specs.List.{filter_map, count_by}
use Rattle.std.specs.Prelude.{Option, Some, None, is_some, nat_lt, option_to_list, unwrap_or}
use Rattle.std.proofs.lemmas.List.Elements.{All-append}
use Rattle.esa_params.specs.Sizes.{Sizes, first, below, places_of}
use Rattle.esa_params.specs.Slots.{at, access_of}
use Rattle.esa_params.specs.declared.slot.Region.TheVariants.{Output}
use Rattle.esa_params.specs.declared.slot.Op.TheVariants.{Write as Writes}
use Rattle.esa_laws.proofs.ExchangeLaws.{exchange-in}
use Rattle.esa_laws.proofs.FinishLaws.{AllBelow, All-nil, All-one, All-tail}
use Rattle.esa_laws.proofs.Ranges.{find-below-same, map-below-same, sum-below-same}
use Rattle.esa_laws.proofs.RoundLaws.{by_pushes}
use Rattle.esa_laws.proofs.TurnLaws.{order-push}
use Rattle.esa_spec.specs.Completion.{completed, is_finished_at, full}
use Rattle.esa_spec.specs.Draws.{Draw, chosen}
use Rattle.esa_spec.specs.Lines.{chosen_places, batches, backlog, overflows}
use Rattle.esa_spec.specs.Queue.{joined, waiting}
use Rattle.esa_spec.specs.Traces.{asked, made, spread, step_accesses, walk, compression, written_tail, drain, rest, attempt_trace, attempts, is_failed, good_attempt, load, scans, trace}
use Rattle.esa_spec.specs.Turns.{events, exchanged, next, order, writes}
use Rattle.esa_spec.specs.Verdicts.{failing, is_finished, left, is_left, Step, Import, Put, imported, steps, is_below, reached, step_verdict, is_good, first_bad, drained, settled, verdict}
use Rattle.esa_spec.specs.declared.event.Verdict.TheVariants.{Good, QueueOverflow, QueueStarved}

-- the buckets that are exchanged are below b
one-below : (b : ℕ) (o : Option ℕ) → ((j : ℕ) → o ≡ Some j → j < b) → AllBelow b (option_to_list o)
one-below b None each = All-nil b
one-below b (Some j) each = All-one b j (each j refl)

pub order-below : (b : ℕ) (h : List ℕ) → AllBelow b (order b h)
order-below b h = by_pushes (λ g. AllBelow b (order b g)) (All-nil b)
    (λ g w before. subst (AllBelow b) (sym (order-push b g w))
    (All-append (λ v. v < b) (order b g) (option_to_list (exchanged (next b g w))) before
    (one-below b (exchanged (next b g w)) (λ j e. exchange-in b g w j e))))
    h

-- functions that agree on the elements of a list
map-same : {Y : Type 0} (f g : ℕ → Y) (b : ℕ) (xs : List ℕ) → AllBelow b xs → ((x : ℕ) → x < b → f x ≡ g x) → map f xs ≡ map g xs
map-same f g b [] all same = refl
map-same f g b (x ∷ xs) all same =
    ap (λ y. y ∷ map f xs) (same x (all 0 0 (omega arith))) ∙ ap (λ y. g x ∷ y) (map-same f g b xs (All-tail b x xs all) same)

map-each : {X Y : Type 0} (f g : X → Y) → ((x : X) → f x ≡ g x) → (xs : List X) → map f xs ≡ map g xs
map-each f g same [] = refl
map-each f g same (x ∷ xs) = ap (λ y. y ∷ map f xs) (same x) ∙ ap (λ y. g x ∷ y) (map-each f g same xs)

module _ (p : Sizes) (d e : Draw) (same : (j : ℕ) → j < p.b → d.targets j ≡ e.targets j) where
  chosen-same : (i j : ℕ) → j < p.b → chosen_places p d i j ≡ chosen_places p e i j
  chosen-same i j j_in = ap (λ t. chosen i t (places_of p j)) (same j j_in)

  -- the lines of buckets that are there
  module _ (o : List ℕ) (all : AllBelow p.b o) where
    batches-same : (i : ℕ) → batches p d o i ≡ batches p e o i
    batches-same i = map-same (chosen_places p d i) (chosen_places p e i) p.b o all (chosen-same i)

    backlog-same : (k i : ℕ) → backlog p d o k i ≡ backlog p e o k i
    backlog-same k i = ap (λ es. waiting p.c es k) (batches-same i)

    overflows-same : (k : ℕ) → overflows p d o k ≡ overflows p e o k
    overflows-same k = ap (nat_lt p.s) (sum-below-same (backlog p d o (suc k)) (backlog p e o (suc k)) p.b (λ i i_in. backlog-same (suc k) i))

    failing-same : failing p d o ≡ failing p e o
    failing-same = find-below-same (overflows p d o) (overflows p e o) (length o) (λ k k_in. overflows-same k)

    left-same : left p d o ≡ left p e o
    left-same = find-below-same (is_left p d o) (is_left p e o) p.b (λ i i_in. ap (nat_lt p.k) (backlog-same p.b i))

  -- the steps of the compression
  reached-same : (i : ℕ) → reached p d i ≡ reached p e i
  reached-same i = ap (λ ts. count_by (is_below i) (joined ts)) (map-below-same d.targets e.targets p.b same)

  step-same : (x : Step) → step_verdict p d x ≡ step_verdict p e x
  step-same (Import j i) = ap (λ y. cond (nat_lt (first p j + p.q) y) (QueueOverflow i) Good) (reached-same (i + 1))
  step-same (Put j) = ap (λ y. cond (nat_lt y (first p (j + 1))) (QueueStarved j) Good) (reached-same (imported p (suc j)))

  accesses-same : (a : ℕ) (x : Step) → step_accesses p d a x ≡ step_accesses p e a x
  accesses-same a (Import j i) = refl
  accesses-same a (Put j) = ap (λ y. cond (is_good y) (access_of p a Writes (at Output j) ∷ []) []) (step-same (Put j))

  walk-same : (a : ℕ) (xs : List Step) → walk p d a xs ≡ walk p e a xs
  walk-same a [] = refl
  walk-same a (x ∷ xs) =
      ap (λ y. y ++ cond (is_good (step_verdict p d x)) (walk p d a xs) []) (accesses-same a x)
      ∙ ap (λ y. step_accesses p e a x ++ cond (is_good y) (walk p d a xs) []) (step-same x)
      ∙ ap (λ y. step_accesses p e a x ++ cond (is_good (step_verdict p e x)) y []) (walk-same a xs)

  -- what follows the turns, by the first target for which too much is left
  drained-same : (l : Option ℕ) → drained p d l ≡ drained p e l
  drained-same (Some i) = refl
  drained-same None = ap first_bad (map-each (step_verdict p d) (step_verdict p e) step-same (steps p))

  compression-same : (a : ℕ) (l : Option ℕ) → compression p d a l ≡ compression p e a l
  compression-same a (Some i) = refl
  compression-same a None = walk-same a (steps p)

  drain-same : (a : ℕ) (l : Option ℕ) → drain p d a l ≡ drain p e a l
  drain-same a l = ap (λ y. map (written_tail p a) (below (unwrap_or l p.b)) ++ y) (compression-same a l)

  settled-same : (o : List ℕ) → AllBelow p.b o → (f : Option ℕ) → settled p d o f ≡ settled p e o f
  settled-same o all (Some k) = refl
  settled-same o all None = ap (drained p d) (left-same o all) ∙ drained-same (left p e o)

  module _ (h : List ℕ) where
    turns-same : failing p d (order p.b h) ≡ failing p e (order p.b h)
    turns-same = failing-same (order p.b h) (order-below p.b h)

    pub finished-targets : is_finished p d h ≡ is_finished p e h
    finished-targets = ap (λ f. is_some f || (writes p.b h == p.b * p.b)) turns-same

    pub verdict-targets : verdict p d h ≡ verdict p e h
    verdict-targets = ap (settled p d (order p.b h)) turns-same ∙ settled-same (order p.b h) (order-below p.b h) (failing p e (order p.b h))

    rest-same : (a : ℕ) (f : Option ℕ) → rest p d a h f ≡ rest p e a h f
    rest-same a (Some k) = refl
    rest-same a None =
        ap (λ y. cond y (drain p d a (left p d (order p.b h))) []) finished-targets
        ∙ ap (λ y. cond (is_finished p e h) (drain p d a y) []) (left-same (order p.b h) (order-below p.b h))
        ∙ ap (λ y. cond (is_finished p e h) y []) (drain-same a (left p e (order p.b h)))

    spread-same : (a : ℕ) → spread p d a h ≡ spread p e a h
    spread-same a = ap (λ f. filter_map (asked p a) (made f (events p.b h))) turns-same

    pub attempt-targets : (a : ℕ) → attempt_trace p d a h ≡ attempt_trace p e a h
    attempt-targets a =
        ap (λ y. y ++ rest p d a h (failing p d (order p.b h))) (spread-same a)
        ∙ ap (λ f. spread p e a h ++ rest p d a h f) turns-same
        ∙ ap (λ y. spread p e a h ++ y) (rest-same a (failing p e (order p.b h)))

    pub failed-targets : is_failed p d h ≡ is_failed p e h
    failed-targets =
        ap (λ y. cond y (cond (is_good (verdict p d h)) false true) false) finished-targets
        ∙ ap (λ y. cond (is_finished p e h) (cond (is_good y) false true) false) verdict-targets

  pub full-targets : (turns : List ℕ) → full p d turns ≡ full p e turns
  full-targets turns =
      let all = completed p turns in
      ap (λ y. take (unwrap_or y (length all)) all)
      (find-below-same (is_finished_at p d all) (is_finished_at p e all) (length all + 1) (λ m m_in. finished-targets (take m all)))

-- the attempts of the lists that are there
module _ (p : Sizes) (ds es : ℕ → Draw) where
  abbrev Agree : ℕ → ℕ → Type 0
  Agree a n = (m : ℕ) → m < n → (j : ℕ) → j < p.b → (ds (a + m)).targets j ≡ (es (a + m)).targets j

  agree-first : (a n : ℕ) → Agree a (suc n) → (j : ℕ) → j < p.b → (ds a).targets j ≡ (es a).targets j
  agree-first a n same = let here : a + 0 ≡ a = omega arith in subst (λ y. (j : ℕ) → j < p.b → (ds y).targets j ≡ (es y).targets j) here (same 0 (omega arith))

  agree-rest : (a n : ℕ) → Agree a (suc n) → Agree (a + 1) n
  agree-rest a n same m m_in =
      let next : a + suc m ≡ a + 1 + m = omega arith in
      subst (λ y. (j : ℕ) → j < p.b → (ds y).targets j ≡ (es y).targets j) next (same (suc m) (omega arith))

  attempts-targets : (a : ℕ) (hs : List (List ℕ)) → Agree a (length hs) → attempts p ds a hs ≡ attempts p es a hs
  attempts-targets a [] same = refl
  attempts-targets a (h ∷ hs) same =
      let here = agree-first a (length hs) same in
      ap (λ y. y ++ cond (is_failed p (ds a) h) (attempts p ds (a + 1) hs) []) (attempt-targets p (ds a) (es a) here h a)
      ∙ ap (λ y. attempt_trace p (es a) a h ++ cond y (attempts p ds (a + 1) hs) []) (failed-targets p (ds a) (es a) here h)
      ∙ ap (λ y. attempt_trace p (es a) a h ++ cond (is_failed p (es a) h) y []) (attempts-targets (a + 1) hs (agree-rest a (length hs) same))

  good-targets : (a : ℕ) (hs : List (List ℕ)) → Agree a (length hs) → good_attempt p ds a hs ≡ good_attempt p es a hs
  good-targets a [] same = refl
  good-targets a (h ∷ hs) same =
      let here = agree-first a (length hs) same in
      ap (λ y. cond y (cond (is_good (verdict p (ds a) h)) (Some a) (good_attempt p ds (a + 1) hs)) None) (finished-targets p (ds a) (es a) here h)
      ∙ ap (λ y. cond (is_finished p (es a) h) (cond (is_good y) (Some a) (good_attempt p ds (a + 1) hs)) None) (verdict-targets p (ds a) (es a) here h)
      ∙ ap (λ y. cond (is_finished p (es a) h) (cond (is_good (verdict p (es a) h)) (Some a) y) None) (good-targets (a + 1) hs (agree-rest a (length hs) same))

  pub trace-targets : (hs : List (List ℕ)) → ((a : ℕ) → a < length hs → (j : ℕ) → j < p.b → (ds a).targets j ≡ (es a).targets j) → trace p ds hs ≡ trace p es hs
  trace-targets hs same =
      let from_zero : Agree 0 (length hs) = λ m m_in.
      let here : m ≡ 0 + m = omega arith in subst (λ y. (j : ℕ) → j < p.b → (ds y).targets j ≡ (es y).targets j) here (same m m_in) in
      ap (λ y. (load p ++ y) ++ scans p (good_attempt p ds 0 hs)) (attempts-targets 0 hs from_zero)
      ∙ ap (λ y. (load p ++ attempts p es 0 hs) ++ scans p y) (good-targets 0 hs from_zero)

-- No nonce is written twice in a run.
use Rattle.std.proofs.Common.{◌≡◌, ◌≢◌, ℕ, zero, suc, ◌+◌, ◌-◌, ◌*◌, ◌^◌, ◌≤◌, ◌<◌, ⊎_elim, Bool, true, false, cond, ◌==◌, List, [], ◌∷◌, ◌++◌, length, map, refl, sym, ◌∙◌, ap, subst, arith}
use Rattle.std.specs.List.{range_with_len, filter_map, flat_map, cons_option}
use Rattle.std.specs.Prelude.{Option, Some, None, option_to_list, unwrap_or}
use Rattle.std.proofs.lemmas.Bool.{cases_eq, eq-eqb}
use Rattle.std.proofs.lemmas.List.Concat.{flat_map-append}
use Rattle.std.proofs.lemmas.List.Elements.{filter_map-append}
use Rattle.std.proofs.lemmas.Nat.{same_from_place, mul-add-lt, mul-le}
use Rattle.esa_laws.proofs.Events.{event-by}
use Rattle.esa_laws.proofs.Tests.{bit, unequal}
use Rattle.esa_params.specs.Sizes.{Sizes, ArePlanned, below}
use Rattle.esa_params.specs.Slots.{at, slots_of, nonce_of, access_of}
use Rattle.esa_params.specs.declared.slot.Region.TheVariants.{Tail, Output}
use Rattle.esa_params.specs.declared.slot.Op.TheVariants.{Read as Reads, Write as Writes}
use Rattle.esa_params.specs.declared.slot.Access.{Access}
use Rattle.esa_laws.proofs.PermLaws.{occurrences, occurs-cons, occurs-append}
use Rattle.esa_laws.proofs.Ranges.{map-below-suc}
use Rattle.esa_laws.proofs.RoundLaws.{by_pushes, Past, past-stays, past-now, next-by_phase}
use Rattle.esa_laws.proofs.SpreadLaws.{left-in, through-begins}
use Rattle.esa_laws.proofs.TurnLaws.{events-push, one_of}
use Rattle.esa_spec.specs.Draws.{Draw}
use Rattle.esa_spec.specs.Traces.{asked, through, made, spread, written_input, load, chunk_slot, read_chunk, import_reads, step_accesses, walk, written_tail, drain, rest, attempt_trace, is_failed, attempts, shuffle_trace, read_output, scan, scans, good_attempt, trace, written_nonce, written_nonces}
use Rattle.esa_spec.specs.Turns.{event_of, events, order, next, next_phase, held}
use Rattle.esa_spec.specs.Verdicts.{failing, is_finished, left, Step, Import, Put, imported, steps, steps_of, step_verdict, is_good}
use Rattle.esa_spec.specs.declared.event.Event.{Event}
use Rattle.esa_spec.specs.declared.event.Event.TheVariants.{Write}

-- how often a nonce is written
abbrev pub written : ℕ → List Access → ℕ
written n xs = occurrences n (written_nonces xs)

pub written-append : (n : ℕ) (xs ys : List Access) → written n (xs ++ ys) ≡ written n xs + written n ys
written-append n xs ys = ap (occurrences n) (filter_map-append written_nonce xs ys) ∙ occurs-append n (written_nonces xs) (written_nonces ys)

-- no nonce is written twice, and each that is written is from lo up to hi
pub record Fresh (xs : List Access) (lo hi : ℕ) : Type 0 where
  pub once : (n : ℕ) → written n xs ≤ 1
  pub inside : (n : ℕ) → written n xs ≢ 0 → (lo ≤ n) × (n < hi)

fresh-quiet : (xs : List Access) (lo hi : ℕ) → ((n : ℕ) → written n xs ≡ 0) → Fresh xs lo hi
fresh-quiet xs lo hi none = record { once = λ n. omega (arith, none n); inside = λ n some. absurd (some (none n)) }

fresh-wider : (xs : List Access) (lo hi lo' hi' : ℕ) → lo' ≤ lo → hi ≤ hi' → Fresh xs lo hi → Fresh xs lo' hi'
fresh-wider xs lo hi lo' hi' low high f = record {
  once = f.once;
  inside = λ n some. let i = f.inside n some in (omega (arith, i.0), omega (arith, i.1));
}

fresh-fewer : (xs ys : List Access) (lo hi : ℕ) → ((n : ℕ) → written n xs ≤ written n ys) → Fresh ys lo hi → Fresh xs lo hi
fresh-fewer xs ys lo hi fewer f = record {
  once = λ n. omega (arith, fewer n, f.once n);
  inside = λ n some. f.inside n (λ e. some (omega (arith, fewer n, e)));
}

-- one after another
fresh-append : (xs ys : List Access) (lo mid hi : ℕ) → lo ≤ mid → mid ≤ hi → Fresh xs lo mid → Fresh ys mid hi → Fresh (xs ++ ys) lo hi
fresh-append xs ys lo mid hi low high f g = record {
  once = λ n. ⊎_elim
      (λ (none : written n xs ≡ 0). omega (arith, written-append n xs ys, none, g.once n))
      (λ (some : written n xs ≢ 0).
      let early = f.inside n some in
      ⊎_elim
      (λ (no_more : written n ys ≡ 0). omega (arith, written-append n xs ys, no_more, f.once n))
      (λ (more : written n ys ≢ 0). let late = g.inside n more in absurd (omega (arith, early.1, late.0)))
      (cases_eq (written n ys) 0))
      (cases_eq (written n xs) 0);
  inside = λ n some. ⊎_elim
      (λ (none : written n xs ≡ 0).
      let late = g.inside n (λ e. some (omega (arith, written-append n xs ys, none, e))) in (omega (arith, late.0), late.1))
      (λ (there : written n xs ≢ 0). let early = f.inside n there in (early.0, omega (arith, early.1)))
      (cases_eq (written n xs) 0);
}

pub written-one : (n : ℕ) (x : Access) (o : Option ℕ) → written_nonce x ≡ o → written n (x ∷ []) ≡ occurrences n (option_to_list o)
written-one n x o e = ap (λ y. occurrences n (cons_option y [])) e ∙ ap (occurrences n) (one_of o)

fresh-one : (x : Access) (m : ℕ) → written_nonce x ≡ Some m → Fresh (x ∷ []) m (m + 1)
fresh-one x m e = record {
  once = λ n. omega (arith, count n, at-most (m == n));
  inside = λ n some. ⊎_elim
      (λ (is : m ≡ n). (omega arith, omega arith))
      (λ (ne : m ≢ n). absurd (some (count n ∙ ap bit (unequal m n ne))))
      (cases_eq m n);
}
  where
    at-most : (c : Bool) → bit c ≤ 1
    at-most true = omega arith
    at-most false = omega arith

    count : (n : ℕ) → written n (x ∷ []) ≡ bit (m == n)
    count n = written-one n x (Some m) e ∙ occurs-cons m n [] ∙ omega arith

fresh-map : (f : ℕ → Access) (base m : ℕ) → ((i : ℕ) → i < m → written_nonce (f i) ≡ Some (base + i)) → Fresh (map f (below m)) base (base + m)
fresh-map f base zero each = fresh-quiet [] base (base + 0) (λ n. refl)
fresh-map f base (suc m) each =
    let one = fresh-wider (f m ∷ []) (base + m) (base + m + 1) (base + m) (base + suc m) (omega arith) (omega arith) (fresh-one (f m) (base + m) (each m (omega arith))) in
    subst (λ y. Fresh y base (base + suc m)) (sym (map-below-suc f m))
    (fresh-append (map f (below m)) (f m ∷ []) base (base + m) (base + suc m) (omega arith) (omega arith) (fresh-map f base m (λ i i_in. each i (omega arith))) one)

-- reads write nothing
quiet-map : (f : ℕ → Access) (n m : ℕ) → ((i : ℕ) → written_nonce (f i) ≡ None) → written n (map f (below m)) ≡ 0
quiet-map f n zero none = refl
quiet-map f n (suc m) none =
    ap (written n) (map-below-suc f m) ∙ written-append n (map f (below m)) (f m ∷ [])
    ∙ omega (arith, quiet-map f n m none, written-one n (f m) None (none m))

-- the load
fresh-load : (p : Sizes) → Fresh (load p) 0 p.b
fresh-load p = fresh-wider (load p) 0 (0 + p.b) 0 p.b (omega arith) (omega arith) (fresh-map (written_input p) 0 p.b (λ i i_in. ap Some (omega arith)))

-- a scan
quiet-scans : (p : Sizes) (o : Option ℕ) (n : ℕ) → written n (scans p o) ≡ 0
quiet-scans p None n = refl
quiet-scans p (Some a) n =
    omega (arith, written-append n (scan p a) (scan p a), quiet-map (read_output p a) n p.b (λ i. refl))

-- the writes of the output come one after another
abbrev put_only : Sizes → ℕ → ℕ → Access
put_only p a j = access_of p a Writes (at Output j)

abbrev all_accesses : Sizes → ℕ → Step → List Access
all_accesses p a (Import j i) = import_reads p a i
all_accesses p a (Put j) = put_only p a j ∷ []

fewer-if : (n : ℕ) (c : Bool) (xs : List Access) → written n (cond c xs []) ≤ written n xs
fewer-if n true xs = omega arith
fewer-if n false xs = omega arith

fewer-step : (p : Sizes) (d : Draw) (a n : ℕ) (x : Step) → written n (step_accesses p d a x) ≤ written n (all_accesses p a x)
fewer-step p d a n (Import j i) = omega arith
fewer-step p d a n (Put j) = fewer-if n (is_good (step_verdict p d (Put j))) (put_only p a j ∷ [])

fewer-walk : (p : Sizes) (d : Draw) (a n : ℕ) (xs : List Step) → written n (walk p d a xs) ≤ written n (flat_map (all_accesses p a) xs)
fewer-walk p d a n [] = omega arith
fewer-walk p d a n (x ∷ xs) =
    omega (
      arith,
      written-append n (step_accesses p d a x) (cond (is_good (step_verdict p d x)) (walk p d a xs) []),
      written-append n (all_accesses p a x) (flat_map (all_accesses p a) xs),
      fewer-step p d a n x,
      fewer-if n (is_good (step_verdict p d x)) (walk p d a xs),
      fewer-walk p d a n xs,
    )

quiet-imports : (p : Sizes) (a n : ℕ) (j : ℕ) (is : List ℕ) → written n (flat_map (all_accesses p a) (map (Import j) is)) ≡ 0
quiet-imports p a n j [] = refl
quiet-imports p a n j (i ∷ is) =
    let reads : written n (import_reads p a i) ≡ 0 =
    written-append n (map (read_chunk p a i) (below p.b)) (access_of p a Reads (at Tail i) ∷ [])
    ∙ omega (arith, quiet-map (read_chunk p a i) n p.b (λ k. refl), written-one n (access_of p a Reads (at Tail i)) None refl) in
    omega (arith, written-append n (import_reads p a i) (flat_map (all_accesses p a) (map (Import j) is)), reads, quiet-imports p a n j is)

written-steps : (p : Sizes) (a n j : ℕ) → written n (flat_map (all_accesses p a) (steps_of p j)) ≡ written n (put_only p a j ∷ [])
written-steps p a n j =
    let before = range_with_len (imported p j) (imported p (suc j) - imported p j) in
    ap (written n) (flat_map-append (all_accesses p a) (map (Import j) before) (Put j ∷ []))
    ∙ written-append n (flat_map (all_accesses p a) (map (Import j) before)) (put_only p a j ∷ [])
    ∙ omega (arith, quiet-imports p a n j before)

written-all-steps : (p : Sizes) (a n : ℕ) (js : List ℕ) → written n (flat_map (all_accesses p a) (flat_map (steps_of p) js)) ≡ written n (map (put_only p a) js)
written-all-steps p a n [] = refl
written-all-steps p a n (j ∷ js) =
    ap (written n) (flat_map-append (all_accesses p a) (steps_of p j) (flat_map (steps_of p) js))
    ∙ written-append n (flat_map (all_accesses p a) (steps_of p j)) (flat_map (all_accesses p a) (flat_map (steps_of p) js))
    ∙ omega (arith, written-steps p a n j, written-all-steps p a n js, written-append n (put_only p a j ∷ []) (map (put_only p a) js))

abbrev mid_base : Sizes → ℕ → ℕ
mid_base p a = a * 2 ^ 32 + p.b

abbrev tail_base : Sizes → ℕ → ℕ
tail_base p a = a * 2 ^ 32 + (p.b + p.b * p.b)

abbrev output_base : Sizes → ℕ → ℕ
output_base p a = a * 2 ^ 32 + (2 * p.b + p.b * p.b)

fresh-walk : (p : Sizes) (d : Draw) (a : ℕ) → Fresh (walk p d a (steps p)) (output_base p a) (output_base p a + p.b)
fresh-walk p d a = fresh-fewer (walk p d a (steps p)) (map (put_only p a) (below p.b)) (output_base p a) (output_base p a + p.b)
    (λ n. omega (arith, fewer-walk p d a n (steps p), written-all-steps p a n (below p.b)))
    (fresh-map (put_only p a) (output_base p a) p.b (λ i i_in. ap Some (omega arith)))

-- the tails, and what follows them
tails : (p : Sizes) (d : Draw) (a : ℕ) (m : ℕ) → m ≤ p.b → Fresh (map (written_tail p a) (below m)) (tail_base p a) (output_base p a)
tails p d a m m_in = fresh-wider (map (written_tail p a) (below m)) (tail_base p a) (tail_base p a + m) (tail_base p a) (output_base p a) (omega arith) (omega arith)
    (fresh-map (written_tail p a) (tail_base p a) m (λ i i_in. ap Some (omega arith)))

fresh-drain : (p : Sizes) (d : Draw) (a : ℕ) (l : Option ℕ) → (unwrap_or l p.b ≤ p.b) → Fresh (drain p d a l) (tail_base p a) (output_base p a + p.b)
fresh-drain p d a (Some i) l_in =
    fresh-append (map (written_tail p a) (below i)) [] (tail_base p a) (output_base p a) (output_base p a + p.b) (omega arith) (omega arith)
    (tails p d a i l_in) (fresh-quiet [] (output_base p a) (output_base p a + p.b) (λ n. refl))
fresh-drain p d a None l_in =
    fresh-append (map (written_tail p a) (below p.b)) (walk p d a (steps p)) (tail_base p a) (output_base p a) (output_base p a + p.b) (omega arith) (omega arith)
    (tails p d a p.b l_in) (fresh-walk p d a)

fresh-rest : (p : Sizes) (d : Draw) (a : ℕ) (h : List ℕ) (f : Option ℕ) → Fresh (rest p d a h f) (tail_base p a) (output_base p a + p.b)
fresh-rest p d a h (Some k) = fresh-quiet [] (tail_base p a) (output_base p a + p.b) (λ n. refl)
fresh-rest p d a h None = by (is_finished p d h)
  where
    by : (c : Bool) → Fresh (cond c (drain p d a (left p d (order p.b h))) []) (tail_base p a) (output_base p a + p.b)
    by true = fresh-drain p d a (left p d (order p.b h)) (left-in p d (order p.b h) (left p d (order p.b h)) refl)
    by false = fresh-quiet [] (tail_base p a) (output_base p a + p.b) (λ n. refl)

-- an event writes a chunk, or nothing
data Kind (p : Sizes) (a g f : ℕ) : Type 0 where
  writes_chunk : g < p.b → 3 ≤ f → event_of p.b g f ≡ Write g (f - 3) → Kind p a g f
  no_chunk : ((n : ℕ) → written n (option_to_list (asked p a (event_of p.b g f))) ≡ 0) → Kind p a g f

abbrev asks : Sizes → ℕ → ℕ → Event → ℕ
asks p a n e = written n (option_to_list (asked p a e))

kind : (p : Sizes) (a g f : ℕ) → Kind p a g f
kind p a g f = event-by (λ e. e ≡ event_of p.b g f → Kind p a g f) p.b g f
    (λ g_in phase is. no_chunk (λ n. sym (ap (asks p a n) is))) (λ g_in phase is. no_chunk (λ n. sym (ap (asks p a n) is)))
    (λ g_in phase is. no_chunk (λ n. sym (ap (asks p a n) is))) (λ g_in late is. writes_chunk g_in late (sym is))
    (λ past is. no_chunk (λ n. sym (ap (asks p a n) is))) (λ past is. no_chunk (λ n. sym (ap (asks p a n) is))) refl

-- the accesses of all turns
abbrev made_by : Sizes → ℕ → List ℕ → List Access
made_by p a h = filter_map (asked p a) (events p.b h)

-- the chunk that was written with a nonce
record Chunk (p : Sizes) (a : ℕ) (h : List ℕ) (n : ℕ) : Type 0 where
  bucket : ℕ
  target : ℕ
  target_in : target < p.b
  bucket_in : bucket < p.b
  is : n ≡ nonce_of p a (chunk_slot p bucket target)
  past : Past p.b h bucket (target + 3)

record Chunks (p : Sizes) (a : ℕ) (h : List ℕ) : Type 0 where
  once : (n : ℕ) → written n (made_by p a h) ≤ 1
  chunk : (n : ℕ) → written n (made_by p a h) ≢ 0 → Chunk p a h n

module _ (p : Sizes) (a : ℕ) (h : List ℕ) (w : ℕ) where
  made-push : (n : ℕ) → written n (made_by p a (h ++ w ∷ [])) ≡ written n (made_by p a h) + asks p a n (event_of p.b (held p.b h w) (next_phase p.b h w))
  made-push n =
      ap (λ es. written n (filter_map (asked p a) es)) (events-push p.b h w)
      ∙ ap (written n) (filter_map-append (asked p a) (events p.b h) (next p.b h w ∷ []))
      ∙ written-append n (made_by p a h) (filter_map (asked p a) (next p.b h w ∷ []))
      ∙ ap (λ y. written n (made_by p a h) + written n y) (one_of (asked p a (next p.b h w)))
      ∙ ap (λ e. written n (made_by p a h) + asks p a n e) (next-by_phase p.b h w)

  -- what is known of a chunk that was written stays
  stays : (n : ℕ) → Chunk p a h n → Chunk p a (h ++ w ∷ []) n
  stays n c = record {
    bucket = c.bucket;
    target = c.target;
    target_in = c.target_in;
    bucket_in = c.bucket_in;
    is = c.is;
    past = past-stays p.b h w c.bucket (c.target + 3) c.past;
  }

  -- the turn writes a chunk
  module _ (s : Chunks p a h) (g_in : held p.b h w < p.b) (late : 3 ≤ next_phase p.b h w)
      (is : event_of p.b (held p.b h w) (next_phase p.b h w) ≡ Write (held p.b h w) (next_phase p.b h w - 3)) where
    target_now : ℕ
    target_now = next_phase p.b h w - 3

    nonce_now : ℕ
    unfolding target_now
    nonce_now = nonce_of p a (chunk_slot p (held p.b h w) (next_phase p.b h w - 3))

    in_round_now : next_phase p.b h w ≢ 0
    in_round_now e = absurd (omega arith)

    hit : (n : ℕ) → written n (made_by p a (h ++ w ∷ [])) ≡ written n (made_by p a h) + bit (nonce_now == n)
    unfolding nonce_now
    hit n =
        let slot = chunk_slot p (held p.b h w) (next_phase p.b h w - 3) in
        made-push n
        ∙ ap (λ e. written n (made_by p a h) + asks p a n e) is
        ∙ ap (λ y. written n (made_by p a h) + y) (written-one n (access_of p a Writes slot) (Some (nonce_of p a slot)) refl ∙ occurs-cons (nonce_of p a slot) n [] ∙ omega arith)

    target_small : next_phase p.b h w - 3 < p.b
    target_small = let in_phases : next_phase p.b h w < p.b + 3 = omega arith in omega arith

    -- the nonce wasn't written before
    absent : written nonce_now (made_by p a h) ≡ 0
    unfolding nonce_now
    absent = ⊎_elim
        (λ (none : written nonce_now (made_by p a h) ≡ 0). none)
        (λ (some : written nonce_now (made_by p a h) ≢ 0).
        let c = s.chunk nonce_now some in
        let place : held p.b h w * p.b + (next_phase p.b h w - 3) ≡ c.bucket * p.b + c.target = omega (arith, c.is) in
        let parts = same_from_place (held p.b h w) (next_phase p.b h w - 3) c.bucket c.target p.b target_small c.target_in place in
        let early = c.past.later w in_round_now parts.0 in
        absurd (omega (arith, early, parts.1, late)))
        (cases_eq (written nonce_now (made_by p a h)) 0)

    new-chunk : Chunk p a (h ++ w ∷ []) nonce_now
    unfolding nonce_now
    new-chunk =
        let phase : next_phase p.b h w - 3 + 3 ≡ next_phase p.b h w = omega arith in
        record {
          bucket = held p.b h w;
          target = next_phase p.b h w - 3;
          target_in = target_small;
          bucket_in = g_in;
          is = refl;
          past = subst (Past p.b (h ++ w ∷ []) (held p.b h w)) (sym phase) (past-now p.b h w in_round_now);
        }

    chunk-written : Chunks p a (h ++ w ∷ [])
    chunk-written = record {
      once = λ n. ⊎_elim
          (λ (same : nonce_now ≡ n). subst (λ y. written y (made_by p a (h ++ w ∷ [])) ≤ 1) same
          (omega (arith, hit nonce_now, absent, ap bit (eq-eqb nonce_now nonce_now refl))))
          (λ (other : nonce_now ≢ n). omega (arith, hit n, ap bit (unequal nonce_now n other), s.once n))
          (cases_eq nonce_now n);
      chunk = λ n some. ⊎_elim
          (λ (same : nonce_now ≡ n). subst (Chunk p a (h ++ w ∷ [])) same new-chunk)
          (λ (other : nonce_now ≢ n). stays n (s.chunk n (λ e. some (omega (arith, hit n, ap bit (unequal nonce_now n other), e)))))
          (cases_eq nonce_now n);
    }

  chunks-step : Chunks p a h → Chunks p a (h ++ w ∷ [])
  chunks-step s = by (kind p a (held p.b h w) (next_phase p.b h w))
    where
      by : Kind p a (held p.b h w) (next_phase p.b h w) → Chunks p a (h ++ w ∷ [])
      by (no_chunk none) = record {
        once = λ n. omega (arith, made-push n, none n, s.once n);
        chunk = λ n some. stays n (s.chunk n (λ e. some (omega (arith, made-push n, none n, e))));
      }
      by (writes_chunk g_in late is) = chunk-written s g_in late is

chunks : (p : Sizes) (a : ℕ) (h : List ℕ) → Chunks p a h
chunks p a h = by_pushes (Chunks p a) (record { once = λ n. omega arith; chunk = λ n some. absurd (some refl) }) (chunks-step p a) h

-- what comes behind the failing exchange isn't made
fewer-through : (p : Sizes) (a n k : ℕ) (es : List Event) → written n (filter_map (asked p a) (through k es)) ≤ written n (filter_map (asked p a) es)
fewer-through p a n k es =
    let b = through-begins k es in
    omega (
      arith,
      ap (λ y. written n (filter_map (asked p a) y)) b.1,
      ap (written n) (filter_map-append (asked p a) (through k es) b.0),
      written-append n (filter_map (asked p a) (through k es)) (filter_map (asked p a) b.0),
    )

fewer-made : (p : Sizes) (a n : ℕ) (f : Option ℕ) (es : List Event) → written n (filter_map (asked p a) (made f es)) ≤ written n (filter_map (asked p a) es)
fewer-made p a n None es = omega arith
fewer-made p a n (Some k) es = fewer-through p a n k es

in-chunks : (p : Sizes) (a : ℕ) (h : List ℕ) (n : ℕ) → Chunk p a h n → (mid_base p a ≤ n) × (n < tail_base p a)
in-chunks p a h n c =
    let bound : c.bucket * p.b + c.target < p.b * p.b = mul-add-lt c.bucket p.b c.target p.b c.bucket_in c.target_in in
    (omega (arith, c.is), omega (arith, c.is, bound))

fresh-spread : (p : Sizes) (d : Draw) (a : ℕ) (h : List ℕ) → Fresh (spread p d a h) (mid_base p a) (tail_base p a)
fresh-spread p d a h = fresh-fewer (spread p d a h) (made_by p a h) (mid_base p a) (tail_base p a)
    (λ n. fewer-made p a n (failing p d (order p.b h)) (events p.b h))
    (record { once = (chunks p a h).once; inside = λ n some. in-chunks p a h n ((chunks p a h).chunk n some) })

fresh-attempt : (p : Sizes) (d : Draw) (a : ℕ) (h : List ℕ) → Fresh (attempt_trace p d a h) (mid_base p a) (output_base p a + p.b)
fresh-attempt p d a h =
    fresh-append (spread p d a h) (rest p d a h (failing p d (order p.b h))) (mid_base p a) (tail_base p a) (output_base p a + p.b)
    (omega arith) (omega arith) (fresh-spread p d a h) (fresh-rest p d a h (failing p d (order p.b h)))

-- the attempts, one after another
module _ (p : Sizes) (ds : ℕ → Draw) (few : slots_of p ≤ 2 ^ 32) where
  fresh-attempts : (a : ℕ) (hs : List (List ℕ)) → Fresh (attempts p ds a hs) (mid_base p a) ((a + length hs) * 2 ^ 32 + p.b)
  fresh-attempts a [] = fresh-quiet [] (mid_base p a) ((a + 0) * 2 ^ 32 + p.b) (λ n. refl)
  fresh-attempts a (h ∷ hs) =
      fresh-append (attempt_trace p (ds a) a h) (cond (is_failed p (ds a) h) (attempts p ds (a + 1) hs) []) (mid_base p a) (mid_base p (a + 1)) ((a + length (h ∷ hs)) * 2 ^ 32 + p.b)
      (omega arith) (omega arith)
      (fresh-wider (attempt_trace p (ds a) a h) (mid_base p a) (output_base p a + p.b) (mid_base p a) (mid_base p (a + 1)) (omega arith) (omega (arith, few)) (fresh-attempt p (ds a) a h))
      (fresh-fewer (cond (is_failed p (ds a) h) (attempts p ds (a + 1) hs) []) (attempts p ds (a + 1) hs) (mid_base p (a + 1)) ((a + length (h ∷ hs)) * 2 ^ 32 + p.b)
      (λ n. fewer-if n (is_failed p (ds a) h) (attempts p ds (a + 1) hs))
      (fresh-wider (attempts p ds (a + 1) hs) (mid_base p (a + 1)) ((a + 1 + length hs) * 2 ^ 32 + p.b) (mid_base p (a + 1)) ((a + length (h ∷ hs)) * 2 ^ 32 + p.b)
      (omega arith) (omega arith) (fresh-attempts (a + 1) hs)))

  pub fresh-trace : (hs : List (List ℕ)) (n : ℕ) → written n (trace p ds hs) ≤ 1
  fresh-trace hs n =
      let shuffle = fresh-append (load p) (attempts p ds 0 hs) 0 p.b (length hs * 2 ^ 32 + p.b) (omega arith) (omega arith) (fresh-load p)
      (fresh-wider (attempts p ds 0 hs) (mid_base p 0) ((0 + length hs) * 2 ^ 32 + p.b) p.b (length hs * 2 ^ 32 + p.b) (omega arith) (omega arith) (fresh-attempts 0 hs)) in
      omega (arith, written-append n (shuffle_trace p ds hs) (scans p (good_attempt p ds 0 hs)), quiet-scans p (good_attempt p ds 0 hs) n, shuffle.once n)

pub nonces-fresh : (p : Sizes) (ds : ℕ → Draw) (hs : List (List ℕ)) (n : ℕ) → ArePlanned p → occurrences n (written_nonces (trace p ds hs)) ≤ 1
nonces-fresh p ds hs n planned =
    let few : p.b ≤ 256 = planned.parameters.b_greatest in
    fresh-trace p ds (omega (arith, mul-le p.b p.b 256 256 few few)) hs n

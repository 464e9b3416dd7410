-- A shuffle from a stream of 32-bit words permutes.
use Rattle.std.proofs.Common.{◌≡◌, ℕ, zero, suc, ◌+◌, ◌-◌, ◌*◌, ◌/◌, ◌%◌, ◌^◌, ◌<◌, ◌≤◌, ◌==◌, true, false, cond, nat_lt, List, length, refl, ap, sym, subst, ◌∙◌, arith}
use Rattle.std.specs.List.Sorted.{IsPermutation}
use Rattle.std.proofs.lemmas.Bool.{lt-ltb, ltb-false, eqb-true}
use Rattle.std.proofs.lemmas.List.Sorted.{IsPermutation-refl, IsPermutation-trans, IsPermutation-swap, length_permutation}
use Rattle.rand_core.specs.Stream.{Stream, next_u32}
use Rattle.rand.specs.Shuffle.{rising, grow, chunk_of, Chooser, chooser_at, chooser_refill, chooser_next, narrow_swaps, shuffled}
use Rattle.rand.specs.Uniform.{canon}
use Rattle.rand.proofs.ShuffleLemmas.{rising_more, rising_one, rising_positive, rest_below, last_below}
use Rattle.esa_coins.specs.Words.{WordsFit, canon_drawn}

-- so many factors from m on, with their product
record Factors (m : ℕ) (chunk : ℕ × ℕ) : Type 0 where
  product : chunk.0 ≡ rising m chunk.1
  some : 0 < chunk.1
  fits : chunk.0 < 2 ^ 32

grow_factors : (n product current count m : ℕ) → product ≡ rising m count → current ≡ m + count → 0 < count → product < 2 ^ 32 → Factors m (grow n product current count)
unfolding grow
grow_factors zero product current count m is next some fits = record { product = is; some = some; fits = fits }
grow_factors (suc n) product current count m is next some fits =
    elim (nat_lt (2 ^ 32 - 1) (product * current))
    as (λ over. nat_lt (2 ^ 32 - 1) (product * current) ≡ over → Factors m (cond over (product, count) (grow n (product * current) (current + 1) (count + 1)))) [
      | true ↦ λ _. record { product = is; some = some; fits = fits }
      | false ↦ λ room.
          let more : product * current ≡ rising m (count + 1) = ap (λ p. p * current) is ∙ ap (λ c. rising m count * c) next ∙ sym (rising_more m count) in
          let least : product * current ≤ 2 ^ 32 - 1 = ltb-false _ _ room in
          grow_factors n (product * current) (current + 1) (count + 1) m more (omega arith) (omega arith) (omega arith)
    ] refl

chunk_of-factors : (m : ℕ) → 0 < m → m < 2 ^ 32 → Factors m (chunk_of m)
chunk_of-factors m positive fits = grow_factors 32 m (m + 1) 1 m (rising_one m) refl (omega arith) fits

-- what is left of a draw serves the calls that it is left for
record Serves (c : Chooser) : Type 0 where
  left : 0 < c.left → c.chunk < rising (c.n + 1) c.left

-- a draw for one call or more
record Served (n : ℕ) (draw : ℕ × ℕ × Stream) : Type 0 where
  some : 0 < draw.1
  chunk : draw.0 < rising (n + 1) draw.1
  rest : WordsFit draw.2

refill_served : (c : Chooser) (words : Stream) → Serves c → WordsFit words → c.n + 1 < 2 ^ 32 → Served c.n (chooser_refill c words)
refill_served c words serves fit bound =
    elim (c.left == 0)
    as (λ none. (c.left == 0) ≡ none → Served c.n (cond none ((canon (2 ^ 32) next_u32 (chunk_of (c.n + 1)).0 words).0, (chunk_of (c.n + 1)).1, (canon (2 ^ 32) next_u32 (chunk_of (c.n + 1)).0 words).1) (c.chunk, c.left, words))) [
      | true ↦ λ _.
          let factors = chunk_of-factors (c.n + 1) (omega arith) bound in
          let positive : 0 < (chunk_of (c.n + 1)).0 = rw factors.product (rising_positive (c.n + 1) (chunk_of (c.n + 1)).1 (omega arith)) in
          let drawn = canon_drawn (chunk_of (c.n + 1)).0 words fit positive (omega (arith, factors.fits)) in
          record { some = factors.some; chunk = subst (λ bound. (canon (2 ^ 32) next_u32 (chunk_of (c.n + 1)).0 words).0 < bound) factors.product drawn.below; rest = drawn.rest }
      | false ↦ λ some.
          let left : 0 < c.left = not_zero c.left some in
          record { some = left; chunk = serves.left left; rest = fit }
    ] refl
  where
    not_zero : (n : ℕ) → (n == 0) ≡ false → 0 < n
    not_zero zero h = cc
    not_zero (suc n) h = omega arith

-- an index up to the chooser's bound, and what comes after
record Chosen (n : ℕ) (chosen : ℕ × Chooser × Stream) : Type 0 where
  index : chosen.0 ≤ n
  bound : chosen.1.n ≡ n + 1
  serves : Serves chosen.1
  rest : WordsFit chosen.2

next_chosen : (c : Chooser) (words : Stream) → Serves c → WordsFit words → c.n + 1 < 2 ^ 32 → Chosen c.n (chooser_next c words)
next_chosen c words serves fit bound =
    let draw = chooser_refill c words in
    let served = refill_served c words serves fit bound in
    elim (draw.1 == 1)
    as (λ last. (draw.1 == 1) ≡ last → Chosen c.n (cond last (draw.0, record { n = c.n + 1; chunk = draw.0; left = 0 }, draw.2) (draw.0 % (c.n + 1), record { n = c.n + 1; chunk = draw.0 / (c.n + 1); left = draw.1 - 1 }, draw.2))) [
      | true ↦ λ last.
          let one : draw.1 ≡ 1 = eqb-true draw.1 1 last in
          let below = last_below draw.0 (c.n + 1) (subst (λ left. draw.0 < rising (c.n + 1) left) one served.chunk) in
          record { index = omega arith; bound = refl; serves = record { left = λ none. absurd (omega arith) }; rest = served.rest }
      | false ↦ λ more.
          let index : draw.0 % (c.n + 1) < c.n + 1 = omega arith in
          let some = served.some in
          let left : suc (draw.1 - 1) ≡ draw.1 = omega arith in
          record {
            index = omega arith;
            bound = refl;
            serves = record { left = λ _. rest_below draw.0 (c.n + 1) (draw.1 - 1) (omega arith) (subst (λ n. draw.0 < rising (c.n + 1) n) (sym left) served.chunk) };
            rest = served.rest;
          }
    ] refl

-- the list after some swaps
record Swapped {X : Type 0} (xs : List X) (n : ℕ) (state : List X × Chooser × Stream) : Type 0 where
  permutes : IsPermutation xs state.0
  bound : state.1.n ≡ n
  serves : Serves state.1
  rest : WordsFit state.2

narrow_swapped : {X : Type 0} (xs : List X) (c : Chooser) (words : Stream) (k : ℕ) → Serves c → WordsFit words → c.n + k ≤ length xs → length xs < 2 ^ 32 → Swapped xs (c.n + k) (narrow_swaps xs c words k)
unfolding narrow_swaps
narrow_swapped xs c words zero serves fit within small =
    record { permutes = IsPermutation-refl xs; bound = omega arith; serves = serves; rest = fit }
narrow_swapped xs c words (suc k) serves fit within small =
    let state = narrow_swaps xs c words k in
    let before = narrow_swapped xs c words k serves fit (omega arith) small in
    let at = before.bound in
    let chosen = next_chosen state.1 state.2 before.serves before.rest (omega arith) in
    let same = length_permutation xs state.0 before.permutes in
    let index = chosen.index in
    record {
      permutes = IsPermutation-trans xs state.0 _ before.permutes (IsPermutation-swap state.0 _ state.1.n (chooser_next state.1 state.2).0 (omega arith) (omega arith) refl);
      bound = chosen.bound ∙ omega arith;
      serves = chosen.serves;
      rest = chosen.rest;
    }

-- shuffling a list of fewer than 2 ^ 32 - 1 elements permutes it
pub shuffled-permutes : {X : Type 0} (xs : List X) (words : Stream) → WordsFit words → length xs < 2 ^ 32 - 1 → IsPermutation xs (shuffled xs 0 words).0
shuffled-permutes xs words fit small =
    let narrow = narrow_swapped xs (chooser_at 0) words (length xs - 0) (record { left = λ _. rising_positive 1 1 (omega arith) }) fit (omega arith) (omega arith) in
    rw (lt-ltb (length xs) (2 ^ 32 - 1) small) narrow.permutes

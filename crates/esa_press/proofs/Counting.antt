-- How many items the parts of an import have.
use Rattle.std.proofs.Common.{◌≡◌, ℕ, ◌+◌, ◌*◌, ◌/◌, ◌<◌, ◌≤◌, ◌==◌, List, [], ◌∷◌, ◌++◌, length, get_or, map, sum, refl, sym, ap, ◌∙◌, arith, length-take, inl, inr}
use Rattle.std.specs.Prelude.{slice_index, sum_by}
use Rattle.std.proofs.lemmas.Bool.{cases_lt}
use Rattle.std.proofs.lemmas.List.{get_or_append_left, get_or_at, length-map}
use Rattle.std.proofs.lemmas.Nat.{div-mul-add, mod-mul-add}
use Rattle.std.proofs.lemmas.List.FromFn.{get_or-map-range_with_len, length-map-range_with_len}
use Rattle.std.proofs.lemmas.List.Sums.{sum-map, sum_by-append, sum_by-cons}
use Rattle.esa_compress.specs.Imported.{parts_of}
use Rattle.esa_floor.specs.Parts.{count_at}
use Rattle.esa_spec.specs.Fronts.{items_in}
use Rattle.esa_laws.proofs.FinishLaws.{none-found}
use Rattle.esa_laws.proofs.PlaceLaws.{position-in}
use Rattle.esa_laws.proofs.QueueLaws.{batch, leaving-more}
use Rattle.esa_laws.proofs.Ranges.{sum-below-same}
use Rattle.esa_laws.proofs.Tests.{not_above}
use Rattle.esa_laws.proofs.TotalLaws.{once}
use Rattle.esa_params.specs.Sizes.{Sizes, below}
use Rattle.esa_params.specs.Slots.{access_of}
use Rattle.esa_params.specs.declared.slot.Op.TheVariants.{Read as Reads}
use Rattle.esa_params.specs.declared.slot.Slot.{Slot}
use Rattle.esa_spec.specs.Draws.{Draw}
use Rattle.esa_spec.specs.Lines.{backlog, batches, chosen_places, chunk}
use Rattle.esa_spec.specs.Places.{exchange_of}
use Rattle.esa_spec.specs.Queue.{queue}
use Rattle.esa_spec.specs.Turns.{order}
use Rattle.esa_spec.specs.Verdicts.{is_left}
use Rattle.esa_press.specs.Fetched.{part_slot}
use Rattle.esa_press.specs.Stepped.{AreCounted, parts_counted}
use Rattle.esa_press.proofs.Fetching.{part_is_chunk, part_is_tail}

-- the sum of a list of numbers
sum-of-list : (xs : List ℕ) → sum_by (λ (n : ℕ). n) xs ≡ sum xs
sum-of-list xs = refl

-- each of the first, and the last
pub part_before : (f : ℕ → ℕ) (n x last : ℕ) → x < n → get_or (map f (below n) ++ last ∷ []) x 0 ≡ f x
part_before f n x last inside =
    get_or_append_left (map f (below n)) (last ∷ []) 0 x (omega (arith, length-map-range_with_len f 0 n))
    ∙ get_or-map-range_with_len f 0 n x x 0 inside (omega arith)

pub part_last : (f : ℕ → ℕ) (n last : ℕ) → get_or (map f (below n) ++ last ∷ []) n 0 ≡ last
part_last f n last = get_or_at (map f (below n)) last [] 0 n (length-map-range_with_len f 0 n)

-- what is counted of an attempt
module _ (p : Sizes) (d : Draw) (h counts tails : List ℕ) (counted : AreCounted p d h counts tails) (i : ℕ) (i_in : i < p.b) where
  abbrev o : List ℕ
  o = order p.b h

  abbrev chunk_of : ℕ → ℕ
  chunk_of j = count_at p.b counts j i

  exchange_in : (j : ℕ) → j < p.b → exchange_of o j < length o
  exchange_in j j_in = position-in (λ x. x == j) o (omega (arith, once p.b h j counted.all j_in))

  pub chunk_few : (j : ℕ) → j < p.b → length (chunk p d o (exchange_of o j) i) ≤ p.c
  chunk_few j j_in =
      let es = batches p d o i in
      let there : exchange_of o j < length es = omega (arith, length-map o (chosen_places p d i), exchange_in j j_in) in
      omega (arith, ap length (leaving-more p.c es (exchange_of o j) there), length-take p.c (queue p.c es (exchange_of o j) ++ batch es (exchange_of o j)))

  pub parts_few : (j : ℕ) → j < p.b → slice_index (parts_counted p counts tails i) j ≤ p.c
  parts_few j j_in =
      omega (arith, part_before chunk_of p.b j (slice_index tails i) j_in, counted.chunks j i j_in i_in, chunk_few j j_in)

  pub tail_few : slice_index (parts_counted p counts tails i) p.b ≤ p.k
  tail_few =
      let few = not_above p.k (backlog p d o p.b i) (none-found (is_left p d o) p.b counted.fits i i_in) in
      omega (arith, part_last chunk_of p.b (slice_index tails i), counted.waits i i_in, few)

  pub parts_sum : sum (parts_counted p counts tails i) ≡ parts_of p d o i
  parts_sum =
      sym (sum-of-list (parts_counted p counts tails i))
      ∙ sum_by-append (λ (n : ℕ). n) (map chunk_of (below p.b)) (slice_index tails i ∷ [])
      ∙ omega (
        arith,
        sum-of-list (map chunk_of (below p.b)),
        sum-map chunk_of (below p.b),
        sum-below-same chunk_of (λ j. length (chunk p d o (exchange_of o j) i)) p.b (λ j j_in. counted.chunks j i j_in i_in),
        counted.waits i i_in,
        sum-of-list (slice_index tails i ∷ []),
        sum_by-cons (λ (n : ℕ). n) (slice_index tails i) [],
      )

  -- the same by the accesses
  pub part_items : (a x : ℕ) → x < p.b + 1 → slice_index (parts_counted p counts tails i) x ≡ items_in p d o (access_of p a Reads (part_slot p i x))
  part_items a x inside = elim (cases_lt x p.b) [
    | inl before ↦
        part_before chunk_of p.b x (slice_index tails i) before
        ∙ counted.chunks x i before i_in
        ∙ ap (λ (n : ℕ). length (chunk p d o (exchange_of o n) i)) (sym (div-mul-add x p.b i i_in))
        ∙ ap (λ (n : ℕ). length (chunk p d o (exchange_of o ((x * p.b + i) / p.b)) n)) (sym (mod-mul-add x p.b i i_in))
        ∙ ap (λ (s : Slot). items_in p d o (access_of p a Reads s)) (sym (part_is_chunk p a i x before))
    | inr behind ↦
        let is : x ≡ p.b = omega arith in
        ap (λ (n : ℕ). slice_index (parts_counted p counts tails i) n) is
        ∙ part_last chunk_of p.b (slice_index tails i)
        ∙ counted.waits i i_in
        ∙ ap (λ (s : Slot). items_in p d o (access_of p a Reads s)) (sym (part_is_tail p a i x behind))
  ]

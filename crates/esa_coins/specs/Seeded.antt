-- What a seed draws, by the definitions of its generator and of the draws from it.
use Rattle.std.specs.Prelude.{ℕ, zero, suc, ◌+◌, ◌-◌, ◌*◌, ◌^◌, ◌==◌, nat_le, List, [], ◌∷◌, map, count_by}
use Rattle.std.specs.List.{before_first}
use Rattle.rand_core.specs.Stream.{Stream, next_u32}
use Rattle.rand_core.specs.Steps.{stream_of, steps_u32}
use Rattle.rand_chacha.specs.ChaCha.{next_word, of_seed}
use Rattle.rand.specs.Shuffle.{shuffled}
use Rattle.rand.specs.Uniform.{canon}
use Rattle.esa_params.specs.Sizes.{Sizes, size, below}
use Rattle.esa_params.specs.declared.draw.Draw.{Draw}
use Rattle.esa_params.specs.declared.draw.Draw.TheVariants.{Single, Separators}
use Rattle.esa_coins.specs.Streams.{ForTargets, ForOrder, ForSeparators, stream_number}

-- a seed, how targets are drawn from it, and for which plan
pub record Seeds : Type 0 where
  pub seed : List ℕ
  pub draw : Draw
  pub plan : Sizes

-- the words of ChaCha20 with the seed's key, on the stream of a number
unfoldable pub stream_at : List ℕ → ℕ → Stream
stream_at seed number = stream_of (steps_u32 (next_word 10)) (record (of_seed seed) { stream = number })

-- numbers below a bound, as many as are wanted, drawn one after another
unfoldable pub drawn_below : ℕ → ℕ → Stream → List ℕ
drawn_below zero bound words = []
drawn_below (suc wanted) bound words =
    let first = canon (2 ^ 32) next_u32 bound words in
    first.0 ∷ drawn_below wanted bound first.1

-- the numbers below n, shuffled
abbrev pub shuffled_below : ℕ → Stream → List ℕ
shuffled_below n words = (shuffled (below n) 0 words).0

-- how many separators, which are the entries from n on, stand before the entry x
abbrev pub separators_before : ℕ → ℕ → List ℕ → ℕ
separators_before n x entries = count_by (λ entry. nat_le n entry) (before_first (λ entry. entry == x) entries)

-- for each of n entries the number of separators that stand before it
abbrev pub separated : ℕ → List ℕ → List ℕ
separated n entries = map (λ x. separators_before n x entries) (below n)

-- the targets of n places of a bucket
abbrev pub targets_by : Draw → List ℕ → ℕ → ℕ → ℕ → ℕ → List ℕ
targets_by Single seed b n attempt bucket = drawn_below n b (stream_at seed (stream_number ForTargets attempt bucket))
targets_by Separators seed b n attempt bucket = separated n (shuffled_below (n + b - 1) (stream_at seed (stream_number ForSeparators attempt bucket)))

abbrev pub seeded_targets : Seeds → ℕ → ℕ → List ℕ
seeded_targets coins attempt bucket =
    targets_by coins.draw coins.seed coins.plan.b (size coins.plan bucket) attempt bucket

abbrev pub seeded_order : Seeds → ℕ → ℕ → List ℕ
seeded_order coins attempt target =
    shuffled_below (coins.plan.b * coins.plan.c + coins.plan.k) (stream_at coins.seed (stream_number ForOrder attempt target))

-- A stream of 32-bit words: what is drawn from it is in range.
use Rattle.std.proofs.Common.{◌≡◌, ℕ, zero, suc, ◌+◌, ◌-◌, ◌*◌, ◌/◌, ◌%◌, ◌^◌, ◌<◌, ◌≤◌, Bool, true, false, cond, nat_lt, nat_le, List, [], ◌∷◌, length, All, refl, ap, arith}
use Rattle.std.proofs.lemmas.Bool.{ltb-true}
use Rattle.std.proofs.lemmas.List.Elements.{All-cons, All-nil}
use Rattle.std.proofs.lemmas.Nat.{div_below, mul-le}
use Rattle.rand_core.specs.Stream.{Stream, Call, u32_call, after, next_u32}
use Rattle.rand_core.specs.Steps.{stream_of}
use Rattle.rand_chacha.specs.Block.{block_word}
use Rattle.rand.specs.Draw.{draw_map}
use Rattle.rand.specs.Uniform.{canon}
use Rattle.rand.proofs.UniformLemmas.{carry_room}
use Rattle.esa_coins.specs.Seeded.{stream_at, drawn_below}

-- each word of the stream has 32 bits
pub record WordsFit (words : Stream) : Type 0 where
  pub fits : (calls : List Call) → words.u32_after calls < 2 ^ 32

words_fit-after : (words : Stream) → WordsFit words → WordsFit (after u32_call words)
words_fit-after words fit = record { fits = λ calls. fit.fits (u32_call ∷ calls) }

mod_fits : (n : ℕ) → n % 2 ^ 32 < 2 ^ 32
mod_fits n = omega arith

pub words_fit-stream_at : (seed : List ℕ) (number : ℕ) → WordsFit (stream_at seed number)
unfolding stream_at stream_of block_word
words_fit-stream_at seed number = record { fits = λ calls. mod_fits _ }

-- the first word, as a fraction of 2 ^ 32, times the range
first_high : (word range : ℕ) → word < 2 ^ 32 → 0 < range → word * range / 2 ^ 32 < range
first_high word range fits positive =
    let product : (word + 1) * range ≤ 2 ^ 32 * range = mul-le (word + 1) range (2 ^ 32) range (omega arith) (omega arith) in
    div_below (word * range) (2 ^ 32) range (omega arith) (omega arith)

next_high : (word range : ℕ) → word < 2 ^ 32 → range ≤ 2 ^ 32 → 2 ^ 32 - range < word * range % 2 ^ 32 → word * range / 2 ^ 32 + 1 < range
next_high word range fits within carries =
    carry_room (2 ^ 32) range word (word * range / 2 ^ 32) (word * range % 2 ^ 32) fits (omega arith) carries within

one_of : (test : Bool) (a b bound : ℕ) → a < bound → b < bound → cond test a b < bound
one_of true a b bound p q = p
one_of false a b bound p q = q

-- a number below a range, and the words after it
pub record Drawn (range : ℕ) (drawn : ℕ × Stream) : Type 0 where
  pub below : drawn.0 < range
  pub rest : WordsFit drawn.1

pub canon_drawn : (range : ℕ) (words : Stream) → WordsFit words → 0 < range → range ≤ 2 ^ 32 → Drawn range (canon (2 ^ 32) next_u32 range words)
unfolding canon next_u32
canon_drawn range words fit positive within =
    let word = words.u32_after [] in
    let later = words_fit-after words fit in
    let high = first_high word range (fit.fits []) positive in
    elim (nat_lt (2 ^ 32 - range) (word * range % 2 ^ 32))
    as (λ carries. nat_lt (2 ^ 32 - range) (word * range % 2 ^ 32) ≡ carries → Drawn range (cond carries (draw_map (λ w. cond (nat_le (2 ^ 32) (word * range % 2 ^ 32 + w * range / 2 ^ 32)) (word * range / 2 ^ 32 + 1) (word * range / 2 ^ 32)) next_u32 (after u32_call words)) (word * range / 2 ^ 32, after u32_call words))) [
      | true ↦ λ carries. record {
        below = one_of _ _ _ range (next_high word range (fit.fits []) within (ltb-true _ _ carries)) high;
        rest = words_fit-after _ later;
      }
      | false ↦ λ _. record { below = high; rest = later }
    ] refl

-- ---- numbers drawn one after another

pub length-drawn_below : (wanted bound : ℕ) (words : Stream) → length (drawn_below wanted bound words) ≡ wanted
unfolding drawn_below
length-drawn_below zero bound words = refl
length-drawn_below (suc wanted) bound words = ap suc (length-drawn_below wanted bound (canon (2 ^ 32) next_u32 bound words).1)

pub drawn_below-below : (wanted bound : ℕ) (words : Stream) → WordsFit words → 0 < bound → bound ≤ 2 ^ 32 → All (λ number. number < bound) (drawn_below wanted bound words)
unfolding drawn_below
drawn_below-below zero bound words fit positive within = All-nil _
drawn_below-below (suc wanted) bound words fit positive within =
    let first = canon_drawn bound words fit positive within in
    let rest = (canon (2 ^ 32) next_u32 bound words).1 in
    All-cons (λ number. number < bound) (canon (2 ^ 32) next_u32 bound words).0 (drawn_below wanted bound rest) first.below (drawn_below-below wanted bound rest first.rest positive within)

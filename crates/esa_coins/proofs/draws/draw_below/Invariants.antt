use Rattle.std.proofs.Common.{◌≡◌, ℕ, ◌<◌, ◌-◌, ◌++◌, take, length, get_or}
use Rattle.rand_chacha.specs.ChaCha.{next_word}
use Rattle.rand_core.specs.Steps.{stream_of, steps_u32}
use Rattle.esa_coins.specs.Seeded.{drawn_below, stream_at}
use Rattle.esa_coins.proofs.draws.draw_below.Given as goal

abbrev pub invariant-loop-target : goal.invariant-loop-target
invariant-loop-target l = record {
  drawn : drawn_below (length l.initial.out) l.bound (stream_at l.fn.seed l.fn.number) ≡ take l.target-index l.out ++ drawn_below (length l.out - l.target-index) l.bound (stream_of (steps_u32 (next_word 10)) l.rng);
  below : (k : ℕ) → k < l.target-index → get_or l.out k 0 < l.bound;
}

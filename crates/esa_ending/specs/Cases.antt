-- Endings of the shuffle of four records whose every access is known.
use Rattle.std.specs.Prelude.{ℕ, [], ◌∷◌, ◌++◌, take, replicate}
use Rattle.esa_params.specs.Sizes.{Sizes}
use Rattle.esa_spec.specs.Cases.{base, base_targets, base_trace, draw_of}
use Rattle.esa_spec.specs.Draws.{Draw}
use Rattle.esa_ending.specs.Seen.{Faults, Seen}

abbrev pub base_draws : ℕ → Draw
base_draws a = draw_of base base_targets

-- a count that stays, and one that rises
abbrev pub stays : Faults
stays = record { before = 2; now = 2 }

abbrev pub rises : Faults
rises = record { before = 2; now = 3 }

-- so many accesses of `base` and so many turns of its one attempt
abbrev pub seen_after : ℕ → ℕ → Seen
seen_after accesses turns = record {
  trace = take accesses base_trace;
  history = 1 ∷ replicate turns 0 ++ 1 ∷ [];
  device = stays;
  batch = stays;
}

-- the same, where the device failed
abbrev pub seen_at_fault : ℕ → ℕ → Seen
seen_at_fault accesses turns = record (seen_after accesses turns) { device = rises }

-- a front of the accesses of `base`, where the batch file failed and no attempt was begun
abbrev pub seen_in_load : ℕ → Seen
seen_in_load accesses = record { trace = take accesses base_trace; history = 1 ∷ []; device = stays; batch = rises }

-- one attempt without a stash
abbrev pub stash_zero : Sizes
stash_zero = record base { s = 0 }

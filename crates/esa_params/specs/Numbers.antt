-- The numbers of a shuffle that a job states.
use Rattle.std.specs.Prelude.{ℕ, ◌+◌, ◌*◌, ◌≤◌}

-- the parameters of a shuffle
pub record Numbers : Type 0 where
  -- the number of buckets
  pub b : ℕ
  -- the items of a chunk
  pub c : ℕ
  -- the items that the stash holds at most
  pub s : ℕ
  -- the items of a tail
  pub k : ℕ
  -- how many buckets the window runs ahead
  pub w : ℕ
  -- the items that the window's queue holds at most
  pub q : ℕ
  pub workers : ℕ
  pub attempts : ℕ

-- the items of all chunks and tails
abbrev pub middle : ℕ → ℕ → ℕ → ℕ
middle b c k = b * (b * c + k)

-- each of the numbers keeps its limits
pub record KeepsLimits (n : Numbers) : Type 0 where
  pub b_least : 1 ≤ n.b
  pub b_greatest : n.b ≤ 256
  pub c_least : 1 ≤ n.c
  pub c_greatest : n.c ≤ 1024
  pub s_greatest : n.s ≤ 262144
  pub k_greatest : n.k ≤ 4096
  pub w_least : 1 ≤ n.w
  pub w_greatest : n.w ≤ n.b
  pub q_least : 1 ≤ n.q
  pub q_greatest : n.q ≤ 1048576
  pub middle_greatest : middle n.b n.c n.k ≤ 4194304
  pub workers_least : 1 ≤ n.workers
  pub workers_greatest : n.workers ≤ 16
  pub attempts_least : 1 ≤ n.attempts
  pub attempts_greatest : n.attempts ≤ 16

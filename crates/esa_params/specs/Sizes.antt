-- The sizes of a shuffle, and the places of its buckets. A place is the index of a record in the batch.
use Rattle.std.specs.Prelude.{ℕ, ◌+◌, ◌-◌, ◌*◌, ◌/◌, ◌≤◌, min, List}
use Rattle.std.specs.List.{range_with_len}
use Rattle.esa_params.specs.Numbers.{Numbers, KeepsLimits}
use Rattle.esa_params.specs.declared.form.Form.{Form}

-- the parameters of a shuffle, the number of its records and their form
pub record Sizes : Type 0 where
  -- the number of records
  pub n : ℕ
  -- the number of buckets
  pub b : ℕ
  -- the items of a chunk
  pub c : ℕ
  -- the items that the stash holds at most
  pub s : ℕ
  -- the items of a tail
  pub k : ℕ
  -- how many buckets the window runs ahead
  pub w : ℕ
  -- the items that the window's queue holds at most
  pub q : ℕ
  pub workers : ℕ
  pub attempts : ℕ
  pub form : Form

-- the parameters alone
abbrev pub numbers : Sizes → Numbers
numbers p = record { b = p.b; c = p.c; s = p.s; k = p.k; w = p.w; q = p.q; workers = p.workers; attempts = p.attempts }

-- the parameters with a number of records and their form
abbrev pub sizes_of : Numbers → ℕ → Form → Sizes
sizes_of m n form = record { n = n; b = m.b; c = m.c; s = m.s; k = m.k; w = m.w; q = m.q; workers = m.workers; attempts = m.attempts; form = form }

-- the sizes keep their limits
pub record ArePlanned (p : Sizes) : Type 0 where
  pub n_least : 1 ≤ p.n
  pub n_greatest : p.n ≤ 262144
  pub parameters : KeepsLimits (numbers p)

-- the places of a bucket that is full: the records over the buckets, rounded up
abbrev pub share : Sizes → ℕ
share p = (p.n + p.b - 1) / p.b

-- the first place of a bucket
abbrev pub first : Sizes → ℕ → ℕ
first p j = min p.n (j * share p)

-- the number of places of a bucket
abbrev pub size : Sizes → ℕ → ℕ
size p j = first p (j + 1) - first p j

-- the numbers below n
abbrev pub below : ℕ → List ℕ
below n = range_with_len 0 n

-- the places of a bucket
abbrev pub places_of : Sizes → ℕ → List ℕ
places_of p j = range_with_len (first p j) (size p j)

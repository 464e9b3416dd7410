-- A queue into which batches come, one after another, and from which up to c elements leave with each batch, first in
-- first out. All is said of the list of the batches. Batches are numbered from 0.
use Rattle.std.specs.Prelude.{ℕ, zero, suc, ◌+◌, ◌-◌, ◌*◌, max, List, length, take, drop, flat_map, slice_range}

-- the elements of batches, one batch after another
abbrev pub joined : {X : Type 0} → List (List X) → List X
joined es = flat_map (λ e. e) es

-- how many came in with the first k batches
abbrev pub arrived : {X : Type 0} → List (List X) → ℕ → ℕ
arrived es k = length (joined (take k es))

-- the greatest of f 0 to f k
abbrev pub greatest : (ℕ → ℕ) → ℕ → ℕ
greatest f zero = f 0
greatest f (suc k) = max (greatest f k) (f (suc k))

-- how many came in with the batches from j on, up to k, less c for each of these batches
abbrev pub excess : {X : Type 0} → ℕ → List (List X) → ℕ → ℕ → ℕ
excess c es k j = arrived es k - (arrived es j + (k - j) * c)

-- how many wait after k batches: the greatest excess since any batch
abbrev pub waiting : {X : Type 0} → ℕ → List (List X) → ℕ → ℕ
waiting c es k = greatest (excess c es k) k

-- how many have left with the first k batches
abbrev pub departed : {X : Type 0} → ℕ → List (List X) → ℕ → ℕ
departed c es k = arrived es k - waiting c es k

-- the elements that leave with batch k
abbrev pub leaving : {X : Type 0} → ℕ → List (List X) → ℕ → List X
leaving c es k = slice_range (joined es) (departed c es k) (departed c es (suc k))

-- the elements that wait after k batches
abbrev pub queue : {X : Type 0} → ℕ → List (List X) → ℕ → List X
queue c es k = drop (departed c es k) (joined (take k es))

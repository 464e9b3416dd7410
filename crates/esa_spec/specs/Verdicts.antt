-- How an attempt ends: a function of the sizes, the targets and the turns. The places are imported and put out by
-- number, so the counts of places with a target below a number tell how full the window's queue is.
use Rattle.std.specs.Prelude.{ℕ, zero, suc, ◌+◌, ◌-◌, ◌*◌, min, Bool, true, false, ◌||◌, ◌==◌, nat_lt, if◌then◌else◌, Option, Some, None, is_some, List, [], ◌∷◌, ◌++◌, length, map, flat_map, count_by, find, slice_index}
use Rattle.std.specs.List.{range_with_len}
use Rattle.esa_params.specs.Sizes.{Sizes, first, below}
use Rattle.esa_spec.specs.Draws.{Draw}
use Rattle.esa_spec.specs.Lines.{backlog, overflows}
use Rattle.esa_spec.specs.Queue.{joined}
use Rattle.esa_spec.specs.Turns.{order, writes}
use Rattle.esa_spec.specs.declared.event.Verdict.{Verdict}
use Rattle.esa_spec.specs.declared.event.Verdict.TheVariants.{Good, StashOverflow, StashLeft, QueueOverflow, QueueStarved}

-- the number of the first exchange that overflows the stash
abbrev pub failing : Sizes → Draw → List ℕ → Option ℕ
failing p d o = find (overflows p d o) (below (length o))

-- an exchange failed, or all chunks are written
abbrev pub is_finished : Sizes → Draw → List ℕ → Bool
is_finished p d h = is_some (failing p d (order p.b h)) || (writes p.b h == p.b * p.b)

-- more waits for the target i at the end than a tail holds
abbrev pub is_left : Sizes → Draw → List ℕ → ℕ → Bool
is_left p d o i = nat_lt p.k (backlog p d o p.b i)

-- the first target for which more is left than a tail holds
abbrev pub left : Sizes → Draw → List ℕ → Option ℕ
left p d o = find (is_left p d o) (below p.b)

-- what the compression does, one after another
pub data Step : Type 0 where
  -- the intermediate bucket i is imported before the output bucket j is written
  Import : ℕ → ℕ → Step
  -- the output bucket j is written
  Put : ℕ → Step

-- how many intermediate buckets are imported when j output buckets are written
abbrev pub imported : Sizes → ℕ → ℕ
imported p zero = 0
imported p (suc j) = min (j + p.w) p.b

-- the steps for the output bucket j
abbrev pub steps_of : Sizes → ℕ → List Step
steps_of p j = map (Import j) (range_with_len (imported p j) (imported p (suc j) - imported p j)) ++ Put j ∷ []

-- the steps of the whole compression
abbrev pub steps : Sizes → List Step
steps p = flat_map (steps_of p) (below p.b)

-- a target is below i
abbrev pub is_below : ℕ → ℕ → Bool
is_below i target = nat_lt target i

-- the targets of all places, in order
abbrev pub targets : Sizes → Draw → List ℕ
targets p d = joined (map d.targets (below p.b))

-- how many places have a target below i
abbrev pub reached : Sizes → Draw → ℕ → ℕ
reached p d i = count_by (is_below i) (targets p d)

-- whether a step can be done: an import where its places find room in the queue, and a put where the queue has enough
abbrev pub step_verdict : Sizes → Draw → Step → Verdict
step_verdict p d (Import j i) = if nat_lt (first p j + p.q) (reached p d (i + 1)) then QueueOverflow i else Good
step_verdict p d (Put j) = if nat_lt (reached p d (imported p (suc j))) (first p (j + 1)) then QueueStarved j else Good

-- the verdict is Good
abbrev pub is_good : Verdict → Bool
is_good Good = true
is_good _ = false

-- the first verdict that isn't Good, or Good
abbrev pub first_bad : List Verdict → Verdict
first_bad [] = Good
first_bad (v ∷ vs) = if is_good v then first_bad vs else v

-- how an attempt ends in which no exchange failed, by what is left
abbrev pub drained : Sizes → Draw → Option ℕ → Verdict
drained p d (Some i) = StashLeft i
drained p d None = first_bad (map (step_verdict p d) (steps p))

-- how an attempt with this order of exchanges ends, by its failing exchange
abbrev pub settled : Sizes → Draw → List ℕ → Option ℕ → Verdict
settled p d o (Some k) = StashOverflow (slice_index o k)
settled p d o None = drained p d (left p d o)

-- how an attempt with these turns ends, once it is finished
abbrev pub verdict : Sizes → Draw → List ℕ → Verdict
verdict p d h = settled p d (order p.b h) (failing p d (order p.b h))

-- Each access of a run is of one of its attempts.
use Rattle.std.proofs.Common.{ℕ, zero, suc, ◌+◌, ◌<◌, ◌≤◌, Bool, true, false, cond, List, [], ◌∷◌, ◌++◌, length, map, arith}
use Rattle.std.specs.List.{filter_map}
use Rattle.std.specs.Prelude.{Option, Some, None, unwrap_or, All}
use Rattle.std.proofs.lemmas.List.Elements.{All-nil, All-append, All-map}
use Rattle.esa_params.specs.Sizes.{Sizes, ArePlanned, below}
use Rattle.esa_params.specs.Slots.{at, access_of}
use Rattle.esa_params.specs.declared.slot.Region.TheVariants.{Tail, Output}
use Rattle.esa_params.specs.declared.slot.Op.TheVariants.{Read as Reads, Write as Writes}
use Rattle.esa_params.specs.declared.slot.Access.{Access}
use Rattle.esa_spec.specs.Draws.{Draw}
use Rattle.esa_spec.specs.Traces.{asked, made, spread, written_input, load, read_chunk, step_accesses, walk, compression, written_tail, drain, rest, attempt_trace, is_failed, attempts, shuffle_trace, read_output, scan, scans, good_attempt, trace}
use Rattle.esa_spec.specs.Turns.{events, order}
use Rattle.esa_spec.specs.Verdicts.{failing, is_finished, left, Step, Import, Put, steps, step_verdict, is_good, verdict}
use Rattle.esa_spec.specs.declared.event.Event.{Event}
use Rattle.esa_spec.specs.declared.event.Event.TheVariants.{Claim, Read, Exchange, Write, Done, Idle}

-- the accesses are of attempts below m
abbrev pub AreBefore : ℕ → List Access → Type 0
AreBefore m xs = All (λ x. x.attempt < m) xs

none_before : (m : ℕ) → AreBefore m []
none_before m = All-nil (λ x. x.attempt < m)

joined_before : (m : ℕ) (xs ys : List Access) → AreBefore m xs → AreBefore m ys → AreBefore m (xs ++ ys)
joined_before m xs ys first second = All-append (λ x. x.attempt < m) xs ys first second

one_more_before : (m : ℕ) (x : Access) (xs : List Access) → x.attempt < m → AreBefore m xs → AreBefore m (x ∷ xs)
one_more_before m x xs low rest zero d inside = low
one_more_before m x xs low rest (suc k) d inside = rest k d (omega arith)

each_before : (m : ℕ) (f : ℕ → Access) (ys : List ℕ) → ((i : ℕ) → (f i).attempt < m) → AreBefore m (map f ys)
each_before m f ys each = All-map (λ x. x.attempt < m) f ys (λ k d inside. each _)

if_before : (m : ℕ) (test : Bool) (xs : List Access) → AreBefore m xs → AreBefore m (cond test xs [])
if_before m true xs all = all
if_before m false xs all = none_before m

asked_before : (p : Sizes) (a m : ℕ) → a < m → (es : List Event) → AreBefore m (filter_map (asked p a) es)
asked_before p a m low [] = none_before m
asked_before p a m low (Claim j ∷ es) = asked_before p a m low es
asked_before p a m low (Read j ∷ es) = one_more_before m _ _ low (asked_before p a m low es)
asked_before p a m low (Exchange j ∷ es) = asked_before p a m low es
asked_before p a m low (Write j i ∷ es) = one_more_before m _ _ low (asked_before p a m low es)
asked_before p a m low (Done ∷ es) = asked_before p a m low es
asked_before p a m low (Idle ∷ es) = asked_before p a m low es

step_before : (p : Sizes) (d : Draw) (a m : ℕ) → a < m → (x : Step) → AreBefore m (step_accesses p d a x)
step_before p d a m low (Import j i) =
    joined_before m (map (read_chunk p a i) (below p.b)) (access_of p a Reads (at Tail i) ∷ []) (each_before m (read_chunk p a i) (below p.b) (λ _. low)) (one_more_before m _ [] low (none_before m))
step_before p d a m low (Put j) =
    if_before m (is_good (step_verdict p d (Put j))) (access_of p a Writes (at Output j) ∷ []) (one_more_before m _ [] low (none_before m))

walk_before : (p : Sizes) (d : Draw) (a m : ℕ) → a < m → (xs : List Step) → AreBefore m (walk p d a xs)
walk_before p d a m low [] = none_before m
walk_before p d a m low (x ∷ xs) =
    joined_before m (step_accesses p d a x) _ (step_before p d a m low x) (if_before m (is_good (step_verdict p d x)) (walk p d a xs) (walk_before p d a m low xs))

compression_before : (p : Sizes) (d : Draw) (a m : ℕ) → a < m → (l : Option ℕ) → AreBefore m (compression p d a l)
compression_before p d a m low (Some i) = none_before m
compression_before p d a m low None = walk_before p d a m low (steps p)

drain_before : (p : Sizes) (d : Draw) (a m : ℕ) → a < m → (l : Option ℕ) → AreBefore m (drain p d a l)
drain_before p d a m low l =
    joined_before m (map (written_tail p a) (below (unwrap_or l p.b))) (compression p d a l) (each_before m (written_tail p a) (below (unwrap_or l p.b)) (λ _. low)) (compression_before p d a m low l)

rest_before : (p : Sizes) (d : Draw) (a m : ℕ) → a < m → (h : List ℕ) (f : Option ℕ) → AreBefore m (rest p d a h f)
rest_before p d a m low h (Some k) = none_before m
rest_before p d a m low h None = if_before m (is_finished p d h) (drain p d a (left p d (order p.b h))) (drain_before p d a m low (left p d (order p.b h)))

attempt_before : (p : Sizes) (d : Draw) (a m : ℕ) → a < m → (h : List ℕ) → AreBefore m (attempt_trace p d a h)
attempt_before p d a m low h =
    joined_before m (spread p d a h) (rest p d a h (failing p d (order p.b h))) (asked_before p a m low (made (failing p d (order p.b h)) (events p.b h))) (rest_before p d a m low h (failing p d (order p.b h)))

attempts_before : (p : Sizes) (ds : ℕ → Draw) (a m : ℕ) (hs : List (List ℕ)) → a + length hs ≤ m → AreBefore m (attempts p ds a hs)
attempts_before p ds a m [] few = none_before m
attempts_before p ds a m (h ∷ hs) few =
    joined_before m (attempt_trace p (ds a) a h) _ (attempt_before p (ds a) a m (omega arith) h)
    (if_before m (is_failed p (ds a) h) (attempts p ds (a + 1) hs) (attempts_before p ds (a + 1) m hs (omega arith)))

scan_before : (p : Sizes) (a m : ℕ) → a < m → AreBefore m (scan p a)
scan_before p a m low = each_before m (read_output p a) (below p.b) (λ _. low)

choose_before : (p : Sizes) (finished good : Bool) (a m : ℕ) (other : Option ℕ) → a < m → AreBefore m (scans p other) → AreBefore m (scans p (cond finished (cond good (Some a) other) None))
choose_before p true true a m other low rest = joined_before m (scan p a) (scan p a) (scan_before p a m low) (scan_before p a m low)
choose_before p true false a m other low rest = rest
choose_before p false good a m other low rest = none_before m

scans_before : (p : Sizes) (ds : ℕ → Draw) (a m : ℕ) (hs : List (List ℕ)) → a + length hs ≤ m → AreBefore m (scans p (good_attempt p ds a hs))
scans_before p ds a m [] few = none_before m
scans_before p ds a m (h ∷ hs) few =
    choose_before p (is_finished p (ds a) h) (is_good (verdict p (ds a) h)) a m (good_attempt p ds (a + 1) hs) (omega arith) (scans_before p ds (a + 1) m hs (omega arith))

pub trace_before : (p : Sizes) (ds : ℕ → Draw) (m : ℕ) (hs : List (List ℕ)) → length hs ≤ m → 1 ≤ m → AreBefore m (trace p ds hs)
trace_before p ds m hs few some =
    joined_before m (shuffle_trace p ds hs) (scans p (good_attempt p ds 0 hs))
    (joined_before m (load p) (attempts p ds 0 hs) (each_before m (written_input p) (below p.b) (λ _. some)) (attempts_before p ds 0 m hs (omega (arith, few))))
    (scans_before p ds 0 m hs (omega (arith, few)))

pub attempts_fit : (p : Sizes) (ds : ℕ → Draw) (hs : List (List ℕ)) → ArePlanned p → length hs ≤ p.attempts → All (λ access. access.attempt < 256) (trace p ds hs)
attempts_fit p ds hs planned few = trace_before p ds 256 hs (omega (arith, planned.parameters.attempts_greatest)) (omega arith)

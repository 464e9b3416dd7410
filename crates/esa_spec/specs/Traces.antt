-- The accesses of a shuffle, in their order: a function of the sizes, the targets and the turns.
use Rattle.std.specs.Prelude.{ℕ, zero, suc, ◌+◌, ◌*◌, Bool, true, false, ◌&&◌, ◌==◌, if◌then◌else◌, Option, Some, None, unwrap_or, List, [], ◌∷◌, ◌++◌, map, filter_map}
use Rattle.esa_params.specs.Sizes.{Sizes, below}
use Rattle.esa_params.specs.Slots.{at, access_of, writes_number}
use Rattle.esa_params.specs.declared.slot.Region.TheVariants.{Input, Mid, Tail, Output}
use Rattle.esa_params.specs.declared.slot.Slot.{Slot}
use Rattle.esa_params.specs.declared.slot.Op.{Op}
use Rattle.esa_params.specs.declared.slot.Op.TheVariants.{Read as Reads, Write as Writes}
use Rattle.esa_params.specs.declared.slot.Access.{Access}
use Rattle.esa_spec.specs.Draws.{Draw}
use Rattle.esa_spec.specs.Turns.{events, order}
use Rattle.esa_spec.specs.Verdicts.{failing, is_finished, left, Step, Import, Put, steps, step_verdict, is_good, verdict}
use Rattle.esa_spec.specs.declared.event.Event.{Event}
use Rattle.esa_spec.specs.declared.event.Event.TheVariants.{Read, Exchange, Write}

-- the block of the chunk of bucket j for the target i
abbrev pub chunk_slot : Sizes → ℕ → ℕ → Slot
chunk_slot p j i = at Mid (j * p.b + i)

-- the access that a turn makes
abbrev pub asked : Sizes → ℕ → Event → Option Access
asked p a (Read j) = Some (access_of p a Reads (at Input j))
asked p a (Write j i) = Some (access_of p a Writes (chunk_slot p j i))
asked p a _ = None

-- the events up to exchange k
abbrev pub through : ℕ → List Event → List Event
through k [] = []
through zero (Exchange j ∷ es) = Exchange j ∷ []
through (suc k) (Exchange j ∷ es) = Exchange j ∷ through k es
through k (e ∷ es) = e ∷ through k es

-- the events up to the failing exchange, or all
abbrev pub made : Option ℕ → List Event → List Event
made None es = es
made (Some k) es = through k es

-- the accesses of the turns
abbrev pub spread : Sizes → Draw → ℕ → List ℕ → List Access
spread p d a h = filter_map (asked p a) (made (failing p d (order p.b h)) (events p.b h))

-- the write of the block of bucket j, before the first attempt
abbrev pub written_input : Sizes → ℕ → Access
written_input p j = access_of p 0 Writes (at Input j)

-- the accesses before the first attempt: each block of the input is written
abbrev pub load : Sizes → List Access
load p = map (written_input p) (below p.b)

-- the read of the chunk of bucket j for the target i
abbrev pub read_chunk : Sizes → ℕ → ℕ → ℕ → Access
read_chunk p a i j = access_of p a Reads (chunk_slot p j i)

-- the reads of an import: the chunks for the target i by the number of their bucket, and its tail
abbrev pub import_reads : Sizes → ℕ → ℕ → List Access
import_reads p a i = map (read_chunk p a i) (below p.b) ++ access_of p a Reads (at Tail i) ∷ []

-- the accesses of a step; an import reads also where it overflows, and a starved output bucket isn't written
abbrev pub step_accesses : Sizes → Draw → ℕ → Step → List Access
step_accesses p d a (Import j i) = import_reads p a i
step_accesses p d a (Put j) = if is_good (step_verdict p d (Put j)) then access_of p a Writes (at Output j) ∷ [] else []

-- the accesses of the steps up to the first that can't be done
abbrev pub walk : Sizes → Draw → ℕ → List Step → List Access
walk p d a [] = []
walk p d a (x ∷ xs) = step_accesses p d a x ++ (if is_good (step_verdict p d x) then walk p d a xs else [])

-- the accesses of the compression, which comes where nothing is left in the stash
abbrev pub compression : Sizes → Draw → ℕ → Option ℕ → List Access
compression p d a (Some i) = []
compression p d a None = walk p d a (steps p)

-- the write of the tail of the target i
abbrev pub written_tail : Sizes → ℕ → ℕ → Access
written_tail p a i = access_of p a Writes (at Tail i)

-- the tails are written, up to the one before the first that doesn't hold what is left, and the compression follows
abbrev pub drain : Sizes → Draw → ℕ → Option ℕ → List Access
drain p d a l = map (written_tail p a) (below (unwrap_or l p.b)) ++ compression p d a l

-- the accesses after the turns, which come where all chunks are written and no exchange failed
abbrev pub rest : Sizes → Draw → ℕ → List ℕ → Option ℕ → List Access
rest p d a h (Some k) = []
rest p d a h None = if is_finished p d h then drain p d a (left p d (order p.b h)) else []

-- the accesses of attempt a
abbrev pub attempt_trace : Sizes → Draw → ℕ → List ℕ → List Access
attempt_trace p d a h = spread p d a h ++ rest p d a h (failing p d (order p.b h))

-- the attempt is finished and doesn't succeed, so that the next one follows
abbrev pub is_failed : Sizes → Draw → List ℕ → Bool
is_failed p d h = if is_finished p d h then (if is_good (verdict p d h) then false else true) else false

-- each of these attempts, from attempt a on, is finished and doesn't succeed
abbrev pub all_failed : Sizes → (ℕ → Draw) → ℕ → List (List ℕ) → Bool
all_failed p ds a [] = true
all_failed p ds a (h ∷ hs) = is_failed p (ds a) h && all_failed p ds (a + 1) hs

-- the accesses of the attempts from attempt a on, by the turns of each
abbrev pub attempts : Sizes → (ℕ → Draw) → ℕ → List (List ℕ) → List Access
attempts p ds a [] = []
attempts p ds a (h ∷ hs) = attempt_trace p (ds a) a h ++ (if is_failed p (ds a) h then attempts p ds (a + 1) hs else [])

-- the accesses of a shuffle
abbrev pub shuffle_trace : Sizes → (ℕ → Draw) → List (List ℕ) → List Access
shuffle_trace p ds hs = load p ++ attempts p ds 0 hs

-- the read of output bucket j of attempt a
abbrev pub read_output : Sizes → ℕ → ℕ → Access
read_output p a j = access_of p a Reads (at Output j)

-- a scan reads the whole output of attempt a
abbrev pub scan : Sizes → ℕ → List Access
scan p a = map (read_output p a) (below p.b)

-- the attempt that succeeds, of those that are made from attempt a on
abbrev pub good_attempt : Sizes → (ℕ → Draw) → ℕ → List (List ℕ) → Option ℕ
good_attempt p ds a [] = None
good_attempt p ds a (h ∷ hs) =
    if is_finished p (ds a) h then (if is_good (verdict p (ds a) h) then Some a else good_attempt p ds (a + 1) hs) else None

-- two scans, where an attempt succeeds
abbrev pub scans : Sizes → Option ℕ → List Access
scans p None = []
scans p (Some a) = scan p a ++ scan p a

-- all accesses of a run: those of the shuffle, and the two scans of its output
abbrev pub trace : Sizes → (ℕ → Draw) → List (List ℕ) → List Access
trace p ds hs = shuffle_trace p ds hs ++ scans p (good_attempt p ds 0 hs)

-- the nonce that an operation writes
abbrev pub nonce_by : Op → ℕ → Option ℕ
nonce_by Reads nonce = None
nonce_by Writes nonce = Some nonce

-- the nonce that an access writes
abbrev pub written_nonce : Access → Option ℕ
written_nonce access = nonce_by access.op access.nonce

-- the nonces that are written, in turn
abbrev pub written_nonces : List Access → List ℕ
written_nonces accesses = filter_map written_nonce accesses

-- an access writes the slot that has this number, in attempt a
abbrev pub writes_in : Sizes → ℕ → ℕ → Access → Bool
writes_in p a number access = writes_number p number access && access.attempt == a

-- How a run ends whose shuffle succeeded, by the two scans of its output.
use Rattle.std.proofs.Common.{◌≡◌, ◌⊎◌, inl, inr, ℕ, ◌+◌, ◌<◌, Bool, false, List, [], ◌∷◌, ◌++◌, take, Some, refl, sym, ap, subst, ◌∙◌, append_assoc, arith}
use Rattle.std.proofs.lemmas.List.FromFn.{map-range_with_len_more}
use Rattle.esa_params.specs.Sizes.{Sizes, size}
use Rattle.esa_params.specs.Slots.{at, number_of}
use Rattle.esa_params.specs.declared.slot.Access.{Access}
use Rattle.esa_params.specs.declared.slot.Region.TheVariants.{Output}
use Rattle.esa_params.specs.declared.slot.Slot.{Slot}
use Rattle.esa_spec.specs.Draws.{Draw}
use Rattle.esa_spec.specs.Fronts.{Begins, EndsWith}
use Rattle.esa_spec.specs.Traces.{good_attempt, read_output, scan, scans, shuffle_trace, trace}
use Rattle.esa_ending.specs.Endings.{Succeeds, IsCutAt, DeviceFails, BlockIsTampered}
use Rattle.esa_ending.specs.Seen.{Seen, Rises, Stays, IsCalm, stored, HasHistory, HistoryEnds, AreCut}
use Rattle.esa_ending.proofs.CutLaws.{cut-behind, succeeded, cut-at}
use Rattle.esa_ending.proofs.HistoryLaws.{ends-behind}
use Rattle.esa_ending.proofs.FrontLaws.{onward, joined-front, behind, map-front}
use Rattle.esa_scans.specs.Scans.{reads}

-- a scan ended early, and the stored turns end with its last access
pub record Fails (p : Sizes) (ds : ℕ → Draw) (hs : List (List ℕ)) (seen : Seen) (number : ℕ) : Type 0 where
  pub end : DeviceFails p ds hs seen number
  pub turns : HistoryEnds p (stored p seen) hs end.access

pub record Closed (p : Sizes) (ds : ℕ → Draw) (hs : List (List ℕ)) (seen : Seen) (opens : Slot → ℕ → ℕ → Bool) (number : ℕ) : Type 0 where
  pub end : BlockIsTampered p ds hs seen opens number
  pub turns : HistoryEnds p (stored p seen) hs end.access

-- the shuffle succeeded in attempt a: its turns were stored, and it is the good one
module _ (p : Sizes) (ds : ℕ → Draw) (hs : List (List ℕ)) (seen : Seen) (a : ℕ) (planned : a < p.attempts) (good : good_attempt p ds 0 (stored p seen) ≡ Some a)
    (turns : stored p seen ≡ take (a + 1) hs) (history : HasHistory p seen) where
  -- both scans were made
  pub scanned_whole : IsCalm seen → seen.trace ≡ shuffle_trace p ds (stored p seen) ++ (scan p a ++ scan p a) → Succeeds p ds hs seen a
  scanned_whole calm made = succeeded p ds hs seen a history calm planned turns good made

  all : trace p ds (stored p seen) ≡ shuffle_trace p ds (stored p seen) ++ (scan p a ++ scan p a)
  all = ap (λ found. shuffle_trace p ds (stored p seen) ++ scans p found) good

  -- the reads up to that of bucket j, behind none or behind a whole scan
  front : (before : List Access) (j : ℕ) → (before ≡ []) ⊎ (before ≡ scan p a) → j < p.b → Begins (before ++ reads p a (j + 1)) (scan p a ++ scan p a)
  front before j where_is inside =
      let some : Begins (reads p a (j + 1)) (scan p a) = map-front (read_output p a) (j + 1) p.b (omega (arith, inside)) in
      elim where_is [
        | inl none ↦ subst (λ xs. Begins (xs ++ reads p a (j + 1)) (scan p a ++ scan p a)) (sym none) (onward (reads p a (j + 1)) (scan p a) (scan p a ++ scan p a) some (joined-front (scan p a) (scan p a)))
        | inr one ↦ subst (λ xs. Begins (xs ++ reads p a (j + 1)) (scan p a ++ scan p a)) (sym one) (behind (scan p a) (reads p a (j + 1)) (scan p a) some)
      ]

  -- a scan ended with the read of bucket j
  module _ (before : List Access) (j : ℕ) (where_is : (before ≡ []) ⊎ (before ≡ scan p a)) (inside : j < p.b)
      (made : seen.trace ≡ shuffle_trace p ds (stored p seen) ++ (before ++ reads p a (j + 1))) where
    last : EndsWith seen.trace (read_output p a j)
    last =
        let shuffled = shuffle_trace p ds (stored p seen) in
        let step : reads p a (j + 1) ≡ reads p a j ++ read_output p a j ∷ [] = map-range_with_len_more (read_output p a) 0 j j (omega arith) in (
          shuffled ++ (before ++ reads p a j),
          made ∙ ap (λ xs. shuffled ++ (before ++ xs)) step
              ∙ ap (λ xs. shuffled ++ xs) (sym (append_assoc before (reads p a j) (read_output p a j ∷ [])))
              ∙ sym (append_assoc shuffled (before ++ reads p a j) (read_output p a j ∷ [])),
        )

    begins : Begins seen.trace (trace p ds (stored p seen))
    begins =
        let shuffled = shuffle_trace p ds (stored p seen) in
        subst (λ xs. Begins xs (trace p ds (stored p seen))) (sym made)
        (subst (λ xs. Begins (shuffled ++ (before ++ reads p a (j + 1))) xs) (sym all) (behind shuffled (before ++ reads p a (j + 1)) (scan p a ++ scan p a) (front before j where_is inside)))

    cut : IsCutAt p ds hs seen (read_output p a j)
    cut = cut-at p ds hs seen (read_output p a j) history (subst (λ xs. AreCut xs hs) (sym turns) (cut-behind hs (a + 1))) last begins

    -- all turns of the attempts up to this one were stored
    ends : HistoryEnds p (stored p seen) hs (read_output p a j)
    ends = ends-behind p (stored p seen) hs (read_output p a j) a (refl, refl) turns

    pub scan_fails : Rises seen.device → Stays seen.batch → Fails p ds hs seen (number_of p (at Output j))
    scan_fails rises stays = record { end = record { access = read_output p a j; cut = cut; slot = refl; cause = rises; batch = stays }; turns = ends }

    pub scan_tampered : (opens : Slot → ℕ → ℕ → Bool) → opens (at Output j) a (size p j) ≡ false → IsCalm seen → Closed p ds hs seen opens (number_of p (at Output j))
    scan_tampered opens closed calm = record { end = record { access = read_output p a j; cut = cut; slot = refl; reads = refl; closed = closed; calm = calm }; turns = ends }

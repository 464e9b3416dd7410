-- The turns of a completed list, one after another.
use Rattle.std.proofs.Common.{◌≡◌, ℕ, ◌+◌, ◌*◌, ◌<◌, ◌≤◌, false, List, [], ◌∷◌, ◌++◌, length, take, get_or, sym, ap, ◌∙◌, subst, arith, append_assoc, ⊎_elim}
use Rattle.std.specs.Prelude.{option_to_list}
use Rattle.std.proofs.lemmas.Bool.{cases_lt}
use Rattle.std.proofs.lemmas.List.{take_more, take_all}
use Rattle.esa_params.specs.Sizes.{Sizes}
use Rattle.esa_params.specs.declared.slot.Access.{Access}
use Rattle.esa_laws.proofs.FinishLaws.{AllBelow, completed-written, finished-where, full-next}
use Rattle.esa_laws.proofs.SpreadLaws.{spread-push}
use Rattle.esa_spec.specs.Completion.{completed, full}
use Rattle.esa_spec.specs.Draws.{Draw}
use Rattle.esa_spec.specs.Traces.{asked, spread}
use Rattle.esa_spec.specs.Turns.{writes}
use Rattle.esa_spec.specs.Verdicts.{is_finished}
use Rattle.esa_spec.specs.declared.event.Verdict.{Verdict}
use Rattle.esa_model.specs.Recorded.{Recorded, with_accesses}
use Rattle.esa_model.specs.Seats.{event_of_next}
use Rattle.esa_model.specs.Distributed.{IsOf, Stands, IsWritten, IsOver}
use Rattle.esa_model.specs.declared.distribution.Distribution.{Distribution}
use Rattle.esa_model.proofs.StandLemmas.{event-is}

-- accesses behind accesses
pub with-more : (recorded : Recorded) (xs ys : List Access) → with_accesses (with_accesses recorded xs) ys ≡ with_accesses recorded (xs ++ ys)
with-more recorded xs ys = ap (λ (l : List Access). record recorded { accesses = l }) (append_assoc recorded.accesses xs ys)

module _ (p : Sizes) (d : Draw) (turns : List ℕ) where
  -- the turns before turn x of the completed list
  abbrev pub before : ℕ → List ℕ
  before x = take x (completed p turns)

  module _ (x : ℕ) (x_in : x < length (completed p turns)) (w : ℕ) (w_is : w ≡ get_or (completed p turns) x 0) where
    pub before-more : before (x + 1) ≡ before x ++ w ∷ []
    before-more = take_more (completed p turns) x 0 x_in ∙ ap (λ (v : ℕ). before x ++ v ∷ []) (sym w_is)

    -- a turn that goes on
    pub stands-more : (at : Distribution) → Stands p d (before x ++ w ∷ []) at → Stands p d (before (x + 1)) at
    stands-more at stands = subst (λ (h : List ℕ). Stands p d h at) (sym before-more) stands

    pub traced-more : (a : ℕ) (old : Distribution) → IsOf p old → Stands p d (before x) old → w < p.workers
        → (first last new : Recorded) → last ≡ with_accesses first (spread p d a (before x))
        → new ≡ with_accesses last (option_to_list (asked p a (event_of_next old.rounds w)))
        → new ≡ with_accesses first (spread p d a (before (x + 1)))
    traced-more a old is_of stands w_in first last new so_far more =
        more
        ∙ ap (λ (r : Recorded). with_accesses r (option_to_list (asked p a (event_of_next old.rounds w)))) so_far
        ∙ with-more first (spread p d a (before x)) (option_to_list (asked p a (event_of_next old.rounds w)))
        ∙ ap (λ e. with_accesses first (spread p d a (before x) ++ option_to_list (asked p a e))) (event-is p d (before x) old is_of stands w w_in)
        ∙ ap (with_accesses first) (sym (spread-push p d a (before x) w stands.fits))
        ∙ ap (λ (h : List ℕ). with_accesses first (spread p d a h)) (sym before-more)

    -- one that ends the attempt
    pub full-over : (v : Verdict) → ((y : ℕ) → y < x → is_finished p d (before y) ≡ false) → is_finished p d (before x) ≡ false
        → IsOver p d (before x ++ w ∷ []) v → full p d turns ≡ before (x + 1)
    full-over v earlier here over =
        full-next p d turns (x + 1) (omega arith)
        (ap (is_finished p d) before-more ∙ over.finished)
        (λ y y_in. ⊎_elim (earlier y) (λ (last : x ≤ y). let is : y ≡ x = omega arith in ap (λ (n : ℕ). is_finished p d (before n)) is ∙ here) (cases_lt y x))

    pub over-more : (v : Verdict) → full p d turns ≡ before (x + 1) → IsOver p d (before x ++ w ∷ []) v → IsOver p d (full p d turns) v
    over-more v is over = subst (λ (h : List ℕ). IsOver p d h v) (sym (is ∙ before-more)) over

  -- where all chunks are written
  module _ (x : ℕ) (x_in : x ≤ length (completed p turns)) (at : Distribution) (stands : Stands p d (before x) at) (earlier : (y : ℕ) → y < x → is_finished p d (before y) ≡ false) (all : at.written ≡ p.b * p.b) where
    writes-all : writes p.b (before x) ≡ p.b * p.b
    writes-all = sym stands.written ∙ all

    pub full-written : full p d turns ≡ before x
    full-written = full-next p d turns x x_in (finished-where p d (before x) writes-all) earlier

    pub is-written : IsWritten p d (full p d turns) at
    is-written = record {
      stands = subst (λ (h : List ℕ). Stands p d h at) (sym full-written) stands;
      all = ap (writes p.b) full-written ∙ writes-all;
    }

  -- when all turns are made, all chunks are written
  pub written-at_last : (x : ℕ) → x ≡ length (completed p turns) → 1 ≤ p.workers → AllBelow p.workers turns
      → (at : Distribution) → Stands p d (before x) at → at.written ≡ p.b * p.b
  written-at_last x last some workers at stands =
      stands.written ∙ ap (writes p.b) (take_all x (completed p turns) (omega arith)) ∙ completed-written p turns some workers

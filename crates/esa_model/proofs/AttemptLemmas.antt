-- How an attempt ends once its turns are made.
use Rattle.std.proofs.Common.{◌≡◌, ℕ, ◌<◌, Bool, true, cond, Option, Some, None, List, [], ◌++◌, length, map, refl, sym, ap, ◌∙◌, arith, append-nil}
use Rattle.std.specs.Prelude.{nat_lt, find}
use Rattle.esa_params.specs.Sizes.{Sizes, size, below}
use Rattle.esa_params.specs.declared.slot.Access.{Access}
use Rattle.esa_laws.proofs.FinishLaws.{finished-where}
use Rattle.esa_laws.proofs.Ranges.{find-below-same}
use Rattle.esa_laws.proofs.TotalLaws.{all-exchanged}
use Rattle.esa_spec.specs.Draws.{Draw}
use Rattle.esa_spec.specs.Lines.{backlog}
use Rattle.esa_spec.specs.Traces.{spread, rest, drain, attempt_trace, written_tail, walk}
use Rattle.esa_spec.specs.Turns.{order}
use Rattle.esa_spec.specs.Verdicts.{failing, is_finished, is_left, left, drained, settled, steps, verdict}
use Rattle.esa_spec.specs.declared.event.Verdict.{Verdict}
use Rattle.esa_spec.specs.declared.event.Verdict.TheVariants.{StashLeft}
use Rattle.esa_model.specs.Recorded.{Recorded, with_accesses}
use Rattle.esa_model.specs.Passed.{Passed, AreLinesOf, waiting_at}
use Rattle.esa_model.specs.Walked.{is_over, first_over, HaveArrived, AreMade}
use Rattle.esa_model.specs.Distributed.{IsWritten, IsOver}
use Rattle.esa_model.specs.declared.distribution.Distribution.{Distribution}
use Rattle.esa_model.proofs.CountLemmas.{all-counted}
use Rattle.esa_model.proofs.LineLemmas.{backlog-le}
use Rattle.esa_model.proofs.SpreadLemmas.{with-more}

module _ (p : Sizes) (d : Draw) (h : List ℕ) (a : ℕ) where
  -- where an exchange failed, the turns' accesses are all
  over-by : (o : Option ℕ) (k : ℕ) → failing p d (order p.b h) ≡ o → o ≡ Some k → rest p d a h o ≡ []
  over-by (Some j) k e is = refl
  over-by None k e is = absurd (cc)

  pub trace-over : (v : Verdict) → IsOver p d h v → spread p d a h ≡ attempt_trace p d a h
  trace-over v over = sym (ap (λ (l : List Access). spread p d a h ++ l) (over-by (failing p d (order p.b h)) over.failed.0 refl over.failed.1) ∙ append-nil (spread p d a h))

  -- where all chunks are written, the drain follows
  module _ (at : Distribution) (written : IsWritten p d h at) where
    pub finished-written : is_finished p d h ≡ true
    finished-written = finished-where p d h written.all

    pub trace-written : attempt_trace p d a h ≡ spread p d a h ++ drain p d a (left p d (order p.b h))
    trace-written =
        ap (λ (o : Option ℕ). spread p d a h ++ rest p d a h o) written.stands.fits
        ∙ ap (λ (c : Bool). spread p d a h ++ cond c (drain p d a (left p d (order p.b h))) []) finished-written

    pub verdict-written : verdict p d h ≡ drained p d (left p d (order p.b h))
    verdict-written = ap (settled p d (order p.b h)) written.stands.fits

    pub lines-written : at.lines.p ≡ p → AreLinesOf p d (order p.b h) at.lines
    lines-written plan = written.stands.lines

    pub exchanged-written : length (order p.b h) ≡ p.b
    exchanged-written = all-exchanged p.b h written.all

    pub arrived-written : ((j : ℕ) → j < p.b → length (d.targets j) ≡ size p j) → HaveArrived p d at.lines.arrived
    arrived-written each i i_in = written.stands.lines.arrived i i_in ∙ all-counted p d h each written.all i

-- what is over, by the lines
module _ (p : Sizes) (d : Draw) (o : List ℕ) (passed : Passed) (lines : AreLinesOf p d o passed) (whole : length o ≡ p.b) where
  waiting-is : (i : ℕ) → i < p.b → backlog p d o p.b i ≡ waiting_at passed i
  waiting-is i i_in =
      ap (λ (k : ℕ). backlog p d o k i) (sym whole)
      ∙ omega (arith, lines.arrived i i_in, lines.gone i i_in, backlog-le p d o i)

  pub left-is : passed.p ≡ p → left p d o ≡ first_over passed
  left-is plan =
      find-below-same (is_left p d o) (is_over passed) p.b (λ i i_in. ap (nat_lt p.k) (waiting-is i i_in) ∙ ap (λ (q : Sizes). nat_lt q.k (waiting_at passed i)) (sym plan))
      ∙ ap (λ (q : Sizes). find (is_over passed) (below q.b)) (sym plan)

  -- a drain that stops
  pub trace-left : (a i : ℕ) (old new : Recorded) → left p d o ≡ Some i → new ≡ with_accesses old (map (written_tail p a) (below i))
      → new ≡ with_accesses old (drain p d a (left p d o))
  trace-left a i old new is traced =
      traced ∙ ap (with_accesses old) (sym (ap (drain p d a) is ∙ append-nil (map (written_tail p a) (below i))))

  -- a drain that doesn't
  pub trace-drained : (a : ℕ) (v : Verdict) (old mid new : Recorded) → left p d o ≡ None → mid ≡ with_accesses old (map (written_tail p a) (below p.b))
      → AreMade p d a (steps p) v mid new → new ≡ with_accesses old (drain p d a (left p d o))
  trace-drained a v old mid new is traced made =
      made.traced
      ∙ ap (λ (r : Recorded). with_accesses r (walk p d a (steps p))) traced
      ∙ with-more old (map (written_tail p a) (below p.b)) (walk p d a (steps p))
      ∙ ap (with_accesses old) (sym (ap (drain p d a) is))

  pub verdict-drained : (a : ℕ) (v : Verdict) (mid new : Recorded) → left p d o ≡ None → AreMade p d a (steps p) v mid new → v ≡ drained p d (left p d o)
  verdict-drained a v mid new is made = made.ends ∙ sym (ap (drained p d) is)

  pub verdict-left : (i : ℕ) → left p d o ≡ Some i → StashLeft i ≡ drained p d (left p d o)
  verdict-left i is = sym (ap (drained p d) is)

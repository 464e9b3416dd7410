-- The distribution of an attempt, by numbers alone, and the history that it stands for.
use Rattle.std.specs.Prelude.{◌≡◌, ℕ, ◌*◌, true, false, Some, None, List}
use Rattle.esa_params.specs.Sizes.{Sizes, ArePlanned}
use Rattle.esa_spec.specs.Draws.{Draw}
use Rattle.esa_spec.specs.Turns.{order, writes}
use Rattle.esa_spec.specs.Verdicts.{failing, is_finished, is_good, verdict}
use Rattle.esa_spec.specs.declared.event.Verdict.{Verdict}
use Rattle.esa_model.specs.Seats.{AreSeats, AreSeatsAfter, none_seated}
use Rattle.esa_model.specs.Passed.{AreLines, AreLinesOf, none_passed}
use Rattle.esa_model.specs.declared.distribution.Distribution.{Distribution}

-- no turn was made
abbrev pub begun : Sizes → Distribution
begun p = record { rounds = none_seated p.b p.workers; lines = none_passed p; written = 0 }

-- the distribution is one for these sizes
pub record IsOf (p : Sizes) (at : Distribution) : Type 0 where
  pub planned : ArePlanned p
  pub plan : at.lines.p ≡ p
  pub buckets : at.rounds.b ≡ p.b
  pub seats : AreSeats p.workers at.rounds
  pub lines : AreLines at.lines

-- it is that after a history in which no exchange failed
pub record Stands (p : Sizes) (d : Draw) (h : List ℕ) (at : Distribution) : Type 0 where
  pub rounds : AreSeatsAfter p.b p.workers h at.rounds
  pub lines : AreLinesOf p d (order p.b h) at.lines
  pub written : at.written ≡ writes p.b h
  pub fits : failing p d (order p.b h) ≡ None

-- and all chunks are written
pub record IsWritten (p : Sizes) (d : Draw) (h : List ℕ) (at : Distribution) : Type 0 where
  pub stands : Stands p d h at
  pub all : writes p.b h ≡ p.b * p.b

-- an exchange of the history failed, and that is how the attempt ends
pub record IsOver (p : Sizes) (d : Draw) (h : List ℕ) (v : Verdict) : Type 0 where
  pub failed : (k : ℕ) × (failing p d (order p.b h) ≡ Some k)
  pub finished : is_finished p d h ≡ true
  pub verdict : verdict p d h ≡ v
  pub bad : is_good v ≡ false

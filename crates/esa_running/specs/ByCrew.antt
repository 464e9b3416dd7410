-- Who has taken the turns of a shuffle whose job asks for a crew.
use Rattle.std.specs.Prelude.{◌≡◌, ℕ, ◌-◌, ◌<◌, true, List, length}
use Rattle.esa_ending.specs.Seen.{turns_in}
use Rattle.esa_job.specs.Refusal.{runs_crew}
use Rattle.esa_parallel.specs.Crews.{AllTookPart, IsDoneByAll}
use Rattle.esa_params.specs.Sizes.{Sizes}
use Rattle.esa_refusal.specs.declared.status.Status.{Status}
use Rattle.esa_refusal.specs.declared.status.Status.TheVariants as status
use Rattle.esa_spec.specs.Draws.{Draw}
use Rattle.esa_spec.specs.Histories.{lists}
use Rattle.esa_taking.specs.Run.{Asked}
use Rattle.esa_taking.specs.Wanted.{sizes_in}

-- A crew has taken the turns of these attempts, the first so many of which no failed access has cut.
pub record AreOfCrew (p : Sizes) (ds : ℕ → Draw) (hs : List (List ℕ)) (uncut : ℕ) : Type 0 where
  -- each attempt has turns of every worker, and of nobody else
  pub took_part : AllTookPart p hs
  -- where no exchange failed, each worker has had a turn that found no bucket left
  pub done : (a : ℕ) → a < uncut → IsDoneByAll p (ds a) (turns_in hs a)

-- where the job asks for a crew, one has taken the turns of the attempts that were begun, of which so many are uncut
abbrev pub IsByCrew : Asked → (history : List ℕ) → (uncut : ℕ → ℕ) → Type 0
IsByCrew asked history uncut =
    runs_crew asked.job ≡ true
    → AreOfCrew (sizes_in asked) asked.draws (lists (sizes_in asked).workers history) (uncut (length (lists (sizes_in asked).workers history)))

-- how many of the attempts that were begun no failed access has cut, by the status that is owed: all, or all but the last
abbrev pub uncut_by : Status → ℕ → ℕ
uncut_by (status.DeviceFault at) begun = begun - 1
uncut_by (status.Tampered number) begun = begun - 1
uncut_by owed begun = begun

-- Who has taken the turns, by how the shuffle ended.
use Rattle.std.proofs.Common.{◌≡◌, ℕ, true, false, List, [], sym, ◌∙◌, arith}
use Rattle.esa_floor.specs.declared.turn.Outcome.TheVariants as outcome
use Rattle.esa_job.specs.Refusal.{runs_crew}
use Rattle.esa_parallel.specs.Crews.{uncut_of}
use Rattle.esa_refusal.specs.declared.status.DeviceAt.TheVariants.{Lay}
use Rattle.esa_refusal.specs.declared.status.Status.TheVariants as status
use Rattle.esa_vault.specs.declared.fault.VaultFault.{VaultFault}
use Rattle.esa_vault.specs.declared.fault.VaultFault.TheVariants.{Device, Tampered}
use Rattle.esa_running.specs.ByCrew.{IsByCrew, uncut_by}
use Rattle.esa_taking.specs.Run.{Asked}
use Rattle.esa_running.specs.RunOwes.{fault_status}

module _ (asked : Asked) where
  -- a job with turns asks for no crew
  pub not_by_crew : (history : List ℕ) (uncut : ℕ → ℕ) → runs_crew asked.job ≡ false → IsByCrew asked history uncut
  not_by_crew history uncut none = λ asks. absurd (let never : true ≡ false = sym asks ∙ none in cc never)

  -- no attempt was begun
  pub none_by_crew : IsByCrew asked [] (uncut_by (status.DeviceFault Lay))
  none_by_crew = λ asks. record {
    took_part = λ a inside. absurd (omega (arith, inside));
    done = λ a inside. absurd (omega (arith, inside));
  }

  -- a scan of the output of an attempt that succeeded ended early
  pub broken_by_crew : (history : List ℕ) (a : ℕ) (fault : VaultFault) → IsByCrew asked history (uncut_of (outcome.Shuffled a)) → IsByCrew asked history (uncut_by (fault_status fault))
  broken_by_crew history a (Device number) crew = λ asks. let by = crew asks in record { took_part = by.took_part; done = λ x inside. by.done x (omega (arith, inside)) }
  broken_by_crew history a (Tampered number) crew = λ asks. let by = crew asks in record { took_part = by.took_part; done = λ x inside. by.done x (omega (arith, inside)) }

-- No access of a drain or of a compression failed but the last one.
use Rattle.std.proofs.Common.{ℕ, List, [], ◌∷◌, ◌++◌, map, Option, Some, Result, Ok, Err, sym, ◌∙◌, subst, append_assoc}
use Rattle.std.proofs.lemmas.List.Elements.{All-append, All-map, All-push}
use Rattle.esa_device.specs.Logs.{Carried, NoneFailed, OnlyLastFailed}
use Rattle.esa_device.specs.Recording.{Recorded}
use Rattle.esa_envelope.specs.declared.keys.Keys.{Keys}
use Rattle.esa_params.specs.Sizes.{Sizes, below}
use Rattle.esa_params.specs.Slots.{access_of, at}
use Rattle.esa_params.specs.declared.slot.Access.{Access}
use Rattle.esa_params.specs.declared.slot.Op.{Op}
use Rattle.esa_params.specs.declared.slot.Op.TheVariants.{Write as Writes}
use Rattle.esa_params.specs.declared.slot.Region.TheVariants.{Output}
use Rattle.esa_report.specs.declared.item.Item.{Item}
use Rattle.esa_spec.specs.Draws.{Draw}
use Rattle.esa_vault.specs.Traffic.{FailedByFault, given_by}
use Rattle.esa_vault.specs.declared.fault.VaultFault.{VaultFault}
use Rattle.esa_vault.specs.declared.fault.VaultFault.TheVariants.{Device, Tampered}
use Rattle.esa_floor.specs.Parts.{Parts}
use Rattle.esa_floor.proofs.Failing.{Moved, last_failed, some_bytes}
use Rattle.esa_press.specs.Contents.{FailedByHalt}
use Rattle.esa_press.specs.Drained.{DrainEnd, failed_tail, stored_tail}
use Rattle.esa_press.specs.Pressed.{ImportAnswer, PutAnswer, output_block}
use Rattle.esa_press.specs.declared.halt.Halt.{Halt}
use Rattle.esa_press.specs.declared.halt.Halt.TheVariants as halt

-- one read more
pub failed_read : {T : Type 0} (log : List Carried) (access : Access) (bytes : List ℕ) (result : Result T VaultFault) → NoneFailed log
    → FailedByFault result (log ++ record { access = access; bytes = given_by result bytes } ∷ [])
failed_read log access bytes (Ok done) none = All-push Moved log (record { access = access; bytes = Some bytes }) none (some_bytes bytes)
failed_read log access bytes (Err (Device number)) none = last_failed log access none
failed_read log access bytes (Err (Tampered number)) none = All-push Moved log (record { access = access; bytes = Some bytes }) none (some_bytes bytes)

-- the reads of an import
pub import_failed : {V : Type 0} (faults : V → ℕ) (p : Sizes) (keys : Keys) (a i : ℕ) (counts : List ℕ) (queue : List Item) (old new : Recorded V) (result : Result (Unit {0}) Halt)
    → ImportAnswer faults p keys a i counts queue old new result → NoneFailed old.log → FailedByHalt result new.log
import_failed faults p keys a i counts queue old new (Ok done) answer = answer.1.failed
import_failed faults p keys a i counts queue old new (Err (halt.Verdict v)) answer = answer.2.failed
import_failed faults p keys a i counts queue old new (Err (halt.Fault (Device number))) answer = answer.failed
import_failed faults p keys a i counts queue old new (Err (halt.Fault (Tampered number))) answer = answer.failed

-- an output bucket more
pub put_ends : {V : Type 0} (told : V → Option (List (List ℕ))) (faults : V → ℕ) (last_call : V → Option (Op × ℕ)) (p : Sizes) (keys : Keys) (a j : ℕ) (queue rest : List Item) (old new : Recorded V) (result : Result (Unit {0}) Halt)
    → PutAnswer told faults last_call p keys a j queue rest old new result → NoneFailed old.log → FailedByHalt result new.log
put_ends told faults last_call p keys a j queue rest old new (Ok done) answer none =
    subst NoneFailed (sym answer.2.recorded.log)
    (All-push Moved old.log (record { access = access_of p a Writes (at Output j); bytes = Some (output_block p keys a j queue) }) none (some_bytes (output_block p keys a j queue)))
put_ends told faults last_call p keys a j queue rest old new (Err (halt.Verdict v)) answer none =
    subst (λ (r : Recorded _). NoneFailed r.log) (sym answer.3) none
put_ends told faults last_call p keys a j queue rest old new (Err (halt.Fault (Device number))) answer none =
    subst OnlyLastFailed (sym answer.2.recorded.log) (last_failed old.log (access_of p a Writes (at Output j)) none)
put_ends told faults last_call p keys a j queue rest old new (Err (halt.Fault (Tampered number))) answer none = absurd answer.2.answer

-- the tails of a drain
module _ {V : Type 0} (faults : V → ℕ) (a : ℕ) (f : Parts V) (d : Draw) (o : List ℕ) where
  tails_move : (n : ℕ) → NoneFailed f.recorder.log → NoneFailed (f.recorder.log ++ map (stored_tail f a) (below n))
  tails_move n none =
      All-append Moved f.recorder.log (map (stored_tail f a) (below n)) none
      (All-map Moved (stored_tail f a) (below n) (λ k e inside. some_bytes _))

  pub drained_ends : (new : Parts V) (result : Result (Unit {0}) Halt) → DrainEnd faults d o a f new result → NoneFailed f.recorder.log
      → FailedByHalt result new.recorder.log
  drained_ends new (Ok done) end none = subst NoneFailed (sym end.1.log) (tails_move f.plan.b none)
  drained_ends new (Err (halt.Verdict v)) end none = subst NoneFailed (sym end.3.log) (tails_move end.0 none)
  drained_ends new (Err (halt.Fault (Device number))) end none =
      subst OnlyLastFailed (append_assoc f.recorder.log (map (stored_tail f a) (below end.0)) (failed_tail f a end.0 ∷ []) ∙ sym end.3.log)
      (last_failed (f.recorder.log ++ map (stored_tail f a) (below end.0)) (failed_tail f a end.0).access (tails_move end.0 none))
  drained_ends new (Err (halt.Fault (Tampered number))) never none = absurd never

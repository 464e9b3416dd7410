-- The same in a buffer.
use Rattle.std.proofs.Common.{List, ℕ, take, subst, sym, rules}
use Rattle.std.proofs.lemmas.List.{take_at}
use Rattle.esa_params.specs.Slots.{at}
use Rattle.esa_params.specs.declared.slot.Region.TheVariants.{Input}
use Rattle.esa_vault.specs.Traffic.{GivesLatest}
use Rattle.esa_floor.proofs.private.read_first.Goals as goal

pub returns-clause-latest : goal.returns-clause-latest
returns-clause-latest g c =
    subst (λ (text : List ℕ). GivesLatest c.args.plan.now c.args.keys.now (at Input c.args.bucket) c.args.attempt 0 (take c.args.size text) c.args.recorder.now c.read_some.new.recorder c.read_some.result)
    (sym (take_at c.read_some.new.text _ _ (search rules))) c.read_some.ensures.latest

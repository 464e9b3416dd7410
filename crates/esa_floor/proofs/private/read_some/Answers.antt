-- The text is in front of the room for it.
use Rattle.std.proofs.Common.{List, ℕ, drop, subst, sym, rules}
use Rattle.std.proofs.lemmas.List.{take_at}
use Rattle.esa_params.specs.Slots.{at}
use Rattle.esa_params.specs.declared.slot.Region.TheVariants.{Input}
use Rattle.esa_vault.specs.Traffic.{GivesLatest}
use Rattle.esa_floor.proofs.private.read_some.Goals as goal

pub returns-clause-latest : goal.returns-clause-latest
returns-clause-latest g c =
    subst (λ (text : List ℕ). GivesLatest c.args.plan.now c.args.keys.now (at Input c.args.bucket) c.args.attempt 0 text c.args.recorder.now c.get_block.new.recorder c.get_block.result)
    (sym (take_at c.get_block.new.plain (drop c.args.size c.args.text.now) c.args.size (search rules))) c.get_block.ensures.latest

use Rattle.std.proofs.Common.{ℕ, ◌+◌, ◌*◌, subst}
use Rattle.esa_params.specs.declared.slot.Region.TheVariants.{Mid}
use Rattle.esa_stash.specs.Dealing.{chunk_at}
use Rattle.esa_press.specs.Fetched.{AreGot}
use Rattle.esa_press.proofs.import.fetch_chunk.Goals as goal

pub returns-clause-got : goal.returns-clause-got
returns-clause-got g c =
    let p = c.args.plan.now in
    let new = c.fetch_part.new.items in
    subst (λ (b : ℕ). AreGot p c.args.keys.now (record { region = Mid; index = c.args.bucket * b + c.args.target }) c.args.attempt c.args.count (chunk_at p.c new c.args.bucket)
    c.args.recorder.now c.fetch_part.new.recorder c.fetch_part.result) c.b.ensures.value
    (subst (λ (n : ℕ). AreGot p c.args.keys.now (record { region = Mid; index = c.args.bucket * c.b.result + c.args.target }) c.args.attempt c.args.count (chunk_at n new c.args.bucket)
    c.args.recorder.now c.fetch_part.new.recorder c.fetch_part.result) c.c-size.ensures.value c.fetch_part.ensures.got)

use Rattle.std.proofs.Common.{IsSome, sym, ◌∙◌, subst}
use Rattle.serde_json.specs.View.{view}
use Rattle.esa_job.specs.Keys.{Ring, key_of}
use Rattle.esa_job.proofs.KeyLemmas.{key_of-needed}
use Rattle.esa_job.proofs.keys.KeyRing.read.Goals as goal

pub returns-clause-needed : goal.returns-clause-needed
returns-clause-needed c = λ key needed.
    let P : Ring → Type 0 = λ ring. IsSome (key_of ring key) in
    subst P (sym c.of.ensures) (key_of-needed c.args.command c.args.shares (view c.in-Ok-Some.object) (sym c.first_bad.ensures ∙ c.in-None.is) key needed)

-- The runs of the kept keys are put.
use Rattle.std.proofs.Common.{◌++◌, sym, ap, subst, ◌∙◌}
use Rattle.std.specs.Prelude.{OnOk, OnErr}
use Rattle.esa_page.specs.Underway.{IsLeft}
use Rattle.esa_page.specs.Writing.{IsWriting, HasBroken}
use Rattle.esa_analyser.specs.RunBytes.{run_bytes}
use Rattle.esa_analyser.specs.Repeated.{all_keys}
use Rattle.esa_analyser.specs.Kept.{keys_of}
use Rattle.esa_analyser.proofs.kept.Kept.put.Goals as goal

pub returns-in-One-clause-failed : goal.returns-in-One-clause-failed
returns-in-One-clause-failed g c = λ before text under.
    subst (λ ys. OnErr c.put_runs.result (IsLeft before c.args.name.now (text ++ run_bytes ys) (g.K.Cabinet.told c.put_runs.new.cabinet))) (ap all_keys c.deref.ensures.value ∙ sym (ap keys_of c.in-One.is)) (c.put_runs.ensures.failed before text under)

pub returns-in-One-clause-heard : goal.returns-in-One-clause-heard
returns-in-One-clause-heard g c = λ before text writing.
    subst (λ ys. OnOk c.put_runs.result (IsWriting before c.args.name.now (text ++ run_bytes ys) c.put_runs.new.page (g.K.Cabinet.heard c.put_runs.new.cabinet))) (ap all_keys c.deref.ensures.value ∙ sym (ap keys_of c.in-One.is)) (c.put_runs.ensures.heard before text writing)

pub returns-in-One-clause-heard_broken : goal.returns-in-One-clause-heard_broken
returns-in-One-clause-heard_broken g c = λ before text writing.
    subst (λ ys. OnErr c.put_runs.result (HasBroken before c.args.name.now (text ++ run_bytes ys) (g.K.Cabinet.heard c.put_runs.new.cabinet))) (ap all_keys c.deref.ensures.value ∙ sym (ap keys_of c.in-One.is)) (c.put_runs.ensures.heard_broken before text writing)

pub returns-in-Two-clause-failed : goal.returns-in-Two-clause-failed
returns-in-Two-clause-failed g c = λ before text under.
    subst (λ ys. OnErr c.put_runs-in-Two.result (IsLeft before c.args.name.now (text ++ run_bytes ys) (g.K.Cabinet.told c.put_runs-in-Two.new.cabinet))) (ap all_keys c.deref-in-Two.ensures.value ∙ sym (ap keys_of c.in-Two.is)) (c.put_runs-in-Two.ensures.failed before text under)

pub returns-in-Two-clause-heard : goal.returns-in-Two-clause-heard
returns-in-Two-clause-heard g c = λ before text writing.
    subst (λ ys. OnOk c.put_runs-in-Two.result (IsWriting before c.args.name.now (text ++ run_bytes ys) c.put_runs-in-Two.new.page (g.K.Cabinet.heard c.put_runs-in-Two.new.cabinet))) (ap all_keys c.deref-in-Two.ensures.value ∙ sym (ap keys_of c.in-Two.is)) (c.put_runs-in-Two.ensures.heard before text writing)

pub returns-in-Two-clause-heard_broken : goal.returns-in-Two-clause-heard_broken
returns-in-Two-clause-heard_broken g c = λ before text writing.
    subst (λ ys. OnErr c.put_runs-in-Two.result (HasBroken before c.args.name.now (text ++ run_bytes ys) (g.K.Cabinet.heard c.put_runs-in-Two.new.cabinet))) (ap all_keys c.deref-in-Two.ensures.value ∙ sym (ap keys_of c.in-Two.is)) (c.put_runs-in-Two.ensures.heard_broken before text writing)

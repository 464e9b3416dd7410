use Rattle.std.proofs.Common.{◌≡◌, false, length, map, sym, ◌∙◌, ap, subst}
use Rattle.std.specs.List.{All}
use Rattle.std.proofs.lemmas.List.{length-map}
use Rattle.std.proofs.lemmas.List.FromFn.{length-range_with_len}
use Rattle.esa_params.specs.Sizes.{below}
use Rattle.esa_spec.specs.Verdicts.{is_good}
use Rattle.esa_ending.specs.Seen.{verdict_in}
use Rattle.esa_ending.proofs.CompletionLaws.{all-bad}
use Rattle.esa_ending.proofs.decisions.failures_are_bad.Goals as goal

pub returns-clause-count : goal.returns-clause-count
returns-clause-count c = λ p ds hs seen failures s.
    ap length s.verdicts ∙ length-map (below p.attempts) (verdict_in p ds hs) ∙ length-range_with_len 0 p.attempts

pub returns-clause-bad : goal.returns-clause-bad
returns-clause-bad c = λ p ds hs seen failures s.
    subst (All (λ v. is_good v ≡ false)) (sym (s.verdicts ∙ ap (λ y. map (verdict_in p ds hs) (below y)) (sym s.planned)))
    (all-bad p ds hs s.failed)

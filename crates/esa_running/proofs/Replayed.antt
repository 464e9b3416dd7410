-- A crew's turns, handed in to another run of the same sizes and draws.
use Rattle.std.proofs.Common.{◌≡◌, ℕ, zero, suc, ◌+◌, ◌<◌, ◌≤◌, true, false, Some, List, ◌∷◌, length, map, refl, sym, ap, ◌∙◌, subst, arith}
use Rattle.std.specs.List.{range_with_len}
use Rattle.std.proofs.lemmas.List.{length-take}
use Rattle.esa_ending.specs.Endings.{Overflows, Succeeds}
use Rattle.esa_ending.specs.Seen.{Seen, verdict_in}
use Rattle.esa_job.specs.Refusal.{runs_crew}
use Rattle.esa_laws.proofs.LaterLaws.{good-ends}
use Rattle.esa_model.specs.Forecast.{made}
use Rattle.esa_params.specs.Sizes.{Sizes, below}
use Rattle.esa_spec.specs.Draws.{Draw}
use Rattle.esa_spec.specs.Traces.{all_failed, good_attempt, trace}
use Rattle.esa_spec.specs.declared.event.Verdict.{Verdict}
use Rattle.esa_taking.specs.Run.{Asked}
use Rattle.esa_taking.specs.Wanted.{sizes_in, turns_by}
use Rattle.esa_running.proofs.HandedIn.{handed-failed, handed-good, handed-trace, handed-trace-failed, handed-verdicts}
use Rattle.esa_running.proofs.Turned.{handed_in_are, stored_are}

-- numbers in a row are mapped alike by what agrees on them
mapped-alike : {X : Type 0} (f g : ℕ → X) (a n : ℕ) → ((k : ℕ) → k < a + n → f k ≡ g k) → map f (range_with_len a n) ≡ map g (range_with_len a n)
mapped-alike f g a zero agree = refl
mapped-alike f g a (suc n) agree = λ i. agree a (omega arith) i ∷ mapped-alike f g (a + 1) n (λ k inside. agree k (omega (arith, inside))) i

module _ (asked again : Asked) (seen other : Seen) (crew : runs_crew asked.job ≡ true) (none : runs_crew again.job ≡ false) (sizes : sizes_in again ≡ sizes_in asked) (draws : again.draws ≡ asked.draws)
    (turns : again.turns ≡ turns_by asked seen.history)
  where
    abbrev p : Sizes
    p = sizes_in asked

    abbrev ds : ℕ → Draw
    ds = asked.draws

    abbrev hs : List (List ℕ)
    hs = turns_by asked seen.history

    -- the turns of the other run are these, completed
    replayed : turns_by again other.history ≡ made p ds hs
    replayed =
        sym (handed_in_are again p other.history (sym sizes) none)
        ∙ ap (λ (x : (ℕ → Draw) × List (List ℕ)). made p x.0 x.1) (λ i. (draws i, turns i))

    -- what holds of the other run holds of them
    pub as-made : (P : Sizes → (ℕ → Draw) → List (List ℕ) → Type 0) → P (sizes_in again) again.draws (turns_by again other.history) → P p ds (made p ds hs)
    as-made P = subst (λ (x : Sizes × (ℕ → Draw) × List (List ℕ)). P x.0 x.1 x.2) (λ i. (sizes i, draws i, replayed i))

    pub few : (a : ℕ) → Succeeds p ds hs seen a → length hs ≤ p.attempts
    few a s =
        let all = ap length (stored_are asked p seen.history refl crew) in
        let cut = ap length s.turns in
        let most = length-take (a + 1) hs in
        let planned = s.planned in
        omega (arith, all, cut, most, planned)

    pub same-success : (a e : ℕ) → Succeeds p ds hs seen a → Succeeds (sizes_in again) again.draws (turns_by again other.history) other e → (e ≡ a) × (other.trace ≡ seen.trace)
    same-success a e one two =
        let good : good_attempt p ds 0 (made p ds hs) ≡ Some e = as-made (λ q d ls. good_attempt q d 0 ls ≡ Some e) two.good in
        let there : good_attempt p ds 0 (made p ds hs) ≡ Some a = handed-good p ds hs a (few a one) one.good in (
          cc (sym good ∙ there),
          as-made (λ q d ls. other.trace ≡ trace q d ls) two.whole ∙ handed-trace p ds hs a (few a one) one.good ∙ sym one.whole,
        )

    pub same-overflow : (failures others : List Verdict) → Overflows p ds hs seen failures → Overflows (sizes_in again) again.draws (turns_by again other.history) other others → other.trace ≡ seen.trace
    same-overflow failures others one two =
        as-made (λ q d ls. other.trace ≡ trace q d ls) two.whole ∙ handed-trace-failed p ds hs one.planned one.failed ∙ sym one.whole

    -- the attempts fail alike
    pub same-failures : (failures others : List Verdict) → Overflows p ds hs seen failures → Overflows (sizes_in again) again.draws (turns_by again other.history) other others → others ≡ failures
    same-failures failures others one two =
        as-made (λ q d ls. others ≡ map (verdict_in q d ls) (below q.attempts)) two.verdicts
        ∙ mapped-alike (verdict_in p ds (made p ds hs)) (verdict_in p ds hs) 0 p.attempts (λ k inside. handed-verdicts p ds hs one.planned one.failed k (omega (arith, inside)))
        ∙ sym one.verdicts

    pub never-failed : (a : ℕ) (failures : List Verdict) → Succeeds p ds hs seen a → ¬ Overflows (sizes_in again) again.draws (turns_by again other.history) other failures
    never-failed a failures one two =
        let failed : all_failed p ds 0 (made p ds hs) ≡ true = as-made (λ q d ls. all_failed q d 0 ls ≡ true) two.failed in
        let ends : all_failed p ds 0 (made p ds hs) ≡ false = good-ends p ds 0 a (made p ds hs) (handed-good p ds hs a (few a one) one.good) in
        let is : true ≡ false = sym failed ∙ ends in cc

    pub never-good : (e : ℕ) (failures : List Verdict) → Overflows p ds hs seen failures → ¬ Succeeds (sizes_in again) again.draws (turns_by again other.history) other e
    never-good e failures one two =
        let good : good_attempt p ds 0 (made p ds hs) ≡ Some e = as-made (λ q d ls. good_attempt q d 0 ls ≡ Some e) two.good in
        let is : true ≡ false = sym (handed-failed p ds hs one.planned one.failed) ∙ good-ends p ds 0 e (made p ds hs) good in cc

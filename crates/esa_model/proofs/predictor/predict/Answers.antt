use Rattle.std.proofs.Common.{◌≡◌, ℕ, ◌+◌, ◌*◌, ◌<◌, ◌≤◌, ◌++◌, ◌∷◌, [], List, true, length, map, refl, ap, sym, ◌∙◌, subst, arith, append-nil, append_assoc, length-append}
use Rattle.std.proofs.lemmas.List.{length-map}
use Rattle.std.proofs.lemmas.List.FromFn.{length-range_with_len}
use Rattle.esa_params.specs.Sizes.{Sizes, below}
use Rattle.esa_params.specs.Slots.{greatest_trace}
use Rattle.esa_params.specs.declared.slot.Access.{Access}
use Rattle.esa_laws.proofs.LengthLaws.{attempt-le}
use Rattle.esa_spec.specs.Completion.{full}
use Rattle.esa_spec.specs.Draws.{Draw, drawn}
use Rattle.esa_spec.specs.Traces.{load, written_input, attempts, attempt_trace, read_output, scan, trace}
use Rattle.esa_spec.specs.Verdicts.{is_finished, is_good, verdict}
use Rattle.esa_spec.specs.declared.event.Verdict.{Verdict}
use Rattle.esa_model.specs.Distributed.{IsOf}
use Rattle.esa_model.specs.Forecast.{Foretold, made_in, verdicts}
use Rattle.esa_model.proofs.ForetellLemmas.{failed-more, attempts-more, verdicts-more, verdicts-last, trace-last, trace-failed, room-left, accesses-le}
use Rattle.esa_model.proofs.StepLemmas.{bad-is}
use Rattle.esa_model.proofs.predictor.predict.Goals as goal
use Rattle.esa_model.proofs.predictor.predict.Goals.{After-attempt}
use Rattle.esa_model.proofs.predictor.predict.Given.{Over}

pub loop-attempt-init : goal.loop-attempt-init
loop-attempt-init g c =
    let p = c.args.distribution.now.lines.p in
    let told = ap (λ (f : Foretold). f.accesses) c.begin.ensures ∙ ap load c.plan.ensures.value in
    record {
      plan = refl;
      ready = record {
        sizes = c.requires.ready.sizes;
        accesses = ap (λ (f : Foretold). f.most_accesses) c.begin.ensures ∙ c.requires.ready.accesses;
        verdicts = ap (λ (f : Foretold). f.most_verdicts) c.begin.ensures ∙ c.requires.ready.verdicts;
      };
      failed = refl;
      told = told ∙ sym (append-nil (load p));
      ended = ap (λ (f : Foretold). f.verdicts) c.begin.ensures;
      room = omega (arith, ap length told, length-map (below p.b) (written_input p), length-range_with_len 0 p.b);
      count = ap (λ (f : Foretold). length f.verdicts) c.begin.ensures;
    }

-- an attempt is made
module _ (g : Over) (c : After-attempt g) where
  abbrev p : Sizes
  p = c.args.distribution.now.lines.p

  abbrev ds : ℕ → Draw
  ds = drawn (g.C.Coins.target_list c.args.coins.now) (g.C.Coins.order_list c.args.coins.now)

  abbrev turns : List (List ℕ)
  turns = c.args.turns.now

  abbrev a : ℕ
  a = c.loop-attempt.attempt

  abbrev hs : List (List ℕ)
  hs = map (made_in p ds turns) (below a)

  abbrev here : List ℕ
  here = made_in p ds turns a

  plan-is : c.loop-attempt.distribution.lines.p ≡ c.args.distribution.now.lines.p
  plan-is = c.loop-attempt.invariant.plan

  verdict-is : c.attempt.result ≡ verdict p (ds a) here
  verdict-is =
      c.attempt.ensures.verdict
      ∙ ap (λ (q : Sizes). verdict q (ds a) (full q (ds a) c.list.result.now)) plan-is
      ∙ ap (λ (l : List ℕ). verdict p (ds a) (full p (ds a) l)) c.list.ensures.value

  finished-is : is_finished p (ds a) here ≡ true
  finished-is =
      sym (ap (λ (q : Sizes). is_finished q (ds a) (full q (ds a) c.list.result.now)) plan-is
      ∙ ap (λ (l : List ℕ). is_finished p (ds a) (full p (ds a) l)) c.list.ensures.value)
      ∙ c.attempt.ensures.finished

  told-is : c.attempt.new.self.accesses ≡ load p ++ (attempts p ds 0 hs ++ attempt_trace p (ds a) a here)
  told-is =
      ap (λ (f : Foretold). f.accesses) c.attempt.ensures.told
      ∙ ap (λ (l : List Access). l ++ attempt_trace c.loop-attempt.distribution.lines.p (ds a) a (full c.loop-attempt.distribution.lines.p (ds a) c.list.result.now)) c.loop-attempt.invariant.told
      ∙ ap (λ (q : Sizes). (load p ++ attempts p ds 0 hs) ++ attempt_trace q (ds a) a (full q (ds a) c.list.result.now)) plan-is
      ∙ ap (λ (l : List ℕ). (load p ++ attempts p ds 0 hs) ++ attempt_trace p (ds a) a (full p (ds a) l)) c.list.ensures.value
      ∙ append_assoc (load p) (attempts p ds 0 hs) (attempt_trace p (ds a) a here)

  ended-is : c.attempt.new.self.verdicts ≡ verdicts p ds 0 hs ++ verdict p (ds a) here ∷ []
  ended-is =
      ap (λ (f : Foretold). f.verdicts) c.attempt.ensures.told
      ∙ ap (λ (l : List Verdict). l ++ c.attempt.result ∷ []) c.loop-attempt.invariant.ended
      ∙ ap (λ (v : Verdict). verdicts p ds 0 hs ++ v ∷ []) verdict-is

  most-is : c.attempt.new.self.most_accesses ≡ greatest_trace p
  most-is = ap (λ (f : Foretold). f.most_accesses) c.attempt.ensures.told ∙ c.loop-attempt.invariant.ready.accesses ∙ ap greatest_trace plan-is

  inside : c.loop-attempt.attempt < c.args.distribution.now.lines.p.attempts
  inside = omega (arith, c.loop-attempt-test.true, c.attempts-attempt-end.ensures, ap (λ (q : Sizes). q.attempts) c.plan-2.ensures.value)

  room-is : length c.attempt.new.self.accesses + p.b + p.b ≤ c.attempt.new.self.most_accesses
  room-is =
      let more = length-append (load p) (attempts p ds 0 hs ++ attempt_trace p (ds a) a here) in
      let parts = length-append (attempts p ds 0 hs) (attempt_trace p (ds a) a here) in
      let so_far = length-append (load p) (attempts p ds 0 hs) in
      let long : length c.attempt.new.self.accesses ≤ length (load p ++ attempts p ds 0 hs) + (2 * p.b * p.b + 4 * p.b) =
      omega (arith, ap length told-is, more, parts, so_far, attempt-le p (ds a) a here) in
      let left = room-left a p.attempts (2 * p.b * p.b + 4 * p.b) p.b (length (load p ++ attempts p ds 0 hs)) (length c.attempt.new.self.accesses) inside (accesses-le p ds turns a) long in
      omega (arith, left, most-is)

pub scan-requires : goal.scan-requires
scan-requires g c =
    let at = (goal.at.scan-requires g c).After-attempt in
    omega (arith, room-is g at, ap (λ (q : Sizes). q.b) (c.plan-in-Good.ensures.value ∙ c.attempt.ensures.plan ∙ plan-is g at))

pub scan-requires-in-Good : goal.scan-requires-in-Good
scan-requires-in-Good g c =
    let at = (goal.at.scan-requires-in-Good g c).After-attempt in
    let first = scan c.plan-in-Good.result.now (a g at) in
    let long = ap (λ (f : Foretold). length f.accesses) c.scan.ensures ∙ length-append c.attempt.new.self.accesses first in
    omega (
      arith,
      room-is g at,
      long,
      ap (λ (f : Foretold). f.most_accesses) c.scan.ensures,
      length-map (below c.plan-in-Good.result.now.b) (read_output c.plan-in-Good.result.now (a g at)),
      length-range_with_len 0 c.plan-in-Good.result.now.b,
      ap (λ (q : Sizes). q.b) (c.plan-in-Good.ensures.value ∙ c.attempt.ensures.plan ∙ plan-is g at),
      ap (λ (q : Sizes). q.b) (c.plan-in-Good-2.ensures.value ∙ c.attempt.ensures.plan ∙ plan-is g at),
    )

pub returns-in-Good-clause-verdicts : goal.returns-in-Good-clause-verdicts
returns-in-Good-clause-verdicts g c =
    let at = (goal.at.returns-in-Good-clause-verdicts g c).After-attempt in
    let good = ap is_good (sym (verdict-is g at) ∙ c.in-Good.is) in
    ap (λ (f : Foretold). f.verdicts) c.scan-in-Good.ensures
    ∙ ap (λ (f : Foretold). f.verdicts) c.scan.ensures
    ∙ ended-is g at
    ∙ sym (verdicts-last (p g at) (ds g at) (turns g at) (a g at) c.loop-attempt.invariant.failed (finished-is g at) good (inside g at))

pub returns-in-Good-clause-accesses : goal.returns-in-Good-clause-accesses
returns-in-Good-clause-accesses g c =
    let at = (goal.at.returns-in-Good-clause-accesses g c).After-attempt in
    let good = ap is_good (sym (verdict-is g at) ∙ c.in-Good.is) in
    let same = c.attempt.ensures.plan ∙ plan-is g at in
    let one = scan c.plan-in-Good.result.now (a g at) in
    let other = scan c.plan-in-Good-2.result.now (a g at) in
    ap (λ (f : Foretold). f.accesses) c.scan-in-Good.ensures
    ∙ ap (λ (f : Foretold). f.accesses ++ other) c.scan.ensures
    ∙ ap (λ (l : List Access). (l ++ one) ++ other) (told-is g at)
    ∙ ap (λ (q : Sizes). ((load (p g at) ++ (attempts (p g at) (ds g at) 0 (hs g at) ++ attempt_trace (p g at) (ds g at (a g at)) (a g at) (here g at))) ++ scan q (a g at)) ++ other) (c.plan-in-Good.ensures.value ∙ same)
    ∙ ap (λ (q : Sizes). ((load (p g at) ++ (attempts (p g at) (ds g at) 0 (hs g at) ++ attempt_trace (p g at) (ds g at (a g at)) (a g at) (here g at))) ++ scan (p g at) (a g at)) ++ scan q (a g at)) (c.plan-in-Good-2.ensures.value ∙ same)
    ∙ trace-last (p g at) (ds g at) (turns g at) (a g at) c.loop-attempt.invariant.failed (finished-is g at) good (inside g at)

pub loop-attempt-preserved : goal.loop-attempt-preserved
loop-attempt-preserved g c =
    let at = (goal.at.loop-attempt-preserved g c).After-attempt in
    let inv = c.loop-attempt.invariant in
    let bad = ap is_good (sym (verdict-is g at)) ∙ bad-is c.attempt.result (λ good. c.in_default.not-Good good) in
    let told = told-is g at ∙ ap (λ (l : List Access). load (p g at) ++ l) (sym (attempts-more (p g at) (ds g at) (turns g at) (a g at) inv.failed (finished-is g at) bad)) in
    record {
      plan = c.attempt.ensures.plan ∙ plan-is g at;
      ready = record {
        sizes = subst (λ (q : Sizes). IsOf q c.attempt.new.distribution) (sym c.attempt.ensures.plan) c.attempt.ensures.sizes;
        accesses = most-is g at ∙ ap greatest_trace (sym (c.attempt.ensures.plan ∙ plan-is g at));
        verdicts =
            ap (λ (f : Foretold). f.most_verdicts) c.attempt.ensures.told ∙ inv.ready.verdicts
            ∙ ap (λ (q : Sizes). q.attempts) (sym c.attempt.ensures.plan);
      };
      failed = failed-more (p g at) (ds g at) (turns g at) (a g at) inv.failed (finished-is g at) bad;
      told = told;
      ended = ended-is g at ∙ sym (verdicts-more (p g at) (ds g at) (turns g at) (a g at) inv.failed (finished-is g at) bad);
      room = omega (arith, ap length told, accesses-le (p g at) (ds g at) (turns g at) (a g at + 1));
      count = ap (λ (f : Foretold). length f.verdicts) c.attempt.ensures.told ∙ length-append c.loop-attempt.forecast.verdicts (c.attempt.result ∷ []) ∙ omega (arith, inv.count);
    }

pub returns-clause-accesses : goal.returns-clause-accesses
returns-clause-accesses g c =
    let p = c.args.distribution.now.lines.p in
    let ds = drawn (g.C.Coins.target_list c.args.coins.now) (g.C.Coins.order_list c.args.coins.now) in
    let inv = c.loop-attempt.invariant in
    let last : c.loop-attempt.attempt ≡ p.attempts =
    omega (arith, c.loop-attempt-test.false, c.loop-attempt.auto.attempt-end, c.attempts-attempt-end.ensures, ap (λ (q : Sizes). q.attempts) c.plan-2.ensures.value) in
    inv.told
    ∙ trace-failed p ds (map (made_in p ds c.args.turns.now) (below c.loop-attempt.attempt)) inv.failed
    ∙ ap (λ (n : ℕ). trace p ds (map (made_in p ds c.args.turns.now) (below n))) last

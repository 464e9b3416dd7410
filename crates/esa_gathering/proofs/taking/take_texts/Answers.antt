use Rattle.std.proofs.Common.{◌≡◌, ◌+◌, ◌++◌, [], ◌∷◌, length, refl, sym, ap, subst, ◌∙◌, length-append, arith}
use Rattle.std.specs.List.{concat}
use Rattle.std.proofs.lemmas.List.{map-append}
use Rattle.std.proofs.lemmas.List.Folds.{concat-append}
use Rattle.std.proofs.lemmas.Result.{err_from_is_err_and}
use Rattle.esa_job.specs.Request.{inputs_at}
use Rattle.esa_job.specs.Seen.{request_of}
use Rattle.esa_command.specs.Stand.{stand}
use Rattle.esa_command.proofs.Composition.{judged_as, judged_err}
use Rattle.esa_gathering.specs.Intake.{input_files}
use Rattle.esa_gathering.specs.Together.{texts_of}
use Rattle.esa_gathering.proofs.Inputs.{few_inputs}
use Rattle.esa_gathering.proofs.Reading.{Goes, name_here, names_end, goes_on, goes_stop, goes_end, judged_starved_at_once}
use Rattle.esa_gathering.proofs.taking.take_texts.Goals as goal

pub returns-in_err-texts-clause-judged : goal.returns-in_err-texts-clause-judged
returns-in_err-texts-clause-judged g c =
    let p = err_from_is_err_and c.from_residual.result c.from_residual.ensures.1 in
    let stands = stand g.K.Cabinet.told g.K.Cabinet.faults g.K.Cabinet.heard in
    rw (p.1, p.2) (judged_starved_at_once 6 22 (λ texts. texts_of texts.items) (input_files 0 (inputs_at (request_of c.args.job.now))) (stands c.args.cabinet.now) (omega arith))

pub overflow_cast-place : goal.overflow_cast-place
overflow_cast-place g c =
    let job = request_of c.args.job.now in
    let here = name_here (inputs_at job) c.loop-name.place c.in-Some.name.now c.in-Some.ensures in
    omega (arith, here.0, few_inputs job c.args.job.now.acceptable)

pub returns-in_err-text-clause-judged : goal.returns-in_err-text-clause-judged
returns-in_err-text-clause-judged g c =
    let p = err_from_is_err_and c.from_residual-in_err-text.result c.from_residual-in_err-text.ensures.1 in
    let job = request_of c.args.job.now in
    let stands = stand g.K.Cabinet.told g.K.Cabinet.faults g.K.Cabinet.heard in
    let place = c.loop-name.place in
    let name = c.in-Some.name.now in
    let here = name_here (inputs_at job) place name c.in-Some.ensures in
    let few = few_inputs job c.args.job.now.acceptable in
    let before = stands c.args.cabinet.now in
    let next = stands c.take_text.new.cabinet in
    rw (p.1, p.2) (judged_err 6 22 (λ all. all) (λ texts. texts_of texts.items) (input_files 0 (inputs_at job)) before next c.in_err-text.field-0.0
    (goes_stop (inputs_at job) before place (texts_of c.loop-name.texts.items) (stands c.loop-name.cabinet) c.loop-name.invariant.goes name _ here.1 next c.in_err-text.field-0.0 (omega (arith, here.0, few)) c.in_err-text.ensures.judged))

pub push_reserved-requires : goal.push_reserved-requires
push_reserved-requires g c =
    let job = request_of c.args.job.now in
    let here = name_here (inputs_at job) c.loop-name.place c.in-Some.name.now c.in-Some.ensures in
    let i = c.loop-name.invariant in
    omega (arith, here.0, few_inputs job c.args.job.now.acceptable, i.number, i.room)

pub loop-name-smaller : goal.loop-name-smaller
loop-name-smaller g c =
    let here = name_here (inputs_at (request_of c.args.job.now)) c.loop-name.place c.in-Some.name.now c.in-Some.ensures in
    omega (arith, here.0)

pub loop-name-preserved : goal.loop-name-preserved
loop-name-preserved g c =
    let names = inputs_at (request_of c.args.job.now) in
    let stands = stand g.K.Cabinet.told g.K.Cabinet.faults g.K.Cabinet.heard in
    let i = c.loop-name.invariant in
    let place = c.loop-name.place in
    let name = c.in-Some.name.now in
    let here = name_here names place name c.in-Some.ensures in
    let before = stands c.args.cabinet.now in
    let next = stands c.take_text.new.cabinet in
    let items = c.loop-name.texts.items in
    let text = c.in_ok-text.text in
    let pushed = c.push_reserved.ensures in
    let texts : texts_of c.push_reserved.new.self.items ≡ texts_of items ++ text.items ∷ [] = ap texts_of pushed.items ∙ map-append (λ text. text.items) items (text ∷ []) in
    let longer : concat (texts_of c.push_reserved.new.self.items) ≡ concat (texts_of items) ++ (text.items ++ []) = ap concat texts ∙ concat-append (texts_of items) (text.items ∷ []) in
    record {
      few = omega (arith, here.0);
      number = pushed.len ∙ ap (λ n. n + 1) i.number;
      room = omega (arith, i.room, pushed.capacity);
      small = omega (arith, i.small, ap length longer, length-append (concat (texts_of items)) (text.items ++ []), length-append text.items [], c.in_ok-text.ensures.short);
      goes =
          subst (λ texts. Goes names before (place + 1) texts next) (sym texts)
          (goes_on names before place (texts_of items) (stands c.loop-name.cabinet) i.goes name _ here.1 next text c.in_ok-text.ensures.judged refl);
    }

pub returns-clause-judged : goal.returns-clause-judged
returns-clause-judged g c =
    let names = inputs_at (request_of c.args.job.now) in
    let stands = stand g.K.Cabinet.told g.K.Cabinet.faults g.K.Cabinet.heard in
    let i = c.loop-name.invariant in
    let place = c.loop-name.place in
    let before = stands c.args.cabinet.now in
    let now = stands c.loop-name.cabinet in
    let texts = c.loop-name.texts in
    judged_as 6 22 (λ all. all) (λ texts. texts_of texts.items) (input_files 0 names) before now (texts_of texts.items) texts refl
    (goes_end names before place (texts_of texts.items) now i.goes (omega (arith, i.few, few_inputs (request_of c.args.job.now) c.args.job.now.acceptable)) (names_end names place c.in_default.ensures))

pub returns-clause-few : goal.returns-clause-few
returns-clause-few g c =
    let i = c.loop-name.invariant in
    omega (arith, i.few, i.number, c.loop-name.texts.ok, few_inputs (request_of c.args.job.now) c.args.job.now.acceptable)

pub returns-clause-small : goal.returns-clause-small
returns-clause-small g c =
    let i = c.loop-name.invariant in
    omega (arith, i.small, i.few, few_inputs (request_of c.args.job.now) c.args.job.now.acceptable)

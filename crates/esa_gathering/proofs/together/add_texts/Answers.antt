use Rattle.std.proofs.Common.{◌≡◌, ◌+◌, ◌++◌, None, Some, option_map, length, drop, sym, ap, subst, ◌∙◌, append-nil, length-append, ⊎_elim, arith}
use Rattle.std.specs.Result.{result_ok}
use Rattle.esa_bytes.specs.Lines.{text_lines}
use Rattle.esa_batcher.specs.declared.refused.AddRefused.TheVariants.{Line}
use Rattle.esa_batcher.specs.Adding.{envelope_in}
use Rattle.esa_batcher.specs.Finishing.{envelopes_of}
use Rattle.esa_gathering.specs.Together.{texts_of, all_lines, first_refused, first_file_refused, stop_of_file, StopsFor}
use Rattle.esa_gathering.proofs.Lines.{filtered_few}
use Rattle.esa_gathering.proofs.Texts.{texts_more, texts_end, lines_behind, envelopes_on, refused_on, refused_here, refused_none}
use Rattle.esa_gathering.proofs.together.add_texts.Goals as goal

pub add_text-requires : goal.add_text-requires
add_text-requires c =
    let texts = c.args.texts.now in
    let place = c.loop-place.place in
    let text = c.deref.result.now in
    let more = texts_more texts place c.index-texts-place.result text c.loop-place-test.true c.index-texts-place.is c.deref.ensures.value in
    omega (arith, c.loop-place.invariant.room, lines_behind (drop place (texts_of texts)) text (drop (place + 1) (texts_of texts)) more)

pub returns-in-Err-clause-refused : goal.returns-in-Err-clause-refused
returns-in-Err-clause-refused c =
    let i = c.loop-place.invariant in
    let form = c.args.batcher.now.form in
    let texts = c.args.texts.now in
    let place = c.loop-place.place in
    let text = c.deref.result.now in
    let more = texts_more texts place c.index-texts-place.result text c.loop-place-test.true c.index-texts-place.is c.deref.ensures.value in
    let refused = c.in-Err.refused in
    subst (λ stop. StopsFor (first_file_refused form 1 (texts_of texts)) stop) (sym c.stop_in.ensures)
    (⊎_elim
    (λ memory. subst (λ refused. StopsFor (first_file_refused form 1 (texts_of texts)) (stop_of_file (place + 1) refused)) (sym memory) tt)
    (λ why. refused_here form (place + 1) (drop place (texts_of texts)) text (drop (place + 1) (texts_of texts)) more (first_file_refused form 1 (texts_of texts)) refused i.refused
    (subst (λ form. option_map Line (first_refused form 1 (text_lines text)) ≡ Some refused) i.form why))
    c.in-Err.ensures.refused)

pub loop-place-preserved : goal.loop-place-preserved
loop-place-preserved c =
    let i = c.loop-place.invariant in
    let form = c.args.batcher.now.form in
    let texts = c.args.texts.now in
    let place = c.loop-place.place in
    let text = c.deref.result.now in
    let here = drop place (texts_of texts) in
    let rest = drop (place + 1) (texts_of texts) in
    let more = texts_more texts place c.index-texts-place.result text c.loop-place-test.true c.index-texts-place.is c.deref.ensures.value in
    let old = c.loop-place.batcher.list in
    let new = c.add_text.new.batcher.list in
    let added : new ≡ old ++ envelopes_of form (text_lines text) = subst (λ form. new ≡ old ++ envelopes_of form (text_lines text)) i.form c.in_default.ensures.added in
    record {
      form = c.add_text.ensures.form ∙ i.form;
      room =
          omega (
            arith,
            i.room,
            lines_behind here text rest more,
            ap length added,
            length-append old (envelopes_of form (text_lines text)),
            filtered_few (λ line. result_ok (envelope_in form line)) (text_lines text),
          );
      refused =
          refused_on form (place + 1) here text rest more (first_file_refused form 1 (texts_of texts)) i.refused
          (subst (λ form. first_refused form 1 (text_lines text) ≡ None) i.form c.in_default.ensures.accepted);
      list = envelopes_on form (place + 1) here text rest more (c.args.batcher.now.list ++ envelopes_of form (all_lines (texts_of texts))) old new i.list added;
    }

pub returns-clause-accepted : goal.returns-clause-accepted
returns-clause-accepted c =
    let form = c.args.batcher.now.form in
    let texts = c.args.texts.now in
    let place = c.loop-place.place in
    refused_none form (place + 1) (drop place (texts_of texts)) (first_file_refused form 1 (texts_of texts)) (texts_end texts place c.loop-place-test.false) c.loop-place.invariant.refused

pub returns-clause-added : goal.returns-clause-added
returns-clause-added c =
    let form = c.args.batcher.now.form in
    let texts = c.args.texts.now in
    let place = c.loop-place.place in
    let list = c.loop-place.batcher.list in
    sym (c.loop-place.invariant.list ∙ ap (λ texts. list ++ envelopes_of form (all_lines texts)) (texts_end texts place c.loop-place-test.false) ∙ append-nil list)

use Rattle.std.proofs.Common.{◌≡◌, ◌++◌, length, map, Some, IfSome, sym, ap, subst, ◌∙◌, arith}
use Rattle.std.specs.Prelude.{All}
use Rattle.std.specs.List.Sorted.{IsPermutation}
use Rattle.std.proofs.lemmas.List.Sorted.{IsPermutation-sym, IsPermutation-trans}
use Rattle.esa_batcher.specs.Finishing.{envelopes_of}
use Rattle.esa_gathering.specs.Merging.{all_left}
use Rattle.esa_gathering.specs.Together.{texts_of, all_lines}
use Rattle.esa_gathering.proofs.Gathered.{made_of_form, made_accepted, made_same, made_few}
use Rattle.esa_gathering.proofs.crew.gather_by_crew.Goals as goal

pub merge-requires-clause-forms : goal.merge-requires-clause-forms
merge-requires-clause-forms g c =
    let form = c.args.form in
    let slots = c.in_ok-slots.slots.items in
    let all = c.in-Some.batches.items in
    let is : slots ≡ map Some all = subst (λ made. IfSome made (λ all. slots ≡ map Some all.items)) c.in-Some.is c.in_ok-batches.ensures in
    let forms = made_of_form form c.args.texts.now slots all is c.in_ok-slots.ensures.number c.in_ok-slots.ensures.each in
    subst (All (λ text. text.batch.form ≡ c.in_ok-batcher.batcher.form)) (sym c.deref_mut.ensures.value)
    (subst (λ form. All (λ text. text.batch.form ≡ form) all) (sym (ap (λ batcher. batcher.form) c.in_ok-batcher.ensures)) forms)

pub merge-requires-clause-room : goal.merge-requires-clause-room
merge-requires-clause-room g c =
    let slots = c.in_ok-slots.slots.items in
    let all = c.in-Some.batches.items in
    let is : slots ≡ map Some all = subst (λ made. IfSome made (λ all. slots ≡ map Some all.items)) c.in-Some.is c.in_ok-batches.ensures in
    let few = made_few c.args.form c.args.texts.now slots all is c.in_ok-slots.ensures.number c.in_ok-slots.ensures.each in
    omega (
      arith,
      ap (λ batcher. length batcher.list) c.in_ok-batcher.ensures,
      ap (λ texts. length (all_left texts)) c.deref_mut.ensures.value,
      few,
      c.requires.total,
      c.requires.most,
    )

pub returns-clause-ok : goal.returns-clause-ok
returns-clause-ok g c =
    let form = c.args.form in
    let texts = c.args.texts.now in
    let slots = c.in_ok-slots.slots.items in
    let all = c.in-Some.batches.items in
    let is : slots ≡ map Some all = subst (λ made. IfSome made (λ all. slots ≡ map Some all.items)) c.in-Some.is c.in_ok-batches.ensures in
    let number = c.in_ok-slots.ensures.number in
    let each = c.in_ok-slots.ensures.each in
    let made = c.in_ok-batcher.ensures in
    let now = c.deref_mut.result.now in
    let list = c.merge.new.batcher.list in
    let start : c.in_ok-batcher.batcher.list ++ all_left now ≡ all_left all = ap (λ batcher. batcher.list ++ all_left now) made ∙ ap all_left c.deref_mut.ensures.value in
    record {
      form_is = c.merge.ensures.form ∙ ap (λ batcher. batcher.form) made;
      accepted = made_accepted form texts slots all is number each;
      same =
          IsPermutation-trans list (all_left all) (envelopes_of form (all_lines (texts_of texts)))
          (IsPermutation-sym (all_left all) list (subst (λ front. IsPermutation front list) start c.in_ok-merge.ensures.merged)) (made_same form texts slots all is number each);
    }

use Rattle.std.proofs.Common.{subst, arith}
use Rattle.std.specs.Prelude.{OnOk, OnErr}
use Rattle.esa_page.specs.Underway.{IsWhole, IsLeft}
use Rattle.esa_page.specs.Writing.{HasWritten, HasBroken}
use Rattle.esa_analyser.specs.Counted.{Counted}
use Rattle.esa_analyser.specs.Kept.{keys_of, form_of}
use Rattle.esa_analyser.specs.Rows.{IsDatabase}
use Rattle.esa_analyser.proofs.KeptLaws.{kept_keys, IsDatabase-keys}
use Rattle.esa_analyser.proofs.KeptWriting.{kept_file}
use Rattle.esa_analyser.proofs.analysis.Analysis.write.Goals as goal

pub write_kept-requires-clause-few : goal.write_kept-requires-clause-few
write_kept-requires-clause-few g c = omega (arith, c.self.invariant.few, c.self.invariant.small)

pub returns-clause-whole : goal.returns-clause-whole
returns-clause-whole g c =
    let file = kept_file c.self.inside c.args.self.now c.unopened.result c.self.view_is c.unopened.ensures in
    subst (λ text. OnOk c.write_kept.result (IsWhole (g.K.Cabinet.told c.args.cabinet.now) c.args.name.now text (g.K.Cabinet.told c.write_kept.new.cabinet))) file c.write_kept.ensures.whole

pub returns-clause-left : goal.returns-clause-left
returns-clause-left g c =
    let file = kept_file c.self.inside c.args.self.now c.unopened.result c.self.view_is c.unopened.ensures in
    subst (λ text. OnErr c.write_kept.result (IsLeft (g.K.Cabinet.told c.args.cabinet.now) c.args.name.now text (g.K.Cabinet.told c.write_kept.new.cabinet))) file c.write_kept.ensures.left

pub returns-clause-heard : goal.returns-clause-heard
returns-clause-heard g c =
    let file = kept_file c.self.inside c.args.self.now c.unopened.result c.self.view_is c.unopened.ensures in
    subst (λ text. OnOk c.write_kept.result (HasWritten (g.K.Cabinet.heard c.args.cabinet.now) c.args.name.now text (g.K.Cabinet.heard c.write_kept.new.cabinet))) file c.write_kept.ensures.heard

pub returns-clause-heard_broken : goal.returns-clause-heard_broken
returns-clause-heard_broken g c =
    let file = kept_file c.self.inside c.args.self.now c.unopened.result c.self.view_is c.unopened.ensures in
    subst (λ text. OnErr c.write_kept.result (HasBroken (g.K.Cabinet.heard c.args.cabinet.now) c.args.name.now text (g.K.Cabinet.heard c.write_kept.new.cabinet))) file c.write_kept.ensures.heard_broken

pub returns-clause-readable : goal.returns-clause-readable
returns-clause-readable g c =
    let is = c.self.invariant in
    let kept = c.self.inside.kept in
    subst (λ (v : Counted). IsDatabase v.form v.database) c.self.view_is
    (IsDatabase-keys (form_of kept) (keys_of kept) c.self.inside.total (kept_keys kept is.sorted.each) is.sorted.order is.few is.small)

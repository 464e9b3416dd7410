-- What the opened text holds.
use Rattle.std.proofs.Common.{sym, ◌∙◌}
use Rattle.std.specs.Prelude.{length}
use Rattle.esa_params.specs.Slots.{item_length}
use Rattle.esa_stash.specs.Stash.{padded}
use Rattle.esa_vault.specs.Filled.{text_of}
use Rattle.esa_press.proofs.Opened.{opened_counted, opened_given, opened_spelled}
use Rattle.esa_press.proofs.fetch.fetch_items.Goals as goal

pub returns-clause-got : goal.returns-clause-got
returns-clause-got g c =
    let n = length c.args.items.now in
    let whole = c.requires.items ∙ sym c.requires.text ∙ sym c.get_block.auto.plain in
    let got = c.in_ok-get_block.ensures in
    record {
      counted = opened_counted c.args.plan.now c.form.result c.get_block.new.plain n c.open_items.new.items c.form.ensures.value whole c.open_items.ensures
          c.args.keys.now c.args.slot c.args.attempt c.args.count c.get_block.new.recorder.last c.get_block.new.sealed c.args.text.now
          c.requires.of_items c.requires.count got.read.answer.0 got.read.given got.opened.given;
      spelled = opened_spelled c.args.plan.now c.form.result c.get_block.new.plain n c.open_items.new.items c.form.ensures.value whole c.open_items.ensures;
      gives = λ records faithful stored.
          opened_given c.args.plan.now c.form.result c.get_block.new.plain n c.open_items.new.items c.form.ensures.value whole c.open_items.ensures
          records stored.fit (got.latest (text_of (item_length c.args.plan.now.form) (padded (length c.open_items.new.items) records)) faithful stored.took).opened;
    }

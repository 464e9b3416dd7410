use Rattle.std.proofs.Common.{◌≡◌, ℕ, ◌*◌, ◌-◌, List, drop, length, ap, sym, ◌∙◌, subst, arith}
use borrow.Rule.Slice.PartMut.{put_mid}
use Rattle.esa_params.specs.Slots.{at}
use Rattle.esa_params.specs.declared.slot.Region.TheVariants.{Tail}
use Rattle.esa_report.specs.declared.item.Item.{Item}
use Rattle.esa_press.specs.Fetched.{AreGot}
use Rattle.esa_press.proofs.Fetching.{tail_put}
use Rattle.esa_press.proofs.import.fetch_tail.Goals as goal

pub returns-clause-got : goal.returns-clause-got
returns-clause-got g c =
    let p = c.args.plan.now in
    let from : p.b * p.c ≡ c.b.result * c.c.result = ap (λ (n : ℕ). n * p.c) (sym c.b.ensures.value) ∙ ap (λ (n : ℕ). c.b.result * n) (sym c.c.ensures.value) in
    subst (λ (xs : List Item). AreGot p c.args.keys.now (at Tail c.args.target) c.args.attempt c.args.count xs c.args.recorder.now c.fetch_items.new.recorder c.fetch_items.result)
    (sym (ap (λ (n : ℕ). drop n (put_mid (c.b.result * c.c.result) (length c.args.items.now - c.b.result * c.c.result) c.args.items.now c.fetch_items.new.items)) from
    ∙ tail_put (c.b.result * c.c.result) (length c.args.items.now - c.b.result * c.c.result) c.args.items.now c.fetch_items.new.items (omega (arith, from, c.requires.items)) (omega arith)))
    c.fetch_items.ensures.got

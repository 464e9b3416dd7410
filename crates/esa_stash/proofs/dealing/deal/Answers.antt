use Rattle.std.proofs.Common.{rules, ◌≡◌, ◌<◌, ℕ, List, length, get_or, take, sym, subst, ◌∙◌, arith}
use Rattle.std.proofs.lemmas.List.{length-take, length_push, take_all}
use Rattle.std.proofs.lemmas.Slice.Zip.{zip_turn, zip_end}
use Rattle.esa_report.specs.declared.item.Item.{Item}
use Rattle.esa_report.specs.Item.{dummy_item}
use Rattle.esa_stash.specs.Dealing.{AreDealt, line_after, with_item}
use Rattle.esa_stash.proofs.Lines.{all_grow, room_left}
use Rattle.esa_stash.proofs.dealing.deal.Goals as goal
use Rattle.esa_stash.proofs.dealing.deal.Goals.{In-Some}

-- the target and the item that come now
record Turn (c : In-Some) : Type 0 where
  inside : length c.loop-target.yielded < length c.args.targets.now
  target : c.in-Some.target.now ≡ get_or c.args.targets.now (length c.loop-target.yielded) 0
  item : c.in-Some.item.now ≡ get_or c.args.items.now (length c.loop-target.yielded) dummy_item

turn : (c : In-Some) → Turn c
turn c =
    let at = zip_turn c.args.targets.now c.args.items.now c.loop-target.yielded c.into_iter-target-iterator.result c.loop-target.target-iterator c.next.new.self c.next.result (search rules) (search rules) c.loop-target.yielded_by (c.in-Some.target, c.in-Some.item) c.in-Some.is c.next.ensures.steps in
    record { inside = at.0; target = at.2 0; item = at.3 dummy_item }

below_all : (c : In-Some) → c.in-Some.target.now < length c.args.counts.now
below_all c = let now = turn c in subst (λ (t : ℕ). t < length c.args.counts.now) (sym now.target) (c.requires.below (length c.loop-target.yielded) 0 now.inside)

pub deal_item-requires-clause-count : goal.deal_item-requires-clause-count
deal_item-requires-clause-count c =
    let at = (goal.at.deal_item-requires-clause-count c).In-Some in
    let dealt = c.loop-target.invariant.dealt c.in-Some.target.now (below_all at) in
    let taken = length-take c.args.c (line_after c.args.cells.now (take (length c.loop-target.yielded) c.args.targets.now) (take (length c.loop-target.yielded) c.args.items.now) c.in-Some.target.now) in
    let count = dealt.count in
    omega arith

pub deal_item-requires-clause-room : goal.deal_item-requires-clause-room
deal_item-requires-clause-room c full =
    let at = (goal.at.deal_item-requires-clause-room c).In-Some in
    let now = turn at in
    let so_far = c.loop-target.invariant in
    let chains : length c.loop-target.cells.chains ≡ length c.args.counts.now = so_far.chains ∙ c.requires.chains in
    let left = room_left c.args.cells.now c.args.targets.now c.args.items.now (length c.loop-target.yielded) c.in-Some.target.now c.in-Some.item.now c.requires.item_each now.inside now.target now.item (length c.args.counts.now) c.args.c c.loop-target.cells c.loop-target.chunks c.loop-target.counts chains (below_all at) so_far.dealt full in
    let room = c.requires.room in
    let same = so_far.room in
    omega arith

pub loop-target-preserved : goal.loop-target-preserved
loop-target-preserved c =
    let at = (goal.at.loop-target-preserved c).In-Some in
    let now = turn at in
    let so_far = c.loop-target.invariant in
    let k = length c.loop-target.yielded in
    let b = length c.args.counts.now in
    let t = c.in-Some.target.now in
    let x = c.in-Some.item.now in
    let arena = c.args.cells.now in
    let ts = c.args.targets.now in
    let xs = c.args.items.now in
    let line = line_after arena (take k ts) (take k xs) in
    let more = length_push c.loop-target.yielded (c.in-Some.target, c.in-Some.item) in
    let same_counts : length c.loop-target.counts ≡ b = c.loop-target.auto.counts ∙ c.deal_queues.auto.counts in
    let before = subst (λ (n : ℕ). AreDealt n c.args.c line c.loop-target.cells c.loop-target.chunks c.loop-target.counts) (sym same_counts) so_far.dealt in
    let after = subst (λ (n : ℕ). AreDealt n c.args.c (with_item line t x) c.deal_item.new.cells c.deal_item.new.chunks c.deal_item.new.counts) same_counts (c.deal_item.ensures.dealt line before) in
    let grown = all_grow arena ts xs k t x c.requires.item_each now.inside now.target now.item b c.args.c c.deal_item.new.cells c.deal_item.new.chunks c.deal_item.new.counts after in
    record {
      dealt = subst (λ (n : ℕ). AreDealt b c.args.c (line_after arena (take n ts) (take n xs)) c.deal_item.new.cells c.deal_item.new.chunks c.deal_item.new.counts) (sym more) grown;
      chains = c.deal_item.ensures.chains ∙ so_far.chains;
      room = c.deal_item.ensures.cells ∙ so_far.room;
    }

pub returns-clause-dealt : goal.returns-clause-dealt
returns-clause-dealt c =
    let ts = c.args.targets.now in
    let xs = c.args.items.now in
    let n = length c.loop-target.yielded in
    let end = zip_end ts xs c.loop-target.yielded c.into_iter-target-iterator.result c.loop-target.target-iterator c.next.new.self c.next.result (search rules) (search rules) c.loop-target.yielded_by c.in-None.is c.next.ensures.steps in
    let each = c.requires.item_each in
    let all_targets = take_all n ts (omega arith) in
    let all_items = take_all n xs (omega arith) in
    let with : List ℕ → List Item → Type 0 = λ us ys. AreDealt (length c.args.counts.now) c.args.c (line_after c.args.cells.now us ys) c.loop-target.cells c.loop-target.chunks c.loop-target.counts in
    subst (λ (us : List ℕ). with us xs) all_targets (subst (λ (ys : List Item). with (take n ts) ys) all_items c.loop-target.invariant.dealt)

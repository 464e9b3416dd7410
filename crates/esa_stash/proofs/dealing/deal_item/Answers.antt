use Rattle.std.proofs.Common.{◌≡◌, length, ◌<◌, arith, subst, sym, refl, get_or}
use Rattle.std.proofs.lemmas.Bool.{false≢true}
use Rattle.esa_stash.specs.Arena.{Arena}
use Rattle.esa_stash.specs.Dealing.{AreDealt, with_item}
use Rattle.esa_stash.proofs.Dealt.{in_chunk, in_queue, free_cells}
use Rattle.esa_stash.proofs.dealing.deal_item.Goals as goal

pub prove-unreachable-requires : goal.prove-unreachable-requires
prove-unreachable-requires c =
    let arena = c.args.cells.now in
    let shared = free_cells arena c.push-kept.ensures.shared in
    let full : get_or c.args.counts.now c.args.target 0 ≡ c.args.c = omega arith in
    let room = c.requires.room full in
    let free : 0 < length arena.free = omega arith in
    false≢true (c.if-prove.ensures.room.1 free)

pub returns-then-taken-c-clause-dealt : goal.returns-then-taken-c-clause-dealt
returns-then-taken-c-clause-dealt c line dealt =
    in_chunk (length c.args.counts.now) c.args.c line c.args.target c.args.item c.args.cells.now c.args.chunks.now c.args.counts.now refl c.requires.target dealt c.if-taken-c.true

pub returns-else-taken-c-clause-dealt : goal.returns-else-taken-c-clause-dealt
returns-else-taken-c-clause-dealt c line dealt =
    let arena = c.args.cells.now in
    let b = length c.args.counts.now in
    let after = in_queue b c.args.c line c.args.target c.args.item arena c.args.chunks.now c.args.counts.now (omega arith) c.requires.target dealt c.if-taken-c.false in
    subst (λ (a : Arena). AreDealt b c.args.c (with_item line c.args.target c.args.item) a c.args.chunks.now c.args.counts.now) (sym c.if-prove.ensures.pushed) after

use Rattle.std.proofs.Common.{◌≡◌, ℕ, ◌*◌, length, take, drop, ap, subst, refl, ◌∙◌, arith}
use Rattle.esa_stash.specs.Stash.{padded}
use Rattle.esa_stash.specs.Dealing.{queue_of, ChangesQueue}
use Rattle.esa_stash.proofs.Rows.{length-chunk_at}
use Rattle.esa_stash.proofs.Drawing.{chains_stay}
use Rattle.esa_stash.proofs.Dealt.{AreDealt-more, later-more}
use Rattle.esa_stash.proofs.dealing.deal_queues.Goals as goal

pub loop-target-preserved : goal.loop-target-preserved
loop-target-preserved c =
    let size = c.args.c in
    let b = length c.args.counts.now in
    let old = c.args.cells.now in
    let now = c.loop-target.cells in
    let new = c.draw-count.new.cells in
    let i = c.loop-target.target in
    let line = queue_of now i in
    let so_far = c.loop-target.invariant in
    let long : length c.loop-target.chunks ≡ b * size = omega arith in
    let many : length c.loop-target.counts ≡ b = omega arith in
    let chains : length now.chains ≡ b = omega arith in
    let places = length-chunk_at size b c.loop-target.chunks i long c.loop-target-test.true in
    let changes = subst (λ (n : ℕ). ChangesQueue now new i (drop n line)) places c.draw-count.ensures.queue in
    let part_is = c.draw-count.ensures.out ∙ ap (λ (n : ℕ). padded n (take n line)) places in
    let count_is = c.draw-count.ensures.count ∙ ap (λ (n : ℕ). length (take n line)) places in
    let dealt = AreDealt-more size b old now new c.loop-target.chunks c.draw-count.new.out c.loop-target.counts i _ long many chains c.loop-target-test.true so_far.dealt so_far.later changes part_is in
    record {
      dealt = rw count_is dealt;
      later = later-more size b old now new c.loop-target.chunks c.draw-count.new.out c.loop-target.counts i 0 long many chains c.loop-target-test.true so_far.dealt so_far.later changes part_is;
      chains = chains_stay now new i (drop size line) changes ∙ so_far.chains;
      room = changes.room ∙ so_far.room;
      size = refl;
    }

use Rattle.std.proofs.Common.{◌++◌, map, sym, ap, subst, ◌∙◌}
use Rattle.std.specs.Prelude.{All}
use Rattle.std.specs.List.Sorted.{IsPermutation}
use Rattle.crossbeam_queue.specs.Fifo.{Merges}
use Rattle.crossbeam_queue.specs.Passes.{view}
use Rattle.esa_intake.specs.Keeping.{Kept, with_closed, spent}
use Rattle.esa_intake.specs.Standing.{IsSender, closed_of, closed_of_taker}
use Rattle.esa_intake.proofs.Rules.{merges}
use Rattle.esa_intake.proofs.Closing.{last_of, front_of, moved_back}
use Rattle.esa_intake.proofs.intake.Intake.give_back.Goals as goal

pub absorb-requires-clause-queue : goal.absorb-requires-clause-queue
absorb-requires-clause-queue c =
    let senders = subst (All (IsSender c.args.self.now)) c.in-Some.ensures.items c.loop-sender.invariant.each in
    (c.loop-sender.invariant.back.0.0, (last_of (IsSender c.args.self.now) c.pop.new.self.items c.in-Some.sender senders).0)

pub absorb-requires-clause-rule : goal.absorb-requires-clause-rule
absorb-requires-clause-rule c =
    let senders = subst (All (IsSender c.args.self.now)) c.in-Some.ensures.items c.loop-sender.invariant.each in
    let mine = last_of (IsSender c.args.self.now) c.pop.new.self.items c.in-Some.sender senders in
    let hand = view c.loop-sender.taker.pass in
    let other = view c.in-Some.sender.pass in
    subst (λ place. Merges Kept place hand c.in-Some.sender.pass.id other (with_closed hand other) spent) (sym c.loop-sender.invariant.back.0.2) (merges hand c.in-Some.sender.pass.id other mine.2)

pub loop-sender-preserved : goal.loop-sender-preserved
loop-sender-preserved c =
    let i = c.loop-sender.invariant in
    let senders = subst (All (IsSender c.args.self.now)) c.in-Some.ensures.items i.each in
    let queue = c.absorb.ensures.queue in
    let hand = c.absorb.ensures.rule in
    let moved = moved_back (closed_of_taker c.loop-sender.taker) c.pop.new.self.items c.in-Some.sender (map closed_of c.args.senders.items)
    (subst (λ left. IsPermutation (closed_of_taker c.loop-sender.taker ++ map closed_of left) (map closed_of c.args.senders.items)) c.in-Some.ensures.items i.closed) in
    record {
      back = (
        ((queue.0 ∙ i.back.0.0.0, queue.2 ∙ i.back.0.0.1), i.back.0.1, queue.1 ∙ i.back.0.2, ap (λ v. v.puts) hand ∙ i.back.0.3, ap (λ v. v.put) hand ∙ i.back.0.4, ap (λ v. v.form) hand ∙ i.back.0.5),
        ap (λ v. v.senders) hand ∙ i.back.1,
        ap (λ v. v.taken) hand ∙ i.back.2,
      );
      each = front_of (IsSender c.args.self.now) c.pop.new.self.items c.in-Some.sender senders;
      closed = subst (λ closed. IsPermutation (closed ++ map closed_of c.pop.new.self.items) (map closed_of c.args.senders.items)) (sym (ap (λ v. v.closed) hand)) moved;
    }

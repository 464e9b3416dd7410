use Rattle.std.proofs.Common.{ap, ◌∙◌}
use Rattle.esa_turnstile.proofs.Counts.{own, still-one, saw-last, heard-both}
use Rattle.esa_turnstile.proofs.turnstile.Turnstile.meet.Goals as goal

pub invariant_of-into-clause-member : goal.invariant_of-into-clause-member
invariant_of-into-clause-member g c =
    still-one _ c.args.into.now.seat.me.0 c.args.from.now.seat.me.0 c.note-note.result.me.0 c.hear.new.seat.me.0 c.args.into.now.member
    (ap (λ m. m.0) c.note-note.ensures.note.1) (ap (λ m. m.0) (c.hear.ensures.same.1 ∙ c.join.ensures.both))

pub invariant_of-into-clause-counted : goal.invariant_of-into-clause-counted
invariant_of-into-clause-counted g c = own c.args.into.now.number c.hear.new.seat.me.0.seen.entries c.hear.new.seat.me.0.members (invariant_of-into-clause-member g c) c.hear.ensures.heard.counts

pub invariant_of-into-clause-found : goal.invariant_of-into-clause-found
invariant_of-into-clause-found g c =
    saw-last _ c.args.into.now.seat.me.0 c.note-note.result.me.0 c.hear.new.seat.me.0 (ap (λ m. m.0) (c.hear.ensures.same.1 ∙ c.join.ensures.both)) (invariant_of-into-clause-counted g c)

pub returns-clause-seen_from : goal.returns-clause-seen_from
returns-clause-seen_from g c =
    (heard-both c.args.into.now.seat.me.0 c.args.from.now.seat.me.0 c.note-note.result.me.0 c.hear.new.seat.me.0
    (ap (λ m. m.0) c.note-note.ensures.note.1) (ap (λ m. m.0) (c.hear.ensures.same.1 ∙ c.join.ensures.both)) c.hear.ensures.heard.heard).1.begins

pub returns-clause-seen_into : goal.returns-clause-seen_into
returns-clause-seen_into g c =
    (heard-both c.args.into.now.seat.me.0 c.args.from.now.seat.me.0 c.note-note.result.me.0 c.hear.new.seat.me.0
    (ap (λ m. m.0) c.note-note.ensures.note.1) (ap (λ m. m.0) (c.hear.ensures.same.1 ∙ c.join.ensures.both)) c.hear.ensures.heard.heard).0.begins

pub returns-clause-trail_from : goal.returns-clause-trail_from
returns-clause-trail_from g c =
    (heard-both c.args.into.now.seat.me.0 c.args.from.now.seat.me.0 c.note-note.result.me.0 c.hear.new.seat.me.0
    (ap (λ m. m.0) c.note-note.ensures.note.1) (ap (λ m. m.0) (c.hear.ensures.same.1 ∙ c.join.ensures.both)) c.hear.ensures.heard.heard).1.mark.trail

pub returns-clause-trail_into : goal.returns-clause-trail_into
returns-clause-trail_into g c =
    (heard-both c.args.into.now.seat.me.0 c.args.from.now.seat.me.0 c.note-note.result.me.0 c.hear.new.seat.me.0
    (ap (λ m. m.0) c.note-note.ensures.note.1) (ap (λ m. m.0) (c.hear.ensures.same.1 ∙ c.join.ensures.both)) c.hear.ensures.heard.heard).0.mark.trail

-- A record is passed over where its point was seen or the group is full, and else it is kept.
use Rattle.std.proofs.Common.{◌≡◌, ◌≢◌, ◌-◌, false, [], ◌∷◌, ◌++◌, length, drop, sym, ap, subst, subst₂, ◌∙◌, length-drop, take_all, le_of_eq}
use Rattle.esa_recovery.specs.Meaning.{group_of, needed, share_in, point_in}
use Rattle.esa_recovery.specs.declared.group.Group.{Group}
use Rattle.esa_recovery.specs.Group.{HasTaken, is_seen, taken_with}
use Rattle.esa_recovery.proofs.GroupLaws.{full-none, seen-none, one-kept, share_tests}
use Rattle.esa_recovery.proofs.group.Group.take.Goals as goal
use Rattle.esa_recovery.proofs.group.Group.take.Goals.{then-points-wanted-via-then-points-wanted, then-points-wanted-via-else-points-wanted+then-contains}

pub returns-then-points-wanted : goal.returns-then-points-wanted
returns-then-points-wanted c = λ taken has.
    let group = group_of c.args.value.now in
    let kept = λ (now : Group). HasTaken group (taken_with group taken c.args.value.now) now.points.items now.shares.items in
    elim c.then-points-wanted.branch [
      | then-points-wanted-via-then-points-wanted w ↦ subst kept (sym w.self-is) (full-none group taken c.args.value.now _ _ has (ap length (sym c.as_slice-points.ensures.value) ∙ w.if-points-wanted.true ∙ c.from-wanted.ensures))
      | then-points-wanted-via-else-points-wanted+then-contains w ↦ subst kept (sym w.self-is) (seen-none group taken c.args.value.now _ _ has
          (ap (λ points. is_seen points c.args.value.now) (sym c.as_slice-points.ensures.value) ∙ sym w.contains.ensures.value ∙ w.if-contains.true))
    ]

pub returns : goal.returns
returns c = λ taken has.
    let value = c.args.value.now in
    let old = c.args.self.now in
    let new : is_seen old.points.items value ≡ false = ap (λ points. is_seen points value) (sym c.as_slice-points.ensures.value) ∙ sym c.contains.ensures.value ∙ c.if-contains.false in
    let items : c.push.new.self.items ≡ old.points.items ++ point_in value ∷ [] = c.in_ok-push.ensures.items in
    let joined : c.extend_from_slice.new.self.items ≡ old.shares.items ++ share_in value = c.in_ok-extend_from_slice.ensures.items ∙ ap (λ ss. old.shares.items ++ ss) (take_all (length value - 19) (drop 19 value) (le_of_eq (length-drop 19 value))) in
    let wanted : length old.points.items ≢ needed (group_of value) = λ full. c.if-points-wanted.false (ap length c.as_slice-points.ensures.value ∙ full ∙ sym c.from-wanted.ensures) in
    subst₂ (HasTaken (group_of value) (taken_with (group_of value) taken value)) (sym items) (sym joined)
    (one-kept (group_of value) taken value old.points.items old.shares.items has wanted new (share_tests value c.requires.share).point (length-drop 19 value))

use Rattle.std.proofs.Common.{◌<◌, ◌+◌, length, refl, sym, ap, subst, ◌∙◌, arith, take_all}
use Rattle.esa_shares.specs.Share.{is_share}
use Rattle.esa_recovery.specs.declared.members.Member.{Member}
use Rattle.esa_recovery.specs.Meaning.{group_of, members}
use Rattle.esa_recovery.proofs.MemberLaws.{HasFound, found-none, found-other, found-share}
use Rattle.esa_recovery.proofs.members.found_in.Goals as goal
use Rattle.esa_recovery.proofs.members.found_in.Goals.{then-is_share+in_ok-push, else-is_share}

pub loop-row-init : goal.loop-row-init
loop-row-init c = subst (HasFound c.args.db.now.database.rows 0) (sym c.new-found.ensures.items) (found-none c.args.db.now.database.rows)

pub loop-row-preserved : goal.loop-row-preserved
loop-row-preserved c =
    let rows = c.args.db.now.database.rows in
    let row = c.loop-row.row in
    let inside : row < length rows = omega (arith, c.loop-row-test.true, c.rows-row-end.ensures) in
    elim c.if-is_share.branch [
      | then-is_share+in_ok-push w ↦
          let member : Member = record { group = w.key_of-group.result; row = row } in
          subst (λ found. HasFound rows (row + 1) found) (sym (ap (λ found. found.items) w.found-is ∙ w.in_ok-push.ensures.items))
          (found-share rows row c.loop-row.found.items member inside refl (record {
            inside = inside;
            share = ap is_share (sym c.value-value.ensures.value) ∙ sym c.is_share.ensures ∙ w.if-is_share.true;
            group = w.key_of-group.ensures ∙ ap group_of c.value-value.ensures.value;
          }) c.loop-row.invariant)
      | else-is_share w ↦ subst (λ found. HasFound rows (row + 1) found) (sym (ap (λ found. found.items) w.found-is))
          (found-other rows row c.loop-row.found.items inside (ap is_share (sym c.value-value.ensures.value) ∙ sym c.is_share.ensures ∙ w.if-is_share.false) c.loop-row.invariant)
    ]

pub returns-clause-named : goal.returns-clause-named
returns-clause-named c = c.loop-row.invariant.named

pub returns-clause-whole : goal.returns-clause-whole
returns-clause-whole c = λ group.
    c.loop-row.invariant.whole group ∙ ap (members group) (take_all c.loop-row.row c.args.db.now.database.rows (omega (arith, c.loop-row-test.false, c.rows-row-end.ensures)))

pub returns-clause-all : goal.returns-clause-all
returns-clause-all c = λ row below is. c.loop-row.invariant.all row (omega (arith, below, c.loop-row-test.false, c.rows-row-end.ensures)) is

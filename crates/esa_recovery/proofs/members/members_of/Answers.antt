-- What was found is sorted, by a stable sort.
use Rattle.std.proofs.Common.{◌==◌, rules, sym, ◌∙◌}
use Rattle.std.proofs.lemmas.List.Sorted.{answers_always, list_any-IsPermutation}
use Rattle.esa_recovery.specs.declared.members.Member.{Member}
use Rattle.esa_recovery.proofs.MemberLaws.{whole-sorted}
use Rattle.esa_recovery.proofs.members.members_of.Goals as goal

pub returns-clause-whole : goal.returns-clause-whole
returns-clause-whole c =
    whole-sorted c.args.db.now.database.rows c.in_ok-found.found.items c.sort_by_key.new.self.items
    (c.in_ok-sort_by_key.ensures.stable (λ (member : Member). member.group) (answers_always _ _ _ (λ f a r g called. search rules))) c.in_ok-found.ensures.whole

pub returns-clause-all : goal.returns-clause-all
returns-clause-all c = λ row below is.
    sym (list_any-IsPermutation (λ (member : Member). member.row == row) c.in_ok-found.found.items c.sort_by_key.new.self.items c.in_ok-sort_by_key.ensures.permutation) ∙ c.in_ok-found.ensures.all row below is

pub returns-clause-sorted : goal.returns-clause-sorted
returns-clause-sorted c = c.in_ok-sort_by_key.ensures.sorted (λ (member : Member). member.group) (answers_always _ _ _ (λ f a r g called. search rules))

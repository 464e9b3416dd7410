use Rattle.std.proofs.Common.{rules, ◌≡◌, Ok, map, sym, subst, arith}
use Rattle.esa_analyser.specs.Reading.{row_at, database_in, RowsInside}
use Rattle.esa_analyser.specs.Stored.{Stored}
use Rattle.esa_analyser.proofs.DbLaws.{database_in-spelled}
use Rattle.esa_analyser.proofs.db.tested_db.Goals as goal

-- what was read is what the file says, and so a file can hold it
pub invariant_of-result : goal.invariant_of-result
invariant_of-result c =
    let starts = c.in_ok-starts.starts.items in
    let stored : Stored = record {
      form = c.in-Some.form;
      database = record { rows = map (row_at c.in_ok-bytes.bytes.items) starts; unopened = c.u32_at-unopened.result };
    } in
    let read : database_in c.args.bytes.now ≡ Ok stored = search rules in
    let inside : RowsInside c.in_ok-bytes.bytes.items starts = subst (λ bytes. RowsInside bytes starts) (sym c.in_ok-bytes.ensures.items) c.in_ok-starts.ensures.inside in
    (inside, (database_in-spelled c.args.bytes.now (λ i. omega (arith, c.type_inv.bytes i)) stored read).0)

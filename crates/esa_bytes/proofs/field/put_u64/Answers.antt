use Rattle.std.proofs.Common.{◌≡◌, length, take, arith}
use Rattle.std.proofs.lemmas.List.{length-take-le}
use Rattle.esa_bytes.proofs.FieldLemmas.{u64_in-written}
use Rattle.esa_bytes.proofs.field.put_u64.Goals as goal

pub returns-clause-reads_back : goal.returns-clause-reads_back
returns-clause-reads_back c =
    let front : length (take c.args.at c.args.out.now) ≡ c.args.at = length-take-le c.args.at c.args.out.now (omega arith) in
    rw (c.copy_from_slice.ensures.after, c.to_be_bytes.ensures)
    (u64_in-written (take c.args.at c.args.out.now) _ c.args.at c.args.v front (omega arith))

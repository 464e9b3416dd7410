use Rattle.std.proofs.Common.{sym, ◌∙◌}
use Rattle.esa_json.proofs.ObjectLemmas.{object_of-text, object_of-other}
use Rattle.esa_json.proofs.read_object.Goals as goal

pub returns-in-Err : goal.returns-in-Err
returns-in-Err c = sym (object_of-other _ c.in-Err.ensures.cases.0)

pub returns-in-Ok-from_str : goal.returns-in-Ok-from_str
returns-in-Ok-from_str c =
    let reads = c.in-Ok.ensures.cases in
    c.only_object.ensures ∙ sym (object_of-text _ _ _ reads.0 reads.1 c.in-Ok-from_str.ensures.ok)

pub returns-else-is_memory : goal.returns-else-is_memory
returns-else-is_memory c =
    let reads = c.in-Ok.ensures.cases in
    sym (object_of-text _ _ _ reads.0 reads.1 (c.in-Err-from_str.ensures.err (λ memory. cc (c.if-is_memory.ensures.1 memory))))

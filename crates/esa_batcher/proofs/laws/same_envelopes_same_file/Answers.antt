use Rattle.std.proofs.Common.{ap}
use Rattle.std.specs.Cmp.Lexicographic.{nat_list_cmp_total}
use Rattle.esa_lists.proofs.FilesLaws.{names_apart}
use Rattle.esa_lists.proofs.OrderedLaws.{ordered-counts}
use Rattle.esa_batcher.specs.Batched.{batch_bytes}
use Rattle.esa_batcher.specs.Finishing.{epoch_of}
use Rattle.esa_batcher.proofs.laws.same_envelopes_same_file.Goals as goal

pub returns : goal.returns
returns c = λ form epoch lines others counts.
    ap (λ list. batch_bytes (record { form = form; epoch = epoch_of form epoch; list = list })) (ordered-counts nat_list_cmp_total names_apart _ _ counts)

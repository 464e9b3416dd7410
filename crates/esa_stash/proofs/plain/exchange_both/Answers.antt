use Rattle.std.proofs.Common.{◌≡◌, Result, Ok, Err, OnOk, OnErr, length, ap, ◌∙◌}
use Rattle.std.proofs.lemmas.List.FromFn.{length-map-range_with_len}
use Rattle.esa_stash.specs.Stash.{Stashed, Held, Handed, contents, exchanged, rest}
use Rattle.esa_stash.proofs.plain.exchange_both.Goals as goal

-- an exchange keeps the number of targets and the length of a chunk, whatever it answers
targets_stay : {T E : Type 0} (r : Result T E) (old new : Stashed) (handed : Handed) → OnOk r (contents new ≡ exchanged (contents old) handed) → OnErr r (new ≡ old)
    → length (contents new).queues ≡ length (contents old).queues
targets_stay (Ok x) old new handed done same =
    ap (λ (held : Held). length held.queues) done ∙ length-map-range_with_len (rest (contents old) handed) 0 (length (contents old).queues)
targets_stay (Err e) old new handed done same = ap (λ (stash : Stashed). length (contents stash).queues) same

chunk_stays : {T E : Type 0} (r : Result T E) (old new : Stashed) (handed : Handed) → OnOk r (contents new ≡ exchanged (contents old) handed) → OnErr r (new ≡ old) → new.c ≡ old.c
chunk_stays (Ok x) old new handed done same = ap (λ (held : Held). held.c) done
chunk_stays (Err e) old new handed done same = ap (λ (stash : Stashed). stash.c) same

pub returns-clause-targets : goal.returns-clause-targets
returns-clause-targets g c =
    targets_stay c.exchange-mine.result c.args.stash.now c.exchange-mine.new.self _ c.exchange-mine.ensures.queues c.exchange-mine.ensures.unchanged ∙ c.requires.targets

pub returns-clause-chunk : goal.returns-clause-chunk
returns-clause-chunk g c =
    chunk_stays c.exchange-mine.result c.args.stash.now c.exchange-mine.new.self _ c.exchange-mine.ensures.queues c.exchange-mine.ensures.unchanged ∙ c.requires.chunk

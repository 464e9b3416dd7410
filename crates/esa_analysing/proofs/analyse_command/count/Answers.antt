use Rattle.std.proofs.Common.{ap, ◌∙◌}
use Rattle.esa_analysing.specs.Analyse.{envelopes_of}
use Rattle.esa_analyser.specs.Opened.{database_of}
use Rattle.esa_analysing.proofs.Counts.{counts}
use Rattle.esa_analysing.proofs.analyse_command.count.Goals as goal

pub returns : goal.returns
returns c =
    let is = counts c.in_ok-analysis.analysis c.count.new.self _ _ c.record_keys-keys.result c.args.forwarded.now c.bytes.result.now c.in_ok-analysis.ensures c.bytes.ensures c.requires c.count.ensures.counted in
    record { form = is.0; database = is.1 ∙ ap (λ keys. database_of keys (envelopes_of c.args.forwarded.now)) c.record_keys-keys.ensures }

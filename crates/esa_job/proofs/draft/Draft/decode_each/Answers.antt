use Rattle.std.proofs.Common.{ap, ◌∙◌, map, option_map}
use Rattle.esa_job.specs.Decoded.{seen, meaning_at}
use Rattle.esa_job.specs.Draft.{drafted}
use Rattle.esa_job.proofs.KeptLemmas.{more_seen}
use Rattle.esa_job.proofs.draft.Draft.decode_each.Goals as goal

pub loop-field-preserved : goal.loop-field-preserved
loop-field-preserved c =
    ap (map (option_map seen)) c.in_ok-push.ensures.items
    ∙ more_seen (option_map seen) (meaning_at (drafted c.args.self.now)) c.args.fields.now c.loop-field.field-index _ _ _ c.loop-field-test.true c.loop-field.invariant c.in_ok-decoded.ensures

use Rattle.std.proofs.Common.{◌≡◌, map, take, option_map}
use Rattle.esa_job.specs.Decoded.{seen, meaning_at}
use Rattle.esa_job.specs.Draft.{drafted}
use Rattle.esa_job.proofs.draft.Draft.decode_each.Given as goal

abbrev pub invariant-loop-field : goal.invariant-loop-field
invariant-loop-field l = map (option_map seen) l.all.items ≡ map (meaning_at (drafted l.self)) (take l.field-index l.fields)

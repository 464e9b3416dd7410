use Rattle.esa_compress.proofs.ImportLaws.{put-counted}
use Rattle.esa_compress.proofs.imports.one_output_counted.Goals as goal

pub returns : goal.returns
returns c = put-counted

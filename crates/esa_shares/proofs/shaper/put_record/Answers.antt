use Rattle.std.proofs.Common.{◌∙◌, ◌++◌, List, ℕ, ap₂}
use Rattle.esa_shares.proofs.shaper.put_record.Goals as goal

pub returns : goal.returns
returns c = ap₂ (λ (a b : List ℕ). a ++ b) (c.copy_from_slice.ensures.after ∙ c.head_of.ensures) c.evaluate.ensures

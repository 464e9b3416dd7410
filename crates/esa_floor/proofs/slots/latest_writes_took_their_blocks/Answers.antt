use Rattle.esa_floor.specs.Written.{attempt_turns}
use Rattle.esa_floor.proofs.Latest.{chunk_latest, output_latest, tail_latest}
use Rattle.esa_floor.proofs.slots.latest_writes_took_their_blocks.Goals as goal

pub returns-clause-chunks : goal.returns-clause-chunks
returns-clause-chunks g c = λ ds record_of f j i access bytes took input.
    chunk_latest f.plan f.run ds record_of (attempt_turns f) f.recorder.log (took input) access bytes j i

pub returns-clause-tails : goal.returns-clause-tails
returns-clause-tails g c = λ ds record_of f i access bytes took input.
    tail_latest f.plan f.run ds record_of (attempt_turns f) f.recorder.log (took input) access bytes i

pub returns-clause-outputs : goal.returns-clause-outputs
returns-clause-outputs g c = λ ds record_of f j access bytes took input.
    output_latest f.plan f.run ds record_of (attempt_turns f) f.recorder.log (took input) access bytes j

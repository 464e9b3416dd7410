-- Reading a batch file: its tests, in order.
use Rattle.std.specs.Prelude.{ℕ, nat_lt, if◌then◌else◌, List, length, drop, Option, Some, None, Result, Ok, Err}
use Rattle.esa_params.specs.Form.{envelope_length}
use Rattle.esa_header.specs.Pieces.{pieces}
use Rattle.esa_header.specs.declared.header.FileKind.TheVariants as kind
use Rattle.esa_header.specs.declared.header.Header.{Header}
use Rattle.esa_header.specs.declared.header.HeaderRefused.{HeaderRefused}
use Rattle.esa_header.specs.Header.{header_length, header_in}
use Rattle.esa_batcher.specs.declared.refused.BatchRefused.{BatchRefused}
use Rattle.esa_batcher.specs.declared.refused.BatchRefused.TheVariants.{Unsorted, TooFew, TooMany}
use Rattle.esa_batcher.specs.Batched.{Batched}
use Rattle.esa_batcher.specs.Refusal.{refusal_of}
use Rattle.esa_batcher.specs.Rising.{fall_at}

-- not fewer records than are wanted, and not more than a batch has
abbrev pub number_in : ℕ → ℕ → Result (Unit {0}) BatchRefused
number_in m n = if nat_lt n m then Err (TooFew n m) else if nat_lt 262144 n then Err (TooMany n) else Ok tt

abbrev pub unless_fallen : Option ℕ → Result (Unit {0}) BatchRefused → Result (Unit {0}) BatchRefused
unless_fallen (Some place) later = Err (Unsorted place)
unless_fallen None later = later

-- the records rise, before their number is tested
abbrev pub order_in : ℕ → List (List ℕ) → Result (Unit {0}) BatchRefused
order_in m records = unless_fallen (fall_at 0 records) (number_in m (length records))

-- the batch of a file with this header
abbrev pub batch_behind : List ℕ → Header → Batched
batch_behind bytes header =
    record { form = header.form; epoch = header.epoch; list = pieces (envelope_length header.form) header.count (drop (header_length header.form) bytes) }

abbrev pub accepted_as : Batched → Result (Unit {0}) BatchRefused → Result Batched BatchRefused
accepted_as batch (Ok passed) = Ok batch
accepted_as batch (Err refused) = Err refused

-- the tests of the records come behind those of the header
abbrev pub behind_header : ℕ → List ℕ → Result Header HeaderRefused → Result Batched BatchRefused
behind_header m bytes (Err refused) = Err (refusal_of refused)
behind_header m bytes (Ok header) = accepted_as (batch_behind bytes header) (order_in m (batch_behind bytes header).list)

-- the batch in a file, which is to have at least m records, or the first test that the file fails
abbrev pub batch_in : ℕ → List ℕ → Result Batched BatchRefused
batch_in m bytes = behind_header m bytes (header_in kind.Batch bytes (length bytes))

-- The batch of several files of submissions.
use Rattle.std.specs.Prelude.{◌≡◌, ℕ, ◌+◌, nat_lt, if◌then◌else◌, List, [], ◌∷◌, length, map, flat_map, Option, Some, None, option_map, Result, Ok, Err}
use Rattle.std.specs.Option.{option_or}
use Rattle.std.specs.Result.{result_err}
use Rattle.std.specs.declared.vec.Vec.{Vec}
use Rattle.esa_params.specs.declared.form.Form.{Form}
use Rattle.esa_bytes.specs.Lines.{text_lines}
use Rattle.esa_line.specs.declared.refused.LineRefused.{LineRefused}
use Rattle.esa_batcher.specs.declared.refused.AddRefused.{AddRefused}
use Rattle.esa_batcher.specs.declared.refused.AddRefused.TheVariants as add
use Rattle.esa_batcher.specs.Adding.{envelope_in}
use Rattle.esa_batcher.specs.Batched.{Batched}
use Rattle.esa_batcher.specs.Finishing.{envelopes_of}
use Rattle.esa_refusal.specs.declared.refusal.Refusal.{Refusal}
use Rattle.esa_refusal.specs.declared.refusal.Refusal.TheVariants as refusal
use Rattle.esa_refusal.specs.declared.stop.Stop.{Stop}
use Rattle.esa_refusal.specs.declared.stop.Stop.TheVariants as stop
use Rattle.esa_refusal.specs.Refusal.{IsOfInput}
use Rattle.esa_shuffling.specs.Batch.{batched_by}

-- what several files hold that were read whole
abbrev pub texts_of : {Z : Type 0} → List (Vec ℕ Z) → List (List ℕ)
texts_of texts = map (λ text. text.items) texts

-- all lines of all texts, one text after another
abbrev pub all_lines : List (List ℕ) → List (List ℕ)
all_lines texts = flat_map text_lines texts

-- ---- what is refused

-- why the line of this number is refused, if it doesn't carry an envelope of the form
abbrev pub line_refused : Form → (number : ℕ) → List ℕ → Option LineRefused
line_refused form number line = option_map (λ cause. record { line = number; cause = cause }) (result_err (envelope_in form line))

-- the first refused line; the first line has this number
unfoldable pub first_refused : Form → (number : ℕ) → List (List ℕ) → Option LineRefused
first_refused form number [] = None
first_refused form number (line ∷ lines) = option_or (line_refused form number line) (first_refused form (number + 1) lines)

-- the first refused line of the text of a file
abbrev pub file_refused : Form → (file : ℕ) → List ℕ → Option Refusal
file_refused form file text = option_map (λ refused. refusal.File file refused) (first_refused form 1 (text_lines text))

-- that of the first file that has one; the first text is the file of this number
unfoldable pub first_file_refused : Form → (file : ℕ) → List (List ℕ) → Option Refusal
first_file_refused form file [] = None
first_file_refused form file (text ∷ texts) = option_or (file_refused form file text) (first_file_refused form (file + 1) texts)

-- why a command stops where a line of the file of this number isn't added to a batch
abbrev pub stop_of_file : (file : ℕ) → AddRefused → Stop
stop_of_file file (add.Line refused) = stop.Refused (refusal.File file refused)
stop_of_file file (add.TooMany n) = stop.Refused (refusal.Lines n)
stop_of_file file add.OutOfMemory = stop.OutOfMemory

-- It stops for a refusal that was found, or for want of memory.
abbrev pub StopsFor : Option Refusal → Stop → Type 0
StopsFor found (stop.Refused why) = (found ≡ Some why) × IsOfInput why
StopsFor found (stop.Unread source) = ⊥
StopsFor found stop.OutOfMemory = Unit {0}

-- ---- the batch

abbrev pub unless_refused : Option Refusal → Result Batched Refusal → Result Batched Refusal
unless_refused None made = made
unless_refused (Some why) made = Err why

-- The batch of all lines of all texts, of the form, under an epoch and of at least m records; or the first refusal. Lines
-- are counted before any is looked at.
abbrev pub batched_together : Form → (epoch m : ℕ) → List (List ℕ) → Result Batched Refusal
batched_together form epoch m texts =
    if nat_lt 262144 (length (all_lines texts)) then Err (refusal.Lines (length (all_lines texts)))
    else unless_refused (first_file_refused form 1 texts) (batched_by form epoch m (Ok (envelopes_of form (all_lines texts))))

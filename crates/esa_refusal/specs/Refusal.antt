-- The text of each refusal.
use Rattle.std.specs.Prelude.{ℕ, List, ◌++◌, codes, decimal}
use Rattle.esa_bytes.specs.declared.cut.Cut.{Cut}
use Rattle.esa_line.specs.declared.refused.LineCause.{LineCause}
use Rattle.esa_line.specs.declared.refused.LineCause.TheVariants as cause
use Rattle.esa_line.specs.declared.refused.LineRefused.{LineRefused}
use Rattle.esa_batcher.specs.declared.refused.BatchRefused.{BatchRefused}
use Rattle.esa_batcher.specs.declared.refused.BatchRefused.TheVariants as batch
use Rattle.esa_coins.specs.declared.refused.CoinsRefused.{CoinsRefused}
use Rattle.esa_coins.specs.declared.refused.CoinsRefused.TheVariants as coins
use Rattle.esa_threshold.specs.declared.refused.ForwardRefused.{ForwardRefused}
use Rattle.esa_threshold.specs.declared.refused.ForwardRefused.TheVariants as forward
use Rattle.esa_analyser.specs.declared.refused.DbRefused.{DbRefused}
use Rattle.esa_analyser.specs.declared.refused.DbRefused.TheVariants as database
use Rattle.esa_job.specs.Table.{field_word}
use Rattle.esa_job.specs.Word.{command_word, key_word}
use Rattle.esa_refusal.specs.declared.refusal.Refusal.{Refusal}
use Rattle.esa_refusal.specs.declared.refusal.Refusal.TheVariants as refusal
use Rattle.esa_refusal.specs.Words.{role_word, param_word}

-- a word and a number after it
abbrev pub numbered : List ℕ → ℕ → List ℕ
numbered word number = word ++ decimal number

-- a file that ends too early
abbrev pub cut_text : Cut → List ℕ
cut_text cut = numbered (codes "cut want ") cut.want ++ numbered (codes " have ") cut.have

-- what is wrong with coins
abbrev pub coins_text : CoinsRefused → List ℕ
coins_text coins.Shape = codes "shape"
coins_text (coins.Targets attempt) = numbered (codes "targets ") attempt
coins_text (coins.Target attempt place) = numbered (codes "target ") attempt ++ numbered (codes " ") place
coins_text (coins.Order attempt bucket) = numbered (codes "order ") attempt ++ numbered (codes " ") bucket
coins_text coins.OutOfMemory = codes "out-of-memory"

-- what is wrong with a batch
abbrev pub batch_text : BatchRefused → List ℕ
batch_text batch.BadMagic = codes "bad-magic"
batch_text batch.BadVersion = codes "bad-version"
batch_text batch.BadSize = codes "bad-size"
batch_text (batch.Cut cut) = cut_text cut
batch_text batch.Trailing = codes "trailing"
batch_text (batch.Unsorted place) = numbered (codes "unsorted ") place
batch_text (batch.TooFew n m) = numbered (codes "too-few ") n ++ numbered (codes " ") m
batch_text (batch.TooMany n) = numbered (codes "too-many ") n
batch_text batch.OutOfMemory = codes "out-of-memory"

-- why a line is refused
abbrev pub cause_word : LineCause → List ℕ
cause_word cause.MissingField = codes "missing-field"
cause_word cause.BadMoment = codes "bad-moment"
cause_word cause.BadSender = codes "bad-sender"
cause_word cause.TooLong = codes "too-long"
cause_word cause.BadHex = codes "bad-hex"

-- which line is refused, and why
abbrev pub line_text : LineRefused → List ℕ
line_text refused = numbered (codes "line ") refused.line ++ (codes " " ++ cause_word refused.cause)

-- in which file a line is refused, which line, and why
abbrev pub file_text : ℕ → LineRefused → List ℕ
file_text file refused = numbered (codes "file ") file ++ (codes " " ++ line_text refused)

-- what is wrong with a forward file
abbrev pub forward_text : ForwardRefused → List ℕ
forward_text (forward.Cut cut) = cut_text cut
forward_text forward.BadMagic = codes "bad-magic"
forward_text forward.BadVersion = codes "bad-version"
forward_text forward.BadSize = codes "bad-size"
forward_text forward.Trailing = codes "trailing"
forward_text (forward.TooMany n) = numbered (codes "too-many ") n
forward_text forward.OutOfMemory = codes "out-of-memory"

-- what is wrong with a database file
abbrev pub database_text : DbRefused → List ℕ
database_text (database.Cut cut) = cut_text cut
database_text database.BadMagic = codes "bad-magic"
database_text database.BadVersion = codes "bad-version"
database_text (database.BadLength row) = numbered (codes "bad-length ") row
database_text (database.Unsorted row) = numbered (codes "unsorted ") row
database_text (database.ZeroCount row) = numbered (codes "zero-count ") row
database_text database.Trailing = codes "trailing"
database_text database.OutOfMemory = codes "out-of-memory"

-- what follows "refused: "
abbrev pub refusal_text : Refusal → List ℕ
refusal_text (refusal.Large role) = codes "large " ++ role_word role
refusal_text (refusal.Job field) = codes "job " ++ field_word field
refusal_text (refusal.Params field) = codes "params " ++ param_word field
refusal_text (refusal.Keys field) = codes "keys " ++ key_word field
refusal_text (refusal.Drops line) = numbered (codes "drops ") line
refusal_text (refusal.Turns line) = numbered (codes "turns ") line
refusal_text (refusal.Coins refused) = codes "coins " ++ coins_text refused
refusal_text (refusal.Batch refused) = codes "batch " ++ batch_text refused
refusal_text (refusal.Line refused) = line_text refused
refusal_text (refusal.Lines n) = numbered (codes "lines ") n
refusal_text (refusal.Forward refused) = codes "forward " ++ forward_text refused
refusal_text (refusal.Database refused) = codes "database " ++ database_text refused
refusal_text (refusal.File file refused) = file_text file refused
refusal_text refusal.SharesSum = codes "shares sum"
refusal_text (refusal.NotBuilt command) = codes "not-built " ++ command_word command

-- What is refused is wrong with what was given: no refusal says that memory is wanted, which is a status of its own.
abbrev pub IsOfInput : Refusal → Type 0
IsOfInput (refusal.Coins coins.OutOfMemory) = ⊥
IsOfInput (refusal.Batch batch.OutOfMemory) = ⊥
IsOfInput (refusal.Forward forward.OutOfMemory) = ⊥
IsOfInput (refusal.Database database.OutOfMemory) = ⊥
IsOfInput other = Unit {0}

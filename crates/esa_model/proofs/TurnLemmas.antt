-- The turns of lists: how many they are, and whose.
use Rattle.std.proofs.Common.{◌≡◌, ℕ, ◌+◌, ◌≤◌, ◌<◌, Bool, true, cond, Option, Some, None, Err, List, [], ◌∷◌, length, get_or, ap, ◌∙◌, arith, inl, inr}
use Rattle.std.proofs.lemmas.Bool.{cases_lt}
use Rattle.std.proofs.lemmas.List.{get_or_past}
use Rattle.std.proofs.lemmas.List.Sums.{get_or-le-sum_by}
use Rattle.std.proofs.lemmas.List.Elements.{All-push}
use Rattle.std.specs.Option.{option_map_or}
use Rattle.std.specs.Prelude.{All}
use Rattle.esa_model.specs.declared.turns.TurnsRefused.TheVariants.{Line}
use Rattle.esa_model.specs.Drafts.{Begun, can_come, lists_of, none_begun, turns_in, with_word}
use Rattle.esa_model.specs.Turns.{AreWorkers}
use Rattle.esa_model.proofs.Reading.{AreBegun, read_from, with_line}
use Rattle.esa_model.specs.Words.{IsTurnOf, word_in}
use Rattle.esa_model.specs.declared.word.Word.{Word}
use Rattle.esa_model.specs.declared.word.Word.TheVariants.{Turn, Next}

-- a list has no more turns than all of them
pub length-list : (lists : List (List ℕ)) (i : ℕ) → length (get_or lists i []) ≤ turns_in lists
length-list lists i =
    elim (cases_lt i (length lists)) [
      | inl inside ↦ get_or-le-sum_by length lists i [] inside
      | inr past ↦ let none = ap length (get_or_past lists i [] past) in omega arith
    ]

-- the turns of what is begun are those of workers, word by word
pub none_begun_workers : (workers : ℕ) → AreBegun workers none_begun
none_begun_workers workers = record { ended = λ k d k_in. absurd (omega arith); list = λ k d k_in. absurd (omega arith) }

pub workers_begun : (workers : ℕ) (begun : Begun) → AreBegun workers begun → AreWorkers workers (lists_of begun)
workers_begun workers begun are = All-push (λ list. All (λ worker. worker < workers) list) begun.ended begun.list are.ended are.list

pub begun_with_word : (workers : ℕ) (begun : Begun) (word : Word) → AreBegun workers begun → IsTurnOf workers word → AreBegun workers (with_word begun word)
begun_with_word workers begun (Turn worker) are turn = record { ended = are.ended; list = All-push (λ w. w < workers) begun.list worker are.list turn }
begun_with_word workers begun Next are turn = record { ended = workers_begun workers begun are; list = λ k d k_in. absurd (omega arith) }

-- a line that is read
pub good_line : (workers attempts number : ℕ) (begun : Begun) (line : List ℕ) (lines : List (List ℕ)) (word : Word)
    → word_in workers line ≡ Some word → can_come attempts begun word ≡ true
    → read_from workers attempts number begun (line ∷ lines) ≡ read_from workers attempts (number + 1) (with_word begun word) lines
good_line workers attempts number begun line lines word is can =
    ap (λ (w : Option Word). option_map_or (λ m. read_from workers attempts (number + 1) m lines) (with_line attempts begun w) (Err (Line number))) is
    ∙ ap (λ (c : Bool). option_map_or (λ m. read_from workers attempts (number + 1) m lines) (cond c (Some (with_word begun word)) None) (Err (Line number))) can

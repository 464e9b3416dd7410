-- Lists of turns in the making: those that are ended, and the one that goes on.
use Rattle.std.specs.Prelude.{ℕ, nat_lt, Bool, List, [], ◌∷◌, ◌++◌, length, sum_by}
use Rattle.std.specs.declared.vec.Vec.{Vec}
use Rattle.esa_model.specs.declared.word.Word.{Word}
use Rattle.esa_model.specs.declared.word.Word.TheVariants.{Turn, Next}

pub record Begun : Type 0 where
  pub ended : List (List ℕ)
  pub list : List ℕ

-- an empty list goes on
abbrev pub none_begun : Begun
none_begun = record { ended = []; list = [] }

-- the lists, if nothing more comes
abbrev pub lists_of : Begun → List (List ℕ)
lists_of begun = begun.ended ++ begun.list ∷ []

-- the number of turns
abbrev pub turns_in : List (List ℕ) → ℕ
turns_in lists = sum_by length lists

-- one word more: a turn goes behind the list that goes on, and `next` ends it and begins an empty one
abbrev pub with_word : Begun → Word → Begun
with_word begun (Turn worker) = record begun { list = begun.list ++ worker ∷ [] }
with_word begun Next = record { ended = lists_of begun; list = [] }

-- a turn can come where fewer than 4,194,304 are there, and `next` where there are fewer lists than attempts
abbrev pub can_come : ℕ → Begun → Word → Bool
can_come attempts begun (Turn worker) = nat_lt (turns_in (lists_of begun)) 4194304
can_come attempts begun Next = nat_lt (length (lists_of begun)) attempts

-- the elements of a vector
abbrev pub items_of : {Z : Type 0} → Vec ℕ Z → List ℕ
items_of list = list.items

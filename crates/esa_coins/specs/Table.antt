-- What a coins file says, or the first place that it is refused for.
use Rattle.std.specs.Prelude.{◌≡◌, ◌⊎◌, ℕ, ◌+◌, ◌*◌, ◌==◌, ◌&&◌, Bool, nat_lt, is_some, codes, List, [], ◌∷◌, length, take, drop, slice_index_or, Option, Some, ok_or, option_and_then, Result, Ok, Err, MatchResult, if◌then◌else◌}
use Rattle.std.specs.List.{list_all}
use Rattle.serde_json.specs.Data.{Data}
use Rattle.serde_json.specs.Find.{get, as_object}
use Rattle.esa_json.specs.Object.{object_of}
use Rattle.esa_json.specs.Values.{values_in, number_in}
use Rattle.esa_params.specs.Sizes.{Sizes, first, size}
use Rattle.esa_coins.specs.Order.{is_order}
use Rattle.esa_coins.specs.declared.refused.CoinsRefused.{CoinsRefused}
use Rattle.esa_coins.specs.declared.refused.CoinsRefused.TheVariants.{Shape, Targets, Target, Order, OutOfMemory}

-- the lists of one attempt: a target for each place, and an order for each target
pub record Table : Type 0 where
  pub targets : List ℕ
  pub orders : List (List ℕ)

-- the result is the one that is wanted, as far as there is memory
abbrev pub Gives : {T V : Type 0} → (T → V) → Result V CoinsRefused → Result T CoinsRefused → Type 0
Gives view wanted result =
    MatchResult result (λ x. wanted ≡ Ok (view x)) (λ refused. (refused ≡ OutOfMemory) ⊎ (wanted ≡ Err refused))

-- a result, and then what is made of it
abbrev pub and_then : {T V E : Type 0} → Result T E → (T → Result V E) → Result V E
and_then (Ok x) next = next x
and_then (Err refused) next = Err refused

-- the value, where the test holds
abbrev pub only_if : {T E : Type 0} → Bool → T → E → Result T E
only_if test x refused = if test then Ok x else Err refused

-- one more at the front of a list
abbrev pub before : {T E : Type 0} → Result T E → Result (List T) E → Result (List T) E
before (Ok x) (Ok xs) = Ok (x ∷ xs)
before (Ok x) (Err refused) = Err refused
before (Err refused) xs = Err refused

-- each of the elements as it reads at its index, counted from a first one: the first that is refused decides
abbrev pub each : {T V E : Type 0} → (ℕ → T → Result V E) → ℕ → List T → Result (List V) E
each read index [] = Ok []
each read index (x ∷ xs) = before (read index x) (each read (index + 1) xs)

-- so many values
abbrev pub list_in : ℕ → CoinsRefused → Option Data → Result (List Data) CoinsRefused
list_in count refused value =
    and_then (ok_or (option_and_then values_in value) refused) (λ values. only_if (length values == count) values refused)

-- so many whole numbers from 0 to 2^64 - 1
abbrev pub numbers_in : ℕ → CoinsRefused → Option Data → Result (List ℕ) CoinsRefused
numbers_in count refused value =
    and_then (list_in count refused value) (each (λ _ number. ok_or (number_in number) refused) 0)

-- a target for each record, below the number of buckets
abbrev pub targets_in : Sizes → ℕ → Option Data → Result (List ℕ) CoinsRefused
targets_in p attempt value =
    and_then (numbers_in p.n (Targets attempt) value)
    (each (λ place target. only_if (nat_lt target p.b) target (Target attempt place)) 0)

-- the places of an import: its chunks and its tail
abbrev pub import_places : Sizes → ℕ
import_places p = p.b * p.c + p.k

-- the order of a bucket: the places of an import, each once
abbrev pub order_in : Sizes → ℕ → ℕ → Data → Result (List ℕ) CoinsRefused
order_in p attempt bucket value =
    and_then (numbers_in (import_places p) (Order attempt bucket) (Some value))
    (λ order. only_if (is_order (import_places p) order) order (Order attempt bucket))

-- an order for each bucket
abbrev pub orders_in : Sizes → ℕ → Option Data → Result (List (List ℕ)) CoinsRefused
orders_in p attempt value = and_then (list_in p.b (Order attempt 0) value) (each (order_in p attempt) 0)

-- the lists of an attempt
abbrev pub table_in : Sizes → ℕ → Data → Result Table CoinsRefused
table_in p attempt value =
    and_then (targets_in p attempt (get (codes "targets") value)) (λ targets.
    and_then (orders_in p attempt (get (codes "orders") value)) (λ orders.
    Ok (record { targets = targets; orders = orders })))

-- an object for each attempt
abbrev pub attempts_in : ℕ → Data → Result (List Data) CoinsRefused
attempts_in count value =
    and_then (list_in count Shape (get (codes "attempts") value)) (λ attempts.
    only_if (list_all (λ attempt. is_some (as_object attempt)) attempts) attempts Shape)

-- the lists of all attempts, in the bytes of a coins file
abbrev pub tables_in : Sizes → List ℕ → Result (List Table) CoinsRefused
tables_in p bytes =
    and_then (ok_or (object_of bytes) Shape) (λ value. and_then (attempts_in p.attempts value) (each (table_in p) 0))

-- the lists are such as an attempt needs
abbrev pub is_table : Sizes → Table → Bool
is_table p table =
    (length table.targets == p.n) && list_all (λ target. nat_lt target p.b) table.targets
    && (length table.orders == p.b) && list_all (is_order (import_places p)) table.orders

-- there are such lists for each attempt
abbrev pub are_tables : Sizes → List Table → Bool
are_tables p tables = (length tables == p.attempts) && list_all (is_table p) tables

-- the lists of an attempt that isn't there
abbrev pub no_table : Table
no_table = record { targets = []; orders = [] }

-- the targets of a bucket: those of its places
abbrev pub targets_at : Sizes → List Table → ℕ → ℕ → List ℕ
targets_at p tables attempt bucket =
    take (size p bucket) (drop (first p bucket) (slice_index_or tables attempt no_table).targets)

-- the order of a target
abbrev pub order_at : List Table → ℕ → ℕ → List ℕ
order_at tables attempt target = slice_index_or (slice_index_or tables attempt no_table).orders target []

-- The laws of coins, for those that are read from a file.
use Rattle.std.proofs.Common.{◌≡◌, ℕ, ◌+◌, ◌-◌, ◌*◌, ◌/◌, ◌<◌, ◌≤◌, ◌==◌, ◌&&◌, Bool, true, false, nat_lt, List, [], length, take, drop, get_or, sym, refl, ◌∙◌, subst, arith}
use Rattle.std.specs.List.{All, list_all}
use Rattle.std.specs.List.Sorted.{IsPermutation}
use Rattle.std.proofs.Math.Nat.{min-le_left}
use Rattle.std.proofs.lemmas.Bool.{eqb-true, ltb-true}
use Rattle.std.proofs.lemmas.List.{length-take-le, length-drop}
use Rattle.std.proofs.lemmas.List.Elements.{All-take, All-drop}
use Rattle.std.proofs.lemmas.List.Folds.{list_all_at}
use Rattle.esa_params.specs.Sizes.{Sizes, size, first, below}
use Rattle.esa_coins.specs.Order.{is_order}
use Rattle.esa_coins.specs.OrderLaws.{is_order-permutes}
use Rattle.esa_coins.specs.Table.{Table, is_table, are_tables, import_places, no_table, targets_at, order_at}

-- both tests hold
record Both (first second : Bool) : Type 0 where
  one : first ≡ true
  other : second ≡ true

both : (first second : Bool) → (first && second) ≡ true → Both first second
both true true is = record { one = refl; other = refl }
both true false is = cc
both false second is = cc

passes_at : {X : Type 0} (test : X → Bool) (xs : List X) (i : ℕ) (d : X) → list_all test xs ≡ true → i < length xs → test (get_or xs i d) ≡ true
passes_at test xs i d all inside =
    elim (test (get_or xs i d)) as (λ b. test (get_or xs i d) ≡ b → b ≡ true) [
      | true ↦ λ _. refl
      | false ↦ λ fails. cc (sym all ∙ list_all_at test xs i d inside fails)
    ] refl

-- what the lists of an attempt are
pub record IsTable (p : Sizes) (table : Table) : Type 0 where
  pub targets : length table.targets ≡ p.n
  pub inside : All (λ target. target < p.b) table.targets
  pub orders : length table.orders ≡ p.b
  pub permute : list_all (is_order (import_places p)) table.orders ≡ true

pub IsTable-from : (p : Sizes) (table : Table) → is_table p table ≡ true → IsTable p table
IsTable-from p table is =
    let last = both _ (list_all (is_order (import_places p)) table.orders) is in
    let third = both _ (length table.orders == p.b) last.one in
    let second = both (length table.targets == p.n) (list_all (λ target. nat_lt target p.b) table.targets) third.one in
    record {
      targets = eqb-true (length table.targets) p.n second.one;
      inside = λ k d within. ltb-true (get_or table.targets k d) p.b (passes_at (λ target. nat_lt target p.b) table.targets k d second.other within);
      orders = eqb-true (length table.orders) p.b third.other;
      permute = last.other;
    }

pub length-are_tables : (p : Sizes) (tables : List Table) → are_tables p tables ≡ true → length tables ≡ p.attempts
length-are_tables p tables are = eqb-true (length tables) p.attempts (both (length tables == p.attempts) (list_all (is_table p) tables) are).one

pub table_at : (p : Sizes) (tables : List Table) (attempt : ℕ) (d : Table) → are_tables p tables ≡ true → attempt < p.attempts → IsTable p (get_or tables attempt d)
table_at p tables attempt d are planned =
    IsTable-from p (get_or tables attempt d) (passes_at (is_table p) tables attempt d (both (length tables == p.attempts) (list_all (is_table p) tables) are).other
    (subst (λ n. attempt < n) (sym (length-are_tables p tables are)) planned))

-- the places of a bucket lie inside of the batch
pub places_inside : (p : Sizes) (bucket : ℕ) → first p bucket + size p bucket ≤ p.n
places_inside p bucket = omega (arith, min-le_left p.n (bucket * ((p.n + p.b - 1) / p.b)), min-le_left p.n ((bucket + 1) * ((p.n + p.b - 1) / p.b)))

-- the order of a target names each place of an import once
pub order_permuted : (p : Sizes) (table : Table) (target : ℕ) → IsTable p table → target < p.b → IsPermutation (below (import_places p)) (get_or table.orders target [])
order_permuted p table target is inside =
    is_order-permutes (import_places p) (get_or table.orders target []) (passes_at (is_order (import_places p)) table.orders target [] is.permute (subst (λ n. target < n) (sym is.orders) inside))

pub targets_inside : (p : Sizes) (table : Table) (from count : ℕ) → IsTable p table → All (λ target. target < p.b) (take count (drop from table.targets))
targets_inside p table from count is =
    All-take (λ target. target < p.b) count (drop from table.targets) (All-drop (λ target. target < p.b) from table.targets is.inside)

-- ---- the laws

pub target_for_each : (p : Sizes) (tables : List Table) → are_tables p tables ≡ true → (attempt bucket : ℕ) → attempt < p.attempts → length (targets_at p tables attempt bucket) ≡ size p bucket
target_for_each p tables are attempt bucket planned =
    let table = get_or tables attempt no_table in
    let whole = (table_at p tables attempt no_table are planned).targets in
    length-take-le (size p bucket) (drop (first p bucket) table.targets) (omega (arith, length-drop (first p bucket) table.targets, whole, places_inside p bucket))

pub targets_below : (p : Sizes) (tables : List Table) → are_tables p tables ≡ true → (attempt bucket : ℕ) → attempt < p.attempts → All (λ target. target < p.b) (targets_at p tables attempt bucket)
targets_below p tables are attempt bucket planned =
    targets_inside p (get_or tables attempt no_table) (first p bucket) (size p bucket) (table_at p tables attempt no_table are planned)

pub orders_permute : (p : Sizes) (tables : List Table) → are_tables p tables ≡ true → (attempt target : ℕ) → attempt < p.attempts → target < p.b → IsPermutation (below (p.b * p.c + p.k)) (order_at tables attempt target)
orders_permute p tables are attempt target planned inside =
    order_permuted p (get_or tables attempt no_table) target (table_at p tables attempt no_table are planned) inside

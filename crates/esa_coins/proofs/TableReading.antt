-- What is read from a coins file is such as attempts need.
use Rattle.std.proofs.Common.{◌≡◌, ℕ, ◌==◌, Bool, true, false, nat_lt, codes, is_some, ◌<◌, List, [], map, get_or, length, Option, Some, option_and_then, Result, Ok, Err, refl, ap, sym, ◌∙◌, subst}
use Rattle.std.specs.Cmp.Derive.{both_true}
use Rattle.std.specs.List.{list_all}
use Rattle.std.specs.Option.{ok_or}
use Rattle.std.proofs.Math.ListN.{get_or-map}
use Rattle.std.proofs.lemmas.Bool.{eqb-true, eq-eqb}
use Rattle.std.proofs.lemmas.List.FromFn.{length-range_with_len}
use Rattle.std.proofs.lemmas.List.Sorted.{length_permutation}
use Rattle.serde_json.specs.Data.{Data}
use Rattle.serde_json.specs.Find.{get, as_object}
use Rattle.esa_params.specs.Sizes.{Sizes, below}
use Rattle.esa_json.specs.Values.{values_in, number_in}
use Rattle.esa_coins.specs.Order.{is_order}
use Rattle.esa_coins.specs.Table.{Table, and_then, only_if, each, list_in, numbers_in, targets_in, import_places, order_in, orders_in, table_in, attempts_in, is_table, are_tables}
use Rattle.esa_coins.specs.TableLaws.{IsTable, table_at, order_permuted}
use Rattle.esa_coins.specs.declared.refused.CoinsRefused.{CoinsRefused}
use Rattle.esa_coins.specs.declared.refused.CoinsRefused.TheVariants.{Shape, Targets, Target, Order}
use Rattle.esa_coins.proofs.EachLaws.{length-each, list_all-each}

record Steps {T V E : Type 0} (first : Result T E) (next : T → Result V E) (last : V) : Type 0 where
  value : T
  first_is : first ≡ Ok value
  next_is : next value ≡ Ok last

steps : {T V E : Type 0} (first : Result T E) (next : T → Result V E) (last : V) → and_then first next ≡ Ok last → Steps first next last
steps (Ok value) next last is = record { value = value; first_is = refl; next_is = is }
steps (Err e) next last is = cc

record Kept {T : Type 0} (test : Bool) (x y : T) : Type 0 where
  passes : test ≡ true
  same : x ≡ y

kept : {T E : Type 0} (test : Bool) (x y : T) (e : E) → only_if test x e ≡ Ok y → Kept test x y
kept true x y e is = record { passes = refl; same = cc }
kept false x y e is = cc

pub length-list_in : (count : ℕ) (refused : CoinsRefused) (value : Option Data) (values : List Data) → list_in count refused value ≡ Ok values → length values ≡ count
length-list_in count refused value values is =
    let s = steps (ok_or (option_and_then values_in value) refused) (λ list. only_if (length list == count) list refused) values is in
    let k = kept (length s.value == count) s.value values refused s.next_is in
    ap length (sym k.same) ∙ eqb-true (length s.value) count k.passes

pub length-numbers_in : (count : ℕ) (refused : CoinsRefused) (value : Option Data) (numbers : List ℕ) → numbers_in count refused value ≡ Ok numbers → length numbers ≡ count
length-numbers_in count refused value numbers is =
    let read = λ (i : ℕ) (number : Data). ok_or (number_in number) refused in
    let s = steps (list_in count refused value) (each read 0) numbers is in
    length-each read 0 s.value numbers s.next_is ∙ length-list_in count refused value s.value s.first_is

length-targets_in : (p : Sizes) (attempt : ℕ) (value : Option Data) (targets : List ℕ) → targets_in p attempt value ≡ Ok targets → length targets ≡ p.n
length-targets_in p attempt value targets is =
    let read = λ (place target : ℕ). only_if (nat_lt target p.b) target (Target attempt place) in
    let s = steps (numbers_in p.n (Targets attempt) value) (each read 0) targets is in
    length-each read 0 s.value targets s.next_is ∙ length-numbers_in p.n (Targets attempt) value s.value s.first_is

targets_in-below : (p : Sizes) (attempt : ℕ) (value : Option Data) (targets : List ℕ) → targets_in p attempt value ≡ Ok targets → list_all (λ target. nat_lt target p.b) targets ≡ true
targets_in-below p attempt value targets is =
    let read = λ (place target : ℕ). only_if (nat_lt target p.b) target (Target attempt place) in
    let s = steps (numbers_in p.n (Targets attempt) value) (each read 0) targets is in
    list_all-each read (λ target. nat_lt target p.b) (λ place x y read_is.
    let k = kept (nat_lt x p.b) x y (Target attempt place) read_is in ap (λ target. nat_lt target p.b) (sym k.same) ∙ k.passes) 0 s.value targets s.next_is

order_in-order : (p : Sizes) (attempt bucket : ℕ) (value : Data) (order : List ℕ) → order_in p attempt bucket value ≡ Ok order → is_order (import_places p) order ≡ true
order_in-order p attempt bucket value order is =
    let test = λ (list : List ℕ). only_if (is_order (import_places p) list) list (Order attempt bucket) in
    let s = steps (numbers_in (import_places p) (Order attempt bucket) (Some value)) test order is in
    let k = kept (is_order (import_places p) s.value) s.value order (Order attempt bucket) s.next_is in
    ap (is_order (import_places p)) (sym k.same) ∙ k.passes

length-orders_in : (p : Sizes) (attempt : ℕ) (value : Option Data) (orders : List (List ℕ)) → orders_in p attempt value ≡ Ok orders → length orders ≡ p.b
length-orders_in p attempt value orders is =
    let s = steps (list_in p.b (Order attempt 0) value) (each (order_in p attempt) 0) orders is in
    length-each (order_in p attempt) 0 s.value orders s.next_is ∙ length-list_in p.b (Order attempt 0) value s.value s.first_is

orders_in-orders : (p : Sizes) (attempt : ℕ) (value : Option Data) (orders : List (List ℕ)) → orders_in p attempt value ≡ Ok orders → list_all (is_order (import_places p)) orders ≡ true
orders_in-orders p attempt value orders is =
    let s = steps (list_in p.b (Order attempt 0) value) (each (order_in p attempt) 0) orders is in
    list_all-each (order_in p attempt) (is_order (import_places p)) (order_in-order p attempt) 0 s.value orders s.next_is

abbrev with_orders : List ℕ → List (List ℕ) → Result Table CoinsRefused
with_orders targets orders = Ok (record { targets = targets; orders = orders })

table_in-table : (p : Sizes) (attempt : ℕ) (value : Data) (table : Table) → table_in p attempt value ≡ Ok table → is_table p table ≡ true
table_in-table p attempt value table is =
    let found = targets_in p attempt (get (codes "targets") value) in
    let rest = λ (targets : List ℕ). and_then (orders_in p attempt (get (codes "orders") value)) (with_orders targets) in
    let s = steps found rest table is in
    let t = steps (orders_in p attempt (get (codes "orders") value)) (with_orders s.value) table s.next_is in
    let whole : is_table p (record { targets = s.value; orders = t.value }) ≡ true =
    both_true (both_true (both_true
    (eq-eqb (length s.value) p.n (length-targets_in p attempt _ s.value s.first_is)) (targets_in-below p attempt _ s.value s.first_is))
    (eq-eqb (length t.value) p.b (length-orders_in p attempt _ t.value t.first_is))) (orders_in-orders p attempt _ t.value t.first_is) in
    let same : (record { targets = s.value; orders = t.value }) ≡ table = cc (t.next_is) in
    ap (is_table p) (sym same) ∙ whole

length-attempts_in : (count : ℕ) (value : Data) (attempts : List Data) → attempts_in count value ≡ Ok attempts → length attempts ≡ count
length-attempts_in count value attempts is =
    let test = λ (list : List Data). only_if (list_all (λ attempt. is_some (as_object attempt)) list) list Shape in
    let s = steps (list_in count Shape (get (codes "attempts") value)) test attempts is in
    let k = kept (list_all (λ attempt. is_some (as_object attempt)) s.value) s.value attempts Shape s.next_is in
    ap length (sym k.same) ∙ length-list_in count Shape _ s.value s.first_is

pub attempts-tables : (p : Sizes) (value : Data) (tables : List Table) → and_then (attempts_in p.attempts value) (each (table_in p) 0) ≡ Ok tables → are_tables p tables ≡ true
attempts-tables p value tables is =
    let s = steps (attempts_in p.attempts value) (each (table_in p) 0) tables is in
    both_true (eq-eqb (length tables) p.attempts (length-each (table_in p) 0 s.value tables s.next_is ∙ length-attempts_in p.attempts value s.value s.first_is))
    (list_all-each (table_in p) (is_table p) (table_in-table p) 0 s.value tables s.next_is)

-- ---- in the lists that were read

pub seen_table : {S : Type 0} (view : S → Table) (p : Sizes) (items : List S) (attempt : ℕ) (x : S) → are_tables p (map view items) ≡ true → attempt < p.attempts → x ≡ get_or items attempt x → IsTable p (view x)
seen_table view p items attempt x are planned is =
    subst (IsTable p) (get_or-map view items attempt x ∙ ap view (sym is)) (table_at p (map view items) attempt (view x) are planned)

pub length-order : (p : Sizes) (table : Table) (target : ℕ) → IsTable p table → target < p.b → length (get_or table.orders target []) ≡ import_places p
length-order p table target is inside =
    length_permutation (below (import_places p)) (get_or table.orders target []) (order_permuted p table target is inside) ∙ length-range_with_len 0 (import_places p)

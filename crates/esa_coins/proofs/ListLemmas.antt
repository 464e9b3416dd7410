-- The values of a JSON list.
use Rattle.std.proofs.Common.{◌≡◌, ℕ, ◌==◌, codes, is_some, List, length, map, Option, Some, Ok, Err, ap, sym, ◌∙◌}
use Rattle.std.specs.List.{list_all}
use Rattle.std.specs.Option.{ok_or}
use Rattle.std.proofs.lemmas.Bool.{eq-eqb, ne_eqb}
use Rattle.std.proofs.lemmas.List.{length-map}
use Rattle.std.proofs.lemmas.List.Folds.{list_all-map}
use Rattle.serde_json.specs.Data.{Data}
use Rattle.serde_json.specs.Find.{get, as_object}
use Rattle.esa_json.specs.Values.{values_in}
use Rattle.esa_coins.specs.Table.{and_then, only_if, list_in, attempts_in}
use Rattle.esa_coins.specs.declared.refused.CoinsRefused.{CoinsRefused}
use Rattle.esa_coins.specs.declared.refused.CoinsRefused.TheVariants.{Shape}

-- the values as a slice that is seen as data
module _ {S : Type 0} (view : S → Data) (count : ℕ) (refused : CoinsRefused) (value : Data) (slice : List S) (is : Some (map view slice) ≡ values_in value) where
  counted_slice : list_in count refused (Some value) ≡ only_if (length slice == count) (map view slice) refused
  counted_slice =
      ap (λ found. and_then (ok_or found refused) (λ values. only_if (length values == count) values refused)) (sym is)
      ∙ ap (λ n. only_if (n == count) (map view slice) refused) (length-map slice view)

  pub list_in-slice : length slice ≡ count → list_in count refused (Some value) ≡ Ok (map view slice)
  list_in-slice full = counted_slice ∙ ap (λ test. only_if test (map view slice) refused) (eq-eqb (length slice) count full)

  pub list_in-other : (length slice ≡ count → ⊥) → list_in count refused (Some value) ≡ Err refused
  list_in-other other = counted_slice ∙ ap (λ test. only_if test (map view slice) refused) (ne_eqb (length slice) count other)

-- the values of the field attempts, by whether each is an object
pub attempts_in-values : {S : Type 0} (view : S → Data) (count : ℕ) (value : Data) (found : Option Data) (values : List S) → found ≡ get (codes "attempts") value → list_in count Shape found ≡ Ok (map view values) → attempts_in count value ≡ only_if (list_all (λ attempt. is_some (as_object (view attempt))) values) (map view values) Shape
attempts_in-values view count value found values is listed_is =
    let test = λ (list : List Data). only_if (list_all (λ attempt. is_some (as_object attempt)) list) list Shape in
    ap (λ field. and_then (list_in count Shape field) test) (sym is) ∙ ap (λ list. and_then list test) listed_is
    ∙ ap (λ objects. only_if objects (map view values) Shape) (list_all-map (λ attempt. is_some (as_object attempt)) view values)

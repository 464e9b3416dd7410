-- What a job keeps, taken in one after another.
use Rattle.std.proofs.Common.{◌≡◌, ℕ, zero, suc, ◌+◌, ◌<◌, List, [], ◌∷◌, ◌++◌, length, take, get_or, map, slice_get, slice_index_or, Option, Some, None, option_map, option_and_then, refl, sym, ap, ◌∙◌}
use Rattle.std.specs.List.{filter_map}
use Rattle.std.proofs.lemmas.List.{map-append, map_more}
use Rattle.std.proofs.lemmas.List.Elements.{filter_map-append}
use Rattle.std.proofs.lemmas.Option.{slice_get-map}
use Rattle.esa_job.specs.declared.field.JobField.{JobField}
use Rattle.esa_job.specs.declared.field.JobField.TheVariants.{Job}
use Rattle.esa_job.specs.Decoded.{meaning_at, meanings, seen}
use Rattle.esa_job.specs.Request.{Request}
use Rattle.esa_job.specs.Table.{fields}
use Rattle.esa_job.specs.declared.decoded.Decoded.{Decoded}

-- one value more, in a loop over the values
pub more_filtered : {V D N : Type 0} (read : D → Option N) (view : V → D) (values : List V) (i : ℕ) (value : V) (names : List N) → i < length values → value ≡ get_or values i value → names ≡ filter_map read (map view (take i values)) → names ++ filter_map read (view value ∷ []) ≡ filter_map read (map view (take (i + 1) values))
more_filtered read view values i value names inside is so_far =
    ap (λ found. found ++ filter_map read (view value ∷ [])) so_far
    ∙ sym (filter_map-append read (map view (take i values)) (view value ∷ []))
    ∙ ap (filter_map read) (sym (map_more view values i value inside ∙ ap (λ x. map view (take i values) ++ view x ∷ []) (sym is)))

-- one more that is seen as what the next item stands for
pub more_seen : {A B C : Type 0} (seen : B → C) (f : A → C) (items : List A) (i : ℕ) (other : A) (kept : List B) (last : B) → i < length items → map seen kept ≡ map f (take i items) → seen last ≡ f (get_or items i other) → map seen (kept ++ last ∷ []) ≡ map f (take (i + 1) items)
more_seen seen f items i other kept last inside so_far more =
    map-append seen kept (last ∷ [])
    ∙ ap (λ found. found ++ seen last ∷ []) so_far
    ∙ ap (λ x. map f (take i items) ++ x ∷ []) more
    ∙ sym (map_more f items i other inside)

-- what stands at the place of an item, where nothing stands for an item that isn't there
pub at_place : {A M : Type 0} (f : A → Option M) (none : A) (items : List A) (i : ℕ) → f none ≡ None → option_and_then (λ found. found) (slice_get (map f items) i) ≡ f (slice_index_or items i none)
at_place f none [] i nothing = sym nothing
at_place f none (x ∷ items) zero nothing = refl
at_place f none (x ∷ items) (suc i) nothing = at_place f none items i nothing

-- what is kept at a field's place is what its value stands for
pub kept_at : (job : Request) (kept : List (Option Decoded)) (place : ℕ) (field : JobField) → map (option_map seen) kept ≡ meanings job → slice_index_or fields place Job ≡ field → option_and_then (option_map seen) (slice_get kept place) ≡ meaning_at job field
kept_at job kept place field is placed =
    joined (slice_get kept place)
    ∙ ap (option_and_then (λ found. found)) (sym (slice_get-map (option_map seen) kept place) ∙ ap (λ all. slice_get all place) is)
    ∙ at_place (meaning_at job) Job fields place refl
    ∙ ap (meaning_at job) placed
  where
    joined : (found : Option (Option Decoded)) → option_and_then (option_map seen) found ≡ option_and_then (λ found. found) (option_map (option_map seen) found)
    joined None = refl
    joined (Some x) = refl

pub in_two : {A B C : Type 0} (f : B → C) (g : A → B) (found : Option A) → option_map (λ x. f (g x)) found ≡ option_map f (option_map g found)
in_two f g None = refl
in_two f g (Some x) = refl

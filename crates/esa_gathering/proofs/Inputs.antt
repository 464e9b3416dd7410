-- A job names no more than sixteen inputs.
use Rattle.std.proofs.Common.{◌≡◌, ◌≤◌, Bool, true, false, cond, not, ◌&&◌, ◌||◌, nat_le, List, [], ◌∷◌, length, Option, Some, None, is_none, find, option_and_then, unwrap_or, refl, arith}
use Rattle.std.specs.List.{AllByRecursion, filter_map, list_all}
use Rattle.std.specs.Option.{option_map_or}
use Rattle.std.proofs.lemmas.Bool.Decides.{nat_tests}
use Rattle.serde_json.specs.Data.{Data}
use Rattle.esa_json.specs.Values.{values_in}
use Rattle.esa_job.specs.declared.field.JobField.TheVariants.{Inputs}
use Rattle.esa_job.specs.Refusal.{IsAcceptable, is_missing, is_ill_typed, breaks_rule, is_bad, first_bad, first_limit_past}
use Rattle.esa_job.specs.Request.{Request, value_at, inputs_at}
use Rattle.esa_job.specs.Table.{fields, kind_of}
use Rattle.esa_job.specs.Values.{accepts, is_name, is_name_list, name_in}
use Rattle.esa_gathering.proofs.Lines.{filtered_few}

both : (first second : Bool) → (first && second) ≡ true → (first ≡ true) × (second ≡ true)
both true true is = (refl, refl)
both true false is = cc
both false second is = cc

neither : (first second : Bool) → (first || second) ≡ false → (first ≡ false) × (second ≡ false)
neither false false is = (refl, refl)
neither false true is = cc
neither true second is = cc

nothing : {A : Type 0} (found : Option A) → is_none found ≡ true → found ≡ None
nothing None is = refl
nothing (Some item) is = cc

-- nothing is found, so not the first item either
not_first : {A : Type 0} (passes : Bool) (item : A) (later : Option A) → cond passes (Some item) later ≡ None → (passes ≡ false) × (later ≡ None)
not_first true item later none = cc
not_first false item later none = (refl, none)

all_not : {A : Type 0} (test : A → Bool) (items : List A) → find test items ≡ None → AllByRecursion (λ item. test item ≡ false) items
all_not test [] none = tt
all_not test (item ∷ items) none = let parts = not_first (test item) item (find test items) none in (parts.0, all_not test items parts.1)

well_typed : (job : Request) → IsAcceptable job → is_ill_typed job Inputs ≡ false
unfolding first_bad fields
well_typed job accepted =
    let none = nothing (first_bad job) (both (is_none (first_bad job)) (is_none (first_limit_past job)) accepted).0 in
    let third : is_bad job Inputs ≡ false = (all_not (is_bad job) fields none).1.1.0 in
    (neither (is_missing job Inputs) (is_ill_typed job Inputs) (neither (is_missing job Inputs || is_ill_typed job Inputs) (breaks_rule job Inputs) third).0).1

sixteen : (values : List Data) → is_name_list values ≡ true → length values ≤ 16
sixteen values is =
    let number = both (nat_le 1 (length values) && nat_le (length values) 16) (list_all is_name values) is in
    let few = both (nat_le 1 (length values)) (nat_le (length values) 16) number.0 in
    grind (arith, nat_tests, few.1)

listed_few : (values : Option (List Data)) → not (option_map_or is_name_list values false) ≡ false → length (filter_map name_in (unwrap_or values [])) ≤ 16
listed_few None is = omega arith
listed_few (Some values) is = omega (arith, filtered_few name_in values, sixteen values (truly (is_name_list values) is))
  where
    truly : (b : Bool) → not b ≡ false → b ≡ true
    truly true is = refl
    truly false is = cc

found_few : (value : Option Data) → option_map_or (λ value. not (accepts (kind_of Inputs) value)) value false ≡ false → length (filter_map name_in (unwrap_or (option_and_then values_in value) [])) ≤ 16
found_few None is = omega arith
found_few (Some value) is = listed_few (values_in value) is

pub few_inputs : (job : Request) → IsAcceptable job → length (inputs_at job) ≤ 16
few_inputs job accepted = found_few (value_at job Inputs) (well_typed job accepted)

-- What a job that is acceptable has at its fields.
use Rattle.std.proofs.Common.{◌≡◌, ℕ, ◌≤◌, ◌<◌, ◌^◌, arith, Bool, true, false, ◌&&◌, not, cond, List, [], ◌∷◌, Option, Some, None, is_some, find, option_map, option_and_then, IfSome, IsSome, refl, ap, ◌∙◌, sym, subst, nat_le}
use Rattle.std.specs.List.{AllByRecursion}
use Rattle.std.specs.Option.{option_or, option_map_or}
use Rattle.std.proofs.lemmas.Bool.{leb-true}
use Rattle.serde_json.specs.Data.{Data}
use Rattle.esa_params.specs.Limits.{is_from, first_past}
use Rattle.esa_job.specs.declared.field.JobField.{JobField}
use Rattle.esa_job.specs.declared.field.JobField.TheVariants.{Job, Keys, Input, Inputs, Output, Trace, Turns, TurnsOut, Drops, Coins, Seed, Draw, Records, Crowds, Number, NonceBase, Form, Epoch, Shares, B, C, S, K, W, Q, Workers, Attempts, M, T, Mode}
use Rattle.esa_job.specs.declared.field.Kind.TheVariants as kind
use Rattle.esa_job.specs.declared.field.Need.{Need}
use Rattle.esa_job.specs.declared.field.Need.TheVariants.{Unused, Optional, Needed}
use Rattle.esa_job.specs.Refusal.{IsAcceptable, is_missing, is_ill_typed, is_bad, first_bad, is_outside, is_past, param_of, params_of, first_param_past, first_other_past}
use Rattle.esa_job.specs.Request.{Request, is_used, is_needed, value_at, is_there, name_at, number_at, mode_at}
use Rattle.esa_job.specs.Table.{fields, limited_fields, kind_of, limits_of, need_of}
use Rattle.esa_job.specs.declared.table.Limits.{Limits}
use Rattle.esa_job.proofs.Outcomes.{both_false, both_true, not-false, is_none-none, none_found}
use Rattle.esa_json.specs.Values.{number_in}
use Rattle.esa_job.specs.Values.{name_in, mode_in}

-- ---- no field is bad

-- every field is among those that are looked at
each_field : (P : JobField → Type 0) → P Job → AllByRecursion P fields → (field : JobField) → P field
unfolding fields
each_field P job all Job = job
each_field P job all Keys = all.0
each_field P job all Input = all.1.0
each_field P job all Inputs = all.1.1.0
each_field P job all Output = all.1.1.1.0
each_field P job all Trace = all.1.1.1.1.0
each_field P job all Turns = all.1.1.1.1.1.0
each_field P job all TurnsOut = all.1.1.1.1.1.1.0
each_field P job all Drops = all.1.1.1.1.1.1.1.0
each_field P job all Coins = all.1.1.1.1.1.1.1.1.0
each_field P job all Seed = all.1.1.1.1.1.1.1.1.1.0
each_field P job all Draw = all.1.1.1.1.1.1.1.1.1.1.0
each_field P job all Records = all.1.1.1.1.1.1.1.1.1.1.1.0
each_field P job all Crowds = all.1.1.1.1.1.1.1.1.1.1.1.1.0
each_field P job all Number = all.1.1.1.1.1.1.1.1.1.1.1.1.1.0
each_field P job all NonceBase = all.1.1.1.1.1.1.1.1.1.1.1.1.1.1.0
each_field P job all Form = all.1.1.1.1.1.1.1.1.1.1.1.1.1.1.1.0
each_field P job all Epoch = all.1.1.1.1.1.1.1.1.1.1.1.1.1.1.1.1.0
each_field P job all Shares = all.1.1.1.1.1.1.1.1.1.1.1.1.1.1.1.1.1.0
each_field P job all B = all.1.1.1.1.1.1.1.1.1.1.1.1.1.1.1.1.1.1.0
each_field P job all C = all.1.1.1.1.1.1.1.1.1.1.1.1.1.1.1.1.1.1.1.0
each_field P job all S = all.1.1.1.1.1.1.1.1.1.1.1.1.1.1.1.1.1.1.1.1.0
each_field P job all K = all.1.1.1.1.1.1.1.1.1.1.1.1.1.1.1.1.1.1.1.1.1.0
each_field P job all W = all.1.1.1.1.1.1.1.1.1.1.1.1.1.1.1.1.1.1.1.1.1.1.0
each_field P job all Q = all.1.1.1.1.1.1.1.1.1.1.1.1.1.1.1.1.1.1.1.1.1.1.1.0
each_field P job all Workers = all.1.1.1.1.1.1.1.1.1.1.1.1.1.1.1.1.1.1.1.1.1.1.1.1.0
each_field P job all Attempts = all.1.1.1.1.1.1.1.1.1.1.1.1.1.1.1.1.1.1.1.1.1.1.1.1.1.0
each_field P job all M = all.1.1.1.1.1.1.1.1.1.1.1.1.1.1.1.1.1.1.1.1.1.1.1.1.1.1.0
each_field P job all T = all.1.1.1.1.1.1.1.1.1.1.1.1.1.1.1.1.1.1.1.1.1.1.1.1.1.1.1.0
each_field P job all Mode = all.1.1.1.1.1.1.1.1.1.1.1.1.1.1.1.1.1.1.1.1.1.1.1.1.1.1.1.1.0

not_bad : (job : Request) → first_bad job ≡ None → (field : JobField) → is_bad job field ≡ false
unfolding first_bad
not_bad job none = each_field (λ field. is_bad job field ≡ false) refl (none_found (is_bad job) fields none)

-- a field that is not bad is there where it is needed, and has a value of its type where it is there
record Good (job : Request) (field : JobField) : Type 0 where
  missing : is_missing job field ≡ false
  typed : is_ill_typed job field ≡ false

good : (job : Request) → IsAcceptable job → (field : JobField) → Good job field
good job accepted field =
    let parts = both_true _ _ accepted in
    let parts = both_false _ _ (not_bad job (is_none-none _ parts.0) field) in
    let first = both_false _ _ parts.0 in
    record { missing = first.0; typed = first.1 }

-- ---- values

some_value : {A : Type 0} (read : Data → Option A) (found : Option Data) → is_some found ≡ true → option_map_or (λ value. not (is_some (read value))) found false ≡ false → is_some (option_and_then read found) ≡ true
some_value read None there typed = there
some_value read (Some value) there typed = not-false (is_some (read value)) typed

is_there-needed : (job : Request) (field : JobField) → need_of field job.command ≡ Needed → is_missing job field ≡ false → is_there job field ≡ true
is_there-needed job field needed missing = known (need_of field job.command) (is_there job field) needed missing
  where
    known : (need : Need) (there : Bool) → need ≡ Needed → (is_needed need && not there) ≡ false → there ≡ true
    known Unused there needed missing = cc
    known Optional there needed missing = cc
    known Needed true needed missing = refl
    known Needed false needed missing = sym missing

pub name_at-needed : (job : Request) → IsAcceptable job → (field : JobField) → kind_of field ≡ kind.Name → need_of field job.command ≡ Needed → IsSome (name_at job field)
name_at-needed job accepted field of_kind needed =
    let fits = good job accepted field in
    some_value name_in (value_at job field) (is_there-needed job field needed fits.missing) (rw of_kind at fits.typed)

pub number_at-needed : (job : Request) → IsAcceptable job → (field : JobField) → kind_of field ≡ kind.Number → need_of field job.command ≡ Needed → IsSome (number_at job field)
number_at-needed job accepted field of_kind needed =
    let fits = good job accepted field in
    some_value number_in (value_at job field) (is_there-needed job field needed fits.missing) (rw of_kind at fits.typed)

pub mode_at-needed : (job : Request) → IsAcceptable job → need_of Mode job.command ≡ Needed → IsSome (mode_at job)
mode_at-needed job accepted needed =
    let fits = good job accepted Mode in
    some_value mode_in (value_at job Mode) (is_there-needed job Mode needed fits.missing) fits.typed

-- ---- numbers

some-not-none : {B : Type 0} (found : Option B) → IsSome found → found ≡ None → ⊥
some-not-none None some none = cc
some-not-none (Some y) some none = cc

-- where nothing comes of a search for the first item that passes a test, nothing passes it: each item would give something
nothing_found : {A B : Type 0} (test : A → Bool) (f : A → Option B) (xs : List A) → AllByRecursion (λ x. IsSome (f x)) xs → option_and_then f (find test xs) ≡ None → find test xs ≡ None
nothing_found test f [] some none = refl
nothing_found test f (x ∷ xs) some none = known (test x) none (nothing_found test f xs some.1)
  where
    known : (found : Bool) → option_and_then f (cond found (Some x) (find test xs)) ≡ None → (option_and_then f (find test xs) ≡ None → find test xs ≡ None) → cond found (Some x) (find test xs) ≡ None
    known true none later = absurd (some-not-none (f x) some.0 none)
    known false none later = later none

all_within : (job : Request) → first_other_past job ≡ None → AllByRecursion (λ field. is_past job field ≡ false) limited_fields
unfolding first_other_past limited_fields
all_within job none = none_found (is_past job) limited_fields (nothing_found (is_past job) param_of limited_fields (refl, (refl, (refl, (refl, (refl, (refl, (refl, tt))))))) none)

-- every number that has limits of its own is among those that are looked at
each_within : (job : Request) → AllByRecursion (λ field. is_past job field ≡ false) limited_fields → (field : JobField) → is_past job field ≡ false
unfolding limited_fields
each_within job all M = all.0
each_within job all T = all.1.0
each_within job all Records = all.1.1.0
each_within job all Crowds = all.1.1.1.0
each_within job all Form = all.1.1.1.1.0
each_within job all Epoch = all.1.1.1.1.1.0
each_within job all Shares = all.1.1.1.1.1.1.0
each_within job all _ = refl

option_or-none : {A : Type 0} (first second : Option A) → option_or first second ≡ None → (first ≡ None) × (second ≡ None)
option_or-none None second h = (refl, h)
option_or-none (Some x) second h = cc

no_limit_past : (job : Request) → IsAcceptable job → (first_param_past job ≡ None) × (first_other_past job ≡ None)
no_limit_past job accepted = option_or-none _ _ (is_none-none _ (both_true _ _ accepted).1)

kept : (job : Request) → IsAcceptable job → (field : JobField) → is_past job field ≡ false
kept job accepted = each_within job (all_within job (no_limit_past job accepted).1)

-- the parameters keep their limits, for a command that uses them
pub params_kept : (job : Request) → IsAcceptable job → need_of B job.command ≡ Needed → first_past (params_of job) ≡ None
params_kept job accepted needed = known (need_of B job.command) (first_past (params_of job)) needed (no_limit_past job accepted).0
  where
    known : {A : Type 0} (need : Need) (past : Option A) → need ≡ Needed → cond (is_used need) past None ≡ None → past ≡ None
    known Unused past needed none = cc
    known Optional past needed none = none
    known Needed past needed none = none

is_kept : (least greatest number : ℕ) → not (is_from number least greatest) ≡ false → (least ≤ number) × (number ≤ greatest)
is_kept least greatest number past =
    let tests = both_true (nat_le least number) (nat_le number greatest) (not-false _ past) in
    (leb-true _ _ tests.0, leb-true _ _ tests.1)

-- a number is within the limits of its row
pub within : (job : Request) → IsAcceptable job → (field : JobField) (number : ℕ) → Some number ≡ number_at job field → IfSome (limits_of field) (λ limits. (limits.least ≤ number) × (number ≤ limits.greatest))
within job accepted field number is = known (limits_of field) (subst (λ found. option_map_or (is_outside found) (limits_of field) false ≡ false) (sym is) (kept job accepted field))
  where
    known : (limits : Option Limits) → option_map_or (is_outside (Some number)) limits false ≡ false → IfSome limits (λ limits. (limits.least ≤ number) × (number ≤ limits.greatest))
    known None past = tt
    known (Some limits) past = is_kept limits.least limits.greatest number past

-- the limits of a row are numbers of 32 bits
small_limits : (field : JobField) → IfSome (limits_of field) (λ limits. limits.greatest < 2 ^ 32)
small_limits M = omega arith
small_limits T = omega arith
small_limits Records = omega arith
small_limits Crowds = omega arith
small_limits Form = omega arith
small_limits Epoch = omega arith
small_limits Shares = omega arith
small_limits _ = tt

pub small : (job : Request) → IsAcceptable job → (field : JobField) (number : ℕ) → IsSome (limits_of field) → Some number ≡ number_at job field → number < 2 ^ 32
small job accepted field number limited is = known (limits_of field) limited (within job accepted field number is) (small_limits field)
  where
    known : (limits : Option Limits) → IsSome limits → IfSome limits (λ limits. (limits.least ≤ number) × (number ≤ limits.greatest)) → IfSome limits (λ limits. limits.greatest < 2 ^ 32) → number < 2 ^ 32
    known None limited inside few = cc
    known (Some limits) limited inside few = omega (arith, inside.1, few)

-- ---- what a value is read from

pub is_some-before : {A B : Type 0} (f : A → B) (found : Option A) (seen : Option B) → option_map f found ≡ seen → IsSome seen → IsSome found
is_some-before f None seen is some = ap is_some is ∙ some
is_some-before f (Some x) seen is some = refl

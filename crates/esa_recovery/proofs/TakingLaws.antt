-- The records of a run, taken one after another.
use Rattle.std.proofs.Common.{◌≡◌, ℕ, ◌+◌, ◌<◌, ◌≤◌, List, [], ◌∷◌, length, take, drop, get_or, slice_index, refl, sym, ap, subst, ◌∙◌, arith}
use Rattle.std.specs.Prelude.{All}
use Rattle.std.proofs.lemmas.List.{drop_all, drop_more}
use Rattle.esa_recovery.specs.declared.group.Group.{Group}
use Rattle.esa_recovery.specs.declared.members.Member.{Member}
use Rattle.esa_recovery.specs.Meaning.{group_of, needed}
use Rattle.esa_recovery.specs.Members.{value_at, IsMember, values_at}
use Rattle.esa_recovery.specs.Group.{GroupHas, given_back, opening_of, taken_with}
use Rattle.esa_recovery.proofs.FirstLaws.{chosen, chosen-more, chosen-all}
use Rattle.esa_recovery.proofs.GroupLaws.{share_tests}

-- those taken so far and those to come are the ones that open the group
abbrev pub Taking : List (List ℕ × ℕ) → List Member → List ℕ → ℕ → Group → Type 0
Taking rows run key i kept = (taken : List (List ℕ)) × GroupHas key taken kept × (chosen key taken (values_at rows (drop i run)) ≡ chosen key [] (values_at rows run))

pub taking-none : (rows : List (List ℕ × ℕ)) (run : List Member) (key : List ℕ) (kept : Group) → GroupHas key [] kept → Taking rows run key 0 kept
taking-none rows run key kept none = ([], none, refl)

pub taking-more : (rows : List (List ℕ × ℕ)) (run : List Member) (key : List ℕ) → All (IsMember rows) run → All (λ (member : Member). member.group ≡ key) run
    → (i : ℕ) (e : Member) (value : List ℕ) → i < length run → value ≡ value_at rows (get_or run i e).row → (old new : Group)
    → ((taken : List (List ℕ)) → GroupHas (group_of value) taken old → GroupHas (group_of value) (taken_with (group_of value) taken value) new)
    → Taking rows run key i old → Taking rows run key (i + 1) new
taking-more rows run key named one i e value inside is old new take before =
    let own : key ≡ group_of value = sym (one i e inside) ∙ (named i e inside).group ∙ ap group_of (sym is) in
    let front : values_at rows (drop i run) ≡ value ∷ values_at rows (drop (i + 1) run) =
    ap (values_at rows) (drop_more run i e inside) ∙ ap (λ first. first ∷ values_at rows (drop (i + 1) run)) (sym is) in
    let now = subst (λ g. (taken : List (List ℕ)) → GroupHas g taken old → GroupHas g (taken_with g taken value) new) (sym own) take in (
      taken_with key before.0 value,
      now before.0 before.1,
      chosen-more key before.0 value (values_at rows (drop (i + 1) run)) ∙ sym (ap (chosen key before.0) front) ∙ before.2,
    )

pub taking-all : (rows : List (List ℕ × ℕ)) (run : List Member) (key : List ℕ) (i : ℕ) (kept : Group) → length run ≤ i → (taking : Taking rows run key i kept)
    → opening_of key taking.0 ≡ given_back key (values_at rows run)
taking-all rows run key i kept end taking =
    ap (opening_of key) (sym (chosen-all key taking.0 taking.1.few) ∙ sym (ap (λ left. chosen key taking.0 (values_at rows left)) (drop_all i run end)) ∙ taking.2)

-- the group of a run is that of a share record
pub run-key : (rows : List (List ℕ × ℕ)) (run : List Member) (key : List ℕ) → 0 < length run → All (IsMember rows) run → All (λ (member : Member). member.group ≡ key) run
    → (0 < needed key) × (19 < slice_index key 1)
run-key rows run key some named one =
    let d : Member = record { group = []; row = 0 } in
    let value = value_at rows (get_or run 0 d).row in
    let is = named 0 d some in
    let tests = share_tests value is.share in
    let group : group_of value ≡ key = sym is.group ∙ one 0 d some in
    (subst (λ g. 0 < needed g) group (omega (arith, tests.needs)), subst (λ g. 19 < slice_index g 1) group tests.long)

-- Small shuffles whose every number is known. The cases are named after what they show.
use Rattle.std.specs.Prelude.{ℕ, zero, suc, ◌+◌, ◌*◌, List, [], ◌∷◌, slice_range}
use Rattle.esa_params.specs.Sizes.{Sizes, first, below}
use Rattle.esa_params.specs.declared.form.Form.TheVariants.{One}
use Rattle.esa_params.specs.declared.slot.Region.{Region}
use Rattle.esa_params.specs.declared.slot.Region.TheVariants.{Input, Mid, Tail, Output}
use Rattle.esa_params.specs.declared.slot.Op.{Op}
use Rattle.esa_params.specs.declared.slot.Op.TheVariants.{Read, Write}
use Rattle.esa_params.specs.declared.slot.Access.{Access}
use Rattle.esa_spec.specs.Draws.{Draw}
use Rattle.esa_spec.specs.Completion.{full}

-- targets by place, and every order as it stands
abbrev pub draw_of : Sizes → List ℕ → Draw
draw_of p targets = record {
  targets = λ j. slice_range targets (first p j) (first p (j + 1));
  order = λ i. below (p.b * p.c + p.k);
}

-- the same with another order for the target 0
abbrev pub first_order : List ℕ → (ℕ → List ℕ) → ℕ → List ℕ
first_order own others zero = own
first_order own others (suc i) = others (suc i)

abbrev pub ordered_draw : Sizes → List ℕ → List ℕ → Draw
ordered_draw p targets own = record (draw_of p targets) { order = first_order own (draw_of p targets).order }

-- four records in two buckets, whose stash and queue are never full
abbrev pub base : Sizes
base = record { n = 4; b = 2; c = 1; s = 2; k = 1; w = 2; q = 4; workers = 1; attempts = 1; form = One }

abbrev pub base_targets : List ℕ
base_targets = 0 ∷ 0 ∷ 1 ∷ 0 ∷ []

-- two chunks of two, and no stash
abbrev pub no_stash : Sizes
no_stash = record base { c = 2; s = 0; k = 0 }

-- the turns of an attempt for which none were handed in
abbrev pub completed_from_none : Sizes → List ℕ → List ℕ
completed_from_none p targets = full p (draw_of p targets) []

-- an access, by its fields in the order of a trace file
abbrev pub accessed : Op → Region → ℕ → ℕ → ℕ → ℕ → Access
accessed op region attempt index length nonce = record { op = op; region = region; index = index; length = length; nonce = nonce; attempt = attempt }

-- the accesses of `base`: the load, bucket 0, bucket 1, the tails, the imports, the output, and two scans of it
abbrev pub base_trace : List Access
base_trace =
    accessed Write Input 0 0 392 0
    ∷ accessed Write Input 0 1 392 1
    ∷ accessed Read Input 0 0 392 0
    ∷ accessed Write Mid 0 0 177 2
    ∷ accessed Write Mid 0 1 177 3
    ∷ accessed Read Input 0 1 392 1
    ∷ accessed Write Mid 0 2 177 4
    ∷ accessed Write Mid 0 3 177 5
    ∷ accessed Write Tail 0 0 177 6
    ∷ accessed Write Tail 0 1 177 7
    ∷ accessed Read Mid 0 0 177 2
    ∷ accessed Read Mid 0 2 177 4
    ∷ accessed Read Tail 0 0 177 6
    ∷ accessed Read Mid 0 1 177 3
    ∷ accessed Read Mid 0 3 177 5
    ∷ accessed Read Tail 0 1 177 7
    ∷ accessed Write Output 0 0 314 8
    ∷ accessed Write Output 0 1 314 9
    ∷ accessed Read Output 0 0 314 8
    ∷ accessed Read Output 0 1 314 9
    ∷ accessed Read Output 0 0 314 8
    ∷ accessed Read Output 0 1 314 9
    ∷ []

-- what two attempts draw, where the first takes one list of targets and the others take another
abbrev pub two_draws : Sizes → List ℕ → List ℕ → ℕ → Draw
two_draws p one other zero = draw_of p one
two_draws p one other (suc a) = draw_of p other

abbrev pub nonce : Access → ℕ
nonce access = access.nonce

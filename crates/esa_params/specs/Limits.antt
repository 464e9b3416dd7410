-- The limits of the parameters of a shuffle, in the order in which they are looked at.
use Rattle.std.specs.Prelude.{ℕ, Bool, true, ◌&&◌, not, nat_le, Option, List, [], ◌∷◌, find}
use Rattle.esa_params.specs.Numbers.{Numbers, middle}
use Rattle.esa_params.specs.declared.field.ParamField.{ParamField}
use Rattle.esa_params.specs.declared.field.ParamField.TheVariants.{B, C, S, K, W, Q, Mid, Workers, Attempts}
use Rattle.esa_params.specs.declared.params.Params.{Params}

-- the number is from a least to a greatest one
abbrev pub is_from : ℕ → ℕ → ℕ → Bool
is_from x least greatest = nat_le least x && nat_le x greatest

-- this number of the parameters keeps its limits
abbrev pub is_kept : Params → ParamField → Bool
is_kept p B = is_from p.b 1 256
is_kept p C = is_from p.c 1 1024
is_kept p S = is_from p.s 0 262144
is_kept p K = is_from p.k 0 4096
is_kept p W = is_from p.w 1 p.b
is_kept p Q = is_from p.q 1 1048576
is_kept p Mid = is_from (middle p.b p.c p.k) 0 4194304
is_kept p Workers = is_from p.workers 1 16
is_kept p Attempts = is_from p.attempts 1 16
is_kept p _ = true

-- the numbers that have limits here, in their order
abbrev pub limited : List ParamField
limited = B ∷ C ∷ S ∷ K ∷ W ∷ Q ∷ Mid ∷ Workers ∷ Attempts ∷ []

-- the first number that is past its limits
abbrev pub first_past : Params → Option ParamField
first_past p = find (λ field. not (is_kept p field)) limited

-- the parameters as plain numbers
abbrev pub numbers_of : Params → Numbers
numbers_of p = record { b = p.b; c = p.c; s = p.s; k = p.k; w = p.w; q = p.q; workers = p.workers; attempts = p.attempts }

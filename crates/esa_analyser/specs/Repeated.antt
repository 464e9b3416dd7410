-- Sort keys with how often each was reported.
use Rattle.std.specs.Prelude.{ℕ, ◌*◌, ◌<◌, List, flat_map, replicate}
use Rattle.std.specs.List.{sum_by}
use Rattle.esa_analyser.specs.declared.repeated.Repeated.{Repeated}
use Rattle.esa_analyser.specs.SortKey.{key_value, IsSortKey}

-- each key, as often as it was reported
abbrev pub all_keys : {P : ℕ} → List (Repeated P) → List (List ℕ)
all_keys list = flat_map (λ repeated. replicate repeated.times repeated.key) list

-- the sum of f over the values, each as often as it was reported
abbrev pub weighed : {P : ℕ} → (List ℕ → ℕ) → List (Repeated P) → ℕ
weighed f list = sum_by (λ repeated. repeated.times * f (key_value repeated.key)) list

-- the key is one of reports of the length P, and it was reported
pub record IsRepeated {P : ℕ} (repeated : Repeated P) : Type 0 where
  pub key : IsSortKey P repeated.key
  pub some : 0 < repeated.times

-- Places that keys name.
use Rattle.std.specs.Prelude.{ℕ, ◌<◌, List, All}
use Rattle.esa_batcher.specs.declared.arrange.Key.{Key}

-- each key names one of so many places
abbrev pub ArePlaces : ℕ → List Key → Type 0
ArePlaces number keys = All (λ key. key.place < number) keys

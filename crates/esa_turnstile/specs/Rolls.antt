-- A roll, as a list and its room.
use Rattle.std.specs.Prelude.{ℕ, List, vec_capacity}
use Rattle.esa_turnstile.specs.declared.roll.Roll.{Roll}

abbrev pub entries_in : Roll → List ℕ
entries_in r = r.entries.items

abbrev pub room_in : Roll → ℕ
room_in r = vec_capacity r.entries

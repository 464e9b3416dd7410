-- What a cabinet gave or took, and what a printer printed: one event for each call that didn't fail, in order.
use Rattle.std.specs.Prelude.{ℕ, List, ◌++◌, Result, Ok, Err, ◌⊎◌, ◌≡◌, refl}
use Rattle.std.proofs.Common.{inl, inr}
use Rattle.std.specs.Coded.{Coded, code_by, coded×, coded⊎, coded_list, coded_ℕ}

-- A file was told to have this length; bytes of it were given from a place on; it was started, and is empty; bytes were
-- added at its end; a text was printed with its newline.
pub data Event : Type 0 where
  length_of : List ℕ → ℕ → Event
  part_of : List ℕ → ℕ → List ℕ → Event
  started : List ℕ → Event
  added : List ℕ → List ℕ → Event
  printed : List ℕ → Event

-- the events after a call that adds these, unless it failed
abbrev pub after : {T E : Type 0} → List Event → (T → List Event) → Result T E → List Event
after heard events (Ok value) = heard ++ events value
after heard events (Err error) = heard

abbrev Parts : Type 0
Parts = (List ℕ × ℕ) ⊎ ((List ℕ × (ℕ × List ℕ)) ⊎ (List ℕ ⊎ ((List ℕ × List ℕ) ⊎ List ℕ)))

abbrev to_parts : Event → Parts
to_parts (length_of name n) = inl (name, n)
to_parts (part_of name at bytes) = inr (inl (name, (at, bytes)))
to_parts (started name) = inr (inr (inl name))
to_parts (added name bytes) = inr (inr (inr (inl (name, bytes))))
to_parts (printed text) = inr (inr (inr (inr text)))

abbrev from_parts : Parts → Event
from_parts (inl p) = length_of p.0 p.1
from_parts (inr (inl p)) = part_of p.0 p.1.0 p.1.1
from_parts (inr (inr (inl name))) = started name
from_parts (inr (inr (inr (inl p)))) = added p.0 p.1
from_parts (inr (inr (inr (inr text)))) = printed text

pub from_parts-to_parts : (event : Event) → from_parts (to_parts event) ≡ event
from_parts-to_parts (length_of name n) = refl
from_parts-to_parts (part_of name at bytes) = refl
from_parts-to_parts (started name) = refl
from_parts-to_parts (added name bytes) = refl
from_parts-to_parts (printed text) = refl

abbrev pub event_code : Coded Event
event_code =
    code_by Parts
    (coded⊎ (coded× (coded_list coded_ℕ) coded_ℕ) (coded⊎ (coded× (coded_list coded_ℕ) (coded× coded_ℕ (coded_list coded_ℕ))) (coded⊎ (coded_list coded_ℕ) (coded⊎ (coded× (coded_list coded_ℕ) (coded_list coded_ℕ)) (coded_list coded_ℕ)))))
    to_parts from_parts from_parts-to_parts

abbrev pub heard_code : Coded (List Event)
heard_code = coded_list event_code

-- The lines of a history are the turns file of its lists.
use Rattle.std.proofs.Common.{◌≡◌, ℕ, ◌+◌, ◌-◌, ◌≤◌, ◌<◌, false, inl, inr, List, [], ◌∷◌, ◌++◌, length, take, drop, flat_map, get_or, All, refl, sym, ap, subst, ◌∙◌, append_assoc, append-nil, arith}
use Rattle.std.specs.Prelude.{◌==◌}
use Rattle.std.specs.List.{slice_split, onto_first}
use Rattle.std.proofs.lemmas.Bool.{cases_Bool, cond-true, cond-false}
use Rattle.std.proofs.lemmas.List.{length-append, drop_more}
use Rattle.std.proofs.lemmas.List.Concat.{flat_map-append}
use Rattle.std.proofs.lemmas.List.Elements.{All-nil, All-cons, All-head, All-tail, All-take, All-drop}
use Rattle.std.proofs.Math.Seq.{take-append-add}
use Rattle.esa_spec.specs.Files.{turn_line, next_line, turns_bytes}
use Rattle.esa_spec.specs.Histories.{parts, lists}
use Rattle.esa_taking.specs.StoredTurns.{entry_line, inner, IsHistory}

module _ (owner : ℕ) where
  -- the entry is a turn
  abbrev IsTurn : ℕ → Type 0
  IsTurn entry = (entry == owner) ≡ false

  onto : (entry : ℕ) (lists : List (List ℕ)) → IsTurn entry → All (All IsTurn) lists → All (All IsTurn) (onto_first entry lists)
  onto entry [] turn all = All-cons (All IsTurn) (entry ∷ []) [] (All-cons IsTurn entry [] turn (All-nil IsTurn)) (All-nil (All IsTurn))
  onto entry (part ∷ parts) turn all =
      All-cons (All IsTurn) (entry ∷ part) parts (All-cons IsTurn entry part turn (All-head (All IsTurn) part parts all)) (All-tail (All IsTurn) part parts all)

  -- no part has an entry of the owner
  part_turns : (history : List ℕ) → All (All IsTurn) (slice_split (λ entry. entry == owner) history)
  part_turns [] = All-cons (All IsTurn) [] [] (All-nil IsTurn) (All-nil (All IsTurn))
  part_turns (entry ∷ history) =
      let rest = part_turns history in
      elim (cases_Bool (entry == owner)) [
        | inl same ↦ subst (All (All IsTurn)) (sym (cond-true (entry == owner) _ _ same)) (All-cons (All IsTurn) [] _ (All-nil IsTurn) rest)
        | inr other ↦ subst (All (All IsTurn)) (sym (cond-false (entry == owner) _ _ other)) (onto entry _ other rest)
      ]

  list_turns : (history : List ℕ) → All (All IsTurn) (lists owner history)
  list_turns history = All-take (All IsTurn) (length (parts owner history) - 2) (drop 1 (parts owner history)) (All-drop (All IsTurn) 1 (parts owner history) (part_turns history))

  -- the lines of turns
  turn_lines : (h : List ℕ) → All IsTurn h → flat_map (entry_line owner) h ≡ flat_map turn_line h
  turn_lines [] turns = refl
  turn_lines (entry ∷ h) turns =
      (λ i. cond-false (entry == owner) next_line (turn_line entry) (All-head IsTurn entry h turns) i ++ turn_lines h (All-tail IsTurn entry h turns) i)

  owner_line : entry_line owner owner ≡ next_line
  owner_line = cond-true (owner == owner) next_line (turn_line owner) (grind arith)

  abbrev with_owner : List ℕ → List ℕ
  with_owner h = h ++ owner ∷ []

  -- all but the last entry
  abbrev front : List ℕ → List ℕ
  front entries = take (length entries - 1) entries

  front-append : (h rest : List ℕ) → 1 ≤ length rest → front (h ++ rest) ≡ h ++ front rest
  front-append h rest some =
      let long : length (h ++ rest) - 1 ≡ length h + (length rest - 1) = omega (arith, length-append h rest, some) in
      ap (λ n. take n (h ++ rest)) long ∙ take-append-add h rest (length rest - 1)

  some_entries : (h : List ℕ) (more : List (List ℕ)) → 1 ≤ length (flat_map with_owner (h ∷ more))
  some_entries h more = omega (arith, length-append (with_owner h) (flat_map with_owner more), length-append h (owner ∷ []))

  lines : (hs : List (List ℕ)) → All (All IsTurn) hs → flat_map (entry_line owner) (front (flat_map with_owner hs)) ≡ turns_bytes hs
  lines [] turns = refl
  lines (h ∷ []) turns =
      ap (λ xs. flat_map (entry_line owner) (front xs)) (append-nil (with_owner h))
      ∙ ap (flat_map (entry_line owner)) (front-append h (owner ∷ []) (omega arith) ∙ append-nil h)
      ∙ turn_lines h (All-head (All IsTurn) h [] turns)
  lines (h ∷ other ∷ more) turns =
      let rest = flat_map with_owner (other ∷ more) in
      let some : 1 ≤ length (owner ∷ rest) = omega arith in
      let parts : front (with_owner h ++ rest) ≡ h ++ ((owner ∷ []) ++ front rest) =
      ap front (append_assoc h (owner ∷ []) rest) ∙ front-append h (owner ∷ rest) some ∙ ap (λ xs. h ++ xs) (front-append (owner ∷ []) rest (some_entries other more)) in
      ap (flat_map (entry_line owner)) parts
      ∙ flat_map-append (entry_line owner) h ((owner ∷ []) ++ front rest)
      ∙ (λ i. turn_lines h (All-head (All IsTurn) h (other ∷ more) turns) i ++ (owner_line i ++ lines (other ∷ more) (All-tail (All IsTurn) h (other ∷ more) turns) i))
      ∙ sym (append_assoc (flat_map turn_line h) next_line (turns_bytes (other ∷ more)))

  pub history_lines : (history : List ℕ) → IsHistory owner history → flat_map (entry_line owner) (inner history) ≡ turns_bytes (lists owner history)
  history_lines history is =
      let hs = lists owner history in
      let rest = flat_map with_owner hs in
      let cut : inner (owner ∷ rest) ≡ front rest = ap (λ n. take n rest) (omega arith) in
      ap (λ xs. flat_map (entry_line owner) (inner xs)) is ∙ ap (flat_map (entry_line owner)) cut ∙ lines hs (list_turns history)

-- one entry further
pub entry_step : (owner : ℕ) (whole entries : List ℕ) (i : ℕ) (d entry : ℕ) (done : List ℕ) → whole ≡ done ++ flat_map (entry_line owner) (drop i entries) → i < length entries → entry ≡ get_or entries i d
    → whole ≡ (done ++ entry_line owner entry) ++ flat_map (entry_line owner) (drop (i + 1) entries)
entry_step owner whole entries i d entry done so_far below entry_is =
    so_far
    ∙ ap (λ rest. done ++ flat_map (entry_line owner) rest) (drop_more entries i d below)
    ∙ ap (λ x. done ++ (entry_line owner x ++ flat_map (entry_line owner) (drop (i + 1) entries))) (sym entry_is)
    ∙ sym (append_assoc done (entry_line owner entry) (flat_map (entry_line owner) (drop (i + 1) entries)))

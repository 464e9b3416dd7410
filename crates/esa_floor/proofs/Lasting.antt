-- What the writes of a run took stays the block of their accesses, whatever entries the history gets.
use Rattle.std.proofs.Common.{◌≡◌, ◌≢◌, ℕ, zero, suc, ◌+◌, ◌-◌, ◌/◌, ◌%◌, ◌<◌, ◌≤◌, List, [], ◌∷◌, ◌++◌, length, map, drop, get_or, Option, Some, None, refl, sym, ap, ◌∙◌, subst, arith, inl, inr, ◌⊎◌}
use Rattle.std.specs.Prelude.{flat_map, slice_range, ◌==◌}
use Rattle.std.proofs.lemmas.Bool.{cases_lt}
use Rattle.std.proofs.lemmas.List.{get_or-drop, get_or-take, get_or_past, get_or_push}
use Rattle.std.proofs.lemmas.List.Splits.{length-slice_split}
use Rattle.esa_envelope.specs.declared.keys.Keys.{Keys}
use Rattle.esa_laws.proofs.ExchangeLaws.{exchange-in, exchange-new}
use Rattle.esa_laws.proofs.GrownLaws.{chunk-kept}
use Rattle.esa_laws.proofs.HistoryLaws.{begun-owner, begun-worker, latest-owner, latest-worker, length-lists, lists-owner, lists-worker}
use Rattle.esa_laws.proofs.PermLaws.{occurrences, occurs-append}
use Rattle.esa_laws.proofs.TurnLaws.{order-push}
use Rattle.esa_params.specs.Sizes.{Sizes, below, first}
use Rattle.esa_params.specs.Slots.{at, item_length}
use Rattle.esa_params.specs.declared.slot.Access.{Access}
use Rattle.esa_params.specs.declared.slot.Region.{Region}
use Rattle.esa_params.specs.declared.slot.Region.TheVariants.{Input, Mid, Tail, Output}
use Rattle.esa_report.specs.declared.item.Item.{Item}
use Rattle.esa_spec.specs.Draws.{Draw}
use Rattle.esa_spec.specs.Fronts.{items_at}
use Rattle.esa_spec.specs.Histories.{begun, latest, lists, parts}
use Rattle.esa_spec.specs.Lines.{backlog, tail}
use Rattle.esa_spec.specs.Places.{arranged}
use Rattle.esa_spec.specs.Turns.{exchanged, next, order}
use Rattle.esa_stash.specs.Stash.{padded}
use Rattle.esa_vault.specs.Filled.{text_of}
use Rattle.esa_vault.specs.Seals.{sealed_block}
use Rattle.esa_floor.specs.Parts.{Parts}
use Rattle.esa_floor.specs.Standing.{attempt_begun, lists_before, turns_made}
use Rattle.esa_floor.specs.Written.{AreExchanged, IsBlock, attempt_turns, block_items}
use Rattle.esa_floor.proofs.Spreading.{order-same}

-- where the turns of an attempt stand in a history
module _ (owner : ℕ) (history : List ℕ) where
  abbrev pub turns_at : ℕ → List ℕ
  turns_at a = get_or (parts owner history) (a + 1) []

  many : length (parts owner history) ≡ begun owner history + 1
  many = length-slice_split (λ entry. entry == owner) history

  at_end : (a : ℕ) → a + 1 ≡ begun owner history → turns_at a ≡ latest owner history
  at_end a last =
      let long = many in
      let is : a + 1 ≡ length (parts owner history) - 1 = omega (arith, long, last) in
      ap (λ (k : ℕ). get_or (parts owner history) k []) is

  before_end : (a : ℕ) → a + 1 < begun owner history → turns_at a ≡ get_or (lists owner history) a []
  before_end a sooner =
      let long = many in
      let one : 1 + a ≡ a + 1 = omega arith in
      ap (λ (k : ℕ). get_or (parts owner history) k []) (sym one)
      ∙ sym (get_or-drop 1 (parts owner history) a [])
      ∙ sym (get_or-take (length (parts owner history) - 2) (drop 1 (parts owner history)) a [] (omega (arith, long, sooner)))

  behind_end : (a : ℕ) → begun owner history ≤ a → turns_at a ≡ []
  behind_end a later = let long = many in get_or_past (parts owner history) (a + 1) [] (omega (arith, long, later))

-- an entry of the owner changes the turns of no attempt
pub turns-owner : (owner : ℕ) (history : List ℕ) (a : ℕ) → turns_at owner (history ++ owner ∷ []) a ≡ turns_at owner history a
turns-owner owner history a =
    let now = history ++ owner ∷ [] in
    let more = begun-owner owner history in
    elim (cases_lt (a + 1) (begun owner history)) [
      | inl sooner ↦
          let some : 1 ≤ begun owner history = omega (arith, sooner) in
          before_end owner now a (omega (arith, sooner, more))
          ∙ ap (λ (ls : List (List ℕ)). get_or ls a []) (lists-owner owner history some)
          ∙ get_or_before (lists owner history) (latest owner history) a (let long = length-lists owner history in omega (arith, long, sooner))
          ∙ sym (before_end owner history a sooner)
      | inr past ↦ elim (cases_lt (begun owner history) (a + 1)) [
        | inl beyond ↦ none_there a beyond ∙ sym (behind_end owner history a (omega (arith, beyond)))
        | inr least ↦
            let last : a + 1 ≡ begun owner history = omega (arith, past, least) in
            let some : 1 ≤ begun owner history = omega (arith, last) in
            before_end owner now a (omega (arith, last, more))
            ∙ ap (λ (ls : List (List ℕ)). get_or ls a []) (lists-owner owner history some)
            ∙ get_or_push (lists owner history) (latest owner history) [] a (let long = length-lists owner history in omega (arith, long, last))
            ∙ sym (at_end owner history a last)
      ]
    ]
  where
    get_or_before : (xs : List (List ℕ)) (x : List ℕ) (k : ℕ) → k < length xs → get_or (xs ++ x ∷ []) k [] ≡ get_or xs k []
    get_or_before [] x k inside = absurd (omega arith)
    get_or_before (y ∷ xs) x zero inside = refl
    get_or_before (y ∷ xs) x (suc k) inside = get_or_before xs x k (omega arith)

    none_there : (a : ℕ) → begun owner history < a + 1 → turns_at owner (history ++ owner ∷ []) a ≡ []
    none_there a beyond =
        let more = begun-owner owner history in
        elim (cases_lt (begun owner history) a) [
          | inl far ↦ behind_end owner (history ++ owner ∷ []) a (omega (arith, far, more))
          | inr near ↦ at_end owner (history ++ owner ∷ []) a (omega (arith, near, beyond, more)) ∙ latest-owner owner history
        ]

-- turns as they were, or with one turn more
abbrev pub GoOn : ℕ → List ℕ → List ℕ → Type 0
GoOn n before now = (now ≡ before) ⊎ (now ≡ before ++ n ∷ [])

pub turns-worker : (owner : ℕ) (history : List ℕ) (n : ℕ) → n ≢ owner → (a : ℕ) → GoOn n (turns_at owner history a) (turns_at owner (history ++ n ∷ []) a)
turns-worker owner history n worker a =
    let now = history ++ n ∷ [] in
    let same = begun-worker owner history n worker in
    elim (cases_lt (a + 1) (begun owner history)) [
      | inl sooner ↦ inl (before_end owner now a (omega (arith, sooner, same))
          ∙ ap (λ (ls : List (List ℕ)). get_or ls a []) (lists-worker owner history n worker) ∙ sym (before_end owner history a sooner))
      | inr past ↦ elim (cases_lt (begun owner history) (a + 1)) [
        | inl beyond ↦ inl (behind_end owner now a (omega (arith, beyond, same)) ∙ sym (behind_end owner history a (omega (arith, beyond))))
        | inr least ↦
            let last : a + 1 ≡ begun owner history = omega (arith, past, least) in
            inr (at_end owner now a (omega (arith, last, same)) ∙ latest-worker owner history n worker
            ∙ ap (λ (h : List ℕ). h ++ n ∷ []) (sym (at_end owner history a last)))
      ]
    ]

-- the turns of an attempt that is not the latest are stored
pub turns-stored : {V : Type 0} (f : Parts V) (a : ℕ) → a < length (lists_before f) → attempt_turns f a ≡ get_or (lists_before f) a []
turns-stored f a inside =
    let long = length-lists f.plan.workers f.history in
    before_end f.plan.workers f.history a (omega (arith, long, inside))

-- the turns of the attempt that was begun last
pub turns-made : {V : Type 0} (f : Parts V) → 1 ≤ begun f.plan.workers f.history → attempt_turns f (attempt_begun f) ≡ turns_made f
turns-made f some = at_end f.plan.workers f.history (attempt_begun f) (omega (arith, some))

-- one turn more
module _ (p : Sizes) (d : Draw) (h : List ℕ) (n : ℕ) where
  abbrev h_now : List ℕ
  h_now = h ++ n ∷ []

  still_exchanged : (j : ℕ) → 1 ≤ occurrences j (order p.b h) → 1 ≤ occurrences j (order p.b h_now)
  still_exchanged j some =
      let longer = ap (occurrences j) (order-push p.b h n) ∙ occurs-append j (order p.b h) _ in
      omega (arith, longer, some)

  pub exchanged_on : (region : Region) (index : ℕ) → AreExchanged p h region index → AreExchanged p h_now region index
  exchanged_on Input index there = tt
  exchanged_on Mid index there = still_exchanged (index / p.b) there
  exchanged_on Tail index there = λ j inside. still_exchanged j (there j inside)
  exchanged_on Output index there = λ j inside. still_exchanged j (there j inside)

  -- where all buckets were exchanged, none is left to exchange
  no_more : ((j : ℕ) → j < p.b → 1 ≤ occurrences j (order p.b h)) → order p.b h_now ≡ order p.b h
  no_more there = order-same p.b h n (none (exchanged (next p.b h n)) refl)
    where
      none : (o : Option ℕ) → exchanged (next p.b h n) ≡ o → exchanged (next p.b h n) ≡ None
      none None is = is
      none (Some j) is =
          let inside = exchange-in p.b h n j is in
          let new = exchange-new p.b h n j is in
          let some = there j inside in
          absurd (omega (arith, new, some))

  pub counts_on : (region : Region) (index : ℕ) → AreExchanged p h region index → items_at p d (order p.b h) region index ≡ items_at p d (order p.b h_now) region index
  counts_on Input index there = refl
  counts_on Mid index there = ap length (sym (chunk-kept p d h (n ∷ []) (index / p.b) (index % p.b) there))
  counts_on Tail index there = ap (λ (o : List ℕ). backlog p d o p.b index) (sym (no_more there))
  counts_on Output index there = refl

  -- it changes neither of what was exchanged, nor how many items of it there are
  pub exchanged_goes_on : (region : Region) (index : ℕ) (now : List ℕ) → GoOn n h now → AreExchanged p h region index
      → AreExchanged p now region index × (items_at p d (order p.b h) region index ≡ items_at p d (order p.b now) region index)
  exchanged_goes_on region index now (inl same) there = (
    subst (λ (g : List ℕ). AreExchanged p g region index) (sym same) there,
    ap (λ (g : List ℕ). items_at p d (order p.b g) region index) (sym same),
  )
  exchanged_goes_on region index now (inr more) there = (
    subst (λ (g : List ℕ). AreExchanged p g region index) (sym more) (exchanged_on region index there),
    counts_on region index there ∙ ap (λ (g : List ℕ). items_at p d (order p.b g) region index) (sym more),
  )

-- nor what items
module _ (p : Sizes) (d : Draw) (record_of : ℕ → Item) (h : List ℕ) (n : ℕ) where
  pub items_on : (region : Region) (index : ℕ) → AreExchanged p h region index → block_items p d record_of h region index ≡ block_items p d record_of (h ++ n ∷ []) region index
  items_on Input index there = refl
  items_on Mid index there = ap (λ (xs : List ℕ). padded p.c (map record_of xs)) (sym (chunk-kept p d h (n ∷ []) (index / p.b) (index % p.b) there))
  items_on Tail index there = ap (λ (o : List ℕ). padded p.k (map record_of (tail p d o index))) (sym (no_more p d h n there))
  items_on Output index there =
      ap (λ (o : List ℕ). map record_of (slice_range (flat_map (arranged p d o) (below p.b)) (first p index) (first p (index + 1)))) (sym (no_more p d h n there))

  pub block_on : (run : Keys) (access : Access) (bytes : List ℕ) → IsBlock p run d record_of h access bytes → IsBlock p run d record_of (h ++ n ∷ []) access bytes
  block_on run access bytes is = record {
    exchanged = exchanged_on p d h n access.region access.index is.exchanged;
    sealed = is.sealed
        ∙ ap (λ (items : List Item). sealed_block p run (at access.region access.index) access.attempt (text_of (item_length p.form) items))
        (items_on access.region access.index is.exchanged);
  }

  pub block_goes_on : (run : Keys) (access : Access) (bytes : List ℕ) (now : List ℕ) → GoOn n h now → IsBlock p run d record_of h access bytes → IsBlock p run d record_of now access bytes
  block_goes_on run access bytes now (inl same) is = subst (λ (g : List ℕ). IsBlock p run d record_of g access bytes) (sym same) is
  block_goes_on run access bytes now (inr more) is = subst (λ (g : List ℕ). IsBlock p run d record_of g access bytes) (sym more) (block_on run access bytes is)

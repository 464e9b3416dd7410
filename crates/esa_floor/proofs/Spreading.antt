-- What one turn more makes of the stash, the counts and what is counted.
use Rattle.std.proofs.Common.{◌≡◌, ◌≢◌, ℕ, ◌+◌, ◌<◌, ◌≤◌, min, false, Bool, List, [], ◌∷◌, ◌++◌, length, All, Some, None, sym, ap, ◌∙◌, subst, arith, inl, inr, append-nil}
use Rattle.std.specs.Prelude.{count_by, ◌==◌, nat_lt, if◌then◌else◌}
use Rattle.std.specs.Option.{option_to_list}
use Rattle.std.proofs.lemmas.Bool.{cases_Bool}
use Rattle.std.proofs.lemmas.Bool.Decides.{nat_tests}
use Rattle.esa_laws.proofs.ExchangeLaws.{exchange-new, exchange_of-push}
use Rattle.esa_laws.proofs.GrownLaws.{chunk-kept}
use Rattle.esa_laws.proofs.PermLaws.{occurrences, occurs-append, occurs-cons}
use Rattle.esa_laws.proofs.TurnLaws.{order-push}
use Rattle.esa_laws.proofs.VerdictLaws.{failing-none, failing-same}
use Rattle.esa_params.specs.Sizes.{Sizes, size}
use Rattle.esa_params.specs.Slots.{item_length}
use Rattle.esa_report.specs.declared.item.Item.{Item}
use Rattle.esa_spec.specs.Draws.{Draw}
use Rattle.esa_spec.specs.Lines.{backlog, chunk, overflows}
use Rattle.esa_spec.specs.Places.{exchange_of}
use Rattle.esa_spec.specs.Turns.{claims, exchanged, next, order, writes}
use Rattle.esa_stash.specs.Stash.{Held, count, queue_at, total}
use Rattle.esa_stash.specs.Stash as stash
use Rattle.esa_vault.specs.Placed.{IsHeld, IsSpelled}
use Rattle.esa_floor.specs.Exchanges.{AreOf}
use Rattle.esa_floor.specs.Parts.{Counted, count_at}
use Rattle.esa_floor.specs.Standing.{IsSpread}
use Rattle.esa_floor.proofs.Dealing.{queues_after}
use Rattle.esa_floor.proofs.Exchanging.{count_is, total_is, waits_after}

pub order-same : (b : ℕ) (h : List ℕ) (w : ℕ) → exchanged (next b h w) ≡ None → order b (h ++ w ∷ []) ≡ order b h
order-same b h w none = order-push b h w ∙ ap (λ e. order b h ++ option_to_list e) none ∙ append-nil (order b h)

pub order-more : (b : ℕ) (h : List ℕ) (w j : ℕ) → exchanged (next b h w) ≡ Some j → order b (h ++ w ∷ []) ≡ order b h ++ j ∷ []
order-more b h w j one = order-push b h w ∙ ap (λ e. order b h ++ option_to_list e) one

-- a turn that exchanges nothing
pub spread-other : (p : Sizes) (d : Draw) (h : List ℕ) (w : ℕ) (held : Held) (counts : List ℕ) (counted after : Counted)
    → exchanged (next p.b h w) ≡ None → IsSpread p d h held counts counted
    → after.claims ≡ min (claims p.b (h ++ w ∷ [])) p.b → after.writes ≡ writes p.b (h ++ w ∷ [])
    → IsSpread p d (h ++ w ∷ []) held counts after
spread-other p d h w held counts counted after none spread claimed wrote =
    let same = order-same p.b h w none in
    record {
      runs = failing-same p d h w none ∙ spread.runs;
      waits = λ i inside. spread.waits i inside ∙ ap (λ (o : List ℕ). backlog p d o (length o) i) (sym same);
      held = spread.held;
      spelled = spread.spelled;
      chunks = λ j i inside there.
          spread.chunks j i inside (subst (λ (o : List ℕ). 1 ≤ count_by (λ k. k == j) o) same there)
          ∙ ap (λ (o : List ℕ). length (chunk p d o (exchange_of o j) i)) (sym same);
      claims = claimed;
      writes = wrote;
    }

-- a bucket that isn't the one exchanged was exchanged before
before : (o : List ℕ) (j k : ℕ) → k ≢ j → 1 ≤ occurrences k (o ++ j ∷ []) → 1 ≤ occurrences k o
before o j k other there =
    let parts = occurs-append k o (j ∷ []) in
    let one = occurs-cons j k [] in
    let not : (j == k) ≡ false = grind (arith, nat_tests) in
    let none : occurrences k (j ∷ []) ≡ 0 = one ∙ ap (λ (b : Bool). (if b then 1 else 0) + 0) not in
    omega (arith, parts, none, there)

module _ (p : Sizes) (d : Draw) (h : List ℕ) (w j : ℕ) (held now : Held) (targets : List ℕ) (items : List Item) (counts after : List ℕ) (counted : Counted)
    (exchange : exchanged (next p.b h w) ≡ Some j) (spread : IsSpread p d h held counts counted)
    (of : AreOf p held counts) (drawn : length (d.targets j) ≡ size p j) (is : targets ≡ d.targets j) (each : length items ≡ length targets)
  where
    -- it overflows exactly where the stash would hold too much
    pub overflow_is : overflows p d (order p.b h ++ j ∷ []) (length (order p.b h)) ≡ nat_lt p.s (total (stash.exchanged held (targets, items)))
    overflow_is = ap (nat_lt p.s) (sym (total_is p d (order p.b h) j held targets items counts of drawn is each spread.waits))

    module _ (fits : total (stash.exchanged held (targets, items)) ≤ p.s) (made : now ≡ stash.exchanged held (targets, items))
        (here : (i : ℕ) → i < p.b → count_at p.b after j i ≡ count held (targets, items) i)
        (others : (k i : ℕ) → i < p.b → k ≢ j → count_at p.b after k i ≡ count_at p.b counts k i)
        (filled : All IsHeld items) (spelled : All (IsSpelled (item_length p.form)) items)
        (claimed : counted.claims ≡ min (claims p.b (h ++ w ∷ [])) p.b) (wrote : counted.writes ≡ writes p.b (h ++ w ∷ []))
      where
        order_is : order p.b (h ++ w ∷ []) ≡ order p.b h ++ j ∷ []
        order_is = order-more p.b h w j exchange

        chunk_here : (i : ℕ) → i < p.b → count_at p.b after j i ≡ length (chunk p d (order p.b (h ++ w ∷ [])) (exchange_of (order p.b (h ++ w ∷ [])) j) i)
        chunk_here i inside =
            let o = order p.b h in
            here i inside ∙ count_is p d o j held targets items counts of drawn is each spread.waits i inside
            ∙ ap (λ (k : ℕ). length (chunk p d (o ++ j ∷ []) k i)) (sym (exchange_of-push o j (exchange-new p.b h w j exchange)))
            ∙ ap (λ (o : List ℕ). length (chunk p d o (exchange_of o j) i)) (sym order_is)

        chunk_other : (k i : ℕ) → i < p.b → k ≢ j → 1 ≤ occurrences k (order p.b (h ++ w ∷ []))
            → count_at p.b after k i ≡ length (chunk p d (order p.b (h ++ w ∷ [])) (exchange_of (order p.b (h ++ w ∷ [])) k) i)
        chunk_other k i inside other there =
            let earlier = before (order p.b h) j k other (subst (λ (o : List ℕ). 1 ≤ occurrences k o) order_is there) in
            others k i inside other ∙ spread.chunks k i inside earlier ∙ ap length (sym (chunk-kept p d h (w ∷ []) k i earlier))

        within : nat_lt p.s (total (stash.exchanged held (targets, items))) ≡ false
        within = grind (arith, nat_tests)

        pub spread-exchange : IsSpread p d (h ++ w ∷ []) now after counted
        spread-exchange = record {
          runs = failing-none p d h w j spread.runs exchange (overflow_is ∙ within);
          waits = λ i inside.
              ap (λ (held : Held). length (queue_at held i)) made
              ∙ waits_after p d (order p.b h) j held targets items counts of drawn is each spread.waits i inside
              ∙ ap (λ (o : List ℕ). backlog p d o (length o) i) (sym order_is);
          held = subst (λ (held : Held). All (All IsHeld) held.queues) (sym made) (queues_after IsHeld held (targets, items) spread.held filled);
          spelled = subst (λ (held : Held). All (All (IsSpelled (item_length p.form))) held.queues) (sym made) (queues_after (IsSpelled (item_length p.form)) held (targets, items) spread.spelled spelled);
          chunks = λ k i inside there. elim (cases_Bool (k == j)) [
            | inl same ↦
                let one : k ≡ j = grind (arith, nat_tests) in
                subst (λ (k : ℕ). count_at p.b after k i ≡ length (chunk p d (order p.b (h ++ w ∷ [])) (exchange_of (order p.b (h ++ w ∷ [])) k) i)) (sym one) (chunk_here i inside)
            | inr apart ↦ chunk_other k i inside (let other : k ≢ j = grind (arith, nat_tests) in other) there
          ];
          claims = claimed;
          writes = wrote;
        }

-- A queue that is fed target by target, with contents and by counts alone.
use Rattle.std.proofs.Common.{◌≡◌, ℕ, zero, suc, ◌+◌, ◌-◌, ◌*◌, ◌≤◌, ◌<◌, true, cond, List, ◌++◌, length, take, drop, map, sym, ◌∙◌, ap, subst, arith}
use Rattle.std.specs.List.{sum_by}
use Rattle.std.specs.List.Sorted.{IsPermutation}
use Rattle.std.specs.Prelude.{None, nat_lt}
use Rattle.std.proofs.lemmas.List.{map-append, take-map, drop-map, length-map}
use Rattle.esa_params.specs.Sizes.{Sizes, first, size, below}
use Rattle.esa_report.specs.declared.item.Item.{Item}
use Rattle.esa_laws.proofs.LineLaws.{length-queued}
use Rattle.esa_laws.proofs.PlaceLaws.{fits-each, length-imports, length-parts, reached-arranged}
use Rattle.esa_laws.proofs.SizeLaws.{first-more, reached-all}
use Rattle.esa_laws.proofs.TotalLaws.{all-exchanged, once, order-permutes}
use Rattle.esa_laws.proofs.WindowLaws.{import-verdict, same-test, window-import, window-put, window-output, reached-le}
use Rattle.esa_spec.specs.Draws.{Draw, IsDrawn}
use Rattle.esa_spec.specs.Lines.{chunk}
use Rattle.esa_spec.specs.Places.{exchange_of, arranged, window, output_places}
use Rattle.esa_spec.specs.Turns.{order, writes}
use Rattle.esa_spec.specs.Verdicts.{imported, left, reached, step_verdict, Import, Put}
use Rattle.esa_spec.specs.declared.event.Verdict.TheVariants.{Good, QueueOverflow, QueueStarved}
use Rattle.esa_compress.specs.Held.{is_held, held_in, held_count}
use Rattle.esa_compress.specs.Imported.{import_items, parts_of}
use Rattle.esa_compress.proofs.HeldLaws.{held-arranged, count-imports, length-import_items}

module _ (record_of : ℕ → Item) (held : (x : ℕ) → is_held (record_of x) ≡ true) where
  pub parts-counted : (p : Sizes) (d : Draw) (o : List ℕ) (i : ℕ) → held_count (import_items record_of p d o i) ≡ parts_of p d o i
  parts-counted p d o i =
      count-imports record_of held p d o i
      ∙ ap (λ y. sum_by (λ j. length (chunk p d o (exchange_of o j) i)) (below p.b) + y) (length-queued p d o p.b i)

module _ (p : Sizes) (d : Draw) (h : List ℕ) (drawn : IsDrawn p d) (all : writes p.b h ≡ p.b * p.b) (fits : left p d (order p.b h) ≡ None) where
  -- by counts alone
  pub more-reached : (i : ℕ) → i < p.b → reached p d (i + 1) ≡ reached p d i + parts_of p d (order p.b h) i
  more-reached i i_in =
      reached-arranged p d h drawn all fits i i_in ∙ ap (λ y. reached p d i + y) (sym (length-parts p d h drawn all fits i i_in))

  pub import-counted : (j i waiting more : ℕ) → i < p.b → first p j ≤ reached p d i → waiting ≡ reached p d i - first p j → more ≡ parts_of p d (order p.b h) i
      → step_verdict p d (Import j i) ≡ cond (nat_lt p.q (waiting + more)) (QueueOverflow i) Good
  import-counted j i waiting more i_in put are parts =
      let step = more-reached i i_in in
      ap (λ c. cond c (QueueOverflow i) Good)
      (same-test (first p j + p.q) (reached p d (i + 1)) p.q (waiting + more)
      (λ less. omega (arith, less, step, are, parts, put)) (λ less. omega (arith, less, step, are, parts, put)))

  pub waiting-more : (j i waiting more : ℕ) → i < p.b → first p j ≤ reached p d i → waiting ≡ reached p d i - first p j → more ≡ parts_of p d (order p.b h) i
      → waiting + more ≡ reached p d (i + 1) - first p j
  waiting-more j i waiting more i_in put are parts = omega (arith, more-reached i i_in, are, parts, put)

  pub climbs : (i m : ℕ) → i + m ≤ p.b → reached p d i ≤ reached p d (i + m)
  climbs i zero i_in = let here : i + 0 ≡ i = omega arith in omega (arith, ap (reached p d) here)
  climbs i (suc m) i_in =
      let next : i + m + 1 ≡ i + suc m = omega arith in
      omega (arith, climbs i m (omega arith), reached-le p d h drawn all fits (i + m) (omega arith), ap (reached p d) next)

  pub few-reached : (i : ℕ) → i ≤ p.b → 1 ≤ p.b → reached p d i ≤ p.n
  few-reached i i_in some =
      let whole : i + (p.b - i) ≡ p.b = omega arith in
      omega (arith, climbs i (p.b - i) (omega arith), ap (reached p d) whole, reached-all p d some drawn)

  -- with contents
  module _ (record_of : ℕ → Item) (held : (x : ℕ) → is_held (record_of x) ≡ true) where
    pub order-fits : (i : ℕ) → i < p.b → IsPermutation (below (length (import_items record_of p d (order p.b h) i))) (d.order i)
    order-fits i i_in =
        let o = order p.b h in
        let long : length (import_items record_of p d o i) ≡ p.b * p.c + p.k =
        length-import_items record_of held p d o i
        ∙ length-imports p d drawn o (all-exchanged p.b h all) (order-permutes p.b h all) (λ j j_in. once p.b h j all j_in) i (fits-each p d o fits i i_in) in
        subst (λ n. IsPermutation (below n) (d.order i)) (sym long) (drawn.orders_permute i i_in)

    pub queue-import : (j i : ℕ) → i < p.b → first p j ≤ reached p d i
        → map record_of (window p d (order p.b h) j i) ++ held_in (import_items record_of p d (order p.b h) i) (d.order i)
        ≡ map record_of (window p d (order p.b h) j (i + 1))
    queue-import j i i_in put =
        let o = order p.b h in
        ap (λ y. map record_of (window p d o j i) ++ y) (held-arranged record_of held p d o i)
        ∙ sym (map-append record_of (window p d o j i) (arranged p d o i))
        ∙ ap (map record_of) (sym (window-import p d h drawn all fits j i i_in put))

    pub import-answer : (j i : ℕ) → i < p.b → first p j ≤ reached p d i
        → step_verdict p d (Import j i)
        ≡ cond (nat_lt p.q (length (map record_of (window p d (order p.b h) j i)) + held_count (import_items record_of p d (order p.b h) i))) (QueueOverflow i) Good
    import-answer j i i_in put =
        let o = order p.b h in
        import-verdict p d h drawn all fits j i i_in put
        ∙ ap (λ m. cond (nat_lt p.q (m + length (arranged p d o i))) (QueueOverflow i) Good) (sym (length-map (window p d o j i) record_of))
        ∙ ap (λ m. cond (nat_lt p.q (length (map record_of (window p d o j i)) + m)) (QueueOverflow i) Good)
        (sym (parts-counted record_of held p d o i ∙ length-parts p d h drawn all fits i i_in))

  pub queue-put : (record_of : ℕ → Item) (j i : ℕ)
      → drop (size p j) (map record_of (window p d (order p.b h) j i)) ≡ map record_of (window p d (order p.b h) (j + 1) i)
  queue-put record_of j i =
      drop-map record_of (size p j) (window p d (order p.b h) j i) ∙ ap (map record_of) (window-put p d h drawn all fits j i)

  pub queue-front : (record_of : ℕ → Item) (j i : ℕ) → i ≤ p.b → first p (j + 1) ≤ reached p d i
      → take (size p j) (map record_of (window p d (order p.b h) j i)) ≡ map record_of (output_places p d h j)
  queue-front record_of j i i_in enough =
      take-map record_of (size p j) (window p d (order p.b h) j i) ∙ ap (map record_of) (window-output p d h drawn all fits j i i_in enough)

-- an output bucket, by counts alone
pub put-counted : (p : Sizes) (d : Draw) (j waiting : ℕ) → first p j ≤ reached p d (imported p (suc j)) → waiting ≡ reached p d (imported p (suc j)) - first p j
    → step_verdict p d (Put j) ≡ cond (nat_lt waiting (size p j)) (QueueStarved j) Good
put-counted p d j waiting put are =
    let next = first-more p j in
    ap (λ c. cond c (QueueStarved j) Good)
    (same-test (reached p d (imported p (suc j))) (first p (j + 1)) waiting (size p j)
    (λ less. omega (arith, less, next, are, put)) (λ less. omega (arith, less, next, are, put)))

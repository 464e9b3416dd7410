-- What comes out of a run are the records of its batch.
use Rattle.std.proofs.Common.{◌≡◌, ℕ, zero, suc, ◌+◌, ◌-◌, ◌*◌, ◌≤◌, ◌<◌, ◌^◌, List, [], ◌∷◌, ◌++◌, length, map, take, drop, Option, Some, refl, sym, ap, ◌∙◌, subst, arith, add-one, append-nil}
use Rattle.std.proofs.Math.Seq.{take-add}
use Rattle.std.proofs.lemmas.Grind.{flat_map-append}
use Rattle.std.proofs.lemmas.List.{length-drop, length-map, length-take, map-append, take_all}
use Rattle.std.proofs.lemmas.List.Elements.{All-map}
use Rattle.std.proofs.lemmas.List.FromFn.{get_or-map-range_with_len, length-range_with_len}
use Rattle.std.proofs.lemmas.List.Sorted.{All-permutation, length_permutation}
use Rattle.std.specs.List.{concat, flat_map}
use Rattle.std.specs.List.Sorted.{IsPermutation}
use Rattle.std.specs.Prelude.{slice_index_or}
use Rattle.esa_analyser.proofs.Counting.{database_of-permutation}
use Rattle.esa_crowds.proofs.OrderLaws.{forward-permutation}
use Rattle.esa_device.specs.Logs.{IsFaithful}
use Rattle.esa_device.specs.Recording.{Recorded}
use Rattle.esa_ending.proofs.OutputLaws.{good-permutes, permuted, picked}
use Rattle.esa_laws.proofs.FinishLaws.{AllBelow, All-below, All-tail}
use Rattle.esa_laws.proofs.Ranges.{below-suc}
use Rattle.esa_laws.proofs.SizeLaws.{first-all, first-more, first-zero}
use Rattle.esa_params.specs.Sizes.{ArePlanned, Sizes, below, first, size}
use Rattle.esa_params.specs.Slots.{item_length}
use Rattle.esa_report.specs.declared.item.Item.{Item}
use Rattle.esa_scans.specs.Sealed.{AreSealed}
use Rattle.esa_shuffle.proofs.Records.{are_items}
use Rattle.esa_spec.specs.Draws.{Draw, IsDrawn}
use Rattle.esa_spec.specs.Places.{output_places, places}
use Rattle.esa_spec.specs.Traces.{good_attempt}
use Rattle.esa_vault.specs.Placed.{IsSpelled}
use Rattle.esa_crowds.specs.Kept.{forward}
use Rattle.esa_ending.specs.Seen.{come_out, turns_in}
use Rattle.esa_envelope.specs.declared.keys.Keys.{Keys}
use Rattle.esa_params.specs.Form.{envelope_length}
use Rattle.esa_press.specs.Contents.{AreOutputsStored}
use Rattle.esa_scans.proofs.FaithfulLaws.{both-given, forwarded-latest}
use Rattle.esa_scans.specs.Forwarded.{HasForwarded}
use Rattle.esa_shuffle.specs.Output.{BatchComesOut}
use Rattle.esa_shuffle.specs.Records.{record_at, records_given}

-- what stands at places of a list of records
records-at : (n : ℕ) (record_of : ℕ → Item) (d : Item) (ys : List ℕ) → AllBelow n ys → map (λ y. slice_index_or (map record_of (below n)) y d) ys ≡ map record_of ys
records-at n record_of d [] all = refl
records-at n record_of d (y ∷ ys) all =
    let here = get_or-map-range_with_len record_of 0 n y y d (all 0 0 (omega arith)) (omega arith) in
    let rest = records-at n record_of d ys (All-tail n y ys all) in
    (λ i. here i ∷ rest i)

module _ (p : Sizes) (d : Draw) (h : List ℕ) (record_of : ℕ → Item) (some : 1 ≤ p.b) (permutes : IsPermutation (below p.n) (places p d h)) where
  abbrev part : ℕ → List Item
  part j = map record_of (output_places p d h j)

  all-long : length (places p d h) ≡ p.n
  all-long = length_permutation (below p.n) (places p d h) permutes ∙ length-range_with_len 0 p.n

  part-long : (j : ℕ) → length (part j) ≡ size p j
  part-long j =
      let long = all-long in
      length-map (output_places p d h j) record_of
      ∙ omega (arith, long, length-take (first p (j + 1) - first p j) (drop (first p j) (places p d h)), length-drop (first p j) (places p d h))

  -- the blocks of the output, one after another
  parts-joined : (m : ℕ) → flat_map part (below m) ≡ map record_of (take (first p m) (places p d h))
  parts-joined zero = ap (λ n. map record_of (take n (places p d h))) (sym (first-zero p))
  parts-joined (suc m) =
      ap (flat_map part) (below-suc m)
      ∙ flat_map-append part (below m) (m ∷ [])
      ∙ ap (λ rest. flat_map part (below m) ++ rest) (append-nil (part m))
      ∙ ap (λ xs. xs ++ part m) (parts-joined m)
      ∙ sym (map-append record_of (take (first p m) (places p d h)) (output_places p d h m))
      ∙ ap (map record_of) (sym (take-add (first p m) (size p m) (places p d h)))
      ∙ ap (λ n. map record_of (take n (places p d h))) (sym (first-more p m) ∙ ap (first p) (add-one m))

  out-is : flat_map part (below p.b) ≡ come_out p d h (map record_of (below p.n))
  out-is =
      let whole = length-map (below p.n) record_of ∙ length-range_with_len 0 p.n in
      let all = All-permutation (λ y. y < p.n) (below p.n) (places p d h) permutes (All-below p.n p.n (omega arith)) in
      parts-joined p.b
      ∙ ap (λ n. map record_of (take n (places p d h))) (first-all p some)
      ∙ ap (map record_of) (take_all p.n (places p d h) (omega (arith, all-long)))
      ∙ sym (picked (map record_of (below p.n)) (record_of 0) (places p d h) (subst (λ m. AllBelow m (places p d h)) (sym whole) all)
      ∙ records-at p.n record_of (record_of 0) (places p d h) all)

module _ {V : Type 0} (told : V → Option (List (List ℕ))) (faults : V → ℕ) (p : Sizes) (ds : ℕ → Draw) (hs : List (List ℕ)) (a : ℕ) (outer run : Keys)
    (planned : ArePlanned p) (within : a < p.attempts) (drawn : IsDrawn p (ds a)) (good : good_attempt p ds 0 hs ≡ Some a)
    (n : ℕ) (given : List ℕ) (long : length given ≡ envelope_length p.form * n) (old new : Recorded V)
    (stored : AreOutputsStored p run (ds a) (turns_in hs a) a (record_at p outer given) p.b old.log) (faithful : IsFaithful p new.log)
  where
    abbrev h : List ℕ
    h = turns_in hs a

    abbrev record_of : ℕ → Item
    record_of = record_at p outer given

    abbrev items : ℕ → List Item
    items j = map record_of (output_places p (ds a) h j)

    some : 1 ≤ p.b
    some = planned.parameters.b_least

    permutes : IsPermutation (below p.n) (places p (ds a) h)
    permutes = good-permutes p ds hs a some drawn good

    small : a < 2 ^ 32
    small = let most = planned.parameters.attempts_greatest in omega (arith, within, most)

    sealed : AreSealed p run a items old.log
    sealed = λ j inside. record {
      spelled = All-map (IsSpelled (item_length p.form)) record_of (output_places p (ds a) h j) (λ k e there. (are_items p outer n given long).spelled _);
      whole = part-long p (ds a) h record_of some permutes j;
      took = stored j inside;
    }

    pub batch_comes_out : (key drops : List ℕ) (t : ℕ) (sent : List ℕ) (done : HasForwarded told faults p run a key drops t old new sent)
        → BatchComesOut p ds hs a outer run key drops t given done.first done.second sent
    batch_comes_out key drops t sent done =
        let both = both-given p run a items planned small told faults key drops t old new sent done faithful sealed in
        let is = out-is p (ds a) h record_of some permutes in
        let out = come_out p (ds a) h (records_given p outer given) in
        let number : length (records_given p outer given) ≡ p.n = length-map (below p.n) record_of ∙ length-range_with_len 0 p.n in
        let moved : IsPermutation (records_given p outer given) out = permuted (records_given p outer given) p.n (places p (ds a) h) number permutes in
        record {
          out = out;
          order = record { all = number; order = refl };
          permuted = moved;
          first_scan = both.0 ∙ is;
          second_scan = both.1 ∙ is;
          kept = forwarded-latest p run a items planned small told faults key drops t old new sent done faithful sealed ∙ ap (λ list. concat (forward p.form key drops t list)) is;
          database = λ inner. sym (database_of-permutation inner _ _ (forward-permutation p.form key drops t (records_given p outer given) out moved));
        }

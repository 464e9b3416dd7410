-- One bucket more is given.
use Rattle.std.proofs.Common.{◌≡◌, ℕ, zero, suc, ◌+◌, ◌-◌, ◌*◌, ◌<◌, ◌≤◌, List, [], ◌∷◌, ◌++◌, length, map, take, drop, Option, Some, Result, Ok, Err, refl, sym, ap, ◌∙◌, subst, arith, add-one, append_assoc, append-nil, length-append, mul-add, mul-zero, mul-le-mul_left, take_all, drop_at, length-drop}
use Rattle.std.specs.Prelude.{flat_map, slice_range}
use Rattle.std.specs.List.{concat}
use Rattle.std.proofs.Math.Seq.{take-add}
use Rattle.std.proofs.lemmas.List.{drop-append-le, take-append-le}
use Rattle.std.proofs.lemmas.List.Concat.{flat_map-append}
use Rattle.std.proofs.lemmas.List.Folds.{concat-append}
use Rattle.esa_device.specs.Logs.{Carried}
use Rattle.esa_device.specs.Recording.{Recorded}
use Rattle.esa_envelope.specs.declared.keys.Keys.{Keys}
use Rattle.esa_laws.proofs.Ranges.{below-suc, map-below-same, map-below-suc}
use Rattle.esa_laws.proofs.SizeLaws.{first-more}
use Rattle.esa_outside.specs.Cause.{Rose}
use Rattle.esa_outside.specs.Heard.{Event}
use Rattle.esa_params.specs.Form.{envelope_length}
use Rattle.esa_params.specs.Sizes.{Sizes, below, first, size}
use Rattle.esa_spec.specs.Traces.{written_input}
use Rattle.esa_load.specs.Loads.{AreGiven, BucketEnd, IsAsTold, IsAsked, LoadEnd, Source, WriteEnd, bucket_text, failed_block, written_block, written_blocks}
use Rattle.esa_load.specs.declared.fault.LoadFault.{LoadFault}
use Rattle.esa_load.specs.declared.fault.LoadFault.TheVariants.{Batch, Device}
use Rattle.esa_load.proofs.Fitting.{first-mono}

-- a range of a list stays where more comes behind it
range-front : {X : Type 0} (xs ys : List X) (a b : ℕ) → a ≤ b → b ≤ length xs → slice_range (xs ++ ys) a b ≡ slice_range xs a b
range-front xs ys a b some inside =
    let rest = length-drop a xs in
    ap (take (b - a)) (drop-append-le a xs ys (omega (arith, some, inside)))
    ∙ take-append-le (b - a) (drop a xs) ys (omega (arith, some, inside, rest))

-- and what comes behind is the range from there
range-behind : {X : Type 0} (xs ys : List X) (a b : ℕ) → length xs ≡ a → length ys ≡ b - a → slice_range (xs ++ ys) a b ≡ ys
range-behind xs ys a b front behind =
    ap (take (b - a)) (drop_at xs ys a front) ∙ take_all (b - a) ys (omega (arith, behind))

one_more : {X : Type 0} (f : ℕ → X) (k : ℕ) → map f (below (k + 1)) ≡ map f (below k) ++ f k ∷ []
one_more f k = ap (λ n. map f (below n)) (add-one k) ∙ map-below-suc f k

flat-more : {X : Type 0} (f : ℕ → List X) (k : ℕ) → flat_map f (below (k + 1)) ≡ flat_map f (below k) ++ f k
flat-more f k =
    ap (λ n. flat_map f (below n)) (add-one k) ∙ ap (flat_map f) (below-suc k) ∙ flat_map-append f (below k) (k ∷ [])
    ∙ ap (λ xs. flat_map f (below k) ++ xs) (append-nil (f k))

flat-same : {X : Type 0} (f g : ℕ → List X) (n : ℕ) → ((j : ℕ) → j < n → f j ≡ g j) → flat_map f (below n) ≡ flat_map g (below n)
flat-same f g zero same = refl
flat-same f g (suc n) same =
    let one : n + 1 ≡ suc n = omega arith in
    ap (λ m. flat_map f (below m)) (sym one) ∙ flat-more f n ∙ ap (λ xs. xs ++ f n) (flat-same f g n (λ j inside. same j (omega arith)))
    ∙ ap (λ xs. flat_map g (below n) ++ xs) (same n (omega arith)) ∙ sym (flat-more g n) ∙ ap (λ m. flat_map g (below m)) one

module _ (p : Sizes) (given text : List ℕ) (k : ℕ) (bytes : length given ≡ envelope_length p.form * first p k) (long : length text ≡ envelope_length p.form * size p k) where
  abbrev e : ℕ
  e = envelope_length p.form

  next : e * first p (k + 1) ≡ e * first p k + e * size p k
  next = ap (λ n. e * n) (first-more p k) ∙ mul-add e (first p k) (size p k)

  pub longer : length (given ++ text) ≡ e * first p (k + 1)
  longer = let all = length-append given text in let more = next in omega (arith, all, more, bytes, long)

  -- the texts of the buckets before stay
  pub text_before : (j : ℕ) → j < k → bucket_text p (given ++ text) j ≡ bucket_text p given j
  text_before j before =
      range-front given text (e * first p j) (e * first p (j + 1)) (mul-le-mul_left e (first-mono p j (j + 1) (omega arith)))
      (let far = mul-le-mul_left e (first-mono p (j + 1) k (omega (arith, before))) in omega (arith, far, bytes))

  pub text_here : bucket_text p (given ++ text) k ≡ text
  text_here = range-behind given text (e * first p k) (e * first p (k + 1)) bytes (let more = next in omega (arith, more, long))

  pub blocks_before : (run : Keys) → written_blocks p run given k ≡ written_blocks p run (given ++ text) k
  blocks_before run =
      map-below-same (λ j. written_block p run j (bucket_text p given j)) (λ j. written_block p run j (bucket_text p (given ++ text) j)) k
      (λ j before. ap (written_block p run j) (sym (text_before j before)))

  pub blocks_more : (run : Keys) → written_blocks p run (given ++ text) k ++ written_block p run k text ∷ [] ≡ written_blocks p run (given ++ text) (k + 1)
  blocks_more run =
      ap (λ t. written_blocks p run (given ++ text) k ++ written_block p run k t ∷ []) (sym text_here)
      ∙ sym (one_more (λ j. written_block p run j (bucket_text p (given ++ text) j)) k)

  heard_more : (part : ℕ → List ℕ → List Event)
      → flat_map (λ j. part (first p j) (bucket_text p given j)) (below k) ++ part (first p k) text
      ≡ flat_map (λ j. part (first p j) (bucket_text p (given ++ text) j)) (below (k + 1))
  heard_more part =
      let of : List ℕ → ℕ → List Event = λ all j. part (first p j) (bucket_text p all j) in
      ap (λ xs. xs ++ part (first p k) text) (flat-same (of given) (of (given ++ text)) k (λ j before. ap (part (first p j)) (sym (text_before j before))))
      ∙ ap (λ t. flat_map (of (given ++ text)) (below k) ++ part (first p k) t) (sym text_here)
      ∙ sym (flat-more (of (given ++ text)) k)

  told_more : (told : Option (List (List ℕ))) → ((records : List (List ℕ)) → told ≡ Some records → given ≡ concat (take (first p k) records))
      → ((records : List (List ℕ)) → told ≡ Some records → text ≡ concat (take (size p k) (drop (first p k) records)))
      → (records : List (List ℕ)) → told ≡ Some records → given ++ text ≡ concat (take (first p (k + 1)) records)
  told_more told before here records tells =
      ap (λ xs. xs ++ text) (before records tells) ∙ ap (λ xs. concat (take (first p k) records) ++ xs) (here records tells)
      ∙ sym (concat-append (take (first p k) records) (take (size p k) (drop (first p k) records)))
      ∙ ap concat (sym (take-add (first p k) (size p k) records))
      ∙ ap (λ n. concat (take n records)) (sym (first-more p k))

  -- the bucket was given and its write asked for
  pub given_more : {V : Type 0} (run : Keys) (told : Option (List (List ℕ))) (part : ℕ → List ℕ → List Event) (entry : Carried) (old mid new : Recorded V) (before between after : Source)
      → entry.access ≡ written_input p k
      → AreGiven p told part k given (written_blocks p run given k) old mid before between
      → IsAsked p told (part (first p k)) k text entry mid new between after
      → AreGiven p told part (k + 1) (given ++ text) (written_blocks p run (given ++ text) k ++ entry ∷ []) old new before after
  given_more run told part entry old mid new before between after is so_far asked = record {
    bytes = longer;
    as_told = told_more told so_far.as_told asked.given;
    heard = asked.heard ∙ ap (λ xs. xs ++ part (first p k) text) so_far.heard ∙ append_assoc before.heard _ (part (first p k) text)
        ∙ ap (λ xs. before.heard ++ xs) (heard_more part);
    trace = asked.written.trace ∙ ap (λ xs. xs ++ entry.access ∷ []) so_far.trace ∙ append_assoc old.trace (map (written_input p) (below k)) (entry.access ∷ [])
        ∙ ap (λ a. old.trace ++ (map (written_input p) (below k) ++ a ∷ [])) is ∙ ap (λ xs. old.trace ++ xs) (sym (one_more (written_input p) k));
    log = asked.written.log ∙ ap (λ xs. xs ++ entry ∷ []) so_far.log ∙ append_assoc old.log (written_blocks p run given k) (entry ∷ [])
        ∙ ap (λ xs. old.log ++ (xs ++ entry ∷ [])) (blocks_before run);
    room = let one = asked.written.room in let all = so_far.room in omega (arith, one, all);
    plan = asked.written.plan ∙ so_far.plan;
    last = asked.last ∙ so_far.last;
  }

-- nothing is given at first
pub given_none : {V : Type 0} (p : Sizes) (run : Keys) (told : Option (List (List ℕ))) (part : ℕ → List ℕ → List Event) (old : Recorded V) (before : Source)
    → AreGiven p told part 0 [] (written_blocks p run [] 0) old old before before
given_none p run told part old before = record {
  bytes = let none : first p 0 ≡ 0 = omega arith in sym (ap (λ n. envelope_length p.form * n) none ∙ mul-zero (envelope_length p.form));
  as_told = λ records tells. let none : first p 0 ≡ 0 = omega arith in sym (ap (λ n. concat (take n records)) none);
  heard = sym (append-nil before.heard);
  trace = sym (append-nil old.trace);
  log = sym (append-nil old.log);
  room = omega arith;
  plan = refl;
  last = refl;
}

-- a bucket more, of a source that is as it was
module _ {V : Type 0} (faults : V → ℕ) (p : Sizes) (run : Keys) (told now : Option (List (List ℕ))) (part again : ℕ → List ℕ → List Event) (k : ℕ) (given text : List ℕ) (old mid new : Recorded V) (before between after : Source)
    (same : now ≡ told) (same_part : again ≡ part) (long : length text ≡ envelope_length p.form * size p k)
    (so_far : AreGiven p told part k given (written_blocks p run given k) old mid before between)
    (device : faults mid.device ≡ faults old.device) (calm : between.faults ≡ before.faults)
  where
    asked_same : (entry : Carried) → IsAsked p now (again (first p k)) k text entry mid new between after → IsAsked p told (part (first p k)) k text entry mid new between after
    asked_same entry asked = record {
      given = λ records tells. asked.given records (same ∙ tells);
      heard = asked.heard ∙ ap (λ (f : ℕ → List ℕ → List Event). between.heard ++ f (first p k) text) same_part;
      calm = asked.calm;
      written = asked.written;
      last = asked.last;
    }

    -- it was written
    pub loaded_more : (done : Unit {0}) → BucketEnd faults p run now (again (first p k)) k text mid new between after (Ok done)
        → (all : List ℕ) × AreGiven p told part (k + 1) all (written_blocks p run all (k + 1)) old new before after
        × (faults new.device ≡ faults old.device) × (after.faults ≡ before.faults)
    loaded_more done end =
        let entry = written_block p run k text in
        let asked = asked_same entry end.0 in (
          given ++ text,
          subst (λ (entries : List Carried). AreGiven p told part (k + 1) (given ++ text) entries old new before after)
              (blocks_more p given text k so_far.bytes long run)
              (given_more p given text k so_far.bytes long run told part entry old mid new before between after refl so_far asked),
          end.1 ∙ device,
          asked.calm ∙ calm,
        )

    -- it was not, and ends the load
    pub load_ends : k < p.b → (fault : LoadFault) → BucketEnd {T = Unit {0}} faults p run now (again (first p k)) k text mid new between after (Err fault)
        → (all : List ℕ) × LoadEnd {T = Unit {0}} faults p run told part all old new before after (Err fault)
    load_ends inside (Batch bucket) end = (
      given,
      (
        subst (λ (j : ℕ). j < p.b) (sym end.0) inside,
        subst (λ (j : ℕ). AreGiven p told part j given (written_blocks p run given j) old new before after) (sym end.0)
            (subst (λ (r : Recorded V). AreGiven p told part k given (written_blocks p run given k) old r before after) (sym end.1)
            (record {
              bytes = so_far.bytes;
              as_told = so_far.as_told;
              heard = end.3 ∙ so_far.heard;
              trace = so_far.trace;
              log = so_far.log;
              room = so_far.room;
              plan = so_far.plan;
              last = so_far.last;
            })),
        ap (λ (r : Recorded V). faults r.device) end.1 ∙ device,
        subst (λ (n : ℕ). Rose n after.faults) calm end.2,
      ),
    )
    load_ends inside (Device number) end =
        let asked = asked_same (failed_block p k) end.1 in (
          given ++ text,
          (
            k,
            inside,
            end.0,
            given_more p given text k so_far.bytes long run told part (failed_block p k) old mid new before between after refl so_far asked,
            subst (λ (n : ℕ). Rose n (faults new.device)) device end.2,
            asked.calm ∙ calm,
          ),
        )

-- the records of a bucket were read: its end is that of its write
pub bucket_ends : {V : Type 0} (faults : V → ℕ) (p : Sizes) (run : Keys) (told : Option (List (List ℕ))) (part : List ℕ → List Event) (j : ℕ) (text : List ℕ) (old new : Recorded V) (before after : Source)
    → IsAsTold p told j text → after.heard ≡ before.heard ++ part text → after.faults ≡ before.faults → new.last ≡ old.last
    → (result : Result (Unit {0}) LoadFault) → WriteEnd faults p run j text old new result → BucketEnd faults p run told part j text old new before after result
bucket_ends faults p run told part j text old new before after given heard calm last (Ok done) end =
    (record { given = given; heard = heard; calm = calm; written = end.0; last = last }, end.1)
bucket_ends faults p run told part j text old new before after given heard calm last (Err (Batch bucket)) never = absurd never
bucket_ends faults p run told part j text old new before after given heard calm last (Err (Device number)) end =
    (end.0, record { given = given; heard = heard; calm = calm; written = end.1; last = last }, end.2)

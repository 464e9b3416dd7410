-- The accesses of an attempt's turns when one more turn is made.
use Rattle.std.proofs.Common.{◌≡◌, ℕ, zero, suc, ◌<◌, Bool, true, false, cond, List, [], ◌∷◌, ◌++◌, length, refl, sym, ◌∙◌, ap, arith, append_assoc, append-nil, ◌≤◌}
use Rattle.std.specs.List.{filter_map, cons_option, find}
use Rattle.std.specs.Prelude.{Option, Some, None, option_to_list, unwrap_or}
use Rattle.std.specs.Option.{option_or}
use Rattle.std.proofs.lemmas.List.Elements.{filter_map-append}
use Rattle.esa_params.specs.Sizes.{Sizes, below}
use Rattle.esa_laws.proofs.Ranges.{find-below-suc}
use Rattle.esa_laws.proofs.LineLaws.{failing-push}
use Rattle.esa_laws.proofs.TurnLaws.{events-push, order-push, one_of}
use Rattle.esa_spec.specs.Draws.{Draw}
use Rattle.esa_spec.specs.Fronts.{Begins}
use Rattle.esa_spec.specs.Lines.{overflows}
use Rattle.esa_spec.specs.Traces.{asked, through, made, spread}
use Rattle.esa_spec.specs.Turns.{events, exchanged, next, order}
use Rattle.esa_spec.specs.Verdicts.{failing, left, is_left}
use Rattle.esa_spec.specs.declared.event.Event.{Event}
use Rattle.esa_spec.specs.declared.event.Event.TheVariants.{Claim, Read, Exchange, Write, Done, Idle}

-- an event that is no exchange is passed by
pub through-other : (k : ℕ) (e : Event) (es : List Event) → exchanged e ≡ None → through k (e ∷ es) ≡ e ∷ through k es
through-other zero (Claim j) es h = refl
through-other (suc k) (Claim j) es h = refl
through-other zero (Read j) es h = refl
through-other (suc k) (Read j) es h = refl
through-other k (Exchange j) es h = absurd (cc)
through-other zero (Write j i) es h = refl
through-other (suc k) (Write j i) es h = refl
through-other zero Done es h = refl
through-other (suc k) Done es h = refl
through-other zero Idle es h = refl
through-other (suc k) Idle es h = refl

-- the buckets that events exchange
abbrev pub exchanges : List Event → List ℕ
exchanges es = filter_map exchanged es

one-more : (o : Option ℕ) (e : Event) (es : List Event) → exchanged e ≡ o → exchanges (e ∷ es) ≡ cons_option o (exchanges es)
one-more o e es h = ap (λ y. cons_option y (exchanges es)) h

-- the exchange that comes last is reached only at the end
pub through-all : (es : List Event) (j : ℕ) → through (length (exchanges es)) (es ++ Exchange j ∷ []) ≡ es ++ Exchange j ∷ []
through-all [] j = refl
through-all (Claim i ∷ es) j = through-other (length (exchanges es)) (Claim i) (es ++ Exchange j ∷ []) refl ∙ ap (λ y. Claim i ∷ y) (through-all es j)
through-all (Read i ∷ es) j = through-other (length (exchanges es)) (Read i) (es ++ Exchange j ∷ []) refl ∙ ap (λ y. Read i ∷ y) (through-all es j)
through-all (Exchange i ∷ es) j = ap (λ y. Exchange i ∷ y) (through-all es j)
through-all (Write i t ∷ es) j = through-other (length (exchanges es)) (Write i t) (es ++ Exchange j ∷ []) refl ∙ ap (λ y. Write i t ∷ y) (through-all es j)
through-all (Done ∷ es) j = through-other (length (exchanges es)) Done (es ++ Exchange j ∷ []) refl ∙ ap (λ y. Done ∷ y) (through-all es j)
through-all (Idle ∷ es) j = through-other (length (exchanges es)) Idle (es ++ Exchange j ∷ []) refl ∙ ap (λ y. Idle ∷ y) (through-all es j)

-- what comes behind an exchange that was made doesn't count
pub through-append : (k : ℕ) (es more : List Event) → k < length (exchanges es) → through k (es ++ more) ≡ through k es
through-append k [] more h = absurd (omega arith)
through-append k (Claim i ∷ es) more h =
    through-other k (Claim i) (es ++ more) refl ∙ ap (λ y. Claim i ∷ y) (through-append k es more h) ∙ sym (through-other k (Claim i) es refl)
through-append k (Read i ∷ es) more h =
    through-other k (Read i) (es ++ more) refl ∙ ap (λ y. Read i ∷ y) (through-append k es more h) ∙ sym (through-other k (Read i) es refl)
through-append zero (Exchange i ∷ es) more h = refl
through-append (suc k) (Exchange i ∷ es) more h = ap (λ y. Exchange i ∷ y) (through-append k es more (omega arith))
through-append k (Write i t ∷ es) more h =
    through-other k (Write i t) (es ++ more) refl ∙ ap (λ y. Write i t ∷ y) (through-append k es more h) ∙ sym (through-other k (Write i t) es refl)
through-append k (Done ∷ es) more h =
    through-other k Done (es ++ more) refl ∙ ap (λ y. Done ∷ y) (through-append k es more h) ∙ sym (through-other k Done es refl)
through-append k (Idle ∷ es) more h =
    through-other k Idle (es ++ more) refl ∙ ap (λ y. Idle ∷ y) (through-append k es more h) ∙ sym (through-other k Idle es refl)

-- the events up to an exchange are a beginning of all
passes : (k : ℕ) (e : Event) (es : List Event) → exchanged e ≡ None → Begins (through k es) es → Begins (through k (e ∷ es)) (e ∷ es)
passes k e es other b = (b.0, ap (λ y. e ∷ y) b.1 ∙ sym (ap (λ y. y ++ b.0) (through-other k e es other)))

pub through-begins : (k : ℕ) (es : List Event) → Begins (through k es) es
through-begins k [] = ([], refl)
through-begins k (Claim j ∷ es) = passes k (Claim j) es refl (through-begins k es)
through-begins k (Read j ∷ es) = passes k (Read j) es refl (through-begins k es)
through-begins zero (Exchange j ∷ es) = (es, refl)
through-begins (suc k) (Exchange j ∷ es) = let b = through-begins k es in (b.0, ap (λ y. Exchange j ∷ y) b.1)
through-begins k (Write j i ∷ es) = passes k (Write j i) es refl (through-begins k es)
through-begins k (Done ∷ es) = passes k Done es refl (through-begins k es)
through-begins k (Idle ∷ es) = passes k Idle es refl (through-begins k es)

-- a number that is found below n is below n, and passes
or-cases : (f : ℕ → Bool) (n k : ℕ) (before : Option ℕ) → (before ≡ Some k → (k < n) × (f k ≡ true)) → option_or before (cond (f n) (Some n) None) ≡ Some k → (k < suc n) × (f k ≡ true)
or-cases f n k (Some j) kept e = let found = kept e in (omega (arith, found.0), found.1)
or-cases f n k None kept e = or-last (f n) refl e
  where
    or-last : (b : Bool) → f n ≡ b → cond b (Some n) None ≡ Some k → (k < suc n) × (f k ≡ true)
    or-last true passes e' = let same : n ≡ k = cc in (omega (arith, same), sym (ap f same) ∙ passes)
    or-last false fails e' = absurd (cc)

pub find-below : (f : ℕ → Bool) (n k : ℕ) → find f (below n) ≡ Some k → (k < n) × (f k ≡ true)
find-below f zero k e = absurd (cc)
find-below f (suc n) k e = or-cases f n k (find f (below n)) (find-below f n k) (sym (find-below-suc f n) ∙ e)

-- how many tails are written
pub left-in : (p : Sizes) (d : Draw) (o : List ℕ) (l : Option ℕ) → left p d o ≡ l → unwrap_or l p.b ≤ p.b
left-in p d o (Some i) e = let found = find-below (is_left p d o) p.b i e in omega (arith, found.0)
left-in p d o None e = omega arith

pub failing-made : (p : Sizes) (d : Draw) (o : List ℕ) (k : ℕ) → failing p d o ≡ Some k → (k < length o) × (overflows p d o k ≡ true)
failing-made p d o k e = find-below (overflows p d o) (length o) k e

-- one turn more, where no exchange has failed before it
asked-push : (p : Sizes) (d : Draw) (a : ℕ) (es : List Event) (e : Event) → filter_map (asked p a) (es ++ e ∷ []) ≡ filter_map (asked p a) es ++ option_to_list (asked p a e)
asked-push p d a es e = filter_map-append (asked p a) es (e ∷ []) ∙ ap (λ y. filter_map (asked p a) es ++ y) (one_of (asked p a e))

-- a failing exchange stays the failing one
pub failing-stays : (p : Sizes) (d : Draw) (k : ℕ) (o more : List ℕ) → failing p d o ≡ Some k → failing p d (o ++ more) ≡ Some k
failing-stays p d k o [] e = ap (failing p d) (append-nil o) ∙ e
failing-stays p d k o (j ∷ more) e =
    ap (failing p d) (sym (append_assoc o (j ∷ []) more))
    ∙ failing-stays p d k (o ++ j ∷ []) more
    (failing-push p d o j ∙ ap (λ y. option_or y (cond (overflows p d (o ++ j ∷ []) (length o)) (Some (length o)) None)) e)

pub exchanged-is : (e : Event) (j : ℕ) → exchanged e ≡ Some j → e ≡ Exchange j
exchanged-is (Claim i) j h = absurd (cc)
exchanged-is (Read i) j h = absurd (cc)
exchanged-is (Exchange i) j h = let same : i ≡ j = cc in ap Exchange same
exchanged-is (Write i t) j h = absurd (cc)
exchanged-is Done j h = absurd (cc)
exchanged-is Idle j h = absurd (cc)

-- where the last exchange fails or none does, all events count
made-last : (es : List Event) (j : ℕ) (b : Bool) → made (cond b (Some (length (exchanges es))) None) (es ++ Exchange j ∷ []) ≡ es ++ Exchange j ∷ []
made-last es j true = through-all es j
made-last es j false = refl

module _ (p : Sizes) (d : Draw) (a : ℕ) (h : List ℕ) (w : ℕ) where
  -- all events count, where no exchange failed before the last
  made-push : failing p d (order p.b h) ≡ None → (e : Event) (x : Option ℕ) → exchanged e ≡ x
      → made (failing p d (order p.b h ++ option_to_list x)) (events p.b h ++ e ∷ []) ≡ events p.b h ++ e ∷ []
  made-push ok e None ex = ap (λ y. made y (events p.b h ++ e ∷ [])) (ap (failing p d) (append-nil (order p.b h)) ∙ ok)
  made-push ok e (Some j) ex =
      let o = order p.b h in
      let last = overflows p d (o ++ j ∷ []) (length o) in
      let is = exchanged-is e j ex in
      ap (λ y. made y (events p.b h ++ e ∷ []))
      (failing-push p d o j ∙ ap (λ y. option_or y (cond last (Some (length o)) None)) ok)
      ∙ ap (λ y. made (cond last (Some (length o)) None) (events p.b h ++ y ∷ [])) is
      ∙ made-last (events p.b h) j last
      ∙ ap (λ y. events p.b h ++ y ∷ []) (sym is)

  pub spread-push : failing p d (order p.b h) ≡ None
      → spread p d a (h ++ w ∷ []) ≡ spread p d a h ++ option_to_list (asked p a (next p.b h w))
  spread-push ok =
      let e = next p.b h w in
      ap (λ y. filter_map (asked p a) (made (failing p d (order p.b (h ++ w ∷ []))) y)) (events-push p.b h w)
      ∙ ap (λ y. filter_map (asked p a) (made (failing p d y) (events p.b h ++ e ∷ []))) (order-push p.b h w)
      ∙ ap (filter_map (asked p a)) (made-push ok e (exchanged e) refl)
      ∙ asked-push p d a (events p.b h) e
      ∙ ap (λ y. filter_map (asked p a) (made y (events p.b h)) ++ option_to_list (asked p a e)) (sym ok)

  pub spread-stays : (k : ℕ) → failing p d (order p.b h) ≡ Some k → spread p d a (h ++ w ∷ []) ≡ spread p d a h
  spread-stays k fails =
      let e = next p.b h w in
      let still : failing p d (order p.b (h ++ w ∷ [])) ≡ Some k =
      ap (failing p d) (order-push p.b h w) ∙ failing-stays p d k (order p.b h) (option_to_list (exchanged e)) fails in
      ap (λ y. filter_map (asked p a) (made (failing p d (order p.b (h ++ w ∷ []))) y)) (events-push p.b h w)
      ∙ ap (λ y. filter_map (asked p a) (made y (events p.b h ++ e ∷ []))) still
      ∙ ap (filter_map (asked p a)) (through-append k (events p.b h) (e ∷ []) (failing-made p d (order p.b h) k fails).0)
      ∙ ap (λ y. filter_map (asked p a) (made y (events p.b h))) (sym fails)

-- The step that gives the value back, and serves the next ticket.
use Rattle.std.proofs.Common.{◌≡◌, ◌≢◌, ℕ, suc, ◌+◌, ◌*◌, ◌%◌, ◌^◌, ◌<◌, ◌≤◌, Bool, true, false, cond, leb, List, [], ◌∷◌, ◌++◌, length, get_or, set, sum_by, count_by, All, Option, Some, None, IfSome, refl, sym, ap, ◌∙◌, subst, inl, ⊎_elim, true≢false, mod-eq_of_lt, zero-add, mul-one, le-leb, length-append, eq-eqb, arith}
use Rattle.std.proofs.lemmas.Bool.{lt-leb, cases_Bool, eqb-false}
use Rattle.std.proofs.lemmas.List.Sums.{sum_by-cons}
use Rattle.std.proofs.lemmas.List.Elements.{All-weaker, All-push, All-cons, All-nil, All-head}
use mathlib.Core.List.{IsPrefix}
use mathlib.Core.Option.{some, none}
use mathlib.Core.Logic.{dite}
use native.Mathlib.Decide.{dec_le, ℕ_discrete}
use lib.ListN.{get_elem?}
use Rattle.atomic_table.specs.Table.{State, Me, step, gives, rest, put_back, Allows}
use Rattle.atomic_table.proofs.Lists.{at_set}
use Rattle.esa_turnstile.specs.declared.view.About.{About}
use Rattle.esa_turnstile.specs.declared.view.Mark.{Mark}
use Rattle.esa_turnstile.specs.declared.view.Member.{Member}
use Rattle.esa_turnstile.specs.declared.view.Sight.{Sight}
use Rattle.esa_turnstile.specs.declared.view.Stage.{Stage}
use Rattle.esa_turnstile.specs.declared.view.Stage.TheVariants.{Outside, Waiting, Inside}
use Rattle.esa_turnstile.specs.declared.view.View.{View}
use Rattle.esa_turnstile.specs.Entries.{times}
use Rattle.esa_turnstile.specs.Views.{held, ticket, is_inside, added, bears, bearers, raised, one, first_number, first_added, latest, sight_in, gone}
use Rattle.esa_turnstile.specs.Lock.{IsCounted, IsEarlier, InStage, Fits, IsHome, IsAway, Kept}
use Rattle.esa_turnstile.specs.Marks.{IsBelow}
use Rattle.esa_turnstile.specs.Steps.{sight_of, Advances}
use Rattle.esa_turnstile.proofs.Totals.{two-le-sum, times-push_same, times-push_other, none-pass}
use Rattle.esa_turnstile.proofs.Prefixes.{prefix-length, prefix-push, prefix-refl}
use Rattle.esa_turnstile.proofs.Looks.{same-value}
use Rattle.esa_turnstile.proofs.Rising.{below-refl, below-trans, below-as}
use Rattle.esa_turnstile.proofs.Rebuilt.{inside-held, inside-ticket, rebuilt}

-- the marks, where one more entry is made and m is the mark then
abbrev marks-then : (ℕ → Mark) → ℕ → Mark → ℕ → Mark
marks-then marks n m i = cond (leb i n) (marks i) m

then-before : (marks : ℕ → Mark) (n : ℕ) (m : Mark) (i : ℕ) → i ≤ n → marks-then marks n m i ≡ marks i
then-before marks n m i le = ap (λ (b : Bool). cond b (marks i) m) (le-leb i n le)

then-after : (marks : ℕ → Mark) (n : ℕ) (m : Mark) (i : ℕ) → n < i → marks-then marks n m i ≡ m
then-after marks n m i lt = ap (λ (b : Bool). cond b (marks i) m) (lt-leb i n lt)

then-rises : (marks : ℕ → Mark) (n : ℕ) (m : Mark) → ((i j : ℕ) → i ≤ j → IsBelow (marks i) (marks j)) → IsBelow (marks n) m → (i j : ℕ) → i ≤ j → Dec (i ≤ n) → Dec (j ≤ n) → IsBelow (marks-then marks n m i) (marks-then marks n m j)
then-rises marks n m rises above i j le (yes a) (yes b) = below-as _ _ _ _ (then-before marks n m i a) (then-before marks n m j b) (rises i j le)
then-rises marks n m rises above i j le (yes a) (no b) =
    below-as _ _ _ _ (then-before marks n m i a) (then-after marks n m j (omega arith)) (below-trans _ _ _ (rises i n a) above)
then-rises marks n m rises above i j le (no a) (yes b) = absurd (omega arith)
then-rises marks n m rises above i j le (no a) (no b) = below-as _ _ _ _ (then-after marks n m i (omega arith)) (then-after marks n m j (omega arith)) (below-refl m)

-- one pass has entered once more
raised-length : (ms : List Member) → length (raised ms) ≡ length ms
raised-length [] = refl
raised-length (m ∷ ms) = ap suc (raised-length ms)

raised-bears : (x : ℕ) (ms : List Member) → count_by (bears x) (raised ms) ≡ count_by (bears x) ms
raised-bears x [] = refl
raised-bears x (m ∷ ms) =
    let f : Member → ℕ = λ m. cond (bears x m) 1 0 in
    omega (arith, raised-bears x ms, sum_by-cons f m ms, sum_by-cons f (record { number = m.number; added = m.added + 1 }) (raised ms))

raised-added : (ms : List Member) → sum_by added (raised ms) ≡ sum_by added ms + length ms
raised-added [] = refl
raised-added (m ∷ ms) = omega (arith, raised-added ms, sum_by-cons added m ms, sum_by-cons added (record { number = m.number; added = m.added + 1 }) (raised ms))

single-is : (ms : List Member) → length ms ≡ 1 → ms ≡ one (first_number ms) (first_added ms)
single-is [] e = absurd (omega arith)
single-is (m ∷ []) e = refl
single-is (m ∷ k ∷ ms) e = absurd (omega arith)

inside-latest : (log : List ℕ) (marks : ℕ → Mark) (drawn : ℕ) (seen : Sight) (st : Stage) → InStage log marks drawn st → is_inside st ≡ true
    → (length log < drawn) × ((sight_in seen st).entries ≡ log) × ((sight_in seen st).mark ≡ marks (length log))
inside-latest log marks drawn seen Outside i e = absurd (true≢false (sym e))
inside-latest log marks drawn seen (Waiting t) i e = absurd (true≢false (sym e))
inside-latest log marks drawn seen (Inside s) i e = i

in-stage-next : (log : List ℕ) (n : ℕ) (marks marks' : ℕ → Mark) (drawn : ℕ) (st : Stage) → InStage log marks drawn st → (held st ≡ 1 → ticket st ≢ length log) → InStage (log ++ n ∷ []) marks' drawn st
in-stage-next log n marks marks' drawn Outside i ne = tt
in-stage-next log n marks marks' drawn (Waiting t) i ne = let a = i.0 in let x = ne refl in (omega (arith, length-append log (n ∷ [])), i.1)
in-stage-next log n marks marks' drawn (Inside s) i ne = absurd (ne refl (ap length i.1))

module _ {T O : Type 0} (log_of : T → List ℕ) (origin : T → O) (IsSound : T → Type 0) (mark : T → Mark) (about : About T) where
  abbrev St : Type 0
  St = State (Option T) (View T)

  abbrev K : St → Type 0
  K s = Kept log_of origin IsSound mark about s

  told-again : (marks marks' : ℕ → Mark) (o : Option (About T)) (m : Mark) (n : ℕ) → marks' n ≡ marks n → IfSome o (λ a. (a ≡ about) × (m ≡ marks n)) → IfSome o (λ a. (a ≡ about) × (m ≡ marks' n))
  told-again marks marks' None m n e h = tt
  told-again marks marks' (Some a) m n e h = (h.0, h.1 ∙ sym e)

  counts-next : (log seen : List ℕ) (n : ℕ) (ms : List Member) → All (IsCounted about.passes log seen) ms → All (λ m. bears n m ≡ false) ms → All (IsCounted about.passes (log ++ n ∷ []) seen) ms
  counts-next log seen n ms h g k d lt =
      let c = h k d lt in let m : Member = get_or ms k d in record {
        below = c.below;
        in_log = times-push_other m.number log n (λ (e : n ≡ m.number). eqb-false m.number n (g k d lt) (sym e)) ∙ c.in_log;
        in_seen = c.in_seen;
      }

  -- another seat, of whose passes none has the number n, and which has not the ticket that was served
  fits-next : (log : List ℕ) (n : ℕ) (m : Mark) (marks : ℕ → Mark) (drawn : ℕ) (u : View T) → Fits about log marks drawn u → bearers n u ≡ 0 → (held u.stage ≡ 1 → ticket u.stage ≢ length log)
      → Fits about (log ++ n ∷ []) (marks-then marks (length log) m) drawn u
  fits-next log n m marks drawn u f none-here ne =
      let l : ℕ = length log in let marks' : ℕ → Mark = marks-then marks l m in let short = prefix-length u.seen.entries log f.begins in record {
        told = told-again marks marks' u.about u.seen.mark (length u.seen.entries) (then-before marks l m (length u.seen.entries) short) f.told;
        begins = prefix-push u.seen.entries log (n ∷ []) f.begins;
        heard = All-weaker (IsEarlier marks u.seen.entries) (IsEarlier marks' u.seen.entries)
            (λ (h : Sight) e. record { begins = e.begins; marked = e.marked ∙ sym (then-before marks l m (length h.entries) (let p = prefix-length h.entries u.seen.entries e.begins in omega arith)) }) u.heard f.heard;
        share = f.share;
        counts = counts-next log u.seen.entries n u.members f.counts (none-pass (bears n) u.members none-here);
        single = f.single;
        stage = in-stage-next log n marks marks' drawn u.stage f.stage ne;
      }

  told-new : (o : Option (About T)) (P Q : Type 0) → Q → IfSome o (λ a. (a ≡ about) × P) → IfSome o (λ a. (a ≡ about) × Q)
  told-new None P Q q h = tt
  told-new (Some a) P Q q h = (h.0, q)

  -- while a seat is inside, the slot is away
  slot-empty : (s : St) (k : K s) (id : ℕ) (v : View T) → get_elem? s.views id ≡ some v → is_inside v.stage ≡ true → s.homes ≡ none ∷ []
  slot-empty s k id v at inside = ⊎_elim (λ (h : IsHome log_of origin IsSound mark about k.log k.marks s). absurd (true≢false (sym inside ∙ h.nobody id v at))) (λ (a : IsAway log_of origin IsSound mark s). a.gone) k.slot

  -- nobody else is inside
  others-outside : (s : St) (k : K s) (id : ℕ) (v : View T) → get_elem? s.views id ≡ some v → is_inside v.stage ≡ true → (j : ℕ) (u : View T) → j ≢ id → get_elem? s.views j ≡ some u → is_inside u.stage ≡ false
  others-outside s k id v at inside j u ne e = ⊎_elim
      (λ (yes : is_inside u.stage ≡ true). absurd (ne (k.alone j id u v e at (inside-held u.stage yes) (inside-held v.stage inside)
      (inside-ticket k.log k.marks k.drawn u.stage (k.fits j u e).stage yes ∙ sym (inside-ticket k.log k.marks k.drawn v.stage (k.fits id v at).stage inside)))))
      (λ (no : is_inside u.stage ≡ false). no) (cases_Bool (is_inside u.stage))

  given : (s : St) (k : K s) (id n : ℕ) (v : View T) (x : T) → get_elem? s.views id ≡ some v → n ≡ length k.log → is_inside v.stage ≡ true → length v.members ≡ 1
      → log_of x ≡ (latest v).entries ++ first_number v.members ∷ [] → IsSound x → origin x ≡ origin about.opened.value → IsBelow (latest v).mark (mark x)
      → K record { words = set s.words 1 ((n + 1) % 2 ^ 64); homes = set s.homes 0 (some (Some x)); views = set s.views id (gone v (sight_of log_of mark x)) }
  given s k id n v x at is inside single log_is sound origin_is mark_is =
      let f = k.fits id v at in let log : List ℕ = k.log in let l : ℕ = length log in let d : ℕ = k.drawn in
      let N : ℕ = first_number v.members in let A : ℕ = first_added v.members in let m : Mark = mark x in
      let log' : List ℕ = log ++ N ∷ [] in let marks' : ℕ → Mark = marks-then k.marks l m in let w : View T = gone v (sight_of log_of mark x) in
      let now = inside-latest log k.marks d v.seen v.stage f.stage inside in
      let same : log_of x ≡ log' = log_is ∙ ap (λ (z : List ℕ). z ++ N ∷ []) now.1 in
      let longer : length log' ≡ l + 1 = length-append log (N ∷ []) in
      let holds : held v.stage ≡ 1 = inside-held v.stage inside in
      let turn : ticket v.stage ≡ l = inside-ticket log k.marks d v.stage f.stage inside in
      let alone : v.members ≡ one N A = single-is v.members single in
      let sums : sum_by added v.members ≡ A = ap (sum_by added) alone ∙ zero-add A in
      let share : A + 1 ≤ about.tickets = let sh = f.share in let e : about.tickets * length v.members ≡ about.tickets = ap (λ (z : ℕ). about.tickets * z) single ∙ mul-one about.tickets in omega arith in
      let counted : IsCounted about.passes log v.seen.entries (record { number = N; added = A }) = All-head (IsCounted about.passes log v.seen.entries) (record { number = N; added = A }) [] (subst (All (IsCounted about.passes log v.seen.entries)) alone f.counts) in
      let more : times N log' ≡ A + 1 = times-push_same N log ∙ ap (λ (z : ℕ). z + 1) counted.in_log in
      let marked : m ≡ marks' (length log') = sym (then-after k.marks l m (length log') (omega arith)) in
      let bearer : bearers N v ≡ 1 = ap (count_by (bears N)) alone ∙ ap (λ (b : Bool). 0 + cond b 1 0) (eq-eqb N N refl) in
      let supply = k.supply in let small = k.small in let below : l < d = now.0 in let low = k.named in
      let fits : n + 1 < 2 ^ 64 = omega arith in
      let next : (n + 1) % 2 ^ 64 ≡ length log' = mod-eq_of_lt fits ∙ (ap (λ (z : ℕ). z + 1) is ∙ sym longer) in
      rebuilt log_of origin IsSound mark about s k id v w (set s.words 1 ((n + 1) % 2 ^ 64)) (set s.homes 0 (some (Some x))) log' marks' d at
      (ap (λ (z : List ℕ). set z 1 ((n + 1) % 2 ^ 64)) k.words ∙ ap (λ (z : ℕ). d ∷ z ∷ []) next)
      (omega arith) refl (raised-length v.members) (λ y. raised-bears y v.members)
      (All-push (λ (y : ℕ). y < about.passes) log N k.named counted.below)
      (λ y. dite (ℕ_discrete N y)
      (λ (e : N ≡ y). subst (λ (z : ℕ). times z log' ≤ about.tickets) e (omega arith))
      (λ (ne : N ≢ y). let b = k.bounded y in omega (arith, times-push_other y log N ne)))
      (λ i j le. then-rises k.marks l m k.rises (below-as _ _ _ _ (sym now.2) refl mark_is) i j le (dec_le i l) (dec_le j l))
      (λ j u ne e. fits-next log N m k.marks d u (k.fits j u e) (let t = two-le-sum (bearers N) s.views j id u v ne e at in let o = k.once N in omega arith)
      (λ held_u mine. ne (k.alone j id u v e at held_u holds (mine ∙ sym turn))))
      record {
        told = told-new v.about (v.seen.mark ≡ k.marks (length v.seen.entries)) (m ≡ marks' (length (log_of x))) (marked ∙ ap (λ (z : List ℕ). marks' (length z)) (sym same)) f.told;
        begins = subst (λ (z : List ℕ). IsPrefix z log') (sym same) (prefix-refl log');
        heard = All-nil (IsEarlier marks' (log_of x));
        share = let sh = f.share in let e = raised-added v.members in let r : about.tickets * length (raised v.members) ≡ about.tickets * length v.members = ap (λ (z : ℕ). about.tickets * z) (raised-length v.members) in omega arith;
        counts = subst (All (IsCounted about.passes log' (log_of x))) (ap raised (sym alone))
            (All-cons (IsCounted about.passes log' (log_of x)) (record { number = N; added = A + 1 }) [] (record { below = counted.below; in_log = more; in_seen = ap (times N) same ∙ more }) (All-nil (IsCounted about.passes log' (log_of x))));
        single = λ h. absurd (omega arith);
        stage = tt;
      }
      (λ j u ne e h held_u same. absurd (omega arith))
      (inl record {
        value = x;
        there = ap (λ z. set z 0 (some (Some x))) (slot-empty s k id v at inside);
        log_is = same;
        origin_is = origin_is;
        sound = sound;
        mark_is = marked;
        nobody = λ i u e. ⊎_elim (λ (t : (i ≡ id) × (w ≡ u)). ap (λ (z : View T). is_inside z.stage) (sym t.1)) (λ (t : (i ≢ id) × (get_elem? s.views i ≡ some u)). others-outside s k id v at inside i u t.0 t.1) (at_set s.views id i w u e);
      })

  pub advances : (slots id : ℕ) (me : Me (Option T) (View T)) (x : T) → is_inside me.0.stage ≡ true → me.1 ≡ (0, Some x) ∷ [] → length me.0.members ≡ 1
      → log_of x ≡ (latest me.0).entries ++ first_number me.0.members ∷ [] → IsSound x → origin x ≡ origin about.opened.value → IsBelow (latest me.0).mark (mark x)
      → Allows K slots id me 1 (λ n. (n + 1) % 2 ^ 64) (Advances log_of mark (step slots 1 1 0 none) me)
  advances slots id me x inside has single log_is sound origin_is mark_is s k _ at _ =
      let n : ℕ = get_or s.words 1 0 in let w : View T = gone me.0 (sight_of log_of mark x) in
      let is : n ≡ length k.log = ap (λ (z : List ℕ). get_or z 1 0) k.words in (
        w,
        gives,
        tt,
        subst (λ (c : List (ℕ × Option T)). K record { words = set s.words 1 ((n + 1) % 2 ^ 64); homes = put_back s.homes c; views = set s.views id w }) (sym has)
            (given s k id n me.0 x at is inside single log_is sound origin_is mark_is),
        λ y e. λ i. (gone me.0 (sight_of log_of mark (same-value me.1 [] [] x y (Some y) has e refl i)), rest (has i)),
      )

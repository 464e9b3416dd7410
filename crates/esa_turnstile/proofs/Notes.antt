-- A seat is copied, put into another, and learns that it has seen no less.
use Rattle.std.proofs.Common.{◌≡◌, ℕ, ◌+◌, ◌*◌, ◌≤◌, ◌⊎◌, Bool, true, false, cond, leb, max, List, [], ◌∷◌, ◌++◌, length, get_or, count_by, All, Option, Some, IfSome, refl, sym, ap, ◌∙◌, subst, inl, inr, ⊎_elim, leb-true, leb-false, le_of_lt, add-zero, mul-zero, mul-add, length-append, arith}
use Rattle.std.proofs.lemmas.Bool.{cases_Bool}
use Rattle.std.proofs.lemmas.List.Sums.{sum_by-append}
use Rattle.std.proofs.lemmas.List.Elements.{All-nil, All-cons, All-append, All-weaker}
use mathlib.Core.List.{IsPrefix}
use mathlib.Core.Option.{none}
use Rattle.atomic_table.specs.Table.{State, Me, step, keeps, Allows, Splits, Joins}
use Rattle.esa_turnstile.specs.declared.view.About.{About}
use Rattle.esa_turnstile.specs.declared.view.Mark.{Mark}
use Rattle.esa_turnstile.specs.declared.view.Member.{Member}
use Rattle.esa_turnstile.specs.declared.view.Sight.{Sight}
use Rattle.esa_turnstile.specs.declared.view.Stage.TheVariants.{Outside}
use Rattle.esa_turnstile.specs.declared.view.View.{View}
use Rattle.esa_turnstile.specs.Entries.{times}
use Rattle.esa_turnstile.specs.Views.{held, added, bears, later, note_of, joined, spent}
use Rattle.esa_turnstile.specs.Lock.{IsCounted, IsEarlier, Fits, Kept}
use Rattle.esa_turnstile.specs.Marks.{IsBelow}
use Rattle.esa_turnstile.specs.Steps.{WasHeard, Hears}
use Rattle.esa_turnstile.proofs.Prefixes.{prefix-length, prefix-refl, prefix-trans, prefix-shorter, times-prefix}
use Rattle.esa_turnstile.proofs.Rising.{below-as}
use Rattle.esa_turnstile.proofs.Rebuilt.{stays}
use Rattle.esa_turnstile.proofs.Reseated.{splits, joins}

abbrev IsOne : Sight → Sight → Type 0
IsOne s t = ((length s.entries ≤ length t.entries) × ((later s t).entries ≡ t.entries) × ((later s t).mark.trail ≡ t.mark.trail))
    ⊎ ((length t.entries ≤ length s.entries) × ((later s t).entries ≡ s.entries) × ((later s t).mark.trail ≡ s.mark.trail))

is-one : (s t : Sight) → IsOne s t
is-one s t = ⊎_elim
    (λ (yes : leb (length s.entries) (length t.entries) ≡ true). inl (leb-true _ _ yes, ap (λ (b : Bool). cond b t.entries s.entries) yes, ap (λ (b : Bool). cond b t.mark.trail s.mark.trail) yes))
    (λ (no : leb (length s.entries) (length t.entries) ≡ false). inr (le_of_lt (leb-false _ _ no), ap (λ (b : Bool). cond b t.entries s.entries) no, ap (λ (b : Bool). cond b t.mark.trail s.mark.trail) no))
    (cases_Bool (leb (length s.entries) (length t.entries)))

later-marked : (marks : ℕ → Mark) → ((i j : ℕ) → i ≤ j → IsBelow (marks i) (marks j)) → (s t : Sight) → s.mark ≡ marks (length s.entries) → t.mark ≡ marks (length t.entries) → (later s t).mark ≡ marks (length (later s t).entries)
later-marked marks rises s t a b = ⊎_elim
    (λ (p : (length s.entries ≤ length t.entries) × ((later s t).entries ≡ t.entries) × ((later s t).mark.trail ≡ t.mark.trail)).
    let r = (below-as _ _ _ _ a b (rises _ _ p.0)).number in let m : max s.mark.number t.mark.number ≡ t.mark.number = omega arith in
    let whole : (later s t).mark ≡ t.mark = λ i. record { number = m i; trail = p.2 i } in whole ∙ (b ∙ ap (λ (z : List ℕ). marks (length z)) (sym p.1)))
    (λ (p : (length t.entries ≤ length s.entries) × ((later s t).entries ≡ s.entries) × ((later s t).mark.trail ≡ s.mark.trail)).
    let r = (below-as _ _ _ _ b a (rises _ _ p.0)).number in let m : max s.mark.number t.mark.number ≡ s.mark.number = omega arith in
    let whole : (later s t).mark ≡ s.mark = λ i. record { number = m i; trail = p.2 i } in whole ∙ (a ∙ ap (λ (z : List ℕ). marks (length z)) (sym p.1)))
    (is-one s t)

abbrev Between : List ℕ → Sight → Sight → List ℕ → Type 0
Between z s t log = IsPrefix z log × IsPrefix s.entries z × IsPrefix t.entries z

later-between : (s t : Sight) (log : List ℕ) → IsPrefix s.entries log → IsPrefix t.entries log → Between (later s t).entries s t log
later-between s t log a b = ⊎_elim
    (λ (p : (length s.entries ≤ length t.entries) × ((later s t).entries ≡ t.entries) × ((later s t).mark.trail ≡ t.mark.trail)). subst (λ (z : List ℕ). Between z s t log) (sym p.1) (b, prefix-shorter s.entries t.entries log a b p.0, prefix-refl t.entries))
    (λ (p : (length t.entries ≤ length s.entries) × ((later s t).entries ≡ s.entries) × ((later s t).mark.trail ≡ s.mark.trail)). subst (λ (z : List ℕ). Between z s t log) (sym p.1) (a, prefix-refl s.entries, prefix-shorter t.entries s.entries log b a p.0))
    (is-one s t)

module _ {T O : Type 0} (log_of : T → List ℕ) (origin : T → O) (IsSound : T → Type 0) (mark : T → Mark) (about : About T) where
  abbrev V : Type 0
  V = View T

  abbrev K : State (Option T) V → Type 0
  K s = Kept log_of origin IsSound mark about s

  note-fits : (log : List ℕ) (marks : ℕ → Mark) (drawn : ℕ) (v : V) → Fits about log marks drawn v → Fits about log marks drawn (note_of v)
  note-fits log marks drawn v f = record {
    told = f.told;
    begins = f.begins;
    heard = All-nil (IsEarlier marks v.seen.entries);
    share = sym (mul-zero about.tickets);
    counts = All-nil (IsCounted about.passes log v.seen.entries);
    single = λ h. absurd (omega arith);
    stage = tt;
  }

  pub notes : (id : ℕ) (v : V) → v.stage ≡ Outside → Splits K id v v (note_of v)
  notes id v out = splits log_of origin IsSound mark about id v v (note_of v) (ap held out) (ap held out) refl (add-zero v.left) (add-zero (length v.members)) (λ x. add-zero (count_by (bears x) v.members))
      (λ log marks drawn f. (f, note-fits log marks drawn v f))

  spent-fits : (log : List ℕ) (marks : ℕ → Mark) (drawn : ℕ) → Fits about log marks drawn spent
  spent-fits log marks drawn = record {
    told = tt;
    begins = (log, refl);
    heard = All-nil (IsEarlier marks []);
    share = sym (mul-zero about.tickets);
    counts = All-nil (IsCounted about.passes log []);
    single = λ h. absurd (omega arith);
    stage = tt;
  }

  earlier-still : (marks : ℕ → Mark) (a b : List ℕ) (hs : List Sight) → IsPrefix a b → All (IsEarlier marks a) hs → All (IsEarlier marks b) hs
  earlier-still marks a b hs p h = All-weaker (IsEarlier marks a) (IsEarlier marks b) (λ (s : Sight) e. record { begins = prefix-trans s.entries a b e.begins p; marked = e.marked }) hs h

  counted-still : (log a b : List ℕ) (ms : List Member) → IsPrefix a b → IsPrefix b log → All (IsCounted about.passes log a) ms → All (IsCounted about.passes log b) ms
  counted-still log a b ms p q h = All-weaker (IsCounted about.passes log a) (IsCounted about.passes log b)
      (λ (m : Member) c. record { below = c.below; in_log = c.in_log; in_seen = let x = times-prefix m.number a b p in let y = times-prefix m.number b log q in let i = c.in_log in let j = c.in_seen in omega arith }) ms h

  told-of : (o : Option (About T)) (P : About T → Type 0) (a : About T) → o ≡ Some a → IfSome o P → P a
  told-of o P a e h = subst (λ (z : Option (About T)). IfSome z P) e h

  told-by : (o : Option (About T)) (P : About T → Type 0) (a : About T) → o ≡ Some a → P a → IfSome o P
  told-by o P a e h = subst (λ (z : Option (About T)). IfSome z P) (sym e) h

  joined-fits : (log : List ℕ) (marks : ℕ → Mark) (drawn : ℕ) → ((i j : ℕ) → i ≤ j → IsBelow (marks i) (marks j)) → (v w : V) → v.about ≡ Some about → w.about ≡ Some about → held v.stage ≡ 0 → held w.stage ≡ 0
      → Fits about log marks drawn v → Fits about log marks drawn w → Fits about log marks drawn (joined v w)
  joined-fits log marks drawn rises v w av aw out out-w f g =
      let b = later-between v.seen w.seen log f.begins g.begins in let z : List ℕ = (later v.seen w.seen).entries in
      let mv = (told-of v.about _ about av f.told).1 in let mw = (told-of w.about _ about aw g.told).1 in record {
        told = told-by v.about (λ a. (a ≡ about) × ((later v.seen w.seen).mark ≡ marks (length z))) about av (refl, later-marked marks rises v.seen w.seen mv mw);
        begins = b.0;
        heard = All-append (IsEarlier marks z) (v.heard ++ w.heard) (v.seen ∷ w.seen ∷ [])
            (All-append (IsEarlier marks z) v.heard w.heard (earlier-still marks v.seen.entries z v.heard b.1 f.heard) (earlier-still marks w.seen.entries z w.heard b.2 g.heard))
            (All-cons (IsEarlier marks z) v.seen (w.seen ∷ []) (record { begins = b.1; marked = mv }) (All-cons (IsEarlier marks z) w.seen [] (record { begins = b.2; marked = mw }) (All-nil (IsEarlier marks z))));
        share = let x = f.share in let y = g.share in let l : about.tickets * length (v.members ++ w.members) ≡ about.tickets * length v.members + about.tickets * length w.members = ap (λ (n : ℕ). about.tickets * n) (length-append v.members w.members) ∙ mul-add about.tickets (length v.members) (length w.members) in
            omega (arith, sum_by-append added v.members w.members);
        counts = All-append (IsCounted about.passes log z) v.members w.members (counted-still log v.seen.entries z v.members b.1 b.0 f.counts) (counted-still log w.seen.entries z w.members b.2 b.0 g.counts);
        single = λ h. absurd (omega arith);
        stage = tt;
      }

  pub meets : (id : ℕ) (v : V) (other : ℕ) (w : V) → v.stage ≡ Outside → w.stage ≡ Outside → v.about ≡ Some about → w.about ≡ Some about → Joins K id v other w (joined v w) spent
  meets id v other w out out-w av aw = joins log_of origin IsSound mark about id v other w (joined v w) spent (ap held out) (ap held out-w) refl refl
      (add-zero (v.left + w.left)) (add-zero (length (v.members ++ w.members)) ∙ length-append v.members w.members)
      (λ x. add-zero (count_by (bears x) (v.members ++ w.members)) ∙ sum_by-append (λ (m : Member). cond (bears x m) 1 0) v.members w.members)
      (λ log marks drawn rises f g. (joined-fits log marks drawn rises v w av aw (ap held out) (ap held out-w) f g, spent-fits log marks drawn))

  pub hears : (slots id : ℕ) (me : Me (Option T) V) → me.0.about ≡ Some about → Allows K slots id me 1 (λ n. n) (Hears (step slots 1 0 0 none) me)
  hears slots id me told s k _ at _ =
      let n : ℕ = get_or s.words 1 0 in let v : V = me.0 in let f = k.fits id v at in
      let marked = (told-of v.about _ about told f.told).1 in (
        v,
        keeps,
        tt,
        stays log_of origin IsSound mark about s k id n v at (ap (λ (z : List ℕ). get_or z 1 0) k.words),
        (
          refl,
          record {
            heard = All-weaker (IsEarlier k.marks v.seen.entries) (WasHeard v.seen)
                (λ (h : Sight) e. record { begins = e.begins; mark = below-as _ _ _ _ e.marked marked (k.rises _ _ (prefix-length h.entries v.seen.entries e.begins)) }) v.heard f.heard;
            counts = All-weaker (IsCounted about.passes k.log v.seen.entries) (λ (m : Member). times m.number v.seen.entries ≡ m.added) (λ (m : Member) c. c.in_seen) v.members f.counts;
          },
        ),
      )

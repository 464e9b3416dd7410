-- Passes that are put into one seat, one after another from the last.
use Rattle.std.proofs.Common.{◌≡◌, List, [], ◌∷◌, ◌++◌, length, All, Contains, refl, sym, ap, ◌∙◌, subst, append_assoc, append-nil, length-append, arith}
use Rattle.std.proofs.lemmas.List.Elements.{All-nil, All-cons, All-weaker, Contains-append_left, Contains-append_right}
use Rattle.esa_turnstile.specs.declared.view.Member.{Member}
use Rattle.esa_turnstile.specs.declared.view.View.{View}
use Rattle.esa_turnstile.specs.declared.pass.Pass.{Pass}
use Rattle.esa_turnstile.specs.Views.{note_of, joined}
use Rattle.esa_turnstile.specs.Passes.{member_of}
use Rattle.esa_turnstile.specs.Closing.{Knows}

here : {A : Type 0} (x : A) → Contains (x ∷ []) x
here x = (0, omega arith, refl)

next-here : {A : Type 0} (x y : A) → Contains (x ∷ y ∷ []) y
next-here x y = (1, omega arith, refl)

module _ {T : Type 0} where
  -- the seat knows all passes but these
  pub record Gathered (v : View T) (others all : List (Pass T)) : Type 0 where
    pub taken : List (Pass T)
    pub parts : all ≡ others ++ taken
    pub knows : All (Knows v) taken
    pub counts : length v.members ≡ length taken

  knows-itself : (v : View T) (p : Pass T) → Knows (joined v p.seat.me.0) p
  knows-itself v p = (
    Contains-append_right v.members p.seat.me.0.members (member_of p) (subst (λ (z : List Member). Contains z (member_of p)) (sym p.member) (here (member_of p))),
    Contains-append_right (v.heard ++ p.seat.me.0.heard) (v.seen ∷ p.seat.me.0.seen ∷ []) p.seat.me.0.seen (next-here v.seen p.seat.me.0.seen),
  )

  knows-still : (v : View T) (p q : Pass T) → Knows v q → Knows (joined v p.seat.me.0) q
  knows-still v p q k = (
    Contains-append_left v.members p.seat.me.0.members (member_of q) k.0,
    Contains-append_left (v.heard ++ p.seat.me.0.heard) (v.seen ∷ p.seat.me.0.seen ∷ []) q.seat.me.0.seen (Contains-append_left v.heard p.seat.me.0.heard q.seat.me.0.seen k.1),
  )

  gathered-none : (v w : View T) (all : List (Pass T)) → v ≡ note_of w → Gathered v all all
  gathered-none v w all e = record { taken = []; parts = sym (append-nil all); knows = All-nil (Knows v); counts = ap (λ (z : View T). length z.members) e }

  gathered-one : (v : View T) (p : Pass T) (before others all : List (Pass T)) → before ≡ others ++ p ∷ [] → Gathered v before all → Gathered (joined v p.seat.me.0) others all
  gathered-one v p before others all e h = record {
    taken = p ∷ h.taken;
    parts = h.parts ∙ (ap (λ (z : List (Pass T)). z ++ h.taken) e ∙ append_assoc others (p ∷ []) h.taken);
    knows = All-cons (Knows (joined v p.seat.me.0)) p h.taken (knows-itself v p) (All-weaker (Knows v) (Knows (joined v p.seat.me.0)) (λ q k. knows-still v p q k) h.taken h.knows);
    counts = let c = h.counts in let l : length p.seat.me.0.members ≡ 1 = ap length p.member in omega (arith, length-append v.members p.seat.me.0.members);
  }

  -- w is what came of the join
  pub gathers : (v w : View T) (p : Pass T) (before others all : List (Pass T)) → before ≡ others ++ p ∷ [] → w ≡ joined v p.seat.me.0 → Gathered v before all → Gathered w others all
  gathers v w p before others all e f h = subst (λ (z : View T). Gathered z others all) (sym f) (gathered-one v p before others all e h)

  pub gathers-first : (n w : View T) (p : Pass T) (others all : List (Pass T)) → all ≡ others ++ p ∷ [] → n ≡ note_of p.seat.me.0 → w ≡ joined n p.seat.me.0 → Gathered w others all
  gathers-first n w p others all e f g = gathers n w p all others all e g (gathered-none n p.seat.me.0 all f)

  pub gathered-all : (v : View T) (others all : List (Pass T)) → others ≡ [] → Gathered v others all → All (Knows v) all × (length v.members ≡ length all)
  gathered-all v others all e h = let same : all ≡ h.taken = h.parts ∙ ap (λ (z : List (Pass T)). z ++ h.taken) e in (subst (All (Knows v)) (sym same) h.knows, h.counts ∙ ap length (sym same))

pub nothing-left : {A : Type 0} (xs : List A) → length xs ≡ 0 → xs ≡ []
nothing-left [] e = refl
nothing-left (x ∷ xs) e = absurd (omega arith)

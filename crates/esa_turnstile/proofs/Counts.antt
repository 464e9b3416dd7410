-- What a pass knows of its own number.
use Rattle.std.proofs.Common.{◌≡◌, ℕ, List, [], ◌∷◌, ◌++◌, All, sym, ap, ◌∙◌, subst}
use Rattle.std.proofs.lemmas.List.Elements.{All-head, All-tail}
use Rattle.esa_turnstile.specs.declared.view.Member.{Member}
use Rattle.esa_turnstile.specs.Entries.{times}
use Rattle.esa_turnstile.specs.declared.view.Sight.{Sight}
use Rattle.esa_turnstile.specs.declared.view.View.{View}
use Rattle.esa_turnstile.specs.Views.{one, first_added, latest, with_ticket, entered, note_of, joined}
use Rattle.esa_turnstile.specs.Steps.{WasHeard}

-- its number stands in these entries as often as it added it
pub own : (n : ℕ) (entries : List ℕ) (ms : List Member) → ms ≡ one n (first_added ms) → All (λ m. times m.number entries ≡ m.added) ms → times n entries ≡ first_added ms
own n entries ms alone h = All-head (λ (m : Member). times m.number entries ≡ m.added) (record { number = n; added = first_added ms }) [] (subst (All (λ (m : Member). times m.number entries ≡ m.added)) alone h)

pub found-after : {T : Type 0} (n t : ℕ) (v w u : View T) (s : Sight) → v.members ≡ one n (first_added v.members) → w ≡ with_ticket v t → u ≡ entered w s
    → All (λ m. times m.number s.entries ≡ m.added) w.members → times n (latest u).entries ≡ first_added u.members
found-after {T} n t v w u s alone drew got h =
    subst (λ (z : View T). times n (latest z).entries ≡ first_added z.members) (sym got)
    (own n s.entries w.members (subst (λ (z : View T). z.members ≡ one n (first_added z.members)) (sym drew) alone) h)

pub counted-after : {T : Type 0} (n t : ℕ) (v w u : View T) (s : Sight) → w ≡ with_ticket v t → u ≡ entered w s → times n v.seen.entries ≡ first_added v.members
    → times n u.seen.entries ≡ first_added u.members
counted-after {T} n t v w u s drew got h =
    subst (λ (z : View T). times n z.seen.entries ≡ first_added z.members) (sym got)
    (subst (λ (z : View T). times n z.seen.entries ≡ first_added z.members) (sym drew) h)

all-right : (P : Sight → Type 0) (xs ys : List Sight) → All P (xs ++ ys) → All P ys
all-right P [] ys h = h
all-right P (x ∷ xs) ys h = all-right P xs ys (All-tail P x (xs ++ ys) h)

module _ {T : Type 0} where
  -- a pass into which a note was joined stands for itself alone
  pub still-one : (N : ℕ) (v w n u : View T) → v.members ≡ one N (first_added v.members) → n ≡ note_of w → u ≡ joined v n → u.members ≡ one N (first_added u.members)
  still-one N v w n u alone noted met =
      let e : u.members ≡ one N (first_added v.members) = ap (λ (z : View T). z.members) met ∙ (ap (λ (z : View T). v.members ++ z.members) noted ∙ ap (λ (z : List Member). z ++ []) alone) in
      e ∙ ap (one N) (sym (ap first_added e))

  -- outside, a pass saw last what it has seen
  pub saw-last : (N : ℕ) (v n u : View T) → u ≡ joined v n → times N u.seen.entries ≡ first_added u.members → times N (latest u).entries ≡ first_added u.members
  saw-last N v n u met = subst (λ (z : View T). times N z.seen.entries ≡ first_added z.members → times N (latest z).entries ≡ first_added z.members) (sym met) (λ h. h)

  -- it has heard of what both had seen
  pub heard-both : (v w n u : View T) → n ≡ note_of w → u ≡ joined v n → All (WasHeard u.seen) u.heard → WasHeard u.seen v.seen × WasHeard u.seen w.seen
  heard-both v w n u noted met h =
      let P : Sight → Type 0 = WasHeard u.seen in
      let h' : All P ((v.heard ++ n.heard) ++ v.seen ∷ n.seen ∷ []) = subst (λ (z : List Sight). All P z) (ap (λ (z : View T). z.heard) met) h in
      let two : All P (v.seen ∷ n.seen ∷ []) = all-right P (v.heard ++ n.heard) (v.seen ∷ n.seen ∷ []) h' in
      (All-head P v.seen (n.seen ∷ []) two, subst (λ (z : View T). P z.seen) noted (All-head P n.seen [] (All-tail P v.seen (n.seen ∷ []) two)))

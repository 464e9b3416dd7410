-- What a close keeps: the senders' passes come back, and what waits is taken.
use Rattle.std.proofs.Common.{◌≡◌, ℕ, List, [], ◌∷◌, ◌++◌, map, sym, refl, ap, ◌∙◌, subst, append_assoc, append-nil, arith}
use Rattle.std.specs.Prelude.{All}
use Rattle.std.specs.List.{sum_by}
use Rattle.std.specs.List.Sorted.{IsPermutation}
use Rattle.std.proofs.lemmas.List.{length-append, length-map, map-append, get_or-map, get_or_append_left}
use Rattle.std.proofs.lemmas.List.Elements.{All-head, All-tail}
use Rattle.std.proofs.lemmas.List.Sorted.{All-permutation, IsPermutation-append_comm, IsPermutation-append_right, IsPermutation-map, IsPermutation-sym, IsPermutation-trans, sum_by-IsPermutation}
use Rattle.std.proofs.lemmas.List.Sums.{sum_by-cons}
use Rattle.crossbeam_queue.specs.Passes.{view}
use Rattle.esa_params.specs.declared.form.Form.{Form}
use Rattle.esa_intake.specs.declared.sealed.Sealed.{Sealed}
use Rattle.esa_intake.specs.declared.hand.Hand.{Hand}
use Rattle.esa_intake.specs.declared.hand.Closed.{Closed}
use Rattle.esa_intake.specs.declared.intake.Sender.{Sender}
use Rattle.esa_intake.specs.declared.intake.Taker.{Taker}
use Rattle.esa_intake.specs.Keeping.{IsSealedOf, envelopes, put_by, TakerSees}
use Rattle.esa_intake.specs.Standing.{number_of, put_of, senders_of, taken_of, numbers, closed_of, closed_of_taker, AreAll, KeepsEach, KeepsOrder, TakerRest}
use Rattle.esa_intake.proofs.Counts.{seen-closed}

pub last_of : {X : Type 0} (P : X → Type 0) (xs : List X) (x : X) → All P (xs ++ x ∷ []) → P x
last_of P [] x all = All-head P x [] all
last_of P (y ∷ ys) x all = last_of P ys x (All-tail P y (ys ++ x ∷ []) all)

pub front_of : {X : Type 0} (P : X → Type 0) (xs : List X) (x : X) → All P (xs ++ x ∷ []) → All P xs
front_of P xs x all = λ k d below. subst P (get_or_append_left xs (x ∷ []) d k below) (all k d (omega (arith, length-append xs (x ∷ []))))

-- one sender more is given back
pub moved_back : (closed : List Closed) (front : List Sender) (sender : Sender) (whole : List Closed) → IsPermutation (closed ++ map closed_of (front ++ sender ∷ [])) whole → IsPermutation ((closed ++ closed_of sender ∷ []) ++ map closed_of front) whole
moved_back closed front sender whole before =
    let one : List Closed = closed_of sender ∷ [] in
    let others : List Closed = map closed_of front in
    let core : IsPermutation (closed ++ (one ++ others)) (closed ++ (others ++ one)) = IsPermutation-append_right closed (one ++ others) (others ++ one) (IsPermutation-append_comm one others) in
    let step : IsPermutation ((closed ++ one) ++ others) (closed ++ map closed_of (front ++ sender ∷ [])) =
    subst (λ (v : List Closed × List Closed). IsPermutation v.0 v.1) (λ i. (sym (append_assoc closed one others) i, closed ++ sym (map-append closed_of front (sender ∷ [])) i)) core in
    IsPermutation-trans _ _ _ step before

-- what is taken last, where nothing waits any more
pub seen_rest : (hand later : Hand) (rest left : List Sealed) → later ≡ record hand { taken = hand.taken ++ rest } → hand.put ≡ [] → IsPermutation (numbers hand.senders) (map (λ (c : Closed). c.number) hand.closed) → left ≡ [] → TakerSees later left
    → (log : List (ℕ × Sealed)) × (envelopes log ≡ hand.taken ++ rest) × All (λ (c : Closed). c.put ≡ put_by c.number log) hand.closed
    × ((f : Sealed → ℕ) → sum_by f (envelopes log) ≡ sum_by (λ (c : Closed). sum_by f c.put) hand.closed)
    × All (IsSealedOf hand.form) (envelopes log)
seen_rest hand later rest left is none all nothing sees =
    let now : Hand = record hand { taken = hand.taken ++ rest } in
    let here : TakerSees now [] = subst (λ (v : Hand × List Sealed). TakerSees v.0 v.1) (λ i. (is i, nothing i)) sees in
    (here.0, here.1 ∙ append-nil (hand.taken ++ rest), here.3, seen-closed now [] here none all, here.5)

number_back : (senders : List Sender) → map (λ (c : Closed). c.number) (map closed_of senders) ≡ map number_of senders
number_back [] = refl
number_back (sender ∷ senders) = ap (λ ns. number_of sender ∷ ns) (number_back senders)

-- every sender was given back
pub all_back : (taker now : Taker) (senders : List Sender) → AreAll taker senders → senders_of now ≡ senders_of taker → IsPermutation (closed_of_taker now) (map closed_of senders) → IsPermutation (numbers (senders_of now)) (map (λ (c : Closed). c.number) (closed_of_taker now))
all_back taker now senders all same back =
    let numbered : IsPermutation (map (λ (c : Closed). c.number) (closed_of_taker now)) (map (λ (c : Closed). c.number) (map closed_of senders)) = IsPermutation-map (λ (c : Closed). c.number) _ _ back in
    let of_senders : IsPermutation (map (λ (c : Closed). c.number) (closed_of_taker now)) (map number_of senders) = subst (IsPermutation (map (λ (c : Closed). c.number) (closed_of_taker now))) (number_back senders) numbered in
    subst (λ n. IsPermutation (numbers n) (map (λ (c : Closed). c.number) (closed_of_taker now))) (sym same) (IsPermutation-trans _ _ _ all (IsPermutation-sym _ _ of_senders))

sum-back : (f : Sealed → ℕ) (senders : List Sender) → sum_by (λ (c : Closed). sum_by f c.put) (map closed_of senders) ≡ sum_by (λ sender. sum_by f (put_of sender)) senders
sum-back f [] = refl
sum-back f (sender ∷ senders) = omega (arith, sum_by-cons (λ (c : Closed). sum_by f c.put) (closed_of sender) (map closed_of senders), sum_by-cons (λ s. sum_by f (put_of s)) sender senders, sum-back f senders)

pub keeps_each : (taker now : Taker) (senders : List Sender) (rest : List Sealed) → taken_of now ≡ taken_of taker → IsPermutation (closed_of_taker now) (map closed_of senders) → TakerRest now rest → KeepsEach senders (taken_of taker ++ rest)
keeps_each taker now senders rest same back kept = λ f.
    ap (λ taken. sum_by f (taken ++ rest)) (sym same)
    ∙ ap (sum_by f) (sym kept.1)
    ∙ kept.3 f
    ∙ sym (sum_by-IsPermutation (λ (c : Closed). sum_by f c.put) _ _ back)
    ∙ sum-back f senders

pub keeps_order : (taker now : Taker) (senders : List Sender) (rest : List Sealed) → taken_of now ≡ taken_of taker → IsPermutation (closed_of_taker now) (map closed_of senders) → TakerRest now rest → KeepsOrder senders (taken_of taker ++ rest)
keeps_order taker now senders rest same back kept =
    let log = kept.0 in
    let own : Closed → Type 0 = λ c. c.put ≡ put_by c.number log in
    let each : All own (map closed_of senders) = All-permutation own _ _ back kept.2 in (
      log,
      kept.1 ∙ ap (λ taken. taken ++ rest) same,
      λ k d below. subst own (get_or-map closed_of senders k d (closed_of d) below) (each k (closed_of d) (omega (arith, length-map senders closed_of))),
    )

pub keeps_form : (form : Form) (taker now : Taker) (rest : List Sealed) → taken_of now ≡ taken_of taker → (view now.pass).form ≡ form → TakerRest now rest → All (IsSealedOf form) (taken_of taker ++ rest)
keeps_form form taker now rest same is kept =
    subst (λ (f : Form). All (IsSealedOf f) (taken_of taker ++ rest)) is
    (subst (All (IsSealedOf (view now.pass).form)) (kept.1 ∙ ap (λ taken. taken ++ rest) same) kept.4)

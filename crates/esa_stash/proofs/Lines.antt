-- Lines that grow by the items that come.
use Rattle.std.proofs.Common.{◌≡◌, ℕ, zero, suc, ◌+◌, ◌<◌, ◌≤◌, List, [], ◌∷◌, ◌++◌, length, get_or, map, take, drop, min, sum_by, eqb, Bool, true, false, cond, refl, sym, ap, ap₂, subst, ◌∙◌, arith, inl, inr}
use Rattle.std.proofs.lemmas.List.{append-nil, append_assoc, length-append, length-take, length-drop, length-map, take_more, take-append-drop}
use Rattle.std.proofs.lemmas.List.Folds.{fold-map}
use Rattle.std.proofs.lemmas.List.FromFn.{fill_by_all}
use Rattle.std.proofs.lemmas.Bool.{cases_eq, cases_lt, eq-eqb, ne_eqb}
use Rattle.esa_stash.specs.Sizes.{below}
use Rattle.esa_stash.specs.Draws.{chosen}
use Rattle.esa_report.specs.declared.item.Item.{Item}
use Rattle.esa_report.specs.Item.{dummy_item}
use Rattle.esa_stash.specs.Arena.{Arena, queues_of, items_in}
use Rattle.esa_stash.specs.Dealing.{queue_of, line_after, left_of, with_item, IsDealt, AreDealt}
use Rattle.esa_laws.proofs.Ranges.{sum-below-same}
use Rattle.esa_stash.proofs.TotalLemmas.{sum_by-below}

-- the chosen of two lists, one behind the other
chosen-append : (i : ℕ) (ts us : List ℕ) (xs ys : List Item) → length ts ≡ length xs → chosen i (ts ++ us) (xs ++ ys) ≡ chosen i ts xs ++ chosen i us ys
chosen-append i [] us [] ys long = refl
chosen-append i [] us (x ∷ xs) ys long = absurd (omega arith)
chosen-append i (t ∷ ts) us [] ys long = absurd (omega arith)
chosen-append i (t ∷ ts) us (x ∷ xs) ys long = both (eqb t i) (chosen-append i ts us xs ys (omega arith))
  where
    both : (b : Bool) → chosen i (ts ++ us) (xs ++ ys) ≡ chosen i ts xs ++ chosen i us ys → cond b (x ∷ chosen i (ts ++ us) (xs ++ ys)) (chosen i (ts ++ us) (xs ++ ys)) ≡ cond b (x ∷ chosen i ts xs) (chosen i ts xs) ++ chosen i us ys
    both true rest = ap (λ (l : List Item). x ∷ l) rest
    both false rest = rest

-- sums of what is no greater anywhere
pub sum_by-least : (f g : ℕ → ℕ) (n : ℕ) → ((i : ℕ) → f i ≤ g i) → sum_by f (below n) ≤ sum_by g (below n)
sum_by-least f g zero each = omega arith
sum_by-least f g (suc n) each =
    let more : suc n ≡ n + 1 = omega arith in
    let rest = sum_by-least f g n each in
    let last = each n in
    let left = ap (λ (k : ℕ). sum_by f (below k)) more ∙ sum_by-below f n in
    let right = ap (λ (k : ℕ). sum_by g (below k)) more ∙ sum_by-below g n in
    omega arith

sum_by-less : (f g : ℕ → ℕ) (n t : ℕ) → ((i : ℕ) → f i ≤ g i) → t < n → f t < g t → sum_by f (below n) < sum_by g (below n)
sum_by-less f g zero t each inside less = absurd (omega arith)
sum_by-less f g (suc n) t each inside less =
    let more : suc n ≡ n + 1 = omega arith in
    let last = each n in
    let left = ap (λ (k : ℕ). sum_by f (below k)) more ∙ sum_by-below f n in
    let right = ap (λ (k : ℕ). sum_by g (below k)) more ∙ sum_by-below g n in
    elim (cases_lt t n) [
      | inl before ↦ let rest = sum_by-less f g n t each before less in omega arith
      | inr at_end ↦
          let same : t ≡ n = omega arith in
          let strict = subst (λ (m : ℕ). f m < g m) same less in
          let rest = sum_by-least f g n each in
          omega arith
    ]

-- the queues, one after another
pub queues_are : (arena : Arena) → queues_of arena ≡ map (queue_of arena) (below (length arena.chains))
queues_are arena = fill_by_all (queue_of arena) (queues_of arena) (length arena.chains) [] (length-map arena.chains items_in) (λ i inside. refl)

pub queued_together : (arena : Arena) (b : ℕ) → length arena.chains ≡ b → sum_by length (queues_of arena) ≡ sum_by (λ i. length (queue_of arena i)) (below b)
queued_together arena b chains =
    ap (sum_by length) (queues_are arena)
    ∙ fold-map (λ (a : ℕ) (q : List Item). a + length q) (queue_of arena) 0 (below (length arena.chains))
    ∙ ap (λ (n : ℕ). sum_by (λ i. length (queue_of arena i)) (below n)) chains

-- one item more comes
module _ (arena : Arena) (ts : List ℕ) (xs : List Item) (k : ℕ) (t : ℕ) (x : Item) (long : length xs ≡ length ts) (inside : k < length ts)
    (t_is : t ≡ get_or ts k 0) (x_is : x ≡ get_or xs k dummy_item)
  where
    grown : (i : ℕ) → chosen i (take (k + 1) ts) (take (k + 1) xs) ≡ chosen i (take k ts) (take k xs) ++ cond (eqb t i) (x ∷ []) []
    grown i =
        let both : length (take k ts) ≡ length (take k xs) = length-take k ts ∙ ap (min k) (sym long) ∙ sym (length-take k xs) in
        ap₂ (λ (l : List ℕ) (m : List Item). chosen i l m)
        (take_more ts k 0 inside ∙ ap (λ (y : ℕ). take k ts ++ y ∷ []) (sym t_is))
        (take_more xs k dummy_item (omega arith) ∙ ap (λ (y : Item). take k xs ++ y ∷ []) (sym x_is))
        ∙ chosen-append i (take k ts) (t ∷ []) (take k xs) (x ∷ []) both

    pub line_grows : (i : ℕ) → with_item (line_after arena (take k ts) (take k xs)) t x i ≡ line_after arena (take (k + 1) ts) (take (k + 1) xs) i
    line_grows i = elim (cases_eq i t) [
      | inl same ↦
          let here : cond (eqb i t) (line_after arena (take k ts) (take k xs) i ++ x ∷ []) (line_after arena (take k ts) (take k xs) i) ≡ line_after arena (take k ts) (take k xs) i ++ x ∷ [] =
          ap (λ (b : Bool). cond b (line_after arena (take k ts) (take k xs) i ++ x ∷ []) (line_after arena (take k ts) (take k xs) i)) (eq-eqb i t same)
          in
          let new = ap (λ (b : Bool). cond {A = List Item} b (x ∷ []) []) (eq-eqb t i (sym same)) in
          here
          ∙ append_assoc (queue_of arena i) (chosen i (take k ts) (take k xs)) (x ∷ [])
          ∙ ap (λ (l : List Item). queue_of arena i ++ (chosen i (take k ts) (take k xs) ++ l)) (sym new)
          ∙ ap (λ (l : List Item). queue_of arena i ++ l) (sym (grown i))
      | inr other ↦
          let there : cond (eqb i t) (line_after arena (take k ts) (take k xs) i ++ x ∷ []) (line_after arena (take k ts) (take k xs) i) ≡ line_after arena (take k ts) (take k xs) i =
          ap (λ (b : Bool). cond b (line_after arena (take k ts) (take k xs) i ++ x ∷ []) (line_after arena (take k ts) (take k xs) i)) (ne_eqb i t other)
          in
          let none = ap (λ (b : Bool). cond {A = List Item} b (x ∷ []) []) (ne_eqb t i (λ e. other (sym e))) in
          there
          ∙ ap (λ (l : List Item). queue_of arena i ++ l) (sym (append-nil (chosen i (take k ts) (take k xs))))
          ∙ ap (λ (l : List Item). queue_of arena i ++ (chosen i (take k ts) (take k xs) ++ l)) (sym none)
          ∙ ap (λ (l : List Item). queue_of arena i ++ l) (sym (grown i))
    ]

    pub all_grow : (b c : ℕ) (after : Arena) (chunks : List Item) (counts : List ℕ) → AreDealt b c (with_item (line_after arena (take k ts) (take k xs)) t x) after chunks counts → AreDealt b c (line_after arena (take (k + 1) ts) (take (k + 1) xs)) after chunks counts
    all_grow b c after chunks counts dealt i below_b = subst (λ (l : List Item). IsDealt c l after chunks counts i) (line_grows i) (dealt i below_b)

    -- a line is no longer than it becomes, and the one that grows is shorter
    so_long : (i : ℕ) → length (line_after arena (take k ts) (take k xs) i) + (cond (eqb t i) 1 0) ≤ length (line_after arena ts xs i)
    so_long i =
        let now = length-append (queue_of arena i) (chosen i (take k ts) (take k xs)) in
        let whole = length-append (queue_of arena i) (chosen i ts xs) in
        let more = ap length (grown i) ∙ length-append (chosen i (take k ts) (take k xs)) (cond (eqb t i) (x ∷ []) []) in
        let one = count_one (eqb t i) in
        let all = ap length (front i) ∙ length-append (chosen i (take (k + 1) ts) (take (k + 1) xs)) (chosen i (drop (k + 1) ts) (drop (k + 1) xs)) in
        omega arith
      where
        count_one : (b : Bool) → length (cond {A = List Item} b (x ∷ []) []) ≡ cond b 1 0
        count_one true = refl
        count_one false = refl

        front : (i : ℕ) → chosen i ts xs ≡ chosen i (take (k + 1) ts) (take (k + 1) xs) ++ chosen i (drop (k + 1) ts) (drop (k + 1) xs)
        front i =
            let both : length (take (k + 1) ts) ≡ length (take (k + 1) xs) = length-take (k + 1) ts ∙ ap (min (k + 1)) (sym long) ∙ sym (length-take (k + 1) xs) in
            ap₂ (λ (l : List ℕ) (m : List Item). chosen i l m) (sym (take-append-drop (k + 1) ts)) (sym (take-append-drop (k + 1) xs))
            ∙ chosen-append i (take (k + 1) ts) (drop (k + 1) ts) (take (k + 1) xs) (drop (k + 1) xs) both

    -- where a line fills its chunk, one more of it stays in the end
    pub room_left : (b c : ℕ) (after : Arena) (chunks : List Item) (counts : List ℕ) → length after.chains ≡ b → t < b → AreDealt b c (line_after arena (take k ts) (take k xs)) after chunks counts → get_or counts t 0 ≡ c
        → sum_by length (queues_of after) < sum_by (left_of c (line_after arena ts xs)) (below b)
    room_left b c after chunks counts chains t_in dealt full =
        let taken = length-take c (line_after arena (take k ts) (take k xs) t) in
        let count = (dealt t t_in).count in
        let longer = so_long t in
        let one = ap (λ (b : Bool). cond {A = ℕ} b 1 0) (eq-eqb t t refl) in
        let left_now = length-drop c (line_after arena (take k ts) (take k xs) t) in
        let left_then = length-drop c (line_after arena ts xs t) in
        let less : left_of c (line_after arena (take k ts) (take k xs)) t < left_of c (line_after arena ts xs) t = omega arith in
        let each : (i : ℕ) → left_of c (line_after arena (take k ts) (take k xs)) i ≤ left_of c (line_after arena ts xs) i =
        λ i. (let long_i = so_long i in let a = length-drop c (line_after arena (take k ts) (take k xs) i) in let b = length-drop c (line_after arena ts xs i) in omega arith)
        in
        let now = queued_together after b chains ∙ sum-below-same (λ i. length (queue_of after i)) (left_of c (line_after arena (take k ts) (take k xs))) b (λ i inside. ap length (dealt i inside).queue) in
        let sums = sum_by-less (left_of c (line_after arena (take k ts) (take k xs))) (left_of c (line_after arena ts xs)) b t each t_in less in
        omega arith

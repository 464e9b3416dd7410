-- Lines that are dealt out: a queue more, and an item more.
use Rattle.std.proofs.Common.{◌≡◌, ◌≢◌, ℕ, suc, ◌+◌, ◌-◌, ◌*◌, ◌<◌, ◌≤◌, List, [], ◌∷◌, ◌++◌, length, get_or, set, map, take, drop, replicate, sum_by, Bool, cond, refl, sym, ap, subst, ◌∙◌, arith, inl, inr, get_or-set_other, get_or-set_same}
use Rattle.std.proofs.lemmas.List.{length-take, length-append, length-map, take_all, drop_all, take-append-le, drop-append-le, set_at, append_assoc}
use Rattle.std.proofs.lemmas.Bool.{cases_lt, cases_eq, eq-eqb, ne_eqb}
use borrow.Rule.Slice.PartMut.{put_mid}
use Rattle.esa_report.specs.declared.item.Item.{Item}
use Rattle.esa_report.specs.Item.{dummy_item}
use Rattle.std.proofs.lemmas.List.Sums.{sum_by-cons}
use Rattle.esa_stash.specs.Arena.{Arena, queues_of, pushed, cells_in, items_in, IsShared}
use Rattle.esa_stash.specs.Stash.{padded}
use Rattle.esa_stash.specs.Dealing.{queue_of, ChangesQueue, chunk_at, IsDealt, AreDealt, with_item}
use Rattle.esa_stash.proofs.Rows.{chunk_at-put, chunk_at-put_later, chunk_at-set, chunk_at-set_other}
use Rattle.esa_stash.proofs.Drawing.{length-padded, queue_changed, queues_of-pushed}

-- another queue stays
pub queue_other : (old new : Arena) (i j : ℕ) (items : List Item) → j ≢ i → ChangesQueue old new i items → queue_of new j ≡ queue_of old j
queue_other old new i j items other changes =
    ap (λ (qs : List (List Item)). get_or qs j []) changes.queues ∙ get_or-set_other (queues_of old) i j items [] other

-- the i-th queue is dealt out too
module _ (c b : ℕ) (old now new : Arena) (chunks part : List Item) (counts : List ℕ) (i k : ℕ)
    (long : length chunks ≡ b * c) (many : length counts ≡ b) (chains : length now.chains ≡ b) (inside : i < b)
    (dealt : AreDealt i c (queue_of old) now chunks counts)
    (later : (j : ℕ) → i ≤ j → queue_of now j ≡ queue_of old j)
    (changes : ChangesQueue now new i (drop c (queue_of now i)))
    (part_is : part ≡ padded c (take c (queue_of now i)))
  where
    earlier : (j : ℕ) → j < i → IsDealt c (queue_of old j) new (put_mid (i * c) k chunks part) (set counts i (length (take c (queue_of now i)))) j
    earlier j before =
        let so_far = dealt j before in
        let other : j ≢ i = λ e. absurd (omega arith) in
        record {
          queue = queue_other now new i j (drop c (queue_of now i)) other changes ∙ so_far.queue;
          chunk = chunk_at-put_later c b chunks part i j k long inside before ∙ so_far.chunk;
          count = get_or-set_other counts i j (length (take c (queue_of now i))) 0 other ∙ so_far.count;
        }

    here : IsDealt c (queue_of old i) new (put_mid (i * c) k chunks part) (set counts i (length (take c (queue_of now i)))) i
    here =
        let same = later i (omega arith) in
        let taken = length-take c (queue_of now i) in
        let full : length part ≡ c = ap length part_is ∙ length-padded c (take c (queue_of now i)) (omega arith) in
        record {
          queue = queue_changed now new i (drop c (queue_of now i)) (omega arith) changes ∙ ap (drop c) same;
          chunk = chunk_at-put c b chunks part i k long inside full ∙ part_is ∙ ap (λ (q : List Item). padded c (take c q)) same;
          count = get_or-set_same counts i (length (take c (queue_of now i))) 0 (omega arith) ∙ ap (λ (q : List Item). length (take c q)) same;
        }

    pub AreDealt-more : AreDealt (i + 1) c (queue_of old) new (put_mid (i * c) k chunks part) (set counts i (length (take c (queue_of now i))))
    AreDealt-more j below = elim (cases_lt j i) [
      | inl before ↦ earlier j before
      | inr last ↦
          let same : i ≡ j = omega arith in
          subst (λ (m : ℕ). IsDealt c (queue_of old m) new (put_mid (i * c) k chunks part) (set counts i (length (take c (queue_of now i)))) m) same here
    ]

    pub later-more : (j : ℕ) → i + 1 ≤ j → queue_of new j ≡ queue_of old j
    later-more j after =
        queue_other now new i j (drop c (queue_of now i)) (λ e. absurd (omega arith)) changes ∙ later j (omega arith)

-- a line with an item behind it, and the lines without
with_here : (line : ℕ → List Item) (target : ℕ) (item : Item) → with_item line target item target ≡ line target ++ item ∷ []
with_here line target item = ap (λ (t : Bool). cond t (line target ++ item ∷ []) (line target)) (eq-eqb target target refl)

with_other : (line : ℕ → List Item) (target : ℕ) (item : Item) (i : ℕ) → i ≢ target → with_item line target item i ≡ line i
with_other line target item i other = ap (λ (t : Bool). cond t (line i ++ item ∷ []) (line i)) (ne_eqb i target other)

-- each line is dealt out where that of the target is, and the others stay as they were
all_dealt : (b c : ℕ) (line : ℕ → List Item) (target : ℕ) (item : Item) (old new : Arena) (chunks chunks' : List Item) (counts counts' : List ℕ)
    → AreDealt b c line old chunks counts
    → IsDealt c (line target ++ item ∷ []) new chunks' counts' target
    → ((i : ℕ) → i ≢ target → (queue_of new i ≡ queue_of old i) × (chunk_at c chunks' i ≡ chunk_at c chunks i) × (get_or counts' i 0 ≡ get_or counts i 0))
    → AreDealt b c (with_item line target item) new chunks' counts'
all_dealt b c line target item old new chunks chunks' counts counts' dealt here others i inside = elim (cases_eq i target) [
  | inl same ↦
      let mine : IsDealt c (with_item line target item target) new chunks' counts' target =
      subst (λ (l : List Item). IsDealt c l new chunks' counts' target) (sym (with_here line target item)) here
      in
      subst (λ (k : ℕ). IsDealt c (with_item line target item k) new chunks' counts' k) (sym same) mine
  | inr other ↦
      let so_far = dealt i inside in
      let stay = others i other in
      let is = with_other line target item i other in
      record {
        queue = stay.0 ∙ so_far.queue ∙ ap (drop c) (sym is);
        chunk = stay.1 ∙ so_far.chunk ∙ ap (λ (l : List Item). padded c (take c l)) (sym is);
        count = stay.2 ∙ so_far.count ∙ ap (λ (l : List Item). length (take c l)) (sym is);
      }
]

-- the item goes into the chunk, where a place is left
module _ (b c : ℕ) (line : ℕ → List Item) (target : ℕ) (item : Item) (arena : Arena) (chunks : List Item) (counts : List ℕ)
    (many : length counts ≡ b) (inside : target < b)
    (dealt : AreDealt b c line arena chunks counts)
    (place : get_or counts target 0 < c)
  where
    abbrev before : List Item
    before = line target

    whole : length before ≡ get_or counts target 0
    whole = let count = (dealt target inside).count in let some = length-take c before in omega arith

    in_place : set (padded c (take c before)) (get_or counts target 0) item ≡ padded c (take c (before ++ item ∷ []))
    in_place =
        let is = whole in
        let longer = length-append before (item ∷ []) in
        let all = take_all c before (omega arith) in
        let all_longer = take_all c (before ++ item ∷ []) (omega arith) in
        let rest = c - length (before ++ item ∷ []) in
        let one : c - length before ≡ suc (c - length (before ++ item ∷ [])) = omega arith in
        ap (λ (l : List Item). set (padded c l) (get_or counts target 0) item) all
        ∙ ap (λ (k : ℕ). set (before ++ replicate k dummy_item) (get_or counts target 0) item) one
        ∙ set_at before dummy_item (replicate rest dummy_item) item (get_or counts target 0) is
        ∙ sym (append_assoc before (item ∷ []) (replicate rest dummy_item))
        ∙ ap (padded c) (sym all_longer)

    pub in_chunk : AreDealt b c (with_item line target item) arena (set chunks (target * c + get_or counts target 0) item) (set counts target (get_or counts target 0 + 1))
    in_chunk =
        let is = whole in
        let so_far = dealt target inside in
        let longer = length-append before (item ∷ []) in
        all_dealt b c line target item arena arena chunks (set chunks (target * c + get_or counts target 0) item) counts (set counts target (get_or counts target 0 + 1)) dealt
        (record {
          queue = so_far.queue ∙ drop_all c before (omega arith) ∙ sym (drop_all c (before ++ item ∷ []) (omega arith));
          chunk = chunk_at-set c chunks target (get_or counts target 0) item place ∙ ap (λ (l : List Item). set l (get_or counts target 0) item) so_far.chunk ∙ in_place;
          count =
              get_or-set_same counts target (get_or counts target 0 + 1) 0 (omega arith)
              ∙ (let all : length (take c (before ++ item ∷ [])) ≡ length (before ++ item ∷ []) = ap length (take_all c (before ++ item ∷ []) (omega arith)) in omega arith);
        })
        (λ i other. (refl, chunk_at-set_other c chunks target i (get_or counts target 0) item place other, get_or-set_other counts target i (get_or counts target 0 + 1) 0 other))

-- the item goes behind the queue, where none is left
pub in_queue : (b c : ℕ) (line : ℕ → List Item) (target : ℕ) (item : Item) (arena : Arena) (chunks : List Item) (counts : List ℕ)
    → target < length arena.chains → target < b → AreDealt b c line arena chunks counts → c ≤ get_or counts target 0
    → AreDealt b c (with_item line target item) (pushed arena target item) chunks counts
in_queue b c line target item arena chunks counts chain inside dealt full =
    let so_far = dealt target inside in
    let before = line target in
    let taken = length-take c before in
    let count = so_far.count in
    let enough : c ≤ length before = omega arith in
    let changes : ChangesQueue arena (pushed arena target item) target (queue_of arena target ++ item ∷ []) =
    record { queues = queues_of-pushed arena target item chain; room = refl }
    in
    all_dealt b c line target item arena (pushed arena target item) chunks chunks counts counts dealt
    (record {
      queue =
          queue_changed arena (pushed arena target item) target (queue_of arena target ++ item ∷ []) chain changes
          ∙ ap (λ (q : List Item). q ++ item ∷ []) so_far.queue
          ∙ sym (drop-append-le c before (item ∷ []) enough);
      chunk = so_far.chunk ∙ ap (padded c) (sym (take-append-le c before (item ∷ []) enough));
      count = so_far.count ∙ ap length (sym (take-append-le c before (item ∷ []) enough));
    })
    (λ i other. (queue_other arena (pushed arena target item) target i (queue_of arena target ++ item ∷ []) other changes, refl, refl))

-- the free cells are those that no queue takes
same_lengths : (chains : List (List (ℕ × Item))) → sum_by length (map cells_in chains) ≡ sum_by length (map items_in chains)
same_lengths [] = refl
same_lengths (chain ∷ chains) =
    let cells = sum_by-cons (length {A = ℕ}) (cells_in chain) (map cells_in chains) in
    let items = sum_by-cons (length {A = Item}) (items_in chain) (map items_in chains) in
    let one = length-map chain (λ (held : ℕ × Item). held.0) in
    let other = length-map chain (λ (held : ℕ × Item). held.1) in
    let rest = same_lengths chains in
    omega arith

pub free_cells : (arena : Arena) → IsShared arena → length arena.free + sum_by length (queues_of arena) ≡ arena.room
free_cells arena shared =
    let split = sum_by-cons (length {A = ℕ}) arena.free (map cells_in arena.chains) in
    let total = shared.total in
    let same = same_lengths arena.chains in
    omega arith

-- What waits after an exchange, and what leaves in chunks, is what waited before and what came.
use Rattle.std.proofs.Common.{ℕ, zero, suc, List, [], ◌∷◌, length, replicate, get_or, All, sym, subst, inl, inr}
use Rattle.std.specs.Prelude.{flat_map, ◌-◌, ◌==◌, Bool, if◌then◌else◌}
use Rattle.std.proofs.lemmas.Bool.{cases_Bool}
use Rattle.std.proofs.lemmas.List.Concat.{flat_map-cons}
use Rattle.std.proofs.lemmas.List.Elements.{All-append, All-cons, All-drop, All-head, All-map, All-nil, All-replicate, All-tail, All-take}
use Rattle.esa_report.specs.Item.{dummy_item}
use Rattle.esa_report.specs.declared.item.Item.{Item}
use Rattle.esa_spec.specs.Draws.{chosen}
use Rattle.esa_stash.specs.Stash.{Handed, Held, chunk, chunks, coming, exchanged, line, padded_chunk, queue_at, rest, targets_of}

module _ (P : Item → Type 0) where
  All-chosen : (i : ℕ) (targets : List ℕ) (items : List Item) → All P items → All P (chosen i targets items)
  All-chosen i [] items all = All-nil P
  All-chosen i (target ∷ targets) [] all = All-nil P
  All-chosen i (target ∷ targets) (x ∷ items) all =
      let more = All-chosen i targets items (All-tail P x items all) in
      elim (cases_Bool (target == i)) [
        | inl here ↦ subst (λ (b : Bool). All P (if b then x ∷ chosen i targets items else chosen i targets items)) (sym here)
            (All-cons P x (chosen i targets items) (All-head P x items all) more)
        | inr apart ↦ subst (λ (b : Bool). All P (if b then x ∷ chosen i targets items else chosen i targets items)) (sym apart) more
      ]

  All-queue : (queues : List (List Item)) (i : ℕ) → All (All P) queues → All P (get_or queues i [])
  All-queue [] i all = All-nil P
  All-queue (queue ∷ queues) zero all = All-head (All P) queue queues all
  All-queue (queue ∷ queues) (suc i) all = All-queue queues i (All-tail (All P) queue queues all)

  All-flat_map : (f : ℕ → List Item) → ((x : ℕ) → All P (f x)) → (xs : List ℕ) → All P (flat_map f xs)
  All-flat_map f each [] = All-nil P
  All-flat_map f each (x ∷ xs) = subst (All P) (sym (flat_map-cons f x xs)) (All-append P (f x) (flat_map f xs) (each x) (All-flat_map f each xs))

  module _ (held : Held) (handed : Handed) (waits : All (All P) held.queues) (came : All P handed.1) where
    All-line : (i : ℕ) → All P (line held handed i)
    All-line i = All-append P (queue_at held i) (coming handed i) (All-queue held.queues i waits) (All-chosen i handed.0 handed.1 came)

    pub queues_after : All (All P) (exchanged held handed).queues
    queues_after = All-map (All P) (rest held handed) (targets_of held) (λ k d inside. All-drop P held.c (line held handed (get_or (targets_of held) k d)) (All-line (get_or (targets_of held) k d)))

    pub chunks_after : P dummy_item → All P (chunks held handed)
    chunks_after dummy = All-flat_map (padded_chunk held handed) (λ i. All-append P (chunk held handed i) (replicate (held.c - length (chunk held handed i)) dummy_item)
        (All-take P held.c (line held handed i) (All-line i)) (All-replicate P (held.c - length (chunk held handed i)) dummy_item dummy)) (targets_of held)

use Rattle.std.proofs.Common.{◌≡◌, ◌<◌, ◌+◌, ◌-◌, ℕ, List, All, length, sym, subst, ap, ◌∙◌, arith}
use Rattle.std.specs.List.Sorted.{IsPermutation}
use Rattle.esa_params.specs.Sizes.{below}
use Rattle.esa_coins.specs.Separators.{separated-below}
use Rattle.esa_coins.proofs.seeded.SeededCoinsCoins.targets.Goals as goal

pub returns-in-Separators-clause-below : goal.returns-in-Separators-clause-below
returns-in-Separators-clause-below c =
    let b = c.args.self.now.plan.b in
    let count = length c.args.out.now in
    let entries = c.shuffle_below.new.out in
    let places : length c.args.room.now ≡ count + b - 1 = c.requires.room_to_draw ∙ ap (λ n. n + b - 1) (sym c.requires.room_for_all) in
    let permutes : IsPermutation (below (count + b - 1)) entries = subst (λ n. IsPermutation (below n) entries) places c.shuffle_below.ensures.permutes in
    let P : List ℕ → Type 0 = λ list. All (λ target. target < b) list in
    subst P (sym c.separate.ensures) (separated-below count b entries (omega (arith, c.requires.bucket_planned)) permutes)

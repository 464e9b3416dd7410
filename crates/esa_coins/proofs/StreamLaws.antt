-- Streams of one number serve one purpose, in one attempt, of one bucket or target.
use Rattle.std.proofs.Common.{◌≡◌, ℕ, ◌^◌, ◌<◌, refl, arith}
use Rattle.esa_params.specs.Sizes.{Sizes, ArePlanned}
use Rattle.esa_coins.specs.Streams.{Purpose, ForTargets, ForOrder, ForSeparators, stream_number}

-- where buckets are below 2 ^ 16
differ : (one other : Purpose) (attempt later bucket next : ℕ) → bucket < 2 ^ 16 → next < 2 ^ 16
    → stream_number one attempt bucket ≡ stream_number other later next → (one ≡ other) × (attempt ≡ later) × (bucket ≡ next)
differ ForTargets ForTargets attempt later bucket next first second same = (refl, omega arith, omega arith)
differ ForTargets ForOrder attempt later bucket next first second same = absurd (omega arith)
differ ForTargets ForSeparators attempt later bucket next first second same = absurd (omega arith)
differ ForOrder ForTargets attempt later bucket next first second same = absurd (omega arith)
differ ForOrder ForOrder attempt later bucket next first second same = (refl, omega arith, omega arith)
differ ForOrder ForSeparators attempt later bucket next first second same = absurd (omega arith)
differ ForSeparators ForTargets attempt later bucket next first second same = absurd (omega arith)
differ ForSeparators ForOrder attempt later bucket next first second same = absurd (omega arith)
differ ForSeparators ForSeparators attempt later bucket next first second same = (refl, omega arith, omega arith)

fit : (purpose : Purpose) (attempt bucket : ℕ) → attempt < 2 ^ 16 → bucket < 2 ^ 16 → stream_number purpose attempt bucket < 2 ^ 64
fit ForTargets attempt bucket early small = omega arith
fit ForOrder attempt bucket early small = omega arith
fit ForSeparators attempt bucket early small = omega arith

pub streams-differ : (p : Sizes) (one other : Purpose) (attempt later bucket next : ℕ) → ArePlanned p → bucket < p.b → next < p.b
    → stream_number one attempt bucket ≡ stream_number other later next → (one ≡ other) × (attempt ≡ later) × (bucket ≡ next)
streams-differ p one other attempt later bucket next planned inside within same =
    let few = planned.parameters.b_greatest in differ one other attempt later bucket next (omega arith) (omega arith) same

pub streams-fit : (p : Sizes) (purpose : Purpose) (attempt bucket : ℕ) → ArePlanned p → attempt < p.attempts → bucket < p.b → stream_number purpose attempt bucket < 2 ^ 64
streams-fit p purpose attempt bucket planned early inside =
    let few = planned.parameters.b_greatest in
    let short = planned.parameters.attempts_greatest in
    fit purpose attempt bucket (omega arith) (omega arith)

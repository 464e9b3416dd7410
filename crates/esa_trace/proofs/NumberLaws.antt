-- How many accesses a run has at most, as a number of 32 bits.
use Rattle.std.proofs.Common.{ℕ, ◌+◌, ◌*◌, ◌^◌, ◌<◌, ◌≤◌, List, length, arith}
use Rattle.std.proofs.Math.Nat.{mul-le-mul_right}
use Rattle.esa_params.specs.Sizes.{Sizes, ArePlanned}
use Rattle.esa_params.specs.Slots.{greatest_trace}
use Rattle.esa_spec.specs.Draws.{Draw}
use Rattle.esa_spec.specs.Traces.{trace}
use Rattle.esa_laws.proofs.LengthLaws.{trace-le}

greatest_small : (p : Sizes) → ArePlanned p → greatest_trace p < 2 ^ 32
greatest_small p planned =
    let few : p.b ≤ 256 = planned.parameters.b_greatest in
    let times : p.attempts ≤ 16 = planned.parameters.attempts_greatest in
    let square : 2 * p.b * p.b ≤ 512 * p.b = mul-le-mul_right {m = 2 * p.b} {n = 512} p.b (omega arith) in
    let all : p.attempts * (2 * p.b * p.b + 4 * p.b) ≤ 16 * (2 * p.b * p.b + 4 * p.b) = mul-le-mul_right {m = p.attempts} {n = 16} (2 * p.b * p.b + 4 * p.b) times in
    omega arith

pub number_fits : (p : Sizes) (ds : ℕ → Draw) (hs : List (List ℕ)) → ArePlanned p → length hs ≤ p.attempts → length (trace p ds hs) < 2 ^ 32
number_fits p ds hs planned few = omega (arith, trace-le p ds hs few, greatest_small p planned)

-- After a shuffle that succeeded there is room for the scans of its output.
use Rattle.std.proofs.Common.{◌≡◌, ℕ, ◌+◌, ◌*◌, ◌≤◌, List, ◌++◌, length, ap, arith}
use Rattle.std.proofs.lemmas.List.{length-append, length-map, length-take}
use Rattle.std.proofs.lemmas.List.FromFn.{length-range_with_len}
use Rattle.esa_ending.specs.Seen.{Seen, stored}
use Rattle.esa_laws.proofs.LengthLaws.{trace-le}
use Rattle.esa_params.specs.Sizes.{Sizes, below}
use Rattle.esa_params.specs.Slots.{greatest_trace}
use Rattle.esa_spec.specs.Draws.{Draw}
use Rattle.esa_spec.specs.Traces.{read_output, scan, scans, shuffle_trace, trace}
use Rattle.esa_shuffle.specs.Runs.{IsShuffled}

pub scans_room : (p : Sizes) (ds : ℕ → Draw) (hs : List (List ℕ)) (seen : Seen) (a room : ℕ) → IsShuffled p ds hs seen a → greatest_trace p ≤ length seen.trace + room → 2 * p.b ≤ room
scans_room p ds hs seen a room s enough =
    let made = stored p seen in
    let one : length (scan p a) ≡ p.b = omega (arith, length-map (below p.b) (read_output p a), length-range_with_len 0 p.b) in
    let whole : trace p ds made ≡ shuffle_trace p ds made ++ (scan p a ++ scan p a) = ap (λ found. shuffle_trace p ds made ++ scans p found) s.good in
    let few : length made ≤ p.attempts = omega (arith, ap length s.turns, length-take (a + 1) hs, s.planned) in
    let all = ap length whole in
    omega (arith, trace-le p ds made few, all, length-append (shuffle_trace p ds made) (scan p a ++ scan p a), length-append (scan p a) (scan p a), one, ap length s.made, enough)

use Rattle.std.proofs.Common.{◌==◌, arith}
use Rattle.esa_params.specs.Slots.{writes_number}
use Rattle.esa_laws.proofs.LengthLaws.{trace-le}
use Rattle.esa_laws.proofs.NonceLaws.{nonces-fresh}
use Rattle.esa_laws.proofs.SlotLaws.{input-once, slot-once}
use Rattle.esa_spec.specs.Traces.{trace, written_nonces, writes_in}
use Rattle.esa_ending.proofs.FrontLaws.{fewer, file-short, nonces-front, shorter}
use Rattle.esa_ending.proofs.fronts.fronts_are_fresh.Goals as goal

pub returns-clause-nonces : goal.returns-clause-nonces
returns-clause-nonces c = λ p ds hs xs nonce planned b.
    let fresh = nonces-fresh p ds hs nonce planned in
    let few = fewer (λ n. n == nonce) (written_nonces xs) (written_nonces (trace p ds hs)) (nonces-front xs (trace p ds hs) b) in
    omega (arith, fresh, few)

pub returns-clause-input : goal.returns-clause-input
returns-clause-input c = λ p ds hs xs number planned number_in b.
    let once = input-once p number number_in ds hs planned in
    let few = fewer (writes_number p number) xs (trace p ds hs) b in
    omega (arith, once, few)

pub returns-clause-attempt : goal.returns-clause-attempt
returns-clause-attempt c = λ p ds hs xs a number planned b.
    let once = slot-once p ds hs a number planned in
    let few = fewer (writes_in p a number) xs (trace p ds hs) b in
    omega (arith, once, few)

pub returns-clause-room : goal.returns-clause-room
returns-clause-room c = λ p ds hs xs few b.
    let short = shorter xs (trace p ds hs) b in
    let room = trace-le p ds hs few in
    omega (arith, short, room)

pub returns-clause-file : goal.returns-clause-file
returns-clause-file c = file-short

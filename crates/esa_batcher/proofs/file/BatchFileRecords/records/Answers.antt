use Rattle.std.proofs.Common.{◌≡◌, ℕ, length, arith, ◌≤◌, ◌*◌, ◌+◌}
use Rattle.std.proofs.Math.Nat.{mul-le-mul_right}
use Rattle.esa_batcher.proofs.InFileLaws.{read-found, none-found, HasCause-own, not_missing}
use Rattle.esa_batcher.proofs.file.BatchFileRecords.records.Goals as goal

-- a part of n records from the place first on lies before the end of all
inside : (start size count first n out : ℕ) → out ≡ n * size → first + n ≤ count → (start + first * size) + out ≤ start + count * size
inside start size count first n out part within = let more : (first + n) * size ≤ count * size = mul-le-mul_right size within in omega arith

pub returns-then-out-eq0-clause-records : goal.returns-then-out-eq0-clause-records
returns-then-out-eq0-clause-records g c = λ records n is part within. none-found _ _ c.args.self.now.start c.args.self.now.size c.args.self.now.count c.args.first n records c.args.out.now c.if-out-eq0.true is part within

pub returns-clause-records : goal.returns-clause-records
returns-clause-records g c = λ records n is part within.
    let long : length c.read_at.new.out ≡ n * c.args.self.now.size = omega arith in
    read-found _ _ c.args.self.now.start c.args.self.now.size c.args.self.now.count c.args.first n records c.read_at.new.out c.read_at.result is long within c.read_at.ensures.bytes

pub returns-clause-cause : goal.returns-clause-cause
returns-clause-cause g c =
    HasCause-own _ _ _ c.read_at.result
    (not_missing (g.K.Cabinet.told c.args.self.now.cabinet.now) c.args.self.now.name.now ((c.args.self.now.start + c.args.first * c.args.self.now.size) + length c.args.out.now) (c.args.self.now.start + c.args.self.now.count * c.args.self.now.size)
    (inside c.args.self.now.start c.args.self.now.size c.args.self.now.count c.args.first c.requires.whole.0 (length c.args.out.now) c.requires.whole.1 c.requires.whole.2) c.args.self.now.whole)
    c.read_at.ensures.cause

use Rattle.std.proofs.Common.{ap, ◌∙◌, arith}
use Rattle.esa_header.specs.Header.{header_in}
use Rattle.esa_header.proofs.HeaderLaws.{header_in-accepts, result-spelled}
use Rattle.esa_header.proofs.header.read_header.Goals as goal

pub returns-clause-spelled : goal.returns-clause-spelled
returns-clause-spelled c = λ all.
    result-spelled c.args.kind c.args.front.now (λ i. omega (arith, c.type_inv.front i)) c.tested_header.result (c.tested_header.ensures ∙ ap (header_in c.args.kind c.args.front.now) all)

pub returns-clause-accepts : goal.returns-clause-accepts
returns-clause-accepts c = λ header all is.
    c.tested_header.ensures ∙ ap (header_in c.args.kind c.args.front.now) all ∙ header_in-accepts c.args.kind c.args.front.now header is

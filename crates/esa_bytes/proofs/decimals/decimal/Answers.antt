use Rattle.std.proofs.Common.{◌≡◌, ◌∙◌, sym, get_or}
use Rattle.std.proofs.lemmas.Bool.{eqb-false}
use Rattle.esa_bytes.specs.Decimal.{decimal_in}
use Rattle.esa_bytes.proofs.DecimalLemmas.{IsUtf8-reads, decimal_in-parsed, decimal_in-none, decimal_of-decimal_in}
use Rattle.esa_bytes.proofs.decimals.decimal.Goals as goal

read : (c : goal.After-ok) → c.ok.result ≡ decimal_in c.args.bytes.now
read c =
    c.ok.ensures.value ∙ decimal_in-parsed c.args.bytes.now c.parse.result
    (rw c.in-Ok.ensures.cases.0 at c.parse.ensures.value.0)
    (eqb-false (get_or c.args.bytes.now 0 0) 43 (sym c.begins_with_plus.ensures ∙ c.if-begins_with_plus.false))
    (sym c.has_leading_zero.ensures ∙ c.if-has_leading_zero.false)

pub returns-in-Ok-clause-value : goal.returns-in-Ok-clause-value
returns-in-Ok-clause-value c = read c

pub returns-in-Ok-clause-one_spelling : goal.returns-in-Ok-clause-one_spelling
returns-in-Ok-clause-one_spelling c = rw (read c) (decimal_of-decimal_in c.args.bytes.now)

pub returns-in-Err-clause-value : goal.returns-in-Err-clause-value
returns-in-Err-clause-value c =
    sym (decimal_in-none c.args.bytes.now (λ r. c.in-Err.ensures.cases.0 (IsUtf8-reads c.args.bytes.now r)))

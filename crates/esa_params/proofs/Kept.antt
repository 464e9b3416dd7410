-- Parameters of which none is past its limits keep them all.
use Rattle.std.proofs.Common.{◌≡◌, ℕ, ◌≤◌, Bool, true, false, not, cond, Option, Some, None, refl, arith}
use Rattle.std.proofs.lemmas.Bool.Decides.{nat_tests}
use Rattle.esa_params.specs.Limits.{is_from, first_past, numbers_of}
use Rattle.esa_params.specs.Numbers.{KeepsLimits}
use Rattle.esa_params.specs.declared.params.Params.{Params}
use Rattle.esa_params.specs.declared.field.ParamField.{ParamField}

-- a search that finds nothing passed its first element by
passed_by : (kept : Bool) (field : ParamField) (rest : Option ParamField) → cond (not kept) (Some field) rest ≡ None → (kept ≡ true) × (rest ≡ None)
passed_by true field rest e = (refl, e)
passed_by false field rest e = absurd (cc)

between : (x least greatest : ℕ) → is_from x least greatest ≡ true → (least ≤ x) × (x ≤ greatest)
between x least greatest e = grind (arith, nat_tests)

pub all_kept : (p : Params) → first_past p ≡ None → KeepsLimits (numbers_of p)
all_kept p none =
    let b = passed_by _ _ _ none in
    let c = passed_by _ _ _ b.1 in
    let s = passed_by _ _ _ c.1 in
    let k = passed_by _ _ _ s.1 in
    let w = passed_by _ _ _ k.1 in
    let q = passed_by _ _ _ w.1 in
    let middle = passed_by _ _ _ q.1 in
    let workers = passed_by _ _ _ middle.1 in
    let attempts = passed_by _ _ _ workers.1 in
    record {
      b_least = (between _ _ _ b.0).0;
      b_greatest = (between _ _ _ b.0).1;
      c_least = (between _ _ _ c.0).0;
      c_greatest = (between _ _ _ c.0).1;
      s_greatest = (between _ _ _ s.0).1;
      k_greatest = (between _ _ _ k.0).1;
      w_least = (between _ _ _ w.0).0;
      w_greatest = (between _ _ _ w.0).1;
      q_least = (between _ _ _ q.0).0;
      q_greatest = (between _ _ _ q.0).1;
      middle_greatest = (between _ _ _ middle.0).1;
      workers_least = (between _ _ _ workers.0).0;
      workers_greatest = (between _ _ _ workers.0).1;
      attempts_least = (between _ _ _ attempts.0).0;
      attempts_greatest = (between _ _ _ attempts.0).1;
    }

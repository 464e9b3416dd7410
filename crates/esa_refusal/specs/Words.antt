-- The words that printed lines have.
use Rattle.std.specs.Prelude.{ℕ, List, codes}
use Rattle.esa_outside.specs.declared.Role.{Role}
use Rattle.esa_outside.specs.declared.Role.TheVariants as role
use Rattle.esa_params.specs.declared.field.ParamField.{ParamField}
use Rattle.esa_params.specs.declared.field.ParamField.TheVariants as param

-- of a role
abbrev pub role_word : Role → List ℕ
role_word role.Job = codes "job"
role_word role.Keys = codes "keys"
role_word role.Drops = codes "drops"
role_word role.Turns = codes "turns"
role_word role.Input = codes "input"
role_word role.Coins = codes "coins"
role_word role.Output = codes "output"
role_word role.Trace = codes "trace"
role_word role.TurnsOut = codes "turns_out"
role_word role.Printer = codes "printer"

-- of a number of a job that has a limit
abbrev pub param_word : ParamField → List ℕ
param_word param.B = codes "b"
param_word param.C = codes "c"
param_word param.S = codes "s"
param_word param.K = codes "k"
param_word param.W = codes "w"
param_word param.Q = codes "q"
param_word param.Mid = codes "mid"
param_word param.Workers = codes "workers"
param_word param.Attempts = codes "attempts"
param_word param.M = codes "m"
param_word param.T = codes "t"
param_word param.Records = codes "records"
param_word param.Crowds = codes "crowds"
param_word param.Form = codes "form"
param_word param.Epoch = codes "epoch"
param_word param.Shares = codes "shares"

use Rattle.std.proofs.Common.{◌≡◌, ◌⊎◌, inl, inr, ⊎_elim, ℕ, List, Some, None, Ok, Err, ap, sym, subst, ◌∙◌, arith}
use Rattle.std.specs.Prelude.{option_map}
use Rattle.std.proofs.lemmas.Result.{err_from_is_err_and}
use Rattle.esa_coins.specs.Table.{tables_in}
use Rattle.esa_coins.specs.TableCoins.{tables_of}
use Rattle.esa_coins.specs.declared.any.AnyCoins.TheVariants.{Seeded, Table}
use Rattle.esa_coins.specs.declared.refused.CoinsRefused.TheVariants.{OutOfMemory}
use Rattle.esa_job.specs.Seen.{request_of}
use Rattle.esa_job.specs.Request.{Request, name_at}
use Rattle.esa_job.specs.declared.command.Command.{Command}
use Rattle.esa_job.specs.declared.field.JobField.TheVariants as field
use Rattle.esa_refusal.specs.declared.refusal.Refusal.TheVariants as refusal
use Rattle.esa_refusal.specs.declared.source.Source.TheVariants as source
use Rattle.esa_refusal.specs.Stop.{stop_of_coins}
use Rattle.esa_refusal.proofs.Stops.{coins_stops}
use Rattle.esa_spec.specs.Draws.{Draw}
use Rattle.esa_params.specs.Sizes.{Sizes}
use Rattle.esa_command.specs.Stand.{stand}
use Rattle.esa_command.specs.Step.{Step, ◌>>=◌, accepted, file}
use Rattle.esa_command.specs.Taking.{read_step}
use Rattle.esa_command.proofs.Composition.{judged_already}
use Rattle.esa_command.proofs.Readers.{file_gone, file_made, file_stops}
use Rattle.esa_shuffling.specs.Drawn.{draws_of}
use Rattle.esa_shuffling.specs.Shuffle.{seeds_asked, seeded_draws, table_draws, where_named, read_coins, coins_file}
use Rattle.esa_shuffling.proofs.taking.take_coins.Goals as goal

-- what is drawn by the bytes of a coins file
abbrev drawing : Sizes → List ℕ → Step (ℕ → Draw)
drawing plan bytes = read_step refusal.Coins (tables_in plan bytes) >>= λ tables. accepted (table_draws plan tables)

same_steps : (command : Command) (plan : Sizes) (job : Request) (name : List ℕ) → name_at job field.Coins ≡ Some name → (λ read. file command source.Coins name read >>= drawing plan) ≡ coins_file command plan job
unfolding coins_file
same_steps command plan job name is = λ i read. where_named (sym is i) (read_coins command plan read) (seeded_draws (seeds_asked plan job))

pub returns-in-None-clause-judged : goal.returns-in-None-clause-judged
unfolding coins_file
returns-in-None-clause-judged g c =
    let job = request_of c.args.job.now in
    let command = c.args.command in
    let plan = c.args.plan in
    let before = stand g.K.Cabinet.told g.K.Cabinet.faults g.K.Cabinet.heard c.args.cabinet.now in
    let none : name_at job field.Coins ≡ None = sym c.coins.ensures ∙ ap (option_map (λ name. name.now)) c.in-None.is in
    judged_already 5 6 draws_of (coins_file command plan job) before (Seeded c.seeded.result) (omega arith)
    (λ read. (λ i. where_named (none i) (read_coins command plan read) (seeded_draws (seeds_asked plan job))) ∙ ap (λ seeds. accepted (seeded_draws seeds)) (sym c.seeded.ensures))

pub returns-in_err-bytes-in-Some-clause-judged : goal.returns-in_err-bytes-in-Some-clause-judged
returns-in_err-bytes-in-Some-clause-judged g c =
    let p = err_from_is_err_and c.from_residual.result c.from_residual.ensures.1 in
    let stands = stand g.K.Cabinet.told g.K.Cabinet.faults g.K.Cabinet.heard in
    let job = request_of c.args.job.now in
    let command = c.args.command in
    let plan = c.args.plan in
    let name = c.in-Some.name.now in
    let named : name_at job field.Coins ≡ Some name = sym c.coins.ensures ∙ ap (option_map (λ name. name.now)) c.in-Some.is in
    rw (p.1, p.2) (file_gone draws_of command source.Coins name (drawing plan) (coins_file command plan job) (same_steps command plan job name named)
    (stands c.args.cabinet.now) (stands c.read_file.new.cabinet) c.in_err-bytes-in-Some.field-0.0 c.in_err-bytes-in-Some.ensures)

pub returns-in_err-coins-in-Some-clause-judged : goal.returns-in_err-coins-in-Some-clause-judged
returns-in_err-coins-in-Some-clause-judged g c =
    let p = err_from_is_err_and c.from_residual-in_err-coins-in-Some.result c.from_residual-in_err-coins-in-Some.ensures.1 in
    let stands = stand g.K.Cabinet.told g.K.Cabinet.faults g.K.Cabinet.heard in
    let job = request_of c.args.job.now in
    let command = c.args.command in
    let plan = c.args.plan in
    let name = c.in-Some.name.now in
    let named : name_at job field.Coins ≡ Some name = sym c.coins.ensures ∙ ap (option_map (λ name. name.now)) c.in-Some.is in
    let error = c.in_err-coins-in-Some.field-0.0 in
    let bytes = c.in_ok-bytes-in-Some.bytes.items in
    let same : tables_in plan c.deref.result.now ≡ tables_in plan bytes = ap (tables_in plan) c.deref.ensures.value in
    let refuses : (error ≡ OutOfMemory) ⊎ (tables_in plan bytes ≡ Err error) =
    subst (λ read. (error ≡ OutOfMemory) ⊎ (read ≡ Err error)) same c.in_err-coins-in-Some.ensures.first_refusal in
    rw (p.1, p.2) (file_stops draws_of command source.Coins name (drawing plan) (coins_file command plan job) (same_steps command plan job name named)
    (stands c.args.cabinet.now) (stands c.read_file.new.cabinet) c.in_ok-bytes-in-Some.bytes c.in_ok-bytes-in-Some.ensures (refusal.Coins error) (stop_of_coins error) (coins_stops error)
    (⊎_elim (λ starved. inl (ap stop_of_coins starved)) (λ is. inr (ap (λ read. read_step refusal.Coins read >>= λ tables. accepted (table_draws plan tables)) is)) refuses))

pub returns-in_ok-coins-in-Some-clause-judged : goal.returns-in_ok-coins-in-Some-clause-judged
returns-in_ok-coins-in-Some-clause-judged g c =
    let stands = stand g.K.Cabinet.told g.K.Cabinet.faults g.K.Cabinet.heard in
    let job = request_of c.args.job.now in
    let command = c.args.command in
    let plan = c.args.plan in
    let name = c.in-Some.name.now in
    let named : name_at job field.Coins ≡ Some name = sym c.coins.ensures ∙ ap (option_map (λ name. name.now)) c.in-Some.is in
    let coins = c.in_ok-coins-in-Some.coins in
    let made : tables_in plan c.in_ok-bytes-in-Some.bytes.items ≡ Ok (tables_of coins) = ap (tables_in plan) (sym c.deref.ensures.value) ∙ c.in_ok-coins-in-Some.ensures.first_refusal in
    let planned : coins.plan ≡ plan = c.in_ok-coins-in-Some.ensures.plan in
    file_made draws_of command source.Coins name (drawing plan) (coins_file command plan job) (same_steps command plan job name named)
    (stands c.args.cabinet.now) (stands c.read_file.new.cabinet) c.in_ok-bytes-in-Some.bytes c.in_ok-bytes-in-Some.ensures (Table coins)
    (ap (λ read. read_step refusal.Coins read >>= λ tables. accepted (table_draws plan tables)) made ∙ ap (λ p. accepted (table_draws p (tables_of coins))) (sym planned))

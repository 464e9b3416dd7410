use Rattle.std.proofs.Common.{◌≡◌, ◌≤◌, length, ap, ◌∙◌, subst, sym}
use Rattle.std.specs.Prelude.{All, OnOk, OnErr}
use Rattle.std.proofs.lemmas.List.Elements.{All-weaker}
use Rattle.esa_page.specs.Underway.{IsWhole, IsLeft}
use Rattle.esa_page.specs.Writing.{HasWritten, HasBroken}
use Rattle.esa_params.specs.declared.form.Form.{Form}
use Rattle.esa_analyser.specs.Database.{longest}
use Rattle.esa_analyser.specs.Stored.{Stored}
use Rattle.esa_analyser.specs.Rows.{IsRow, IsDatabase, database_bytes}
use Rattle.esa_recovery.proofs.recovered.Recovered.write.Goals as goal

pub write_db-requires : goal.write_db-requires
write_db-requires g c =
    let stored = c.self.inside.db in
    subst (λ form. All (λ row. length row.0 ≤ longest form) stored.database.rows) (sym c.form.ensures.form)
    (All-weaker (IsRow (longest stored.form)) (λ row. length row.0 ≤ longest stored.form) (λ row fits. fits.short) stored.database.rows c.form.ensures.holds.rows)

-- the file that is written is that of what is seen
file : (form : Form) (inside seen : Stored) → form ≡ inside.form → inside ≡ seen → database_bytes form inside.database ≡ database_bytes seen.form seen.database
file form inside seen form_is is = ap (λ form. database_bytes form inside.database) form_is ∙ ap (λ (stored : Stored). database_bytes stored.form stored.database) is

pub returns-clause-whole : goal.returns-clause-whole
returns-clause-whole g c =
    subst (λ text. OnOk c.write_db.result (IsWhole (g.K.Cabinet.told c.args.cabinet.now) c.args.name.now text (g.K.Cabinet.told c.write_db.new.cabinet)))
    (file c.form.result c.self.inside.db c.args.self.now c.form.ensures.form c.self.view_is) c.write_db.ensures.whole

pub returns-clause-left : goal.returns-clause-left
returns-clause-left g c =
    subst (λ text. OnErr c.write_db.result (IsLeft (g.K.Cabinet.told c.args.cabinet.now) c.args.name.now text (g.K.Cabinet.told c.write_db.new.cabinet)))
    (file c.form.result c.self.inside.db c.args.self.now c.form.ensures.form c.self.view_is) c.write_db.ensures.left

pub returns-clause-heard : goal.returns-clause-heard
returns-clause-heard g c =
    subst (λ text. OnOk c.write_db.result (HasWritten (g.K.Cabinet.heard c.args.cabinet.now) c.args.name.now text (g.K.Cabinet.heard c.write_db.new.cabinet)))
    (file c.form.result c.self.inside.db c.args.self.now c.form.ensures.form c.self.view_is) c.write_db.ensures.heard

pub returns-clause-heard_broken : goal.returns-clause-heard_broken
returns-clause-heard_broken g c =
    subst (λ text. OnErr c.write_db.result (HasBroken (g.K.Cabinet.heard c.args.cabinet.now) c.args.name.now text (g.K.Cabinet.heard c.write_db.new.cabinet)))
    (file c.form.result c.self.inside.db c.args.self.now c.form.ensures.form c.self.view_is) c.write_db.ensures.heard_broken

pub returns-clause-readable : goal.returns-clause-readable
returns-clause-readable g c = subst (λ (stored : Stored). IsDatabase stored.form stored.database) c.self.view_is c.form.ensures.holds

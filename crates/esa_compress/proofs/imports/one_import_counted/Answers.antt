use Rattle.esa_compress.proofs.ImportLaws.{few-reached, import-counted, waiting-more}
use Rattle.esa_compress.proofs.imports.one_import_counted.Goals as goal

pub returns-clause-verdict : goal.returns-clause-verdict
returns-clause-verdict c = import-counted

pub returns-clause-waiting : goal.returns-clause-waiting
returns-clause-waiting c = waiting-more

pub returns-clause-few : goal.returns-clause-few
returns-clause-few c = few-reached

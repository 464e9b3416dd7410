use Rattle.esa_batcher.proofs.InFileLaws.{length-found, lengths-found}
use Rattle.esa_batcher.proofs.file.BatchFileRecords.told_as_counted.Goals as goal

pub returns-clause-number : goal.returns-clause-number
returns-clause-number g c = λ records is. length-found _ _ c.args.self.now.start c.args.self.now.size c.args.self.now.count records is

pub returns-clause-length : goal.returns-clause-length
returns-clause-length g c = λ records is. lengths-found _ _ c.args.self.now.start c.args.self.now.size c.args.self.now.count records c.args.self.now.whole is

use Rattle.esa_laws.proofs.ExchangeLaws.{exchange-in, exchange-new, exchange_of-append, exchange_of-push}
use Rattle.esa_laws.proofs.rounds.exchanges_are_numbered.Goals as goal

pub returns-clause-stays : goal.returns-clause-stays
returns-clause-stays c = exchange_of-append

pub returns-clause-last : goal.returns-clause-last
returns-clause-last c = exchange_of-push

pub returns-clause-bucket : goal.returns-clause-bucket
returns-clause-bucket c = exchange-in

pub returns-clause-fresh : goal.returns-clause-fresh
returns-clause-fresh c = exchange-new

use Rattle.esa_device.proofs.LogLaws.{faithful-front, faithful-last, faithful-push}
use Rattle.esa_device.proofs.laws.beginnings_are_faithful.Goals as goal

pub returns-clause-front : goal.returns-clause-front
returns-clause-front c = faithful-front

pub returns-clause-more : goal.returns-clause-more
returns-clause-more c = faithful-push

pub returns-clause-last : goal.returns-clause-last
returns-clause-last c = faithful-last

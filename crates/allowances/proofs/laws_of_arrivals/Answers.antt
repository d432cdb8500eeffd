use Rattle.allowances.proofs.ArrivalFacts.{faster_is_no_later}
use Rattle.allowances.proofs.laws_of_arrivals.Goals as goal

pub returns : goal.returns
returns c = faster_is_no_later

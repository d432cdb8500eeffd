use Rattle.cert_check.proofs.ExistFacts.{certified_exist}
use Rattle.cert_check.proofs.OnceFacts.{certified_are_right, certified_once}
use Rattle.cert_check.proofs.laws_of_certificates.Goals as goal

pub returns-clause-right : goal.returns-clause-right
returns-clause-right c = certified_are_right

pub returns-clause-once : goal.returns-clause-once
returns-clause-once c = certified_once

pub returns-clause-exist : goal.returns-clause-exist
returns-clause-exist c = certified_exist

use Rattle.run_cli.proofs.CertFacts.{printed_are_valid, replied_are_valid}
use Rattle.run_cli.proofs.FormFacts.{answers_once}
use Rattle.run_cli.proofs.laws_of_answers.Goals as goal

pub returns : goal.returns
returns c = record { once = answers_once; printed = printed_are_valid; replied = replied_are_valid }

use Rattle.unit_rules.proofs.WholeFacts.{whole_is}
use Rattle.unit_rules.proofs.numerals.read_whole.Goals as goal

pub returns-clause-whole : goal.returns-clause-whole
returns-clause-whole c = whole_is c.read_numeral.result c.args.text.now c.read_numeral.ensures.value c.read_numeral.ensures.fits c.read_numeral.ensures.none

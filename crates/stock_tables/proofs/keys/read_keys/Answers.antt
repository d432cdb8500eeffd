use Rattle.stock_tables.proofs.KeyFacts.{at_key-of}
use Rattle.stock_tables.proofs.keys.read_keys.Goals as goal

pub returns-clause-ranges : goal.returns-clause-ranges
returns-clause-ranges c =
    let mass = at_key-of _ _ _ _ _ c.at_key.ensures c.in_ok-mass.was c.key_number.ensures.ranges in
    let rotating = at_key-of _ _ _ _ _ c.at_key-2.ensures c.in_ok-rotating.was c.key_number-2.ensures.ranges in
    let length = at_key-of _ _ _ _ _ c.at_key-3.ensures c.in_ok-length.was c.key_number-3.ensures.ranges in
    let top = at_key-of _ _ _ _ _ c.at_key-4.ensures c.in_ok-top.was c.key_number-4.ensures.ranges in
    record {
      light = mass.0;
      heavy = mass.1;
      rotating = rotating.1;
      short = length.0;
      long = length.1;
      slow = top.0;
      fast = top.1;
      effort = at_key-of _ _ _ _ _ c.at_key-5.ensures c.in_ok-effort.was c.key_curve.ensures.curve;
      resistance = at_key-of _ _ _ _ _ c.at_key-6.ensures c.in_ok-resistance.was c.key_resistance.ensures.ranges;
      brake = at_key-of _ _ _ _ _ c.at_key-7.ensures c.in_ok-brake.was c.key_curve-2.ensures.curve;
      brake_strong = at_key-of _ _ _ _ _ c.at_key-7.ensures c.in_ok-brake.was c.key_curve-2.ensures.least;
    }

use Rattle.std.proofs.Common.{ap, ◌∙◌}
use Rattle.std.specs.Vec.Iter.{into_iter_items, into_iter_len}
use Rattle.std.proofs.lemmas.Iterator.{items_from_collect}
use Rattle.std.proofs.lemmas.Iterator.Adapters.{YieldsList-from_skip, YieldsList-from_vec}
use Rattle.rtime.proofs.read_words.Goals as goal

pub returns-in-Ok-clause-words : goal.returns-in-Ok-clause-words
returns-in-Ok-clause-words c =
    let all = c.in-Ok.all in
    let source = c.skip.ensures.source in
    let given = YieldsList-from_vec (into_iter_items all) (ap into_iter_items source) (ap into_iter_len source ∙ all.rest.ok.0) in
    let left = YieldsList-from_skip 1 given c.skip.ensures.count in
    rw c.in-Ok.is (items_from_collect c.collect.result c.collect.ensures.ran left)

use Rattle.std.proofs.Common.{arith, sym}
use Rattle.std.proofs.lemmas.Bool.Decides.{same_from_decides}
use Rattle.std.proofs.lemmas.Int.{ints}
use Rattle.table_laws.specs.Laws.{moves_within}
use Rattle.table_laws.proofs.keeps_law_at.Goals as goal

pub returns-in-Drop : goal.returns-in-Drop
unfolding moves_within
returns-in-Drop c =
    let room = c.room_of.ensures.room in
    let small = c.room_of.ensures.small in
    rw c.in-Drop.is (sym (same_from_decides _ _ (λ t. t, λ t. t) (λ t. sym (omega (arith, ints)), λ t. sym (omega (arith, ints)))))

pub returns-in-Climb : goal.returns-in-Climb
unfolding moves_within
returns-in-Climb c =
    let room = c.room_of-in-Climb.ensures.room in
    let small = c.room_of-in-Climb.ensures.small in
    rw c.in-Climb.is (sym (same_from_decides _ _ (λ t. t, λ t. t) (λ t. sym (omega (arith, ints)), λ t. sym (omega (arith, ints)))))

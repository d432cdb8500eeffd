-- The states of the source, one after another.
use Rattle.std.proofs.Common.{◌≡◌, ◌+◌, ℕ, refl, ap, ◌∙◌, add-one}
use Rattle.made_cases.specs.Draws.{draw, drawn, next_state, state_after}

pub state_after-none : (n : ℕ) → state_after n 0 ≡ n
unfolding state_after
state_after-none n = refl

-- one draw more
pub state_after-more : (n draws more before after : ℕ) → more ≡ draws + 1 → before ≡ state_after n draws → after ≡ next_state before → after ≡ state_after n more
unfolding state_after
state_after-more n draws more before after is from moved = moved ∙ rw (is, add-one) (ap next_state from)

-- and the number that it draws
pub draw-is : (n draws more after below number : ℕ) → more ≡ draws + 1 → after ≡ state_after n more → number ≡ drawn after below → number ≡ draw n draws below
draw-is n draws more after below number is moved number_is = number_is ∙ ap (λ (x : ℕ). drawn x below) (rw is at moved)

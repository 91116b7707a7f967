-- Definitions: what `chosen_cell` over numbers answers, which serves the crates above. No contract of a call outside this crate cites it. Assumes nothing.
use Rattle.std.specs.Prelude.{cond, Option, None, ℕ}
use Rattle.refusal.specs.Refusal.{Answer, refused, given}
use Rattle.rectangle.specs.Board.{position_of, size_ok}
use Rattle.choice.specs.Choice.{neighbour_count, columns, best_of, cell_with_count_by}
use Rattle.rectangle.specs.Parts.{free_in}

-- `chosen` over numbers: of a width, a height, the marks of both kinds together and the laid ones
unfoldable pub chosen_in : ℕ → ℕ → ℕ → ℕ → Option ℕ
unfolding best_of free_in neighbour_count columns
chosen_in w h m laid = best_of (λ cell. free_in w h m (position_of cell)) (neighbour_count w h laid) None (columns h w)

-- `chosen_count` over numbers, none for a full board; refusal 4 for a size that no board has
unfoldable pub chosen_for : ℕ → ℕ → ℕ → ℕ → Answer (Option (ℕ × ℕ))
unfolding size_ok cell_with_count_by chosen_in neighbour_count
chosen_for w h m laid = cond (size_ok w h) (given (cell_with_count_by (neighbour_count w h laid) (chosen_in w h m laid))) (refused 4)

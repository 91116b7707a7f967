-- Laws for `count_cuttings_from_layers`: what is answered of a refused count, of a board that is not accepted, and of one that is. Rests on refusal's `RefusalLaws`.
-- Assumes nothing.
use Rattle.std.specs.Prelude.{Err, Ok, Result}
use Rattle.std.proofs.Common.{◌≡◌, sym, ap, ◌∙◌, ℕ, Bool, cond}
use Rattle.refusal.specs.declared.Refusal.{Refusal}
use Rattle.refusal.specs.Refusal.{refused, given, map_answer, bind_answer, refusal_number}
use Rattle.refusal.specs.RefusalLaws.{map_given, map_refused}
use Rattle.rectangle.specs.Board.{Board, is_full}
use Rattle.board.specs.declared.RectangularBoard.{RectangularBoard}
use Rattle.board.specs.Board.{read_board}
use Rattle.path_count.specs.declared.PathCount.{PathCount}
use Rattle.path_count.specs.PathCounts.{count_value}
use Rattle.layers.specs.LayerCounts.{count_answer}
use Rattle.cuttings.specs.Cuttings.{cuttings_of, cuttings_from}

module _ (b : RectangularBoard) (k : Result PathCount Refusal) where
  -- a refused count stays what it is
  pub count_stays : (q : Refusal) → k ≡ Err q → refused (refusal_number q) ≡ cuttings_from b (count_answer k)
  unfolding cuttings_from bind_answer
  count_stays q e = sym (ap (λ (x : Result PathCount Refusal). cuttings_from b (count_answer x)) e)

  module _ (n : PathCount) (number : k ≡ Ok n) where
    -- the figure of a count that is given
    of_number : cuttings_from b (count_answer k) ≡ map_answer (λ d. cuttings_of d (count_value n)) (read_board b)
    unfolding cuttings_from bind_answer
    of_number = ap (λ (x : Result PathCount Refusal). cuttings_from b (count_answer x)) number

    -- a board that is accepted
    pub figure_told_lem : (full : Bool) → given full ≡ map_answer is_full (read_board b) → (r : ℕ) → r ≡ cond full 1 (count_value n)
        → given r ≡ cuttings_from b (count_answer k)
    unfolding cuttings_of map_answer
    figure_told_lem full judged r is =
        let read = map_given is_full (read_board b) full (sym judged) in
        ap given (is ∙ sym (ap (λ (t : Bool). cond t 1 (count_value n)) read.2))
        ∙ sym (ap (map_answer (λ (d : Board). cuttings_of d (count_value n))) read.1)
        ∙ sym of_number

    -- one that is not
    pub board_refused : (q : Refusal) → refused (refusal_number q) ≡ map_answer is_full (read_board b) → refused (refusal_number q) ≡ cuttings_from b (count_answer k)
    unfolding map_answer
    board_refused q judged =
        sym (ap (map_answer (λ (d : Board). cuttings_of d (count_value n))) ((map_refused is_full (read_board b) (refusal_number q)).0 (sym judged)))
        ∙ sym of_number

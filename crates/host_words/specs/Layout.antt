-- Definitions: what the words that a host hands in stand for, and what is written into those that it lends; which slices of a board and tiles have a wrong
-- shape; and what a call over words returns and leaves in its answer words. Assumes nothing.
use Rattle.std.specs.Prelude.{cond, List, [], ◌∷◌, ◌++◌, ℕ, ◌+◌, ◌%◌, eqb, leb, get_or, length, ◌≡◌, Option, None, Some}
use Rattle.cells.specs.declared.Cells.{Cells}
use Rattle.cells.specs.Set.{words_of}
use Rattle.board.specs.declared.RectangularBoard.{RectangularBoard}
use Rattle.board.specs.Board.{of_marks}
use Rattle.rectangle.specs.Board.{Board}
use Rattle.covers.specs.Counts.{at_node}
use Rattle.graph.specs.declared.GraphResult.{GraphResult}
use Rattle.refusal.specs.Refusal.{Answer, refused, refusal_of, value_or, map_answer}
use Rattle.cells.specs.Lists.{padded}

-- ---- a board: width, height, and 8 words of marks, fixed then laid

-- the set in the four words from a place on
abbrev pub cells_in : List ℕ → ℕ → Cells
cells_in words i = record { w0 = get_or words i 0; w1 = get_or words (i + 1) 0; w2 = get_or words (i + 2) 0; w3 = get_or words (i + 3) 0 }

-- the board of a width, a height and 8 words
abbrev pub board_in : ℕ → ℕ → List ℕ → RectangularBoard
board_in width height marks = of_marks width height (cells_in marks 0) (cells_in marks 4)

-- the ten words of a board: width, height, fixed, laid
unfoldable pub board_words : Board → List ℕ
unfolding words_of
board_words b = b.width ∷ b.height ∷ words_of b.fixed ++ words_of b.laid

-- ---- the result of a graph: nodes, edges, 1 if there is a full node else 0, full node

-- the full node of the third word, a flag, and the fourth
unfoldable pub complete_in : ℕ → ℕ → Option ℕ
complete_in flag node = cond (eqb flag 0) None (Some node)

-- the result of four words
unfoldable pub result_in : List ℕ → GraphResult
unfolding complete_in
result_in words = record { nodes = get_or words 0 0; edges = get_or words 1 0; complete = complete_in (get_or words 2 0) (get_or words 3 0) }

-- 1 if there is a full node, else 0
unfoldable pub has_node : Option ℕ → ℕ
has_node None = 0
has_node (Some v) = 1

-- the same words of so many nodes and edges and a full node, or none
unfoldable pub result_words : ℕ → ℕ → Option ℕ → List ℕ
unfolding has_node at_node
result_words nodes edges complete = nodes ∷ edges ∷ has_node complete ∷ at_node (λ v. v) complete ∷ []

-- ---- slices of a wrong shape: the number of the refusal, 0 for none. The causes are tried in the order written, before the call's own

-- 4, marks that are not 8 words; 5, tile bytes that are not a multiple of 33; 8, fewer answer words than the call has
unfoldable pub plot_shape : ℕ → ℕ → ℕ → ℕ → ℕ
plot_shape needed marks tiles answer = cond (eqb marks 8) (cond (eqb (tiles % 33) 0) (cond (leb needed answer) 0 8) 5) 4

-- ---- what a call returns and leaves in its answer words: it returns 0 or the number of the refusal; the answer words hold the words of the value, zeros
-- behind, and are zero after a refusal

-- an answer whose refusal is told first, if there is one
unfoldable pub unless : {A : Type 0} → ℕ → Answer A → Answer A
unless n a = cond (eqb n 0) a (refused n)

-- the number that is returned and the answer words, for an answer that is some words
pub record AnswersWords (a : Answer (List ℕ)) (old new : List ℕ) (r : ℕ) : Type 0 where
  pub number : r ≡ refusal_of a
  pub words : new ≡ padded (value_or [] a) (length old)

-- the same for an answer that is a list, which is left in other lent words, as `stored` says, zeros behind: its number of elements is the answer word
pub record AnswersList {A : Type 0} (stored : List A → ℕ → List ℕ) (a : Answer (List A)) (out answer out' answer' : List ℕ) (r : ℕ) : Type 0 where
  pub answered : AnswersWords (map_answer (λ xs. length xs ∷ []) a) answer answer' r
  pub out_left : out' ≡ stored (value_or [] a) (length out)

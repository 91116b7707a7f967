-- Definitions: what `single_tiling` and `tiling` over a host's words return, and what they leave in the lent words, for every input. Each returns 0 or the
-- number of the refusal, and every lent word that holds nothing else is zero, all of them after a refusal. What is answered where the shapes are right is the
-- definition of the call below. Assumes nothing.
use Rattle.std.specs.Prelude.{◌≡◌, cond, ◌&&◌, List, [], ◌∷◌, ℕ, ◌/◌, eqb, leb, length, get_or}
use Rattle.std.specs.Prelude.{Option}
use Rattle.cells.specs.Set.{value}
use Rattle.cells.specs.Lists.{words_for}
use Rattle.refusal.specs.Refusal.{Answer, given, map_answer, value_or}
use Rattle.tile.specs.Path.{Path}
use Rattle.rectangle.specs.Board.{Board}
use Rattle.covers.specs.Counts.{at_node}
use Rattle.numbered_tilings.specs.Tilings.{tiling_by_number}
use Rattle.single_tiling.specs.SingleTiling.{Finds, read_search, boards_found, number_found}
use Rattle.host_words.specs.Layout.{board_in, result_in, plot_shape, unless, AnswersWords}
use Rattle.host_tiles.specs.TileBytes.{tiles_in}

-- ---- slices of a wrong shape: the number of the refusal, 0 for none. The causes are tried in the order written, before the call's own

-- 11, a result that is not four words, or whose third word is neither 0 nor 1; 12, a number that is not two words; 8, no answer word
unfoldable pub tiling_shape : List ℕ → ℕ → ℕ → ℕ
tiling_shape graph m answer = cond (eqb (length graph) 4 && leb (get_or graph 2 0) 1) (cond (eqb m 2) (cond (leb 1 answer) 0 8) 12) 11

-- ---- `single_tiling`: the boards from the start to a full one and their number, 0 for none. Which sequence is free

-- what `cuttings_single_tiling` may search, or its refusal
unfoldable pub searched : ℕ → ℕ → List ℕ → List ℕ → ℕ → ℕ → Answer (Board × List Path)
unfolding unless plot_shape read_search
searched width height marks tiles outWords words =
    unless (plot_shape 1 (length marks) (length tiles) words) (read_search (board_in width height marks) (tiles_in tiles) (outWords / 4))

-- what it returns and leaves
pub record AnswersSingle (a : Answer (Board × List Path)) (out answer out' answer' : List ℕ) (r : ℕ) : Type 0 where
  pub found : Option (List ℕ)
  pub tiling : (p : Board × List Path) → a ≡ given p → Finds p.0 p.1 found
  pub answered : AnswersWords (map_answer (λ p. at_node (λ n. n) (number_found found) ∷ []) a) answer answer' r
  pub out_left : out' ≡ words_for (value_or [] (map_answer (λ p. boards_found found) a)) (length out)

-- ---- `tiling`: the node list with the number m, which is two words (`AnswersList padded`)

-- what `cuttings_tiling` answers
unfoldable pub numbered : ℕ → List ℕ → List ℕ → List ℕ → List ℕ → ℕ → ℕ → Answer (List ℕ)
unfolding unless tiling_shape tiling_by_number result_in value
numbered node_words counts edges graph m room words =
    unless (tiling_shape graph (length m) words) (tiling_by_number (result_in graph) node_words counts edges (value m) room)

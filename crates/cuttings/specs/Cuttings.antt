-- Definitions: the figure called cuttings, what `tiler::count_cuttings` answers and leaves in the lent words, for every input, and what is said of it against exact
-- covers. What stands in quotation marks is 02's, from its request 3. Assumes nothing.
use Rattle.refusal.specs.declared.Refusal.{Refusal}
use Rattle.path_count.specs.declared.PathCount.{PathCount}
use Rattle.std.specs.Prelude.{◌≡◌, cond, List, ℕ, length, Result}
use Rattle.tiles.specs.declared.Tiles.{Tiles}
use Rattle.refusal.specs.Refusal.{Answer, given, map_answer, bind_answer}
use Rattle.tiles.specs.Paths.{paths_in}
use Rattle.board.specs.declared.RectangularBoard.{RectangularBoard}
use Rattle.rectangle.specs.Board.{Board, is_full}
use Rattle.board.specs.Board.{board_of, read_board}
use Rattle.covers.specs.Counts.{Exactly}
use Rattle.graph.specs.Graph.{layer_room}
use Rattle.expansion.specs.Plots.{IsCutting, AllEdgeJoined}
use Rattle.layers.specs.LayerCounts.{count_tilings, count_answer, LeavesCount}

-- the figure "called cuttings: 1 for a board with no free cell, otherwise the layer count", which is n
unfoldable pub cuttings_of : Board → ℕ → ℕ
unfolding is_full
cuttings_of b n = cond (is_full b) 1 n

-- the figure of any board, tiles and room: "that call's refusals", those of the layer count, "come first in either case"
unfoldable pub count_cuttings : RectangularBoard → Tiles → ℕ → Answer ℕ
unfolding cuttings_of count_tilings map_answer
count_cuttings b ts room = map_answer (cuttings_of (board_of b)) (count_tilings b ts room)

-- the figure of a board from what `count_tilings` answered for it; 4 for a board that is not accepted (that call has refused it already)
unfoldable pub cuttings_from : RectangularBoard → Answer ℕ → Answer ℕ
unfolding cuttings_of read_board map_answer bind_answer
cuttings_from b layers = bind_answer layers (λ n. map_answer (λ board. cuttings_of board n) (read_board b))

-- `count_cuttings`: the lent layers are zero, as after `count_tilings`
abbrev pub AnswersCuttings : RectangularBoard → Tiles → List ℕ → List ℕ → List ℕ → List ℕ → List ℕ → List ℕ → List ℕ → List ℕ → Result PathCount Refusal → Type 0
AnswersCuttings b ts boardsA countsA boardsB countsB =
    LeavesCount (count_cuttings b ts (layer_room (length boardsA) (length countsA) (length boardsB) (length countsB))) boardsA countsA boardsB countsB

-- "Against exact covers, cuttings needs no free cell any more": a figure that is given is the number of cuttings, where every tile is edge-joined (of a
-- refused one it says nothing). What `CountsCuttings` is to `count_tilings`, with no condition on the board
abbrev pub IsNumberOfCuttings : RectangularBoard → Tiles → Result PathCount Refusal → Type 0
IsNumberOfCuttings b ts r = AllEdgeJoined (paths_in ts) → (n : ℕ) → count_answer r ≡ given n → Exactly n (IsCutting (board_of b) (paths_in ts))

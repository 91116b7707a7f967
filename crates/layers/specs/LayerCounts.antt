-- Definitions: what `count_tilings` answers and leaves in the lent words, for every input, and what demand 3 says of it. Layers and path counts are those
-- of `covers`, by the children of a board. What stands in quotation marks is 01's, from its section on the layer count. Assumes nothing.
use Rattle.std.specs.Prelude.{Err, Ok, Result, ◌≡◌, Bool, cond, List, ℕ, zero, suc, eqb, leb, length, replicate}
use Rattle.refusal.specs.declared.Refusal.{Refusal}
use Rattle.path_count.specs.declared.PathCount.{PathCount}
use Rattle.cells.specs.Lists.{any}
use Rattle.tiles.specs.declared.Tiles.{Tiles}
use Rattle.refusal.specs.Refusal.{Answer, refused, given, map_answer, bind_answer, refusal_number}
use Rattle.tile.specs.Path.{Path}
use Rattle.tiles.specs.Paths.{paths_in}
use Rattle.board.specs.declared.RectangularBoard.{RectangularBoard}
use Rattle.rectangle.specs.Board.{Board, marks, is_full, free_count}
use Rattle.board.specs.Board.{board_of}
use Rattle.children.specs.Children.{children, children_at, full_at, free_count_at}
use Rattle.covers.specs.Counts.{Exactly, Entry, counts, layer, layer_count}
use Rattle.path_count.specs.PathCounts.{count_limit, count_value}
use Rattle.graph.specs.Graph.{layer_room}
use Rattle.expansion.specs.Plots.{accept_plot, IsCutting, HasFreeCell, AllEdgeJoined}

-- whether one of some path counts "is 2^64 or more"
unfoldable pub too_large : List ℕ → Bool
unfolding any
too_large ns = any (λ n. leb count_limit n) ns

-- ---- the layer count

-- a layer: "8 if its boards pass the room, else 9 if a path count is 2^64 or more"
unfoldable pub judge_layer : ℕ → List (Entry ℕ) → Answer (List (Entry ℕ))
unfolding too_large
judge_layer room es = cond (leb (length es) room) (cond (too_large (counts es)) (refused 9) (given es)) (refused 8)

-- "then the earliest layer decides": the layers 0 to n, one after the other
unfoldable pub judge_layers : (ℕ → List (Entry ℕ)) → ℕ → ℕ → Answer (List (Entry ℕ))
unfolding judge_layer bind_answer
judge_layers at room zero = judge_layer room (at zero)
judge_layers at room (suc n) = bind_answer (judge_layers at room n) (λ es. judge_layer room (at (suc n)))

-- the layer count of a board and tiles that are not refused, for a room of so many boards: of the layers up to that of as many pieces as cells are free, behind
-- which no piece is left to lay,
unfoldable pub layer_count_for : Board → List Path → ℕ → Answer ℕ
unfolding judge_layers layer layer_count children is_full free_count marks map_answer
layer_count_for b paths room =
    map_answer (λ es. layer_count eqb (children_at b paths) (full_at b) (marks b) (free_count_at b (marks b)))
    (judge_layers (layer eqb (children_at b paths) (marks b)) room (free_count_at b (marks b)))

-- and of any
unfoldable pub count_tilings : RectangularBoard → Tiles → ℕ → Answer ℕ
unfolding accept_plot bind_answer layer_count_for
count_tilings b ts room = bind_answer (accept_plot b ts) (λ p. layer_count_for p.0 p.1 room)

-- what `count_tilings` answers: a number, or a refusal
abbrev pub count_answer : Result PathCount Refusal → Answer ℕ
count_answer (Ok n) = given (count_value n)
count_answer (Err r) = refused (refusal_number r)

-- what a call that counts in lent layers answers and leaves: "Lent layers and their count words are all zero on every return"
pub record LeavesCount (a : Answer ℕ) (boardsA countsA boardsB countsB boardsA' countsA' boardsB' countsB' : List ℕ) (r : Result PathCount Refusal) : Type 0 where
  pub answer : count_answer r ≡ a
  pub zero_boards_a : boardsA' ≡ replicate (length boardsA) 0
  pub zero_counts_a : countsA' ≡ replicate (length countsA) 0
  pub zero_boards_b : boardsB' ≡ replicate (length boardsB) 0
  pub zero_counts_b : countsB' ≡ replicate (length countsB) 0

-- `count_tilings`
abbrev pub CountsTilings : RectangularBoard → Tiles → List ℕ → List ℕ → List ℕ → List ℕ → List ℕ → List ℕ → List ℕ → List ℕ → Result PathCount Refusal → Type 0
CountsTilings b ts boardsA countsA boardsB countsB =
    LeavesCount (count_tilings b ts (layer_room (length boardsA) (length countsA) (length boardsB) (length countsB))) boardsA countsA boardsB countsB

-- demand 3 of `count_tilings`: a count that is given is the number of cuttings
abbrev pub CountsCuttings : RectangularBoard → Tiles → Result PathCount Refusal → Type 0
CountsCuttings b ts r =
    HasFreeCell (board_of b) → AllEdgeJoined (paths_in ts) → (n : ℕ) → count_answer r ≡ given n → Exactly n (IsCutting (board_of b) (paths_in ts))

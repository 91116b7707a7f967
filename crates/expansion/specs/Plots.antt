-- Definitions: a board and tiles together: what is refused; cuttings, and demand 3's conditions. `IsCutting` knows no chosen cell, order or pruning. What
-- stands in quotation marks is 01's, from its sections on boards, the layer count and the tiling by number, or demand 3's. Assumes nothing.
use Rattle.std.proofs.Math.Bool.{So}
use Rattle.std.specs.Prelude.{Bool, ℕ}
use mathlib.Core.List.{List, Memᴰ as Mem}
use Rattle.cells.specs.Set.{has_cell}
use Rattle.tiles.specs.declared.Tiles.{Tiles}
use Rattle.refusal.specs.Refusal.{Answer, map_answer, bind_answer}
use Rattle.tile.specs.Path.{Path, EdgeJoined}
use Rattle.tiles.specs.Paths.{read_equal_tiles}
use Rattle.board.specs.declared.RectangularBoard.{RectangularBoard}
use Rattle.rectangle.specs.Board.{Board, is_free}
use Rattle.board.specs.Board.{read_board}
use Rattle.fit.specs.Fit.{IsPiece}
use Rattle.covers.specs.Counts.{Exactly}

-- refusal 4 of the board; 6, 5 and 7 of the tiles
unfoldable pub accept_plot : RectangularBoard → Tiles → Answer (Board × List Path)
unfolding read_board read_equal_tiles bind_answer map_answer
accept_plot b ts = bind_answer (read_board b) (λ board. map_answer (λ (paths : List Path). (board, paths)) (read_equal_tiles ts))

-- ---- cuttings

-- "A cutting […] is a set of cell sets, each a tile's cells moved unturned onto free cells of the starting board, with every free cell in exactly one".
-- A set of cells is a number, and X tells of each whether it is in the set
pub record IsCutting (b : Board) (paths : List Path) (X : ℕ → Bool) : Type 0 where
  pub pieces : (p : ℕ) → So (X p) → IsPiece b paths p
  pub exact : (c : ℕ) → So (is_free b c) → Exactly 1 (λ (p : ℕ). So (X p) × So (has_cell p c))

-- ---- demand 3's conditions

-- "any board with a free cell"
abbrev pub HasFreeCell : Board → Type 0
HasFreeCell b = (c : ℕ) × So (is_free b c)

-- tiles "where every cell of a tile of two or more cells shares an edge with another cell of that tile"
abbrev pub AllEdgeJoined : List Path → Type 0
AllEdgeJoined paths = (path : Path) → Mem path paths → EdgeJoined path

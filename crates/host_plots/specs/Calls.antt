-- Definitions: what `place_tile`, `orbit` and `read_plot` over a host's words return, and what they leave in the lent words and bytes, for every input. Each
-- returns 0 or the number of the refusal, and every lent word that holds nothing else is zero, all of them after a refusal. What is answered where the
-- shapes are right is the definition of the call below. Assumes nothing.
use Rattle.std.specs.Prelude.{◌≡◌, cond, ◌&&◌, List, [], ◌∷◌, ℕ, eqb, leb, length}
use Rattle.cells.specs.Lists.{padded}
use Rattle.refusal.specs.Refusal.{Answer, map_answer, value_or}
use Rattle.tile.specs.Path.{Path, read_tile}
use Rattle.tiles.specs.Paths.{orbit}
use Rattle.board.specs.Board.{board_of}
use Rattle.children.specs.Children.{place_tile}
use Rattle.plot_file.specs.PlotFile.{Plot, no_plot, plot_in}
use Rattle.host_words.specs.Layout.{board_in, board_words, plot_shape, unless, AnswersWords}
use Rattle.host_tiles.specs.TileBytes.{tile_in, tiles_in, bytes_for}

-- ---- slices of a wrong shape: the number of the refusal, 0 for none. The causes are tried in the order written, before the call's own

-- 5, a tile that is not 33 bytes; 8, fewer bytes than 8 tiles have, or no answer word
unfoldable pub orbit_shape : ℕ → ℕ → ℕ → ℕ
orbit_shape tile tiles answer = cond (eqb tile 33) (cond (leb 264 tiles && leb 1 answer) 0 8) 5

-- 8, fewer than ten words of the board, fewer bytes than 64 tiles have, or no answer word
unfoldable pub file_shape : ℕ → ℕ → ℕ → ℕ
file_shape board tiles answer = cond (leb 10 board && (leb 2112 tiles && leb 1 answer)) 0 8

-- ---- `place_tile`: the children, four words each (`AnswersList words_for`)

-- what `cuttings_place_tile` answers
unfoldable pub placed : ℕ → ℕ → List ℕ → List ℕ → ℕ → ℕ → Answer (List ℕ)
unfolding unless plot_shape place_tile
placed width height marks tiles room words =
    unless (plot_shape 1 (length marks) (length tiles) words) (place_tile (board_of (board_in width height marks)) (tiles_in tiles) room)

-- ---- `orbit`: the tiles of an orbit, 33 bytes each (`AnswersList bytes_for`)

-- what `cuttings_orbit` answers
unfoldable pub orbit_for : List ℕ → ℕ → ℕ → Answer (List Path)
unfolding unless orbit_shape read_tile map_answer orbit
orbit_for tile bytes words = unless (orbit_shape (length tile) bytes words) (map_answer orbit (read_tile (tile_in tile)))

-- ---- `read_plot`: the board and the tiles of a plot file, and the number of tiles

-- what `cuttings_read_plot` answers
unfoldable pub read_file : List ℕ → ℕ → ℕ → ℕ → Answer Plot
unfolding unless file_shape plot_in
read_file file boardSize bytes words = unless (file_shape boardSize bytes words) (plot_in file)

-- what it returns and leaves
pub record AnswersPlot (a : Answer Plot) (board tiles answer board' tiles' answer' : List ℕ) (r : ℕ) : Type 0 where
  pub answered : AnswersWords (map_answer (λ p. length p.tiles ∷ []) a) answer answer' r
  pub board_left : board' ≡ padded (board_words (value_or no_plot a).board) (length board)
  pub tiles_left : tiles' ≡ bytes_for (value_or no_plot a).tiles (length tiles)

-- What each call over words tells: the answer of the call below where the shapes are right, and zeros where they are not. Rests on host_words' `AnswerLaws`
-- and host_tiles' `TileByteLaws`. Assumes nothing.
use Rattle.std.specs.Prelude.{◌≡◌, Result, Ok, Err, ⊤, List, [], ℕ, length}
use Rattle.std.proofs.Common.{sym, ap, ap₂, ◌∙◌, subst}
use Rattle.cells.specs.Parts.{cleared_from}
use Rattle.cells.specs.Lists.{words_for}
use Rattle.cells.specs.ListLaws.{cleared_all}
use Rattle.refusal.specs.declared.Refusal.{Refusal}
use Rattle.refusal.specs.Refusal.{Answer, refused, map_answer, refusal_number, value_or, verdict_number}
use Rattle.tile.specs.declared.Tile.{Tile}
use Rattle.tiles.specs.declared.Tiles.{Tiles}
use Rattle.tile.specs.Path.{Path, read_tile}
use Rattle.tiles.specs.Paths.{orbit, tiles_of}
use Rattle.board.specs.declared.RectangularBoard.{RectangularBoard}
use Rattle.board.specs.Board.{board_of}
use Rattle.children.specs.Children.{place_tile}
use Rattle.plot_file.specs.PlotFile.{Plot, plot_in}
use Rattle.host_words.specs.Layout.{board_in, plot_shape, AnswersWords, AnswersList}
use Rattle.host_words.specs.LayoutLaws.{board_none}
use Rattle.host_words.specs.AnswerLaws.{cleared_none, unless_accepted, unless_refused}
use Rattle.host_tiles.specs.TileBytes.{tile_in, tiles_in, struct_bytes, bytes_for}
use Rattle.host_tiles.specs.TileByteLaws.{none_bytes}
use Rattle.host_plots.specs.Calls.{placed, orbit_shape, orbit_for, file_shape, read_file, AnswersPlot}

-- ---- the children of a board

module _ (width height : ℕ) (marks tiles answer : List ℕ) (v : Result ⊤ Refusal) (shape : verdict_number v ≡ plot_shape 1 (length marks) (length tiles) (length answer)) (out : List ℕ) where
  abbrev below : RectangularBoard → Tiles → Answer (List ℕ)
  below b ts = place_tile (board_of b) ts (length out)

  pub place_accepted : (b : RectangularBoard) (ts : Tiles) → v ≡ Ok tt → b ≡ board_in width height marks → ts ≡ tiles_in tiles → {out' answer' : List ℕ} {r : ℕ}
      → AnswersList words_for (below b ts) out answer out' answer' r
      → AnswersList words_for (placed width height marks tiles (length out) (length answer)) out answer out' answer' r
  unfolding placed
  place_accepted b ts e is are {out'} {answer'} {r} t =
      subst (λ (a : Answer (List ℕ)). AnswersList words_for a out answer out' answer' r)
      (ap₂ below is are ∙ sym (unless_accepted (plot_shape 1 (length marks) (length tiles) (length answer)) (below (board_in width height marks) (tiles_in tiles)) v shape e)) t

  pub place_unshaped : (q : Refusal) → v ≡ Err q → {out' answer' : List ℕ} {r : ℕ} → out' ≡ cleared_from 0 out → AnswersWords (refused (refusal_number q)) answer answer' r
      → AnswersList words_for (placed width height marks tiles (length out) (length answer)) out answer out' answer' r
  unfolding placed value_or map_answer
  place_unshaped q e {out'} {answer'} {r} z t =
      subst (λ (a : Answer (List ℕ)). AnswersList words_for a out answer out' answer' r)
      (sym (unless_refused (plot_shape 1 (length marks) (length tiles) (length answer)) (below (board_in width height marks) (tiles_in tiles)) v shape q e))
      record { answered = t; out_left = z ∙ cleared_all out }

-- ---- the orbit

module _ (tile tiles answer : List ℕ) (v : Result ⊤ Refusal) (shape : verdict_number v ≡ orbit_shape (length tile) (length tiles) (length answer)) where
  pub orbit_accepted : v ≡ Ok tt → (t : Tile) → t ≡ tile_in tile → {tiles' answer' : List ℕ} {r : ℕ}
      → AnswersList bytes_for (map_answer orbit (read_tile t)) tiles answer tiles' answer' r → AnswersList bytes_for (orbit_for tile (length tiles) (length answer)) tiles answer tiles' answer' r
  unfolding orbit_for
  orbit_accepted e t is {tiles'} {answer'} {r} x =
      subst (λ (a : Answer (List Path)). AnswersList bytes_for a tiles answer tiles' answer' r)
      (ap (λ (y : Tile). map_answer orbit (read_tile y)) is
      ∙ sym (unless_accepted (orbit_shape (length tile) (length tiles) (length answer)) (map_answer orbit (read_tile (tile_in tile))) v shape e)) x

  pub orbit_unshaped : (q : Refusal) → v ≡ Err q → (ts : Tiles) → ts ≡ tiles_of [] → {tiles' answer' : List ℕ} {r : ℕ} → tiles' ≡ struct_bytes ts (length tiles)
      → AnswersWords (refused (refusal_number q)) answer answer' r → AnswersList bytes_for (orbit_for tile (length tiles) (length answer)) tiles answer tiles' answer' r
  unfolding orbit_for value_or map_answer
  orbit_unshaped q e ts none {tiles'} {answer'} {r} z t =
      subst (λ (a : Answer (List Path)). AnswersList bytes_for a tiles answer tiles' answer' r)
      (sym (unless_refused (orbit_shape (length tile) (length tiles) (length answer)) (map_answer orbit (read_tile (tile_in tile))) v shape q e))
      record { answered = t; out_left = z ∙ none_bytes ts none (length tiles) }

-- ---- the plot file

module _ (file board tiles answer : List ℕ) (v : Result ⊤ Refusal) (shape : verdict_number v ≡ file_shape (length board) (length tiles) (length answer)) where
  pub plot_accepted : v ≡ Ok tt → {board' tiles' answer' : List ℕ} {r : ℕ} → AnswersPlot (plot_in file) board tiles answer board' tiles' answer' r
      → AnswersPlot (read_file file (length board) (length tiles) (length answer)) board tiles answer board' tiles' answer' r
  unfolding read_file
  plot_accepted e {board'} {tiles'} {answer'} {r} x =
      subst (λ (a : Answer Plot). AnswersPlot a board tiles answer board' tiles' answer' r)
      (sym (unless_accepted (file_shape (length board) (length tiles) (length answer)) (plot_in file) v shape e)) x

  pub plot_unshaped : (q : Refusal) → v ≡ Err q → (ts : Tiles) → ts ≡ tiles_of [] → {board' tiles' answer' : List ℕ} {r : ℕ} → board' ≡ cleared_from 0 board → tiles' ≡ struct_bytes ts (length tiles)
      → AnswersWords (refused (refusal_number q)) answer answer' r → AnswersPlot (read_file file (length board) (length tiles) (length answer)) board tiles answer board' tiles' answer' r
  unfolding read_file value_or map_answer
  plot_unshaped q e ts none {board'} {tiles'} {answer'} {r} y z t =
      subst (λ (a : Answer Plot). AnswersPlot a board tiles answer board' tiles' answer' r)
      (sym (unless_refused (file_shape (length board) (length tiles) (length answer)) (plot_in file) v shape q e))
      record { answered = t; board_left = cleared_none board board' y ∙ board_none (length board); tiles_left = z ∙ none_bytes ts none (length tiles) }

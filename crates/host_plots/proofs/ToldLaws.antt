-- What `place_tile`, `orbit` and `read_plot` of the lower crates answer, as the words and bytes that a host is told. Rests on host_words' `AnswerLaws`,
-- host_tiles' `TileByteLaws`, tile's `StoredLaws`, tiles' `StoredLaws` and `OrbitLaws` and plot_file's `Theorems`. Assumes nothing.
use Rattle.std.specs.Prelude.{◌≡◌, refl, Result, Ok, Err, List, [], ◌∷◌, ℕ, ◌≤◌, length}
use Rattle.std.proofs.Common.{sym, ap, ◌∙◌, subst, arith}
use Rattle.refusal.specs.declared.Refusal.{Refusal}
use Rattle.refusal.specs.Refusal.{Answer, refused, given, map_answer, refusal_number, refusal_of, value_or, verdict_number, answer_of}
use Rattle.refusal.specs.RefusalLaws.{refused_of, map_given, map_refused}
use Rattle.tile.specs.declared.Tile.{Tile}
use Rattle.tiles.specs.declared.Tiles.{Tiles}
use Rattle.tile.specs.Path.{Path, read_tile}
use Rattle.tiles.specs.Paths.{orbit, tiles_of, MakesTiles}
use Rattle.tiles.specs.Inner.{Storable}
use Rattle.tile.specs.StoredLaws.{read_tile_is}
use Rattle.tiles.specs.StoredLaws.{count_tiles_of}
use Rattle.tiles.specs.OrbitLaws.{orbit_length_le, orbit_length_path, orbit_codes_ok}
use Rattle.board.specs.declared.RectangularBoard.{RectangularBoard}
use Rattle.rectangle.specs.Board.{Board}
use Rattle.board.specs.Board.{board_of}
use Rattle.children.specs.Children.{place_tile, PlacesTiles}
use Rattle.cells.specs.ArrayLaws.{padded_zero}
use Rattle.cells.specs.Lists.{padded, words_for}
use Rattle.plot_file.specs.declared.MadePlot.{MadePlot}
use Rattle.plot_file.specs.PlotFile.{Plot, no_plot, plot_in, ReadsPlot}
use Rattle.plot_file.proofs.Theorems.{accepted_plot}
use Rattle.host_words.specs.Layout.{board_words, AnswersWords, AnswersList}
use Rattle.host_words.specs.AnswerLaws.{tells_value, tells_one, tells_no, tells_struct}
use Rattle.host_tiles.specs.TileBytes.{bytes_for, struct_bytes}
use Rattle.host_tiles.specs.TileByteLaws.{stored_bytes, none_storable, none_bytes}
use Rattle.host_plots.specs.Calls.{AnswersPlot}

-- ---- `place_tile`

module _ (b : RectangularBoard) (ts : Tiles) (out out' answer answer' : List ℕ) (ch : Result ℕ Refusal) (places : PlacesTiles b ts out out' ch) (r : ℕ) where
  pub children_told : (n : ℕ) → ch ≡ Ok n → AnswersWords (given (n ∷ [])) answer answer' r → AnswersList words_for (place_tile (board_of b) ts (length out)) out answer out' answer' r
  children_told n e t =
      record { answered = tells_one answer answer' r length (place_tile (board_of b) ts (length out)) n (sym (ap answer_of e) ∙ places.answer) t; out_left = places.words }

  pub children_refused : (q : Refusal) → ch ≡ Err q → AnswersWords (refused (refusal_number q)) answer answer' r → AnswersList words_for (place_tile (board_of b) ts (length out)) out answer out' answer' r
  children_refused q e t =
      let no = (map_refused length (place_tile (board_of b) ts (length out)) (refusal_number q)).0 (sym places.answer ∙ ap answer_of e) in
      record { answered = tells_no answer answer' r (λ ns. length ns ∷ []) (place_tile (board_of b) ts (length out)) q no t; out_left = places.words }

-- ---- tiles

-- an orbit, and no tiles after a refusal
orbit_fine : (t : Tile) (a : Answer Path) → read_tile t ≡ a → (length (value_or [] (map_answer orbit a)) ≤ 64) × Storable (value_or [] (map_answer orbit a))
unfolding value_or map_answer
orbit_fine t (refused n) e = (omega arith, none_storable)
orbit_fine t (given p) e =
    let ok = read_tile_is t p e in
    (omega (arith, orbit_length_le p), λ q m. (subst (λ (n : ℕ). n ≤ 32) (sym (orbit_length_path p q m)) ok.0, orbit_codes_ok p q ok.1 m))

-- a plot's tiles, and no tiles after a refusal
plot_fine : (file : List ℕ) (a : Answer Plot) → plot_in file ≡ a → (length (value_or no_plot a).tiles ≤ 64) × Storable (value_or no_plot a).tiles
unfolding value_or
plot_fine file (refused n) e = (omega arith, none_storable)
plot_fine file (given p) e = let ok = accepted_plot file p e in (ok.2, ok.3)

-- the number of some tiles that are stored is told
tells_tiles : {A : Type 0} (old new : List ℕ) (r : ℕ) (f : A → List Path) (a : Answer A) (d : A) (ts : Tiles) → 0 ≡ refusal_of a → ts ≡ tiles_of (f (value_or d a)) → f d ≡ []
    → AnswersWords (given (ts.count ∷ [])) old new r → AnswersWords (map_answer (λ x. length (f x) ∷ []) a) old new r
tells_tiles old new r f a d ts e s z t =
    let c : ts.count ≡ length (f (value_or d a)) = ap (λ (x : Tiles). x.count) s ∙ count_tiles_of (f (value_or d a)) in
    tells_struct old new r (λ x. length (f x) ∷ []) a d (ts.count ∷ []) e
    (ap (λ (n : ℕ). padded (n ∷ []) (length old)) c)
    (ap (λ (ps : List Path). padded (length ps ∷ []) (length old)) z ∙ padded_zero [] (length old)) t

-- ---- `orbit`

module _ (t : Tile) (made : Result Tiles Refusal) (makes : MakesTiles (map_answer orbit (read_tile t)) made) (tiles tiles' answer answer' : List ℕ) (r : ℕ) where
  abbrev a : Answer (List Path)
  a = map_answer orbit (read_tile t)

  pub orbit_told : (all : Tiles) → made ≡ Ok all → tiles' ≡ struct_bytes all (length tiles) → AnswersWords (given (all.count ∷ [])) answer answer' r
      → AnswersList bytes_for a tiles answer tiles' answer' r
  unfolding value_or
  orbit_told all is left x =
      let m = map_given tiles_of a all (sym makes ∙ ap answer_of is) in
      let ok = orbit_fine t (read_tile t) refl in
      let few : all.count ≡ length m.0 = ap (λ (ts : Tiles). ts.count) (sym m.2) ∙ count_tiles_of m.0 in
      record {
        answered =
            tells_value answer answer' r (λ ps. length ps ∷ []) a m.0 (all.count ∷ []) m.1 (ap (λ (n : ℕ). padded (n ∷ []) (length answer)) few) x;
        out_left = left ∙ stored_bytes all (value_or [] a) ok.0 ok.1 (sym m.2 ∙ ap (λ (y : Answer (List Path)). tiles_of (value_or [] y)) (sym m.1)) (length tiles);
      }

  pub orbit_refused : (q : Refusal) → made ≡ Err q → (none : Tiles) → none ≡ tiles_of [] → tiles' ≡ struct_bytes none (length tiles)
      → AnswersWords (refused (refusal_number q)) answer answer' r → AnswersList bytes_for a tiles answer tiles' answer' r
  unfolding value_or
  orbit_refused q is none empty left x =
      let no = (map_refused tiles_of a (refusal_number q)).0 (sym makes ∙ ap answer_of is) in
      record {
        answered = tells_no answer answer' r (λ ps. length ps ∷ []) a q no x;
        out_left = left ∙ none_bytes none empty (length tiles) ∙ ap (λ (y : Answer (List Path)). bytes_for (value_or [] y) (length tiles)) (sym no);
      }

-- ---- `read_plot`

module _ (file : List ℕ) (made : MadePlot) (reads : ReadsPlot (plot_in file) made) (board board' tiles tiles' answer answer' : List ℕ)
    (leftBoard : board' ≡ padded (board_words (board_of made.board)) (length board)) (leftTiles : tiles' ≡ struct_bytes made.tiles (length tiles)) (r : ℕ) where
  told_plot : AnswersWords (map_answer (λ p. length p.tiles ∷ []) (plot_in file)) answer answer' r → AnswersPlot (plot_in file) board tiles answer board' tiles' answer' r
  told_plot x =
      let ok = plot_fine file (plot_in file) refl in
      record {
        answered = x;
        board_left = leftBoard ∙ ap (λ (b : Board). padded (board_words b) (length board)) reads.board;
        tiles_left = leftTiles ∙ stored_bytes made.tiles (value_or no_plot (plot_in file)).tiles ok.0 ok.1 reads.tiles (length tiles);
      }

  pub plot_told : made.verdict ≡ Ok tt → AnswersWords (given (made.tiles.count ∷ [])) answer answer' r → AnswersPlot (plot_in file) board tiles answer board' tiles' answer' r
  plot_told e x = told_plot (tells_tiles answer answer' r (λ p. p.tiles) (plot_in file) no_plot made.tiles (sym (ap verdict_number e) ∙ reads.verdict) reads.tiles refl x)

  pub plot_refused : (q : Refusal) → made.verdict ≡ Err q → AnswersWords (refused (refusal_number q)) answer answer' r → AnswersPlot (plot_in file) board tiles answer board' tiles' answer' r
  plot_refused q e x =
      told_plot (tells_no answer answer' r (λ p. length p.tiles ∷ []) (plot_in file) q (refused_of (plot_in file) q (sym (ap verdict_number e) ∙ reads.verdict)) x)

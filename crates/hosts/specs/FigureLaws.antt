-- The figure called cuttings from the words that `cuttings_count_cuttings` leaves: it is returned what `cuttings_count_tilings` is returned; where a cell is free the words
-- are the same; the number in the two words is the definition's, and so is that of an archive record into which they are written. Rests on `ReturnLaws`,
-- `HandedOnLaws`, `ReadBackLaws` and the crate cuttings' `Theorems`. Assumes nothing.
use Rattle.std.specs.Prelude.{◌≡◌, Bool, true, false, cond, ℕ, ◌≤◌, ◌<◌, ◌^◌, eqb, length, take}
use Rattle.std.proofs.Math.Path.{refl, sym, ap}
use Rattle.std.proofs.Common.{ap₂, ◌∙◌, subst, arith}
use mathlib.Core.List.{List, [], ◌∷◌}
use Rattle.std.proofs.Math.ListN.{get_or}
use Rattle.cells.specs.Set.{Sound, value, words_below}
use Rattle.cells.specs.WordLaws.{Small}
use Rattle.cells.specs.Lists.{padded}
use Rattle.refusal.specs.Refusal.{Answer, refused, given, map_answer, refusal_of, value_or}
use Rattle.tiles.specs.declared.Tiles.{Tiles}
use Rattle.tiles.specs.Paths.{paths_in}
use Rattle.board.specs.declared.RectangularBoard.{RectangularBoard}
use Rattle.board.specs.Board.{board_of}
use Rattle.rectangle.specs.Board.{is_full}
use Rattle.covers.specs.Counts.{Exactly}
use Rattle.graph.specs.Graph.{layer_room}
use Rattle.path_count.specs.PathCounts.{count_limit}
use Rattle.expansion.specs.Plots.{IsCutting, HasFreeCell, AllEdgeJoined}
use Rattle.layers.specs.LayerCounts.{count_tilings}
use Rattle.cuttings.specs.Cuttings.{cuttings_of, count_cuttings}
use Rattle.cuttings.proofs.CuttingLaws.{free_of, full_given}
use Rattle.cuttings.proofs.Theorems.{free_is_layer_count, figure_fits, figure_is_cuttings}
use Rattle.host_words.specs.Layout.{board_in, plot_shape, unless, AnswersWords}
use Rattle.host_tiles.specs.TileBytes.{tiles_in}
use Rattle.host_counts.specs.Calls.{counted, cuttings_counted}
use Rattle.hosts.specs.ReturnLaws.{zero_given, unless_given, plot_shape_lem, cuttings_refuses}
use Rattle.hosts.specs.ReadBackLaws.{number_at, two_small, value_two, count_back}
use Rattle.hosts.specs.HandedOnLaws.{words_given}

-- what is put through f is refused by the same number, also behind the shapes
same_number : (f : ℕ → ℕ) (n : ℕ) (a : Answer ℕ) → refusal_of (map_answer (words_below 2) (unless n (map_answer f a))) ≡ refusal_of (map_answer (words_below 2) (unless n a))
unfolding unless map_answer refusal_of
same_number f n a = go (eqb n 0) a
  where
    go : (t : Bool) (x : Answer ℕ) → refusal_of (map_answer (words_below 2) (cond t (map_answer f x) (refused n))) ≡ refusal_of (map_answer (words_below 2) (cond t x (refused n)))
    go true (refused k) = refl
    go true (given m) = refl
    go false x = refl

module _ (width height : ℕ) (marks tiles boardsA countsA boardsB countsB answer : List ℕ) where
  abbrev room : ℕ
  room = layer_room (length boardsA) (length countsA) (length boardsB) (length countsB)

  abbrev b : RectangularBoard
  b = board_in width height marks

  abbrev ts : Tiles
  ts = tiles_in tiles

  abbrev figure : Answer ℕ
  figure = cuttings_counted width height marks tiles room (length answer)

  abbrev layers : Answer ℕ
  layers = counted width height marks tiles room (length answer)

  -- ---- beside the layer count

  numbers_alike : refusal_of (map_answer (words_below 2) figure) ≡ refusal_of (map_answer (words_below 2) layers)
  unfolding cuttings_counted counted count_cuttings
  numbers_alike = same_number (cuttings_of (board_of b)) (plot_shape 2 (length marks) (length tiles) (length answer)) (count_tilings b ts room)

  answers_alike : HasFreeCell (board_of b) → figure ≡ layers
  unfolding cuttings_counted counted
  answers_alike free = ap (unless (plot_shape 2 (length marks) (length tiles) (length answer))) (free_is_layer_count b ts free room)

  answers_same : is_full (board_of b) ≡ false → figure ≡ layers
  unfolding cuttings_counted counted count_cuttings map_answer
  answers_same free = ap (unless (plot_shape 2 (length marks) (length tiles) (length answer))) (go (count_tilings b ts room))
    where
      go : (a : Answer ℕ) → map_answer (cuttings_of (board_of b)) a ≡ a
      go (refused k) = refl
      go (given m) = ap given (free_of (board_of b) m free)

  module _ (answer' answer'' : List ℕ) (r s : ℕ) (told : AnswersWords (map_answer (words_below 2) figure) answer answer' r)
      (beside : AnswersWords (map_answer (words_below 2) layers) answer answer'' s) where
    pub returns_alike : r ≡ s
    returns_alike = told.number ∙ numbers_alike ∙ sym beside.number

    same_words : figure ≡ layers → answer' ≡ answer''
    same_words e = told.words ∙ ap (λ (a : Answer ℕ). padded (value_or [] (map_answer (words_below 2) a)) (length answer)) e ∙ sym beside.words

    pub words_alike : HasFreeCell (board_of b) → answer' ≡ answer''
    words_alike free = same_words (answers_alike free)

    pub words_differ : (answer' ≡ answer'' → ⊥) → is_full (board_of b) ≡ true
    words_differ other = go (is_full (board_of b)) refl
      where
        go : (t : Bool) → is_full (board_of b) ≡ t → t ≡ true
        go true e = refl
        go false e = absurd (other (same_words (answers_same e)))

  -- ---- the figure alone

  module _ (small : Small marks) (answer' : List ℕ) (told : AnswersWords (map_answer (words_below 2) figure) answer answer' 0) where
    fixed_words : Sound b.fixed
    fixed_words = record { s0 = small 0; s1 = small 1; s2 = small 2; s3 = small 3 }

    laid_words : Sound b.laid
    laid_words = record { s0 = small 4; s1 = small 5; s2 = small 6; s3 = small 7 }

    n_told : (n : ℕ) × (figure ≡ given n)
    n_told = (zero_given (words_below 2) figure answer answer' 0 (cuttings_refuses width height marks tiles (length answer) room) told).0 refl

    abbrev n : ℕ
    n = n_told.0

    parts : (plot_shape 2 (length marks) (length tiles) (length answer) ≡ 0) × (count_cuttings b ts room ≡ given n)
    unfolding cuttings_counted
    parts = unless_given (plot_shape 2 (length marks) (length tiles) (length answer)) (count_cuttings b ts room) n n_told.1

    two : 2 ≤ length answer
    two = (plot_shape_lem 2 (length marks) (length tiles) (length answer) parts.0).2

    fits : n < count_limit
    fits = figure_fits b ts fixed_words laid_words room n parts.1

    words_left : answer' ≡ padded (words_below 2 n) (length answer)
    words_left = words_given (words_below 2) figure n answer answer' 0 n_told.1 told

    -- the number in the two words
    abbrev figure_told : ℕ
    figure_told = value (take 2 answer')

    is : figure_told ≡ n
    is = count_back n (length answer) fits two answer' words_left

    pub told_figure : count_cuttings b ts room ≡ given figure_told
    told_figure = parts.1 ∙ ap given (sym is)

    pub told_cuttings : AllEdgeJoined (paths_in ts) → Exactly figure_told (IsCutting (board_of b) (paths_in ts))
    told_cuttings joined = figure_is_cuttings b ts fixed_words laid_words joined room figure_told told_figure

    pub told_one : is_full (board_of b) ≡ true → figure_told ≡ 1
    told_one full = full_given b ts room figure_told full told_figure

    -- ---- its two words, as an archive record takes them

    word_at_lem : (i : ℕ) → i < 2 → get_or answer' i 0 ≡ get_or (words_below 2 n) i 0
    word_at_lem i h = ap (λ (ws : List ℕ). get_or ws i 0) words_left ∙ number_at (words_below 2 n) (length answer) i (omega (arith, two))

    two_of : (ws : List ℕ) → ws ≡ words_below 2 n → get_or ws 0 0 ∷ get_or ws 1 0 ∷ [] ≡ ws
    unfolding words_below
    two_of ws e = ap (λ (xs : List ℕ). get_or xs 0 0 ∷ get_or xs 1 0 ∷ []) e ∙ sym e

    pub word_small : (i : ℕ) → i < 2 → get_or answer' i 0 < 2 ^ 64
    word_small i h = subst (λ (w : ℕ). w < 2 ^ 64) (sym (word_at_lem i h)) (two_small n i)

    pub words_hold : value (get_or answer' 0 0 ∷ get_or answer' 1 0 ∷ []) ≡ figure_told
    words_hold =
        ap value (ap₂ (λ (x y : ℕ). x ∷ y ∷ []) (word_at_lem 0 (omega arith)) (word_at_lem 1 (omega arith)) ∙ two_of (words_below 2 n) refl)
        ∙ value_two n fits
        ∙ sym is

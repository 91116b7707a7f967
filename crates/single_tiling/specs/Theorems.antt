-- What the answer means: the theorem page of one tiling. None is answered exactly if there is no tiling; the boards in the output are one otherwise; a
-- full start has none; where the layer count is given, none is answered exactly if it is 0; and a tiling's pieces are a cutting. Each statement is over what the
-- contract says that the call answers and leaves, for any board and tiles of the code (a set of the code has words of 64 bits: `Sound`) and any lent
-- words; all but the first two are of a call that is not refused. What stands in quotation marks is 01's. Rests on `TilingLaws`, `CountLaws` and
-- `CuttingLaws`. Assumes nothing.
use Rattle.std.specs.Prelude.{Result}
use Rattle.refusal.specs.declared.Refusal.{Refusal}
use Rattle.std.specs.Prelude.{◌≡◌, refl, ◌↔◌, Bool, List, ℕ, ◌+◌, ◌/◌, ◌^◌, ◌≤◌, ◌<◌, length, replicate}
use Rattle.std.proofs.Common.{sym, ap, ap₂, ◌∙◌, subst}
use Rattle.std.proofs.Math.Bool.{So}
use Rattle.std.specs.Prelude.{Option, None, Some}
use Rattle.cells.specs.ListLaws.{sets_in}
use Rattle.cells.specs.Lists.{words_for}
use Rattle.cells.specs.Set.{Sound}
use Rattle.cells.specs.WordLaws.{number_lt}
use Rattle.refusal.specs.Refusal.{refused, given, answer_of}
use Rattle.refusal.specs.RefusalLaws.{given_inj, map_refused}
use Rattle.tiles.specs.declared.Tiles.{Tiles}
use Rattle.tile.specs.Path.{Path}
use Rattle.tiles.specs.Paths.{paths_in}
use Rattle.tiles.specs.ReadLaws.{read_tiles_storable}
use Rattle.board.specs.declared.RectangularBoard.{RectangularBoard}
use Rattle.rectangle.specs.Board.{Board, free_count, is_full, valid}
use Rattle.board.specs.Board.{board_of}
use Rattle.graph.specs.Graph.{marked_pieces}
use Rattle.layers.specs.LayerCounts.{count_tilings}
use Rattle.expansion.specs.Plots.{IsCutting, HasFreeCell, AllEdgeJoined}
use Rattle.single_tiling.specs.SingleTiling.{IsTiling, read_search, number_found, GetsSingleTiling}
use Rattle.single_tiling.specs.TilingLaws.{tiling_length, tiling_small, full_no_tiling, search_read, finds_none, finds_some, finds_nothing, words_refused, answer_given, words_given, words_back, words_zero, no_cells_full}
use Rattle.single_tiling.specs.CountLaws.{no_tiling_count, count_no_tiling}
use Rattle.single_tiling.specs.CuttingLaws.{tiling_cutting, cutting_tiling}

-- ---- 0. A refusal

module _ (b : RectangularBoard) (ts : Tiles) (old new : List ℕ) (r : Result (Option ℕ) Refusal) (call : GetsSingleTiling b ts old new r) (k : ℕ) where
  -- The call is refused exactly if board, tiles and output are, with the same number,
  pub refused_iff : (answer_of r ≡ refused k) ↔ (read_search b ts (length old / 4) ≡ refused k)
  refused_iff = (
    λ e. (map_refused (λ p. number_found call.found) (read_search b ts (length old / 4)) k).0 (sym call.answer ∙ e),
    λ e. call.answer ∙ (map_refused (λ p. number_found call.found) (read_search b ts (length old / 4)) k).1 e,
  )

  -- and "the output is then zero,"
  pub refused_leaves_zeros : answer_of r ≡ refused k → new ≡ replicate (length old) 0
  refused_leaves_zeros e = words_refused b ts old new r call k (refused_iff.0 e) ∙ words_zero (length old)

-- `get_single_tiling` is called with a board, tiles and an output, and leaves the words `new` and the answer r; board, tiles and output are not refused
module _ (b : RectangularBoard) (fixed : Sound b.fixed) (laid : Sound b.laid) (ts : Tiles) (old new : List ℕ) (r : Result (Option ℕ) Refusal)
    (call : GetsSingleTiling b ts old new r) (p : Board × List Path) (read : read_search b ts (length old / 4) ≡ given p) where
  -- What is searched are the board and the tiles that were handed in.
  pub searched_is_given : p ≡ (board_of b, paths_in ts)
  searched_is_given = (search_read b ts (length old / 4) p read).0

  good : So (valid (board_of b))
  good = (search_read b ts (length old / 4) p read).1

  fixed_lt : (board_of b).fixed < 2 ^ 256
  fixed_lt = number_lt b.fixed fixed

  laid_lt : (board_of b).laid < 2 ^ 256
  laid_lt = number_lt b.laid laid

  -- a tiling of what is searched is one of what was handed in, and so the other way round
  handed : (xs : List ℕ) → IsTiling p.0 p.1 xs → IsTiling (board_of b) (paths_in ts) xs
  handed xs t = subst (λ (q : Board × List Path). IsTiling q.0 q.1 xs) searched_is_given t

  searched : (xs : List ℕ) → IsTiling (board_of b) (paths_in ts) xs → IsTiling p.0 p.1 xs
  searched xs t = subst (λ (q : Board × List Path). IsTiling q.0 q.1 xs) (sym searched_is_given) t

  -- ---- 1. The answer and the output

  -- "none exactly if no child sequence reaches one": a full board, by one piece or more.
  pub none_iff : (answer_of r ≡ given None) ↔ ((xs : List ℕ) → IsTiling p.0 p.1 xs → ⊥)
  none_iff =
      let told = answer_given b ts old new r call p read in
      let found = finds_none p.0 p.1 call.found (call.tiling p read) in
      (λ e. found.0 (given_inj (number_found call.found) None (sym told ∙ e)), λ never. told ∙ ap given (found.1 never))

  -- Otherwise "the number of boards comes back", and the output holds the boards of a tiling, "from the start to a full one", and zeros behind them.
  pub found_is_tiling : (n : ℕ) → answer_of r ≡ given (Some n)
      → (xs : List ℕ) × IsTiling p.0 p.1 xs × (length xs ≡ n) × (sets_in new n ≡ xs) × (new ≡ words_for xs (length old))
  found_is_tiling n e =
      let number = given_inj (number_found call.found) (Some n) (sym (answer_given b ts old new r call p read) ∙ e) in
      let f = finds_some p.0 p.1 call.found (call.tiling p read) n number in
      let t = handed f.0 f.1 in
      let words = words_given b ts old new r call p read ∙ ap (λ (ns : List ℕ). words_for ns (length old)) f.3 in (
        f.0,
        f.1,
        f.2,
        ap₂ sets_in words (sym f.2)
            ∙ words_back f.0 (free_count (board_of b)) (length old) (tiling_length (board_of b) good (paths_in ts) fixed_lt laid_lt f.0 t)
            (search_read b ts (length old / 4) p read).3 (tiling_small (board_of b) good (paths_in ts) fixed_lt laid_lt f.0 t),
        words,
      )

  -- "saying none outright, contradicts a sequence that demand 2's definition has": where there is a tiling, one is found, of two boards at least and at
  -- most one more than there are free cells.
  pub tiling_is_found : (xs : List ℕ) → IsTiling p.0 p.1 xs → (n : ℕ) × (answer_of r ≡ given (Some n)) × (2 ≤ n) × (n ≤ free_count (board_of b) + 1)
  tiling_is_found xs t = go (number_found call.found) refl
    where
      go : (o : Option ℕ) → number_found call.found ≡ o → (n : ℕ) × (answer_of r ≡ given (Some n)) × (2 ≤ n) × (n ≤ free_count (board_of b) + 1)
      go None e = absurd (none_iff.0 (answer_given b ts old new r call p read ∙ ap given e) xs t)
      go (Some n) e =
          let told : answer_of r ≡ given (Some n) = answer_given b ts old new r call p read ∙ ap given e in
          let f = found_is_tiling n told in (
            n,
            told,
            subst (λ (k : ℕ). 2 ≤ k) f.2 f.1.pieces,
            subst (λ (k : ℕ). k ≤ free_count (board_of b) + 1) f.2 (tiling_length (board_of b) good (paths_in ts) fixed_lt laid_lt f.0 (handed f.0 f.1)),
          )

  -- "as with none".
  pub none_leaves_zeros : answer_of r ≡ given None → new ≡ replicate (length old) 0
  none_leaves_zeros e =
      let number = given_inj (number_found call.found) None (sym (answer_given b ts old new r call p read) ∙ e) in
      words_given b ts old new r call p read ∙ ap (λ (ns : List ℕ). words_for ns (length old)) (finds_nothing call.found number) ∙ words_zero (length old)

  -- ---- 2. A start with no free cell

  -- "of one piece or more": a full start has no tiling,
  pub full_start_has_none : So (is_full (board_of b)) → (xs : List ℕ) → IsTiling (board_of b) (paths_in ts) xs → ⊥
  full_start_has_none full xs t = full_no_tiling (board_of b) good (paths_in ts) fixed_lt laid_lt full xs t

  -- and none is answered,
  pub full_start_answers_none : So (is_full (board_of b)) → answer_of r ≡ given None
  full_start_answers_none full = none_iff.1 (λ xs t. full_start_has_none full xs (handed xs t))

  -- as for the 0 by 0 board.
  pub no_cells_answer_none : b.width ≡ 0 → answer_of r ≡ given None
  no_cells_answer_none w = full_start_answers_none (no_cells_full (board_of b) w)

  -- ---- 3. The layer count

  -- Where it is given too, for any room, none is answered exactly where it is 0.
  pub none_exactly_where_the_count_is_0 : (room n : ℕ) → count_tilings b ts room ≡ given n → (answer_of r ≡ given None) ↔ (n ≡ 0)
  none_exactly_where_the_count_is_0 room n told = (
    λ e. no_tiling_count b fixed laid ts room n told (λ xs t. none_iff.0 e xs (searched xs t)),
    λ z. none_iff.1 (λ xs t. count_no_tiling b fixed laid ts room n told z xs (handed xs t)),
  )

  -- ---- 4. Cuttings

  -- "the set of pieces that its steps mark" is, of a tiling, a cutting of the start,
  pub tiling_is_cutting : (xs : List ℕ) → IsTiling (board_of b) (paths_in ts) xs → IsCutting (board_of b) (paths_in ts) (marked_pieces xs)
  tiling_is_cutting xs t = tiling_cutting (board_of b) good (paths_in ts) fixed_lt laid_lt xs t

  -- so the output holds one.
  pub found_is_cutting : (n : ℕ) → answer_of r ≡ given (Some n) → IsCutting (board_of b) (paths_in ts) (marked_pieces (sets_in new n))
  found_is_cutting n e =
      let f = found_is_tiling n e in
      subst (λ (xs : List ℕ). IsCutting (board_of b) (paths_in ts) (marked_pieces xs)) (sym f.3) (tiling_is_cutting f.0 (handed f.0 f.1))

  -- For a board with a free cell, and tiles where every cell of a tile of two or more cells shares an edge with another cell of that tile, none is
  -- answered exactly if there is no cutting at all; "unequal tiles allowed".
  pub none_means_no_cutting : HasFreeCell (board_of b) → AllEdgeJoined (paths_in ts)
      → (answer_of r ≡ given None) ↔ ((X : ℕ → Bool) → IsCutting (board_of b) (paths_in ts) X → ⊥)
  none_means_no_cutting free joined =
      let codes = (read_tiles_storable ts (paths_in ts) (search_read b ts (length old / 4) p read).2).0 in (
        λ e X cutting.
            let t = cutting_tiling (board_of b) good (paths_in ts) fixed_lt laid_lt free joined (λ path m. (codes path m).1) X cutting in
            none_iff.0 e t.0 (searched t.0 t.1),
        λ never. none_iff.1 (λ xs t. never (marked_pieces xs) (tiling_is_cutting xs (handed xs t))),
      )

-- Laws of tilings: a child of an accepted board of the start is one too, and has as many free cells fewer as a tile has cells; so a tiling has at most
-- one board more than cells are free, and each is a set of 256 cells; a full start has no tiling, and from another every child sequence to a full board
-- is one. Then what a search reads, answers and leaves. Rests on expansion's `SettingLaws`, covers' `NodeLaws` and the laws of `rectangle`, `fit` and `children`. Assumes nothing.
use Rattle.std.specs.Prelude.{Result}
use Rattle.refusal.specs.declared.Refusal.{Refusal}
use Rattle.std.specs.Prelude.{◌≡◌, refl, ◌↔◌, Bool, true, false, cond, ℕ, ◌+◌, ◌*◌, ◌/◌, ◌^◌, ◌≤◌, ◌<◌, leb, length, get_or, replicate}
use Rattle.std.proofs.Common.{sym, ap₂, ◌∙◌, subst, arith, eqb-true, leb-true}
use Rattle.std.proofs.Math.Path.{ap}
use Rattle.std.proofs.Math.Bool.{So}
use Rattle.std.proofs.lemmas.Bool.{false≢true}
use mathlib.Core.List.Memᴰ.{not-nil}
use mathlib.Core.List.{List, [], ◌∷◌, Memᴰ as Mem}
use Rattle.std.specs.Prelude.{Option, None, Some}
use Rattle.cells.specs.OptionLaws.{none-ne-some, some-injective}
use Rattle.cells.specs.ArrayLaws.{padded_empty}
use Rattle.cells.specs.ListLaws.{sets_in, sets_in_words_for}
use Rattle.cells.specs.Lists.{words_for}
use Rattle.refusal.specs.Refusal.{Answer, refused, given, map_answer, bind_answer, value_or, answer_of}
use Rattle.refusal.specs.RefusalLaws.{refused_given, given_inj, bind_given}
use Rattle.tiles.specs.declared.Tiles.{Tiles}
use Rattle.tile.specs.Path.{Path, cell_count}
use Rattle.tiles.specs.Paths.{paths_in, read_tiles}
use Rattle.tile.specs.PathLaws.{cell_count_pos}
use Rattle.tiles.specs.ReadLaws.{read_tiles_sound}
use Rattle.board.specs.declared.RectangularBoard.{RectangularBoard}
use Rattle.rectangle.specs.Board.{Board, board_at, marks, free_count, is_full, valid}
use Rattle.board.specs.Board.{board_of, read_board}
use Rattle.board.specs.BoardLaws.{read_board_is}
use Rattle.fit.specs.Fit.{IsPiece}
use Rattle.children.specs.Children.{children_at}
use Rattle.rectangle.proofs.BoardLaws.{none_full, free_inside}
use Rattle.children.specs.ChildLaws.{child_piece, full_children}
use Rattle.fit.proofs.LayLaws.{piece_iff, piece_size, lay_count}
use Rattle.covers.specs.Counts.{Steps, ChildSequence}
use Rattle.covers.proofs.NodeLaws.{chain_good}
use Rattle.expansion.specs.Boards.{From}
use Rattle.expansion.proofs.SettingLaws.{marks_at, lay_at, lay_from, start_at_lem, start_ok}
use Rattle.expansion.proofs.ExpansionLaws.{small_at}
use Rattle.single_tiling.specs.SingleTiling.{IsTiling, Finds, read_search, boards_found, number_found, GetsSingleTiling}

-- ---- a child

pub full_zero : (b : Board) → So (is_full b) → free_count b ≡ 0
unfolding is_full
full_zero b e = eqb-true (free_count b) 0 e

module _ (b : Board) (good : So (valid b)) (paths : List Path) where
  module _ (n c : ℕ) (ok : From b n) (m : Mem c (children_at b paths n)) where
    -- the piece of the step
    laid : (p : ℕ) × IsPiece (board_at b n) paths p × (c ≡ n + p)
    laid =
        let r = child_piece (board_at b n) ok.accepted paths c m in
        (r.2, r.3, r.5 ∙ ap (λ (x : ℕ). x + r.2) (marks_at b paths n ok))

    pub child_from : From b c
    child_from = subst (From b) (sym laid.2) (lay_from b paths n ok laid.0 laid.1)

    -- a tile's cells are no longer free
    pub child_tile : (path : Path) × Mem path paths × (free_count (board_at b c) + cell_count path ≡ free_count (board_at b n))
    child_tile =
        let t = ((piece_iff (board_at b n) ok.accepted paths laid.0).0 laid.1).0 in (
          t.0,
          t.1,
          ap₂ (λ (d : Board) (k : ℕ). free_count d + k) (ap (board_at b) laid.2 ∙ sym (lay_at b paths n ok laid.0 laid.1))
              (sym (piece_size b good paths laid.0 t))
              ∙ lay_count (board_at b n) ok.accepted paths laid.0 laid.1,
        )

  -- so there are fewer free cells
  pub child_falls : (n c : ℕ) → From b n → Mem c (children_at b paths n) → From b c × (free_count (board_at b c) < free_count (board_at b n))
  child_falls n c ok m = let t = child_tile n c ok m in (child_from n c ok m, omega (arith, t.2, cell_count_pos t.0))

  -- and no more steps than free cells
  steps_length : (last n : ℕ) (xs : List ℕ) → From b n → Steps (λ s t. Mem t (children_at b paths s)) n xs last → length xs ≤ free_count (board_at b n)
  steps_length last n [] ok w = omega arith
  steps_length last n (x ∷ xs) ok w = let r = child_falls n x ok w.0 in omega (arith, r.1, steps_length last x xs r.0 w.1)

  -- ---- a tiling

  module _ (fixed_lt : b.fixed < 2 ^ 256) (laid_lt : b.laid < 2 ^ 256) where
    start_from : (x : ℕ) → x ≡ marks b → From b x
    start_from x e = subst (From b) (sym e) (start_ok b paths good fixed_lt laid_lt)

    start_free : (x : ℕ) → x ≡ marks b → free_count (board_at b x) ≡ free_count b
    start_free x e = ap free_count (ap (board_at b) e ∙ start_at_lem b paths good fixed_lt laid_lt)

    pub sequence_length : (last : ℕ) (xs : List ℕ) → ChildSequence (children_at b paths) (marks b) last xs → length xs ≤ free_count b + 1
    sequence_length last [] s = absurd s
    sequence_length last (x ∷ xs) s = omega (arith, steps_length last x xs (start_from x s.0) s.1, start_free x s.0)

    pub tiling_length : (xs : List ℕ) → IsTiling b paths xs → length xs ≤ free_count b + 1
    tiling_length xs t = sequence_length t.last xs t.sequence

    -- each board is one of the start, a set of 256 cells
    pub tiling_small : (xs : List ℕ) → IsTiling b paths xs → (i : ℕ) → get_or xs i 0 < 2 ^ 256
    tiling_small xs t =
        small_at xs
        (λ n m. (chain_good (λ s u. Mem u (children_at b paths s)) (From b) child_from (marks b) t.last xs (start_ok b paths good fixed_lt laid_lt) t.sequence n m).small)

    -- a full start has no child, and so no tiling
    full_sequence : So (is_full b) → (last : ℕ) (xs : List ℕ) → ChildSequence (children_at b paths) (marks b) last xs → 1 < length xs → ⊥
    full_sequence full last [] s more = s
    full_sequence full last (x ∷ []) s more = omega arith
    full_sequence full last (x ∷ y ∷ ys) s more =
        let e = ap is_full (ap (board_at b) s.0 ∙ start_at_lem b paths good fixed_lt laid_lt) ∙ full in
        not-nil (subst (Mem y) (full_children (board_at b x) (start_from x s.0).accepted paths e) s.1.0)

    pub full_no_tiling : So (is_full b) → (xs : List ℕ) → IsTiling b paths xs → ⊥
    full_no_tiling full xs t = full_sequence full t.last xs t.sequence t.pieces

    -- from a start that is not full every child sequence to a full board is of one piece or more
    one_step : is_full b ≡ false → (last : ℕ) → So (is_full (board_at b last)) → (xs : List ℕ) → ChildSequence (children_at b paths) (marks b) last xs → 1 < length xs
    one_step free last full [] s = absurd s
    one_step free last full (x ∷ []) s =
        absurd (false≢true (sym free ∙ ap is_full (sym (ap (board_at b) (sym s.1 ∙ s.0) ∙ start_at_lem b paths good fixed_lt laid_lt)) ∙ full))
    one_step free last full (x ∷ y ∷ ys) s = omega arith

    pub sequence_tiling : is_full b ≡ false → (last : ℕ) → So (is_full (board_at b last)) → (xs : List ℕ)
        → ChildSequence (children_at b paths) (marks b) last xs → IsTiling b paths xs
    sequence_tiling free last full xs s = record { last = last; sequence = s; full = full; pieces = one_step free last full xs s }

-- ---- what is read

pub search_read : (b : RectangularBoard) (ts : Tiles) (room : ℕ) (p : Board × List Path) → read_search b ts room ≡ given p
    → (p ≡ (board_of b, paths_in ts)) × So (valid (board_of b)) × (read_tiles ts ≡ given (paths_in ts)) × (free_count (board_of b) + 1 ≤ room)
unfolding read_search
search_read b ts room p e =
    let x = bind_given (read_board b) (λ board. bind_answer (read_tiles ts) (λ paths. cond (leb (free_count board + 1) room) (given (board, paths)) (refused 8))) p e in
    let y = bind_given (read_tiles ts) (λ paths. cond (leb (free_count x.0 + 1) room) (given (x.0, paths)) (refused 8)) p x.2 in
    let board = read_board_is b x.0 x.1 in
    let tiles = (read_tiles_sound ts y.0 y.1).2 in
    let last = within x.0 y.0 (leb (free_count x.0 + 1) room) refl y.2 in (
      sym last.1 ∙ ap₂ (λ (d : Board) (ps : List Path). (d, ps)) (sym board.0) tiles,
      board.1,
      y.1 ∙ ap given tiles,
      subst (λ (d : Board). free_count d + 1 ≤ room) (sym board.0) last.0,
    )
  where
    within : (board : Board) (paths : List Path) (t : Bool) → leb (free_count board + 1) room ≡ t → cond t (given (board, paths)) (refused 8) ≡ given p
        → (free_count board + 1 ≤ room) × ((board, paths) ≡ p)
    within board paths true w f = (leb-true (free_count board + 1) room w, given_inj (board, paths) p f)
    within board paths false w f = absurd (refused_given 8 p f)

-- ---- what is found

pub finds_none : (b : Board) (paths : List Path) (found : Option (List ℕ)) → Finds b paths found
    → (number_found found ≡ None) ↔ ((xs : List ℕ) → IsTiling b paths xs → ⊥)
unfolding number_found
finds_none b paths None f = (λ e. f, λ h. refl)
finds_none b paths (Some xs) f = (λ e. absurd (none-ne-some (length xs) (sym e)), λ h. absurd (h xs f))

pub finds_some : (b : Board) (paths : List Path) (found : Option (List ℕ)) → Finds b paths found → (n : ℕ) → number_found found ≡ Some n
    → (xs : List ℕ) × IsTiling b paths xs × (length xs ≡ n) × (boards_found found ≡ xs)
unfolding number_found boards_found
finds_some b paths None f n e = absurd (none-ne-some n e)
finds_some b paths (Some xs) f n e = (xs, f, some-injective (length xs) n e, refl)

pub finds_nothing : (found : Option (List ℕ)) → number_found found ≡ None → boards_found found ≡ []
unfolding number_found boards_found
finds_nothing None e = refl
finds_nothing (Some xs) e = absurd (none-ne-some (length xs) (sym e))

-- ---- a search that is refused

pub words_refused : (b : RectangularBoard) (ts : Tiles) (old new : List ℕ) (r : Result (Option ℕ) Refusal) (call : GetsSingleTiling b ts old new r) (k : ℕ)
    → read_search b ts (length old / 4) ≡ refused k → new ≡ words_for [] (length old)
unfolding map_answer value_or
words_refused b ts old new r call k e =
    call.words ∙ ap (λ (a : Answer (Board × List Path)). words_for (value_or [] (map_answer (λ p. boards_found call.found) a)) (length old)) e

-- ---- a search that is not refused

module _ (b : RectangularBoard) (ts : Tiles) (old new : List ℕ) (r : Result (Option ℕ) Refusal) (call : GetsSingleTiling b ts old new r)
    (p : Board × List Path) (read : read_search b ts (length old / 4) ≡ given p) where
  pub answer_given : answer_of r ≡ given (number_found call.found)
  unfolding map_answer
  answer_given = call.answer ∙ ap (map_answer (λ p. number_found call.found)) read

  pub words_given : new ≡ words_for (boards_found call.found) (length old)
  unfolding map_answer value_or
  words_given = call.words ∙ ap (λ (a : Answer (Board × List Path)). words_for (value_or [] (map_answer (λ p. boards_found call.found) a)) (length old)) read

four_each : (k free count : ℕ) → k ≤ free + 1 → free + 1 ≤ count / 4 → 4 * k ≤ count
four_each k free count h i = omega arith

-- the words read back as the boards
pub words_back : (xs : List ℕ) (free count : ℕ) → length xs ≤ free + 1 → free + 1 ≤ count / 4 → ((i : ℕ) → get_or xs i 0 < 2 ^ 256)
    → sets_in (words_for xs count) (length xs) ≡ xs
words_back xs free count h i small = sets_in_words_for xs count (four_each (length xs) free count h i) small

-- no set: the words are zero
pub words_zero : (count : ℕ) → words_for [] count ≡ replicate count 0
unfolding words_for
words_zero count = padded_empty count

-- a board of no columns is full
pub no_cells_full : (b : Board) → b.width ≡ 0 → is_full b ≡ true
no_cells_full b w = none_full b (λ c f. omega (arith, (free_inside b c f).0))

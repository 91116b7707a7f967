-- The boards of a start and some tiles meet the laws of `covers`: the laws of a setting, and equal steps where all tiles have as many cells. Their
-- children are those of `place_tile`, and the start is one of them. Rests on the laws of `rectangle`, `fit`,
-- `choice` and `children`. Assumes nothing.
use Rattle.std.specs.Prelude.{◌≡◌, ◌↔◌, true, false, ◌&&◌, Option, None, Some}
use Rattle.std.proofs.Math.Path.{refl, sym, ap, subst, fun_ext}
use Rattle.std.proofs.Common.{◌∙◌, lt_of_le_of_lt}
use Rattle.std.proofs.Math.Bool.{Bool, So, not, cond}
use Rattle.std.proofs.lemmas.Bool.{false≢true}
use mathlib.Core.List.Memᴰ.{not-nil}
use mathlib.Core.List.{List, [], map, Memᴰ as Mem}
use Prim.Native.Nat.{ℕ, ◌+◌, ◌-◌, ◌^◌, ◌≤◌, ◌<◌}
use Rattle.std.proofs.Math.Decide.{dec_lt}
use native.Mathlib.Omega.{arith}
use Rattle.cells.specs.Set.{bit, has_cell, from_bits, union_of, size}
use Rattle.cells.specs.BitLaws.{Disjoint, Within, bit_le, bit_ext, bit_high, bit_add, from_bits_lt, bit_from_bits}
use Rattle.cells.specs.SetLaws.{within_le, has_cell_iff, bit_union_of, union_of_lt, union_of_disjoint, bit_sub, digit, bit_free}
use Rattle.cells.specs.FirstsLaws.{Once}
use Rattle.cells.specs.MemberLaws.{eqb_tells}
use Rattle.tile.specs.Path.{Path, cell_count}
use Rattle.rectangle.specs.Board.{Board, board_at, marks, is_free, is_full, valid, free_count, lay}
use Rattle.fit.specs.Fit.{IsPiece, pieces}
use Rattle.choice.specs.Choice.{chosen}
use Rattle.children.specs.Children.{pruned, children_on, children, children_at}
use Rattle.rectangle.proofs.BoardLaws.{marks_lt, none_full, full_none, valid_width, valid_height, valid_disjoint}
use Rattle.choice.specs.ChosenLaws.{chosen_best, chosen_none}
use Rattle.fit.proofs.PieceLaws.{mem_pieces, once_pieces}
use Rattle.fit.proofs.LayLaws.{piece_lt, piece_apart, marks_lay, lay_valid, piece_iff, piece_some, piece_size, lay_free, lay_count}
use Rattle.covers.specs.Setting.{FitsOn, child_boards, Laws, EqualSteps}
use Rattle.graph.specs.Graph.{step_piece}
use Rattle.rectangle.proofs.FreeLaws.{free_lt, full_marks_lem}
use Rattle.tile.specs.PathLaws.{cell_count_pos}
use Rattle.expansion.specs.Boards.{From, cell_or, pieces_on, setting}

-- ---- the children

-- the boards of a setting's children are the board's children, of any number
pub children_are : (b : Board) (paths : List Path) (n : ℕ) → child_boards (setting b paths) n ≡ children (board_at b n) paths
unfolding setting children pieces_on children_on
children_are b paths n = go (pruned (board_at b n) paths) (chosen (board_at b n))
  where
    go : (t : Bool) (c : Option ℕ) → map (λ p. marks (lay (board_at b n) p)) (cond t [] (pieces_on (board_at b n) paths c)) ≡ cond t [] (children_on (board_at b n) paths c)
    go true c = refl
    go false None = refl
    go false (Some cell) = refl

-- and so they are as functions of the number
pub same_children : (b : Board) (paths : List Path) → child_boards (setting b paths) ≡ children_at b paths
same_children b paths = fun_ext (children_are b paths)

-- a piece of the setting is a piece on the chosen cell
piece_on : (b : Board) (paths : List Path) (p : ℕ) (t : Bool) (c : Option ℕ) → Mem p (cond t [] (pieces_on b paths c)) → (cell : ℕ) × (c ≡ Some cell) × Mem p (pieces b paths cell)
unfolding pieces_on
piece_on b paths p true c m = absurd (not-nil m)
piece_on b paths p false None m = absurd (not-nil m)
piece_on b paths p false (Some cell) m = (cell, refl, m)

once_on : (b : Board) (paths : List Path) (t : Bool) (c : Option ℕ) → Once (cond t [] (pieces_on b paths c))
unfolding pieces_on
once_on b paths true c = tt
once_on b paths false None = tt
once_on b paths false (Some cell) = once_pieces b paths cell

-- ---- a board and its number. A mark past cell 255 is none that `valid` sees, so the start's numbers are asked to be below 2 ^ 256

module _ (b : Board) (paths : List Path) (n : ℕ) (ok : From b n) where
  fixed_le : b.fixed ≤ n
  fixed_le = within_le b.fixed n ok.above

  bit_laid : (c : ℕ) → bit (n - b.fixed) c ≡ bit n c - bit b.fixed c
  bit_laid = bit_sub b.fixed n (lt_of_le_of_lt fixed_le ok.small) ok.small ok.above

  pub marks_at : marks (board_at b n) ≡ n
  unfolding marks
  marks_at =
      bit_ext 256 (union_of b.fixed (n - b.fixed)) n (union_of_lt b.fixed (n - b.fixed)) ok.small
      (λ c h. omega (arith, bit_union_of b.fixed (n - b.fixed) c h, bit_laid c, ok.above c))

  module _ (p : ℕ) (piece : IsPiece (board_at b n) paths p) where
    -- laying a piece adds it
    pub lay_adds : marks (lay (board_at b n) p) ≡ n + p
    lay_adds = marks_lay (board_at b n) paths p piece ∙ ap (λ (x : ℕ). x + p) marks_at

    pub lay_apart : Disjoint n p
    lay_apart c = omega (arith, piece_apart (board_at b n) paths p piece c, ap (λ (x : ℕ). bit x c) marks_at)

    pub lay_at : lay (board_at b n) p ≡ board_at b (n + p)
    unfolding lay
    lay_at =
        let le = fixed_le in
        let less : n - b.fixed ≤ n = omega arith in
        let moved : n - b.fixed + p ≡ n + p - b.fixed = omega arith in
        let e : union_of (n - b.fixed) p ≡ n - b.fixed + p =
        union_of_disjoint (n - b.fixed) p (lt_of_le_of_lt less ok.small) (piece_lt (board_at b n) paths p piece) (λ c. omega (arith, lay_apart c, bit_laid c)) in
        ap (λ (l : ℕ). record { width = b.width; height = b.height; fixed = b.fixed; laid = l }) (e ∙ moved)

    -- and gives an accepted board of the same start
    pub lay_from : From b (n + p)
    lay_from = record {
      accepted = subst (λ (x : Board). So (valid x)) lay_at (lay_valid (board_at b n) ok.accepted paths p piece);
      above = λ c. omega (arith, ok.above c, bit_add c n p lay_apart);
      small = subst (λ (x : ℕ). x < 2 ^ 256) lay_adds (marks_lt (lay (board_at b n) p));
    }

    -- the piece of the step is the piece
    lay_piece : step_piece n (n + p) ≡ p
    unfolding step_piece
    lay_piece =
        bit_ext 256 (from_bits 256 (λ c. cond (test c) 1 0)) p (from_bits_lt (λ c. cond (test c) 1 0) (λ c. digit (test c)) 256) (piece_lt (board_at b n) paths p piece)
        (λ c h. bit_from_bits (λ c. cond (test c) 1 0) (λ c. digit (test c)) 256 c h ∙ go c (has_cell (n + p) c) refl (has_cell n c) refl)
      where
        test : ℕ → Bool
        test c = has_cell (n + p) c && not (has_cell n c)

        go : (c : ℕ) (s : Bool) → has_cell (n + p) c ≡ s → (t : Bool) → has_cell n c ≡ t → cond (s && not t) 1 0 ≡ bit p c
        go c true e true f = omega (arith, (has_cell_iff n c).0 f, bit_le p c, lay_apart c)
        go c true e false f = omega (arith, (has_cell_iff (n + p) c).0 e, bit_free n c f, bit_add c n p lay_apart)
        go c false e t f = omega (arith, bit_free (n + p) c e, bit_add c n p lay_apart)

-- ---- the laws

fewer : (x y k : ℕ) → x + k ≡ y → 0 < k → x < y
fewer x y k e h = omega arith

taken_back : (x n p : ℕ) → x ≡ n + p → x - n ≡ p
taken_back x n p e = omega arith

module _ (b : Board) (paths : List Path) (good : So (valid b)) where
  -- what fits is a piece
  pub fits_piece : (n p : ℕ) → From b n → FitsOn (setting b paths) n p ↔ IsPiece (board_at b n) paths p
  unfolding setting
  fits_piece n p ok =
      let r = piece_iff (board_at b n) ok.accepted paths p in
      (λ f. r.1 (f.tile, f.onto), λ x. let y = r.0 x in record { tile = y.0; onto = y.1 })

  chosen_is_free : (n : ℕ) → From b n → is_full (board_at b n) ≡ false → So (is_free (board_at b n) (cell_or (chosen (board_at b n))))
  unfolding cell_or
  chosen_is_free n ok e = go (chosen (board_at b n)) refl
    where
      go : (c : Option ℕ) → chosen (board_at b n) ≡ c → So (is_free (board_at b n) (cell_or c))
      go None h = absurd (false≢true (sym e ∙ none_full (board_at b n) (chosen_none (board_at b n) (valid_width b good) h)))
      go (Some cell) h = (chosen_best (board_at b n) (valid_width b good) cell h).free

  -- the pieces of the setting
  piece_there : (n p : ℕ) → From b n → Mem p ((setting b paths).pieces n) → IsPiece (board_at b n) paths p × So (has_cell p (cell_or (chosen (board_at b n))))
  unfolding setting cell_or
  piece_there n p ok m =
      let r = piece_on (board_at b n) paths p (pruned (board_at b n) paths) (chosen (board_at b n)) m in
      let q = (mem_pieces (board_at b n) paths r.0 p (valid_width b good) (valid_height b good)).0 r.2 in
      (q.0, subst (λ (c : Option ℕ). So (has_cell p (cell_or c))) (sym r.1) q.1)

  -- a laid piece, as a board of the start and as free cells fewer
  laid : (n p : ℕ) → (ok : From b n) → IsPiece (board_at b n) paths p → lay (board_at b n) p ≡ board_at b (marks (lay (board_at b n) p))
  laid n p ok x = lay_at b paths n ok p x ∙ ap (board_at b) (sym (lay_adds b paths n ok p x))

  counted : (n p : ℕ) → (ok : From b n) → IsPiece (board_at b n) paths p → free_count (board_at b (marks (lay (board_at b n) p))) + size p ≡ free_count (board_at b n)
  counted n p ok x = ap (λ (d : Board). free_count d + size p) (sym (laid n p ok x)) ∙ lay_count (board_at b n) ok.accepted paths p x

  pub setting_laws : Laws (setting b paths)
  unfolding setting
  setting_laws = record {
    board_eq = eqb_tells;
    piece_eq = eqb_tells;
    full_iff = λ n ok. (λ e c f. full_none (board_at b n) e c (free_lt (board_at b n) ok.accepted c f) f, λ f. none_full (board_at b n) f);
    full_one = λ n m ok up e f.
        sym (marks_at b paths n ok) ∙ full_marks_lem (board_at b n) (board_at b m) ok.accepted up.accepted refl refl e f ∙ marks_at b paths m up;
    chosen_free = chosen_is_free;
    tile_cell = λ p x. piece_some b good paths p x;
    lay_ok = λ n p ok f.
        let x = (fits_piece n p ok).0 f in subst (From b) (sym (lay_adds b paths n ok p x)) (lay_from b paths n ok p x);
    lay_free = λ n p ok f c.
        let x = (fits_piece n p ok).0 f in
        subst (λ (d : Board). So (is_free d c) ↔ (So (is_free (board_at b n) c) × (So (has_cell p c) → ⊥))) (laid n p ok x) (lay_free (board_at b n) ok.accepted paths p x c);
    lay_count = λ n p ok f.
        let x = (fits_piece n p ok).0 f in
        let t = f.tile in
        fewer (free_count (board_at b (marks (lay (board_at b n) p)))) (free_count (board_at b n)) (size p) (counted n p ok x) (subst (λ (k : ℕ). 0 < k) (sym (piece_size b good paths p t)) (cell_count_pos t.0));
    lay_step = λ n p ok f. let x = (fits_piece n p ok).0 f in ap (step_piece n) (lay_adds b paths n ok p x) ∙ lay_piece b paths n ok p x;
    piece_fits = λ n p ok m. (fits_piece n p ok).1 (piece_there n p ok m).0;
    piece_chosen = λ n p ok m. (piece_there n p ok m).1;
    piece_once = λ n ok. once_on (board_at b n) paths (pruned (board_at b n) paths) (chosen (board_at b n));
  }

  -- where all tiles have as many cells, each piece takes as many free cells
  pub setting_steps : (a : ℕ) → ((path : Path) → Mem path paths → cell_count path ≡ a) → EqualSteps (setting b paths) a
  unfolding setting
  setting_steps a same n p ok f =
      let x = (fits_piece n p ok).0 f in
      let t = f.tile in
      ap (λ (k : ℕ). free_count (board_at b (marks (lay (board_at b n) p))) + k) (sym (piece_size b good paths p t ∙ same t.0 t.1)) ∙ counted n p ok x

  -- ---- the start

  module _ (fixed_lt : b.fixed < 2 ^ 256) (laid_lt : b.laid < 2 ^ 256) where
    pub start_at_lem : board_at b (marks b) ≡ b
    unfolding marks
    start_at_lem =
        ap (λ (l : ℕ). record { width = b.width; height = b.height; fixed = b.fixed; laid = l })
        (taken_back (union_of b.fixed b.laid) b.fixed b.laid (union_of_disjoint b.fixed b.laid fixed_lt laid_lt (valid_disjoint b good fixed_lt)))

    pub start_ok : From b (marks b)
    unfolding marks
    start_ok = record { accepted = subst (λ (d : Board). So (valid d)) (sym start_at_lem) good; above = within; small = marks_lt b }
      where
        within : Within b.fixed (union_of b.fixed b.laid)
        within c = go (dec_lt c 256)
          where
            go : Dec (c < 256) → bit b.fixed c ≤ bit (union_of b.fixed b.laid) c
            go (yes h) = omega (arith, bit_union_of b.fixed b.laid c h)
            go (no h) = omega (arith, bit_high 256 b.fixed c fixed_lt (omega arith))

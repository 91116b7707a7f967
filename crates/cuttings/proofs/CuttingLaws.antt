-- Laws of the figure: what it is of a full board and of one with a free cell, that it comes from the layer count by the board alone, that it fits its words, and that it
-- is the number of cuttings. Rests on `FullLaws`, layers' `CountLaws` and expansion's `AcceptedLaws`. Assumes nothing.
use Rattle.refusal.specs.declared.Refusal.{Refusal}
use Rattle.path_count.specs.declared.PathCount.{PathCount}
use Rattle.std.specs.Prelude.{◌≡◌, List, Bool, ℕ, zero, suc, ◌<◌, Result}
use Rattle.std.proofs.Math.Path.{refl, sym, ap, subst}
use Rattle.std.proofs.Common.{◌∙◌, arith, lit<}
use Rattle.std.proofs.Math.Bool.{true, false, So, cond}
use Rattle.cells.specs.Set.{Sound}
use Rattle.cells.specs.WordLaws.{number_lt}
use Rattle.tiles.specs.declared.Tiles.{Tiles}
use Rattle.refusal.specs.Refusal.{Answer, refused, given, map_answer, bind_answer}
use Rattle.refusal.specs.RefusalLaws.{refused_given, given_inj, map_given}
use Rattle.tiles.specs.Paths.{paths_in}
use Rattle.board.specs.declared.RectangularBoard.{RectangularBoard}
use Rattle.rectangle.specs.Board.{Board, is_full, valid}
use Rattle.board.specs.Board.{board_of, read_board}
use Rattle.board.specs.BoardLaws.{read_board_given}
use Rattle.covers.specs.Counts.{Numbering, Exactly}
use Rattle.path_count.specs.PathCounts.{count_limit}
use Rattle.expansion.specs.Boards.{Accepted}
use Rattle.expansion.specs.Plots.{accept_plot, IsCutting, HasFreeCell, AllEdgeJoined}
use Rattle.expansion.proofs.AcceptedLaws.{read_accepted, from_read}
use Rattle.layers.specs.LayerCounts.{layer_count_for, count_tilings, count_answer, LeavesCount}
use Rattle.layers.proofs.CountLaws.{count_cuttings_lem, layers_small}
use Rattle.cuttings.specs.Cuttings.{cuttings_of, count_cuttings, cuttings_from}
use Rattle.cuttings.specs.FullLaws.{free_not_full, not_full_free, no_room_count, full_layer_count_lem, full_one_cutting}

-- ---- of a board and a number

pub full_of : (b : Board) (n : ℕ) → is_full b ≡ true → cuttings_of b n ≡ 1
unfolding cuttings_of
full_of b n e = rw e

pub free_of : (b : Board) (n : ℕ) → is_full b ≡ false → cuttings_of b n ≡ n
unfolding cuttings_of
free_of b n e = rw e

module _ (b : RectangularBoard) (ts : Tiles) where
  -- a layer count that is given is that of a board and tiles that are accepted
  counted_accepted : (room n : ℕ) → count_tilings b ts room ≡ given n → Accepted b ts × (layer_count_for (board_of b) (paths_in ts) room ≡ given n)
  unfolding count_tilings
  counted_accepted room n e = from_read b ts _ n e

  -- what is answered of a plot that is accepted
  accepted_count : (p : _) → accept_plot b ts ≡ given p → (room : ℕ) → count_tilings b ts room ≡ layer_count_for (board_of b) (paths_in ts) room
  unfolding count_tilings bind_answer
  accepted_count p e room = rw e (ap (λ q. layer_count_for q.0 q.1 room) (read_accepted b ts p e).0)

  -- ---- from the layer count

  -- the figure from the answer of the layer count is the figure
  pub from_layers : (room : ℕ) → cuttings_from b (count_tilings b ts room) ≡ count_cuttings b ts room
  unfolding cuttings_from count_cuttings bind_answer map_answer
  from_layers room = go (count_tilings b ts room) refl
    where
      go : (a : Answer ℕ) → count_tilings b ts room ≡ a
          → bind_answer a (λ n. map_answer (λ board. cuttings_of board n) (read_board b)) ≡ map_answer (cuttings_of (board_of b)) a
      go (refused k) e = refl
      go (given n) e = ap (map_answer (λ board. cuttings_of board n)) (read_board_given b (counted_accepted room n e).0.board)

  -- what is answered and left after the layers are worked and the figure is told of their count
  pub figure_left : (room : ℕ) {ba ca bb cb ba' ca' bb' cb' : List ℕ} {k r : Result PathCount Refusal} → LeavesCount (count_tilings b ts room) ba ca bb cb ba' ca' bb' cb' k
      → count_answer r ≡ cuttings_from b (count_answer k) → LeavesCount (count_cuttings b ts room) ba ca bb cb ba' ca' bb' cb' r
  figure_left room counted told = record {
    answer = told ∙ ap (cuttings_from b) counted.answer ∙ from_layers room;
    zero_boards_a = counted.zero_boards_a;
    zero_counts_a = counted.zero_counts_a;
    zero_boards_b = counted.zero_boards_b;
    zero_counts_b = counted.zero_counts_b;
  }

  -- ---- a board with a free cell

  pub free_figure : HasFreeCell (board_of b) → (room : ℕ) → count_cuttings b ts room ≡ count_tilings b ts room
  unfolding count_cuttings map_answer
  free_figure free room = go (count_tilings b ts room) refl
    where
      go : (a : Answer ℕ) → count_tilings b ts room ≡ a → map_answer (cuttings_of (board_of b)) a ≡ a
      go (refused k) e = refl
      go (given n) e = ap given (free_of (board_of b) n (free_not_full (board_of b) (counted_accepted room n e).0.board free))

  -- ---- a board with no free cell

  -- board and tiles that are refused
  pub plot_refused : (k : ℕ) → accept_plot b ts ≡ refused k → (room : ℕ) → count_cuttings b ts room ≡ refused k
  unfolding count_cuttings count_tilings map_answer bind_answer
  plot_refused k e room = rw e

  -- no room
  pub no_room_figure : (p : _) → accept_plot b ts ≡ given p → count_cuttings b ts 0 ≡ refused 8
  unfolding count_cuttings map_answer
  no_room_figure p e = ap (map_answer (cuttings_of (board_of b))) (accepted_count p e 0 ∙ no_room_count (board_of b) (paths_in ts))

  -- the figure of a full board that is given is 1
  pub full_given : (room n : ℕ) → is_full (board_of b) ≡ true → count_cuttings b ts room ≡ given n → n ≡ 1
  unfolding count_cuttings
  full_given room n full e = let r = map_given (cuttings_of (board_of b)) (count_tilings b ts room) n e in sym r.2 ∙ full_of (board_of b) r.0 full

  module _ (fixed : Sound b.fixed) (laid : Sound b.laid) where
    module _ (full : is_full (board_of b) ≡ true) where
      full_layers : Accepted b ts → (room : ℕ) → 0 < room → layer_count_for (board_of b) (paths_in ts) room ≡ given 0
      full_layers ok room h = full_layer_count_lem (board_of b) (paths_in ts) ok.board (number_lt b.fixed fixed) (number_lt b.laid laid) full room h

      pub full_figure : (p : _) → accept_plot b ts ≡ given p → (room : ℕ) → 0 < room → count_cuttings b ts room ≡ given 1
      unfolding count_cuttings map_answer
      full_figure p e room h =
          ap (map_answer (cuttings_of (board_of b))) (accepted_count p e room ∙ full_layers (read_accepted b ts p e).1 room h) ∙ ap given (full_of (board_of b) 0 full)

      -- the layer count that is given is 0
      pub full_count_lem : (room n : ℕ) → count_tilings b ts room ≡ given n → n ≡ 0
      full_count_lem zero n e = absurd (refused_given 8 n (sym (no_room_count (board_of b) (paths_in ts)) ∙ (counted_accepted 0 n e).1))
      full_count_lem (suc room) n e =
          let r = counted_accepted (suc room) n e in
          given_inj n 0 (sym r.1 ∙ full_layers r.0 (suc room) (omega arith))

    -- ---- where it differs from the layer count

    pub differs_full : (room : ℕ) → (count_cuttings b ts room ≡ count_tilings b ts room → ⊥)
        → (is_full (board_of b) ≡ true) × (count_tilings b ts room ≡ given 0) × (count_cuttings b ts room ≡ given 1)
    unfolding count_cuttings map_answer
    differs_full room = go (count_tilings b ts room) refl (is_full (board_of b)) refl
      where
        go : (a : Answer ℕ) → count_tilings b ts room ≡ a → (t : Bool) → is_full (board_of b) ≡ t → (map_answer (cuttings_of (board_of b)) a ≡ a → ⊥)
            → (t ≡ true) × (a ≡ given 0) × (map_answer (cuttings_of (board_of b)) a ≡ given 1)
        go (refused k) e t f other = absurd (other refl)
        go (given n) e false f other = absurd (other (ap given (free_of (board_of b) n f)))
        go (given n) e true f other = (refl, ap given (full_count_lem f room n e), ap given (full_of (board_of b) n f))

    -- ---- exact covers

    -- a full board has one cutting, the empty set
    pub full_cuttings : So (valid (board_of b)) → is_full (board_of b) ≡ true → Numbering (IsCutting (board_of b) (paths_in ts)) 1 (λ m p. false)
    full_cuttings ok full = full_one_cutting (board_of b) (paths_in ts) ok (number_lt b.fixed fixed) (number_lt b.laid laid) full

    -- the layer count behind a figure
    behind : (room n : ℕ) → count_cuttings b ts room ≡ given n → (m : ℕ) × (count_tilings b ts room ≡ given m) × (cuttings_of (board_of b) m ≡ n)
    unfolding count_cuttings
    behind room n e = map_given (cuttings_of (board_of b)) (count_tilings b ts room) n e

    -- the figure is the number of cuttings
    pub figure_cuttings : AllEdgeJoined (paths_in ts) → (room n : ℕ) → count_cuttings b ts room ≡ given n → Exactly n (IsCutting (board_of b) (paths_in ts))
    figure_cuttings joined room n e = go (is_full (board_of b)) refl
      where
        m : ℕ
        m = (behind room n e).0

        counted : count_tilings b ts room ≡ given m
        counted = (behind room n e).1

        go : (t : Bool) → is_full (board_of b) ≡ t → Exactly n (IsCutting (board_of b) (paths_in ts))
        go true f =
            subst (λ (k : ℕ). Exactly k (IsCutting (board_of b) (paths_in ts))) (sym (full_of (board_of b) m f) ∙ (behind room n e).2)
            (_, full_cuttings (counted_accepted room m counted).0.board f)
        go false f =
            subst (λ (k : ℕ). Exactly k (IsCutting (board_of b) (paths_in ts))) (sym (free_of (board_of b) m f) ∙ (behind room n e).2)
            (count_cuttings_lem b fixed laid ts (not_full_free (board_of b) (counted_accepted room m counted).0.board f) joined room m counted)

    -- it is below the limit of a path count
    pub figure_small : (room n : ℕ) → count_cuttings b ts room ≡ given n → n < count_limit
    unfolding cuttings_of
    figure_small room n e = go (is_full (board_of b)) (behind room n e).2
      where
        go : (t : Bool) → cond t 1 (behind room n e).0 ≡ n → n < count_limit
        go true q = subst (λ (k : ℕ). k < count_limit) q (lit< tt)
        go false q = subst (λ (k : ℕ). k < count_limit) q (layers_small b fixed laid ts room (behind room n e).0 (behind room n e).1)

-- Where a hole's record is refused: as the first one, and in a file that is accepted so far behind a tile, without a byte of its body, and where its cell is not
-- free. Rests on `ReadLaws` and `FileLaws`. Assumes nothing.
use Rattle.std.specs.Prelude.{◌≡◌, false, ℕ, ◌<◌}
use Rattle.std.proofs.Common.{sym, ◌∙◌, arith}
use Rattle.std.proofs.Math.Path.{ap}
use mathlib.Core.List.{List, [], ◌∷◌, ◌++◌, flat_map, append_assoc}
use Rattle.std.proofs.Math.ListN.{length, length-append}
use Rattle.cells.specs.Lists.{ascii}
use Rattle.refusal.specs.Refusal.{refused, map_answer}
use Rattle.rectangle.specs.Board.{free_at}
use Rattle.board.specs.Board.{with_hole}
use Rattle.board.specs.HoleLaws.{with_hole_bad}
use Rattle.plot_file.specs.declared.marks.Mark.TheVariants.{HO}
use Rattle.plot_file.specs.PlotFile.{Plot, letters, read_pair, hole_body, board_body, later_body, later_record, onward, records, plot_in}
use Rattle.plot_file.specs.Records.{BoardRecord, Hole, TileRecord, board_bytes, hole_bytes, tile_bytes, place, tiles_held, Holds}
use Rattle.plot_file.specs.Inner.{start_at}
use Rattle.plot_file.proofs.RecordLaws.{later_record_mark}
use Rattle.plot_file.proofs.ReadLaws.{read_pair_few, hole_body_misplaced, hole_body_first}
use Rattle.plot_file.proofs.FirstRecordLaws.{first_record_mark}
use Rattle.plot_file.proofs.FileLaws.{tiles_held_some, holds_counted, plot_in_refused, joined}

-- the first record has to be a board's
pub hole_first : (rest : List ℕ) → plot_in (ascii "HO" ++ rest) ≡ refused 3
unfolding plot_in onward board_body letters map_answer
hole_first rest = ap (onward (records (length (ascii "HO" ++ rest)))) (first_record_mark HO rest)

later_record_ho : (plot : Plot) (rest : List ℕ) → later_record plot (letters HO ++ rest) ≡ hole_body plot rest
unfolding later_body
later_record_ho plot rest = later_record_mark HO plot rest

module _ (board : BoardRecord) (holes : List Hole) (tiles : List TileRecord) (plot : Plot) (h : Holds board holes tiles plot) where
  some_tile : 0 < length tiles → 0 < length plot.tiles
  unfolding flat_map
  some_tile k = go tiles k (ap length h.all)
    where
      go : (ts : List TileRecord) → 0 < length ts → length plot.tiles ≡ length (flat_map tiles_held ts) → 0 < length plot.tiles
      go [] i e = absurd (omega arith)
      go (t ∷ ts) i e = omega (arith, tiles_held_some t, length-append (tiles_held t) (flat_map tiles_held ts))

  no_tile : tiles ≡ [] → plot.tiles ≡ []
  unfolding flat_map
  no_tile e = h.all ∙ ap (flat_map tiles_held) e

  -- behind the holes, where there is no tile
  refused_first : (rest : List ℕ) (n : ℕ) → tiles ≡ [] → later_record plot rest ≡ refused n → plot_in (board_bytes board ++ flat_map hole_bytes holes ++ rest) ≡ refused n
  unfolding flat_map
  refused_first rest n e q =
      ap plot_in (append_assoc (board_bytes board) (flat_map hole_bytes holes) rest)
      ∙ ap (λ (ts : List TileRecord). plot_in (board_bytes board ++ (flat_map hole_bytes holes ++ (flat_map tile_bytes ts ++ rest)))) (sym e)
      ∙ plot_in_refused board holes tiles plot h rest n q

  pub hole_after_tile : (rest : List ℕ) → 0 < length tiles
      → plot_in (board_bytes board ++ flat_map hole_bytes holes ++ flat_map tile_bytes tiles ++ ascii "HO" ++ rest) ≡ refused 3
  unfolding letters
  hole_after_tile rest k =
      ap plot_in (append_assoc (board_bytes board ++ flat_map hole_bytes holes ++ flat_map tile_bytes tiles) (ascii "HO") rest
      ∙ joined (board_bytes board) (flat_map hole_bytes holes) (flat_map tile_bytes tiles) (ascii "HO" ++ rest))
      ∙ plot_in_refused board holes tiles plot h (letters HO ++ rest) 3 (later_record_ho plot rest ∙ hole_body_misplaced plot rest (some_tile k))

  pub hole_cut : (rest : List ℕ) → tiles ≡ [] → length rest < 2 → plot_in (board_bytes board ++ flat_map hole_bytes holes ++ ascii "HO" ++ rest) ≡ refused 1
  unfolding letters map_answer
  hole_cut rest e k =
      ap plot_in (append_assoc (board_bytes board ++ flat_map hole_bytes holes) (ascii "HO") rest)
      ∙ refused_first (letters HO ++ rest) 1 e
      (later_record_ho plot rest ∙ hole_body_first plot rest (no_tile e) ∙ ap (map_answer start_at) (read_pair_few (with_hole plot.board) rest k))

  pub hole_bad : (hole : Hole) (rest : List ℕ) → tiles ≡ [] → free_at plot.board (place hole) ≡ false
      → plot_in (board_bytes board ++ flat_map hole_bytes holes ++ hole_bytes hole ++ rest) ≡ refused 15
  unfolding letters hole_bytes read_pair map_answer
  hole_bad hole rest e f =
      ap plot_in (append_assoc (board_bytes board ++ flat_map hole_bytes holes) (hole_bytes hole) rest)
      ∙ refused_first (hole_bytes hole ++ rest) 15 e
      (later_record_ho plot (hole.row ∷ hole.column ∷ rest)
      ∙ hole_body_first plot (hole.row ∷ hole.column ∷ rest) (no_tile e)
      ∙ rw (with_hole_bad plot.board hole.row hole.column (holds_counted board holes tiles plot h).accepted f))

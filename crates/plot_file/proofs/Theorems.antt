-- The theorems about plot files: which files are accepted, what is read from them, what holes are, which refusals there are, and how many bytes settle a file.
-- Each is said here in words and proved in `RecordLaws`, `HoleLaws`, `FileLaws`, `OnceLaws`, `HoleRefusalLaws`, `LengthLaws` or `SettledLaws`. The reader is
-- `plot_in` of `PlotFile`, records as data are `Records`; `ReadsPlot` says what the code's answer has to be. Assumes nothing.
use Rattle.std.specs.Prelude.{◌≡◌, ◌↔◌, ◌⊎◌, true, false, ◌||◌, ℕ, ◌+◌, ◌^◌, ◌≤◌, ◌<◌, length, take}
use Rattle.std.proofs.Common.{sym, ap, ◌∙◌, ⊎_elim, arith}
use Rattle.std.proofs.Math.Bool.{So}
use mathlib.Core.List.{List, [], ◌∷◌, ◌++◌, flat_map}
use Rattle.cells.specs.Set.{has_cell, size}
use Rattle.cells.specs.Lists.{ascii}
use Rattle.refusal.specs.Refusal.{refused, given, refusal_of, value_or, verdict_number}
use Rattle.tiles.specs.Inner.{Storable}
use Rattle.tiles.specs.Paths.{tiles_of, read_tiles}
use Rattle.tiles.specs.StoredLaws.{read_tiles_tiles_of}
use Rattle.board.specs.Board.{board_of, read_board, fix_at}
use Rattle.rectangle.specs.Board.{no_board, free_at, free_count, is_full, valid}
use Rattle.board.specs.BoardLaws.{read_board_given}
use Rattle.plot_file.specs.declared.MadePlot.{MadePlot}
use Rattle.plot_file.specs.PlotFile.{Plot, no_plot, plot_in, ReadsPlot}
use Rattle.plot_file.specs.Records.{BoardRecord, Hole, TileRecord, board_bytes, hole_bytes, tile_bytes, file_of, place, is_hole, Holds, longest_file, settled_by}
use Rattle.plot_file.proofs.RecordLaws as Record
use Rattle.plot_file.proofs.HoleLaws as Hole
use Rattle.plot_file.proofs.FileLaws as File
use Rattle.plot_file.proofs.OnceLaws as Once
use Rattle.plot_file.proofs.HoleRefusalLaws as HoleRefusal
use Rattle.plot_file.proofs.LengthLaws as Length
use Rattle.plot_file.proofs.SettledLaws as Settled

-- The accepted files are exactly the files of a board record, any number of holes, any number of tile records and EN, where the board's size is accepted, the
-- holes are different free cells of that board, each path has at most 32 codes 0 to 7, and there are at most 64 tiles. The plot that is read has that board with
-- the holes fixed, and those tiles, in the order of the file.
pub accepted_iff : (file : List ℕ) (plot : Plot)
    → (plot_in file ≡ given plot) ↔ ((board : BoardRecord) × (holes : List Hole) × (tiles : List TileRecord) × (file ≡ file_of board holes tiles) × Holds board holes tiles plot)
accepted_iff = File.accepted_iff

-- Every byte belongs to exactly one record: equal files have the same records.
pub file_once : (b c : BoardRecord) (hs gs : List Hole) (ts us : List TileRecord) → file_of b hs ts ≡ file_of c gs us → (b ≡ c) × (hs ≡ gs) × (ts ≡ us)
file_once = Once.file_once

-- ---- holes

module _ (board : BoardRecord) (holes : List Hole) (tiles : List TileRecord) (plot : Plot) (h : Holds board holes tiles plot) where
  -- The fixed marks of the plot are those of the board record and those of the holes, and the size is the board record's;
  pub fixed_marks : (cell : ℕ) → cell < 256 → has_cell plot.board.fixed cell ≡ (has_cell h.outline.fixed cell || is_hole holes cell)
  fixed_marks = Hole.with_holes_fixed h.outline plot.board holes (File.holds_with_holes board holes tiles plot h)

  pub outline_size : (plot.board.width ≡ h.outline.width) × (plot.board.height ≡ h.outline.height)
  outline_size = Hole.with_holes_size h.outline plot.board holes (File.holds_with_holes board holes tiles plot h)

  -- each hole is one new cell, which was free;
  pub holes_new : (size plot.board.fixed ≡ size h.outline.fixed + length holes) × (free_count plot.board + length holes ≡ free_count h.outline)
  holes_new = let counted = File.holds_counted board holes tiles plot h in (counted.marks, counted.left)

  -- so there are at most 256 of them; and where there are as many as the board record left free cells, no cell is free any more.
  pub holes_few : length holes ≤ 256
  holes_few = File.holds_few board holes tiles plot h

  pub holes_everywhere : is_full plot.board ≡ true ↔ (length holes ≡ free_count h.outline)
  holes_everywhere = File.holds_full board holes tiles plot h

  -- An HO record behind a tile is refused by 3, whatever stands behind its mark.
  pub hole_after_tile : (rest : List ℕ) → 0 < length tiles
      → plot_in (board_bytes board ++ flat_map hole_bytes holes ++ flat_map tile_bytes tiles ++ ascii "HO" ++ rest) ≡ refused 3
  hole_after_tile = HoleRefusal.hole_after_tile board holes tiles plot h

  -- Behind the board and other holes it is refused by 1 where a byte of its body is missing,
  pub hole_cut : (rest : List ℕ) → tiles ≡ [] → length rest < 2 → plot_in (board_bytes board ++ flat_map hole_bytes holes ++ ascii "HO" ++ rest) ≡ refused 1
  hole_cut = HoleRefusal.hole_cut board holes tiles plot h

  -- and else by 15 where its cell is outside the board or marked already, by the board record or by a hole before it;
  pub hole_bad : (hole : Hole) (rest : List ℕ) → tiles ≡ [] → free_at plot.board (place hole) ≡ false
      → plot_in (board_bytes board ++ flat_map hole_bytes holes ++ hole_bytes hole ++ rest) ≡ refused 15
  hole_bad = HoleRefusal.hole_bad board holes tiles plot h

  -- a free cell is one hole more.
  pub hole_good : (hole : Hole) → So (free_at plot.board (place hole))
      → Holds board (holes ++ hole ∷ []) [] (record { board = fix_at plot.board (place hole); tiles = [] })
  hole_good = File.holds_hole board holes tiles plot h

-- An HO record as the first one is refused by 3, whatever stands behind its mark.
pub hole_first : (rest : List ℕ) → plot_in (ascii "HO" ++ rest) ≡ refused 3
hole_first = HoleRefusal.hole_first

-- An accepted file has at most `longest_file` bytes, and no smaller bound holds.
pub accepted_length : (file : List ℕ) (plot : Plot) → plot_in file ≡ given plot → length file ≤ longest_file
accepted_length = Length.accepted_length

pub accepted_length_least : (n : ℕ) → ((file : List ℕ) (plot : Plot) → plot_in file ≡ given plot → length file ≤ n) → longest_file ≤ n
accepted_length_least = Length.longest_file_least

-- A file's answer, accepted or refused, is settled by its first `settled_by` bytes, and not by fewer.
pub settled : (file : List ℕ) (n : ℕ) → settled_by ≤ n → plot_in (take n file) ≡ plot_in file
settled = Settled.settled

pub settled_least : (n : ℕ) → ((file : List ℕ) → plot_in (take n file) ≡ plot_in file) → settled_by ≤ n
settled_least = Settled.settled_by_least

-- 01: "4,096 bytes are enough to settle any file"
pub four_thousand_settle : (file : List ℕ) → plot_in (take 4096 file) ≡ plot_in file
four_thousand_settle file = settled file 4096 (omega arith)

-- Every refusal of a file is one of 1 to 6, or 15.
pub refusal_listed : (file : List ℕ) (n : ℕ) → plot_in file ≡ refused n → ((0 < n) × (n ≤ 6)) ⊎ (n ≡ 15)
refusal_listed = Record.plot_in_refusal

-- So none is 0.
pub refusal_positive : (file : List ℕ) (n : ℕ) → plot_in file ≡ refused n → 0 < n
refusal_positive file n e = ⊎_elim (λ h. h.0) (λ h. omega arith) (refusal_listed file n e)

-- The board of an accepted file is valid and has no laid marks, and its tiles are at most 64 paths that can be stored. Its fixed marks are a set of 256 cells.
pub accepted_plot : (file : List ℕ) (plot : Plot) → plot_in file ≡ given plot
    → (valid plot.board ≡ true) × (plot.board.laid ≡ 0) × (length plot.tiles ≤ 64) × Storable plot.tiles
accepted_plot = File.accepted_plot

pub accepted_fixed : (file : List ℕ) (plot : Plot) → plot_in file ≡ given plot → plot.board.fixed < 2 ^ 256
accepted_fixed = File.accepted_fixed

-- ---- the answer of the code

-- No call refuses what is read by 4, 6 or 5: from the board and the tiles handed back they read the plot's. (Tiles with different numbers of cells are read,
-- and the counts refuse them by 7.)
pub read_accepted : (file : List ℕ) (r : MadePlot) (plot : Plot) → ReadsPlot (plot_in file) r → plot_in file ≡ given plot
    → (read_board r.board ≡ given plot.board) × (read_tiles r.tiles ≡ given plot.tiles)
unfolding value_or
read_accepted file r plot reads e =
    let ok = accepted_plot file plot e in
    let is : value_or no_plot (plot_in file) ≡ plot = ap (value_or no_plot) e in
    let board : board_of r.board ≡ plot.board = reads.board ∙ ap (λ (p : Plot). p.board) is in
    let tiles : r.tiles ≡ tiles_of plot.tiles = reads.tiles ∙ ap (λ (p : Plot). tiles_of p.tiles) is in
    (read_board_given r.board (ap valid board ∙ ok.0) ∙ ap given board, ap read_tiles tiles ∙ read_tiles_tiles_of plot.tiles ok.2 ok.3)

-- 01: "A refusal hands back a 0 by 0 board and no tiles", and its number.
pub read_refused : (file : List ℕ) (r : MadePlot) (n : ℕ) → ReadsPlot (plot_in file) r → plot_in file ≡ refused n
    → (verdict_number r.verdict ≡ n) × (board_of r.board ≡ no_board) × (r.tiles ≡ tiles_of [])
unfolding value_or refusal_of
read_refused file r n reads e =
    let is : value_or no_plot (plot_in file) ≡ no_plot = ap (value_or no_plot) e in
    (reads.verdict ∙ ap refusal_of e, reads.board ∙ ap (λ (p : Plot). p.board) is, reads.tiles ∙ ap (λ (p : Plot). tiles_of p.tiles) is)

-- The bytes alone decide: two answers to equal bytes have the same number, board and tiles.
pub bytes_alone : (file other : List ℕ) (r s : MadePlot) → file ≡ other → ReadsPlot (plot_in file) r → ReadsPlot (plot_in other) s
    → (verdict_number r.verdict ≡ verdict_number s.verdict) × (board_of r.board ≡ board_of s.board) × (r.tiles ≡ s.tiles)
bytes_alone file other r s e p q =
    let same : plot_in file ≡ plot_in other = ap plot_in e in (
      p.verdict ∙ ap refusal_of same ∙ sym q.verdict,
      p.board ∙ ap (λ a. (value_or no_plot a).board) same ∙ sym q.board,
      p.tiles ∙ ap (λ a. tiles_of (value_or no_plot a).tiles) same ∙ sym q.tiles,
    )

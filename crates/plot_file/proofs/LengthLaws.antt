-- How long an accepted file can be, and that some are as long. Rests on `HoleLaws` and `FileLaws`. Assumes nothing.
use Rattle.std.specs.Prelude.{◌≡◌, refl, ℕ, zero, suc, ◌+◌, ◌*◌, ◌≤◌, length, replicate}
use Rattle.std.proofs.Common.{sym, ap, subst, ⊎_elim, arith, length-append}
use mathlib.Core.List.Memᴰ.{cases_cons}
use mathlib.Core.List.Memᴰ.{head as here}
use mathlib.Core.List.Memᴰ.{not-nil}
use mathlib.Core.List.Memᴰ.{tail as there}
use mathlib.Core.List.{List, [], ◌∷◌, ◌++◌, flat_map, Memᴰ as Mem}
use Rattle.std.proofs.lemmas.List.{length-replicate}
use Rattle.refusal.specs.Refusal.{given}
use Rattle.tile.specs.Path.{Path, codes_ok}
use Rattle.board.specs.Board.{new_board}
use Rattle.plot_file.specs.declared.marks.Mark.TheVariants.{EN}
use Rattle.plot_file.specs.PlotFile.{Plot, letters, plot_in}
use Rattle.plot_file.specs.Records.{BoardRecord, rb, lb, tb, Hole, TileRecord, ti, board_bytes, hole_bytes, tile_bytes, file_of, board_held, holed, tiles_held, Holds, longest_file}
use Rattle.plot_file.proofs.RecordLaws.{length_letters, length_tile_bytes}
use Rattle.plot_file.proofs.HoleLaws.{holes_bytes, holes_below, largest, length_holes_below, with_holes_below}
use Rattle.plot_file.proofs.FirstRecordLaws.{plot_of}
use Rattle.plot_file.proofs.FileLaws.{tiles_held_some, Fine, holds_few, file_of_is, accepted_iff}

-- ---- how long an accepted file can be: a board's record, 256 holes' records of 4 bytes, 64 tiles' records of 35 bytes, and EN

tiles_length : (ts : List TileRecord) → ((t : TileRecord) → Mem t ts → Fine t) → length (flat_map tile_bytes ts) ≤ 35 * length (flat_map tiles_held ts)
unfolding flat_map
tiles_length [] h = omega arith
tiles_length (t ∷ ts) h =
    omega (
      arith,
      tiles_length ts (λ u m. h u (there m)),
      length-append (tile_bytes t) (flat_map tile_bytes ts),
      length-append (tiles_held t) (flat_map tiles_held ts),
      tiles_held_some t,
      length_tile_bytes t,
      (h t (here refl)).0,
    )

pub length_board_bytes : (board : BoardRecord) → length (board_bytes board) ≡ 4
unfolding board_bytes
length_board_bytes (rb a b) = refl
length_board_bytes (lb a b) = refl
length_board_bytes (tb a b) = refl

length_file_of : (board : BoardRecord) (hs : List Hole) (ts : List TileRecord) → length (file_of board hs ts) ≡ 4 + (4 * length hs + (length (flat_map tile_bytes ts) + 2))
length_file_of board hs ts =
    let back : List ℕ = flat_map tile_bytes ts ++ letters EN in
    omega (
      arith,
      ap length (file_of_is board hs ts),
      length-append (board_bytes board) (flat_map hole_bytes hs ++ back),
      length-append (flat_map hole_bytes hs) back,
      length-append (flat_map tile_bytes ts) (letters EN),
      length_board_bytes board,
      holes_bytes hs,
      length_letters EN,
    )

pub accepted_length : (file : List ℕ) (plot : Plot) → plot_in file ≡ given plot → length file ≤ longest_file
accepted_length file plot e =
    let r = (accepted_iff file plot).0 e in
    let h = r.4 in
    omega (arith, ap length r.3, length_file_of r.0 r.1 r.2, holds_few r.0 r.1 r.2 plot h, tiles_length r.2 h.paths, ap length h.all, h.few)

-- a file of that length is accepted: 256 holes, and 64 tiles of 32 codes

abbrev pub long_path : Path
long_path = replicate 32 0

abbrev pub copies : ℕ → List TileRecord
copies n = replicate n (ti long_path)

pub copies_bytes : (n : ℕ) → length (flat_map tile_bytes (copies n)) ≡ 35 * n
unfolding flat_map
copies_bytes zero = refl
copies_bytes (suc n) =
    omega (arith, length-append (tile_bytes (ti long_path)) (flat_map tile_bytes (copies n)), length_tile_bytes (ti long_path), length-replicate {A = ℕ} 32 0, copies_bytes n)

pub copies_held : (n : ℕ) → length (flat_map tiles_held (copies n)) ≡ n
unfolding flat_map tiles_held
copies_held zero = refl
copies_held (suc n) = ap suc (copies_held n)

pub copies_all : (n : ℕ) (t : TileRecord) → Mem t (copies n) → t ≡ ti long_path
copies_all zero t m = absurd (not-nil m)
copies_all (suc n) t m = ⊎_elim (λ e. e) (copies_all n t) (cases_cons m)

pub long_path_fine : Fine (ti long_path)
unfolding codes_ok
long_path_fine = (omega arith, refl)

abbrev pub all_holes : List Hole
all_holes = holes_below 256

pub long_plot : Plot
long_plot = plot_of (holed largest all_holes) (flat_map tiles_held (copies 64))

pub long_plot_tiles : length long_plot.tiles ≡ 64
unfolding long_plot
long_plot_tiles = copies_held 64

pub longest_held : Holds (rb 16 16) all_holes (copies 64) long_plot
unfolding long_plot board_held new_board
longest_held =
    let dug = with_holes_below 256 (omega arith) in
    record {
      outline = largest;
      size = refl;
      free = dug.free;
      once = dug.once;
      fixes = refl;
      paths = λ t m. subst Fine (sym (copies_all 64 t m)) long_path_fine;
      few = omega (arith, long_plot_tiles);
      all = refl;
    }

longest : List ℕ
longest = file_of (rb 16 16) all_holes (copies 64)

longest_length : length longest ≡ longest_file
unfolding longest
longest_length = omega (arith, length_file_of (rb 16 16) all_holes (copies 64), length_holes_below 256, copies_bytes 64)

longest_accepted : plot_in longest ≡ given long_plot
unfolding longest
longest_accepted = (accepted_iff longest long_plot).1 (rb 16 16, all_holes, copies 64, refl, longest_held)

-- so no smaller bound holds
pub longest_file_least : (n : ℕ) → ((file : List ℕ) (plot : Plot) → plot_in file ≡ given plot → length file ≤ n) → longest_file ≤ n
longest_file_least n h = omega (arith, h longest long_plot longest_accepted, longest_length)

-- Laws of what the code hands on: a mark, a tile's body and a record that were read; and the way through the file. Rests on `Inner`,
-- `ReadLaws`, `TilesLaws` and the laws of stored tiles. Assumes nothing.
use mathlib.Core.Path.{◌≡◌, refl, sym, ap, ◌∙◌, subst}
use mathlib.Core.Bool.{Bool, So}
use mathlib.Core.List.{List, [], ◌∷◌, ◌++◌}
use Prim.Native.Nat.{ℕ, zero, suc, ◌+◌, ◌≤◌, ◌<◌}
use native.Mathlib.Omega.{arith}
use lib.ListN.{length, drop}
use Rattle.std.specs.Prelude.{Option, Some, None, Result, Ok, Err, IfOk, IsErrAnd}
use Rattle.cells.specs.declared.Cells.{Cells}
use Rattle.cells.specs.Set.{number, value}
use Rattle.tile.specs.declared.Tile.{Tile}
use Rattle.tiles.specs.declared.Tiles.{Tiles}
use Rattle.std.specs.Borrow.{Bor}
use Rattle.std.proofs.Math.Seq.{drop-drop, drop-append_seam}
use Rattle.std.specs.Prelude.{◌-◌}
use mathlib.Core.Logic.{⊎_elim}
use lib.ListN.{length-append, length-drop}
use Rattle.refusal.specs.declared.Refusal.{Refusal}
use Rattle.refusal.specs.Refusal.{Answer, refused, given, map_answer, refusal_number, answer_of}
use Rattle.refusal.specs.RefusalLaws.{map_given, map_refused}
use Rattle.tile.specs.Path.{Path, codes_ok, path_in, read_path, tile_of, MakesTile}
use Rattle.tiles.specs.Paths.{paths_in, tiles_of}
use Rattle.tile.specs.StoredLaws.{path_in_tile_of, clean_tile_of, read_path_is}
use Rattle.tile.specs.Inner.{CleanTile}
use Rattle.board.specs.declared.RectangularBoard.{RectangularBoard}
use Rattle.rectangle.specs.Board.{Board, no_board}
use Rattle.board.specs.Board.{board_of, of_marks, MakesBoard}
use Rattle.plot_file.specs.declared.marks.Mark.{Mark}
use Rattle.plot_file.specs.declared.plots.Plot.{Plot as PlotSoFar}
use Rattle.plot_file.specs.declared.plots.Step.{Step as StepTaken}
use Rattle.plot_file.specs.PlotFile.{Plot, no_plot, read_mark, read_body, add_tiles, tile_body, Step, more, ended, onward, records, plot_in}
use Rattle.plot_file.specs.Inner.{marked_answer, tiles_for, ReadsBody, plot_of, step_to, step_in, Reads, start_at, record_at}
use Rattle.plot_file.proofs.RecordLaws.{read_body_is, TileRead, HoleRead, later_record_left, length_tile_bytes, length_hole_bytes}
use Rattle.plot_file.proofs.FirstRecordLaws.{first_record_given}
use Rattle.plot_file.specs.Records.{BoardRecord, rb, lb, tb, board_bytes, tile_bytes, hole_bytes}
use Rattle.plot_file.proofs.ReadLaws.{tile_body_read, tile_body_refused, add_tiles_given, add_tiles_many, records_on}
use Rattle.plot_file.proofs.TilesLaws.{count_is, none_paths, for_paths}

-- ---- marks

module _ (bytes : List ℕ) (m : Result (Mark × Bor (List ℕ)) Refusal) (e : marked_answer m ≡ read_mark bytes) where
  pub marked_is : (mark : Mark) (rest : Bor (List ℕ)) → m ≡ Ok (mark, rest) → read_mark bytes ≡ given (mark, rest.now)
  unfolding map_answer
  marked_is mark rest q = sym e ∙ ap marked_answer q

  pub marked_refused : (r : Refusal) → m ≡ Err r → read_mark bytes ≡ refused (refusal_number r)
  unfolding map_answer
  marked_refused r q = sym e ∙ ap marked_answer q

-- ---- bodies of tiles

module _ (a : Answer (Path × List ℕ)) where
  pub body_refused : (q : Refusal) (r : Result (Tile × Bor (List ℕ)) Refusal) → IsErrAnd r (λ e. e ≡ q) → a ≡ refused (refusal_number q) → ReadsBody a r
  unfolding map_answer
  body_refused q (Ok b) i e = absurd i
  body_refused q (Err f) i e = record { answer = ap (λ (x : Refusal). refused (refusal_number x)) i ∙ sym e; clean = tt }

  module _ (codes rest : List ℕ) (e : a ≡ map_answer (λ path. (path, rest)) (read_path codes)) (made : Result Tile Refusal) (m : MakesTile (read_path codes) made) where
    pub body_not : (q : Refusal) → made ≡ Err q → a ≡ refused (refusal_number q)
    unfolding map_answer
    body_not q is =
        let m = sym m ∙ ap answer_of is in e ∙ ap (map_answer (λ path. (path, rest))) ((map_refused tile_of (read_path codes) (refusal_number q)).0 m)

    pub body_made : (tile : Tile) → made ≡ Ok tile → (left : Bor (List ℕ)) → left.now ≡ rest → ReadsBody a (Ok (tile, left))
    unfolding map_answer
    body_made tile is left l =
        let p = map_given tile_of (read_path codes) tile (sym m ∙ ap answer_of is) in
        let short : length p.0 ≤ 32 = let is = read_path_is codes p.0 p.1 in subst (λ (q : Path). length q ≤ 32) (sym is.0) is.1 in
        let path : path_in tile ≡ p.0 = ap path_in (sym p.2) ∙ path_in_tile_of p.0 short in
        let same : given (path_in tile, left.now) ≡ given (p.0, rest) = ap (λ (q : Path). given (q, left.now)) path ∙ ap (λ (l : List ℕ). given (p.0, l)) l in
        record {
          answer = same ∙ sym (e ∙ ap (map_answer (λ path. (path, rest))) p.1);
          clean = subst CleanTile p.2 (clean_tile_of p.0 short);
        }

-- a body that was read
module _ (bytes : List ℕ) (r : Result (Tile × Bor (List ℕ)) Refusal) (b : ReadsBody (read_body bytes) r) where
  body_answer : (x : Result (Tile × Bor (List ℕ)) Refusal) → r ≡ x → read_body bytes ≡ map_answer (λ b. (path_in b.0, b.1.now)) (answer_of x)
  body_answer x is = sym b.answer ∙ ap (λ (x : Result (Tile × Bor (List ℕ)) Refusal). map_answer (λ b. (path_in b.0, b.1.now)) (answer_of x)) is

  pub body_err : (q : Refusal) → r ≡ Err q → read_body bytes ≡ refused (refusal_number q)
  unfolding map_answer
  body_err q is = body_answer (Err q) is

  module _ (t : Tile) (rest : Bor (List ℕ)) (is : r ≡ Ok (t, rest)) where
    pub body_given : read_body bytes ≡ given (path_in t, rest.now)
    unfolding map_answer
    body_given = body_answer (Ok (t, rest)) is

    pub body_clean : CleanTile t
    body_clean = subst (λ (x : Result (Tile × Bor (List ℕ)) Refusal). IfOk x (λ b. CleanTile b.0)) is b.clean

    pub body_path : (length (path_in t) ≤ 32) × So (codes_ok (path_in t))
    body_path = let is = read_body_is bytes (path_in t) rest.now body_given in (is.1, is.2)

-- ---- records

pub reads_refused : (a : Answer Step) (q : Refusal) (r : Result StepTaken Refusal) → IsErrAnd r (λ e. e ≡ q) → a ≡ refused (refusal_number q) → Reads a r
unfolding map_answer
reads_refused a q (Ok s) i e = absurd i
reads_refused a q (Err f) i e = ap (λ (x : Refusal). refused (refusal_number x)) i ∙ sym e

-- ---- boards

-- the 0 by 0 board, of no marks, and no tiles
pub plot_none : (board : RectangularBoard) (none : Cells) (ts : Tiles) → number none ≡ value (0 ∷ 0 ∷ 0 ∷ 0 ∷ []) → board ≡ of_marks 0 0 none none → ts ≡ tiles_of []
    → record { board = board_of board; tiles = paths_in ts } ≡ no_plot
unfolding value
plot_none board none ts z e t =
    let is : board_of board ≡ no_board = ap board_of e ∙ ap (λ (n : ℕ). record { width = 0; height = 0; fixed = n; laid = n }) z in
    let tiles = none_paths ts t in
    λ i. record { board = is i; tiles = tiles i }

pub starts : (board : RectangularBoard) (rest : List ℕ) (ts : Tiles) → ts ≡ tiles_of [] → more (record { board = board_of board; tiles = paths_in ts }) rest ≡ start_at (board_of board, rest)
starts board rest ts e = ap (λ (l : List Path). more (record { board = board_of board; tiles = l }) rest) (none_paths ts e)

-- a record of two bytes that make a board, which is a plot with no tiles
module _ (rest : List ℕ) (a : Answer Step) (board : Answer Board) (e : a ≡ map_answer start_at (map_answer (λ (x : Board). (x, rest)) board)) (made : Result RectangularBoard Refusal) (m : MakesBoard board made) where
  pair_is : (x : Result RectangularBoard Refusal) → made ≡ x → a ≡ map_answer start_at (map_answer (λ (x : Board). (x, rest)) (map_answer board_of (answer_of x)))
  pair_is x is =
      e
      ∙ ap (λ (b : Answer Board). map_answer start_at (map_answer (λ (x : Board). (x, rest)) b)) (sym m ∙ ap (λ (r : Result RectangularBoard Refusal). map_answer board_of (answer_of r)) is)

  pub pair_refused : (q : Refusal) → made ≡ Err q → (r : Result StepTaken Refusal) → IsErrAnd r (λ e. e ≡ q) → Reads a r
  unfolding map_answer
  pair_refused q is r i = reads_refused a q r i (pair_is (Err q) is)

  pub pair_read : (b : RectangularBoard) → made ≡ Ok b → (s : StepTaken) → step_in s ≡ start_at (board_of b, rest) → Reads a (Ok s)
  unfolding map_answer
  pair_read b is s t = ap (λ (x : Step). given x) t ∙ sym (pair_is (Ok b) is)

-- ---- tiles

-- the step behind some tiles more
module _ (plot : PlotSoFar) (tiles : Tiles) (rest : List ℕ) where
  pub steps_many : 64 < plot.tiles.count + tiles.count → refused 6 ≡ map_answer (λ p. more p rest) (add_tiles (plot_of plot) (paths_in tiles))
  unfolding map_answer
  steps_many h =
      sym (ap (map_answer (λ p. more p rest)) (add_tiles_many (plot_of plot) (paths_in tiles) (omega (arith, count_is plot.tiles, count_is tiles))))

  pub steps_added : plot.tiles.count + tiles.count ≤ 64 → (all : Tiles) → paths_in all ≡ paths_in plot.tiles ++ paths_in tiles
      → given (more (record { board = board_of plot.board; tiles = paths_in all }) rest) ≡ map_answer (λ p. more p rest) (add_tiles (plot_of plot) (paths_in tiles))
  unfolding map_answer
  steps_added h all e =
      ap (λ (ps : List Path). given (more (record { board = board_of plot.board; tiles = ps }) rest)) e
      ∙ sym (ap (map_answer (λ p. more p rest)) (add_tiles_given (plot_of plot) (paths_in tiles) (omega (arith, count_is plot.tiles, count_is tiles))))

-- a tile's record: the body is refused, or its tiles are added
module _ (bytes : List ℕ) (whole : Bool) (plot : Plot) (body : Result (Tile × Bor (List ℕ)) Refusal) (b : ReadsBody (read_body bytes) body) (r : Result StepTaken Refusal) where
  pub tile_refused : (q : Refusal) → body ≡ Err q → IsErrAnd r (λ e. e ≡ q) → Reads (tile_body (tiles_for whole) plot bytes) r
  tile_refused q is i =
      reads_refused (tile_body (tiles_for whole) plot bytes) q r i
      (tile_body_refused bytes plot (tiles_for whole) (refusal_number q) (body_err bytes body b q is))

  pub tile_added : (t : Tile) (rest : Bor (List ℕ)) → body ≡ Ok (t, rest) → (ts : Tiles) → ts ≡ tiles_of (tiles_for whole (path_in t))
      → Reads (map_answer (λ p. more p rest.now) (add_tiles plot (paths_in ts))) r → Reads (tile_body (tiles_for whole) plot bytes) r
  tile_added t rest is ts e s =
      s
      ∙ ap (λ (ps : List Path). map_answer (λ p. more p rest.now) (add_tiles plot ps)) (for_paths whole (path_in t) (body_path bytes body b t rest is).0 ts e)
      ∙ sym (tile_body_read bytes plot (tiles_for whole) (path_in t) rest.now (body_given bytes body b t rest is))

-- ---- through the file

-- what is left of a file at a place: all of it at the beginning, the records behind the board's elsewhere
abbrev left_at : List ℕ → ℕ → Plot → Answer Plot
left_at file zero plot = plot_in file
left_at file (suc at) plot = records (length file) plot (drop (suc at) file)

left_at_later : (file : List ℕ) (at : ℕ) (plot : Plot) → 0 < at → left_at file at plot ≡ records (length file) plot (drop at file)
left_at_later file zero plot h = absurd (omega arith)
left_at_later file (suc at) plot h = refl

left_at_on : (file : List ℕ) (at : ℕ) (plot : Plot) → left_at file at plot ≡ onward (records (length file)) (record_at at plot (drop at file))
unfolding plot_in
left_at_on file zero plot = refl
left_at_on file (suc at) plot = records_on plot file (suc at)

-- a record that was read has bytes of its own in front of those that it leaves
abbrev Fronted : List ℕ → List ℕ → Type 0
Fronted bytes rest = (front : List ℕ) × (bytes ≡ front ++ rest) × (0 < length front)

fronted : (at : ℕ) (plot : Plot) (bytes : List ℕ) (next : Plot) (rest : List ℕ) → record_at at plot bytes ≡ given (more next rest) → Fronted bytes rest
unfolding board_bytes
fronted zero plot bytes next rest e =
    let r = first_record_given bytes (more next rest) e in
    (board_bytes r.0, r.4 ∙ ap (λ (l : List ℕ). board_bytes r.0 ++ l) (ap left_of r.3), some r.0)
  where
    left_of : Step → List ℕ
    left_of (more p l) = l
    left_of (ended p) = []

    some : (first : BoardRecord) → 0 < length (board_bytes first)
    some (rb a b) = omega arith
    some (lb a b) = omega arith
    some (tb a b) = omega arith
fronted (suc at) plot bytes next rest e = ⊎_elim tile hole (later_record_left plot bytes (more next rest) e)
  where
    tile : TileRead plot bytes next rest → Fronted bytes rest
    tile r = (tile_bytes r.tile, r.front, omega (arith, length_tile_bytes r.tile))

    hole : HoleRead plot bytes next rest → Fronted bytes rest
    hole r = (hole_bytes r.hole, r.front, omega (arith, length_hole_bytes r.hole))

-- so they stand in the file behind its place
stands : (file : List ℕ) (at : ℕ) (rest : List ℕ) → at ≤ length file → Fronted (drop at file) rest → (drop (length file - length rest) file ≡ rest) × (at < length file - length rest)
stands file at rest h f =
    let l = ap length f.1 in
    let place : length file - length rest ≡ at + length f.0 = omega (arith, length-drop at file, length-append f.0 rest) in (
      ap (λ (i : ℕ). drop i file) place ∙ sym (drop-drop (length f.0) at file) ∙ ap (drop (length f.0)) f.1 ∙ drop-append_seam f.0 rest,
      omega (arith, f.2),
    )

-- a place of a file and the plot so far, from which on the file comes to what it holds
abbrev pub Going : List ℕ → ℕ → PlotSoFar → Type 0
Going file at p = plot_in file ≡ left_at file at (plot_of p)

pub going_first : (file : List ℕ) (p : PlotSoFar) → Going file 0 p
going_first file p = refl

-- the record there was read: by where it goes on
module _ (file : List ℕ) (at : ℕ) (p : PlotSoFar) (r : Result StepTaken Refusal) (g : Going file at p) (read : Reads (record_at at (plot_of p) (drop at file)) r) where
  comes_to : (x : Result StepTaken Refusal) → r ≡ x → plot_in file ≡ onward (records (length file)) (map_answer step_in (answer_of x))
  comes_to x is =
      g
      ∙ left_at_on file at (plot_of p)
      ∙ ap (onward (records (length file))) (sym read ∙ ap (λ (x : Result StepTaken Refusal). map_answer step_in (answer_of x)) is)

  pub going_refused : (q : Refusal) → r ≡ Err q → (x : Result PlotSoFar Refusal) → IsErrAnd x (λ e. e ≡ q) → map_answer plot_of (answer_of x) ≡ plot_in file
  unfolding onward map_answer
  going_refused q is (Ok p) i = absurd i
  going_refused q is (Err f) i = ap (λ (e : Refusal). refused (refusal_number e)) i ∙ sym (comes_to (Err q) is)

  module _ (s : StepTaken) (is-ok : r ≡ Ok s) where
    pub going_end : s.next ≡ None → map_answer plot_of (given s.plot) ≡ plot_in file
    unfolding onward map_answer
    going_end e = sym (comes_to (Ok s) is-ok ∙ ap (λ (n : Option (Bor (List ℕ))). onward (records (length file)) (given (step_to (plot_of s.plot) n))) e)

    pub going_on : at ≤ length file → (rest : Bor (List ℕ)) → s.next ≡ Some rest → (to : ℕ) → to ≡ length file - length rest.now → Going file to s.plot × (at < to)
    unfolding onward map_answer
    going_on h rest e to is =
        let left = comes_to (Ok s) is-ok ∙ ap (λ (n : Option (Bor (List ℕ))). onward (records (length file)) (given (step_to (plot_of s.plot) n))) e in
        let step : record_at at (plot_of p) (drop at file) ≡ given (more (plot_of s.plot) rest.now) =
        sym read
        ∙ ap (λ (x : Result StepTaken Refusal). map_answer step_in (answer_of x)) is-ok
        ∙ ap (λ (n : Option (Bor (List ℕ))). given (step_to (plot_of s.plot) n)) e in
        let there = stands file at rest.now h (fronted at (plot_of p) (drop at file) (plot_of s.plot) rest.now step) in
        let behind : at < to = omega (arith, there.1, is) in (
          left
              ∙ ap (records (length file) (plot_of s.plot)) (sym there.0 ∙ ap (λ (i : ℕ). drop i file) (sym is))
              ∙ sym (left_at_later file to (plot_of s.plot) (omega (arith, behind))),
          behind,
        )

-- What an accepted file is: the bytes of a board record, of some holes, of some tile records and of EN; what a file that begins so is; and what the board and the
-- tiles of an accepted file satisfy. Rests on `FirstRecordLaws`, `RecordLaws`, `HoleLaws` and the laws of
-- boards, paths and orbits. Assumes nothing.
use Rattle.std.specs.Prelude.{◌≡◌, refl, ◌↔◌, ◌⊎◌, Bool, true, false, cond, leb}
use Rattle.std.proofs.Common.{sym, ap₂, ◌∙◌, subst, inl, inr, ⊎_elim, arith}
use Rattle.std.proofs.Math.Path.{ap}
use Rattle.std.proofs.Math.Bool.{So}
use mathlib.Core.List.Memᴰ.{cases_cons}
use mathlib.Core.List.Memᴰ.{eq_of_singleton}
use mathlib.Core.List.Memᴰ.{head as here}
use mathlib.Core.List.Memᴰ.{not-nil}
use mathlib.Core.List.Memᴰ.{tail as there}
use mathlib.Core.List.{List, [], ◌∷◌, ◌++◌, flat_map, append-nil, append_assoc, Memᴰ as Mem}
use Prim.Native.Nat.{ℕ, zero, suc, ◌^◌, ◌≤◌, ◌<◌, ◌+◌}
use borrow.Author.Tests.{leb-true, le-leb, eqb-true, eq-eqb}
use Rattle.std.proofs.Math.ListN.{length, length-append}
use Rattle.cells.specs.MemberLaws.{mem_flat_map}
use Rattle.refusal.specs.Refusal.{Answer, refused, given}
use Rattle.refusal.specs.RefusalLaws.{refused_given, given_inj}
use Rattle.tile.specs.Path.{Path, codes_ok}
use Rattle.tiles.specs.Paths.{orbit}
use Rattle.tiles.specs.OrbitLaws.{orbit_self, orbit_length_path, orbit_codes_ok}
use Rattle.tiles.specs.Inner.{Storable}
use Rattle.rectangle.specs.Board.{Board, free_at, valid, free_count, is_full}
use Rattle.board.specs.Board.{fix_at}
use Rattle.board.specs.HoleLaws.{with_hole_is, with_hole_given, fix_at_valid, fix_at_lt}
use Rattle.plot_file.specs.declared.marks.Mark.TheVariants.{EN}
use Rattle.plot_file.specs.PlotFile.{Plot, letters, Step, more, ended, first_record, add_tiles, later_record, onward, records, plot_in}
use Rattle.plot_file.specs.Records.{BoardRecord, Hole, TileRecord, ti, or, board_bytes, hole_bytes, tile_bytes, file_of, board_held, place, directions, tiles_held, Holds}
use Rattle.plot_file.proofs.RecordLaws.{length_letters, TileRead, HoleRead, Left, later_record_left, later_record_tile, later_record_hole, later_record_end, records_step}
use Rattle.plot_file.proofs.HoleLaws.{holed_none, WithHoles, with_holes_none, with_holes_more, with_holes_first, with_holes_snoc, with_holes_laid, with_holes_lt, Counted, with_holes_counted, with_holes_few}
use Rattle.plot_file.proofs.FirstRecordLaws.{plot_of, First, first_record_given, first_record_board, board_held_made}

-- ---- the records behind the board's

orbit_some : (p : Path) → 1 ≤ length (orbit p)
orbit_some p = go (orbit p) (orbit_self p)
  where
    go : (l : List Path) → Mem p l → 1 ≤ length l
    go [] m = absurd (not-nil m)
    go (q ∷ l) m = omega arith

pub tiles_held_some : (t : TileRecord) → 1 ≤ length (tiles_held t)
unfolding tiles_held
tiles_held_some (ti p) = omega arith
tiles_held_some (or p) = orbit_some p

pub add_tiles_is : (plot : Plot) (paths : List Path) (next : Plot) → add_tiles plot paths ≡ given next
    → (length (plot.tiles ++ paths) ≤ 64) × (plot_of plot.board (plot.tiles ++ paths) ≡ next)
unfolding add_tiles
add_tiles_is plot paths next e = go (leb (length (plot.tiles ++ paths)) 64) refl e
  where
    go : (t : Bool) → leb (length (plot.tiles ++ paths)) 64 ≡ t → cond t (given (plot_of plot.board (plot.tiles ++ paths))) (refused 6) ≡ given next
        → (length (plot.tiles ++ paths) ≤ 64) × (plot_of plot.board (plot.tiles ++ paths) ≡ next)
    go true q r = (leb-true (length (plot.tiles ++ paths)) 64 q, given_inj (plot_of plot.board (plot.tiles ++ paths)) next r)
    go false q r = absurd (refused_given 6 next r)

add_tiles_few : (plot : Plot) (paths : List Path) → length (plot.tiles ++ paths) ≤ 64 → add_tiles plot paths ≡ given (plot_of plot.board (plot.tiles ++ paths))
unfolding add_tiles
add_tiles_few plot paths h = rw (le-leb (length (plot.tiles ++ paths)) 64 h)

-- an accepted run of records goes on, or is at its end
pub onward_given : (next : Plot → List ℕ → Answer Plot) (a : Answer Step) (last : Plot) → onward next a ≡ given last
    → ((plot : Plot) × (rest : List ℕ) × (a ≡ given (more plot rest)) × (next plot rest ≡ given last)) ⊎ (a ≡ given (ended last))
unfolding onward
onward_given next (refused n) last e = absurd (refused_given n last e)
onward_given next (given (more plot rest)) last e = inl (plot, rest, refl, e)
onward_given next (given (ended plot)) last e = inr (ap (λ (p : Plot). given (ended p)) (given_inj plot last e))

-- the directions of a tile record are a tile's
abbrev pub Fine : TileRecord → Type 0
Fine t = (length (directions t) ≤ 32) × So (codes_ok (directions t))

-- bytes that are holes, tile records and EN, and what the plot before them is with their holes and tiles; behind a tile there is no hole
record Run (plot : Plot) (bytes : List ℕ) (last : Plot) : Type 0 where
  holes : List Hole
  run : List TileRecord
  is : bytes ≡ flat_map hole_bytes holes ++ (flat_map tile_bytes run ++ letters EN)
  before : 0 < length plot.tiles → holes ≡ []
  dug : WithHoles plot.board holes last.board
  paths : (t : TileRecord) → Mem t run → Fine t
  all : last.tiles ≡ plot.tiles ++ flat_map tiles_held run
  few : length plot.tiles ≤ 64 → length last.tiles ≤ 64

fine_cons : (t : TileRecord) (ts : List TileRecord) → Fine t → ((u : TileRecord) → Mem u ts → Fine u) → (u : TileRecord) → Mem u (t ∷ ts) → Fine u
fine_cons t ts h k u m = ⊎_elim (λ e. subst Fine (sym e) h) (k u) (cases_cons m)

run_end : (plot : Plot) → plot.board.fixed < 2 ^ 256 → Run plot (letters EN) plot
unfolding flat_map
run_end plot h =
    record {
      holes = [];
      run = [];
      is = refl;
      before = λ k. refl;
      dug = with_holes_none plot.board h;
      paths = λ t m. absurd (not-nil m);
      all = sym (append-nil plot.tiles);
      few = λ k. k;
    }

run_tile : (plot : Plot) (t : TileRecord) (rest : List ℕ) (last : Plot) → Fine t → length (plot.tiles ++ tiles_held t) ≤ 64
    → Run (plot_of plot.board (plot.tiles ++ tiles_held t)) rest last → Run plot (tile_bytes t ++ rest) last
unfolding flat_map
run_tile plot t rest last h few r =
    let none : r.holes ≡ [] = r.before (omega (arith, length-append plot.tiles (tiles_held t), tiles_held_some t)) in
    let is : rest ≡ flat_map tile_bytes r.run ++ letters EN =
    r.is ∙ ap (λ (l : List Hole). flat_map hole_bytes l ++ (flat_map tile_bytes r.run ++ letters EN)) none in
    record {
      holes = [];
      run = t ∷ r.run;
      is = ap (λ (l : List ℕ). tile_bytes t ++ l) is ∙ sym (append_assoc (tile_bytes t) (flat_map tile_bytes r.run) (letters EN));
      before = λ k. refl;
      dug = subst (λ (l : List Hole). WithHoles plot.board l last.board) none r.dug;
      paths = fine_cons t r.run h r.paths;
      all = r.all ∙ append_assoc plot.tiles (tiles_held t) (flat_map tiles_held r.run);
      few = λ k. r.few few;
    }

run_hole : (plot : Plot) (hole : Hole) (rest : List ℕ) (last : Plot) → plot.tiles ≡ [] → So (valid plot.board) → So (free_at plot.board (place hole))
    → Run (plot_of (fix_at plot.board (place hole)) plot.tiles) rest last → Run plot (hole_bytes hole ++ rest) last
unfolding flat_map
run_hole plot hole rest last none ok free r =
    record {
      holes = hole ∷ r.holes;
      run = r.run;
      is = ap (λ (l : List ℕ). hole_bytes hole ++ l) r.is ∙ sym (append_assoc (hole_bytes hole) (flat_map hole_bytes r.holes) (flat_map tile_bytes r.run ++ letters EN));
      before = λ k. absurd (omega (arith, ap length none));
      dug = with_holes_more plot.board hole r.holes last.board ok free r.dug;
      paths = r.paths;
      all = r.all;
      few = r.few;
    }

-- the plot that a later record leaves
pub tile_plot : (plot : Plot) (bytes : List ℕ) (next : Plot) (rest : List ℕ) (l : TileRead plot bytes next rest)
    → (length (plot.tiles ++ tiles_held l.tile) ≤ 64) × (plot_of plot.board (plot.tiles ++ tiles_held l.tile) ≡ next)
tile_plot plot bytes next rest l = add_tiles_is plot (tiles_held l.tile) next l.adds

pub hole_plot : (plot : Plot) (bytes : List ℕ) (next : Plot) (rest : List ℕ) (l : HoleRead plot bytes next rest)
    → So (valid plot.board) × So (free_at plot.board (place l.hole)) × (plot_of (fix_at plot.board (place l.hole)) plot.tiles ≡ next)
hole_plot plot bytes next rest l =
    let w = with_hole_is plot.board l.hole.row l.hole.column next.board l.makes in
    (w.0, w.1, ap₂ plot_of (sym w.2) (sym l.same))

left_lt : (plot : Plot) (bytes : List ℕ) (next : Plot) (rest : List ℕ) → Left plot bytes (more next rest) → plot.board.fixed < 2 ^ 256 → next.board.fixed < 2 ^ 256
left_lt plot bytes next rest l h = ⊎_elim tile hole l
  where
    tile : TileRead plot bytes next rest → next.board.fixed < 2 ^ 256
    tile t = subst (λ (p : Plot). p.board.fixed < 2 ^ 256) (tile_plot plot bytes next rest t).1 h

    hole : HoleRead plot bytes next rest → next.board.fixed < 2 ^ 256
    hole t =
        let w = hole_plot plot bytes next rest t in
        subst (λ (p : Plot). p.board.fixed < 2 ^ 256) w.2 (fix_at_lt plot.board (place t.hole) w.0 w.1 h)

records_run : (n : ℕ) (plot : Plot) (bytes : List ℕ) (last : Plot) → plot.board.fixed < 2 ^ 256 → records n plot bytes ≡ given last → Run plot bytes last
unfolding records
records_run zero plot bytes last h e = absurd (refused_given 1 last e)
records_run (suc n) plot bytes last h e =
    ⊎_elim (λ r. let l = later_record_left plot bytes (more r.0 r.1) r.2 in go r.0 r.1 l (records_run n r.0 r.1 last (left_lt plot bytes r.0 r.1 l h) r.3))
    (λ q. end (later_record_left plot bytes (ended last) q))
    (onward_given (records n) (later_record plot bytes) last e)
  where
    go : (next : Plot) (rest : List ℕ) → Left plot bytes (more next rest) → Run next rest last → Run plot bytes last
    go next rest l r = ⊎_elim tile hole l
      where
        tile : TileRead plot bytes next rest → Run plot bytes last
        tile t =
            let a = tile_plot plot bytes next rest t in
            subst (λ (b : List ℕ). Run plot b last) (sym t.front)
            (run_tile plot t.tile rest last (t.short, t.codes) a.0 (subst (λ (p : Plot). Run p rest last) (sym a.1) r))

        hole : HoleRead plot bytes next rest → Run plot bytes last
        hole t =
            let a = hole_plot plot bytes next rest t in
            subst (λ (b : List ℕ). Run plot b last) (sym t.front)
            (run_hole plot t.hole rest last t.none a.0 a.1 (subst (λ (p : Plot). Run p rest last) (sym a.2) r))

    end : Left plot bytes (ended last) → Run plot bytes last
    end l = subst (λ (b : List ℕ). Run plot b last) (sym l.0) (subst (Run plot (letters EN)) (sym l.1) (run_end plot h))

-- ---- files that begin with a board record, holes and tile records

-- holes in front are read, and the records behind them are next
records_holes : (n : ℕ) (hs : List Hole) (b c : Board) (rest : List ℕ) → length (flat_map hole_bytes hs ++ rest) ≤ n → So (valid b) → b.fixed < 2 ^ 256 → WithHoles b hs c
    → records n (plot_of b []) (flat_map hole_bytes hs ++ rest) ≡ records n (plot_of c []) rest
unfolding flat_map onward
records_holes n [] b c rest h ok lt d = ap (λ (x : Board). records n (plot_of x []) rest) (sym (d.fixes ∙ holed_none b lt))
records_holes n (hole ∷ hs) b c rest h ok lt d =
    let p = place hole in
    let back : List ℕ = flat_map hole_bytes hs ++ rest in
    let join = append_assoc (hole_bytes hole) (flat_map hole_bytes hs) rest in
    let first = with_holes_first b hole hs c ok d in
    records_step n (plot_of b []) (hole_bytes hole ++ flat_map hole_bytes hs ++ rest) h
    ∙ ap (λ (l : List ℕ). onward (records n) (later_record (plot_of b []) l)) join
    ∙ ap (onward (records n)) (later_record_hole hole (plot_of b []) (fix_at b p) back refl (with_hole_given b hole.row hole.column ok first.0))
    ∙ records_holes n hs (fix_at b p) c rest (omega (arith, ap length join, length-append (hole_bytes hole) back)) (fix_at_valid b p ok first.0) (fix_at_lt b p ok first.0 lt) first.1

-- tile records in front are read, and the records behind them are next
pub records_tiles : (n : ℕ) (ts : List TileRecord) (plot : Plot) (rest : List ℕ) → length (flat_map tile_bytes ts ++ rest) ≤ n → ((t : TileRecord) → Mem t ts → Fine t)
    → length (plot.tiles ++ flat_map tiles_held ts) ≤ 64
    → records n plot (flat_map tile_bytes ts ++ rest) ≡ records n (plot_of plot.board (plot.tiles ++ flat_map tiles_held ts)) rest
unfolding flat_map onward
records_tiles n [] plot rest h fine few = ap (λ (l : List Path). records n (plot_of plot.board l) rest) (sym (append-nil plot.tiles))
records_tiles n (t ∷ ts) plot rest h fine few =
    let back : List ℕ = flat_map tile_bytes ts ++ rest in
    let join = append_assoc (tile_bytes t) (flat_map tile_bytes ts) rest in
    let tiles = append_assoc plot.tiles (tiles_held t) (flat_map tiles_held ts) in
    let front = length-append (plot.tiles ++ tiles_held t) (flat_map tiles_held ts) in
    let some : length (plot.tiles ++ tiles_held t) ≤ 64 = omega (arith, ap length tiles) in
    let next : Plot = plot_of plot.board (plot.tiles ++ tiles_held t) in
    let own = fine t (here refl) in
    records_step n plot (tile_bytes t ++ flat_map tile_bytes ts ++ rest) h
    ∙ ap (λ (b : List ℕ). onward (records n) (later_record plot b)) join
    ∙ ap (onward (records n)) (later_record_tile t plot next back own.0 own.1 (add_tiles_few plot (tiles_held t) some))
    ∙ records_tiles n ts next rest (omega (arith, ap length join, length-append (tile_bytes t) back)) (λ u m. fine u (there m)) (omega (arith, ap length tiles))
    ∙ ap (λ (l : List Path). records n (plot_of plot.board l) rest) tiles

records_end : (n : ℕ) (plot : Plot) → 2 ≤ n → records n plot (letters EN) ≡ given plot
unfolding onward
records_end n plot h = records_step n plot (letters EN) (omega (arith, length_letters EN)) ∙ ap (onward (records n)) (later_record_end plot)

-- records that hold a plot: their holes
none_left : (left holes before : ℕ) → left + holes ≡ before → (left ≡ 0) ↔ (holes ≡ before)
none_left left holes before e = (λ q. omega arith, λ q. omega arith)

module _ (first : BoardRecord) (hs : List Hole) (ts : List TileRecord) (plot : Plot) (h : Holds first hs ts plot) where
  pub holds_with_holes : WithHoles h.outline hs plot.board
  holds_with_holes = record { free = h.free; once = h.once; fixes = h.fixes }

  pub holds_counted : Counted h.outline hs plot.board
  holds_counted = let made = board_held_made first h.outline h.size in with_holes_counted h.outline hs plot.board made.0 made.2 holds_with_holes

  pub holds_few : length hs ≤ 256
  holds_few = let made = board_held_made first h.outline h.size in with_holes_few h.outline hs plot.board made.0 made.2 holds_with_holes

  -- no cell is free where there are as many holes as there were free cells
  pub holds_full : is_full plot.board ≡ true ↔ (length hs ≡ free_count h.outline)
  unfolding is_full
  holds_full =
      let both = none_left (free_count plot.board) (length hs) (free_count h.outline) holds_counted.left in
      (λ e. both.0 (eqb-true (free_count plot.board) 0 e), λ e. eq-eqb (free_count plot.board) 0 (both.1 e))

  -- a free cell of that plot can be one hole more
  pub holds_hole : (hole : Hole) → So (free_at plot.board (place hole)) → Holds first (hs ++ hole ∷ []) [] (plot_of (fix_at plot.board (place hole)) [])
  unfolding flat_map
  holds_hole hole f =
      let made = board_held_made first h.outline h.size in
      let dug = with_holes_snoc h.outline hs plot.board hole made.0 made.2 holds_with_holes f in
      record {
        outline = h.outline;
        size = h.size;
        free = dug.free;
        once = dug.once;
        fixes = dug.fixes;
        paths = λ t m. absurd (not-nil m);
        few = omega arith;
        all = refl;
      }

  -- a file that begins with such records goes on with the plot that they hold
  plot_in_records : (rest : List ℕ)
      → plot_in (board_bytes first ++ (flat_map hole_bytes hs ++ (flat_map tile_bytes ts ++ rest)))
      ≡ records (length (board_bytes first ++ (flat_map hole_bytes hs ++ (flat_map tile_bytes ts ++ rest)))) plot rest
  unfolding plot_in onward
  plot_in_records rest =
      let back : List ℕ = flat_map tile_bytes ts ++ rest in
      let after : List ℕ = flat_map hole_bytes hs ++ back in
      let n : ℕ = length (board_bytes first ++ after) in
      let made = board_held_made first h.outline h.size in
      let few : length (flat_map tiles_held ts) ≤ 64 = omega (arith, ap length h.all, h.few) in
      let long : length after ≤ n = omega (arith, length-append (board_bytes first) after) in
      let short : length back ≤ n = omega (arith, length-append (flat_map hole_bytes hs) back) in
      ap (onward (records n)) (first_record_board first h.outline after h.size)
      ∙ records_holes n hs h.outline plot.board back long made.0 made.2 holds_with_holes
      ∙ records_tiles n ts (plot_of plot.board []) rest short h.paths few
      ∙ ap (λ (l : List Path). records n (plot_of plot.board l) rest) (sym h.all)

  -- so it is refused where the next record is
  pub plot_in_refused : (rest : List ℕ) (n : ℕ) → later_record plot rest ≡ refused n
      → plot_in (board_bytes first ++ (flat_map hole_bytes hs ++ (flat_map tile_bytes ts ++ rest))) ≡ refused n
  unfolding onward
  plot_in_refused rest n e =
      let back : List ℕ = flat_map tile_bytes ts ++ rest in
      let after : List ℕ = flat_map hole_bytes hs ++ back in
      let room : length rest ≤ length (board_bytes first ++ after) =
      omega (arith, length-append (board_bytes first) after, length-append (flat_map hole_bytes hs) back, length-append (flat_map tile_bytes ts) rest) in
      plot_in_records rest ∙ records_step (length (board_bytes first ++ after)) plot rest room ∙ ap (onward (records (length (board_bytes first ++ after)))) e

-- ---- accepted files

-- four parts, joined from the front or from the back
pub joined : (p q r s : List ℕ) → p ++ q ++ r ++ s ≡ p ++ (q ++ (r ++ s))
joined p q r s = append_assoc (p ++ q) r s ∙ append_assoc p q (r ++ s)

pub file_of_is : (first : BoardRecord) (hs : List Hole) (ts : List TileRecord)
    → file_of first hs ts ≡ board_bytes first ++ (flat_map hole_bytes hs ++ (flat_map tile_bytes ts ++ letters EN))
unfolding file_of letters
file_of_is first hs ts = joined (board_bytes first) (flat_map hole_bytes hs) (flat_map tile_bytes ts) (letters EN)

-- a file is that of records that hold a plot
abbrev Accepted : List ℕ → Plot → Type 0
Accepted file plot = (board : BoardRecord) × (holes : List Hole) × (tiles : List TileRecord) × (file ≡ file_of board holes tiles) × Holds board holes tiles plot

accepted_records : (file : List ℕ) (plot : Plot) → plot_in file ≡ given plot → Accepted file plot
unfolding plot_in
accepted_records file plot e =
    ⊎_elim (λ r. go r.0 r.1 (first_record_given file (more r.0 r.1) r.2) r.3) (λ q. absurd (no (first_record_given file (ended plot) q).3))
    (onward_given (records (length file)) (first_record file) plot e)
  where
    no : {next : Plot} {rest : List ℕ} → more next rest ≡ ended plot → ⊥
    no q = let z : ◌≡◌ {A = ℕ} 0 1 = cc in omega arith

    found : (first : BoardRecord) (outline : Board) (rest : List ℕ) → file ≡ board_bytes first ++ rest → board_held first ≡ given outline → Run (plot_of outline []) rest plot → Accepted file plot
    found first outline rest is held r = (
      first,
      r.holes,
      r.run,
      is ∙ ap (λ (l : List ℕ). board_bytes first ++ l) r.is ∙ sym (file_of_is first r.holes r.run),
      record {
        outline = outline;
        size = held;
        free = r.dug.free;
        once = r.dug.once;
        fixes = r.dug.fixes;
        paths = r.paths;
        few = r.few (omega arith);
        all = r.all;
      },
    )

    go : (next : Plot) (rest : List ℕ) → First file (more next rest) → records (length file) next rest ≡ given plot → Accepted file plot
    go next rest f q =
        let start : plot_of f.1 [] ≡ next = cc f.3 in
        let behind : f.2 ≡ rest = cc f.3 in
        found f.0 f.1 rest (f.4 ∙ ap (λ (l : List ℕ). board_bytes f.0 ++ l) behind) f.5
        (records_run (length file) (plot_of f.1 []) rest plot (board_held_made f.0 f.1 f.5).2 (ap (λ (p : Plot). records (length file) p rest) start ∙ q))

file_of_accepted : (board : BoardRecord) (holes : List Hole) (tiles : List TileRecord) (plot : Plot) → Holds board holes tiles plot → plot_in (file_of board holes tiles) ≡ given plot
file_of_accepted board holes tiles plot h =
    let back : List ℕ = flat_map tile_bytes tiles ++ letters EN in
    let file : List ℕ = board_bytes board ++ (flat_map hole_bytes holes ++ back) in
    let room : 2 ≤ length file =
    omega (arith, length-append (board_bytes board) (flat_map hole_bytes holes ++ back), length-append (flat_map hole_bytes holes) back, length-append (flat_map tile_bytes tiles) (letters EN), length_letters EN) in
    ap plot_in (file_of_is board holes tiles) ∙ plot_in_records board holes tiles plot h (letters EN) ∙ records_end (length file) plot room

-- the accepted files are the files of records whose board, holes and tiles are accepted
pub accepted_iff : (file : List ℕ) (plot : Plot) → (plot_in file ≡ given plot) ↔ Accepted file plot
accepted_iff file plot = (accepted_records file plot, λ r. ap plot_in r.3 ∙ file_of_accepted r.0 r.1 r.2 plot r.4)

-- ---- what the board and the tiles of an accepted file satisfy

tiles_held_fine : (t : TileRecord) → Fine t → Storable (tiles_held t)
unfolding tiles_held
tiles_held_fine (ti p) h q m = subst (λ (x : Path). (length x ≤ 32) × So (codes_ok x)) (sym (eq_of_singleton m)) h
tiles_held_fine (or p) h q m = (subst (λ (n : ℕ). n ≤ 32) (sym (orbit_length_path p q m)) h.0, orbit_codes_ok p q h.1 m)

pub accepted_plot : (file : List ℕ) (plot : Plot) → plot_in file ≡ given plot
    → (valid plot.board ≡ true) × (plot.board.laid ≡ 0) × (length plot.tiles ≤ 64) × Storable plot.tiles
accepted_plot file plot e =
    let r = (accepted_iff file plot).0 e in
    let h = r.4 in
    let made = board_held_made r.0 h.outline h.size in (
      (holds_counted r.0 r.1 r.2 plot h).accepted,
      with_holes_laid h.outline plot.board r.1 (holds_with_holes r.0 r.1 r.2 plot h) ∙ made.1,
      h.few,
      λ q m.
          let k = (mem_flat_map tiles_held r.2 q).0 (subst (Mem q) h.all m) in
          tiles_held_fine k.0 (h.paths k.0 k.1) q k.2,
    )

pub accepted_fixed : (file : List ℕ) (plot : Plot) → plot_in file ≡ given plot → plot.board.fixed < 2 ^ 256
accepted_fixed file plot e =
    let r = (accepted_iff file plot).0 e in with_holes_lt r.4.outline plot.board r.1 (holds_with_holes r.0 r.1 r.2 plot r.4)

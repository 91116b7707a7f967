-- A file's answer is settled by its first `settled_by` bytes: 4 of the board's record, 4 for each hole that is accepted, at most 256 of them, 35 for each tile that is
-- accepted, at most 64 of them, and the 35 bytes that decide the next record. Fewer are not enough. Rests on `RecordLaws`, `FileLaws` and `LengthLaws`. Assumes nothing.
use Rattle.std.specs.Prelude.{◌≡◌, refl, Bool, true, false, cond, ℕ, zero, suc, ◌+◌, ◌-◌, ◌*◌, ◌≤◌, ◌<◌, eqb, leb, length, take, drop}
use Rattle.std.proofs.Common.{sym, ap, ◌∙◌, subst, ⊎_elim, arith, leb-true, le-leb, length-append, length-take, take-take, length-take-le}
use mathlib.Core.List.{List, [], ◌∷◌, ◌++◌, flat_map}
use Rattle.std.proofs.Math.Decide.{dec_lt}
use Rattle.std.proofs.lemmas.Bool.{lt-leb}
use Rattle.std.proofs.Math.Seq.{take-nil, take-append-add}
use Rattle.refusal.specs.Refusal.{Answer, refused, given, map_answer, bind_answer}
use Rattle.refusal.specs.RefusalLaws.{refused_inj, map_map}
use Rattle.tile.specs.Path.{Path, read_path}
use Rattle.tiles.specs.Paths.{orbit}
use Rattle.tile.specs.StoredLaws.{read_path_is}
use Rattle.rectangle.specs.Board.{Board, free_count}
use Rattle.rectangle.proofs.FreeLaws.{free_le}
use Rattle.board.specs.Board.{new_board, l_board, t_board, fix_at, with_hole}
use Rattle.board.specs.HoleLaws.{fix_at_count}
use Rattle.plot_file.specs.declared.marks.Mark.{Mark}
use Rattle.plot_file.specs.declared.marks.Mark.TheVariants.{RB, LB, TB, HO, TI, OR, EN}
use Rattle.plot_file.specs.PlotFile.{all_marks, Plot, letters, mark_among, read_mark, read_pair, read_body, Step, more, ended, board_body, first_record, hole_body, add_tiles, tile_body, end_body, later_body, later_record, onward, records, plot_in}
use Rattle.plot_file.specs.Records.{rb, ti, board_bytes, hole_bytes, tile_bytes, place, tiles_held, settled_by}
use Rattle.plot_file.specs.Inner.{start_at}
use Rattle.plot_file.proofs.RecordLaws.{read_mark_is, length_letters, read_pair_given, read_body_is, read_body_path, TileRead, HoleRead, later_record_left, later_record_mark, length_tile_bytes, length_hole_bytes, records_same}
use Rattle.plot_file.proofs.HoleLaws.{holes_bytes, length_holes_below}
use Rattle.plot_file.proofs.FirstRecordLaws.{first_record_given}
use Rattle.plot_file.proofs.FileLaws.{tiles_held_some, Fine, tile_plot, hole_plot, plot_in_refused, joined}
use Rattle.plot_file.proofs.LengthLaws.{length_board_bytes, long_path, copies, copies_bytes, long_path_fine, all_holes, long_plot, long_plot_tiles, longest_held}

-- ---- answers

bind_map : {A B C : Type 0} (g : B → Answer C) (f : A → B) (a : Answer A) → bind_answer (map_answer f a) g ≡ bind_answer a (λ x. g (f x))
unfolding map_answer bind_answer
bind_map g f (refused n) = refl
bind_map g f (given x) = refl

-- ---- the first record of a file that is cut: four bytes

read_mark_cut : (n : ℕ) (bytes : List ℕ) → read_mark (take (suc (suc n)) bytes) ≡ map_answer (λ m. (m.0, take n m.1)) (read_mark bytes)
unfolding read_mark map_answer
read_mark_cut n [] = refl
read_mark_cut n (a ∷ []) = refl
read_mark_cut n (a ∷ b ∷ rest) = sym (map_map (λ m. (m.0, take n m.1)) (λ mark. (mark, rest)) (mark_among all_marks a b))

read_pair_cut : (make : ℕ → ℕ → Answer Board) (n : ℕ) (bytes : List ℕ) → read_pair make (take (suc (suc n)) bytes) ≡ map_answer (λ r. (r.0, take n r.1)) (read_pair make bytes)
unfolding read_pair map_answer
read_pair_cut make n [] = refl
read_pair_cut make n (a ∷ []) = refl
read_pair_cut make n (a ∷ b ∷ rest) = sym (map_map (λ r. (r.0, take n r.1)) (λ board. (board, rest)) (make a b))

board_body_cut : (mark : Mark) (n : ℕ) (bytes : List ℕ) → board_body mark (take (suc (suc n)) bytes) ≡ map_answer (λ r. (r.0, take n r.1)) (board_body mark bytes)
unfolding board_body map_answer
board_body_cut RB n bytes = read_pair_cut new_board n bytes
board_body_cut LB n bytes = read_pair_cut l_board n bytes
board_body_cut TB n bytes = read_pair_cut t_board n bytes
board_body_cut HO n bytes = refl
board_body_cut TI n bytes = refl
board_body_cut OR n bytes = refl
board_body_cut EN n bytes = refl

-- the bytes behind a record, cut
abbrev cut_step : ℕ → Step → Step
cut_step n (more plot rest) = more plot (take n rest)
cut_step n (ended plot) = ended plot

first_record_cut : (n : ℕ) (file : List ℕ) → first_record (take (suc (suc (suc (suc n)))) file) ≡ map_answer (cut_step n) (first_record file)
unfolding first_record
first_record_cut n file =
    ap (λ (a : Answer (Mark × List ℕ)). bind_answer a (λ m. map_answer start_at (board_body m.0 m.1))) (read_mark_cut (suc (suc n)) file)
    ∙ bind_map (λ m. map_answer start_at (board_body m.0 m.1)) (λ m. (m.0, take (suc (suc n)) m.1)) (read_mark file)
    ∙ go (read_mark file)
  where
    body : (mark : Mark) (bytes : List ℕ) → map_answer start_at (board_body mark (take (suc (suc n)) bytes)) ≡ map_answer (cut_step n) (map_answer start_at (board_body mark bytes))
    body mark bytes =
        ap (map_answer start_at) (board_body_cut mark n bytes)
        ∙ map_map start_at (λ r. (r.0, take n r.1)) (board_body mark bytes)
        ∙ sym (map_map (cut_step n) start_at (board_body mark bytes))

    go : (a : Answer (Mark × List ℕ)) → bind_answer a (λ m. map_answer start_at (board_body m.0 (take (suc (suc n)) m.1))) ≡ map_answer (cut_step n) (bind_answer a (λ m. map_answer start_at (board_body m.0 m.1)))
    go (refused k) = refl
    go (given m) = body m.0 m.1

-- ---- a later record of bytes that are cut: at most 35 bytes

-- b answers of the first n of some bytes as a does of all of them, and of what is behind the record as many bytes are left
abbrev Like : ℕ → List ℕ → Answer Step → Answer Step → Type 0
Like n bytes (refused k) b = b ≡ refused k
Like n bytes (given (more next rest)) b = (k : ℕ) × (n + length rest ≤ k + length bytes) × (b ≡ given (more next (take k rest)))
Like n bytes (given (ended next)) b = b ≡ given (ended next)

-- two bytes more in front
like_mark : (n : ℕ) (front bytes : List ℕ) (a b : Answer Step) → length front ≡ 2 + length bytes → Like n bytes a b → Like (suc (suc n)) front a b
like_mark n front bytes (refused k) b e l = l
like_mark n front bytes (given (more next rest)) b e l = let h = l.1 in (l.0, omega arith, l.2)
like_mark n front bytes (given (ended next)) b e l = l

drop_take : (k n : ℕ) (l : List ℕ) → k ≤ n → drop k (take n l) ≡ take (n - k) (drop k l)
drop_take zero n l h = let e : n ≡ n - 0 = omega arith in ap (λ (i : ℕ). take i l) e
drop_take (suc k) zero l h = absurd (omega arith)
drop_take (suc k) (suc n) [] h = sym (take-nil (suc n - suc k))
drop_take (suc k) (suc n) (x ∷ l) h =
    let e : n - k ≡ suc n - suc k = omega arith in drop_take k n l (omega arith) ∙ ap (λ (i : ℕ). take i (drop k l)) e

leb_cut : (k n : ℕ) (l : List ℕ) → k ≤ n → leb k (length (take n l)) ≡ leb k (length l)
leb_cut k n l h = go (dec_lt (length l) k)
  where
    go : Dec (length l < k) → leb k (length (take n l)) ≡ leb k (length l)
    go (yes s) = lt-leb k (length (take n l)) (omega (arith, length-take n l)) ∙ sym (lt-leb k (length l) s)
    go (no s) = le-leb k (length (take n l)) (omega (arith, length-take n l)) ∙ sym (le-leb k (length l) (omega arith))

-- a body with 32 bytes or more left behind its length
read_body_cut : (n : ℕ) (bytes : List ℕ) → 32 ≤ n → read_body (take (suc n) bytes) ≡ map_answer (λ r. (r.0, take (n - length r.0) r.1)) (read_body bytes)
unfolding read_body map_answer
read_body_cut n [] h = refl
read_body_cut n (k ∷ rest) h = go (leb k 32) refl
  where
    cut : Path × List ℕ → Path × List ℕ
    cut r = (r.0, take (n - length r.0) r.1)

    body : List ℕ → Answer (Path × List ℕ)
    body l = cond (leb k (length l)) (map_answer (λ path. (path, drop k l)) (read_path (take k l))) (refused 1)

    whole : k ≤ n → k ≤ length rest → (a : Answer Path) → read_path (take k rest) ≡ a → map_answer {B = Path × List ℕ} (λ path. (path, drop k (take n rest))) a ≡ map_answer cut (map_answer (λ path. (path, drop k rest)) a)
    whole i j (refused m) e = refl
    whole i j (given path) e =
        let long : length path ≡ k = ap length (read_path_is (take k rest) path e).0 ∙ length-take-le k rest j in
        ap (λ (l : List ℕ). given (path, l)) (drop_take k n rest i ∙ ap (λ (m : ℕ). take (n - m) (drop k rest)) (sym long))

    inner : k ≤ n → (t : Bool) → leb k (length rest) ≡ t → body (take n rest) ≡ map_answer cut (body rest)
    inner i true e = rw (leb_cut k n rest i, e, take-take k n rest i) (whole i (leb-true k (length rest) e) (read_path (take k rest)) refl)
    inner i false e = rw (leb_cut k n rest i, e)

    go : (t : Bool) → leb k 32 ≡ t → cond t (body (take n rest)) (refused 5) ≡ map_answer cut (cond t (body rest) (refused 5))
    go true e = inner (omega (arith, leb-true k 32 e)) (leb k (length rest)) refl
    go false e = refl

tile_body_cut : (tiles : Path → List Path) (n : ℕ) (plot : Plot) (bytes : List ℕ) → 32 ≤ n → Like (suc n) bytes (tile_body tiles plot bytes) (tile_body tiles plot (take (suc n) bytes))
unfolding tile_body map_answer bind_answer
tile_body_cut tiles n plot bytes h =
    subst (Like (suc n) bytes (bind_answer (read_body bytes) rest)) (sym (ap (λ (a : Answer (Path × List ℕ)). bind_answer a rest) (read_body_cut n bytes h))) (go (read_body bytes) refl)
  where
    rest : Path × List ℕ → Answer Step
    rest r = map_answer (λ p. more p r.1) (add_tiles plot (tiles r.0))

    cut : Path × List ℕ → Path × List ℕ
    cut r = (r.0, take (n - length r.0) r.1)

    added : (path : Path) (back : List ℕ) → length path ≤ 32 → length bytes ≡ suc (length path + length back) → (a : Answer Plot)
        → Like (suc n) bytes (map_answer (λ p. more p back) a) (map_answer (λ p. more p (take (n - length path) back)) a)
    added path back s long (refused k) = refl
    added path back s long (given next) = (n - length path, omega arith, refl)

    go : (a : Answer (Path × List ℕ)) → read_body bytes ≡ a → Like (suc n) bytes (bind_answer a rest) (bind_answer (map_answer cut a) rest)
    go (refused k) e = refl
    go (given r) e =
        let is = read_body_is bytes r.0 r.1 e in
        added r.0 r.1 is.1 (omega (arith, ap length is.0, length-append r.0 r.1)) (add_tiles plot (tiles r.0))

hole_body_cut : (n : ℕ) (plot : Plot) (bytes : List ℕ) → Like (suc (suc n)) bytes (hole_body plot bytes) (hole_body plot (take (suc (suc n)) bytes))
unfolding hole_body map_answer
hole_body_cut n plot bytes = go (eqb (length plot.tiles) 0)
  where
    make : Board × List ℕ → Step
    make r = more (record { board = r.0; tiles = plot.tiles }) r.1

    cut : Board × List ℕ → Board × List ℕ
    cut r = (r.0, take n r.1)

    pair : List ℕ → Answer (Board × List ℕ)
    pair l = read_pair (with_hole plot.board) l

    read : (a : Answer (Board × List ℕ)) → pair bytes ≡ a → Like (suc (suc n)) bytes (map_answer make a) (map_answer make (map_answer cut a))
    read (refused k) e = refl
    read (given r) e =
        let long = ap length (read_pair_given (with_hole plot.board) bytes r.0 r.1 e).2 in (n, omega arith, refl)

    go : (t : Bool) → Like (suc (suc n)) bytes (cond t (map_answer make (pair bytes)) (refused 3)) (cond t (map_answer make (pair (take (suc (suc n)) bytes))) (refused 3))
    go true =
        subst (Like (suc (suc n)) bytes (map_answer make (pair bytes))) (sym (ap (map_answer make) (read_pair_cut (with_hole plot.board) n bytes))) (read (pair bytes) refl)
    go false = refl

end_body_cut : (n : ℕ) (plot : Plot) (bytes : List ℕ) → Like (suc n) bytes (end_body plot bytes) (end_body plot (take (suc n) bytes))
unfolding end_body
end_body_cut n plot [] = refl
end_body_cut n plot (byte ∷ bytes) = refl

later_body_cut : (mark : Mark) (n : ℕ) (plot : Plot) (bytes : List ℕ) → 31 ≤ n
    → Like (suc (suc n)) bytes (later_body mark plot bytes) (later_body mark plot (take (suc (suc n)) bytes))
unfolding later_body
later_body_cut RB n plot bytes h = refl
later_body_cut LB n plot bytes h = refl
later_body_cut TB n plot bytes h = refl
later_body_cut HO n plot bytes h = hole_body_cut n plot bytes
later_body_cut TI n plot bytes h = tile_body_cut (λ path. path ∷ []) (suc n) plot bytes (omega arith)
later_body_cut OR n plot bytes h = tile_body_cut orbit (suc n) plot bytes (omega arith)
later_body_cut EN n plot bytes h = end_body_cut (suc n) plot bytes

later_record_cut : (n : ℕ) (plot : Plot) (bytes : List ℕ) → 31 ≤ n
    → Like (suc (suc (suc (suc n)))) bytes (later_record plot bytes) (later_record plot (take (suc (suc (suc (suc n)))) bytes))
unfolding later_record map_answer bind_answer
later_record_cut n plot bytes h =
    subst (Like (suc (suc (suc (suc n)))) bytes (bind_answer (read_mark bytes) next)) (sym (ap (λ (a : Answer (Mark × List ℕ)). bind_answer a next) (read_mark_cut (suc (suc n)) bytes))) (go (read_mark bytes) refl)
  where
    next : Mark × List ℕ → Answer Step
    next r = later_body r.0 plot r.1

    go : (a : Answer (Mark × List ℕ)) → read_mark bytes ≡ a
        → Like (suc (suc (suc (suc n)))) bytes (bind_answer a next) (bind_answer (map_answer (λ r. (r.0, take (suc (suc n)) r.1)) a) next)
    go (refused k) e = refl
    go (given r) e =
        let long : length bytes ≡ 2 + length r.1 =
        omega (arith, ap length (read_mark_is bytes r.0 r.1 e), length-append (letters r.0) r.1, length_letters r.0) in
        like_mark (suc (suc n)) bytes r.1 (later_body r.0 plot r.1) (later_body r.0 plot (take (suc (suc n)) r.1)) long (later_body_cut r.0 n plot r.1 h)

-- ---- the records: room for 4 bytes for each cell that can be a hole, for 35 bytes for each tile that can be added, and for one record more

abbrev room : Plot → ℕ
room plot = 4 * free_count plot.board + 35 * (64 - length plot.tiles) + 35

-- a record takes no more than its part of the room
tile_room : (plot : Plot) (bytes : List ℕ) (next : Plot) (rest : List ℕ) → TileRead plot bytes next rest
    → (length next.tiles ≤ 64) × (room next + length bytes ≤ room plot + length rest)
tile_room plot bytes next rest l =
    let a = tile_plot plot bytes next rest l in
    let most = a.0 in
    let n : length (plot.tiles ++ tiles_held l.tile) ≡ length next.tiles = ap (λ (p : Plot). length p.tiles) a.1 in
    let free : free_count plot.board ≡ free_count next.board = ap (λ (p : Plot). free_count p.board) a.1 in
    let more = length-append plot.tiles (tiles_held l.tile) in
    let some = tiles_held_some l.tile in
    (omega arith, omega (arith, ap length l.front, length-append (tile_bytes l.tile) rest, length_tile_bytes l.tile, l.short))

hole_room : (plot : Plot) (bytes : List ℕ) (next : Plot) (rest : List ℕ) → length plot.tiles ≤ 64 → HoleRead plot bytes next rest
    → (length next.tiles ≤ 64) × (room next + length bytes ≤ room plot + length rest)
hole_room plot bytes next rest few l =
    let a = hole_plot plot bytes next rest l in
    let n : length plot.tiles ≡ length next.tiles = ap (λ (p : Plot). length p.tiles) a.2 in
    let free : free_count (fix_at plot.board (place l.hole)) ≡ free_count next.board = ap (λ (p : Plot). free_count p.board) a.2 in
    let less = fix_at_count plot.board (place l.hole) a.0 a.1 in
    (omega arith, omega (arith, ap length l.front, length-append (hole_bytes l.hole) rest, length_hole_bytes l.hole))

records_cut : (turns m : ℕ) (plot : Plot) (bytes : List ℕ) → length plot.tiles ≤ 64 → room plot ≤ m → records turns plot (take m bytes) ≡ records turns plot bytes
unfolding records
records_cut zero m plot bytes few h = refl
records_cut (suc turns) m plot bytes few h =
    let e : suc (suc (suc (suc (m - 4)))) ≡ m = omega arith in
    go (later_record plot bytes) refl (later_record plot (take m bytes))
    (subst (λ (n : ℕ). Like n bytes (later_record plot bytes) (later_record plot (take n bytes))) e (later_record_cut (m - 4) plot bytes (omega arith)))
    (λ n next rest q w. records_cut turns n next rest q w)
  where
    go : (a : Answer Step) → later_record plot bytes ≡ a → (b : Answer Step) → Like m bytes a b
        → ((n : ℕ) (next : Plot) (rest : List ℕ) → length next.tiles ≤ 64 → room next ≤ n → records turns next (take n rest) ≡ records turns next rest)
        → onward (records turns) b ≡ onward (records turns) a
    go (refused k) q b l r = ap (onward (records turns)) l
    go (given (ended next)) q b l r = ap (onward (records turns)) l
    go (given (more next rest)) q b l r =
        let left = ⊎_elim (tile_room plot bytes next rest) (hole_room plot bytes next rest few) (later_record_left plot bytes (more next rest) q) in
        let s = left.1 in
        let k = l.1 in
        ap (onward (records turns)) l.2 ∙ r l.0 next rest left.0 (omega arith)

-- ---- the file

pub settled : (file : List ℕ) (n : ℕ) → settled_by ≤ n → plot_in (take n file) ≡ plot_in file
unfolding plot_in map_answer onward
settled file n h =
    let e : n ≡ suc (suc (suc (suc (n - 4)))) = omega arith in
    ap (onward (records (length (take n file)))) (ap (λ (k : ℕ). first_record (take k file)) e ∙ first_record_cut (n - 4) file) ∙ go (first_record file) refl
  where
    go : (a : Answer Step) → first_record file ≡ a → onward (records (length (take n file))) (map_answer (cut_step (n - 4)) a) ≡ onward (records (length file)) a
    go (refused k) q = refl
    go (given (ended plot)) q = refl
    go (given (more plot rest)) q =
        let f = first_record_given file (more plot rest) q in
        let none : length plot.tiles ≡ 0 = ap tiles_in (sym f.3) in
        let behind : f.2 ≡ rest = cc f.3 in
        let long : length file ≡ 4 + length rest =
        omega (arith, ap length f.4, length-append (board_bytes f.0) f.2, length_board_bytes f.0, ap length behind) in
        let left = length-take (n - 4) rest in
        let free = free_le plot.board in
        records_same (length (take n file)) (length file) plot (take (n - 4) rest) (omega (arith, length-take n file)) (omega arith)
        ∙ records_cut (length file) (n - 4) plot rest (omega arith) (omega arith)
      where
        tiles_in : Step → ℕ
        tiles_in (more p r) = length p.tiles
        tiles_in (ended p) = 0

-- ---- 3,302 bytes are not enough: behind 256 holes the last of 65 tiles of 32 codes is one too many (6), and without its last byte it is cut (1)

many : List ℕ → List ℕ
many rest = board_bytes (rb 16 16) ++ (flat_map hole_bytes all_holes ++ (flat_map tile_bytes (copies 64) ++ rest))

many_records : (rest : List ℕ) (n : ℕ) → later_record long_plot rest ≡ refused n → plot_in (many rest) ≡ refused n
unfolding many
many_records rest n e = plot_in_refused (rb 16 16) all_holes (copies 64) long_plot longest_held rest n e

-- the tile that is one too many
last : List ℕ
last = tile_bytes (ti long_path)

over : (plot : Plot) (path : Path) → Fine (ti path) → 64 < length (plot.tiles ++ path ∷ []) → later_record plot (letters TI ++ (length path ∷ path ++ [])) ≡ refused 6
unfolding later_body tile_body bind_answer map_answer add_tiles
over plot path fine past =
    later_record_mark TI plot (length path ∷ path ++ [])
    ∙ rw (read_body_path path [] fine.0 fine.1, lt-leb (length (plot.tiles ++ path ∷ [])) 64 past)

too_many : later_record long_plot last ≡ refused 6
unfolding last tile_bytes letters
too_many = over long_plot long_path long_path_fine (omega (arith, long_plot_tiles, length-append long_plot.tiles (long_path ∷ [])))

too_short : later_record long_plot (take 34 last) ≡ refused 1
unfolding last tile_bytes later_record read_mark later_body tile_body read_body bind_answer map_answer
too_short = refl

many_cut : take 3302 (many last) ≡ many (take 34 last)
unfolding many
many_cut =
    let front : List ℕ = board_bytes (rb 16 16) ++ flat_map hole_bytes all_holes ++ flat_map tile_bytes (copies 64) in
    let long : length front ≡ 3268 =
    omega (
      arith,
      length-append (board_bytes (rb 16 16) ++ flat_map hole_bytes all_holes) (flat_map tile_bytes (copies 64)),
      length-append (board_bytes (rb 16 16)) (flat_map hole_bytes all_holes),
      length_board_bytes (rb 16 16),
      holes_bytes all_holes,
      length_holes_below 256,
      copies_bytes 64,
    ) in
    let e : 3302 ≡ length front + 34 = omega arith in
    let join = joined (board_bytes (rb 16 16)) (flat_map hole_bytes all_holes) (flat_map tile_bytes (copies 64)) in
    ap (take 3302) (sym (join last)) ∙ ap (λ (n : ℕ). take n (front ++ last)) e ∙ take-append-add front last 34 ∙ join (take 34 last)

pub settled_by_least : (n : ℕ) → ((file : List ℕ) → plot_in (take n file) ≡ plot_in file) → settled_by ≤ n
settled_by_least n h = go (dec_lt n settled_by)
  where
    go : Dec (n < settled_by) → settled_by ≤ n
    go (no k) = omega arith
    go (yes k) =
        let cut : plot_in (take 3302 (many last)) ≡ refused 1 = ap plot_in many_cut ∙ many_records (take 34 last) 1 too_short in
        let same : refused 1 ≡ refused 6 =
        sym cut ∙ sym (h (take 3302 (many last))) ∙ ap plot_in (take-take n 3302 (many last) (omega arith)) ∙ h (many last) ∙ many_records last 6 too_many in
        absurd (omega (arith, refused_inj 1 6 same))

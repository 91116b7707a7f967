-- Laws of the records of a plot file: a mark and a body are read exactly where they stand; what a later record is;
-- a record that was read left fewer bytes, so that `records` has enough turns; every refusal is one of 1 to 6, or 15. Rests on `PlotFile`, `Records` and
-- the laws of answers, paths and holes. Assumes nothing.
use Rattle.std.specs.Prelude.{◌≡◌, refl, ◌⊎◌, Bool, true, false, cond, ◌&&◌, List, [], ◌∷◌, ◌++◌, ℕ, zero, suc, ◌+◌, ◌*◌, ◌≤◌, ◌<◌, eqb, leb, length, get_or, take, drop}
use Rattle.std.proofs.Common.{sym, ap, ap₂, ◌∙◌, subst, inl, inr, ⊎_elim, arith, eqb-true, eq-eqb, leb-true, le-leb, take-append-drop, length-append, length-take-le}
use Rattle.std.proofs.Math.Bool.{So, and-eq-true_iff}
use Rattle.std.proofs.Math.Seq.{take-append_seam, drop-append_seam}
use Rattle.refusal.specs.Refusal.{Answer, refused, given, map_answer, bind_answer}
use Rattle.refusal.specs.RefusalLaws.{refused_given, refused_inj, given_inj, map_given, bind_given, Refuses, refuses_one, refuses_none, refuses_cond, refuses_bind, refuses_map}
use Rattle.tile.specs.Path.{Path, codes_ok, read_path}
use Rattle.tiles.specs.Paths.{orbit}
use Rattle.tile.specs.StoredLaws.{read_path_is, read_path_given}
use Rattle.rectangle.specs.Board.{Board, size_ok}
use Rattle.board.specs.Board.{shaped, new_board, l_board, t_board, with_hole}
use Rattle.board.specs.HoleLaws.{with_hole_refused}
use Rattle.plot_file.specs.declared.marks.Mark.{Mark}
use Rattle.plot_file.specs.declared.marks.Mark.TheVariants.{RB, LB, TB, HO, TI, OR, EN}
use Rattle.plot_file.specs.PlotFile.{all_marks, Plot, letters, spells, mark_among, read_mark, read_pair, read_body, Step, more, ended, board_body, first_record, hole_body, add_tiles, tile_body, end_body, later_body, later_record, onward, records, plot_in}
use Rattle.plot_file.specs.Records.{Hole, TileRecord, ti, or, hole_bytes, tile_bytes, directions, tiles_held}

-- ---- marks

letters_two : (mark : Mark) → letters mark ≡ get_or (letters mark) 0 0 ∷ get_or (letters mark) 1 0 ∷ []
unfolding letters
letters_two RB = refl
letters_two LB = refl
letters_two TB = refl
letters_two HO = refl
letters_two TI = refl
letters_two OR = refl
letters_two EN = refl

spells_letters : (mark : Mark) (a b : ℕ) → spells mark a b ≡ true → a ∷ b ∷ [] ≡ letters mark
unfolding spells
spells_letters mark a b e =
    let both = (and-eq-true_iff (eqb a (get_or (letters mark) 0 0)) (eqb b (get_or (letters mark) 1 0))).0 e in
    ap₂ (λ (x y : ℕ). x ∷ y ∷ []) (eqb-true a (get_or (letters mark) 0 0) both.0) (eqb-true b (get_or (letters mark) 1 0) both.1)
    ∙ sym (letters_two mark)

mark_among_letters : (marks : List Mark) (a b : ℕ) (mark : Mark) → mark_among marks a b ≡ given mark → a ∷ b ∷ [] ≡ letters mark
unfolding mark_among
mark_among_letters [] a b mark e = absurd (refused_given 2 mark e)
mark_among_letters (m ∷ marks) a b mark e = go (spells m a b) refl e (mark_among_letters marks a b mark)
  where
    go : (t : Bool) → spells m a b ≡ t → cond t (given m) (mark_among marks a b) ≡ given mark → (mark_among marks a b ≡ given mark → a ∷ b ∷ [] ≡ letters mark)
        → a ∷ b ∷ [] ≡ letters mark
    go true q r others = spells_letters m a b q ∙ ap letters (given_inj m mark r)
    go false q r others = others r

-- a mark that was read stands in front
pub read_mark_is : (bytes : List ℕ) (mark : Mark) (rest : List ℕ) → read_mark bytes ≡ given (mark, rest) → bytes ≡ letters mark ++ rest
unfolding read_mark
read_mark_is [] mark rest e = absurd (refused_given 1 (mark, rest) e)
read_mark_is (a ∷ []) mark rest e = absurd (refused_given 1 (mark, rest) e)
read_mark_is (a ∷ b ∷ bytes) mark rest e =
    let r = map_given (λ m. (m, bytes)) (mark_among all_marks a b) (mark, rest) e in
    ap (λ (l : List ℕ). l ++ bytes) (mark_among_letters all_marks a b r.0 r.1)
    ∙ ap (λ (m : Mark × List ℕ). letters m.0 ++ m.1) r.2

-- a mark in front is read
pub read_mark_letters : (mark : Mark) (rest : List ℕ) → read_mark (letters mark ++ rest) ≡ given (mark, rest)
unfolding read_mark letters
read_mark_letters RB rest = refl
read_mark_letters LB rest = refl
read_mark_letters TB rest = refl
read_mark_letters HO rest = refl
read_mark_letters TI rest = refl
read_mark_letters OR rest = refl
read_mark_letters EN rest = refl

pub length_letters : (mark : Mark) → length (letters mark) ≡ 2
length_letters mark = ap length (letters_two mark)

-- ---- bodies

-- two bytes that were read
pub read_pair_given : (make : ℕ → ℕ → Answer Board) (bytes : List ℕ) (board : Board) (rest : List ℕ) → read_pair make bytes ≡ given (board, rest)
    → (a : ℕ) × (b : ℕ) × (bytes ≡ a ∷ b ∷ rest) × (make a b ≡ given board)
unfolding read_pair
read_pair_given make [] board rest e = absurd (refused_given 1 (board, rest) e)
read_pair_given make (a ∷ []) board rest e = absurd (refused_given 1 (board, rest) e)
read_pair_given make (a ∷ b ∷ bytes) board rest e =
    let r = map_given (λ board. (board, bytes)) (make a b) (board, rest) e in
    (a, b, ap (λ (x : Board × List ℕ). a ∷ b ∷ x.1) r.2, r.1 ∙ ap (λ (x : Board × List ℕ). given x.0) r.2)

-- a body that was read is its length and its codes, and they are a path
pub read_body_is : (bytes : List ℕ) (p : Path) (rest : List ℕ) → read_body bytes ≡ given (p, rest)
    → (bytes ≡ length p ∷ p ++ rest) × (length p ≤ 32) × So (codes_ok p)
unfolding read_body
read_body_is [] p rest e = absurd (refused_given 1 (p, rest) e)
read_body_is (k ∷ bytes) p rest e = go (leb k 32) (leb k (length bytes)) refl e
  where
    go : (t u : Bool) → leb k (length bytes) ≡ u → cond t (cond u (map_answer {B = Path × List ℕ} (λ path. (path, drop k bytes)) (read_path (take k bytes))) (refused 1)) (refused 5) ≡ given (p, rest)
        → (k ∷ bytes ≡ length p ∷ p ++ rest) × (length p ≤ 32) × So (codes_ok p)
    go true true q r =
        let m = map_given (λ path. (path, drop k bytes)) (read_path (take k bytes)) (p, rest) r in
        let path : m.0 ≡ p = ap (λ (x : Path × List ℕ). x.0) m.2 in
        let back : drop k bytes ≡ rest = ap (λ (x : Path × List ℕ). x.1) m.2 in
        let is = read_path_is (take k bytes) p (m.1 ∙ ap given path) in
        let same : take k bytes ≡ p = sym is.0 in
        let long : k ≡ length p = sym (length-take-le k bytes (leb-true k (length bytes) q)) ∙ ap length same in
        (ap₂ ◌∷◌ long (sym (take-append-drop k bytes) ∙ ap₂ ◌++◌ same back), subst (λ (l : Path). length l ≤ 32) same is.1, subst (λ (l : Path). So (codes_ok l)) same is.2)
    go true false q r = absurd (refused_given 1 (p, rest) r)
    go false u q r = absurd (refused_given 5 (p, rest) r)

-- a path of at most 32 codes, its length in front, is read
pub read_body_path : (p : Path) (rest : List ℕ) → length p ≤ 32 → So (codes_ok p) → read_body (length p ∷ p ++ rest) ≡ given (p, rest)
unfolding read_body map_answer
read_body_path p rest h ok =
    let room : length p ≤ length (p ++ rest) = omega (arith, length-append p rest) in
    rw (le-leb (length p) 32 h, le-leb (length p) (length (p ++ rest)) room, take-append_seam p rest, drop-append_seam p rest, read_path_given p h ok)

-- ---- later records

-- the record of a tile was read: it stands in front, its tile is a path, and its tiles were added
pub record TileRead (plot : Plot) (bytes : List ℕ) (next : Plot) (rest : List ℕ) : Type 0 where
  pub tile : TileRecord
  pub front : bytes ≡ tile_bytes tile ++ rest
  pub short : length (directions tile) ≤ 32
  pub codes : So (codes_ok (directions tile))
  pub adds : add_tiles plot (tiles_held tile) ≡ given next

-- the record of a hole was read: it stands in front, before every tile, and its cell was fixed
pub record HoleRead (plot : Plot) (bytes : List ℕ) (next : Plot) (rest : List ℕ) : Type 0 where
  pub hole : Hole
  pub front : bytes ≡ hole_bytes hole ++ rest
  pub none : plot.tiles ≡ []
  pub makes : with_hole plot.board hole.row hole.column ≡ given next.board
  pub same : next.tiles ≡ plot.tiles

-- what a record leaves: a tile's and a hole's leave bytes behind them, EN ends the file
abbrev pub Left : Plot → List ℕ → Step → Type 0
Left plot bytes (more next rest) = TileRead plot bytes next rest ⊎ HoleRead plot bytes next rest
Left plot bytes (ended next) = (bytes ≡ letters EN) × (next ≡ plot)

tile_body_given : (tiles : Path → List Path) (plot : Plot) (bytes : List ℕ) (step : Step) → tile_body tiles plot bytes ≡ given step
    → (path : Path) × (rest : List ℕ) × (next : Plot) × (more next rest ≡ step) × (bytes ≡ length path ∷ path ++ rest) × (length path ≤ 32) × So (codes_ok path) × (add_tiles plot (tiles path) ≡ given next)
unfolding tile_body
tile_body_given tiles plot bytes step e =
    let r = bind_given (read_body bytes) (λ r. map_answer (λ p. more p r.1) (add_tiles plot (tiles r.0))) step e in
    let m = map_given (λ p. more p r.0.1) (add_tiles plot (tiles r.0.0)) step r.2 in
    let is = read_body_is bytes r.0.0 r.0.1 r.1 in
    (r.0.0, r.0.1, m.0, m.2, is.0, is.1, is.2, m.1)

pub length_none : {A : Type 0} (l : List A) → length l ≡ 0 → l ≡ []
length_none [] e = refl
length_none (x ∷ l) e = absurd (omega arith)

hole_body_left : (plot : Plot) (bytes : List ℕ) (step : Step) → hole_body plot bytes ≡ given step → Left plot (letters HO ++ bytes) step
unfolding hole_body hole_bytes letters
hole_body_left plot bytes step e = go (eqb (length plot.tiles) 0) refl e
  where
    make : Board × List ℕ → Step
    make r = more (record { board = r.0; tiles = plot.tiles }) r.1

    go : (t : Bool) → eqb (length plot.tiles) 0 ≡ t → cond t (map_answer make (read_pair (with_hole plot.board) bytes)) (refused 3) ≡ given step
        → Left plot (letters HO ++ bytes) step
    go true q r =
        let m = map_given make (read_pair (with_hole plot.board) bytes) step r in
        let p = read_pair_given (with_hole plot.board) bytes m.0.0 m.0.1 m.1 in
        let none : plot.tiles ≡ [] = length_none plot.tiles (eqb-true (length plot.tiles) 0 q) in
        subst (Left plot (letters HO ++ bytes)) m.2
        (inr record { hole = record { row = p.0; column = p.1 }; front = ap (λ (l : List ℕ). letters HO ++ l) p.2; none = none; makes = p.3; same = refl })
    go false q r = absurd (refused_given 3 step r)

later_body_left : (mark : Mark) (plot : Plot) (bytes : List ℕ) (step : Step) → later_body mark plot bytes ≡ given step → Left plot (letters mark ++ bytes) step
unfolding later_body end_body letters tile_bytes tiles_held
later_body_left RB plot bytes step e = absurd (refused_given 3 step e)
later_body_left LB plot bytes step e = absurd (refused_given 3 step e)
later_body_left TB plot bytes step e = absurd (refused_given 3 step e)
later_body_left HO plot bytes step e = hole_body_left plot bytes step e
later_body_left TI plot bytes step e =
    let r = tile_body_given (λ path. path ∷ []) plot bytes step e in
    subst (Left plot (letters TI ++ bytes)) r.3
    (inl (record { tile = ti r.0; front = ap (λ (l : List ℕ). letters TI ++ l) r.4; short = r.5; codes = r.6; adds = r.7 }))
later_body_left OR plot bytes step e =
    let r = tile_body_given orbit plot bytes step e in
    subst (Left plot (letters OR ++ bytes)) r.3
    (inl (record { tile = or r.0; front = ap (λ (l : List ℕ). letters OR ++ l) r.4; short = r.5; codes = r.6; adds = r.7 }))
later_body_left EN plot [] step e = subst (Left plot (letters EN)) (given_inj (ended plot) step e) (refl, refl)
later_body_left EN plot (byte ∷ bytes) step e = absurd (refused_given 3 step e)

-- a later record that was read
pub later_record_left : (plot : Plot) (bytes : List ℕ) (step : Step) → later_record plot bytes ≡ given step → Left plot bytes step
unfolding later_record
later_record_left plot bytes step e =
    let r = bind_given (read_mark bytes) (λ m. later_body m.0 plot m.1) step e in
    subst (λ (l : List ℕ). Left plot l step) (sym (read_mark_is bytes r.0.0 r.0.1 r.1)) (later_body_left r.0.0 plot r.0.1 step r.2)

pub later_record_mark : (mark : Mark) (plot : Plot) (rest : List ℕ) → later_record plot (letters mark ++ rest) ≡ later_body mark plot rest
unfolding later_record bind_answer
later_record_mark mark plot rest = rw (read_mark_letters mark rest)

tile_body_more : (tiles : Path → List Path) (plot next : Plot) (path : Path) (rest : List ℕ) → length path ≤ 32 → So (codes_ok path) → add_tiles plot (tiles path) ≡ given next → tile_body tiles plot (length path ∷ path ++ rest) ≡ given (more next rest)
unfolding tile_body bind_answer map_answer
tile_body_more tiles plot next path rest h ok e = rw (read_body_path path rest h ok, e)

-- the record of a tile in front is read
pub later_record_tile : (tile : TileRecord) (plot next : Plot) (rest : List ℕ) → length (directions tile) ≤ 32 → So (codes_ok (directions tile)) → add_tiles plot (tiles_held tile) ≡ given next → later_record plot (tile_bytes tile ++ rest) ≡ given (more next rest)
unfolding later_body letters tile_bytes tiles_held
later_record_tile (ti path) plot next rest h ok e =
    later_record_mark TI plot (length path ∷ path ++ rest) ∙ tile_body_more (λ path. path ∷ []) plot next path rest h ok e
later_record_tile (or path) plot next rest h ok e = later_record_mark OR plot (length path ∷ path ++ rest) ∙ tile_body_more orbit plot next path rest h ok e

-- the record of a hole in front, before every tile, is read
pub later_record_hole : (hole : Hole) (plot : Plot) (board : Board) (rest : List ℕ) → plot.tiles ≡ [] → with_hole plot.board hole.row hole.column ≡ given board
    → later_record plot (hole_bytes hole ++ rest) ≡ given (more (record { board = board; tiles = plot.tiles }) rest)
unfolding later_body hole_body read_pair letters hole_bytes map_answer
later_record_hole hole plot board rest none e =
    later_record_mark HO plot (hole.row ∷ hole.column ∷ rest) ∙ rw (eq-eqb (length plot.tiles) 0 (ap length none), e)

-- EN as the last bytes is read
pub later_record_end : (plot : Plot) → later_record plot (letters EN) ≡ given (ended plot)
unfolding later_body end_body letters
later_record_end plot = later_record_mark EN plot []

pub length_tile_bytes : (tile : TileRecord) → length (tile_bytes tile) ≡ 3 + length (directions tile)
unfolding tile_bytes
length_tile_bytes (ti path) = omega arith
length_tile_bytes (or path) = omega arith

pub length_hole_bytes : (hole : Hole) → length (hole_bytes hole) ≡ 4
unfolding hole_bytes
length_hole_bytes hole = refl

-- a later record that was read has three bytes or more
pub later_record_shorter : (plot : Plot) (bytes : List ℕ) (next : Plot) (rest : List ℕ) → later_record plot bytes ≡ given (more next rest) → length rest + 3 ≤ length bytes
later_record_shorter plot bytes next rest e =
    ⊎_elim tile hole (later_record_left plot bytes (more next rest) e)
  where
    tile : TileRead plot bytes next rest → length rest + 3 ≤ length bytes
    tile r = omega (arith, ap length r.front, length-append (tile_bytes r.tile) rest, length_tile_bytes r.tile)

    hole : HoleRead plot bytes next rest → length rest + 3 ≤ length bytes
    hole r = omega (arith, ap length r.front, length-append (hole_bytes r.hole) rest, length_hole_bytes r.hole)

-- ---- enough turns

onward_ext : (f g : Plot → List ℕ → Answer Plot) (a : Answer Step) → ((next : Plot) (rest : List ℕ) → a ≡ given (more next rest) → f next rest ≡ g next rest) → onward f a ≡ onward g a
unfolding onward
onward_ext f g (refused n) h = refl
onward_ext f g (given (more next rest)) h = h next rest refl
onward_ext f g (given (ended next)) h = refl

records_none : (n : ℕ) (plot : Plot) → records n plot [] ≡ refused 1
unfolding records later_record read_mark bind_answer onward
records_none zero plot = refl
records_none (suc n) plot = refl

-- as many turns as there are bytes are enough: more of them change nothing
pub records_same : (m n : ℕ) (plot : Plot) (bytes : List ℕ) → length bytes ≤ m → length bytes ≤ n → records m plot bytes ≡ records n plot bytes
unfolding records
records_same zero n plot [] h k = sym (records_none n plot)
records_same zero n plot (byte ∷ bytes) h k = absurd (omega arith)
records_same (suc m) zero plot [] h k = records_none (suc m) plot
records_same (suc m) zero plot (byte ∷ bytes) h k = absurd (omega arith)
records_same (suc m) (suc n) plot bytes h k =
    onward_ext (records m) (records n) (later_record plot bytes)
    (λ next rest e. let l = later_record_shorter plot bytes next rest e in records_same m n next rest (omega arith) (omega arith))

pub records_enough : (n : ℕ) (plot : Plot) (bytes : List ℕ) → length bytes ≤ n → records n plot bytes ≡ records (length bytes) plot bytes
records_enough n plot bytes h = records_same n (length bytes) plot bytes h (omega arith)

-- so the records are the next one and the records behind it
pub records_step : (n : ℕ) (plot : Plot) (bytes : List ℕ) → length bytes ≤ n → records n plot bytes ≡ onward (records n) (later_record plot bytes)
unfolding records
records_step n plot bytes h = records_same n (suc n) plot bytes h (omega arith)

-- ---- every refusal is one of 1 to 6, or 15

abbrev Listed : ℕ → Type 0
Listed n = ((0 < n) × (n ≤ 6)) ⊎ (n ≡ 15)

refuses_onward : (f : Plot → List ℕ → Answer Plot) (a : Answer Step) → ((next : Plot) (rest : List ℕ) → Refuses Listed (f next rest)) → Refuses Listed a → Refuses Listed (onward f a)
unfolding onward
refuses_onward f (refused m) h k n e = k n (ap refused (refused_inj m n e))
refuses_onward f (given (more next rest)) h k n e = h next rest n e
refuses_onward f (given (ended next)) h k n e = refuses_none Listed next n e

refuses_1 : {A : Type 0} → Refuses {A = A} Listed (refused 1)
refuses_1 = refuses_one Listed 1 (inl (omega arith, omega arith))

refuses_3 : {A : Type 0} → Refuses {A = A} Listed (refused 3)
refuses_3 = refuses_one Listed 3 (inl (omega arith, omega arith))

refuses_5 : {A : Type 0} → Refuses {A = A} Listed (refused 5)
refuses_5 = refuses_one Listed 5 (inl (omega arith, omega arith))

mark_among_listed : (marks : List Mark) (a b : ℕ) → Refuses Listed (mark_among marks a b)
unfolding mark_among
mark_among_listed [] a b = refuses_one Listed 2 (inl (omega arith, omega arith))
mark_among_listed (mark ∷ marks) a b = refuses_cond Listed (spells mark a b) (given mark) (mark_among marks a b) (refuses_none Listed mark) (mark_among_listed marks a b)

read_mark_listed : (bytes : List ℕ) → Refuses Listed (read_mark bytes)
unfolding read_mark
read_mark_listed [] = refuses_1
read_mark_listed (a ∷ []) = refuses_1
read_mark_listed (a ∷ b ∷ rest) =
    refuses_map Listed (λ mark. (mark, rest)) (mark_among all_marks a b) (mark_among_listed all_marks a b)

read_pair_listed : (make : ℕ → ℕ → Answer Board) (bytes : List ℕ) → ((a b : ℕ) → Refuses Listed (make a b)) → Refuses Listed (read_pair make bytes)
unfolding read_pair
read_pair_listed make [] h = refuses_1
read_pair_listed make (a ∷ []) h = refuses_1
read_pair_listed make (a ∷ b ∷ rest) h = refuses_map Listed (λ board. (board, rest)) (make a b) (h a b)

shaped_listed : (w h rows low high : ℕ) → Refuses Listed (shaped w h rows low high)
unfolding shaped
shaped_listed w h rows low high = refuses_cond Listed (size_ok w h) _ (refused 4) (refuses_none Listed _) (refuses_one Listed 4 (inl (omega arith, omega arith)))

board_body_listed : (mark : Mark) (bytes : List ℕ) → Refuses Listed (board_body mark bytes)
unfolding board_body new_board l_board t_board
board_body_listed RB bytes = read_pair_listed new_board bytes (λ w h. shaped_listed w h 0 0 0)
board_body_listed LB bytes = read_pair_listed l_board bytes (λ n scale. shaped_listed (n * scale) (2 * scale) scale 0 scale)
board_body_listed TB bytes = read_pair_listed t_board bytes (λ n scale. shaped_listed ((2 * n + 1) * scale) (2 * scale) scale (n * scale) ((n + 1) * scale))
board_body_listed HO bytes = refuses_3
board_body_listed TI bytes = refuses_3
board_body_listed OR bytes = refuses_3
board_body_listed EN bytes = refuses_3

read_body_listed : (bytes : List ℕ) → Refuses Listed (read_body bytes)
unfolding read_body read_path
read_body_listed [] = refuses_1
read_body_listed (k ∷ rest) =
    refuses_cond Listed (leb k 32) _ (refused 5)
    (refuses_cond Listed (leb k (length rest)) _ (refused 1)
    (refuses_map Listed (λ path. (path, drop k rest)) (read_path (take k rest)) (refuses_cond Listed (leb (length (take k rest)) 32 && codes_ok (take k rest)) (given (take k rest)) (refused 5) (refuses_none Listed (take k rest)) refuses_5)) refuses_1)
    refuses_5

add_tiles_listed : (plot : Plot) (paths : List Path) → Refuses Listed (add_tiles plot paths)
unfolding add_tiles
add_tiles_listed plot paths = refuses_cond Listed (leb (length (plot.tiles ++ paths)) 64) _ (refused 6) (refuses_none Listed _) (refuses_one Listed 6 (inl (omega arith, omega arith)))

hole_body_listed : (plot : Plot) (bytes : List ℕ) → Refuses Listed (hole_body plot bytes)
unfolding hole_body
hole_body_listed plot bytes =
    refuses_cond Listed (eqb (length plot.tiles) 0) _ (refused 3)
    (refuses_map Listed _ (read_pair (with_hole plot.board) bytes) (read_pair_listed (with_hole plot.board) bytes hole))
    refuses_3
  where
    hole : (row column : ℕ) → Refuses Listed (with_hole plot.board row column)
    hole row column n e = ⊎_elim (λ k. inl (omega arith, omega arith)) (λ k. inr k) (with_hole_refused plot.board row column n e)

tile_body_listed : (tiles : Path → List Path) (plot : Plot) (bytes : List ℕ) → Refuses Listed (tile_body tiles plot bytes)
unfolding tile_body
tile_body_listed tiles plot bytes =
    refuses_bind Listed (read_body bytes) (λ r. map_answer (λ p. more p r.1) (add_tiles plot (tiles r.0))) (read_body_listed bytes)
    (λ r. refuses_map Listed (λ p. more p r.1) (add_tiles plot (tiles r.0)) (add_tiles_listed plot (tiles r.0)))

later_body_listed : (mark : Mark) (plot : Plot) (bytes : List ℕ) → Refuses Listed (later_body mark plot bytes)
unfolding later_body end_body
later_body_listed RB plot bytes = refuses_3
later_body_listed LB plot bytes = refuses_3
later_body_listed TB plot bytes = refuses_3
later_body_listed HO plot bytes = hole_body_listed plot bytes
later_body_listed TI plot bytes = tile_body_listed (λ path. path ∷ []) plot bytes
later_body_listed OR plot bytes = tile_body_listed orbit plot bytes
later_body_listed EN plot [] = refuses_none Listed (ended plot)
later_body_listed EN plot (byte ∷ bytes) = refuses_3

records_listed : (n : ℕ) (plot : Plot) (bytes : List ℕ) → Refuses Listed (records n plot bytes)
unfolding records later_record
records_listed zero plot bytes = refuses_1
records_listed (suc n) plot bytes =
    refuses_onward (records n) (later_record plot bytes) (λ next rest. records_listed n next rest)
    (refuses_bind Listed (read_mark bytes) (λ m. later_body m.0 plot m.1) (read_mark_listed bytes) (λ m. later_body_listed m.0 plot m.1))

pub plot_in_refusal : (file : List ℕ) (n : ℕ) → plot_in file ≡ refused n → ((0 < n) × (n ≤ 6)) ⊎ (n ≡ 15)
unfolding plot_in first_record
plot_in_refusal file =
    refuses_onward (records (length file)) (first_record file) (λ next rest. records_listed (length file) next rest)
    (refuses_bind Listed (read_mark file) (λ m. map_answer (λ r. more (record { board = r.0; tiles = [] }) r.1) (board_body m.0 m.1)) (read_mark_listed file)
    (λ m. refuses_map Listed (λ r. more (record { board = r.0; tiles = [] }) r.1) (board_body m.0 m.1) (board_body_listed m.0 m.1)))

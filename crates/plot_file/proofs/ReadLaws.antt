-- Laws of reading some bytes: what their mark, a board's body, a hole's body and a tile's body are, by the bytes that the code looks at; what a
-- record is, by its place; what the first record and the later ones are, by their marks and bodies; and how the records go on. Rests on `PlotFile` and `RecordLaws`. Assumes nothing.
use Rattle.std.proofs.Math.Path.{◌≡◌, refl, sym, ap}
use Rattle.std.proofs.Common.{◌∙◌, length-append}
use Rattle.std.proofs.lemmas.List.{take_rest}
use mathlib.Core.Logic.{⊎_elim}
use Rattle.std.specs.Prelude.{false, ◌⊎◌, ℕ, zero, suc, ◌+◌, ◌-◌, ◌≤◌, ◌<◌, take, slice_range}
use Rattle.std.proofs.Math.Bool.{true}
use mathlib.Core.List.{List, [], ◌∷◌, ◌++◌}
use native.Mathlib.Omega.{arith}
use borrow.Author.Tests.{eq-eqb, ne_eqb, le-leb, lt-leb}
use Rattle.std.proofs.Math.ListN.{length, get_or, drop, length-drop}
use Rattle.std.specs.Prelude.{◌≢◌, Result, Ok, Err, IsErrAnd}
use Rattle.std.specs.Borrow.{Bor}
use Rattle.refusal.specs.declared.Refusal.{Refusal}
use Rattle.refusal.specs.Refusal.{Answer, refused, given, map_answer, bind_answer, refusal_number, answer_of}
use Rattle.tile.specs.Path.{Path, read_path}
use Rattle.rectangle.specs.Board.{Board}
use Rattle.board.specs.Board.{with_hole}
use Rattle.plot_file.specs.declared.marks.Mark.{Mark}
use Rattle.plot_file.specs.declared.marks.Mark.TheVariants.{RB, LB, TB, HO, TI, OR, EN}
use Rattle.plot_file.specs.declared.plots.Step.{Step as StepTaken}
use Rattle.plot_file.specs.PlotFile.{all_marks, Plot, mark_among, read_mark, read_pair, read_body, more, ended, board_body, first_record, hole_body, add_tiles, tile_body, end_body, later_body, later_record, onward, records}
use Rattle.plot_file.specs.Inner.{marked_answer, is_board, board_for, tiles_for, start_at, Reads, record_at}
use Rattle.plot_file.proofs.RecordLaws.{records_step}

-- ---- the bytes that a record begins with

-- the slice of some bytes from a place on, as the code takes it
abbrev pub behind : List ℕ → ℕ → List ℕ
behind bytes at = take (length bytes - at) (drop at bytes)

one_more : (bytes : List ℕ) → 1 ≤ length bytes → bytes ≡ get_or bytes 0 0 ∷ drop 1 bytes
one_more [] h = absurd (omega arith)
one_more (a ∷ rest) h = refl

two_more : (bytes : List ℕ) → 2 ≤ length bytes → bytes ≡ get_or bytes 0 0 ∷ get_or bytes 1 0 ∷ drop 2 bytes
two_more [] h = absurd (omega arith)
two_more (a ∷ []) h = absurd (omega arith)
two_more (a ∷ b ∷ rest) h = refl

module _ (bytes : List ℕ) where
  -- one byte and the others, two and the others
  one_byte : 1 ≤ length bytes → bytes ≡ get_or bytes 0 0 ∷ behind bytes 1
  one_byte h = one_more bytes h ∙ ap (λ (l : List ℕ). get_or bytes 0 0 ∷ l) (sym (take_rest bytes 1))

  two_bytes : 2 ≤ length bytes → bytes ≡ get_or bytes 0 0 ∷ get_or bytes 1 0 ∷ behind bytes 2
  two_bytes h = two_more bytes h ∙ ap (λ (l : List ℕ). get_or bytes 0 0 ∷ get_or bytes 1 0 ∷ l) (sym (take_rest bytes 2))

read_mark_few : (bytes : List ℕ) → length bytes < 2 → read_mark bytes ≡ refused 1
unfolding read_mark
read_mark_few [] h = refl
read_mark_few (a ∷ []) h = refl
read_mark_few (a ∷ b ∷ rest) h = absurd (omega arith)

pub read_pair_few : (make : ℕ → ℕ → Answer Board) (bytes : List ℕ) → length bytes < 2 → read_pair make bytes ≡ refused 1
unfolding read_pair
read_pair_few make [] h = refl
read_pair_few make (a ∷ []) h = refl
read_pair_few make (a ∷ b ∷ rest) h = absurd (omega arith)

-- ---- marks

module _ (bytes : List ℕ) where
  pub read_mark_cut : length bytes < 2 → refused 1 ≡ read_mark bytes
  read_mark_cut h = sym (read_mark_few bytes h)

  module _ (h : 2 ≤ length bytes) (r : Result Mark Refusal) (e : answer_of r ≡ mark_among all_marks (get_or bytes 0 0) (get_or bytes 1 0)) where
    mark_is : (x : Result Mark Refusal) → r ≡ x → map_answer (λ mark. (mark, behind bytes 2)) (answer_of x) ≡ read_mark bytes
    unfolding read_mark
    mark_is x is =
        ap (λ (x : Result Mark Refusal). map_answer (λ mark. (mark, behind bytes 2)) (answer_of x)) (sym is)
        ∙ ap (map_answer (λ mark. (mark, behind bytes 2))) e
        ∙ sym (ap read_mark (two_bytes bytes h))

    pub read_mark_not : (q : Refusal) → r ≡ Err q → (x : Result (Mark × Bor (List ℕ)) Refusal) → IsErrAnd x (λ e. e ≡ q) → marked_answer x ≡ read_mark bytes
    unfolding map_answer
    read_mark_not q is (Ok m) i = absurd i
    read_mark_not q is (Err f) i = ap (λ (x : Refusal). refused (refusal_number x)) i ∙ mark_is (Err q) is

    pub read_mark_at : (mark : Mark) → r ≡ Ok mark → (rest : Bor (List ℕ)) → rest.now ≡ behind bytes 2 → marked_answer (Ok (mark, rest)) ≡ read_mark bytes
    unfolding map_answer
    read_mark_at mark is rest l = ap (λ (l : List ℕ). given (mark, l)) l ∙ mark_is (Ok mark) is

-- ---- boards

board_body_pair : (mark : Mark) (bytes : List ℕ) → is_board mark ≡ true → board_body mark bytes ≡ read_pair (board_for mark) bytes
unfolding board_body
board_body_pair RB bytes e = refl
board_body_pair LB bytes e = refl
board_body_pair TB bytes e = refl
board_body_pair HO bytes e = let z : ◌≡◌ {A = ℕ} 0 1 = cc in absurd (omega arith)
board_body_pair TI bytes e = let z : ◌≡◌ {A = ℕ} 0 1 = cc in absurd (omega arith)
board_body_pair OR bytes e = let z : ◌≡◌ {A = ℕ} 0 1 = cc in absurd (omega arith)
board_body_pair EN bytes e = let z : ◌≡◌ {A = ℕ} 0 1 = cc in absurd (omega arith)

pub board_body_other : (mark : Mark) (bytes : List ℕ) → is_board mark ≡ false → board_body mark bytes ≡ refused 3
unfolding board_body
board_body_other RB bytes e = let z : ◌≡◌ {A = ℕ} 0 1 = cc in absurd (omega arith)
board_body_other LB bytes e = let z : ◌≡◌ {A = ℕ} 0 1 = cc in absurd (omega arith)
board_body_other TB bytes e = let z : ◌≡◌ {A = ℕ} 0 1 = cc in absurd (omega arith)
board_body_other HO bytes e = refl
board_body_other TI bytes e = refl
board_body_other OR bytes e = refl
board_body_other EN bytes e = refl

module _ (mark : Mark) (bytes : List ℕ) (is : is_board mark ≡ true) where
  pub board_body_cut : length bytes < 2 → board_body mark bytes ≡ refused 1
  board_body_cut h = board_body_pair mark bytes is ∙ read_pair_few (board_for mark) bytes h

  pub board_body_at : 2 ≤ length bytes
      → board_body mark bytes ≡ map_answer (λ board. (board, behind bytes 2)) (board_for mark (get_or bytes 0 0) (get_or bytes 1 0))
  unfolding read_pair
  board_body_at h = board_body_pair mark bytes is ∙ ap (read_pair (board_for mark)) (two_bytes bytes h)

-- ---- holes

pub hole_body_misplaced : (plot : Plot) (bytes : List ℕ) → 0 < length plot.tiles → hole_body plot bytes ≡ refused 3
unfolding hole_body
hole_body_misplaced plot bytes h = rw (ne_eqb (length plot.tiles) 0 (λ e. omega arith))

-- before every tile it is a board's body, of the board that is there
pub hole_body_first : (plot : Plot) (bytes : List ℕ) → plot.tiles ≡ [] → hole_body plot bytes ≡ map_answer start_at (read_pair (with_hole plot.board) bytes)
unfolding hole_body
hole_body_first plot bytes e =
    rw (eq-eqb (length plot.tiles) 0 (ap length e))
    (ap (λ (l : List Path). map_answer (λ r. more (record { board = r.0; tiles = l }) r.1) (read_pair (with_hole plot.board) bytes)) e)

module _ (plot : Plot) (bytes : List ℕ) (none : plot.tiles ≡ []) where
  pub hole_body_cut : length bytes < 2 → hole_body plot bytes ≡ refused 1
  unfolding map_answer
  hole_body_cut h = hole_body_first plot bytes none ∙ ap (map_answer start_at) (read_pair_few (with_hole plot.board) bytes h)

  pub hole_body_at : 2 ≤ length bytes
      → hole_body plot bytes ≡ map_answer start_at (map_answer (λ board. (board, behind bytes 2)) (with_hole plot.board (get_or bytes 0 0) (get_or bytes 1 0)))
  unfolding read_pair
  hole_body_at h =
      hole_body_first plot bytes none ∙ ap (λ (l : List ℕ). map_answer start_at (read_pair (with_hole plot.board) l)) (two_bytes bytes h)

-- ---- tiles

module _ (bytes : List ℕ) where
  pub read_body_none : length bytes < 1 → read_body bytes ≡ refused 1
  unfolding read_body
  read_body_none h = ap read_body (length_none bytes h)
    where
      length_none : (l : List ℕ) → length l < 1 → l ≡ []
      length_none [] h = refl
      length_none (a ∷ l) h = absurd (omega arith)

  -- a length byte is there
  module _ (some : 1 ≤ length bytes) (k : ℕ) (is : k ≡ get_or bytes 0 0) where
    body_is : bytes ≡ k ∷ behind bytes 1
    body_is = one_byte bytes some ∙ ap (λ (n : ℕ). n ∷ behind bytes 1) (sym is)

    pub read_body_long : 32 < k → read_body bytes ≡ refused 5
    unfolding read_body
    read_body_long h = ap read_body body_is ∙ rw (lt-leb k 32 h)

    module _ (few : k ≤ 32) where
      pub read_body_cut : (k < 0) ⊎ (length (behind bytes 1) < k) → read_body bytes ≡ refused 1
      unfolding read_body
      read_body_cut h =
          let l : length (behind bytes 1) < k = ⊎_elim (λ e. absurd (omega arith)) (λ e. e) h in
          ap read_body body_is ∙ rw (le-leb k 32 few, lt-leb k (length (behind bytes 1)) l)

      pub read_body_at : k ≤ length (behind bytes 1) → (codes : List ℕ) → codes ≡ slice_range (behind bytes 1) 0 k
          → read_body bytes ≡ map_answer (λ path. (path, behind (behind bytes 1) k)) (read_path codes)
      unfolding read_body
      read_body_at h codes e =
          let n : k - 0 ≡ k = omega arith in
          ap read_body body_is ∙ rw (le-leb k 32 few, le-leb k (length (behind bytes 1)) h, e, n, take_rest (behind bytes 1) k)

-- ---- records, by their places

module _ (plot : Plot) (file : List ℕ) where
  pub record_first : (at : ℕ) → at ≡ 0 → (r : Result StepTaken Refusal) → Reads (first_record (behind file at)) r → Reads (record_at at plot (drop at file)) r
  record_first at e r read = read ∙ ap first_record (take_rest file at) ∙ rw e refl

  pub record_later : (at : ℕ) → at ≢ 0 → (r : Result StepTaken Refusal) → Reads (later_record plot (behind file at)) r → Reads (record_at at plot (drop at file)) r
  record_later zero h r read = absurd (h refl)
  record_later (suc at) h r read = read ∙ ap (later_record plot) (take_rest file (suc at))

-- ---- records, by their marks and bodies

module _ (bytes : List ℕ) where
  pub first_record_marked : (mark : Mark) (rest : List ℕ) → read_mark bytes ≡ given (mark, rest) → first_record bytes ≡ map_answer start_at (board_body mark rest)
  unfolding first_record bind_answer
  first_record_marked mark rest e = rw e

  pub first_record_refused : (n : ℕ) → read_mark bytes ≡ refused n → first_record bytes ≡ refused n
  unfolding first_record bind_answer
  first_record_refused n e = rw e

  module _ (plot : Plot) where
    pub later_record_marked : (mark : Mark) (rest : List ℕ) → read_mark bytes ≡ given (mark, rest) → later_record plot bytes ≡ later_body mark plot rest
    unfolding later_record bind_answer
    later_record_marked mark rest e = rw e

    pub later_record_refused : (n : ℕ) → read_mark bytes ≡ refused n → later_record plot bytes ≡ refused n
    unfolding later_record bind_answer
    later_record_refused n e = rw e

    pub tile_body_read : (tiles : Path → List Path) (path : Path) (rest : List ℕ) → read_body bytes ≡ given (path, rest)
        → tile_body tiles plot bytes ≡ map_answer (λ p. more p rest) (add_tiles plot (tiles path))
    unfolding tile_body bind_answer
    tile_body_read tiles path rest e = rw e

    pub tile_body_refused : (tiles : Path → List Path) (n : ℕ) → read_body bytes ≡ refused n → tile_body tiles plot bytes ≡ refused n
    unfolding tile_body bind_answer
    tile_body_refused tiles n e = rw e

-- a later record, by its mark
module _ (mark : Mark) (plot : Plot) (bytes : List ℕ) where
  pub later_body_board : (mark ≡ RB) ⊎ (mark ≡ LB) ⊎ (mark ≡ TB) → later_body mark plot bytes ≡ refused 3
  unfolding later_body
  later_body_board e = ⊎_elim at (⊎_elim at at) e
    where
      at : {m : Mark} → mark ≡ m → later_body mark plot bytes ≡ later_body m plot bytes
      at e = ap (λ (m : Mark). later_body m plot bytes) e

  pub later_body_hole : mark ≡ HO → later_body mark plot bytes ≡ hole_body plot bytes
  unfolding later_body
  later_body_hole e = ap (λ (m : Mark). later_body m plot bytes) e

  pub later_body_tile : mark ≡ TI → later_body mark plot bytes ≡ tile_body (tiles_for false) plot bytes
  unfolding later_body
  later_body_tile e = ap (λ (m : Mark). later_body m plot bytes) e

  pub later_body_orbit : mark ≡ OR → later_body mark plot bytes ≡ tile_body (tiles_for true) plot bytes
  unfolding later_body
  later_body_orbit e = ap (λ (m : Mark). later_body m plot bytes) e

  pub later_body_end : mark ≡ EN → later_body mark plot bytes ≡ end_body plot bytes
  unfolding later_body
  later_body_end e = ap (λ (m : Mark). later_body m plot bytes) e

module _ (plot : Plot) where
  pub end_body_end : (bytes : List ℕ) → length bytes ≡ 0 → end_body plot bytes ≡ given (ended plot)
  unfolding end_body
  end_body_end [] h = refl
  end_body_end (byte ∷ bytes) h = absurd (omega arith)

  pub end_body_more : (bytes : List ℕ) → length bytes ≢ 0 → end_body plot bytes ≡ refused 3
  unfolding end_body
  end_body_more [] h = absurd (h refl)
  end_body_more (byte ∷ bytes) h = refl

pub add_tiles_given : (plot : Plot) (paths : List Path) → length plot.tiles + length paths ≤ 64 → add_tiles plot paths ≡ given record { board = plot.board; tiles = plot.tiles ++ paths }
unfolding add_tiles
add_tiles_given plot paths h =
    let k : length (plot.tiles ++ paths) ≤ 64 = omega (arith, length-append plot.tiles paths) in rw (le-leb (length (plot.tiles ++ paths)) 64 k)

pub add_tiles_many : (plot : Plot) (paths : List Path) → 64 < length plot.tiles + length paths → add_tiles plot paths ≡ refused 6
unfolding add_tiles
add_tiles_many plot paths h =
    let k : 64 < length (plot.tiles ++ paths) = omega (arith, length-append plot.tiles paths) in rw (lt-leb (length (plot.tiles ++ paths)) 64 k)

-- ---- the records go on

pub records_on : (plot : Plot) (file : List ℕ) (at : ℕ) → records (length file) plot (drop at file) ≡ onward (records (length file)) (later_record plot (drop at file))
records_on plot file at = records_step (length file) plot (drop at file) (omega (arith, length-drop at file))

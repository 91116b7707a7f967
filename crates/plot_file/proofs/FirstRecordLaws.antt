-- Laws of the first record: it is read exactly where a board record stands, and what its board satisfies. Rests on `RecordLaws` and the laws of boards.
-- Assumes nothing.
use Rattle.std.specs.Prelude.{◌≡◌, Bool, true, false, cond, List, [], ◌∷◌, ◌++◌, ℕ, ◌+◌, ◌*◌, ◌^◌, ◌<◌}
use Rattle.std.proofs.Common.{sym, ap, ◌∙◌, subst}
use Rattle.cells.specs.Set.{set_of}
use Rattle.refusal.specs.Refusal.{refused, given, map_answer, bind_answer}
use Rattle.refusal.specs.RefusalLaws.{refused_given, given_inj, map_given, bind_given}
use Rattle.tile.specs.Path.{Path}
use Rattle.rectangle.specs.Board.{Board, size_ok, valid}
use Rattle.board.specs.Board.{shape_mark, shaped, new_board, l_board, t_board}
use Rattle.board.specs.BoardLaws.{shaped_valid}
use Rattle.cells.specs.SetLaws.{set_of_lt}
use Rattle.plot_file.specs.declared.marks.Mark.{Mark}
use Rattle.plot_file.specs.declared.marks.Mark.TheVariants.{RB, LB, TB, HO, TI, OR, EN}
use Rattle.plot_file.specs.PlotFile.{Plot, letters, read_mark, read_pair, Step, more, board_body, first_record}
use Rattle.plot_file.specs.Records.{BoardRecord, rb, lb, tb, board_bytes, board_held}
use Rattle.plot_file.proofs.RecordLaws.{read_mark_is, read_mark_letters, read_pair_given}

-- ---- the first record

abbrev pub plot_of : Board → List Path → Plot
plot_of board tiles = record { board = board; tiles = tiles }

board_body_given : (mark : Mark) (bytes : List ℕ) (board : Board) (rest : List ℕ) → board_body mark bytes ≡ given (board, rest)
    → (first : BoardRecord) × (letters mark ++ bytes ≡ board_bytes first ++ rest) × (board_held first ≡ given board)
unfolding board_body letters board_bytes board_held
board_body_given RB bytes board rest e =
    let r = read_pair_given new_board bytes board rest e in (rb r.0 r.1, ap (λ (l : List ℕ). letters RB ++ l) r.2, r.3)
board_body_given LB bytes board rest e =
    let r = read_pair_given l_board bytes board rest e in (lb r.0 r.1, ap (λ (l : List ℕ). letters LB ++ l) r.2, r.3)
board_body_given TB bytes board rest e =
    let r = read_pair_given t_board bytes board rest e in (tb r.0 r.1, ap (λ (l : List ℕ). letters TB ++ l) r.2, r.3)
board_body_given HO bytes board rest e = absurd (refused_given 3 (board, rest) e)
board_body_given TI bytes board rest e = absurd (refused_given 3 (board, rest) e)
board_body_given OR bytes board rest e = absurd (refused_given 3 (board, rest) e)
board_body_given EN bytes board rest e = absurd (refused_given 3 (board, rest) e)

-- a first record that was read: a board's
abbrev pub First : List ℕ → Step → Type 0
First file step =
    (first : BoardRecord) × (board : Board) × (rest : List ℕ) × (more (plot_of board []) rest ≡ step) × (file ≡ board_bytes first ++ rest) × (board_held first ≡ given board)

pub first_record_given : (file : List ℕ) (step : Step) → first_record file ≡ given step → First file step
unfolding first_record
first_record_given file step e =
    let r = bind_given (read_mark file) (λ m. map_answer (λ r. more (plot_of r.0 []) r.1) (board_body m.0 m.1)) step e in
    let m = map_given (λ r. more (plot_of r.0 []) r.1) (board_body r.0.0 r.0.1) step r.2 in
    go r.0.0 r.0.1 m.0.0 m.0.1 r.1 m.1 m.2
  where
    go : (mark : Mark) (bytes : List ℕ) (board : Board) (rest : List ℕ) → read_mark file ≡ given (mark, bytes) → board_body mark bytes ≡ given (board, rest) → more (plot_of board []) rest ≡ step → First file step
    go mark bytes board rest p q s =
        let b = board_body_given mark bytes board rest q in (b.0, board, rest, s, read_mark_is file mark bytes p ∙ b.1, b.2)

pub first_record_mark : (mark : Mark) (rest : List ℕ) → first_record (letters mark ++ rest) ≡ map_answer (λ r. more (plot_of r.0 []) r.1) (board_body mark rest)
unfolding first_record bind_answer
first_record_mark mark rest = rw (read_mark_letters mark rest)

-- a board record in front is read
pub first_record_board : (first : BoardRecord) (board : Board) (rest : List ℕ) → board_held first ≡ given board → first_record (board_bytes first ++ rest) ≡ given (more (plot_of board []) rest)
unfolding board_held board_bytes board_body read_pair letters map_answer
first_record_board (rb a b) board rest e = first_record_mark RB (a ∷ b ∷ rest) ∙ rw e
first_record_board (lb a b) board rest e = first_record_mark LB (a ∷ b ∷ rest) ∙ rw e
first_record_board (tb a b) board rest e = first_record_mark TB (a ∷ b ∷ rest) ∙ rw e

-- ---- the board of the first record

-- accepted, with no laid marks and with fixed marks that are a set of 256 cells
abbrev Made : Board → Type 0
Made b = (valid b ≡ true) × (b.laid ≡ 0) × (b.fixed < 2 ^ 256)

shaped_made : (w h rows low high : ℕ) (b : Board) → shaped w h rows low high ≡ given b → Made b
unfolding shaped
shaped_made w h rows low high b e = let r = go (size_ok w h) e in (shaped_valid w h rows low high b e, r.0, r.1)
  where
    made : Board
    made = record { width = w; height = h; fixed = set_of (shape_mark w h rows low high); laid = 0 }

    go : (t : Bool) → cond t (given made) (refused 4) ≡ given b → (b.laid ≡ 0) × (b.fixed < 2 ^ 256)
    go true q =
        let same = given_inj made b q in
        (ap (λ (x : Board). x.laid) (sym same), subst (λ (x : Board). x.fixed < 2 ^ 256) same (set_of_lt (shape_mark w h rows low high)))
    go false q = absurd (refused_given 4 b q)

pub board_held_made : (first : BoardRecord) (b : Board) → board_held first ≡ given b → Made b
unfolding board_held new_board l_board t_board
board_held_made (rb w h) b e = shaped_made w h 0 0 0 b e
board_held_made (lb n scale) b e = shaped_made (n * scale) (2 * scale) scale 0 scale b e
board_held_made (tb n scale) b e = shaped_made ((2 * n + 1) * scale) (2 * scale) scale (n * scale) ((n + 1) * scale) b e

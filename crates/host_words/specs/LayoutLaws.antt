-- Laws of boards' words and of the shapes of a board and tiles, cause by cause. Rests on `Layout` and cells' `WordLaws` and `ArrayLaws`. Assumes nothing.
use Rattle.std.specs.Prelude.{◌≡◌, refl, List, [], ◌∷◌, ◌++◌, ℕ, zero, suc, ◌%◌, ◌≤◌, ◌<◌, get_or}
use Rattle.std.proofs.Common.{sym, ap₂}
use Rattle.std.proofs.Common.{eq-eqb, ne_eqb, le-leb}
use Rattle.std.proofs.lemmas.Bool.{lt-leb}
use Rattle.cells.specs.Set.{Sound}
use Rattle.cells.specs.WordLaws.{words_of_number}
use Rattle.cells.specs.ArrayLaws.{list_of_ext}
use Rattle.board.specs.declared.RectangularBoard.{RectangularBoard}
use Rattle.board.specs.Board.{board_of}
use Rattle.rectangle.specs.Board.{no_board}
use Rattle.cells.specs.Lists.{padded}
use Rattle.host_words.specs.Layout.{board_words, plot_shape}

-- ---- a board's words

-- the words of the board of a struct
abbrev pub struct_words : RectangularBoard → List ℕ
struct_words b =
    b.width ∷ b.height ∷ b.fixed.w0 ∷ b.fixed.w1 ∷ b.fixed.w2 ∷ b.fixed.w3 ∷ b.laid.w0 ∷ b.laid.w1 ∷ b.laid.w2 ∷ b.laid.w3 ∷ []

pub board_words_lem : (b : RectangularBoard) → Sound b.fixed → Sound b.laid → struct_words b ≡ board_words (board_of b)
unfolding board_words
board_words_lem b f l =
    ap₂ (λ (x y : List ℕ). b.width ∷ b.height ∷ x ++ y) (sym (words_of_number b.fixed f)) (sym (words_of_number b.laid l))

-- the words of the 0 by 0 board are zeros
pub board_none : (count : ℕ) → padded [] count ≡ padded (board_words no_board) count
unfolding padded board_words
board_none count = list_of_ext (λ k. get_or [] k 0) (λ k. get_or (board_words no_board) k 0) count (λ k h. ten k)
  where
    ten : (k : ℕ) → 0 ≡ get_or (board_words no_board) k 0
    ten zero = refl
    ten (suc zero) = refl
    ten (suc (suc zero)) = refl
    ten (suc (suc (suc zero))) = refl
    ten (suc (suc (suc (suc zero)))) = refl
    ten (suc (suc (suc (suc (suc zero))))) = refl
    ten (suc (suc (suc (suc (suc (suc zero)))))) = refl
    ten (suc (suc (suc (suc (suc (suc (suc zero))))))) = refl
    ten (suc (suc (suc (suc (suc (suc (suc (suc zero)))))))) = refl
    ten (suc (suc (suc (suc (suc (suc (suc (suc (suc zero))))))))) = refl
    ten (suc (suc (suc (suc (suc (suc (suc (suc (suc (suc k)))))))))) = refl

-- ---- the shapes of a board and tiles

module _ (needed marks tiles answer : ℕ) where
  pub plot_marks : (marks ≡ 8 → ⊥) → 4 ≡ plot_shape needed marks tiles answer
  unfolding plot_shape
  plot_marks n = rw (ne_eqb marks 8 n)

  pub plot_tiles : marks ≡ 8 → (tiles % 33 ≡ 0 → ⊥) → 5 ≡ plot_shape needed marks tiles answer
  unfolding plot_shape
  plot_tiles e n = rw (eq-eqb marks 8 e, ne_eqb (tiles % 33) 0 n)

  pub plot_answer : marks ≡ 8 → tiles % 33 ≡ 0 → answer < needed → 8 ≡ plot_shape needed marks tiles answer
  unfolding plot_shape
  plot_answer e f l = rw (eq-eqb marks 8 e, eq-eqb (tiles % 33) 0 f, lt-leb needed answer l)

  pub plot_right : marks ≡ 8 → tiles % 33 ≡ 0 → needed ≤ answer → 0 ≡ plot_shape needed marks tiles answer
  unfolding plot_shape
  plot_right e f l = rw (eq-eqb marks 8 e, eq-eqb (tiles % 33) 0 f, le-leb needed answer l)

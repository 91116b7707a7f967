-- The definitions compute: the sizes that 01's section Boards names, line by line, the holes of 02's request 2, and which structs are accepted. Assumes nothing.
use Rattle.std.specs.Prelude.{◌≡◌, refl, Ok, Err, Bool, true, List, [], ◌∷◌, ◌++◌, map, ℕ, ◌+◌, ◌-◌, ◌*◌, ◌/◌, ◌^◌, pos, replicate}
use Rattle.cells.specs.declared.Cells.{Cells}
use Rattle.cells.specs.Set.{number}
use Rattle.refusal.specs.Refusal.{Answer, refused, given, map_answer, bind_answer, answer_of}
use Rattle.direction.specs.Direction.{at}
use Rattle.refusal.specs.declared.Refusal.TheVariants as R
use Rattle.rectangle.specs.Board.{Board, no_board}
use Rattle.board.specs.Board.{board_of, of_marks, new_board, l_board, t_board, fix_at, with_hole, read_board, MakesBoard}

-- ---- sizes: width, height and fixed marks

abbrev Shape : Type 0
Shape = Answer (ℕ × ℕ × ℕ)

shapes : List (Answer Board) → List Shape
shapes = map (map_answer (λ b. (b.width, b.height, b.fixed)))

-- "RB width 16 passes, 17 is 4; RB 0,0 passes, 0,5 is 4"
rb_sizes : shapes (new_board 16 16 ∷ new_board 17 16 ∷ new_board 0 0 ∷ new_board 0 5 ∷ []) ≡ given (16, 16, 0) ∷ refused 4 ∷ given (0, 0, 0) ∷ refused 4 ∷ []
unfolding shapes map_answer new_board
rb_sizes = refl

-- a new board is as wide and as high as is told, and has no marks of either kind
no_marks_lem : new_board 3 2 ≡ given (record { width = 3; height = 2; fixed = 0; laid = 0 })
unfolding new_board
no_marks_lem = refl

-- "LB n 16 scale 1 passes, n 17 is 4; n 0 scale 1 is 4. LB n 2 scale 8 is 16 by 16": its rows 0 to 7 are marked from column 8 on. A
-- width of 2 × 128 does not wrap
lb_sizes : shapes (l_board 16 1 ∷ l_board 17 1 ∷ l_board 0 1 ∷ l_board 2 8 ∷ l_board 2 128 ∷ []) ≡ given (16, 2, 2 ^ 16 - 2) ∷ refused 4 ∷ refused 4 ∷ given (16, 16, (2 ^ 16 - 2 ^ 8) * ((2 ^ 128 - 1) / (2 ^ 16 - 1))) ∷ refused 4 ∷ []
unfolding shapes map_answer l_board
lb_sizes = refl

-- "TB n 7 scale 1 passes, n 8 is 4; n 0 scale 1 is 1 by 2"
tb_sizes : shapes (t_board 7 1 ∷ t_board 8 1 ∷ t_board 0 1 ∷ t_board 128 1 ∷ []) ≡ given (15, 2, 2 ^ 15 - 1 - 2 ^ 7) ∷ refused 4 ∷ given (1, 2, 0) ∷ refused 4 ∷ []
unfolding shapes map_answer t_board
tb_sizes = refl

-- TB n 1 scale 2 is 6 by 4: rows 0 and 1 are marked below column 2 and from column 4 on; LB n 3 scale 2 is 6 by 4: those rows from column 2 on
wide_marks : shapes (t_board 1 2 ∷ l_board 3 2 ∷ []) ≡ given (6, 4, 51 * (2 ^ 16 + 1)) ∷ given (6, 4, 60 * (2 ^ 16 + 1)) ∷ []
unfolding shapes map_answer t_board l_board
wide_marks = refl

-- "Scale 0 is 0 by 0"
scale_0 : shapes (l_board 3 0 ∷ t_board 3 0 ∷ l_board 0 0 ∷ t_board 300 0 ∷ []) ≡ given (0, 0, 0) ∷ given (0, 0, 0) ∷ given (0, 0, 0) ∷ given (0, 0, 0) ∷ []
unfolding shapes map_answer l_board t_board
scale_0 = refl

-- ---- holes

-- 3 by 2 with one mark of either kind
abbrev three_by_two : Board
three_by_two = record { width = 3; height = 2; fixed = 1; laid = 2 }

-- "mark that cell as fixed": row 1, column 2 is bit 18, and is fixed and not laid
hole_fixed : (with_hole three_by_two 1 2 ≡ given (record { width = 3; height = 2; fixed = 1 + 2 ^ 18; laid = 2 })) × (fix_at three_by_two (at (pos 1) (pos 2)) ≡ record { width = 3; height = 2; fixed = 1 + 2 ^ 18; laid = 2 })
unfolding with_hole
hole_fixed = (refl, refl)

-- the first free cell, and the last cell of a board
corners : (with_hole three_by_two 0 2 ≡ given (record { width = 3; height = 2; fixed = 5; laid = 2 })) × (with_hole (record { width = 16; height = 16; fixed = 0; laid = 0 }) 15 15 ≡ given (record { width = 16; height = 16; fixed = 2 ^ 255; laid = 0 }))
unfolding with_hole
corners = (refl, refl)

-- "15 when a cell is outside the board or marked already": below it, beside it, a fixed cell, a laid one, numbers far too large, a cell of a board with none. Row 2, column 1 is outside though row 1, column 2 is not
bad_holes : map (λ (p : ℕ × ℕ). with_hole three_by_two p.0 p.1) ((2, 0) ∷ (0, 3) ∷ (2, 1) ∷ (0, 0) ∷ (0, 1) ∷ (0, 16) ∷ (16, 0) ∷ (0, 256) ∷ (256, 0) ∷ []) ++ with_hole no_board 0 0 ∷ []
    ≡ replicate 10 (refused 15)
unfolding with_hole
bad_holes = refl

-- one cell twice
hole_twice : bind_answer (with_hole three_by_two 1 1) (λ b. with_hole b 1 1) ≡ refused 15
unfolding with_hole bind_answer
hole_twice = refl

-- a board that is not accepted is 4, also where the cell is bad
hole_nowhere : (with_hole (record { width = 17; height = 2; fixed = 0; laid = 0 }) 0 0 ≡ refused 4) × (with_hole (record { width = 2; height = 2; fixed = 1; laid = 1 }) 5 5 ≡ refused 4)
unfolding with_hole
hole_nowhere = (refl, refl)

-- ---- which boards are accepted

abbrev word : ℕ → Cells
word w = record { w0 = w; w1 = 0; w2 = 0; w3 = 0 }

-- the struct as it stands: its size, the four words of each kind of mark
as_it_stands : board_of (of_marks 3 2 (record { w0 = 1; w1 = 2; w2 = 3; w3 = 4 }) (word 5)) ≡ record { width = 3; height = 2; fixed = 1 + 2 * 2 ^ 64 + 3 * 2 ^ 128 + 4 * 2 ^ 192; laid = 5 }
unfolding number
as_it_stands = refl

-- 2 by 2 with no marks is accepted; refusal 4 for "a mark outside the rectangle"
accepted : (read_board (of_marks 2 2 (word 0) (word 0)) ≡ given (record { width = 2; height = 2; fixed = 0; laid = 0 })) × (read_board (of_marks 2 2 (word 0) (word 4)) ≡ refused 4)
unfolding read_board number
accepted = (refl, refl)

-- ---- the answers of the code

-- a board that is made
made : MakesBoard (new_board 3 2) (Ok (of_marks 3 2 (word 0) (word 0)))
unfolding new_board map_answer number
made = refl

-- a refusal
made_refused : MakesBoard (new_board 17 2) (Err R.BadBoard)
unfolding new_board map_answer
made_refused = refl

-- a number or a test, or the refusal's number
answers : (map (answer_of {A = ℕ}) (Ok 3 ∷ Err R.BadBoard ∷ []) ≡ given 3 ∷ refused 4 ∷ []) × (map (answer_of {A = Bool}) (Ok true ∷ Err R.BadBoard ∷ []) ≡ given true ∷ refused 4 ∷ [])
answers = (refl, refl)

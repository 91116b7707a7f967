-- Definitions: positions and offsets in the plane, rows growing downward; and directions by their codes. 01: "Codes 0 to 7: Up, Down, Left, Right, UpLeft,
-- UpRight, DownRight, DownLeft"; any other code is refused (5). Each table has its entries in the order of the codes; that the tables say what their names
-- say is `DirectionLaws`. Assumes nothing.
use Rattle.std.specs.Prelude.{◌≡◌, Err, Ok, Result, Bool, false, ◌&&◌, cond, eqb, ltb, ℤ, pos, negsuc, ◌+ℤ◌, List, [], ◌∷◌, ℕ, get_or}
use Rattle.refusal.specs.declared.Refusal.{Refusal}
use Rattle.direction.specs.declared.Axis.{Axis}
use Rattle.direction.specs.declared.Axis.TheVariants as A
use Rattle.direction.specs.declared.Direction.{Direction}
use Rattle.direction.specs.declared.Direction.TheVariants as D
use Rattle.refusal.specs.Refusal.{Answer, refused, given, refusal_number, answer_of, map_answer}

-- a place in the plane, or an offset
pub record Position : Type 0 where
  pub row : ℤ
  pub col : ℤ

-- by its row and its column
abbrev pub at : ℤ → ℤ → Position
at r c = record { row = r; col = c }

-- where a path starts
abbrev pub origin : Position
origin = at (pos 0) (pos 0)

-- the position p moved by the offset d
abbrev pub shift : Position → Position → Position
shift p d = at (p.row +ℤ d.row) (p.col +ℤ d.col)

-- whether two whole numbers are equal
unfoldable pub same_int : ℤ → ℤ → Bool
same_int (pos m) (pos n) = eqb m n
same_int (pos m) (negsuc n) = false
same_int (negsuc m) (pos n) = false
same_int (negsuc m) (negsuc n) = eqb m n

-- whether two positions are equal
unfoldable pub same_position : Position → Position → Bool
unfolding same_int
same_position p q = same_int p.row q.row && same_int p.col q.col

-- the row step and the column step of each code, minus one, nought or one: Up, Down, Left, Right, UpLeft, UpRight, DownRight, DownLeft, rows growing downward
abbrev pub steps : List Position
steps =
    at (negsuc 0) (pos 0) ∷ at (pos 1) (pos 0) ∷ at (pos 0) (negsuc 0) ∷ at (pos 0) (pos 1) ∷ at (negsuc 0) (negsuc 0) ∷ at (negsuc 0) (pos 1) ∷ at (pos 1) (pos 1) ∷ at (pos 1) (negsuc 0) ∷ []

-- the step of a code, no move for a code that is no direction
unfoldable pub step : ℕ → Position
step code = get_or steps code origin

-- of each code that of the opposite direction
abbrev pub opposites : List ℕ
opposites = 1 ∷ 0 ∷ 3 ∷ 2 ∷ 6 ∷ 7 ∷ 4 ∷ 5 ∷ []

-- that of the direction a quarter turn clockwise
abbrev pub rotations : List ℕ
rotations = 3 ∷ 2 ∷ 0 ∷ 1 ∷ 5 ∷ 6 ∷ 7 ∷ 4 ∷ []

-- and that of its reflection about an axis
abbrev pub reflections : Axis → List ℕ
reflections A.Vertical = 0 ∷ 1 ∷ 3 ∷ 2 ∷ 5 ∷ 4 ∷ 7 ∷ 6 ∷ []
reflections A.Horizontal = 1 ∷ 0 ∷ 2 ∷ 3 ∷ 7 ∷ 6 ∷ 5 ∷ 4 ∷ []

-- the entry of a code in each table, the code itself where it is no direction
unfoldable pub opposite : ℕ → ℕ
opposite code = get_or opposites code code

unfoldable pub rotate : ℕ → ℕ
rotate code = get_or rotations code code

unfoldable pub reflect : Axis → ℕ → ℕ
reflect axis code = get_or (reflections axis) code code

-- the answer a for a code 0 to 7, the rest refused
unfoldable pub on_code : {A : Type 0} → ℕ → A → Answer A
on_code code a = cond (ltb code 8) (given a) (refused 5)

-- ---- the answers of the code

-- what `step` answers
abbrev pub offset_answer : Result (ℤ × ℤ) Refusal → Answer Position
offset_answer (Ok (down, right)) = given (at down right)
offset_answer (Err r) = refused (refusal_number r)

-- the code of each direction
abbrev pub code_of : Direction → ℕ
code_of D.Up = 0
code_of D.Down = 1
code_of D.Left = 2
code_of D.Right = 3
code_of D.UpLeft = 4
code_of D.UpRight = 5
code_of D.DownRight = 6
code_of D.DownLeft = 7

-- what is made of a code: the direction that has it, the rest refused
abbrev pub Decodes : ℕ → Result Direction Refusal → Type 0
Decodes code r = map_answer code_of (answer_of r) ≡ on_code code code

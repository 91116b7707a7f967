-- Definitions: a set of cells is one number, cell c being in the set n if bit c of n is 1; and the four words that hold it. 01: "Cell (row, column) is bit
-- 16 × row + column, counted from the lowest bit of the first of four 64-bit words", so a set is a number below 2 ^ 256. Disjoint sets are joined by `+`
-- (`bit_add`), and a set within another is taken from it by `-` (`bit_sub`); `value` reads words and `words_of` writes them, each the other's inverse
-- (`value_words_of`, `words_of_value`). Every definition computes on numerals. Assumes nothing.
use Rattle.std.specs.Prelude.{Bool, cond, ℕ, zero, suc, ◌+◌, ◌-◌, ◌*◌, ◌/◌, ◌%◌, ◌^◌, max, ◌<◌, eqb, ltb, List, [], ◌∷◌}
use Rattle.cells.specs.declared.Cells.{Cells}

-- bit c of the number n, counted from the lowest
unfoldable pub bit : ℕ → ℕ → ℕ
bit n c = n / 2 ^ c % 2

-- whether the cell c is in the set n
unfoldable pub has_cell : ℕ → ℕ → Bool
unfolding bit
has_cell n c = eqb (bit n c) 1

-- the number whose bits below k are those of f, where f gives 0 and 1
unfoldable pub from_bits : ℕ → (ℕ → ℕ) → ℕ
from_bits zero f = 0
from_bits (suc k) f = from_bits k f + f k * 2 ^ k

-- the set of the cells of which a test holds
unfoldable pub set_of : (ℕ → Bool) → ℕ
unfolding from_bits
set_of test = from_bits 256 (λ cell. cond (test cell) 1 0)

-- the set n with the cell c; a number past 255 is no cell and adds nothing
unfoldable pub with_cell : ℕ → ℕ → ℕ
unfolding bit
with_cell n c = cond (ltb c 256) (n + (1 - bit n c) * 2 ^ c) n

-- the cells that are in one of two sets
unfoldable pub union_of : ℕ → ℕ → ℕ
unfolding bit from_bits
union_of n m = from_bits 256 (λ c. max (bit n c) (bit m c))

-- how many of the cells below k are in the set n
unfoldable pub size_below : ℕ → ℕ → ℕ
unfolding bit
size_below zero n = 0
size_below (suc k) n = size_below k n + bit n k

-- how many cells the set n has
unfoldable pub size : ℕ → ℕ
unfolding size_below
size n = size_below 256 n

-- the number that a list of words holds
unfoldable pub value : List ℕ → ℕ
value [] = 0
value (w ∷ ws) = w + 2 ^ 64 * value ws

-- the first k words of a number
unfoldable pub words_below : ℕ → ℕ → List ℕ
words_below zero n = []
words_below (suc k) n = n % 2 ^ 64 ∷ words_below k (n / 2 ^ 64)

-- the four words of a number
unfoldable pub words_of : ℕ → List ℕ
unfolding words_below
words_of n = words_below 4 n

-- the words of a set
abbrev pub words : Cells → List ℕ
words s = s.w0 ∷ s.w1 ∷ s.w2 ∷ s.w3 ∷ []

-- the number that the words of a set hold
unfoldable pub number : Cells → ℕ
unfolding value
number s = value (words s)

-- what holds of every set that the code has: each word has 64 bits
pub record Sound (s : Cells) : Type 0 where
  pub s0 : s.w0 < 2 ^ 64
  pub s1 : s.w1 < 2 ^ 64
  pub s2 : s.w2 < 2 ^ 64
  pub s3 : s.w3 < 2 ^ 64

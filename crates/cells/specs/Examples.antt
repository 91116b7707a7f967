-- Examples of the definitions, by computation.
use Rattle.std.specs.Prelude.{◌≡◌, refl, true, false, [], ◌∷◌, ◌+◌, ◌*◌, ◌^◌, eqb, leb, ltb}
use Rattle.std.specs.Prelude.{None, Some}
use Rattle.cells.specs.Set.{has_cell, set_of, with_cell, union_of, size, value, words_of, number}
use Rattle.cells.specs.Parts.{shares_cell, find_set, with_set, cleared_from}
use Rattle.cells.specs.Lists.{all_below, any, holds, firsts, set_at, words_for}
use Rattle.cells.specs.ListLaws.{sets_in}

-- the cell in row 1, column 1 is number 17; a cell that is there is not added again; 256 is no cell
seventeen : with_cell 5 17 ≡ 131077
unfolding with_cell
seventeen = refl

again : with_cell 131077 17 ≡ 131077
unfolding with_cell
again = refl

no_cell : with_cell 5 256 ≡ 5
unfolding with_cell
no_cell = refl

has : has_cell 131077 17 ≡ true
unfolding has_cell
has = refl

has_not : has_cell 131077 16 ≡ false
unfolding has_cell
has_not = refl

-- {0, 2} and {1, 2}
union : union_of 5 6 ≡ 7
unfolding union_of
union = refl

shared : shares_cell 5 6 ≡ true
unfolding shares_cell
shared = refl

not_shared : shares_cell 5 2 ≡ false
unfolding shares_cell
not_shared = refl

-- the last cell, and two more
three : size (2 ^ 255 + 5) ≡ 3
unfolding size
three = refl

-- 256 cells: 255 is the last, and 256 is none
last_cell : (set_of (λ c. leb 254 c) ≡ 2 ^ 254 + 2 ^ 255) × (with_cell 0 255 ≡ 2 ^ 255) × (union_of (2 ^ 255) (2 ^ 256) ≡ 2 ^ 255) × (size (2 ^ 256 + 1) ≡ 1)
unfolding set_of with_cell union_of size
last_cell = (refl, refl, refl, refl)

-- 64 bits a word
word_bits : (words_of (2 ^ 63 + 2 ^ 191) ≡ 2 ^ 63 ∷ 0 ∷ 2 ^ 63 ∷ 0 ∷ []) × (number (record { w0 = 1; w1 = 2; w2 = 3; w3 = 4 }) ≡ 1 + 2 * 2 ^ 64 + 3 * 2 ^ 128 + 4 * 2 ^ 192)
unfolding words_of number
word_bits = (refl, refl)

-- the lowest word stands first
four : words_of (2 ^ 64 + 3) ≡ 3 ∷ 1 ∷ 0 ∷ 0 ∷ []
unfolding words_of
four = refl

back : value (3 ∷ 1 ∷ 0 ∷ 0 ∷ []) ≡ 2 ^ 64 + 3
unfolding value
back = refl

first_appearances : firsts eqb (3 ∷ 1 ∷ 3 ∷ 2 ∷ 1 ∷ []) ≡ 3 ∷ 1 ∷ 2 ∷ []
unfolding firsts
first_appearances = refl

-- of every number below n, none included; of some element; an element by a test that tells which is which
tests : all_below (λ i. ltb i 3) 3 ∷ all_below (λ i. ltb i 3) 4 ∷ all_below (λ i. ltb 0 i) 3 ∷ all_below (λ i. false) 0 ∷ any (ltb 2) (1 ∷ 3 ∷ 2 ∷ []) ∷ any (ltb 3) (1 ∷ 3 ∷ []) ∷ holds ltb (2 ∷ []) 3 ∷ holds ltb (3 ∷ []) 2 ∷ []
    ≡ true ∷ false ∷ false ∷ true ∷ true ∷ false ∷ true ∷ false ∷ []
unfolding all_below any holds
tests = refl

-- ---- lists of sets in words: six words hold one set, and two words are left over

lists_read : (set_at (5 ∷ 0 ∷ 0 ∷ 1 ∷ 7 ∷ 7 ∷ []) 0 ≡ 5 + 2 ^ 192) × (set_at (5 ∷ 0 ∷ 0 ∷ 1 ∷ 7 ∷ 7 ∷ []) 1 ≡ 0) × (sets_in (5 ∷ 0 ∷ 0 ∷ 1 ∷ 7 ∷ 7 ∷ []) 3 ≡ (5 + 2 ^ 192) ∷ [])
unfolding sets_in
lists_read = (refl, refl, refl)

-- four words a set, the lowest first
second_set : set_at (1 ∷ 2 ∷ 3 ∷ 4 ∷ 5 ∷ 6 ∷ 7 ∷ 8 ∷ []) 1 ≡ 5 + 6 * 2 ^ 64 + 7 * 2 ^ 128 + 8 * 2 ^ 192
unfolding set_at
second_set = refl

lists_written : (with_set (9 ∷ 9 ∷ 9 ∷ 9 ∷ 9 ∷ []) 0 3 ≡ 3 ∷ 0 ∷ 0 ∷ 0 ∷ 9 ∷ []) × (with_set (9 ∷ 9 ∷ 9 ∷ 9 ∷ 9 ∷ []) 1 3 ≡ 9 ∷ 9 ∷ 9 ∷ 9 ∷ 9 ∷ []) × (cleared_from 1 (9 ∷ 9 ∷ 9 ∷ []) ≡ 9 ∷ 0 ∷ 0 ∷ [])
unfolding with_set cleared_from
lists_written = (refl, refl, refl)

lists_stored : words_for (3 ∷ []) 5 ≡ 3 ∷ 0 ∷ 0 ∷ 0 ∷ 0 ∷ []
unfolding words_for
lists_stored = refl

-- the sets 3, 5, 3: the first equal one; from 1 on; up to 2; and as many as are lent
found : (find_set (3 ∷ 0 ∷ 0 ∷ 0 ∷ 5 ∷ 0 ∷ 0 ∷ 0 ∷ 3 ∷ 0 ∷ 0 ∷ 0 ∷ []) 0 3 3 ≡ Some 0)
    × (find_set (3 ∷ 0 ∷ 0 ∷ 0 ∷ 5 ∷ 0 ∷ 0 ∷ 0 ∷ 3 ∷ 0 ∷ 0 ∷ 0 ∷ []) 1 9 3 ≡ Some 2)
    × (find_set (3 ∷ 0 ∷ 0 ∷ 0 ∷ 5 ∷ 0 ∷ 0 ∷ 0 ∷ 3 ∷ 0 ∷ 0 ∷ 0 ∷ []) 1 2 3 ≡ None)
    × (find_set (3 ∷ 0 ∷ 0 ∷ 0 ∷ 5 ∷ 0 ∷ 0 ∷ 0 ∷ 3 ∷ 0 ∷ 0 ∷ 0 ∷ []) 0 9 0 ≡ None)
unfolding find_set
found = (refl, refl, refl, refl)

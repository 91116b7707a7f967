-- Definitions: lists given by their elements, and with zeros behind; the bytes of a text; first appearances kept; lists of sets in lent words, four words a set (01: "A board in
-- an output, layer or node is four words"). 01 asks for first appearances of an orbit's tiles, of a board's pieces ("the first of equal pieces is kept") and
-- of the boards of a layer ("distinct children"). Assumes nothing.
use Rattle.std.specs.Prelude.{Bool, true, ◌&&◌, false, ◌||◌, ℕ, zero, suc, ◌+◌, ◌*◌, ◌/◌, get_or, length, ltb}
use Rattle.std.proofs.Math.Bool.{cond}
use mathlib.Core.List.{List, [], ◌∷◌, ◌++◌, flat_map}
use Prim.Native.Char.{code}
use Prim.Native.String.{String, [] as []ˢ, ◌∷◌ as ◌∷ˢ◌}
use Rattle.cells.specs.Set.{value, words_of}

-- what f has at the places i to i + n - 1
unfoldable pub list_from : {A : Type 0} → (ℕ → A) → ℕ → ℕ → List A
list_from f i zero = []
list_from f i (suc n) = f i ∷ list_from f (suc i) n

-- what f has at the places 0 to n - 1
unfoldable pub list_of : {A : Type 0} → (ℕ → A) → ℕ → List A
unfolding list_from
list_of f n = list_from f 0 n

-- so many words that hold these numbers, zeros behind; numbers that they do not hold are left out
unfoldable pub padded : List ℕ → ℕ → List ℕ
unfolding list_of
padded ns count = list_of (λ k. get_or ns k 0) count

-- the bytes of a text of ASCII characters
unfoldable pub ascii : String → List ℕ
ascii []ˢ = []
ascii (c ∷ˢ text) = code c ∷ ascii text

-- p holds of every number below n
unfoldable pub all_below : (ℕ → Bool) → ℕ → Bool
all_below p zero = true
all_below p (suc n) = all_below p n && p n

-- whether p holds of some element
unfoldable pub any : {A : Type 0} → (A → Bool) → List A → Bool
any p [] = false
any p (x ∷ xs) = p x || any p xs

module _ {A : Type 0} (same : A → A → Bool) where
  -- whether x is among the elements of a list
  unfoldable pub holds : List A → A → Bool
  unfolding any
  holds xs x = any (λ y. same y x) xs

  -- the list with x behind it, unless it holds x
  unfoldable pub add_new : List A → A → List A
  unfolding holds
  add_new xs x = cond (holds xs x) xs (xs ++ x ∷ [])

  -- the list xs with those elements of a second list behind it that it does not hold, each where it first appears
  unfoldable pub add_firsts : List A → List A → List A
  unfolding add_new
  add_firsts xs [] = xs
  add_firsts xs (y ∷ ys) = add_firsts (add_new xs y) ys

  -- the list with first appearances kept
  unfoldable pub firsts : List A → List A
  unfolding add_firsts
  firsts xs = add_firsts [] xs

-- set i of the words, where its four words are all lent; 0 elsewhere
unfoldable pub set_at : List ℕ → ℕ → ℕ
unfolding value
set_at ws i =
    cond (ltb i (length ws / 4)) (value (get_or ws (4 * i) 0 ∷ get_or ws (4 * i + 1) 0 ∷ get_or ws (4 * i + 2) 0 ∷ get_or ws (4 * i + 3) 0 ∷ [])) 0

-- so many words that hold a list of sets, zeros behind the last
unfoldable pub words_for : List ℕ → ℕ → List ℕ
unfolding flat_map words_of padded
words_for ns count = padded (flat_map words_of ns) count

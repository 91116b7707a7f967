-- Definitions: what functions answer that serve the crates above: the search in lists of sets, stores in lent words, cells that two sets share. No contract
-- of a call outside this crate cites them. Assumes nothing.
use Rattle.std.specs.Prelude.{Bool, not, cond, ℕ, zero, suc, ◌-◌, ◌*◌, ◌/◌, min, eqb, ltb, List, get_or, length}
use Rattle.cells.specs.Set.{bit, from_bits, words_of}
use Rattle.std.specs.Prelude.{Option, None, Some}
use Rattle.std.proofs.lemmas.List.Edits.{sets}
use Rattle.cells.specs.Lists.{list_of, set_at}

-- the first of count places from i on of which a test holds
unfoldable pub first_from : (ℕ → Bool) → ℕ → ℕ → Option ℕ
first_from test i zero = None
first_from test i (suc count) = cond (test i) (Some i) (first_from test (suc i) count)

-- the first set equal to n among the sets from..to, or among as many of them as are lent (01: "lent slices searched for an equal board")
unfoldable pub find_set : List ℕ → ℕ → ℕ → ℕ → Option ℕ
unfolding first_from set_at
find_set ws from to n = first_from (λ i. eqb (set_at ws i) n) from (min to (length ws / 4) - from)

-- the words with n for set i; as they were where its four words are not all lent
unfoldable pub with_set : List ℕ → ℕ → ℕ → List ℕ
unfolding words_of
with_set ws i n = cond (ltb i (length ws / 4)) (sets ws (4 * i) (words_of n)) ws

-- the words with zeros from word k on
unfoldable pub cleared_from : ℕ → List ℕ → List ℕ
unfolding list_of
cleared_from k ws = list_of (λ i. cond (ltb i k) (get_or ws i 0) 0) (length ws)

-- the cells that are in both of two sets
unfoldable pub intersection_of : ℕ → ℕ → ℕ
unfolding bit from_bits
intersection_of n m = from_bits 256 (λ c. min (bit n c) (bit m c))

-- whether some cell is in both
unfoldable pub shares_cell : ℕ → ℕ → Bool
unfolding intersection_of
shares_cell n m = not (eqb (intersection_of n m) 0)

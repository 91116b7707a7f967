-- Definitions: the limit of a path count, the number that a count is, and path counts in lent words, one word a count. What stands in quotation marks
-- is 01's, from its sections on the layer count and the graph. No law and no proof of another crate unfolds what is said of words, but one law of
-- report (`counts_lent`, how long its arrays are); definitions do, so that they compute, and examples. Assumes nothing.
use Rattle.std.specs.Prelude.{ℕ, ◌^◌, List, slice_index}
use Rattle.cells.specs.Lists.{padded}
use Rattle.path_count.specs.declared.PathCount.{PathCount}

-- "a path count is 2^64 or more": the least that is too large
abbrev pub count_limit : ℕ
count_limit = 2 ^ 64

-- ---- one count

-- the number that a count is
unfoldable pub count_value : PathCount → ℕ
count_value c = c.word

-- ---- counts in words

-- how many counts so many "count words" hold
unfoldable pub count_room : ℕ → ℕ
count_room words = words

-- "Beside each node stands its path count": count i of the words, 0 where it is not lent
unfoldable pub count_in : List ℕ → ℕ → ℕ
count_in ws i = slice_index ws i

-- so many words that hold a list of counts, one word each, zeros behind
unfoldable pub counts_for : List ℕ → ℕ → List ℕ
unfolding padded
counts_for ns words = padded ns words

-- Definitions that contracts of private functions of other crates and laws cite. Assumes nothing.
use Rattle.std.specs.Prelude.{ℕ, List}
use Rattle.cells.specs.Lists.{list_of}

-- how many words so many counts take
unfoldable pub count_span : ℕ → ℕ
count_span n = n

-- so many words that hold the counts f 0, f 1, ..; a word left over is zero, but with one word a count there is none
unfoldable pub count_words : (ℕ → ℕ) → ℕ → List ℕ
unfolding list_of
count_words f words = list_of f words

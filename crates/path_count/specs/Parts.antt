-- Definitions: what `plus` and `add` answer and leave, which serve the crates above. No contract of a call outside this crate cites them. Assumes nothing.
use Rattle.path_count.specs.declared.PathCount.{PathCount}
use Rattle.std.specs.Prelude.{◌≡◌, ℕ, ◌+◌, Bool, cond, List, nat_le, slice_set, Option, None, Some}
use Rattle.path_count.specs.PathCounts.{count_limit, count_value, count_in}

-- what `plus` answers: the sum, or none where it is too large
unfoldable pub sum_answer : Option PathCount → Option ℕ
unfolding count_value
sum_answer (Some c) = Some (count_value c)
sum_answer None = None

-- the words with n for count i; as they were where it is not lent, since a list has no other element behind its end
unfoldable pub with_count : List ℕ → ℕ → ℕ → List ℕ
with_count ws i n = slice_set ws i n

-- `add`: what k paths more for count i leave in the words, and whether they are refused since the sum would be too large
pub record AddsCount (cs : List ℕ) (i k : ℕ) (cs' : List ℕ) (r : Bool) : Type 0 where
  pub large : r ≡ nat_le count_limit (count_in cs i + k)
  pub words : cs' ≡ cond r cs (with_count cs i (count_in cs i + k))

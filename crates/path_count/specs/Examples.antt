-- Examples of the definitions, by computation.
use Rattle.std.specs.Prelude.{◌≡◌, ◌^◌, [], ◌∷◌, refl, None, Some}
use Rattle.path_count.specs.PathCounts.{count_limit, count_value, count_room, count_in, counts_for}
use Rattle.path_count.specs.Parts.{sum_answer, with_count}
use Rattle.path_count.specs.Inner.{count_words}

limit : count_limit ≡ 18446744073709551616
limit = refl

sums : (count_value (record { word = 7 }) ≡ 7) × (sum_answer (Some (record { word = 7 })) ≡ Some 7) × (sum_answer None ≡ None)
unfolding sum_answer
sums = (refl, refl, refl)

-- three words hold three counts; a count that is not lent is 0 and is not stored
three_counts : (count_room 3 ≡ 3) × (count_in (5 ∷ 6 ∷ 7 ∷ []) 2 ≡ 7) × (count_in (5 ∷ 6 ∷ 7 ∷ []) 3 ≡ 0)
unfolding count_room count_in
three_counts = (refl, refl, refl)

counts_written : (with_count (5 ∷ 6 ∷ 7 ∷ []) 1 9 ≡ 5 ∷ 9 ∷ 7 ∷ []) × (with_count (5 ∷ 6 ∷ 7 ∷ []) 3 9 ≡ 5 ∷ 6 ∷ 7 ∷ [])
unfolding with_count
counts_written = (refl, refl)

counts_held : (count_words (λ i. 2 ^ i) 4 ≡ 1 ∷ 2 ∷ 4 ∷ 8 ∷ []) × (counts_for (5 ∷ 6 ∷ []) 3 ≡ 5 ∷ 6 ∷ 0 ∷ [])
unfolding count_words counts_for
counts_held = (refl, refl)

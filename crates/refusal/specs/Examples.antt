-- The documents' numbers by computation, and the answers of refusals and values. Assumes nothing.
use Rattle.std.specs.Prelude.{Err, Ok}
use Rattle.std.specs.Prelude.{◌≡◌, refl, [], ◌∷◌, map, ℕ, ◌+◌, leb, cond}
use Rattle.refusal.specs.declared.Refusal.TheVariants as R
use Rattle.refusal.specs.Refusal.{Answer, refused, given, map_answer, bind_answer, refusal_of, value_or, refusal_number, verdict_number}

-- 1, the mark is cut or missing; 2, unknown mark; 3, a record in the wrong place; 4, board size or marks; 5, a path over 32 or a code over 7; 6, over 64 tiles;
-- 7, different numbers of cells; 8, no room; 9, a path count of 2^64 or more; 10, no room for edges; 11, a graph that is none; 12, no full node or m not below its count; of 02:
-- 13, a mark that is not TY or a record that is cut short; 14, no record of the id or at the place; 15, a cell that is outside the board or marked already
numbers : map refusal_number (R.Cut ∷ R.UnknownMark ∷ R.Misplaced ∷ R.BadBoard ∷ R.BadTile ∷ R.TooManyTiles ∷ R.UnequalTiles ∷ R.NoRoom ∷ R.CountTooLarge ∷ R.NoRoomForEdges ∷ R.BadGraph ∷ R.NoSuchTiling ∷ R.BrokenRecord ∷ R.NoSuchRecord ∷ R.BadHole ∷ [])
    ≡ 1 ∷ 2 ∷ 3 ∷ 4 ∷ 5 ∷ 6 ∷ 7 ∷ 8 ∷ 9 ∷ 10 ∷ 11 ∷ 12 ∷ 13 ∷ 14 ∷ 15 ∷ []
numbers = refl

-- a verdict's number is 0 for accepted, else the refusal's
verdicts : (verdict_number (Ok tt) ≡ 0) × (verdict_number (Err R.BadGraph) ≡ 11)
verdicts = (refl, refl)

-- the number of an answer, 0 for a value
answers : map (refusal_of {A = ℕ}) (refused 4 ∷ given 7 ∷ []) ≡ 4 ∷ 0 ∷ []
unfolding refusal_of
answers = refl

-- the value of an answer, another for a refusal
values : map (value_or {A = ℕ} 9) (refused 4 ∷ given 7 ∷ []) ≡ 9 ∷ 7 ∷ []
unfolding value_or
values = refl

-- a refusal stays, a value is put through
mapped : map (map_answer (λ n. n + 1)) (refused 4 ∷ given 7 ∷ []) ≡ refused 4 ∷ given 8 ∷ []
unfolding map_answer
mapped = refl

-- a refusal stays, a value is answered to
bound : map (λ (a : Answer ℕ). bind_answer a (λ n. cond (leb n 7) (given (n + 1)) (refused 6))) (refused 4 ∷ given 7 ∷ given 8 ∷ []) ≡ refused 4 ∷ given 8 ∷ refused 6 ∷ []
unfolding bind_answer
bound = refl

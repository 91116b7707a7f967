-- Definitions: the refusals by their numbers, an answer that is a refusal or a value, and what is left in lent words for one. Every call's answer is read by one of these, so that
-- the contracts speak of the documents' numbers and not of the code's names for them. Assumes nothing.
use Rattle.std.specs.Prelude.{Err, Ok, Result, ⊤}
use Rattle.std.specs.Prelude.{◌≡◌, List, [], ℕ, length}
use Rattle.refusal.specs.declared.Refusal.{Refusal}
use Rattle.refusal.specs.declared.Refusal.TheVariants as R

-- the number of each refusal: 1 to 12 are 01's, 13 and 14 those of request 1 of 02, 15 that of request 2
abbrev pub refusal_number : Refusal → ℕ
refusal_number R.Cut = 1
refusal_number R.UnknownMark = 2
refusal_number R.Misplaced = 3
refusal_number R.BadBoard = 4
refusal_number R.BadTile = 5
refusal_number R.TooManyTiles = 6
refusal_number R.UnequalTiles = 7
refusal_number R.NoRoom = 8
refusal_number R.CountTooLarge = 9
refusal_number R.NoRoomForEdges = 10
refusal_number R.BadGraph = 11
refusal_number R.NoSuchTiling = 12
refusal_number R.BrokenRecord = 13
refusal_number R.NoSuchRecord = 14
refusal_number R.BadHole = 15

-- what a call answers: refused, with the refusal's number, or a value
pub data Answer (A : Type 0) : Type 0 where
  refused : ℕ → Answer A
  given : A → Answer A

-- what a call answers, a value or a refusal, by the documents' numbers
abbrev pub answer_of : {A : Type 0} → Result A Refusal → Answer A
answer_of (Ok x) = given x
answer_of (Err r) = refused (refusal_number r)

-- the value put through f
unfoldable pub map_answer : {A B : Type 0} → (A → B) → Answer A → Answer B
map_answer f (refused n) = refused n
map_answer f (given a) = given (f a)

-- what f answers to the value
unfoldable pub bind_answer : {A B : Type 0} → Answer A → (A → Answer B) → Answer B
bind_answer (refused n) f = refused n
bind_answer (given a) f = f a

-- the refusal's number, 0 for none
unfoldable pub refusal_of : {A : Type 0} → Answer A → ℕ
refusal_of (refused n) = n
refusal_of (given a) = 0

-- the value, and d for a refusal
unfoldable pub value_or : {A : Type 0} → A → Answer A → A
value_or d (refused n) = d
value_or d (given a) = a

-- what a test answers by its number, 0 for accepted
abbrev pub verdict_number : Result ⊤ Refusal → ℕ
verdict_number (Ok _) = 0
verdict_number (Err r) = refusal_number r

-- what is answered and left in lent words for an answer that is a list: the number of its elements comes back, and the words hold the list as `stored` says,
-- zeros behind, or zeros after a refusal
pub record Leaves {A : Type 0} (stored : List A → ℕ → List ℕ) (a : Answer (List A)) (number : Answer ℕ) (old new : List ℕ) : Type 0 where
  pub answer : number ≡ map_answer length a
  pub words : new ≡ stored (value_or [] a) (length old)

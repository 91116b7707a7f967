-- A definition that only the contract of a private function cites. Assumes nothing.
use Rattle.std.specs.Prelude.{◌≡◌, List, ℕ, ◌<◌, length, get_or}

-- the words begin with a list of numbers, as far as they reach
abbrev pub StandsIn : List ℕ → List ℕ → Type 0
StandsIn ns ws = (k : ℕ) → k < length ns → k < length ws → get_or ws k 0 ≡ get_or ns k 0

-- Definitions for the contracts of `Layer` and of what is counted from one on: what it holds, and what some additions do to it. They stand apart from
-- `Inner`, since they name the struct. Assumes nothing.
use Rattle.std.specs.Prelude.{Err, None, Ok, Option, Result, Some, Bool, ⊤, ◌≡◌, ℕ}
use mathlib.Core.List.{List}
use Rattle.refusal.specs.declared.Refusal.{Refusal}
use Rattle.covers.specs.Counts.{Entry}
use Rattle.layers.specs.declared.layer.Layer.{Layer}
use Rattle.layers.specs.Inner.{entries_in, HoldsLayer}

-- its boards with their counts
abbrev pub entries_of : Layer → List (Entry ℕ)
entries_of l = entries_in l.boards.now l.counts.now l.len

-- how many boards it has, and whether a count is too large; nothing where its boards pass the room
abbrev pub state_of : Option ⊤ → Layer → Option (ℕ × Bool)
state_of (Some u) l = Some (l.len, l.over)
state_of None l = None

-- the lent words and the room stay the same, whatever is written in the words
abbrev pub SameWords : Layer → Layer → Type 0
SameWords l m = (m.boards.ghost_name ≡ l.boards.ghost_name) × (m.counts.ghost_name ≡ l.counts.ghost_name) × (m.room ≡ l.room)

-- words and state are those of a layer, in the room that l tells
abbrev pub HoldsIn : Layer → Layer → Option ⊤ → List (Entry ℕ) → Type 0
HoldsIn l m r es = HoldsLayer l.room m.boards.now m.counts.now (state_of r m) es

-- what an addition does, whatever the layer was: words and state are those of what is made of it
abbrev pub AddsTo : Layer → Layer → Option ⊤ → (List (Entry ℕ) → List (Entry ℕ)) → Type 0
AddsTo l m r add = (es : List (Entry ℕ)) → HoldsIn l l (Some tt) es → HoldsIn l m r (add es)

-- the boards of a layer, and the free cells that are left to each
abbrev pub grown_to : Result ℕ Refusal → Layer → Result (ℕ × ℕ) Refusal
grown_to (Ok rest) l = Ok (l.len, rest)
grown_to (Err q) l = Err q

-- Definitions for the contracts of private functions: what the lent words hold while a layer grows, and what is answered from a layer on. No contract of a
-- function that can be called from outside cites one. Assumes nothing.
use Rattle.std.specs.Prelude.{Err, None, Ok, Option, Result, Some, Bool, ◌≡◌, false, cond, ℕ, zero, suc, ◌+◌, ◌-◌, ◌≤◌, eqb, leb, length}
use Rattle.refusal.specs.declared.Refusal.{Refusal}
use mathlib.Core.List.{List, [], ◌∷◌, Memᴰ as Mem}
use Rattle.cells.specs.FirstsLaws.{Once}
use Rattle.cells.specs.Lists.{list_of, set_at}
use Rattle.refusal.specs.Refusal.{Answer, refused, given, map_answer, bind_answer, refusal_number}
use Rattle.covers.specs.Setting.{Setting, child_boards, layer_of, layer_count_of}
use Rattle.covers.specs.Counts.{Entry, boards, counts, full_count, shares, gather, layer, layer_count}
use Rattle.covers.specs.Inner.{add_paths}
use Rattle.path_count.specs.PathCounts.{count_in}
use Rattle.expansion.specs.declared.plot.AcceptedPlot.{AcceptedPlot}
use Rattle.expansion.specs.Boards.{setting_of}
use Rattle.layers.specs.LayerCounts.{too_large, judge_layer, judge_layers}

-- ---- a layer in lent words

-- the first n boards of the words with their counts
unfoldable pub entries_in : List ℕ → List ℕ → ℕ → List (Entry ℕ)
unfolding set_at list_of
entries_in bs cs n = list_of (λ i. (set_at bs i, count_in cs i)) n

-- how many boards a layer has, and whether a count is too large; no room where its boards pass it
unfoldable pub layer_state : ℕ → List (Entry ℕ) → Option (ℕ × Bool)
unfolding too_large
layer_state room es = cond (leb (length es) room) (Some (length es, too_large (counts es))) None

-- the words and the state of a layer that has become es: its boards while they have room, its counts while none is too large
pub record HoldsLayer (room : ℕ) (bs cs : List ℕ) (layer : Option (ℕ × Bool)) (es : List (Entry ℕ)) : Type 0 where
  pub state : layer ≡ layer_state room es
  pub boards : length es ≤ room → list_of (set_at bs) (length es) ≡ boards es
  pub counts : length es ≤ room → too_large (counts es) ≡ false → list_of (count_in cs) (length es) ≡ counts es

-- the setting of a start and tiles that have been tested
abbrev pub setting_in : AcceptedPlot → Setting ℕ ℕ
setting_in p = setting_of p.board p.tiles

-- k paths more for each board of a list, in order
unfoldable pub add_each : List ℕ → ℕ → List (Entry ℕ) → List (Entry ℕ)
unfolding add_paths
add_each [] k es = es
add_each (c ∷ cs) k es = add_each cs k (add_paths eqb c k es)

-- what is answered of the layers of a start
unfoldable pub layers_answer : {P : Type 0} → Setting ℕ P → ℕ → ℕ → Answer ℕ
unfolding judge_layers layer layer_count map_answer
layers_answer S s room = map_answer (λ es. layer_count_of S s) (judge_layers (layer_of S s) room (S.free_count s))

-- the layer behind a layer
unfoldable pub next_of : Setting ℕ ℕ → List (Entry ℕ) → List (Entry ℕ)
unfolding gather shares
next_of S es = gather S.same_board (shares (child_boards S) es)

-- what is answered from a layer on, of k more layers
unfoldable pub count_from : Setting ℕ ℕ → ℕ → ℕ → List (Entry ℕ) → Answer ℕ
unfolding full_count judge_layer next_of map_answer bind_answer
count_from S room zero es = given (full_count S.full es)
count_from S room (suc k) es = map_answer (λ n. full_count S.full es + n) (bind_answer (judge_layer room (next_of S es)) (count_from S room k))

-- an answer is right from a layer on whose boards have so many free cells, whatever number of layers is enough
abbrev pub Right : Setting ℕ ℕ → ℕ → ℕ → List (Entry ℕ) → Answer ℕ → Type 0
Right S room left es x = (k : ℕ) → left ≤ k → x ≡ count_from S room k es

-- a layer each of whose boards is accepted and has so many free cells
pub record Ready (S : Setting ℕ ℕ) (left : ℕ) (es : List (Entry ℕ)) : Type 0 where
  pub once : Once (boards es)
  pub ok : (n : ℕ) → Mem n (boards es) → S.Ok n
  pub free : (n : ℕ) → Mem n (boards es) → S.free_count n ≡ left

-- a layer es has grown, by pieces of so many cells in all: the layer in the words is ready, and what is right from it on is right from es on; or the
-- refusal is
unfoldable pub Grows : Setting ℕ ℕ → ℕ → ℕ → ℕ → List (Entry ℕ) → List ℕ → List ℕ → Result (ℕ × ℕ) Refusal → Type 0
unfolding entries_in count_from
Grows S room left laid es bs cs (Ok (m, rest)) =
    (rest ≡ left - laid) × Ready S rest (entries_in bs cs m) × ((x : Answer ℕ) → Right S room rest (entries_in bs cs m) x → Right S room left es x)
Grows S room left laid es bs cs (Err q) = Right S room left es (refused (refusal_number q))

-- Definitions: how many there are; child sequences; layers and their path counts; the graph; the node list with a number; the layer count. What stands in
-- quotation marks is 01's. Boards are of any type: `same` tests two for equality, `children` gives a board's children in order, `full` tells "a full
-- board". Assumes nothing.
use Rattle.std.specs.Prelude.{◌≡◌, Bool, eqb, ltb}
use Rattle.std.proofs.Math.Bool.{cond}
use Rattle.std.specs.Prelude.{Option, None, Some}
use mathlib.Core.List.{List, [], ◌∷◌, ◌++◌, map, flat_map, tail, Memᴰ as Mem}
use Prim.Native.Nat.{ℕ, zero, suc, ◌+◌, ◌-◌, ◌<◌}
use Rattle.cells.specs.Lists.{firsts}

-- ---- how many

module _ {A : Type 0} where
  -- f numbers the things of which `Is` holds by the numbers below n: each number gives one, two numbers never give the same, and every one has its number
  pub record Numbering (Is : A → Type 0) (n : ℕ) (f : ℕ → A) : Type 0 where
    pub each : (m : ℕ) → m < n → Is (f m)
    pub once : (m k : ℕ) → m < n → k < n → f m ≡ f k → m ≡ k
    pub all : (a : A) → Is a → (m : ℕ) × (m < n) × (f m ≡ a)

  -- there are exactly n
  abbrev pub Exactly : ℕ → (A → Type 0) → Type 0
  Exactly n Is = (f : ℕ → A) × Numbering Is n f

-- ---- sequences. `R a b`: there is a step from a to b

module _ {N : Type 0} (R : N → N → Type 0) where
  -- from a, step by step over the elements of a list, to b
  abbrev pub Steps : N → List N → N → Type 0
  Steps a [] b = a ≡ b
  Steps a (x ∷ xs) b = R a x × Steps x xs b

  -- a list that begins with a and ends with b, each element a step from the one before
  abbrev pub Chain : N → N → List N → Type 0
  Chain a b [] = ⊥
  Chain a b (x ∷ xs) = (x ≡ a) × Steps x xs b

-- "child sequences": each board is a child of the one before
abbrev pub ChildSequence : {B : Type 0} → (B → List B) → B → B → List B → Type 0
ChildSequence children = Chain (λ s t. Mem t (children s))

-- ---- layers and the graph

-- a board and its path count
abbrev pub Entry : Type 0 → Type 0
Entry B = B × ℕ

-- the boards of some entries, in order
abbrev pub boards : {B : Type 0} → List (Entry B) → List B
boards es = map (λ e. e.0) es

-- the path counts of some entries, in order
abbrev pub counts : {B : Type 0} → List (Entry B) → List ℕ
counts es = map (λ e. e.1) es

-- the sum of f over a list
unfoldable pub sum_of : {A : Type 0} → (A → ℕ) → List A → ℕ
sum_of f [] = 0
sum_of f (x ∷ xs) = f x + sum_of f xs

-- the children of the boards of a layer, in order, each with its parent's count
unfoldable pub shares : {B : Type 0} → (B → List B) → List (Entry B) → List (Entry B)
unfolding flat_map
shares children es = flat_map (λ e. map (λ c. (c, e.1)) (children e.0)) es

module _ {B : Type 0} (same : B → B → Bool) where
  -- the sum of a board's counts in a list of entries, 0 if it is not there
  unfoldable pub weight : B → List (Entry B) → ℕ
  unfolding sum_of
  weight t es = sum_of (λ e. cond (same e.0 t) e.1 0) es

  -- equal boards joined: first appearances kept, counts added
  unfoldable pub gather : List (Entry B) → List (Entry B)
  unfolding firsts weight
  gather es = map (λ s. (s, weight s es)) (firsts same (boards es))

  -- the number of a node: its place in the list of nodes
  unfoldable pub number_in : List B → B → ℕ
  number_in [] t = 0
  number_in (s ∷ ss) t = cond (same s t) 0 (suc (number_in ss t))

  module _ (children : B → List B) where
    -- "Layer 0 is the board; the next layer is the distinct children of a layer"
    unfoldable pub layer : B → ℕ → List (Entry B)
    unfolding gather shares
    layer s zero = (s, 1) ∷ []
    layer s (suc n) = gather (shares children (layer s n))

    -- the layers 0 to n, one behind the other
    unfoldable pub layers : B → ℕ → List (Entry B)
    unfolding layer
    layers s zero = layer s zero
    layers s (suc n) = layers s n ++ layer s (suc n)

    -- "Edges are (parent, child), in the order found": "parents in number order, children in order"
    unfoldable pub edges_of : List B → List (ℕ × ℕ)
    unfolding flat_map number_in
    edges_of ss = flat_map (λ s. map (λ c. (number_in ss s, number_in ss c)) (children s)) ss

-- ---- the tiling by number. A graph is its edges and the path count of each node

-- the parents "among edges into the node, in stored order"
unfoldable pub parents_of : List (ℕ × ℕ) → ℕ → List ℕ
parents_of [] v = []
parents_of (e ∷ es) v = cond (eqb e.1 v) (e.0 ∷ parents_of es v) (parents_of es v)

-- "the parent whose turn holds m, each turn as long as the parent's path count, earlier turns subtracted", and what is left of m; node 0 where there is
-- none
unfoldable pub turn : (ℕ → ℕ) → List ℕ → ℕ → ℕ × ℕ
turn count [] m = (0, m)
turn count (p ∷ ps) m = cond (ltb m (count p)) (p, m) (turn count ps (m - count p))

-- backward from node v in at most k steps, to node 0 where they are enough: "the node list from 0 on"
unfoldable pub walk : List (ℕ × ℕ) → (ℕ → ℕ) → ℕ → ℕ → ℕ → List ℕ
unfolding parents_of turn
walk es count zero v m = v ∷ []
walk es count (suc k) v m =
    cond (eqb v 0) (0 ∷ [])
    (walk es count k (turn count (parents_of es v) m).0 (turn count (parents_of es v) m).1 ++ v ∷ [])

-- the node list with the number m to node v: v steps are enough, since parents stand before children
unfoldable pub node_list_to : List (ℕ × ℕ) → (ℕ → ℕ) → ℕ → ℕ → List ℕ
unfolding walk
node_list_to es count v m = walk es count v v m

-- ---- the full board

module _ {B : Type 0} (full : B → Bool) where
  -- the path count of the full board among some entries, 0 if it is not there
  unfoldable pub full_count : List (Entry B) → ℕ
  unfolding sum_of
  full_count es = sum_of (λ e. cond (full e.0) e.1 0) es

  -- the number of the first full board, the numbers beginning with i
  unfoldable pub full_from : ℕ → List B → Option ℕ
  full_from i [] = None
  full_from i (s ∷ ss) = cond (full s) (Some i) (full_from (suc i) ss)

  -- "the full board's node, or none; node 0 is never that node"
  unfoldable pub full_node : List B → Option ℕ
  unfolding full_from
  full_node ss = full_from 1 (tail ss)

-- f of a node, 0 with none
unfoldable pub at_node : (ℕ → ℕ) → Option ℕ → ℕ
at_node f None = 0
at_node f (Some v) = f v

-- the node list with the number m of a graph with the full node o: "from the full node go backward" (from node 0 with none, a list that is never given)
abbrev pub node_list : List (ℕ × ℕ) → (ℕ → ℕ) → Option ℕ → ℕ → List ℕ
node_list es count o m = node_list_to es count (at_node (λ v. v) o) m

module _ {B P : Type 0} (step : B → B → P) where
  -- the pieces of the steps from t on over a list of boards, `step` giving the piece of a step
  abbrev pub pieces_from : B → List B → List P
  pieces_from t [] = []
  pieces_from t (u ∷ us) = step t u ∷ pieces_from u us

  -- the pieces of the steps of a list of boards
  abbrev pub pieces_of : List B → List P
  pieces_of [] = []
  pieces_of (t ∷ ts) = pieces_from t ts

-- ---- the layer count

-- "The answer is the path count of the full board, 0 if none is reached after at least one piece": of the layers 1 to n of a start s. Each piece takes a free
-- cell, so that the number of free cells is an n that is large enough
module _ {B : Type 0} (same : B → B → Bool) (children : B → List B) (full : B → Bool) (s : B) where
  unfoldable pub layer_count : ℕ → ℕ
  unfolding full_count layer
  layer_count zero = 0
  layer_count (suc n) = layer_count n + full_count full (layer same children s (suc n))

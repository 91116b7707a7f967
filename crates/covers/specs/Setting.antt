-- A way of laying pieces, as the proofs have it: boards and pieces of any two types, the laws that are asked of them, and the layers, the graph and the
-- cuttings of `Counts` for such boards. No contract of a public function cites it; it is what the laws are stated over, once for real boards (`setting` of `expansion`) and for
-- the boards of the examples. What stands in quotation marks is 01's. Rests on `Counts`. Assumes nothing.
use Rattle.std.specs.Prelude.{◌≡◌, ◌⊎◌, ◌↔◌, Bool, false, ℕ, ◌+◌, ◌<◌, get_or}
use Rattle.std.proofs.Math.Bool.{So}
use mathlib.Core.List.{List, [], ◌∷◌, map, Memᴰ as Mem}
use Rattle.cells.specs.FirstsLaws.{Once, Tells}
use Rattle.cells.specs.Lists.{holds}
use Rattle.covers.specs.Counts.{Exactly, Entry, boards, counts, sum_of, layer, layers, edges_of, parents_of, full_node, at_node, node_list, pieces_of, layer_count}

-- ---- cuttings, of what a piece covers, of the pieces that are "a tile's cells moved unturned", and of the free cells; of nothing else. Pieces
-- are 01's "cell sets" where P is ℕ and `covers` is `has_cell` (`CellSets`)

module _ {P : Type 0} (covers : P → ℕ → Bool) (IsTile : P → Type 0) (free : ℕ → Bool) where
  -- "a tile's cells moved unturned onto free cells"
  pub record IsFit (p : P) : Type 0 where
    pub tile : IsTile p
    pub onto : (c : ℕ) → So (covers p c) → So (free c)

  -- "A cutting": a set X of pieces, each of which fits, "with every free cell in exactly one"
  pub record Cutting (X : P → Bool) : Type 0 where
    pub fits : (p : P) → So (X p) → IsFit p
    pub exact : (c : ℕ) → So (free c) → Exactly 1 (λ (p : P). So (X p) × So (covers p c))

-- ---- a way of laying pieces

-- boards, pieces, and what is done with them
pub record Setting (B P : Type 0) : Type 1 where
  -- the boards that are accepted, and the pieces that are "a tile's cells moved unturned"
  pub Ok : B → Type 0
  pub IsTile : P → Type 0
  -- whether a cell of a board is free, whether a piece covers a cell, and whether a board is "a full board"
  pub free : B → ℕ → Bool
  pub covers : P → ℕ → Bool
  pub full : B → Bool
  -- the number of free cells; what is asked of it is that each piece makes it less (`lay_count`, and `EqualSteps` where it says so)
  pub free_count : B → ℕ
  -- a board with a piece laid, and the piece of a step: "the cells marked in the later node and free in the earlier"
  pub lay : B → P → B
  pub step_piece : B → B → P
  -- "the chosen cell" of a board that is not full, and the pieces that make the board's children, in order
  pub chosen : B → ℕ
  pub pieces : B → List P
  -- tests of equality
  pub same_board : B → B → Bool
  pub same_piece : P → P → Bool

module _ {B P : Type 0} (G : Setting B P) where
  abbrev pub FitsOn : B → P → Type 0
  FitsOn s = IsFit G.covers G.IsTile (G.free s)

  abbrev pub CuttingOf : B → (P → Bool) → Type 0
  CuttingOf s = Cutting G.covers G.IsTile (G.free s)

  -- the children: the boards with one of the pieces laid, in order
  abbrev pub child_boards : B → List B
  child_boards s = map (G.lay s) (G.pieces s)

  -- a placing sequence: pieces laid one after another from s on, each one of the pieces of the board that it is laid on, until no cell is free
  abbrev pub PlacingSequence : B → List P → Type 0
  PlacingSequence s [] = So (G.full s)
  PlacingSequence s (p ∷ ps) = Mem p (G.pieces s) × PlacingSequence (G.lay s p) ps

  -- what is asked of a setting
  pub record Laws : Type 0 where
    -- the tests tell equal boards and equal pieces
    pub board_eq : Tells G.same_board
    pub piece_eq : Tells G.same_piece
    -- a board is full exactly if no cell is free, all full boards are one board, and the chosen cell of any other is free
    pub full_iff : (s : B) → G.Ok s → So (G.full s) ↔ ((c : ℕ) → So (G.free s c) → ⊥)
    pub full_one : (s t : B) → G.Ok s → G.Ok t → So (G.full s) → So (G.full t) → s ≡ t
    pub chosen_free : (s : B) → G.Ok s → G.full s ≡ false → So (G.free s (G.chosen s))
    -- a tile has a cell
    pub tile_cell : (p : P) → G.IsTile p → (c : ℕ) × So (G.covers p c)
    -- to lay a piece that fits gives an accepted board, takes the piece's cells from the free ones and no others, and is a step with that piece
    pub lay_ok : (s : B) (p : P) → G.Ok s → FitsOn s p → G.Ok (G.lay s p)
    pub lay_free : (s : B) (p : P) → G.Ok s → FitsOn s p → (c : ℕ) → So (G.free (G.lay s p) c) ↔ (So (G.free s c) × (So (G.covers p c) → ⊥))
    pub lay_count : (s : B) (p : P) → G.Ok s → FitsOn s p → G.free_count (G.lay s p) < G.free_count s
    pub lay_step : (s : B) (p : P) → G.Ok s → FitsOn s p → G.step_piece s (G.lay s p) ≡ p
    -- the pieces of a board fit and cover its chosen cell, each once
    pub piece_fits : (s : B) (p : P) → G.Ok s → Mem p (G.pieces s) → FitsOn s p
    pub piece_chosen : (s : B) (p : P) → G.Ok s → Mem p (G.pieces s) → So (G.covers p (G.chosen s))
    pub piece_once : (s : B) → G.Ok s → Once (G.pieces s)

  -- the pruning condition: each piece that fits and covers the chosen cell is there, unless the board has no cutting at all
  abbrev pub SoundPruning : Type 0
  SoundPruning = (s : B) (p : P) → G.Ok s → FitsOn s p → So (G.covers p (G.chosen s)) → Mem p (G.pieces s) ⊎ ((X : P → Bool) → CuttingOf s X → ⊥)

  -- tiles of equally many cells: each piece that fits takes a free cells
  abbrev pub EqualSteps : ℕ → Type 0
  EqualSteps a = (s : B) (p : P) → G.Ok s → FitsOn s p → G.free_count (G.lay s p) + a ≡ G.free_count s

-- ---- the graph

-- what is asked of a graph of n nodes: parents stand before children and children below n, node 0's count is 1, and another's is "the exact sum of
-- its parents' counts over the edges into it"
pub record SumRule (n : ℕ) (es : List (ℕ × ℕ)) (count : ℕ → ℕ) : Type 0 where
  pub rises : (p c : ℕ) → Mem (p, c) es → (p < c) × (c < n)
  pub first : count 0 ≡ 1
  pub sums : (v : ℕ) → 0 < v → v < n → count v ≡ sum_of count (parents_of es v)

module _ {B P : Type 0} (G : Setting B P) (s : B) where
  abbrev pub layer_of : ℕ → List (Entry B)
  layer_of n = layer G.same_board (child_boards G) s n

  -- the nodes, "numbered by first finding", with their path counts, and their edges: the boards of the layers 0 to the number of free cells
  abbrev pub entries_of : List (Entry B)
  entries_of = layers G.same_board (child_boards G) s (G.free_count s)

  abbrev pub nodes_of : List B
  nodes_of = boards entries_of

  abbrev pub path_count_of : ℕ → ℕ
  path_count_of v = get_or (counts entries_of) v 0

  abbrev pub graph_edges : List (ℕ × ℕ)
  graph_edges = edges_of G.same_board (child_boards G) nodes_of

  -- the layer count, of the layers 1 to n and of all
  abbrev pub layer_count_to : ℕ → ℕ
  layer_count_to n = layer_count G.same_board (child_boards G) G.full s n

  abbrev pub layer_count_of : ℕ
  layer_count_of = layer_count_to (G.free_count s)

  -- "The graph count is that node's path count, 0 with none"
  unfoldable pub graph_count : ℕ
  unfolding layers full_node at_node
  graph_count = at_node path_count_of (full_node G.full nodes_of)

  -- the boards of the node list with the number m to the full node, and "the set of pieces that its steps mark"
  abbrev pub tiling_of : ℕ → List B
  tiling_of m = map (λ v. get_or nodes_of v s) (node_list graph_edges path_count_of (full_node G.full nodes_of) m)

  abbrev pub cutting_at : ℕ → P → Bool
  cutting_at m = holds G.same_piece (pieces_of G.step_piece (tiling_of m))

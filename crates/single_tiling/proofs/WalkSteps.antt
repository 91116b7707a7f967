-- The steps of `descend`: what the lent words hold once a board is put down, and what is told of the walk from it. Rests on `DescentLaws` and on the
-- laws of `cells`. Assumes nothing.
use Rattle.std.specs.Prelude.{None, Option, Some}
use mathlib.Core.Path.{◌≡◌, refl, sym, ap, ap₂, ◌∙◌, subst}
use mathlib.Core.Logic.{inl, inr}
use mathlib.Core.Bool.{Bool, true, false, So, false≢true}
use Rattle.std.specs.Option.{is_some}
use mathlib.Core.List.{List, [], ◌∷◌, ◌++◌, append_assoc, append-nil}
use Prim.Native.Nat.{ℕ, ◌+◌, ◌*◌, ◌/◌, ◌^◌, ◌<◌}
use native.Mathlib.Nat.{add-zero}
use native.Mathlib.Decide.{dec_lt}
use native.Mathlib.Omega.{arith}
use lib.ListN.{length, get_or}
use Rattle.cells.specs.declared.Cells.{Cells}
use Rattle.cells.specs.Set.{Sound, number}
use Rattle.cells.specs.WordLaws.{number_lt}
use Rattle.cells.specs.Lists.{list_of, set_at}
use Rattle.cells.specs.Parts.{with_set}
use Rattle.cells.specs.ArrayLaws.{length_list_of, get_d_list_of, list_of_ext, list_of_snoc}
use Rattle.cells.specs.ListLaws.{length_with_set, set_at_same, set_at_other}
use Rattle.tiles.specs.declared.Tiles.{Tiles}
use Rattle.tiles.specs.Paths.{path_at, paths_in}
use Rattle.tiles.specs.Inner.{Storable}
use Rattle.tiles.specs.ReadLaws.{read_tiles_storable}
use Rattle.board.specs.declared.RectangularBoard.{RectangularBoard}
use Rattle.rectangle.specs.Board.{Board, marks, free_count, is_full, valid, lay}
use Rattle.board.specs.Board.{board_of}
use Rattle.fit.specs.Parts.{fit_pieces}
use Rattle.rectangle.proofs.BoardLaws.{marks_lt}
use Rattle.single_tiling.specs.Inner.{first_of, in_front, first_tiling_from, fit_index, place_for, Held, New, found_as, Walked}
use Rattle.single_tiling.specs.FirstLaws.{in_front_some, in_front_none, first_miss, first_hit}
use Rattle.single_tiling.specs.IndexLaws.{fit_valid, fit_fewer}
use Rattle.single_tiling.specs.DescentLaws.{walk_at, walk_piece, walk_new, first_full, first_nowhere, first_place}

-- ---- the lent words

-- as many words, and the same first boards
abbrev pub Same : ℕ → List ℕ → List ℕ → Type 0
Same n old new = (length new ≡ length old) × ((k : ℕ) → k < n → set_at new k ≡ set_at old k)

-- the same boards below the depth, and m there
pub record Front (m depth : ℕ) (old new : List ℕ) : Type 0 where
  pub below : Same depth old new
  pub here : set_at new depth ≡ m

front_put : (m depth : ℕ) (old : List ℕ) → depth < length old / 4 → m < 2 ^ 256 → Front m depth old (with_set old depth m)
front_put m depth old room small = record {
  below = (length_with_set old depth m, λ k h. set_at_other old depth m k (λ e. absurd (omega arith)));
  here = set_at_same old depth m room small;
}

-- a board's marks are put down
pub front_board : (here : RectangularBoard) (depth : ℕ) (old new : List ℕ) (set : Cells) → depth + free_count (board_of here) < length old / 4
    → number set ≡ marks (board_of here) → new ≡ with_set old depth (number set) → Front (marks (board_of here)) depth old new
front_board here depth old new set room e put =
    subst (Front (marks (board_of here)) depth old) (ap (with_set old depth) (sym e) ∙ sym put)
    (front_put (marks (board_of here)) depth old (less depth (free_count (board_of here)) (length old / 4) room) (marks_lt (board_of here)))
  where
    less : (a b c : ℕ) → a + b < c → a < c
    less a b c h = omega arith

pub front_same : (m depth : ℕ) (old new next : List ℕ) → Front m depth old new → Same (depth + 1) new next → Front m depth old next
front_same m depth old new next f s = record {
  below = (s.0 ∙ f.below.0, λ k h. s.1 k (omega arith) ∙ f.below.1 k h);
  here = s.1 depth (omega arith) ∙ f.here;
}

-- lists of boards that are the same have the same boards
list_at : (f g : ℕ → ℕ) (n k : ℕ) → k < n → list_of f n ≡ list_of g n → f k ≡ g k
list_at f g n k h e = sym (get_d_list_of f n k 0 h) ∙ ap (λ (xs : List ℕ). get_or xs k 0) e ∙ get_d_list_of g n k 0 h

pub same_next : (n : ℕ) (old new next : List ℕ) → Same n old new → Same n new next → Same n old next
same_next n old new next s e = (e.0 ∙ s.0, λ k h. e.1 k h ∙ s.1 k h)

-- ---- free cells on the way down

pub fewer_is : (a b t : ℕ) → a < b → b ≡ t → a < t
fewer_is a b t h e = omega arith

-- the room is enough for the board below
pub room_below : (depth a b : ℕ) (old new : List ℕ) → a < b → depth + b < length old / 4 → length new ≡ length old → depth + 1 + a < length new / 4
room_below depth a b old new h room e = rw e (below depth a b (length old / 4) h room)
  where
    below : (d a b n : ℕ) → a < b → d + b < n → d + 1 + a < n
    below d a b n h room = omega arith

-- ---- what is told

pub is_some_of : (r : Option ℕ) → is_some r ≡ true → (n : ℕ) × (r ≡ Some n)
is_some_of (Some n) e = (n, refl)
is_some_of None e = absurd (false≢true e)

pub is_none_of : (r : Option ℕ) → is_some r ≡ false → r ≡ None
is_none_of (Some n) e = absurd (false≢true (sym e))
is_none_of None e = refl

pub found_some : (d n : ℕ) (ns : List ℕ) → Some n ≡ found_as d ns → (0 < length ns) × (n ≡ d + length ns)
found_some d n [] e = let z : ◌≡◌ {A = ℕ} 0 1 = cc in absurd (omega arith)
found_some d n (x ∷ xs) e = let q : n ≡ d + length (x ∷ xs) = cc in (omega arith, q)

pub found_none : (d : ℕ) (ns : List ℕ) → None ≡ found_as d ns → ns ≡ []
found_none d [] e = refl
found_none d (x ∷ xs) e = let z : ◌≡◌ {A = ℕ} 0 1 = cc in absurd (omega arith)

-- a walk that finds nothing leaves the boards before it
pub walked_same : (depth : ℕ) (ns old new : List ℕ) (r : Option ℕ) → r ≡ None → length new ≡ length old → Walked ns depth old new r → Same depth old new
walked_same depth ns old new r e long w =
    let none = found_none depth ns (sym e ∙ w.answer) in
    let held = w.boards in
    let boards : list_of (set_at new) depth ≡ list_of (set_at old) depth = rw (none, add-zero, append-nil) at held in
    (long, λ k h. list_at (set_at new) (set_at old) depth k h boards)

module _ (m depth : ℕ) (old new : List ℕ) (f : Front m depth old new) where
  kept : list_of (set_at new) depth ≡ list_of (set_at old) depth
  kept = list_of_ext (set_at new) (set_at old) depth f.below.1

  front_boards : list_of (set_at new) (depth + 1) ≡ list_of (set_at old) depth ++ m ∷ []
  front_boards = list_of_snoc (set_at new) depth ∙ ap₂ (λ (xs : List ℕ) (x : ℕ). xs ++ x ∷ []) kept f.here

  walked_one : Walked (m ∷ []) depth old new (Some (depth + 1))
  walked_one = record { answer = refl; boards = front_boards }

  walked_none : Walked [] depth old new None
  walked_none = record { answer = refl; boards = rw (add-zero, append-nil) kept }

  walked_more : (ns next : List ℕ) (n : ℕ) → Walked ns (depth + 1) new next (Some n) → (0 < length ns) × Walked (m ∷ ns) depth old next (Some n)
  walked_more ns next n w =
      let some = found_some (depth + 1) n ns w.answer in
      let more : depth + length (m ∷ ns) ≡ depth + 1 + length ns = omega arith in (
        some.0,
        record {
          answer = ap Some (some.1 ∙ sym more);
          boards = ap (list_of (set_at next)) more ∙ w.boards ∙ ap (λ (xs : List ℕ). xs ++ ns) front_boards ∙ append_assoc (list_of (set_at old) depth) (m ∷ []) ns;
        },
      )

-- ---- the walk from a board

-- the piece that is new is the piece of the index
new_piece : (f : ℕ → List ℕ) (i p : ℕ) (xs : List ℕ) → xs ≡ p ∷ [] → New f i xs → f i ≡ p ∷ []
new_piece f i p xs e (inl q) = sym q ∙ e
new_piece f i p xs e (inr q) = let z : p ∷ [] ≡ [] = sym e ∙ q.0 in let y : ◌≡◌ {A = ℕ} 1 0 = ap length z in absurd (omega arith)

module _ (here : RectangularBoard) (fixed : Sound here.fixed) (laid : Sound here.laid) (ts : Tiles) (single : Bool) (held : Held (board_of here) ts single) where
  storable : Storable (paths_in ts)
  storable = (read_tiles_storable ts (paths_in ts) held.tiles.2).0

  tiles_length : length (paths_in ts) ≡ ts.count
  tiles_length = length_list_of (path_at ts.lens ts.codes) ts.count

  first_by_index : is_full (board_of here) ≡ false → (cell : ℕ) → Some cell ≡ place_for (board_of here) (paths_in ts)
      → first_tiling_from (board_of here) (paths_in ts) ≡ in_front (marks (board_of here)) (first_of (walk_at (board_of here) (paths_in ts) cell) (list_of (λ i. i) (33 * ts.count)))
  first_by_index notFull cell place =
      first_place (board_of here) held.board (number_lt here.fixed fixed) (number_lt here.laid laid) (paths_in ts) storable notFull cell (sym place)
      ∙ ap (λ (n : ℕ). in_front (marks (board_of here)) (first_of (walk_at (board_of here) (paths_in ts) cell) (list_of (λ i. i) (33 * n)))) tiles_length

  -- a child of the board, by the piece of an index
  module _ (cell i : ℕ) (less : i < 33 * ts.count) (fit : Option Cells) (set : Cells) (e : fit ≡ Some set)
      (new : New (fit_index (board_of here) (paths_in ts) cell) i (fit_pieces fit)) (child : RectangularBoard)
      (laying : board_of child ≡ lay (board_of here) (number set)) where
    piece : fit_index (board_of here) (paths_in ts) cell i ≡ number set ∷ []
    piece = new_piece (fit_index (board_of here) (paths_in ts) cell) i (number set) (fit_pieces fit) (ap fit_pieces e) new

    below : i < 33 * length (paths_in ts)
    below = subst (λ (n : ℕ). i < 33 * n) (sym tiles_length) less

    -- it is accepted, it has fewer free cells, and the walk of the index is the walk from it
    pub child_ready : Held (board_of child) ts single × (free_count (board_of child) < free_count (board_of here))
        × (walk_at (board_of here) (paths_in ts) cell i ≡ first_tiling_from (board_of child) (paths_in ts))
    child_ready = (
      record {
        board = subst (λ (d : Board). So (valid d)) (sym laying) (fit_valid (board_of here) (paths_in ts) cell i _ below piece held.board);
        tiles = held.tiles;
        singles = held.singles;
      },
      subst (λ (d : Board). free_count d < free_count (board_of here)) (sym laying) (fit_fewer (board_of here) (paths_in ts) cell i _ below piece held.board),
      walk_piece (board_of here) (paths_in ts) cell i _ piece ∙ ap (λ (d : Board). first_tiling_from d (paths_in ts)) (sym laying),
    )

  -- the index is passed over
  pub child_none : (cell i : ℕ) (fit : Option Cells) → fit ≡ None → New (fit_index (board_of here) (paths_in ts) cell) i (fit_pieces fit)
      → ((k : ℕ) → k < i → walk_at (board_of here) (paths_in ts) cell k ≡ []) → walk_at (board_of here) (paths_in ts) cell i ≡ []
  unfolding first_of
  child_none cell i fit e new before = walk_new (board_of here) (paths_in ts) cell i (fit_pieces fit) new before ∙ ap (first_of (λ p. first_tiling_from (lay (board_of here) p) (paths_in ts))) (ap fit_pieces e)

  -- what is told
  module _ (depth : ℕ) (old new : List ℕ) (front : Front (marks (board_of here)) depth old new) where
    pub says_full : is_full (board_of here) ≡ true → Walked (first_tiling_from (board_of here) (paths_in ts)) depth old new (Some (depth + 1))
    says_full full =
        subst (λ (ns : List ℕ). Walked ns depth old new (Some (depth + 1)))
        (sym (first_full (board_of here) held.board (number_lt here.fixed fixed) (number_lt here.laid laid) (paths_in ts) full))
        (walked_one (marks (board_of here)) depth old new front)

    none_told : first_tiling_from (board_of here) (paths_in ts) ≡ [] → Walked (first_tiling_from (board_of here) (paths_in ts)) depth old new None
    none_told e = subst (λ (ns : List ℕ). Walked ns depth old new None) (sym e) (walked_none (marks (board_of here)) depth old new front)

    module _ (notFull : is_full (board_of here) ≡ false) where
      pub says_nowhere : None ≡ place_for (board_of here) (paths_in ts) → Walked (first_tiling_from (board_of here) (paths_in ts)) depth old new None
      says_nowhere e =
          none_told (first_nowhere (board_of here) held.board (number_lt here.fixed fixed) (number_lt here.laid laid) (paths_in ts) notFull (sym e))

      module _ (cell : ℕ) (place : Some cell ≡ place_for (board_of here) (paths_in ts)) where
        pub says_none : ((k : ℕ) → k < 33 * ts.count → walk_at (board_of here) (paths_in ts) cell k ≡ []) → Walked (first_tiling_from (board_of here) (paths_in ts)) depth old new None
        says_none all =
            none_told (first_by_index notFull cell place ∙ in_front_none (marks (board_of here)) _ (first_miss (walk_at (board_of here) (paths_in ts) cell) (33 * ts.count) all))

        pub says_some : (i : ℕ) → i < 33 * ts.count → ((k : ℕ) → k < i → walk_at (board_of here) (paths_in ts) cell k ≡ []) → (ns : List ℕ)
            → walk_at (board_of here) (paths_in ts) cell i ≡ ns → (next : List ℕ) (r : Option ℕ) (n : ℕ) → r ≡ Some n → Walked ns (depth + 1) new next r
            → Walked (first_tiling_from (board_of here) (paths_in ts)) depth old next (Some n)
        says_some i less before ns e next r n q w =
            let more = walked_more (marks (board_of here)) depth old new front ns next n (subst (λ (x : Option ℕ). Walked ns (depth + 1) new next x) q w) in
            let some : 0 < length (walk_at (board_of here) (paths_in ts) cell i) = subst (λ (xs : List ℕ). 0 < length xs) (sym e) more.0 in
            let hit = first_hit (walk_at (board_of here) (paths_in ts) cell) (33 * ts.count) i less before some ∙ e in
            subst (λ (xs : List ℕ). Walked xs depth old next (Some n))
            (sym (first_by_index notFull cell place ∙ ap (in_front (marks (board_of here))) hit ∙ in_front_some (marks (board_of here)) ns more.0)) more.1

-- the indices before the next one
pub none_more : (f : ℕ → List ℕ) (i : ℕ) → ((k : ℕ) → k < i → f k ≡ []) → f i ≡ [] → (k : ℕ) → k < i + 1 → f k ≡ []
none_more f i before e k h = go (dec_lt k i)
  where
    go : Dec (k < i) → f k ≡ []
    go (yes l) = before k l
    go (no l) = let q : k ≡ i = omega arith in ap f q ∙ e

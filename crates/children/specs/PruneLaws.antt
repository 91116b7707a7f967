-- Laws of pruning: it is tested at the chosen cell alone; and under demand 3's condition on tiles, a cell with count 4 is covered by no tile of two or more
-- cells, so where pruning strikes there is a free cell that no tile covers. Rests on the laws of the chosen cell and of paths. Assumes nothing.
use Rattle.std.specs.Prelude.{◌≡◌, refl, Bool, true, false, not, ◌||◌, ◌&&◌, ℕ, ◌≤◌, eqb}
use Rattle.std.proofs.Common.{sym, ap, ◌∙◌, subst}
use Rattle.std.proofs.Math.Bool.{So, and-eq-true_iff}
use Rattle.std.proofs.lemmas.Bool.{false≢true, not-true}
use mathlib.Core.List.Memᴰ.{map as mem-map}
use mathlib.Core.List.Memᴰ.{of_map}
use mathlib.Core.List.{List, [], ◌∷◌, Memᴰ as Mem}
use Rattle.std.specs.Prelude.{Some}
use Rattle.cells.specs.Set.{has_cell}
use Rattle.cells.specs.FirstsLaws.{any_true}
use Rattle.direction.specs.Direction.{Position, shift, step}
use Rattle.direction.specs.PositionLaws.{shift_shift}
use Rattle.tile.specs.Path.{Path, codes_ok, cells, cell_count, is_single, EdgeJoined}
use Rattle.tiles.specs.Paths.{contains_single}
use Rattle.tile.specs.PathLaws.{codes_ok_cons, cell_count_more}
use Rattle.rectangle.specs.Board.{Board, cell_of, position_of, inside, is_marked, free_at, is_free}
use Rattle.fit.specs.Fit.{moved, Fits}
use Rattle.choice.specs.Choice.{count_of, has_four, chosen}
use Rattle.choice.specs.CountLaws.{count_four}
use Rattle.choice.specs.ChosenLaws.{any_four_some, any_four}
use Rattle.children.specs.Children.{pruned}

-- the test of the chosen cell's count is that of any free cell
pub pruned_chosen : (b : Board) → b.width ≤ 16 → (paths : List Path) (cell : ℕ) → chosen b ≡ Some cell → pruned b paths ≡ (eqb (count_of b cell) 4 && not (contains_single paths))
unfolding pruned
pruned_chosen b wide paths cell e = ap (λ (t : Bool). t && not (contains_single paths)) (any_four b wide cell e)

-- a free position is in the rectangle and not laid
free_laid : (b : Board) (p : Position) → So (free_at b p) → So (inside b.width b.height p) × (has_cell b.laid (cell_of p) ≡ false)
unfolding free_at
free_laid b p f =
    let both = (and-eq-true_iff (inside b.width b.height p) (not (is_marked b (cell_of p)))).0 f in
    (both.0, go (has_cell b.fixed (cell_of p)) (has_cell b.laid (cell_of p)) both.1)
  where
    go : (s t : Bool) → So (not (s || t)) → t ≡ false
    go true t e = absurd (false≢true e)
    go false true e = absurd (false≢true e)
    go false false e = refl

-- the cell's neighbour in the tile stands on a free position, but every neighbour of the cell is laid
pub four_alone : (b : Board) (cell : ℕ) (path : Path) (d : Position) → count_of b cell ≡ 4 → EdgeJoined path → 2 ≤ cell_count path → Fits b path d → Mem (position_of cell) (moved d path) → ⊥
four_alone b cell path d four joined two fits m =
    let at_p = of_map (λ p. shift p d) (cells path) m in
    let p = at_p.0 in
    let other = joined two p at_p.1 in
    let q = other.0 in
    let code = other.2.0 in
    let beside : shift q d ≡ shift (position_of cell) (step code) =
    ap (λ (x : Position). shift x d) other.2.2 ∙ shift_shift p (step code) d ∙ ap (λ (x : Position). shift x (step code)) at_p.2 in
    let free = free_laid b (shift (position_of cell) (step code)) (subst (λ (x : Position). So (free_at b x)) beside (fits (shift q d) (mem-map (λ p. shift p d) other.1))) in
    false≢true (sym free.1 ∙ count_four b.width b.height b.laid cell four code other.2.1 free.0)

-- a tile that is not single has two or more cells
two_cells : (path : Path) → So (codes_ok path) → is_single path ≡ false → 2 ≤ cell_count path
unfolding is_single
two_cells [] ok e = absurd (false≢true (sym e))
two_cells (code ∷ path) ok e = cell_count_more code path (codes_ok_cons code path ok).0

none_single : (paths : List Path) (path : Path) → contains_single paths ≡ false → Mem path paths → is_single path ≡ false
unfolding contains_single
none_single paths path e m = go (is_single path) refl
  where
    go : (t : Bool) → is_single path ≡ t → t ≡ false
    go true s = absurd (false≢true (sym e ∙ any_true is_single paths path m s))
    go false s = refl

-- where pruning strikes, a free cell has count 4, and no tile is single
pub pruned_four : (b : Board) (paths : List Path) → pruned b paths ≡ true → ((cell : ℕ) × So (is_free b cell) × (count_of b cell ≡ 4)) × (contains_single paths ≡ false)
unfolding pruned
pruned_four b paths e =
    let both = (and-eq-true_iff (has_four b) (not (contains_single paths))).0 e in
    (any_four_some b both.0, not-true (contains_single paths) both.1)

pub pruned_none : (b : Board) (paths : List Path) → pruned b paths ≡ true → ((path : Path) → Mem path paths → EdgeJoined path) → ((path : Path) → Mem path paths → So (codes_ok path)) → (cell : ℕ) × So (is_free b cell) × ((path : Path) → Mem path paths → (d : Position) → Fits b path d → Mem (position_of cell) (moved d path) → ⊥)
pruned_none b paths e joined ok =
    let r = pruned_four b paths e in (
      r.0.0,
      r.0.1,
      λ path m d. four_alone b r.0.0 path d r.0.2 (joined path m) (two_cells path (ok path m) (none_single paths path r.1 m)),
    )

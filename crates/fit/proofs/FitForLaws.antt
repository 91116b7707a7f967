-- Laws of `fit_in` and `fit_for`: the fit where size, codes and point are right, and none otherwise; over the marks of a board they are one. Rests on
-- `PieceLaws`. Assumes nothing.
use Rattle.std.specs.Prelude.{◌≡◌, Bool, ◌&&◌, ℕ, ◌≤◌, ◌<◌, length}
use Rattle.std.proofs.Math.Path.{refl}
use Rattle.std.proofs.Common.{sym, ap, ◌∙◌, subst}
use Rattle.std.proofs.Math.Bool.{true, false, So, cond, and-false}
use Rattle.std.proofs.lemmas.Bool.{false≢true}
use mathlib.Core.List.Memᴰ.{head as here}
use mathlib.Core.List.{List, [], ◌∷◌, Memᴰ as Mem}
use borrow.Author.Tests.{le-leb, lt-leb, leb-true}
use Rattle.std.proofs.Math.Dec.{leb}
use Rattle.direction.specs.Direction.{Position}
use Rattle.tile.specs.Path.{is_path}
use Rattle.rectangle.specs.Parts.{free_in}
use Rattle.rectangle.specs.Board.{marks, Board, position_of, inside, free_at, size_ok}
use Rattle.rectangle.proofs.BoardLaws.{size_ok_le, free_in_free_at}
use Rattle.fit.specs.Parts.{fit_in}
use Rattle.fit.specs.Fit.{cover, moved, offset, point_at, fit_at}
use Rattle.fit.specs.Inner.{fit_for}
use Rattle.fit.specs.FitLaws.{mem_cover, cover_ext}
use Rattle.fit.proofs.PieceLaws.{fit_on}

module _ (w h m : ℕ) (codes : List ℕ) (j cell : ℕ) where
  pub fit_in_size : size_ok w h ≡ false → fit_in w h m codes j cell ≡ []
  unfolding fit_in
  fit_in_size e = rw e

  pub fit_in_path : is_path codes ≡ false → fit_in w h m codes j cell ≡ []
  unfolding fit_in
  fit_in_path e = rw (e, and-false (size_ok w h))

  pub fit_in_point : length codes < j → fit_in w h m codes j cell ≡ []
  unfolding fit_in
  fit_in_point l = rw (lt-leb j (length codes) l, and-false (is_path codes), and-false (size_ok w h))

  -- a cell outside is not free, and point j would stand on it
  blocked : inside w h (position_of cell) ≡ false → j ≤ length codes → cover (free_in w h m) 0 (moved (offset (point_at codes j) (position_of cell)) codes) ≡ []
  unfolding free_in
  blocked e l = go (cover (free_in w h m) 0 ps) refl
    where
      ps : List Position
      ps = moved (offset (point_at codes j) (position_of cell)) codes

      shut : free_in w h m (position_of cell) ≡ false
      shut = rw e

      go : (ns : List ℕ) → cover (free_in w h m) 0 ps ≡ ns → ns ≡ []
      go [] q = refl
      go (n ∷ ns) q = absurd (false≢true (sym shut ∙ ((mem_cover (free_in w h m) 0 ps n).0 (subst (Mem n) (sym q) (here refl))).0 (position_of cell) (fit_on codes j cell l)))

  pub fit_in_outside : inside w h (position_of cell) ≡ false → fit_in w h m codes j cell ≡ []
  unfolding fit_in
  fit_in_outside e = go (leb j (length codes)) refl (size_ok w h) (is_path codes)
    where
      go : (t : Bool) → leb j (length codes) ≡ t → (r s : Bool) → cond (r && (s && t)) (cover (free_in w h m) 0 (moved (offset (point_at codes j) (position_of cell)) codes)) [] ≡ []
      go true q true true = blocked e (leb-true j (length codes) q)
      go t q true false = refl
      go t q false s = refl
      go false q true true = refl

  pub fit_in_fit : size_ok w h ≡ true → is_path codes ≡ true → j ≤ length codes → fit_in w h m codes j cell ≡ cover (free_in w h m) 0 (moved (offset (point_at codes j) (position_of cell)) codes)
  unfolding fit_in
  fit_in_fit s e l = rw (s, e, le-leb j (length codes) l)

-- ---- on a board

-- the fit over the marks of a board is that on the board
pub fit_in_is_fit_for : (b : Board) (m : ℕ) → m ≡ marks b → (codes : List ℕ) (j cell : ℕ) → fit_in b.width b.height m codes j cell ≡ fit_for b codes j cell
unfolding fit_in fit_for fit_at
fit_in_is_fit_for b m e codes j cell = go (size_ok b.width b.height) refl (is_path codes && leb j (length codes))
  where
    ps : List Position
    ps = moved (offset (point_at codes j) (position_of cell)) codes

    go : (t : Bool) → size_ok b.width b.height ≡ t → (s : Bool) → cond (t && s) (cover (free_in b.width b.height m) 0 ps) [] ≡ cond (t && s) (cover (free_at b) 0 ps) []
    go false q s = refl
    go true q false = refl
    go true q true =
        let size = size_ok_le b.width b.height q in
        ap (λ (n : ℕ). cover (free_in b.width b.height n) 0 ps) e
        ∙ cover_ext (free_in b.width b.height (marks b)) (free_at b) (free_in_free_at b size.0 size.1) 0 ps

module _ (b : Board) (codes : List ℕ) (j cell : ℕ) where
  pub fit_for_point : length codes < j → fit_for b codes j cell ≡ []
  unfolding fit_for
  fit_for_point l = rw (lt-leb j (length codes) l, and-false (is_path codes), and-false (size_ok b.width b.height))

  pub fit_for_fit : So (size_ok b.width b.height) → So (is_path codes) → j ≤ length codes → fit_for b codes j cell ≡ fit_at b codes j cell
  unfolding fit_for
  fit_for_fit s e l = rw (s, e, le-leb j (length codes) l)

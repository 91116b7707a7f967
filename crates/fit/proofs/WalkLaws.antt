-- What the walks of the code come to: the place one step on if it is free, the walks back and on, and the fit by the two walks.
-- Rests on `FitLaws` and on the laws of places. Assumes nothing.
use Rattle.std.specs.Prelude.{None, Option, Some, Result, Ok, Err, IsOk}
use mathlib.Core.Path.{◌≡◌, refl, sym, ap, ap₂, subst, ◌∙◌}
use mathlib.Core.Bool.{Bool, true, false, So, not, and-eq-true_iff}
use mathlib.Core.List.{List, [], ◌∷◌, ◌++◌, flat_map, append-nil}
use Prim.Native.Nat.{ℕ, zero, suc, ◌+◌, ◌-◌, ◌*◌, ◌≤◌, ◌<◌}
use native.Mathlib.Numerals.{add-one}
use native.Mathlib.Omega.{arith}
use lib.IntN.{pos, nat_abs}
use lib.ListN.{length, get_or, take, drop, drop_of_length-le, length-drop}
use lib.Seq.{drop-cons, get_or-drop}
use Rattle.std.proofs.lemmas.List.{take_all}
use Rattle.cells.specs.declared.Cells.{Cells}
use Rattle.cells.specs.Set.{has_cell, with_cell, value, number}
use Rattle.cells.specs.ListLaws.{value_none}
use Rattle.refusal.specs.declared.Refusal.{Refusal}
use Rattle.refusal.specs.Refusal.{map_answer, answer_of, refusal_number}
use Rattle.refusal.specs.RefusalLaws.{given_inj, refused_given}
use Rattle.direction.specs.declared.Direction.{Direction}
use Rattle.direction.specs.Direction.{Position, at, shift, step, opposite, code_of, Decodes}
use Rattle.direction.specs.DirectionLaws.{on_code_given}
use Rattle.tile.specs.Path.{codes_ok, is_path, Path}
use Rattle.tile.specs.PathLaws.{codes_ok_at}
use Rattle.tile.specs.StoredLaws.{is_path_is}
use Rattle.rectangle.specs.Board.{cell_of, inside}
use Rattle.rectangle.specs.Parts.{free_in, place_if, place_after}
use Rattle.rectangle.proofs.BoardLaws.{inside_iff}
use Rattle.rectangle.proofs.PlaceLaws.{Placed, code_lt, place_false, place_placed, place_true, placed, placed_cell, place_after_is}
use Rattle.fit.specs.Fit.{cover, moved, offset, point_at}
use Rattle.fit.specs.Parts.{fit_pieces}
use Rattle.fit.specs.Inner.{back, onward, walked}
use Rattle.fit.specs.FitLaws.{cover_free, cover_blocked, cover_end, cover_append, walked_moved}

-- the codes of a path are directions
pub path_codes : (codes : List ℕ) → is_path codes ≡ true → So (codes_ok codes)
path_codes codes e = (is_path_is codes e).1

-- ---- the place one step on from a place of a board, if it has no mark

module _ (w h m row col : ℕ) (d : Direction) (hr : row < 16) (hc : col < 16) where
  -- its position
  ahead : Position
  ahead = shift (at (pos row) (pos col)) (step (code_of d))

  stepped : place_after w h row col (code_of d) ≡ place_if (inside w h) ahead
  unfolding ahead
  stepped = place_after_is w h row col (code_of d) hr hc (code_lt d)

  pub free_nowhere : place_after w h row col (code_of d) ≡ None → None ≡ place_if (free_in w h m) (shift (at (pos row) (pos col)) (step (code_of d)))
  unfolding ahead place_if free_in
  free_nowhere f = rw (place_false (inside w h) ahead (sym f ∙ stepped))

  pub step_placed : (r c : ℕ) → place_after w h row col (code_of d) ≡ Some (r, c) → Placed w h (shift (at (pos row) (pos col)) (step (code_of d))) r c
  unfolding ahead
  step_placed r c f = place_placed w h ahead r c (place_after w h row col (code_of d)) stepped f

  pub free_marked : (r c : ℕ) → place_after w h row col (code_of d) ≡ Some (r, c) → true ≡ has_cell m (16 * r + c) → None ≡ place_if (free_in w h m) (shift (at (pos row) (pos col)) (step (code_of d)))
  unfolding place_if free_in
  free_marked r c f t = let s = step_placed r c f in rw (s.is_inside, placed_cell w h _ r c s, ← t)

  pub free_open : (r c : ℕ) → place_after w h row col (code_of d) ≡ Some (r, c) → false ≡ has_cell m (16 * r + c) → ◌≡◌ {A = Option (ℕ × ℕ)} (Some (r, c)) (place_if (free_in w h m) (shift (at (pos row) (pos col)) (step (code_of d))))
  unfolding place_if free_in
  free_open r c f t = let s = step_placed r c f in let place : ◌≡◌ {A = ℕ × ℕ} (nat_abs (shift (at (pos row) (pos col)) (step (code_of d))).row, nat_abs (shift (at (pos row) (pos col)) (step (code_of d))).col) (r, c) = ap (λ (q : Position). (nat_abs q.row, nat_abs q.col)) s.is_at in
      rw (s.is_inside, placed_cell w h _ r c s, ← t) (ap Some (sym place))

pub free_in_placed : (w h m : ℕ) (p : Position) (r c : ℕ) → place_if (free_in w h m) p ≡ Some (r, c) → Placed w h p r c
unfolding free_in
free_in_placed w h m p r c e =
    let s = place_true (free_in w h m) p r c (sym e) in
    placed w h p r c ((and-eq-true_iff (inside w h p) (not (has_cell m (cell_of p)))).0 s.0).0 s.1 s.2

-- ---- the direction of a code

-- a code 0 to 7 has one
pub decoded_ok : (code : ℕ) (r : Result Direction Refusal) → Decodes code r → code < 8 → IsOk r
unfolding map_answer
decoded_ok code (Ok d) e h = refl
decoded_ok code (Err f) e h = absurd (refused_given (refusal_number f) code (e ∙ on_code_given code code h))

pub decoded_is : (code : ℕ) (r : Result Direction Refusal) (d : Direction) → Decodes code r → code < 8 → r ≡ Ok d → code_of d ≡ code
unfolding map_answer
decoded_is code r d e h f = given_inj (code_of d) code (sym (ap (λ (x : Result Direction Refusal). map_answer code_of (answer_of x)) f) ∙ e ∙ on_code_given code code h)

-- ---- the positions that are left of a walk

pub onward_next : (p : Position) (path : Path) (i code : ℕ) → i < length path → code ≡ get_or path i 0 → onward p (drop i path) ≡ shift p (step code) ∷ onward (shift p (step code)) (drop (i + 1) path)
unfolding onward
onward_next p path i code h e = rw (e, add-one, drop-cons path i 0)

pub onward_none : (p : Position) (path : Path) (i : ℕ) → length path ≤ i → onward p (drop i path) ≡ []
unfolding onward
onward_none p path i h = ap (onward p) (drop_of_length-le path h)

pub back_next : (p : Position) (path : Path) (i code : ℕ) → 0 < i → code ≡ opposite (get_or path (i - 1) 0) → back p path i ≡ shift p (step code) ∷ back (shift p (step code)) path (i - 1)
unfolding back
back_next p path zero code h e = absurd (omega arith)
back_next p path (suc i) code h e = let f : suc i - 1 ≡ i = omega arith in rw (e, f)

pub back_none : (p : Position) (path : Path) (i : ℕ) → i ≤ 0 → back p path i ≡ []
unfolding back
back_none p path zero h = refl
back_none p path (suc i) h = absurd (omega arith)

-- what is left of a path, as a slice has it
pub rest_is : (start : ℕ) (path : Path) → take (length path - start) (drop start path) ≡ drop start path
rest_is start path = take_all (length path - start) (drop start path) (omega (arith, length-drop start path))

-- its codes are directions
pub rest_ok : (start i : ℕ) (path : Path) → So (codes_ok path) → i < length (take (length path - start) (drop start path)) → get_or (take (length path - start) (drop start path)) i 0 < 8
rest_ok start i path ok h =
    let l : i < length (drop start path) = subst (λ (s : Path). i < length s) (rest_is start path) h in
    let n : start + i < length path = omega (arith, length-drop start path) in
    rw (rest_is start path, get_or-drop) (codes_ok_at path (start + i) ok n)

-- ---- where a walk stands: what is left of it gives what the whole walk gives

module _ (w h m : ℕ) (whole : List ℕ) (s : Cells) (l : List Position) (k : cover (free_in w h m) (number s) l ≡ whole) where
  -- the next place is not free
  pub walk_stops : (p : Position) (ps : List Position) → l ≡ p ∷ ps → None ≡ place_if (free_in w h m) p → [] ≡ whole
  walk_stops p ps e f =
      sym (cover_blocked (free_in w h m) (number s) p ps (place_false (free_in w h m) p f))
      ∙ ap (cover (free_in w h m) (number s)) (sym e)
      ∙ k

  -- it is free
  pub walk_goes : (p : Position) (next : Position → List Position) → l ≡ p ∷ next p → (a b : ℕ) → place_if (free_in w h m) p ≡ Some (a, b) → (t : Cells) → number t ≡ with_cell (number s) (16 * a + b) → cover (free_in w h m) (number t) (next (at (pos a) (pos b))) ≡ whole
  walk_goes p next e a b f t u =
      let o = free_in_placed w h m p a b f in
      let free = (place_true (free_in w h m) p a b (sym f)).0 in
      ap₂ (λ (y : ℕ) (q : Position). cover (free_in w h m) y (next q)) (u ∙ ap (with_cell (number s)) (sym (placed_cell w h p a b o))) (sym o.is_at)
      ∙ sym (cover_free (free_in w h m) (number s) p (next p) free)
      ∙ ap (cover (free_in w h m) (number s)) (sym e)
      ∙ k

  -- there is none
  pub walk_ends : l ≡ [] → number s ∷ [] ≡ whole
  walk_ends e = sym (cover_end (free_in w h m) (number s)) ∙ ap (cover (free_in w h m) (number s)) (sym e) ∙ k

-- ---- the fit, by its two walks

module _ (w h m : ℕ) (path : Path) (j r c : ℕ) (hr : r < h) (hc : c < w) (hj : j ≤ length path) where
  here_free : (t : Bool) → has_cell m (16 * r + c) ≡ t → free_in w h m (at (pos r) (pos c)) ≡ not t
  unfolding free_in cell_of
  here_free t e = rw ((inside_iff w h r c).1 (hr, hc), e)

  -- its point j lies on a mark
  pub fit_marked : has_cell m (16 * r + c) ≡ true → [] ≡ cover (free_in w h m) 0 (moved (offset (point_at path j) (at (pos r) (pos c))) path)
  unfolding walked
  fit_marked e =
      let p : Position = at (pos r) (pos c) in
      sym (cover_blocked (free_in w h m) 0 p (back p path j ++ onward p (drop j path)) (here_free true e)) ∙ walked_moved (free_in w h m) path j p hj

  -- its point j lies on a free place: the walk back, and then the walk on
  module _ (free : has_cell m (16 * r + c) ≡ false) (none first : ℕ) (empty : none ≡ value (0 ∷ 0 ∷ 0 ∷ 0 ∷ [])) (start : first ≡ with_cell none (16 * r + c)) (behind : Option Cells) (e : fit_pieces behind ≡ cover (free_in w h m) first (back (at (pos r) (pos c)) path j)) where
    fit_free : flat_map (λ n. cover (free_in w h m) n (onward (at (pos r) (pos c)) (drop j path))) (fit_pieces behind) ≡ cover (free_in w h m) 0 (moved (offset (point_at path j) (at (pos r) (pos c))) path)
    unfolding walked cell_of
    fit_free =
        let p : Position = at (pos r) (pos c) in
        let f = free_in w h m in
        let q : first ≡ with_cell 0 (cell_of p) = start ∙ ap (λ (n : ℕ). with_cell n (16 * r + c)) (empty ∙ value_none) in
        ap (flat_map (λ n. cover f n (onward p (drop j path)))) (e ∙ ap (λ (n : ℕ). cover f n (back p path j)) q)
        ∙ sym (cover_append f (back p path j) (onward p (drop j path)) (with_cell 0 (cell_of p)))
        ∙ sym (cover_free f 0 p (back p path j ++ onward p (drop j path)) (here_free false free))
        ∙ walked_moved f path j p hj

    pub fit_stops : behind ≡ None → [] ≡ cover (free_in w h m) 0 (moved (offset (point_at path j) (at (pos r) (pos c))) path)
    unfolding flat_map
    fit_stops g = ap (λ (x : Option Cells). flat_map (λ n. cover (free_in w h m) n (onward (at (pos r) (pos c)) (drop j path))) (fit_pieces x)) (sym g) ∙ fit_free

    pub fit_goes : (set : Cells) → behind ≡ Some set → cover (free_in w h m) (number set) (onward (at (pos r) (pos c)) (drop j path)) ≡ cover (free_in w h m) 0 (moved (offset (point_at path j) (at (pos r) (pos c))) path)
    unfolding flat_map
    fit_goes set g =
        let on : ℕ → List ℕ = λ n. cover (free_in w h m) n (onward (at (pos r) (pos c)) (drop j path)) in
        sym (append-nil (on (number set)))
        ∙ ap (λ (x : Option Cells). flat_map on (fit_pieces x)) (sym g)
        ∙ fit_free

-- Laws of fits: a list of positions is covered position by position; which cells the set has; lists of the same positions give the same set; so the
-- walk from point j of a path, back and on, covers what the tile's cells do; and what a fit is, whose tile's moved cells are all free. Rests on cells'
-- `SetLaws` and `FirstsLaws` and tile's `PathLaws`. Assumes nothing.
use Rattle.std.specs.Prelude.{◌≡◌, ◌⊎◌, ◌↔◌, Bool, not, cond, ℕ, zero, suc, ◌^◌, ◌≤◌, ◌<◌, length, get_or, drop, ℤ, ◌+ℤ◌, neg_ℤ}
use Rattle.std.proofs.Math.Path.{refl, sym, ap}
use Rattle.std.proofs.Common.{ap₂, ◌∙◌, subst, inl, inr, ⊎_elim, arith, pow_pos, drop-cons}
use Rattle.std.proofs.Math.Bool.{true, false, So}
use mathlib.Core.List.Memᴰ.{append_cases}
use mathlib.Core.List.Memᴰ.{append_left}
use mathlib.Core.List.Memᴰ.{append_right}
use mathlib.Core.List.Memᴰ.{cases_cons}
use mathlib.Core.List.Memᴰ.{eq_of_singleton}
use mathlib.Core.List.Memᴰ.{head as here}
use mathlib.Core.List.Memᴰ.{not-nil}
use mathlib.Core.List.Memᴰ.{tail as there}
use mathlib.Core.List.{List, [], ◌∷◌, ◌++◌, flat_map, append-nil, Memᴰ as Mem}
use Rattle.std.proofs.Math.Decide.{ℕ_discrete, dec_lt}
use Rattle.std.proofs.Math.IntN.{+ℤ_comm, +ℤ-neg_ℤ_cancel, -ℤ-+ℤ_cancel}
use Rattle.cells.specs.Set.{bit, with_cell}
use Rattle.cells.specs.BitLaws.{bit_le, bit_ext, zero_bit}
use Rattle.cells.specs.SetLaws.{with_cell_old, with_cell_past, with_cell_lt, bit_with_cell_same, bit_with_cell_other}
use Rattle.cells.specs.Lists.{any, firsts}
use Rattle.cells.specs.FirstsLaws.{so_eq, any_true, any_some, mem_firsts}
use Rattle.direction.specs.Direction.{Position, at, origin, shift, same_position, step, opposite}
use Rattle.direction.specs.PositionLaws.{same_position_iff, shift_origin, shift_shift}
use Rattle.direction.specs.DirectionLaws.{step_opposite}
use Rattle.tile.specs.Path.{Path, points}
use Rattle.tile.specs.PathLaws.{cells_shift}
use Rattle.rectangle.specs.Board.{Board, cell_of, position_of, free_at}
use Rattle.fit.specs.Fit.{with_cells, cover, moved, offset, point_at, Fits, fit_at}
use Rattle.fit.specs.Inner.{back, onward, walked}

-- ---- position by position

module _ (f : Position → Bool) where
  pub cover_free : (n : ℕ) (p : Position) (ps : List Position) → f p ≡ true → cover f n (p ∷ ps) ≡ cover f (with_cell n (cell_of p)) ps
  unfolding cover
  cover_free n p ps e = rw e

  pub cover_blocked : (n : ℕ) (p : Position) (ps : List Position) → f p ≡ false → cover f n (p ∷ ps) ≡ []
  unfolding cover
  cover_blocked n p ps e = rw e

  pub cover_end : (n : ℕ) → cover f n [] ≡ n ∷ []
  unfolding cover
  cover_end n = refl

  -- one list after another
  pub cover_append : (ps qs : List Position) (n : ℕ) → cover f n (ps ++ qs) ≡ flat_map (λ m. cover f m qs) (cover f n ps)
  unfolding flat_map
  cover_append [] qs n = sym (append-nil (cover f n qs)) ∙ ap (flat_map (λ m. cover f m qs)) (sym (cover_end n))
  cover_append (p ∷ ps) qs n = go (f p) refl (cover_append ps qs (with_cell n (cell_of p)))
    where
      go : (b : Bool) → f p ≡ b → cover f (with_cell n (cell_of p)) (ps ++ qs) ≡ flat_map (λ m. cover f m qs) (cover f (with_cell n (cell_of p)) ps) → cover f n (p ∷ ps ++ qs) ≡ flat_map (λ m. cover f m qs) (cover f n (p ∷ ps))
      go true e rest = cover_free n p (ps ++ qs) e ∙ rest ∙ ap (flat_map (λ m. cover f m qs)) (sym (cover_free n p ps e))
      go false e rest = cover_blocked n p (ps ++ qs) e ∙ ap (flat_map (λ m. cover f m qs)) (sym (cover_blocked n p ps e))

pub cover_ext : (f g : Position → Bool) → ((p : Position) → f p ≡ g p) → (n : ℕ) (ps : List Position) → cover f n ps ≡ cover g n ps
cover_ext f g h n [] = cover_end f n ∙ sym (cover_end g n)
cover_ext f g h n (p ∷ ps) = go (f p) refl (cover_ext f g h (with_cell n (cell_of p)) ps)
  where
    go : (b : Bool) → f p ≡ b → cover f (with_cell n (cell_of p)) ps ≡ cover g (with_cell n (cell_of p)) ps → cover f n (p ∷ ps) ≡ cover g n (p ∷ ps)
    go true e rest = cover_free f n p ps e ∙ rest ∙ sym (cover_free g n p ps (sym (h p) ∙ e))
    go false e rest = cover_blocked f n p ps e ∙ sym (cover_blocked g n p ps (sym (h p) ∙ e))

-- ---- all at once

pub cover_all : (f : Position → Bool) (n : ℕ) (ps : List Position) → ((p : Position) → Mem p ps → So (f p)) → cover f n ps ≡ with_cells n ps ∷ []
unfolding with_cells
cover_all f n [] h = cover_end f n
cover_all f n (p ∷ ps) h = cover_free f n p ps (h p (here refl)) ∙ cover_all f (with_cell n (cell_of p)) ps (λ q m. h q (there m))

cover_parts : (f : Position → Bool) (n : ℕ) (ps : List Position) (m : ℕ) → Mem m (cover f n ps) → ((p : Position) → Mem p ps → So (f p)) × (m ≡ with_cells n ps)
unfolding with_cells
cover_parts f n [] m k = (λ p e. absurd (not-nil e), eq_of_singleton (subst (Mem m) (cover_end f n) k))
cover_parts f n (p ∷ ps) m k = go (f p) refl (cover_parts f (with_cell n (cell_of p)) ps m)
  where
    go : (b : Bool) → f p ≡ b → (Mem m (cover f (with_cell n (cell_of p)) ps) → ((q : Position) → Mem q ps → So (f q)) × (m ≡ with_cells (with_cell n (cell_of p)) ps)) → ((q : Position) → Mem q (p ∷ ps) → So (f q)) × (m ≡ with_cells (with_cell n (cell_of p)) ps)
    go true e rest =
        let r = rest (subst (Mem m) (cover_free f n p ps e) k) in
        (λ q i. ⊎_elim (λ s. ap f s ∙ e) (λ j. r.0 q j) (cases_cons i), r.1)
    go false e rest = absurd (not-nil (subst (Mem m) (cover_blocked f n p ps e) k))

pub mem_cover : (f : Position → Bool) (n : ℕ) (ps : List Position) (m : ℕ) → Mem m (cover f n ps) ↔ (((p : Position) → Mem p ps → So (f p)) × (m ≡ with_cells n ps))
mem_cover f n ps m = (cover_parts f n ps m, λ h. subst (Mem m) (sym (cover_all f n ps h.0)) (here h.1))

pub length_cover : (f : Position → Bool) (n : ℕ) (ps : List Position) → length (cover f n ps) ≤ 1
unfolding cover
length_cover f n ps = go (any (λ p. not (f p)) ps)
  where
    go : (b : Bool) → length {A = ℕ} (cond b [] (with_cells n ps ∷ [])) ≤ 1
    go true = omega arith
    go false = omega arith

-- ---- the cells of the set: those of the set before, and those at the positions

pub bit_with_cells_old : (n : ℕ) (ps : List Position) (c : ℕ) → bit n c ≡ 1 → bit (with_cells n ps) c ≡ 1
unfolding with_cells
bit_with_cells_old n [] c e = e
bit_with_cells_old n (p ∷ ps) c e = bit_with_cells_old (with_cell n (cell_of p)) ps c (go (ℕ_discrete c (cell_of p)))
  where
    go : Dec (c ≡ cell_of p) → bit (with_cell n (cell_of p)) c ≡ 1
    go (yes q) = ap (λ (m : ℕ). bit m c) (with_cell_old n (cell_of p) (ap (bit n) (sym q) ∙ e)) ∙ e
    go (no q) = bit_with_cell_other n (cell_of p) c q ∙ e

pub bit_with_cells_new : (n : ℕ) (ps : List Position) (p : Position) → Mem p ps → cell_of p < 256 → bit (with_cells n ps) (cell_of p) ≡ 1
unfolding with_cells
bit_with_cells_new n [] p m h = absurd (not-nil m)
bit_with_cells_new n (q ∷ ps) p m h =
    ⊎_elim
    (λ e. bit_with_cells_old (with_cell n (cell_of q)) ps (cell_of p) (ap (λ (x : Position). bit (with_cell n (cell_of x)) (cell_of p)) (sym e) ∙ bit_with_cell_same n (cell_of p) h))
    (λ k. bit_with_cells_new (with_cell n (cell_of q)) ps p k h)
    (cases_cons m)

pub bit_with_cells_cases : (n : ℕ) (ps : List Position) (c : ℕ) → bit (with_cells n ps) c ≡ 1 → (bit n c ≡ 1) ⊎ ((p : Position) × Mem p ps × (cell_of p ≡ c))
unfolding with_cells
bit_with_cells_cases n [] c e = inl e
bit_with_cells_cases n (p ∷ ps) c e =
    ⊎_elim (λ b. go b (ℕ_discrete c (cell_of p))) (λ r. inr (r.0, there r.1, r.2)) (bit_with_cells_cases (with_cell n (cell_of p)) ps c e)
  where
    go : bit (with_cell n (cell_of p)) c ≡ 1 → Dec (c ≡ cell_of p) → (bit n c ≡ 1) ⊎ ((q : Position) × Mem q (p ∷ ps) × (cell_of q ≡ c))
    go b (yes q) = inr (p, here refl, sym q)
    go b (no q) = inl (sym (bit_with_cell_other n (cell_of p) c q) ∙ b)

-- past the cells nothing is added
pub bit_with_cells_past : (n : ℕ) (ps : List Position) (c : ℕ) → 256 ≤ c → bit (with_cells n ps) c ≡ bit n c
unfolding with_cells
bit_with_cells_past n [] c h = refl
bit_with_cells_past n (p ∷ ps) c h = bit_with_cells_past (with_cell n (cell_of p)) ps c h ∙ go (ℕ_discrete c (cell_of p))
  where
    go : Dec (c ≡ cell_of p) → bit (with_cell n (cell_of p)) c ≡ bit n c
    go (yes q) = ap (λ (m : ℕ). bit m c) (sym (with_cell_past n (cell_of p) (omega arith)))
    go (no q) = bit_with_cell_other n (cell_of p) c q

pub with_cells_lt : (n : ℕ) (ps : List Position) → n < 2 ^ 256 → with_cells n ps < 2 ^ 256
unfolding with_cells
with_cells_lt n [] h = h
with_cells_lt n (p ∷ ps) h = with_cells_lt (with_cell n (cell_of p)) ps (go (dec_lt (cell_of p) 256))
  where
    go : Dec (cell_of p < 256) → with_cell n (cell_of p) < 2 ^ 256
    go (yes i) = with_cell_lt 256 n (cell_of p) h i
    go (no i) = subst (λ (m : ℕ). m < 2 ^ 256) (with_cell_past n (cell_of p) (omega arith)) h

-- the cells of a set that starts with none are those at the positions
pub bit_with_cells_iff : (ps : List Position) (c : ℕ) → c < 256 → (bit (with_cells 0 ps) c ≡ 1) ↔ ((p : Position) × Mem p ps × (cell_of p ≡ c))
bit_with_cells_iff ps c h = (
  λ e. ⊎_elim (λ b. absurd (omega (arith, zero_bit c))) (λ r. r) (bit_with_cells_cases 0 ps c e),
  λ r. ap (bit (with_cells 0 ps)) (sym r.2) ∙ bit_with_cells_new 0 ps r.0 r.1 (omega (arith, r.2)),
)

-- ---- the same positions in another order, or more than once, give the same set

pub with_cells_same : (ps qs : List Position) → ((p : Position) → Mem p ps → Mem p qs) → ((p : Position) → Mem p qs → Mem p ps) → with_cells 0 ps ≡ with_cells 0 qs
with_cells_same ps qs to from =
    bit_ext 256 (with_cells 0 ps) (with_cells 0 qs) (with_cells_lt 0 ps (pow_pos 256)) (with_cells_lt 0 qs (pow_pos 256)) (λ c h. same c h)
  where
    over : (xs ys : List Position) → ((p : Position) → Mem p xs → Mem p ys) → (c : ℕ) → c < 256 → bit (with_cells 0 xs) c ≡ 1 → bit (with_cells 0 ys) c ≡ 1
    over xs ys h c i e = let r = (bit_with_cells_iff xs c i).0 e in (bit_with_cells_iff ys c i).1 (r.0, h r.0 r.1, r.2)

    same : (c : ℕ) → c < 256 → bit (with_cells 0 ps) c ≡ bit (with_cells 0 qs) c
    same c h = go (ℕ_discrete (bit (with_cells 0 ps) c) 1) (ℕ_discrete (bit (with_cells 0 qs) c) 1)
      where
        go : Dec (bit (with_cells 0 ps) c ≡ 1) → Dec (bit (with_cells 0 qs) c ≡ 1) → bit (with_cells 0 ps) c ≡ bit (with_cells 0 qs) c
        go (yes a) b = a ∙ sym (over ps qs to c h a)
        go (no a) (yes b) = absurd (a (over qs ps from c h b))
        go (no a) (no b) = omega (arith, bit_le (with_cells 0 ps) c, bit_le (with_cells 0 qs) c)

pub cover_same : (f : Position → Bool) (ps qs : List Position) → ((p : Position) → Mem p ps → Mem p qs) → ((p : Position) → Mem p qs → Mem p ps) → cover f 0 ps ≡ cover f 0 qs
unfolding cover
cover_same f ps qs to from =
    ap₂ (λ (b : Bool) (n : ℕ). cond b [] (n ∷ [])) (so_eq (any blocked ps) (any blocked qs) (over ps qs to) (over qs ps from)) (with_cells_same ps qs to from)
  where
    blocked : Position → Bool
    blocked p = not (f p)

    over : (xs ys : List Position) → ((p : Position) → Mem p xs → Mem p ys) → So (any blocked xs) → So (any blocked ys)
    over xs ys h e = let r = any_some blocked xs e in any_true blocked ys r.0 (h r.0 r.1) r.2

-- ---- the one offset that takes a position to another

pub offset_takes : (p q : Position) → shift p (offset p q) ≡ q
offset_takes p q = ap₂ at (go p.row q.row) (go p.col q.col)
  where
    go : (x y : ℤ) → x +ℤ (y +ℤ neg_ℤ x) ≡ y
    go x y = +ℤ_comm x (y +ℤ neg_ℤ x) ∙ -ℤ-+ℤ_cancel y x

pub offset_only : (p q d : Position) → shift p d ≡ q → d ≡ offset p q
offset_only p q d e =
    ap₂ at (go p.row q.row d.row (ap (λ (x : Position). x.row) e)) (go p.col q.col d.col (ap (λ (x : Position). x.col) e))
  where
    go : (x y z : ℤ) → x +ℤ z ≡ y → z ≡ y +ℤ neg_ℤ x
    go x y z h = sym (ap (λ (k : ℤ). k +ℤ neg_ℤ x) (sym h ∙ +ℤ_comm x z) ∙ +ℤ-neg_ℤ_cancel z x)

-- ---- a tile put down by its point j covers what its moved cells do

-- a step back and on
step_back : (q : Position) (code : ℕ) → shift (shift q (step (opposite code))) (step code) ≡ q
step_back q code =
    ap (λ (d : Position). shift (shift q d) (step code)) (step_opposite code)
    ∙ ap₂ at (-ℤ-+ℤ_cancel q.row (step code).row) (-ℤ-+ℤ_cancel q.col (step code).col)

point_zero : (p : Position) (path : Path) → get_or (points p path) 0 origin ≡ p
unfolding points
point_zero p [] = refl
point_zero p (code ∷ path) = refl

point_suc : (p : Position) (path : Path) (j : ℕ) → j < length path → get_or (points p path) (suc j) origin ≡ shift (get_or (points p path) j origin) (step (get_or path j 0))
unfolding points
point_suc p [] j h = absurd (omega arith)
point_suc p (code ∷ path) zero h = point_zero (shift p (step code)) path
point_suc p (code ∷ path) (suc j) h = point_suc (shift p (step code)) path j (omega arith)

points_onward : (p : Position) (path : Path) → points p path ≡ p ∷ onward p path
unfolding points onward
points_onward p [] = refl
points_onward p (code ∷ path) = ap (λ (l : List Position). p ∷ l) (points_onward (shift p (step code)) path)

-- the points from point j on, back and on, and from point j + 1 on
walked_zero : (path : Path) (q : Position) → walked path 0 q ≡ points q path
unfolding walked
walked_zero path q = sym (points_onward q path)

walked_suc : (f : Position → Bool) (path : Path) (j : ℕ) (q : Position) → j < length path → cover f 0 (walked path (suc j) q) ≡ cover f 0 (walked path j (shift q (step (opposite (get_or path j 0)))))
unfolding walked
walked_suc f path j q h =
    cover_same f (q ∷ front ++ rest) (front ++ q ∷ rest) (λ p m. moved_back p m) (λ p m. moved_front p m)
    ∙ ap (λ (l : List Position). cover f 0 (front ++ l)) (sym next)
  where
    code : ℕ
    code = get_or path j 0

    before : Position
    before = shift q (step (opposite code))

    front : List Position
    front = before ∷ back before path j

    rest : List Position
    rest = onward q (drop (suc j) path)

    next : onward before (drop j path) ≡ q ∷ rest
    next = ap (onward before) (drop-cons path j 0 h) ∙ ap (λ (p : Position). p ∷ onward p (drop (suc j) path)) (step_back q code)

    moved_back : (p : Position) → Mem p (q ∷ front ++ rest) → Mem p (front ++ q ∷ rest)
    moved_back p m =
        ⊎_elim (λ e. append_right front (here e)) (λ k. ⊎_elim (λ a. append_left (q ∷ rest) a) (λ a. append_right front (there a)) (append_cases front k)) (cases_cons m)

    moved_front : (p : Position) → Mem p (front ++ q ∷ rest) → Mem p (q ∷ front ++ rest)
    moved_front p m =
        ⊎_elim (λ a. there (append_left rest a)) (λ k. ⊎_elim (λ e. here e) (λ a. there (append_right front a)) (cases_cons k)) (append_cases front m)

walked_points : (f : Position → Bool) (path : Path) (j : ℕ) (q : Position) → j ≤ length path → cover f 0 (walked path j q) ≡ cover f 0 (points (offset (point_at path j) q) path)
walked_points f path zero q h =
    let start : q ≡ offset (point_at path 0) q = offset_only (point_at path 0) q q (ap (λ (p : Position). shift p q) (point_zero origin path) ∙ shift_origin q) in
    ap (cover f 0) (walked_zero path q) ∙ ap (λ (d : Position). cover f 0 (points d path)) start
walked_points f path (suc j) q h =
    let before : Position = shift q (step (opposite (get_or path j 0))) in
    let d : Position = offset (point_at path j) before in
    let same : d ≡ offset (point_at path (suc j)) q =
    offset_only (point_at path (suc j)) q d
    (ap (λ (p : Position). shift p d) (point_suc origin path j (omega arith))
    ∙ shift_shift (point_at path j) (step (get_or path j 0)) d
    ∙ ap (λ (p : Position). shift p (step (get_or path j 0))) (offset_takes (point_at path j) before)
    ∙ step_back q (get_or path j 0)) in
    walked_suc f path j q (omega arith) ∙ walked_points f path j before (omega arith) ∙ ap (λ (x : Position). cover f 0 (points x path)) same

pub walked_moved : (f : Position → Bool) (path : Path) (j : ℕ) (q : Position) → j ≤ length path → cover f 0 (walked path j q) ≡ cover f 0 (moved (offset (point_at path j) q) path)
walked_moved f path j q h =
    let d : Position = offset (point_at path j) q in
    walked_points f path j q h
    ∙ cover_same f (points d path) (firsts same_position (points d path)) (λ p. (mem_firsts same_position same_position_iff (points d path) p).1) (λ p. (mem_firsts same_position same_position_iff (points d path) p).0)
    ∙ ap (cover f 0) (cells_shift d path)

-- ---- a fit is the piece of a tile that fits

pub fit_at_piece : (b : Board) (path : Path) (j cell n : ℕ) → Mem n (fit_at b path j cell) → Fits b path (offset (point_at path j) (position_of cell)) × (n ≡ with_cells 0 (moved (offset (point_at path j) (position_of cell)) path))
unfolding fit_at
fit_at_piece b path j cell n m = (mem_cover (free_at b) 0 (moved (offset (point_at path j) (position_of cell)) path) n).0 m

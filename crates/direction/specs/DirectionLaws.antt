-- Laws of the direction codes: the tables of `Direction` say what their names say, in the plane (`step_opposite`, `step_rotate`, `step_reflect`); the
-- turns and reflections of the codes are those of a square; a step along an edge is one of the codes 0 to 3. Assumes nothing.
use Rattle.std.specs.Prelude.{◌≡◌, refl, Bool, true, false, ◌&&◌, List, [], ◌∷◌, ℕ, zero, suc, ◌≤◌, ◌<◌, ltb, neg_ℤ, get_or}
use Rattle.std.proofs.Math.Bool.{So, and-eq-true_iff}
use Rattle.std.proofs.lemmas.Bool.{false≢true}
use Rattle.std.proofs.Common.{arith, le-ltb, lt-ltb, ltb-true}
use Rattle.std.proofs.Math.ListN.{get_or-eq_default}
use Rattle.direction.specs.declared.Axis.{Axis}
use Rattle.direction.specs.declared.Axis.TheVariants as A
use Rattle.refusal.specs.Refusal.{refused, given}
use Rattle.direction.specs.Direction.{at, origin, steps, step, opposites, opposite, rotations, rotate, reflections, reflect, on_code, Position}
use Rattle.direction.specs.PositionLaws.{quarter_turn, mirror_rows, mirror_cols}

-- the reflection of the plane about an axis
abbrev pub mirror : Axis → Position → Position
mirror A.Vertical p = mirror_cols p
mirror A.Horizontal p = mirror_rows p

-- ---- a rule for every code, and for the numbers that are no code

pub by_code : (P : ℕ → Type 0) → P 0 → P 1 → P 2 → P 3 → P 4 → P 5 → P 6 → P 7 → ((c : ℕ) → 8 ≤ c → P c) → (c : ℕ) → P c
by_code P a b c d e f g h r zero = a
by_code P a b c d e f g h r (suc zero) = b
by_code P a b c d e f g h r (suc (suc zero)) = c
by_code P a b c d e f g h r (suc (suc (suc zero))) = d
by_code P a b c d e f g h r (suc (suc (suc (suc zero)))) = e
by_code P a b c d e f g h r (suc (suc (suc (suc (suc zero))))) = f
by_code P a b c d e f g h r (suc (suc (suc (suc (suc (suc zero)))))) = g
by_code P a b c d e f g h r (suc (suc (suc (suc (suc (suc (suc zero))))))) = h
by_code P a b c d e f g h r (suc (suc (suc (suc (suc (suc (suc (suc n)))))))) = r (suc (suc (suc (suc (suc (suc (suc (suc n)))))))) (omega arith)

pub on_code_past : {A : Type 0} (code : ℕ) (a : A) → 8 ≤ code → refused 5 ≡ on_code code a
unfolding on_code
on_code_past code a h = rw (le-ltb code 8 h)

pub on_code_given : {A : Type 0} (code : ℕ) (a : A) → code < 8 → on_code code a ≡ given a
unfolding on_code
on_code_given code a h = rw (lt-ltb code 8 h)

-- past the codes a step is none, and a turn changes nothing
step_past : (c : ℕ) → 8 ≤ c → step c ≡ origin
unfolding step
step_past c h = get_or-eq_default steps origin h

pub opposite_past : (c : ℕ) → 8 ≤ c → opposite c ≡ c
unfolding opposite
opposite_past c h = get_or-eq_default opposites c h

pub rotate_past : (c : ℕ) → 8 ≤ c → rotate c ≡ c
unfolding rotate
rotate_past c h = get_or-eq_default rotations c h

pub reflect_past : (x : Axis) (c : ℕ) → 8 ≤ c → reflect x c ≡ c
unfolding reflect
reflect_past A.Vertical c h = get_or-eq_default (reflections A.Vertical) c h
reflect_past A.Horizontal c h = get_or-eq_default (reflections A.Horizontal) c h

-- ---- in the plane

pub step_opposite : (c : ℕ) → step (opposite c) ≡ at (neg_ℤ (step c).row) (neg_ℤ (step c).col)
unfolding step opposite
step_opposite =
    by_code (λ c. step (opposite c) ≡ at (neg_ℤ (step c).row) (neg_ℤ (step c).col)) refl refl refl refl refl refl refl refl
    (λ c h. rw (opposite_past c h, step_past c h))

pub step_rotate : (c : ℕ) → step (rotate c) ≡ quarter_turn (step c)
unfolding step rotate
step_rotate =
    by_code (λ c. step (rotate c) ≡ quarter_turn (step c)) refl refl refl refl refl refl refl refl (λ c h. rw (rotate_past c h, step_past c h))

pub step_reflect : (x : Axis) (c : ℕ) → step (reflect x c) ≡ mirror x (step c)
unfolding step reflect
step_reflect A.Vertical =
    by_code (λ c. step (reflect A.Vertical c) ≡ mirror_cols (step c)) refl refl refl refl refl refl refl refl
    (λ c h. rw (reflect_past A.Vertical c h, step_past c h))
step_reflect A.Horizontal =
    by_code (λ c. step (reflect A.Horizontal c) ≡ mirror_rows (step c)) refl refl refl refl refl refl refl refl
    (λ c h. rw (reflect_past A.Horizontal c h, step_past c h))

-- ---- the symmetries of a square

pub rotate_four : (c : ℕ) → rotate (rotate (rotate (rotate c))) ≡ c
unfolding rotate
rotate_four =
    by_code (λ c. rotate (rotate (rotate (rotate c))) ≡ c) refl refl refl refl refl refl refl refl
    (λ c h. rw (rotate_past c h, rotate_past c h, rotate_past c h, rotate_past c h))

pub reflect_reflect : (c : ℕ) → reflect A.Horizontal (reflect A.Horizontal c) ≡ c
unfolding reflect
reflect_reflect =
    by_code (λ c. reflect A.Horizontal (reflect A.Horizontal c) ≡ c) refl refl refl refl refl refl refl refl
    (λ c h. rw (reflect_past A.Horizontal c h, reflect_past A.Horizontal c h))

-- a reflection takes a turn to the turn back
pub reflect_rotate : (c : ℕ) → rotate (reflect A.Horizontal (rotate c)) ≡ reflect A.Horizontal c
unfolding rotate reflect
reflect_rotate =
    by_code (λ c. rotate (reflect A.Horizontal (rotate c)) ≡ reflect A.Horizontal c) refl refl refl refl refl refl refl refl
    (λ c h. rw (rotate_past c h, reflect_past A.Horizontal c h, rotate_past c h))

-- the other reflection is half a turn more
pub reflect_vertical : (c : ℕ) → reflect A.Vertical c ≡ rotate (rotate (reflect A.Horizontal c))
unfolding rotate reflect
reflect_vertical =
    by_code (λ c. reflect A.Vertical c ≡ rotate (rotate (reflect A.Horizontal c))) refl refl refl refl refl refl refl refl
    (λ c h. rw (reflect_past A.Vertical c h, reflect_past A.Horizontal c h, rotate_past c h, rotate_past c h))

-- no code is its own quarter, half or three-quarter turn
pub rotate_moves : (c : ℕ) → c < 8 → (rotate c ≡ c → ⊥) × (rotate (rotate c) ≡ c → ⊥) × (rotate (rotate (rotate c)) ≡ c → ⊥)
unfolding rotate
rotate_moves =
    by_code (λ c. c < 8 → (rotate c ≡ c → ⊥) × (rotate (rotate c) ≡ c → ⊥) × (rotate (rotate (rotate c)) ≡ c → ⊥))
    (λ _. (λ e. omega arith, λ e. omega arith, λ e. omega arith)) (λ _. (λ e. omega arith, λ e. omega arith, λ e. omega arith))
    (λ _. (λ e. omega arith, λ e. omega arith, λ e. omega arith)) (λ _. (λ e. omega arith, λ e. omega arith, λ e. omega arith))
    (λ _. (λ e. omega arith, λ e. omega arith, λ e. omega arith)) (λ _. (λ e. omega arith, λ e. omega arith, λ e. omega arith))
    (λ _. (λ e. omega arith, λ e. omega arith, λ e. omega arith)) (λ _. (λ e. omega arith, λ e. omega arith, λ e. omega arith))
    (λ c h i. absurd (omega arith))

-- ---- codes stay codes, and the codes of the edges, 0 to 3, stay those

-- the first k entries of a table are below n
abbrev first_below : ℕ → ℕ → List ℕ → Bool
first_below zero n xs = true
first_below (suc k) n [] = false
first_below (suc k) n (x ∷ xs) = ltb x n && first_below k n xs

entry_lt : (k n : ℕ) (xs : List ℕ) (d : ℕ) → So (first_below k n xs) → (c : ℕ) → c < k → get_or xs c d < n
entry_lt zero n xs d t c h = absurd (omega arith)
entry_lt (suc k) n [] d t c h = absurd (false≢true t)
entry_lt (suc k) n (x ∷ xs) d t zero h = ltb-true x n ((and-eq-true_iff (ltb x n) (first_below k n xs)).0 t).0
entry_lt (suc k) n (x ∷ xs) d t (suc c) h = entry_lt k n xs d ((and-eq-true_iff (ltb x n) (first_below k n xs)).0 t).1 c (omega arith)

pub opposite_lt : (c : ℕ) → c < 8 → opposite c < 8
unfolding opposite
opposite_lt c = entry_lt 8 8 opposites c refl c

pub rotate_lt : (c : ℕ) → c < 8 → rotate c < 8
unfolding rotate
rotate_lt c = entry_lt 8 8 rotations c refl c

pub reflect_lt : (x : Axis) (c : ℕ) → c < 8 → reflect x c < 8
unfolding reflect
reflect_lt A.Vertical c = entry_lt 8 8 (reflections A.Vertical) c refl c
reflect_lt A.Horizontal c = entry_lt 8 8 (reflections A.Horizontal) c refl c

pub rotate_edge : (c : ℕ) → c < 4 → rotate c < 4
unfolding rotate
rotate_edge c = entry_lt 4 4 rotations c refl c

pub reflect_edge : (x : Axis) (c : ℕ) → c < 4 → reflect x c < 4
unfolding reflect
reflect_edge A.Vertical c = entry_lt 4 4 (reflections A.Vertical) c refl c
reflect_edge A.Horizontal c = entry_lt 4 4 (reflections A.Horizontal) c refl c

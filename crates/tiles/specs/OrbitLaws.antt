-- Laws of the orbit: it has 1, 4 or 8 tiles, 1 only for the empty path; it is closed under the turn and both reflections; it is the orbit of each of its
-- tiles; what a turn and a reflection keep, as the number of cells and being edge-joined, all its tiles share. Rests on tile's `PathLaws`. Assumes nothing.
use Rattle.std.specs.Prelude.{◌≡◌, refl, ◌⊎◌, ◌↔◌, Bool, true, false, ℕ, zero, suc, ◌+◌, ◌≤◌, ◌<◌, eqb, length}
use Rattle.std.proofs.Common.{sym, ap₂, ◌∙◌, subst, inl, inr, ⊎_elim, arith, eq-eqb, eqb-true, length-append}
use Rattle.std.proofs.Math.Path.{ap}
use Rattle.std.proofs.Math.Bool.{So, and-eq-true_iff}
use Rattle.std.proofs.lemmas.Bool.{false≢true}
use mathlib.Core.List.Memᴰ.{append_cases}
use mathlib.Core.List.Memᴰ.{append_left}
use mathlib.Core.List.Memᴰ.{append_right}
use mathlib.Core.List.Memᴰ.{cases_cons}
use mathlib.Core.List.Memᴰ.{head as here}
use mathlib.Core.List.Memᴰ.{not-nil}
use mathlib.Core.List.Memᴰ.{tail as there}
use mathlib.Core.List.{List, [], ◌∷◌, ◌++◌, map, Memᴰ as Mem}
use Rattle.std.proofs.lemmas.List.{length-map}
use Rattle.cells.specs.FirstsLaws.{Once, holds_iff, mem_firsts, once_firsts, add_firsts_append, add_firsts_old, add_firsts_new, length_add_firsts, Tells}
use Rattle.cells.specs.Lists.{holds, add_firsts, firsts}
use Rattle.direction.specs.declared.Axis.{Axis}
use Rattle.direction.specs.declared.Axis.TheVariants as A
use Rattle.direction.specs.Direction.{rotate, reflect}
use Rattle.tile.specs.Path.{Path, codes_ok, cell_count, EdgeJoined, rotated, reflected}
use Rattle.tiles.specs.Paths.{EqualCounts, turns, same_path, orbit}
use Rattle.direction.specs.DirectionLaws.{rotate_moves, rotate_lt, reflect_lt}
use Rattle.tile.specs.PathLaws.{rotate_symmetry, reflect_symmetry, cell_count_map, edge_joined_map, codes_ok_cons, rotated_four, reflected_reflected, reflected_vertical, reflected_rotated, codes_ok_rotated, codes_ok_reflected}

abbrev Horizontal : Axis
Horizontal = A.Horizontal

-- ---- the test tells equal paths

pub same_path_iff : Tells same_path
unfolding same_path
same_path_iff [] [] = (λ e. refl, λ e. refl)
same_path_iff [] (d ∷ ds) = (λ e. absurd (false≢true e), λ e. absurd (omega (arith, ap length e)))
same_path_iff (c ∷ cs) [] = (λ e. absurd (false≢true e), λ e. absurd (omega (arith, ap length e)))
same_path_iff (c ∷ cs) (d ∷ ds) =
    let both = and-eq-true_iff (eqb c d) (same_path cs ds) in (
      λ e. let h = both.0 e in ap₂ ◌∷◌ (eqb-true c d h.0) ((same_path_iff cs ds).0 h.1),
      λ e. both.1 (eq-eqb c d (cc), (same_path_iff cs ds).1 (cc)),
    )

-- ---- turns

abbrev Four : Path → Path → Type 0
Four q p = (q ≡ p) ⊎ ((q ≡ rotated p) ⊎ ((q ≡ rotated (rotated p)) ⊎ (q ≡ rotated (rotated (rotated p)))))

mem_four : (q p : Path) → Mem q (turns 4 p) ↔ Four q p
unfolding turns
mem_four q p = (
  λ m. ⊎_elim (λ e. inl e) (λ m1. ⊎_elim (λ e. inr (inl e)) (λ m2. ⊎_elim (λ e. inr (inr (inl e))) (λ m3. ⊎_elim (λ e. inr (inr (inr e))) (λ m4. absurd (not-nil m4))
      (cases_cons m3)) (cases_cons m2)) (cases_cons m1)) (cases_cons m),
  ⊎_elim (λ e. here e) (⊎_elim (λ e. there (here e)) (⊎_elim (λ e. there (there (here e))) (λ e. there (there (there (here e)))))),
)

turns_rotated : (q p : Path) → Mem q (turns 4 p) → Mem (rotated q) (turns 4 p)
turns_rotated q p m =
    (mem_four (rotated q) p).1
    (⊎_elim (λ e. inr (inl (ap rotated e))) (⊎_elim (λ e. inr (inr (inl (ap rotated e)))) (⊎_elim (λ e. inr (inr (inr (ap rotated e)))) (λ e. inl (ap rotated e ∙ rotated_four p))))
    ((mem_four q p).0 m))

-- the turns of a turn of p are turns of p
pub turns_all : (P : Path → Type 0) → ((q : Path) → P q → P (rotated q)) → (k : ℕ) (p : Path) → P p → (q : Path) → Mem q (turns k p) → P q
unfolding turns
turns_all P r zero p h q m = absurd (not-nil m)
turns_all P r (suc k) p h q m = ⊎_elim (λ e. subst P (sym e) h) (λ n. turns_all P r k (rotated p) (r p h) q n) (cases_cons m)

turns_self : (p : Path) → Mem p (turns 4 p)
turns_self p = (mem_four p p).1 (inl refl)

turns_back : (q p : Path) → Mem q (turns 4 p) → Mem p (turns 4 q)
turns_back q p m =
    (mem_four p q).1
    (⊎_elim (λ e. inl (sym e))
    (⊎_elim (λ e. inr (inr (inr (sym (ap (λ (x : Path). rotated (rotated (rotated x))) e ∙ rotated_four p)))))
    (⊎_elim (λ e. inr (inr (inl (sym (ap (λ (x : Path). rotated (rotated x)) e ∙ rotated_four p))))) (λ e. inr (inl (sym (ap rotated e ∙ rotated_four p))))))
    ((mem_four q p).0 m))

-- a reflection takes the turns of p to those of its reflection
turns_reflected : (q p : Path) → Mem q (turns 4 p) → Mem (reflected Horizontal q) (turns 4 (reflected Horizontal p))
turns_reflected q p m =
    turns_all (λ x. Mem (reflected Horizontal x) (turns 4 (reflected Horizontal p)))
    (λ x h. subst (λ (y : Path). Mem y (turns 4 (reflected Horizontal p))) (sym (reflected_rotated x))
    (turns_rotated _ _ (turns_rotated _ _ (turns_rotated _ _ h))))
    4 p (turns_self (reflected Horizontal p)) q m

-- ---- the orbit and what its tiles share

pub mem_orbit : (q p : Path) → Mem q (orbit p) ↔ (Mem q (turns 4 p) ⊎ Mem q (turns 4 (reflected Horizontal p)))
unfolding orbit
mem_orbit q p =
    let r = mem_firsts same_path same_path_iff (turns 4 p ++ turns 4 (reflected Horizontal p)) q in (
      λ m. append_cases (turns 4 p) (r.0 m),
      λ s. r.1 (⊎_elim (λ m. append_left (turns 4 (reflected Horizontal p)) m) (λ m. append_right (turns 4 p) m) s),
    )

-- each tile stands once
pub once_orbit : (p : Path) → Once (orbit p)
unfolding orbit
once_orbit p = once_firsts same_path same_path_iff (turns 4 p ++ turns 4 (reflected Horizontal p))

-- what holds of p, and is kept by the turn and the reflection, holds of every tile of its orbit
pub orbit_all : (P : Path → Type 0) → ((q : Path) → P q → P (rotated q)) → ((q : Path) → P q → P (reflected Horizontal q)) → (p : Path) → P p → (q : Path) → Mem q (orbit p) → P q
orbit_all P r h p x q m = ⊎_elim (λ k. turns_all P r 4 p x q k) (λ k. turns_all P r 4 (reflected Horizontal p) (h p x) q k) ((mem_orbit q p).0 m)

pub orbit_self : (p : Path) → Mem p (orbit p)
orbit_self p = (mem_orbit p p).1 (inl (turns_self p))

-- closed under the turn and both reflections
pub orbit_rotated : (p q : Path) → Mem q (orbit p) → Mem (rotated q) (orbit p)
orbit_rotated p q m = (mem_orbit (rotated q) p).1 (⊎_elim (λ k. inl (turns_rotated q p k)) (λ k. inr (turns_rotated q (reflected Horizontal p) k)) ((mem_orbit q p).0 m))

orbit_horizontal : (p q : Path) → Mem q (orbit p) → Mem (reflected Horizontal q) (orbit p)
orbit_horizontal p q m =
    (mem_orbit (reflected Horizontal q) p).1
    (⊎_elim (λ k. inr (turns_reflected q p k))
    (λ k. inl (subst (λ (x : Path). Mem (reflected Horizontal q) (turns 4 x)) (reflected_reflected p) (turns_reflected q (reflected Horizontal p) k)))
    ((mem_orbit q p).0 m))

pub orbit_reflected : (axis : Axis) (p q : Path) → Mem q (orbit p) → Mem (reflected axis q) (orbit p)
orbit_reflected A.Horizontal p q m = orbit_horizontal p q m
orbit_reflected A.Vertical p q m =
    subst (λ (x : Path). Mem x (orbit p)) (sym (reflected_vertical q)) (orbit_rotated p _ (orbit_rotated p _ (orbit_horizontal p q m)))

-- the orbit of a tile of the orbit is the orbit
pub orbit_within : (p q : Path) → Mem q (orbit p) → (x : Path) → Mem x (orbit q) → Mem x (orbit p)
orbit_within p q m x = orbit_all (λ y. Mem y (orbit p)) (λ y. orbit_rotated p y) (λ y. orbit_horizontal p y) q m x

pub orbit_back : (p q : Path) → Mem q (orbit p) → Mem p (orbit q)
orbit_back p q m =
    orbit_all (λ y. Mem p (orbit y))
    (λ y h. orbit_within (rotated y) y
    (subst (λ (x : Path). Mem x (orbit (rotated y))) (rotated_four y) (orbit_rotated (rotated y) _ (orbit_rotated (rotated y) _ (orbit_rotated (rotated y) _ (orbit_self (rotated y))))))
    p h)
    (λ y h. orbit_within (reflected Horizontal y) y
    (subst (λ (x : Path). Mem x (orbit (reflected Horizontal y))) (reflected_reflected y) (orbit_horizontal (reflected Horizontal y) _ (orbit_self (reflected Horizontal y))))
    p h)
    p (orbit_self p) q m

-- equally many cells
pub orbit_cell_count : (p q : Path) → Mem q (orbit p) → cell_count q ≡ cell_count p
unfolding rotated reflected
orbit_cell_count p q m =
    orbit_all (λ y. cell_count y ≡ cell_count p) (λ y h. cell_count_map rotate _ rotate_symmetry y ∙ h) (λ y h. cell_count_map (reflect Horizontal) _ reflect_symmetry y ∙ h) p refl q m

pub orbit_equal_counts : (p : Path) → EqualCounts (orbit p)
orbit_equal_counts p s t m n = orbit_cell_count p s m ∙ sym (orbit_cell_count p t n)

-- edge-joined if one of them is
pub orbit_edge_joined : (p s t : Path) → Mem s (orbit p) → EdgeJoined s → Mem t (orbit p) → EdgeJoined t
unfolding rotated reflected
orbit_edge_joined p s t m h n =
    orbit_all EdgeJoined (λ y k. edge_joined_map rotate _ rotate_symmetry y k) (λ y k. edge_joined_map (reflect Horizontal) _ reflect_symmetry y k) s h t
    (orbit_within s p (orbit_back p s m) t n)

-- as long a path, of codes 0 to 7
pub orbit_length_path : (p q : Path) → Mem q (orbit p) → length q ≡ length p
unfolding rotated reflected
orbit_length_path p q m = orbit_all (λ y. length y ≡ length p) (λ y h. length-map y rotate ∙ h) (λ y h. length-map y (reflect Horizontal) ∙ h) p refl q m

pub orbit_codes_ok : (p q : Path) → So (codes_ok p) → Mem q (orbit p) → So (codes_ok q)
orbit_codes_ok p q h m = orbit_all (λ y. So (codes_ok y)) codes_ok_rotated (codes_ok_reflected Horizontal) p h q m

-- ---- how many

pub orbit_empty : orbit [] ≡ [] ∷ []
unfolding orbit
orbit_empty = refl

-- a path with a first code differs from its turns
abbrev Differs : Path → Type 0
Differs q = (q ≡ rotated q → ⊥) × (q ≡ rotated (rotated q) → ⊥) × (q ≡ rotated (rotated (rotated q)) → ⊥)

differs : (c : ℕ) (p : Path) → c < 8 → Differs (c ∷ p)
unfolding rotated
differs c p h =
    let m = rotate_moves c h in (
      λ k. let e : c ≡ rotate c = cc in m.0 (sym e),
      λ k. let e : c ≡ rotate (rotate c) = cc in m.1 (sym e),
      λ k. let e : c ≡ rotate (rotate (rotate c)) = cc in m.2 (sym e),
    )

once_turns : (p : Path) → Differs p → Differs (rotated p) → Differs (rotated (rotated p)) → Once (turns 4 p)
unfolding turns
once_turns p d e f = (
  λ m. ⊎_elim (λ q. d.0 q) (λ m1. ⊎_elim (λ q. d.1 q) (λ m2. ⊎_elim (λ q. d.2 q) (λ m3. not-nil m3) (cases_cons m2)) (cases_cons m1)) (cases_cons m),
  (
    λ m. ⊎_elim (λ q. e.0 q) (λ m1. ⊎_elim (λ q. e.1 q) (λ m2. not-nil m2) (cases_cons m1)) (cases_cons m),
    (λ m. ⊎_elim (λ q. f.0 q) (λ m1. not-nil m1) (cases_cons m), (λ m. not-nil m, tt)),
  ),
)

once_four : (c : ℕ) (p : Path) → c < 8 → Once (turns 4 (c ∷ p))
unfolding rotated
once_four c p h =
    once_turns (c ∷ p) (differs c p h) (differs (rotate c) (map rotate p) (rotate_lt c h))
    (differs (rotate (rotate c)) (map rotate (map rotate p)) (rotate_lt (rotate c) (rotate_lt c h)))

pub length_turns : (k : ℕ) (p : Path) → length (turns k p) ≡ k
unfolding turns
length_turns zero p = refl
length_turns (suc k) p = ap suc (length_turns k (rotated p))

module _ (p : Path) (once : Once (turns 4 p)) (once' : Once (turns 4 (reflected Horizontal p))) where
  orbit_split : orbit p ≡ add_firsts same_path (turns 4 p) (turns 4 (reflected Horizontal p))
  unfolding orbit
  orbit_split =
      add_firsts_append same_path [] (turns 4 p) (turns 4 (reflected Horizontal p))
      ∙ ap (λ (l : List Path). add_firsts same_path l (turns 4 (reflected Horizontal p))) (add_firsts_new same_path same_path_iff [] (turns 4 p) once (λ y m k. not-nil k))

  four_or_eight : (length (orbit p) ≡ 4) ⊎ (length (orbit p) ≡ 8)
  four_or_eight = go (holds same_path (turns 4 p) (reflected Horizontal p)) refl
    where
      go : (b : Bool) → holds same_path (turns 4 p) (reflected Horizontal p) ≡ b → (length (orbit p) ≡ 4) ⊎ (length (orbit p) ≡ 8)
      go true e =
          let m = (holds_iff same_path same_path_iff (turns 4 p) (reflected Horizontal p)).0 e in
          inl
          (ap length orbit_split
          ∙ ap length (add_firsts_old same_path (turns 4 p) (turns 4 (reflected Horizontal p))
          (λ y k. (holds_iff same_path same_path_iff (turns 4 p) y).1 (turns_all (λ x. Mem x (turns 4 p)) (λ x. turns_rotated x p) 4 (reflected Horizontal p) m y k)))
          ∙ length_turns 4 p)
      go false e =
          inr
          (ap length orbit_split
          ∙ ap length (add_firsts_new same_path same_path_iff (turns 4 p) (turns 4 (reflected Horizontal p)) once'
          (λ y m k. false≢true (sym e ∙ (holds_iff same_path same_path_iff (turns 4 p) (reflected Horizontal p)).1
          (turns_all (λ x. Mem x (turns 4 p)) (λ x. turns_rotated x p) 4 y k (reflected Horizontal p) (turns_back y (reflected Horizontal p) m)))))
          ∙ length-append (turns 4 p) (turns 4 (reflected Horizontal p))
          ∙ ap₂ ◌+◌ (length_turns 4 p) (length_turns 4 (reflected Horizontal p)))

pub orbit_more : (c : ℕ) (p : Path) → c < 8 → (length (orbit (c ∷ p)) ≡ 4) ⊎ (length (orbit (c ∷ p)) ≡ 8)
unfolding reflected
orbit_more c p h = four_or_eight (c ∷ p) (once_four c p h) (once_four (reflect Horizontal c) (map (reflect Horizontal) p) (reflect_lt Horizontal c h))

-- 01: "1, 4 or 8 tiles"
pub orbit_length : (p : Path) → So (codes_ok p) → (length (orbit p) ≡ 1) ⊎ ((length (orbit p) ≡ 4) ⊎ (length (orbit p) ≡ 8))
orbit_length [] h = inl (ap length orbit_empty)
orbit_length (c ∷ p) h = inr (orbit_more c p (codes_ok_cons c p h).0)

-- at most 8, whatever the codes
pub orbit_length_le : (p : Path) → length (orbit p) ≤ 8
unfolding orbit firsts
orbit_length_le p =
    let k = (length_add_firsts same_path [] (turns 4 p ++ turns 4 (reflected Horizontal p))).1 in
    omega (arith, length-append (turns 4 p) (turns 4 (reflected Horizontal p)), length_turns 4 p, length_turns 4 (reflected Horizontal p))

-- A test of demand 3's condition on a tile, that computes: it is passed exactly by the tiles that are `EdgeJoined`. Assumes nothing.
use Rattle.std.specs.Prelude.{◌≡◌, refl, ◌↔◌, Bool, true, false, not, ◌||◌, ℕ, zero, suc, ◌≤◌, ◌<◌, leb}
use Rattle.std.proofs.Common.{sym, ap, ◌∙◌, ⊎_elim, arith, le-leb}
use Rattle.std.proofs.Math.Bool.{So}
use Rattle.std.proofs.lemmas.Bool.{false≢true, not-true, lt-leb}
use mathlib.Core.List.Memᴰ.{cases_cons}
use mathlib.Core.List.Memᴰ.{head as here}
use mathlib.Core.List.Memᴰ.{not-nil}
use mathlib.Core.List.Memᴰ.{tail as there}
use mathlib.Core.List.{List, [], ◌∷◌, Memᴰ as Mem}
use Rattle.std.proofs.Math.Decide.{dec_lt}
use Rattle.cells.specs.Lists.{any}
use Rattle.cells.specs.FirstsLaws.{any_true, any_some}
use Rattle.direction.specs.Direction.{Position, shift, same_position, step}
use Rattle.tile.specs.Path.{Path, cells, cell_count, Beside, EdgeJoined}
use Rattle.direction.specs.PositionLaws.{same_position_iff}

-- whether q is one step Up, Down, Left or Right from p
unfoldable pub beside : Position → Position → Bool
unfolding any same_position
beside p q = any (λ code. same_position q (shift p (step code))) (0 ∷ 1 ∷ 2 ∷ 3 ∷ [])

-- whether some cell shares no edge with another
unfoldable pub some_alone : List Position → Bool
unfolding beside
some_alone ps = any (λ p. not (any (beside p) ps)) ps

unfoldable pub edge_joined : Path → Bool
unfolding some_alone
edge_joined path = leb (cell_count path) 1 || not (some_alone (cells path))

-- ---- the test is right

beside_iff : (p q : Position) → So (beside p q) ↔ Beside p q
unfolding beside
beside_iff p q = (to, from)
  where
    codes : List ℕ
    codes = 0 ∷ 1 ∷ 2 ∷ 3 ∷ []

    test : ℕ → Bool
    test code = same_position q (shift p (step code))

    small : (code : ℕ) → Mem code codes → code < 4
    small code m =
        ⊎_elim (λ e. omega arith)
        (λ m1. ⊎_elim (λ e. omega arith) (λ m2. ⊎_elim (λ e. omega arith) (λ m3. ⊎_elim (λ e. omega arith) (λ m4. absurd (not-nil m4)) (cases_cons m3)) (cases_cons m2)) (cases_cons m1))
        (cases_cons m)

    among : (code : ℕ) → code < 4 → Mem code codes
    among zero h = here refl
    among (suc zero) h = there (here refl)
    among (suc (suc zero)) h = there (there (here refl))
    among (suc (suc (suc zero))) h = there (there (there (here refl)))
    among (suc (suc (suc (suc code)))) h = absurd (omega arith)

    to : So (any test codes) → Beside p q
    to e = let r = any_some test codes e in (r.0, small r.0 r.1, (same_position_iff q (shift p (step r.0))).0 r.2)

    from : Beside p q → So (any test codes)
    from b = any_true test codes b.0 (among b.0 b.1) ((same_position_iff q (shift p (step b.0))).1 b.2)

abbrev Joined : List Position → Type 0
Joined ps = (p : Position) → Mem p ps → (q : Position) × Mem q ps × Beside p q

joined_iff : (ps : List Position) → So (not (some_alone ps)) ↔ Joined ps
unfolding some_alone
joined_iff ps = (to, from)
  where
    alone : Position → Bool
    alone p = not (any (beside p) ps)

    to : So (not (any alone ps)) → Joined ps
    to e p m = go (any (beside p) ps) refl
      where
        go : (b : Bool) → any (beside p) ps ≡ b → (q : Position) × Mem q ps × Beside p q
        go true h = let r = any_some (beside p) ps h in (r.0, r.1, (beside_iff p r.0).0 r.2)
        go false h = absurd (false≢true (sym (not-true (any alone ps) e) ∙ any_true alone ps p m (ap not h)))

    from : Joined ps → So (not (any alone ps))
    from j = go (any alone ps) refl
      where
        go : (b : Bool) → any alone ps ≡ b → not (any alone ps) ≡ true
        go true h =
            let r = any_some alone ps h in
            let n = j r.0 r.1 in
            absurd (false≢true (sym (not-true (any (beside r.0) ps) r.2) ∙ any_true (beside r.0) ps n.0 n.1 ((beside_iff r.0 n.0).1 n.2)))
        go false h = ap not h

pub edge_joined_iff : (path : Path) → So (edge_joined path) ↔ EdgeJoined path
unfolding edge_joined
edge_joined_iff path = go (dec_lt (cell_count path) 2)
  where
    go : Dec (cell_count path < 2) → So (leb (cell_count path) 1 || not (some_alone (cells path))) ↔ EdgeJoined path
    go (yes h) = let one : cell_count path ≤ 1 = omega arith in (λ e two. absurd (omega arith), λ j. rw (le-leb (cell_count path) 1 one))
    go (no h) =
        let two : 1 < cell_count path = omega arith in
        let plain = lt-leb (cell_count path) 1 two in
        let rest = joined_iff (cells path) in
        (λ e _. rest.0 (rw plain at e), λ j. rw plain (rest.1 (j (omega arith))))

-- Small plots for examples: a choice by rank, the tiles of a list that fit, and a test that prunes, as a setting of `CellSets`. Its laws, and a
-- cutting given by a list, follow from tests that compute. Rests on `CellSetLaws` and `SequenceLaws`. Assumes nothing.
use Rattle.std.specs.Prelude.{◌≡◌, ◌↔◌, Bool, true, false, cond, ◌&&◌, ℕ, ◌+◌, ◌-◌, ◌^◌, ◌≤◌, ◌<◌, ltb}
use Rattle.std.proofs.Math.Path.{refl}
use Rattle.std.proofs.Common.{sym, ap, ◌∙◌, subst, ⊎_elim, lt_of_le_of_lt, arith}
use Rattle.std.proofs.Math.Logic.{inl}
use Rattle.std.proofs.Math.Bool.{So, and-eq-true_iff}
use Rattle.std.proofs.lemmas.Bool.{false≢true}
use mathlib.Core.List.Memᴰ.{cases_cons}
use mathlib.Core.List.Memᴰ.{head as here}
use mathlib.Core.List.Memᴰ.{not-nil}
use mathlib.Core.List.Memᴰ.{tail as there}
use mathlib.Core.List.{List, [], ◌∷◌, Memᴰ as Mem}
use Rattle.std.proofs.Math.Decide.{dec_lt}
use borrow.Author.Tests.{eqb-true, eq-eqb, ltb-true}
use Rattle.std.proofs.Math.Dec.{eqb}
use Rattle.cells.specs.Set.{bit, has_cell, size}
use Rattle.cells.specs.Parts.{intersection_of}
use Rattle.cells.specs.BitLaws.{Within, bit_le, zero_bit, bit_ext, bit_high}
use Rattle.cells.specs.SetLaws.{within_iff, within_le, has_cell_iff, bit_intersection_of, intersection_of_lt}
use Rattle.cells.specs.Lists.{any, holds, firsts, all_below}
use Rattle.cells.specs.FirstsLaws.{Once, any_some, holds_iff, mem_firsts, once_firsts}
use Rattle.cells.specs.ArrayLaws.{all_below_at}
use Rattle.cells.specs.MemberLaws.{eqb_tells}
use Rattle.covers.specs.Setting.{Setting, FitsOn, CuttingOf, Laws, SoundPruning, EqualSteps}
use Rattle.covers.proofs.SequenceLaws.{sequence_cutting, cutting_add}
use Rattle.covers.specs.CellSets.{Between, cell_setting, CellLaws}
use Rattle.covers.proofs.CellSetLaws.{bit_region, none_free, cell_laws, cell_steps}

-- ---- definitions

-- the elements of which a test holds
unfoldable pub keep : (ℕ → Bool) → List ℕ → List ℕ
keep test [] = []
keep test (x ∷ xs) = cond (test x) (x ∷ keep test xs) (keep test xs)

-- whether a test holds of every element
unfoldable pub all : (ℕ → Bool) → List ℕ → Bool
all test [] = true
all test (x ∷ xs) = test x && all test xs

-- the first element with the highest rank
unfoldable pub best : (ℕ → ℕ) → List ℕ → ℕ
unfolding any
best rank [] = 0
best rank (c ∷ cs) = cond (any (λ d. ltb (rank c) (rank d)) cs) (best rank cs) c

-- whether every cell of n is in m
unfoldable pub is_within : ℕ → ℕ → Bool
unfolding intersection_of
is_within n m = eqb (intersection_of n m) n

-- a plot: its region, the cells in the order in which they are looked at, the tiles at all their places, the rank of a cell on a board, and whether a
-- board is pruned
pub record Plot : Type 0 where
  pub region : ℕ
  pub cells : List ℕ
  pub tiles : List ℕ
  pub rank : ℕ → ℕ → ℕ
  pub prunes : ℕ → Bool

-- the free cell with the highest rank
unfoldable pub choose : Plot → ℕ → ℕ
unfolding best keep has_cell
choose t s = best (t.rank s) (keep (has_cell (t.region - s)) t.cells)

-- whether a piece covers the chosen cell and has free cells only
unfoldable pub fits_there : Plot → ℕ → ℕ → Bool
unfolding has_cell choose is_within
fits_there t s p = has_cell p (choose t s) && is_within p (t.region - s)

-- the tiles that do, unless the board is pruned
unfoldable pub fitting : Plot → ℕ → List ℕ
unfolding firsts keep fits_there
fitting t s = firsts eqb (cond (t.prunes s) [] (keep (fits_there t s) t.tiles))

unfoldable pub setting_of : Plot → Setting ℕ ℕ
unfolding cell_setting choose fitting
setting_of t = cell_setting t.region 0 (λ p. Mem p t.tiles) (choose t) (fitting t)

-- whether a cell of the region is looked at, and whether a tile has a cell
unfoldable pub is_listed : Plot → ℕ → Bool
unfolding has_cell holds
is_listed t c = cond (has_cell t.region c) (holds eqb t.cells c) true

unfoldable pub has_some : Plot → ℕ → Bool
unfolding any has_cell
has_some t p = any (has_cell p) t.cells

-- what is asked of a plot: at most 256 cells, all of them looked at, and no tile without a cell
unfoldable pub is_plot : Plot → Bool
unfolding all_below is_listed all has_some
is_plot t = ltb t.region (2 ^ 256) && (all_below (is_listed t) 256 && all (has_some t) t.tiles)

-- whether the pieces of a list are tiles that fit one after another and leave no cell free
unfoldable pub cuts : Plot → List ℕ → ℕ → Bool
unfolding holds is_within
cuts t [] s = eqb s t.region
cuts t (p ∷ ps) s = holds eqb t.tiles p && (is_within p (t.region - s) && cuts t ps (s + p))

-- ---- laws of the tests

mem_keep : (test : ℕ → Bool) (xs : List ℕ) (x : ℕ) → Mem x (keep test xs) ↔ (Mem x xs × So (test x))
unfolding keep
mem_keep test [] x = (λ m. absurd (not-nil m), λ h. absurd (not-nil h.0))
mem_keep test (y ∷ ys) x = go (test y) refl (mem_keep test ys x)
  where
    go : (b : Bool) → test y ≡ b → Mem x (keep test ys) ↔ (Mem x ys × So (test x))
        → Mem x (cond b (y ∷ keep test ys) (keep test ys)) ↔ (Mem x (y ∷ ys) × So (test x))
    go true e r = (
      λ m. ⊎_elim (λ q. (here q, ap test q ∙ e)) (λ k. (there (r.0 k).0, (r.0 k).1)) (cases_cons m),
      λ h. ⊎_elim (λ q. here q) (λ k. there (r.1 (k, h.1))) (cases_cons h.0),
    )
    go false e r = (
      λ m. (there (r.0 m).0, (r.0 m).1),
      λ h. ⊎_elim (λ q. absurd (false≢true (sym e ∙ ap test (sym q) ∙ h.1))) (λ k. r.1 (k, h.1)) (cases_cons h.0),
    )

all_at : (test : ℕ → Bool) (xs : List ℕ) (x : ℕ) → So (all test xs) → Mem x xs → So (test x)
unfolding all
all_at test [] x h m = absurd (not-nil m)
all_at test (y ∷ ys) x h m =
    let both = (and-eq-true_iff (test y) (all test ys)).0 h in
    ⊎_elim (λ q. ap test q ∙ both.0) (λ k. all_at test ys x both.1 k) (cases_cons m)

mem_best : (rank : ℕ → ℕ) (c : ℕ) (cs : List ℕ) → Mem (best rank (c ∷ cs)) (c ∷ cs)
unfolding best
mem_best rank c [] = here refl
mem_best rank c (d ∷ cs) = go (any (λ e. ltb (rank c) (rank e)) (d ∷ cs)) (mem_best rank d cs)
  where
    go : (b : Bool) → Mem (best rank (d ∷ cs)) (d ∷ cs) → Mem (cond b (best rank (d ∷ cs)) c) (c ∷ d ∷ cs)
    go true m = there m
    go false m = here refl

is_within_iff : (n m : ℕ) → m < 2 ^ 256 → So (is_within n m) ↔ Within n m
unfolding is_within
is_within_iff n m small = (λ h. to (eqb-true (intersection_of n m) n h), from)
  where
    to : intersection_of n m ≡ n → Within n m
    to e c = go (dec_lt c 256)
      where
        go : Dec (c < 256) → bit n c ≤ bit m c
        go (yes l) = omega (arith, ap (λ (x : ℕ). bit x c) e, bit_intersection_of n m c l)
        go (no l) = omega (arith, bit_high 256 n c (subst (λ (x : ℕ). x < 2 ^ 256) e (intersection_of_lt n m)) (omega arith))

    from : Within n m → So (eqb (intersection_of n m) n)
    from w =
        eq-eqb (intersection_of n m) n
        (bit_ext 256 (intersection_of n m) n (intersection_of_lt n m) (lt_of_le_of_lt (within_le n m w) small)
        (λ c l. bit_intersection_of n m c l ∙ omega (arith, w c)))

-- ---- the laws of a plot

-- a piece: the board is not pruned, and it is a tile that fits
mem_fitting : (t : Plot) (s p : ℕ) → Mem p (fitting t s) ↔ ((t.prunes s ≡ false) × Mem p t.tiles × So (fits_there t s p))
unfolding fitting
mem_fitting t s p =
    let r = go (t.prunes s) refl in
    let q = mem_firsts eqb eqb_tells (cond (t.prunes s) [] (keep (fits_there t s) t.tiles)) p in
    (λ m. r.0 (q.0 m), λ h. q.1 (r.1 h))
  where
    go : (b : Bool) → t.prunes s ≡ b
        → Mem p (cond b [] (keep (fits_there t s) t.tiles)) ↔ ((t.prunes s ≡ false) × Mem p t.tiles × So (fits_there t s p))
    go true e = (λ m. absurd (not-nil m), λ h. absurd (false≢true (sym h.0 ∙ e)))
    go false e = let k = mem_keep (fits_there t s) t.tiles p in (λ m. (e, (k.0 m).0, (k.0 m).1), λ h. k.1 (h.1, h.2))

once_fitting : (t : Plot) (s : ℕ) → Once (fitting t s)
unfolding fitting
once_fitting t s = once_firsts eqb eqb_tells (cond (t.prunes s) [] (keep (fits_there t s) t.tiles))

plot_tests : (t : Plot) → So (is_plot t) → (t.region < 2 ^ 256) × So (all_below (is_listed t) 256) × So (all (has_some t) t.tiles)
unfolding is_plot
plot_tests t ok =
    let both = (and-eq-true_iff (ltb t.region (2 ^ 256)) (all_below (is_listed t) 256 && all (has_some t) t.tiles)).0 ok in
    let more = (and-eq-true_iff (all_below (is_listed t) 256) (all (has_some t) t.tiles)).0 both.1 in
    (ltb-true t.region (2 ^ 256) both.0, more.0, more.1)

module _ (t : Plot) (ok : So (is_plot t)) where
  small : t.region < 2 ^ 256
  small = (plot_tests t ok).0

  cell_listed : (c : ℕ) → bit t.region c ≡ 1 → Mem c t.cells
  unfolding is_listed
  cell_listed c e = (holds_iff eqb eqb_tells t.cells c).0 (go (dec_lt c 256))
    where
      go : Dec (c < 256) → So (holds eqb t.cells c)
      go (yes l) = rw ((has_cell_iff t.region c).1 e) at (all_below_at (is_listed t) 256 c (plot_tests t ok).1 l)
      go (no l) = absurd (omega (arith, bit_high 256 t.region c small (omega arith)))

  choose_free : (s : ℕ) → Between 0 t.region s → (s ≡ t.region → ⊥) → So (has_cell (t.region - s) (choose t s))
  unfolding choose
  choose_free s b n = go (keep (has_cell (t.region - s)) t.cells) refl
    where
      there_too : (c : ℕ) → So (has_cell (t.region - s) c) → Mem c (keep (has_cell (t.region - s)) t.cells)
      there_too c h =
          let one : bit t.region c ≡ 1 = omega (arith, (has_cell_iff (t.region - s) c).0 h, bit_region small s b c, bit_le t.region c) in
          (mem_keep (has_cell (t.region - s)) t.cells c).1 (cell_listed c one, h)

      go : (l : List ℕ) → keep (has_cell (t.region - s)) t.cells ≡ l → So (has_cell (t.region - s) (best (t.rank s) l))
      go [] e = absurd (n ((none_free small s b).1 (λ c h. not-nil (subst (Mem c) e (there_too c h)))))
      go (c ∷ cs) e =
          ((mem_keep (has_cell (t.region - s)) t.cells (best (t.rank s) (c ∷ cs))).0
          (subst (Mem (best (t.rank s) (c ∷ cs))) (sym e) (mem_best (t.rank s) c cs))).1

  within_test : (s p : ℕ) → So (is_within p (t.region - s)) ↔ ((c : ℕ) → So (has_cell p c) → So (has_cell (t.region - s) c))
  within_test s p =
      let test = is_within_iff p (t.region - s) (lt_of_le_of_lt (omega arith) small) in
      let cells = within_iff p (t.region - s) in
      (λ h. cells.0 (test.0 h), λ h. test.1 (cells.1 h))

  fits_there_lem : (s p : ℕ) → So (fits_there t s p) ↔ (So (has_cell p (choose t s)) × ((c : ℕ) → So (has_cell p c) → So (has_cell (t.region - s) c)))
  unfolding fits_there
  fits_there_lem s p =
      let both = and-eq-true_iff (has_cell p (choose t s)) (is_within p (t.region - s)) in
      (λ h. ((both.0 h).0, (within_test s p).0 (both.0 h).1), λ h. both.1 (h.0, (within_test s p).1 h.1))

  plot_cells : CellLaws t.region 0 (λ p. Mem p t.tiles) (choose t) (fitting t)
  unfolding has_some
  plot_cells = record {
    region_lt = small;
    tile_cell = λ p m. let r = any_some (has_cell p) t.cells (all_at (has_some t) t.tiles p (plot_tests t ok).2 m) in (r.0, r.2);
    chosen_free = choose_free;
    piece_fits = λ s p b m. let r = (mem_fitting t s p).0 m in record { tile = r.1; onto = ((fits_there_lem s p).0 r.2).1 };
    piece_chosen = λ s p b m. ((fits_there_lem s p).0 ((mem_fitting t s p).0 m).2).0;
    piece_once = λ s b. once_fitting t s;
  }

  pub plot_laws : Laws (setting_of t)
  unfolding setting_of
  plot_laws = cell_laws plot_cells

  -- tiles of one size
  pub plot_steps : (a : ℕ) → So (all (λ p. eqb (size p) a) t.tiles) → EqualSteps (setting_of t) a
  unfolding setting_of
  plot_steps a e = cell_steps plot_cells a (λ p m. eqb-true (size p) a (all_at (λ q. eqb (size q) a) t.tiles p e m))

  -- where nothing is pruned, every piece that fits and covers the chosen cell is there
  pub plot_pruning : ((s : ℕ) → t.prunes s ≡ false) → SoundPruning (setting_of t)
  unfolding setting_of
  plot_pruning never s p b f h = inl ((mem_fitting t s p).1 (never s, f.tile, (fits_there_lem s p).1 (h, f.onto)))

  -- a board within the region is accepted
  pub plot_ok : (s : ℕ) → So (is_within s t.region) → (setting_of t).Ok s
  unfolding setting_of
  plot_ok s h = record { above = λ c. omega (arith, zero_bit c); below = (is_within_iff s t.region small).0 h }

  -- a list of tiles that passes the test is a cutting
  pub plot_cutting : (s : ℕ) (ps : List ℕ) → (setting_of t).Ok s → So (cuts t ps s) → CuttingOf (setting_of t) s (holds eqb ps)
  unfolding setting_of cuts
  plot_cutting s [] b h = sequence_cutting (setting_of t) plot_laws s [] b h
  plot_cutting s (p ∷ ps) b h =
      let both = (and-eq-true_iff (holds eqb t.tiles p) (is_within p (t.region - s) && cuts t ps (s + p))).0 h in
      let more = (and-eq-true_iff (is_within p (t.region - s)) (cuts t ps (s + p))).0 both.1 in
      let fit : FitsOn (setting_of t) s p = record { tile = (holds_iff eqb eqb_tells t.tiles p).0 both.0; onto = (within_test s p).0 more.0 } in
      cutting_add (setting_of t) plot_laws s p b fit ps (plot_cutting (s + p) ps (plot_laws.lay_ok s p b fit) more.1)

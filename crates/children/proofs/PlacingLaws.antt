-- Children in lent words: what one child more does to the words and to the state, how the fits of a tile's points and of the tiles come one behind the
-- other, and what the chosen cell tells. Rests on `Inner`, `cells` and the laws of children. Assumes nothing.
use Rattle.std.specs.Prelude.{None, Ok, Option, Result}
use Rattle.std.specs.Option.{is_some}
use Rattle.cells.specs.Parts.{find_set}
use Rattle.cells.specs.SearchLaws.{found_holds, missed_holds}
use lib.ListN.{length-take, length, get_or, take, drop, length-append}
use Rattle.std.specs.Prelude.{Some}
use mathlib.Core.Path.{◌≡◌, refl, sym, ap, ap₂, ◌∙◌, subst}
use mathlib.Core.Bool.{Bool, true, false, So, not, cond, ◌&&◌}
use mathlib.Core.List.{List, [], ◌∷◌, ◌++◌, map, map-append, flat_map}
use Prim.Native.Nat.{ℕ, ◌+◌, ◌-◌, ◌*◌, ◌/◌, ◌^◌, ◌≤◌, ◌<◌, min}
use native.Mathlib.Omega.{arith}
use borrow.Author.Tests.{le-leb, lt-leb, leb-true, leb-false, ne_eqb}
use lib.Dec.{eqb, leb}
use Rattle.cells.specs.Lists.{holds, add_new, add_firsts, firsts, list_from, list_of, set_at}
use Rattle.cells.specs.Parts.{with_set}
use Rattle.cells.specs.ListLaws.{sets_in, length_with_set, set_at_same, set_at_other}
use Rattle.cells.specs.FirstsLaws.{add_firsts_append, add_new_old, add_new_new}
use Rattle.cells.specs.ArrayLaws.{list_of_ext, list_of_snoc}
use Rattle.cells.specs.MemberLaws.{flat_map_snoc}
use Rattle.refusal.specs.declared.Refusal.{Refusal}
use Rattle.refusal.specs.Refusal.{given, map_answer, answer_of}
use Rattle.refusal.specs.RefusalLaws.{given_inj}
use Rattle.tile.specs.Path.{is_path, Path}
use Rattle.tile.specs.StoredLaws.{is_path_good}
use Rattle.tiles.specs.Paths.{contains_single, path_at, paths_in, read_tiles}
use Rattle.tiles.specs.declared.Tiles.{Tiles}
use Rattle.tiles.specs.ReadLaws.{sound_tile}
use Rattle.rectangle.specs.Board.{valid, marks, Board}
use Rattle.rectangle.proofs.BoardLaws.{valid_width, valid_size}
use Rattle.fit.specs.Parts.{fit_in}
use Rattle.fit.specs.Fit.{fit_at, fits_of}
use Rattle.fit.proofs.FitForLaws.{fit_in_is_fit_for, fit_for_fit}
use Rattle.choice.specs.Choice.{chosen_count, chosen, count_of}
use Rattle.choice.specs.Parts.{chosen_for}
use Rattle.choice.specs.ChosenLaws.{chosen_for_is}
use Rattle.children.specs.Children.{pruned, children}
use Rattle.children.specs.Inner.{child_of, fits_of_all, stored_of, Keeps}
use Rattle.children.specs.PruneLaws.{pruned_chosen}
use Rattle.children.specs.ChildLaws.{children_chosen, firsts_children}

-- ---- the state

pub stored_number : (room k n : ℕ) → Some n ≡ stored_of room k → (k ≤ room) × (n ≡ k)
unfolding stored_of
stored_number room k n e = go (leb k room) (leb-true k room) e
  where
    go : (t : Bool) → (t ≡ true → k ≤ room) → Some n ≡ cond t (Some k) None → (k ≤ room) × (n ≡ k)
    go true f q = (f refl, cc)
    go false f q = let z : ◌≡◌ {A = ℕ} 0 1 = cc in absurd (omega arith)

pub stored_full : (room k : ℕ) → None ≡ stored_of room k → room < k
unfolding stored_of
stored_full room k e = go (leb k room) (leb-false k room) e
  where
    go : (t : Bool) → (t ≡ false → room < k) → None ≡ cond t (Some k) None → room < k
    go true f q = let z : ◌≡◌ {A = ℕ} 0 1 = cc in absurd (omega arith)
    go false f q = f refl

stored_within : (room k : ℕ) → k ≤ room → Some k ≡ stored_of room k
unfolding stored_of
stored_within room k h = rw (le-leb k room h)

stored_past : (room k : ℕ) → room < k → None ≡ stored_of room k
unfolding stored_of
stored_past room k h = rw (lt-leb k room h)

-- nothing is stored yet
pub keeps_none : (ws : List ℕ) → Keeps [] ws (Some 0)
unfolding list_of list_from
keeps_none ws = record { state = stored_within (length ws / 4) 0 (omega arith); sets = λ h. refl }

-- ---- one child more

module _ (ns ws : List ℕ) (st : Option ℕ) (k : Keeps ns ws st) (x : ℕ) where
  longer : length (ns ++ x ∷ []) ≡ length ns + 1
  longer = length-append ns (x ∷ [])

  -- more children than there is room for, whatever the words
  past : length ws / 4 < length (ns ++ x ∷ []) → Keeps (ns ++ x ∷ []) ws None
  past h = record { state = stored_past (length ws / 4) (length (ns ++ x ∷ [])) h; sets = λ l. absurd (omega arith) }

  -- room was gone before
  pub add_full : st ≡ None → Keeps (add_new eqb ns x) ws None
  add_full e = go (holds eqb ns x) refl
    where
      go : (t : Bool) → holds eqb ns x ≡ t → Keeps (add_new eqb ns x) ws None
      go true q = rw (add_new_old eqb ns x q) record { state = sym e ∙ k.state; sets = k.sets }
      go false q = rw (add_new_new eqb ns x q) (past (omega (arith, longer, stored_full (length ws / 4) (length ns) (sym e ∙ k.state))))

  module _ (n : ℕ) (e : st ≡ Some n) where
    fits : (length ns ≤ length ws / 4) × (n ≡ length ns)
    fits = stored_number (length ws / 4) (length ns) n (sym e ∙ k.state)

    read_back : sets_in ws n ≡ ns
    unfolding sets_in
    read_back =
        let all : min n (length ws / 4) ≡ length ns = omega (arith, fits.0, fits.1) in
        ap (list_of (set_at ws)) all ∙ k.sets fits.0

    module _ (t : Bool) (f : t ≡ holds eqb (sets_in ws n) x) where
      held : (b : Bool) → t ≡ b → holds eqb ns x ≡ b
      held b q = ap (λ (l : List ℕ). holds eqb l x) (sym read_back) ∙ sym f ∙ q

      pub add_old : t ≡ true → Keeps (add_new eqb ns x) ws (Some n)
      add_old q = rw (add_new_old eqb ns x (held true q)) record { state = sym e ∙ k.state; sets = k.sets }

      -- there is no room for it
      pub add_over : t ≡ false → length ws / 4 ≤ n → Keeps (add_new eqb ns x) ws None
      add_over q h = rw (add_new_new eqb ns x (held false q)) (past (omega (arith, longer, fits.1)))

      -- it is stored behind the others
      pub add_put : x < 2 ^ 256 → t ≡ false → n < length ws / 4 → (vs : List ℕ) → vs ≡ with_set ws n x → Keeps (add_new eqb ns x) vs (Some (n + 1))
      add_put hx q h vs g =
          rw (add_new_new eqb ns x (held false q))
          record {
            state = ap Some more ∙ stored_within (length vs / 4) (length (ns ++ x ∷ [])) (omega (arith, more, same));
            sets = λ l. stored;
          }
        where
          more : n + 1 ≡ length (ns ++ x ∷ [])
          more = omega (arith, longer, fits.1)

          same : length vs ≡ length ws
          same = ap length g ∙ length_with_set ws n x

          before : (j : ℕ) → j < length ns → set_at vs j ≡ set_at ws j
          before j l = ap (λ (us : List ℕ). set_at us j) g ∙ set_at_other ws n x j (λ z. omega (arith, fits.1))

          last : set_at vs (length ns) ≡ x
          last = ap (set_at vs) (sym fits.1) ∙ ap (λ (us : List ℕ). set_at us n) g ∙ set_at_same ws n x h hx

          stored : list_of (set_at vs) (length (ns ++ x ∷ [])) ≡ ns ++ x ∷ []
          stored =
              ap (list_of (set_at vs)) longer
              ∙ list_of_snoc (set_at vs) (length ns)
              ∙ ap₂ (λ (l : List ℕ) (y : ℕ). l ++ y ∷ []) (list_of_ext (set_at vs) (set_at ws) (length ns) before ∙ k.sets fits.0) last

-- a set that is found in the words is one of the children
pub found_held : (ws : List ℕ) (n x : ℕ) (o : Option ℕ) → o ≡ find_set ws 0 n x → is_some o ≡ holds eqb (sets_in ws n) x
found_held ws n x None e = missed_holds ws n x e
found_held ws n x (Some i) e = found_holds ws n x i e

-- ---- a fit's child

module _ (b : Board) (ns ws : List ℕ) where
  -- no piece, no child
  pub fit_none : (st : Option ℕ) (ps : List ℕ) → [] ≡ ps → Keeps ns ws st → Keeps (add_firsts eqb ns (map (child_of b) ps)) ws st
  unfolding add_firsts
  fit_none st ps e k = rw (← e) k

  -- one piece, one child
  pub fit_one : (st : Option ℕ) (ps : List ℕ) (n x : ℕ) → n ∷ [] ≡ ps → x ≡ child_of b n → Keeps (add_new eqb ns x) ws st → Keeps (add_firsts eqb ns (map (child_of b) ps)) ws st
  unfolding add_firsts
  fit_one st ps n x e f k = rw (← e, ← f) k

-- ---- fits one behind the other

-- the children of the first n of a run of lists of pieces
unfoldable pub children_of_first : {A : Type 0} → Board → (A → List ℕ) → (ℕ → A) → ℕ → List ℕ
unfolding flat_map list_of
children_of_first b f g n = map (child_of b) (flat_map f (list_of g n))

module _ {A : Type 0} (b : Board) (f : A → List ℕ) (g : ℕ → A) where
  pub children_of_first_none : (ns : List ℕ) → add_firsts eqb ns (children_of_first b f g 0) ≡ ns
  unfolding children_of_first add_firsts flat_map list_of list_from
  children_of_first_none ns = refl

  pub children_of_first_more : (ns : List ℕ) (n : ℕ) → add_firsts eqb (add_firsts eqb ns (children_of_first b f g n)) (map (child_of b) (f (g n))) ≡ add_firsts eqb ns (children_of_first b f g (n + 1))
  unfolding children_of_first
  children_of_first_more ns n =
      sym
      (ap (λ (l : List ℕ). add_firsts eqb ns (map (child_of b) l)) (ap (flat_map f) (list_of_snoc g n) ∙ flat_map_snoc f (list_of g n) (g n))
      ∙ ap (add_firsts eqb ns) (map-append (child_of b) (flat_map f (list_of g n)) (f (g n)))
      ∙ add_firsts_append eqb ns (map (child_of b) (flat_map f (list_of g n))) (map (child_of b) (f (g n))))

-- those of a tile's first points on a cell, and those of the first tiles
unfoldable pub point_children : Board → ℕ → Path → ℕ → List ℕ
unfolding children_of_first fit_at
point_children b cell path n = children_of_first b (λ j. fit_at b path j cell) (λ j. j) n

unfoldable pub tile_children : Board → ℕ → List ℕ → List ℕ → ℕ → List ℕ
unfolding children_of_first fits_of
tile_children b cell lens codes n = children_of_first b (fits_of b cell) (path_at lens codes) n

module _ (b : Board) (cell : ℕ) (path : Path) (ns ws : List ℕ) (st : Option ℕ) where
  pub points_none : Keeps ns ws st → Keeps (add_firsts eqb ns (point_children b cell path 0)) ws st
  unfolding point_children
  points_none k = subst (λ (l : List ℕ). Keeps l ws st) (sym (children_of_first_none b (λ j. fit_at b path j cell) (λ j. j) ns)) k

  pub points_more : (n : ℕ) → Keeps (add_firsts eqb (add_firsts eqb ns (point_children b cell path n)) (map (child_of b) (fit_at b path n cell))) ws st → Keeps (add_firsts eqb ns (point_children b cell path (n + 1))) ws st
  unfolding point_children
  points_more n k = subst (λ (l : List ℕ). Keeps l ws st) (children_of_first_more b (λ j. fit_at b path j cell) (λ j. j) ns n) k

  pub points_all : (n : ℕ) → n ≤ length path + 1 → length path < n → Keeps (add_firsts eqb ns (point_children b cell path n)) ws st → Keeps (add_firsts eqb ns (map (child_of b) (fits_of b cell path))) ws st
  unfolding point_children children_of_first fits_of
  points_all n h i k =
      let e : n ≡ length path + 1 = omega arith in
      subst (λ (m : ℕ). Keeps (add_firsts eqb ns (map (child_of b) (flat_map (λ j. fit_at b path j cell) (list_of (λ j. j) m)))) ws st) e k

module _ (b : Board) (cell : ℕ) (lens codes ws : List ℕ) (st : Option ℕ) where
  pub tiles_none : Keeps [] ws st → Keeps (add_firsts eqb [] (tile_children b cell lens codes 0)) ws st
  unfolding tile_children
  tiles_none k = subst (λ (l : List ℕ). Keeps l ws st) (sym (children_of_first_none b (fits_of b cell) (path_at lens codes) [])) k

  pub tiles_more : (n : ℕ) (path : Path) → path ≡ path_at lens codes n → Keeps (add_firsts eqb (add_firsts eqb [] (tile_children b cell lens codes n)) (map (child_of b) (fits_of b cell path))) ws st → Keeps (add_firsts eqb [] (tile_children b cell lens codes (n + 1))) ws st
  unfolding tile_children
  tiles_more n path e k =
      subst (λ (l : List ℕ). Keeps l ws st)
      (ap (λ (p : Path). add_firsts eqb (add_firsts eqb [] (children_of_first b (fits_of b cell) (path_at lens codes) n)) (map (child_of b) (fits_of b cell p))) e ∙ children_of_first_more b (fits_of b cell) (path_at lens codes) [] n)
      k

  pub tiles_all : (n count : ℕ) → n ≤ count → count ≤ n → Keeps (add_firsts eqb [] (tile_children b cell lens codes n)) ws st → Keeps (add_firsts eqb [] (map (child_of b) (fits_of_all b cell (list_of (path_at lens codes) count)))) ws st
  unfolding tile_children children_of_first fits_of_all
  tiles_all n count h i k =
      let e : n ≡ count = omega arith in
      subst (λ (m : ℕ). Keeps (add_firsts eqb [] (map (child_of b) (flat_map (fits_of b cell) (list_of (path_at lens codes) m)))) ws st) e k

-- the part of the codes that is lent is the tile's path
pub part_path : (lens codes : List ℕ) (i : ℕ) → take (32 * i + get_or lens i 0 - 32 * i) (drop (32 * i) codes) ≡ path_at lens codes i
part_path lens codes i = let e : 32 * i + get_or lens i 0 - 32 * i ≡ get_or lens i 0 = omega arith in ap (λ (n : ℕ). take n (drop (32 * i) codes)) e

-- and it is a path
pub part_sound : (ts : Tiles) → read_tiles ts ≡ given (paths_in ts) → (i : ℕ) → i < ts.count → So (is_path (path_at ts.lens ts.codes i))
part_sound ts e i h =
    let s = sound_tile ts e i h in
    let short : length (path_at ts.lens ts.codes i) ≤ 32 = simp length-take (omega (arith, s.0)) in
    is_path_good (path_at ts.lens ts.codes i) short s.1

-- ---- pruning: the tiles are asked only at count 4

pub pruned_less : (count : ℕ) (paths : List Path) → (count ≡ 4 → ⊥) → false ≡ (eqb count 4 && not (contains_single paths))
pruned_less count paths n = rw (ne_eqb count 4 n)

module _ (ts : Tiles) (answer : Result Bool Refusal) (ok : read_tiles ts ≡ given (paths_in ts)) (e : answer_of answer ≡ map_answer contains_single (read_tiles ts)) where
  pub single_told : answer_of answer ≡ given (contains_single (paths_in ts))
  unfolding map_answer
  single_told = e ∙ ap (map_answer contains_single) ok

  pub pruned_told : (count : ℕ) (single : Bool) → count ≡ 4 → answer ≡ Ok single → not single ≡ (eqb count 4 && not (contains_single (paths_in ts)))
  pruned_told count single q f =
      let s : single ≡ contains_single (paths_in ts) = given_inj single (contains_single (paths_in ts)) (sym (ap answer_of f) ∙ single_told) in
      rw (q, s)

-- ---- what is found, and what is done then

-- the fit by numbers is that of the board, of a path and a point of it
pub fit_is : (b : Board) → valid b ≡ true → (m : ℕ) → m ≡ marks b → (path : Path) → So (is_path path) → (j : ℕ) → j ≤ length path → (cell : ℕ) → fit_in b.width b.height m path j cell ≡ fit_at b path j cell
fit_is b ok m e path s j h cell = fit_in_is_fit_for b m e path j cell ∙ fit_for_fit b path j cell (valid_size b ok) s h

-- what is told of the chosen cell by the numbers of an accepted board
pub found_told : (b : Board) → valid b ≡ true → (m : ℕ) → m ≡ marks b → (x : Result (Option (ℕ × ℕ)) Refusal) → answer_of x ≡ chosen_for b.width b.height m b.laid → answer_of x ≡ given (chosen_count b)
found_told b ok m e x f = f ∙ ap (λ (n : ℕ). chosen_for b.width b.height n b.laid) e ∙ chosen_for_is b ok

-- the test of the chosen cell's count is that of any free cell
pub found_pruned : (b : Board) → valid b ≡ true → (cell n : ℕ) → chosen b ≡ Some cell → n ≡ count_of b cell → (paths : List Path) (t : Bool) → t ≡ (eqb n 4 && not (contains_single paths)) → pruned b paths ≡ t
found_pruned b ok cell n e k paths t f =
    pruned_chosen b (valid_width b ok) paths cell e ∙ ap (λ (i : ℕ). eqb i 4 && not (contains_single paths)) (sym k) ∙ sym f

module _ (b : Board) (paths : List Path) (ws : List ℕ) where
  pub kept_none : children b paths ≡ [] → Keeps (children b paths) ws (Some 0)
  kept_none e = subst (λ (l : List ℕ). Keeps l ws (Some 0)) (sym e) (keeps_none ws)

  -- children are compared instead of pieces
  pub kept_all : (cell : ℕ) → chosen b ≡ Some cell → pruned b paths ≡ false → (st : Option ℕ) → Keeps (add_firsts eqb [] (map (child_of b) (fits_of_all b cell paths))) ws st → Keeps (children b paths) ws st
  unfolding firsts fits_of_all
  kept_all cell e f st k =
      subst (λ (l : List ℕ). Keeps l ws st) (firsts_children b paths cell ∙ sym (children_chosen b paths f cell e)) k

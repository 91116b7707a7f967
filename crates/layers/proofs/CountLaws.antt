-- What a layer count that is given says: board and tiles are not refused, it is the count of the definition, it is below the limit, and under demand 3's
-- conditions it is the number of cuttings. Rests on expansion's laws and covers' `Theorems`. Assumes nothing.
use Rattle.std.specs.Prelude.{Result, ◌≡◌, refl, Bool, true, false, cond, ℕ, zero, suc, ◌<◌, eqb, leb, length, get_or, Option, None, Some}
use Rattle.refusal.specs.declared.Refusal.{Refusal}
use Rattle.path_count.specs.declared.PathCount.{PathCount}
use Rattle.std.proofs.Math.Path.{sym}
use Rattle.std.proofs.Common.{ap, ◌∙◌, subst, ⊎_elim, leb-false, lit<}
use Rattle.std.proofs.lemmas.Bool.{false≢true}
use mathlib.Core.List.Memᴰ.{append_cases, of_map}
use mathlib.Core.List.Memᴰ.{map as mem-map}
use mathlib.Core.List.{List, Memᴰ as Mem}
use Rattle.cells.specs.Set.{Sound}
use Rattle.cells.specs.FirstsLaws.{any_true}
use Rattle.refusal.specs.Refusal.{Answer, refused, given, map_answer}
use Rattle.refusal.specs.RefusalLaws.{refused_given, given_inj, map_given, bind_given}
use Rattle.tiles.specs.declared.Tiles.{Tiles}
use Rattle.tile.specs.Path.{Path}
use Rattle.tiles.specs.Paths.{paths_in}
use Rattle.board.specs.declared.RectangularBoard.{RectangularBoard}
use Rattle.rectangle.specs.Board.{Board, marks}
use Rattle.board.specs.Board.{board_of}
use Rattle.children.specs.Children.{full_at, free_count_at}
use Rattle.covers.specs.Setting.{Setting, child_boards, layer_of, layer_count_of, entries_of, nodes_of, path_count_of, graph_count, cutting_at}
use Rattle.covers.specs.Counts.{Exactly, Entry, counts, layer, layers, layer_count, full_node, at_node}
use Rattle.covers.proofs.Theorems.{counts_are_equal}
use Rattle.path_count.specs.PathCounts.{count_limit}
use Rattle.graph.specs.Graph.{layer_room}
use Rattle.expansion.specs.Boards.{setting, setting_of, start_of, Accepted}
use Rattle.expansion.specs.Parts.{step_of}
use Rattle.expansion.specs.Plots.{IsCutting, HasFreeCell, AllEdgeJoined}
use Rattle.expansion.proofs.SettingLaws.{same_children}
use Rattle.expansion.proofs.CuttingLaws.{cuttings_numbered}
use Rattle.expansion.proofs.AcceptedLaws.{from_read, accepted_laws, accepted_steps, start_accepted}
use Rattle.expansion.proofs.ExpansionLaws.{below_at}
use Rattle.layers.specs.LayerCounts.{too_large, judge_layer, judge_layers, layer_count_for, count_tilings, CountsTilings, CountsCuttings}
use Rattle.layers.specs.Inner.{layers_answer}

-- ---- it is the count of the definition

-- the layer count of a board and tiles is that of their setting
pub layers_setting : (b : Board) (paths : List Path) (room : ℕ) → layer_count_for b paths room ≡ layers_answer (setting b paths) (marks b) room
unfolding layer_count_for layers_answer setting
layers_setting b paths room =
    ap (λ (ch : ℕ → List ℕ). map_answer (λ es. layer_count eqb ch (full_at b) (marks b) (free_count_at b (marks b))) (judge_layers (layer eqb ch (marks b)) room (free_count_at b (marks b))))
    (sym (same_children b paths))

-- the layer count that is given is the definition's
pub counted_layers : (b : RectangularBoard) (ts : Tiles) (room n : ℕ) → layers_answer (setting_of b ts) (start_of b) room ≡ given n → layer_count_of (setting_of b ts) (start_of b) ≡ n
unfolding layers_answer map_answer
counted_layers b ts room n e = go (judge_layers (layer_of (setting_of b ts) (start_of b)) room ((setting_of b ts).free_count (start_of b))) e
  where
    go : {A : Type 0} (a : Answer A) → map_answer (λ es. layer_count_of (setting_of b ts) (start_of b)) a ≡ given n → layer_count_of (setting_of b ts) (start_of b) ≡ n
    go (refused k) h = absurd (refused_given k n h)
    go (given es) h = given_inj _ n h

module _ (b : RectangularBoard) (fixed : Sound b.fixed) (laid : Sound b.laid) (ts : Tiles) where
  -- a layer count that is given is the graph count of the definition
  pub layers_count : (room n : ℕ) → count_tilings b ts room ≡ given n → Accepted b ts × (n ≡ graph_count (setting_of b ts) (start_of b))
  unfolding count_tilings
  layers_count room n told =
      let r = from_read b ts _ n told in (
        r.0,
        sym (counted_layers b ts room n (sym (layers_setting (board_of b) (paths_in ts) room) ∙ r.1))
            ∙ counts_are_equal (setting_of b ts) (accepted_laws b ts r.0) (step_of (paths_in ts)) (accepted_steps b ts r.0) (start_of b) (start_accepted b fixed laid ts r.0),
      )

  -- a layer count that is given is the number of cuttings
  pub count_cuttings_lem : HasFreeCell (board_of b) → AllEdgeJoined (paths_in ts) → (room n : ℕ) → count_tilings b ts room ≡ given n → Exactly n (IsCutting (board_of b) (paths_in ts))
  count_cuttings_lem free joined room n told =
      let r = layers_count room n told in
      subst (λ (k : ℕ). Exactly k (IsCutting (board_of b) (paths_in ts))) (sym r.1) (cutting_at (setting_of b ts) (start_of b), cuttings_numbered b fixed laid ts r.0 free joined)

  -- the same of the call
  pub counts_cuttings : (boardsA countsA boardsB countsB boardsA' countsA' boardsB' countsB' : List ℕ) (count : Result PathCount Refusal)
      → CountsTilings b ts boardsA countsA boardsB countsB boardsA' countsA' boardsB' countsB' count → CountsCuttings b ts count
  counts_cuttings boardsA countsA boardsB countsB boardsA' countsA' boardsB' countsB' count counted free joined n is =
      count_cuttings_lem free joined (layer_room (length boardsA) (length countsA) (length boardsB) (length countsB)) n (sym counted.answer ∙ is)

-- ---- it fits 64 bits

member_small : (ns : List ℕ) → too_large ns ≡ false → (n : ℕ) → Mem n ns → n < count_limit
unfolding too_large
member_small ns e n m = go (leb count_limit n) refl
  where
    go : (t : Bool) → leb count_limit n ≡ t → n < count_limit
    go true q = absurd (false≢true (sym e ∙ any_true (λ k. leb count_limit k) ns n m q))
    go false q = leb-false count_limit n q

-- each of some counts that fit is below the limit
pub small_counts : (ns : List ℕ) → too_large ns ≡ false → (v : ℕ) → get_or ns v 0 < count_limit
small_counts ns e = below_at count_limit (lit< tt) ns (member_small ns e)

judge_layer_small : (room : ℕ) (es ds : List (Entry ℕ)) → judge_layer room es ≡ given ds → (e : Entry ℕ) → Mem e es → e.1 < count_limit
unfolding judge_layer
judge_layer_small room es ds h e m = go (leb (length es) room) (too_large (counts es)) refl h
  where
    go : (s t : Bool) → too_large (counts es) ≡ t → cond s (cond t (refused 9) (given es)) (refused 8) ≡ given ds → e.1 < count_limit
    go true true q k = absurd (refused_given 9 ds k)
    go true false q k = member_small (counts es) q e.1 (mem-map (λ (d : Entry ℕ). d.1) m)
    go false t q k = absurd (refused_given 8 ds k)

-- the counts of the layers that are judged
judge_layers_small : (S : Setting ℕ ℕ) (s room n : ℕ) (es : List (Entry ℕ)) → judge_layers (layer_of S s) room n ≡ given es
    → (e : Entry ℕ) → Mem e (layers S.same_board (child_boards S) s n) → e.1 < count_limit
unfolding judge_layers layers
judge_layers_small S s room zero es h e m = judge_layer_small room (layer_of S s zero) es h e m
judge_layers_small S s room (suc n) es h e m =
    let r = bind_given (judge_layers (layer_of S s) room n) (λ ds. judge_layer room (layer_of S s (suc n))) es h in
    ⊎_elim (λ k. judge_layers_small S s room n r.0 r.1 e k) (λ k. judge_layer_small room (layer_of S s (suc n)) es r.2 e k)
    (append_cases (layers S.same_board (child_boards S) s n) m)

entry_small : (es : List (Entry ℕ)) → ((e : Entry ℕ) → Mem e es → e.1 < count_limit) → (v : ℕ) → get_or (counts es) v 0 < count_limit
entry_small es small =
    below_at count_limit (lit< tt) (counts es)
    (λ n m. let r = of_map (λ (e : Entry ℕ). e.1) es m in subst (λ (x : ℕ). x < count_limit) r.2 (small r.0 r.1))

-- where the layers have room and their counts fit, so does the count of the definition
given_small : (S : Setting ℕ ℕ) (s room n : ℕ) → layers_answer S s room ≡ given n → graph_count S s < count_limit
unfolding layers_answer graph_count at_node
given_small S s room n e = go (full_node S.full (nodes_of S s))
  where
    judged : (es : List (Entry ℕ)) × (judge_layers (layer_of S s) room (S.free_count s) ≡ given es)
    judged = let r = map_given (λ es. layer_count_of S s) (judge_layers (layer_of S s) room (S.free_count s)) n e in (r.0, r.1)

    go : (o : Option ℕ) → at_node (path_count_of S s) o < count_limit
    go None = lit< tt
    go (Some v) = entry_small (entries_of S s) (judge_layers_small S s room (S.free_count s) judged.0 judged.1) v

pub layers_small : (b : RectangularBoard) → Sound b.fixed → Sound b.laid → (ts : Tiles) (room n : ℕ) → count_tilings b ts room ≡ given n → n < count_limit
unfolding count_tilings
layers_small b fixed laid ts room n told =
    subst (λ (k : ℕ). k < count_limit) (sym (layers_count b fixed laid ts room n told).1) (given_small (setting_of b ts) (start_of b) room n (sym (layers_setting (board_of b) (paths_in ts) room) ∙ (from_read b ts _ n told).1))

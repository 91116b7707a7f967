-- Laws of the tilings that are listed: what `tiling_by_number` gives for a graph that is built is the graph's list, a list is not longer than the words
-- lent for it, and the lines of the first tilings come one by one up to the last that is listed. Rests on `Inner`, `TextLaws` and numbered_tilings' `TilingLaws`.
-- Assumes nothing.
use Rattle.std.specs.Prelude.{Err, Ok, Result, ◌≡◌, ℕ, ◌+◌, ◌≤◌, ◌<◌, min, length, take}
use Rattle.std.proofs.Common.{sym, ap, ◌∙◌, subst, arith, length-take-le}
use mathlib.Core.List.{List, flat_map}
use Rattle.cells.specs.Lists.{list_of}
use Rattle.cells.specs.ArrayLaws.{list_of_snoc, length_padded}
use Rattle.cells.specs.MemberLaws.{flat_map_snoc}
use Rattle.refusal.specs.declared.Refusal.{Refusal}
use Rattle.refusal.specs.Refusal.{given, refusal_number, answer_of}
use Rattle.refusal.specs.RefusalLaws.{refused_given, given_inj}
use Rattle.graph.specs.declared.GraphResult.{GraphResult}
use Rattle.numbered_tilings.specs.Tilings.{node_list_in, GivesTiling}
use Rattle.numbered_tilings.proofs.TilingLaws.{told_tiling, list_read}
use Rattle.tiler.specs.Graphs.{Graph, count_of_graph, node_list_of}
use Rattle.report.specs.Report.{listed, tiling_line}
use Rattle.report.specs.declared.text.Text.{Text}
use Rattle.report.specs.Inner.{Puts, Built}
use Rattle.report.specs.TextLaws.{puts_append, puts_as}

-- what is given of equal numbers is the same
pub gives_same : (r : GraphResult) (nodes counts edges : List ℕ) (k m : ℕ) (out out' : List ℕ) (t : Result ℕ Refusal) → k ≡ m
    → GivesTiling r nodes counts edges k out out' t → GivesTiling r nodes counts edges m out out' t
gives_same r nodes counts edges k m out out' t e g = subst (λ (n : ℕ). GivesTiling r nodes counts edges n out out' t) e g

module _ (r : GraphResult) (nodes counts edges : List ℕ) (m : ℕ) (out out' : List ℕ) (t : Result ℕ Refusal) (gives : GivesTiling r nodes counts edges m out out' t) where
  -- a list that is given is not longer than the output,
  pub told_short : (n : ℕ) → t ≡ Ok n → n ≤ length out'
  told_short n e =
      let w = told_tiling r (length nodes) counts edges m (length out) n (sym gives.answer ∙ ap answer_of e) in
      let long : length out' ≡ length out = ap length gives.words ∙ simp length_padded in
      omega (arith, w.2, w.3)

  -- so that many words of it can be read
  pub told_long : (n : ℕ) → t ≡ Ok n → n ≡ length (take n out')
  told_long n e = sym (length-take-le n out' (told_short n e))

  module _ {g : Graph} (built : Built g r nodes counts edges) (below : m < count_of_graph g) (long : length out ≡ 257) where
    read_list : (answer_of t ≡ given (length (node_list_in r counts edges m))) × (take (length (node_list_in r counts edges m)) out' ≡ node_list_in r counts edges m)
    read_list =
        list_read r nodes counts edges m out out' t gives built.sound (omega (arith, built.count))
        (omega (arith, ap length (built.list m below), built.short m below))

    -- of a graph that is built it is the graph's
    pub told_list : (n : ℕ) → t ≡ Ok n → take n out' ≡ node_list_of g m
    told_list n e =
        let size = given_inj (length (node_list_in r counts edges m)) n (sym read_list.0 ∙ ap answer_of e) in
        ap (λ (k : ℕ). take k out') (sym size) ∙ read_list.1 ∙ built.list m below

    -- and it is not refused
    pub told_given : (x : Refusal) → t ≡ Err x → ⊥
    told_given x e = refused_given (refusal_number x) (length (node_list_in r counts edges m)) (sym (ap answer_of e) ∙ read_list.0)

-- ---- the lines of the tilings

-- one tiling more
pub puts_tiling : (g : Graph) (m : ℕ) {x y z : Text} → Puts x (flat_map (tiling_line g) (list_of (λ n. n) m)) y → Puts y (tiling_line g m) z
    → Puts x (flat_map (tiling_line g) (list_of (λ n. n) (m + 1))) z
puts_tiling g m p l =
    puts_as (sym (ap (flat_map (tiling_line g)) (list_of_snoc (λ n. n) m) ∙ flat_map_snoc (tiling_line g) (list_of (λ n. n) m) m)) (puts_append p l)

-- all that are listed
pub puts_listed : (g : Graph) (m : ℕ) {x y : Text} → m ≡ min 16 (count_of_graph g) → Puts x (flat_map (tiling_line g) (list_of (λ n. n) m)) y
    → Puts x (flat_map (tiling_line g) (list_of (λ n. n) (listed g))) y
unfolding listed
puts_listed g m e p = puts_as (ap (λ (k : ℕ). flat_map (tiling_line g) (list_of (λ n. n) k)) e) p

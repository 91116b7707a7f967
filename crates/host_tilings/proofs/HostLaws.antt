-- What each call over words tells: the answer of the call below where the shapes are right, and zeros where they are not. Rests on host_words' `AnswerLaws`
-- and `CallLaws`. Assumes nothing.
use Rattle.std.specs.Prelude.{◌≡◌, None, Result, Ok, Err, ⊤, List, ℕ, ◌/◌, length}
use Rattle.std.proofs.Common.{sym, ap, ap₂, ◌∙◌, subst}
use Rattle.cells.specs.Set.{value}
use Rattle.cells.specs.Parts.{cleared_from}
use Rattle.cells.specs.Lists.{padded}
use Rattle.cells.specs.ListLaws.{cleared_all}
use Rattle.refusal.specs.declared.Refusal.{Refusal}
use Rattle.refusal.specs.Refusal.{Answer, refused, map_answer, refusal_number, value_or, verdict_number}
use Rattle.refusal.specs.RefusalLaws.{refused_given}
use Rattle.tiles.specs.declared.Tiles.{Tiles}
use Rattle.tile.specs.Path.{Path}
use Rattle.board.specs.declared.RectangularBoard.{RectangularBoard}
use Rattle.rectangle.specs.Board.{Board}
use Rattle.graph.specs.declared.GraphResult.{GraphResult}
use Rattle.numbered_tilings.specs.Tilings.{tiling_by_number}
use Rattle.single_tiling.specs.SingleTiling.{read_search}
use Rattle.host_words.specs.Layout.{board_in, result_in, plot_shape, AnswersWords, AnswersList}
use Rattle.host_words.specs.AnswerLaws.{cleared_none, unless_accepted, unless_refused}
use Rattle.host_tiles.specs.TileBytes.{tiles_in}
use Rattle.host_tilings.specs.Calls.{searched, AnswersSingle, tiling_shape, numbered}
use Rattle.host_tilings.specs.CallLaws.{tiling_two}

-- ---- one tiling without a graph

module _ (width height : ℕ) (marks tiles answer : List ℕ) (v : Result ⊤ Refusal) (shape : verdict_number v ≡ plot_shape 1 (length marks) (length tiles) (length answer)) (out : List ℕ) where
  abbrev below : RectangularBoard → Tiles → Answer (Board × List Path)
  below b ts = read_search b ts (length out / 4)

  pub single_accepted : (b : RectangularBoard) (ts : Tiles) → v ≡ Ok tt → b ≡ board_in width height marks → ts ≡ tiles_in tiles → {out' answer' : List ℕ} {r : ℕ}
      → AnswersSingle (below b ts) out answer out' answer' r → AnswersSingle (searched width height marks tiles (length out) (length answer)) out answer out' answer' r
  unfolding searched
  single_accepted b ts e is are {out'} {answer'} {r} t =
      subst (λ (a : Answer (Board × List Path)). AnswersSingle a out answer out' answer' r)
      (ap₂ below is are ∙ sym (unless_accepted (plot_shape 1 (length marks) (length tiles) (length answer)) (below (board_in width height marks) (tiles_in tiles)) v shape e)) t

  pub single_unshaped : (q : Refusal) → v ≡ Err q → {out' answer' : List ℕ} {r : ℕ} → out' ≡ cleared_from 0 out → AnswersWords (refused (refusal_number q)) answer answer' r
      → AnswersSingle (searched width height marks tiles (length out) (length answer)) out answer out' answer' r
  unfolding searched value_or map_answer
  single_unshaped q e {out'} {answer'} {r} z t =
      subst (λ (a : Answer (Board × List Path)). AnswersSingle a out answer out' answer' r)
      (sym (unless_refused (plot_shape 1 (length marks) (length tiles) (length answer)) (below (board_in width height marks) (tiles_in tiles)) v shape q e))
      record {
        found = None;
        tiling = λ p f. absurd (refused_given (refusal_number q) p f);
        answered = t;
        out_left = z ∙ cleared_all out;
      }

-- ---- the tiling by number

module _ (nodes counts edges graph m out answer : List ℕ) (v : Result ⊤ Refusal) (shape : verdict_number v ≡ tiling_shape graph (length m) (length answer)) where
  pub tiling_words : v ≡ Ok tt → length m ≡ 2
  tiling_words e = tiling_two graph (length m) (length answer) v shape e

  pub tiling_accepted : v ≡ Ok tt → (g : GraphResult) → g ≡ result_in graph → {out' answer' : List ℕ} {r : ℕ}
      → AnswersList padded (tiling_by_number g (length nodes) counts edges (value m) (length out)) out answer out' answer' r
      → AnswersList padded (numbered (length nodes) counts edges graph m (length out) (length answer)) out answer out' answer' r
  unfolding numbered
  tiling_accepted e g is {out'} {answer'} {r} t =
      subst (λ (a : Answer (List ℕ)). AnswersList padded a out answer out' answer' r)
      (ap (λ (x : GraphResult). tiling_by_number x (length nodes) counts edges (value m) (length out)) is
      ∙ sym (unless_accepted (tiling_shape graph (length m) (length answer)) (tiling_by_number (result_in graph) (length nodes) counts edges (value m) (length out)) v shape e)) t

  pub tiling_unshaped : (q : Refusal) → v ≡ Err q → {out' answer' : List ℕ} {r : ℕ} → out' ≡ cleared_from 0 out → AnswersWords (refused (refusal_number q)) answer answer' r
      → AnswersList padded (numbered (length nodes) counts edges graph m (length out) (length answer)) out answer out' answer' r
  unfolding numbered value_or map_answer
  tiling_unshaped q e {out'} {answer'} {r} z t =
      subst (λ (a : Answer (List ℕ)). AnswersList padded a out answer out' answer' r)
      (sym (unless_refused (tiling_shape graph (length m) (length answer)) (tiling_by_number (result_in graph) (length nodes) counts edges (value m) (length out)) v shape q e))
      record { answered = t; out_left = cleared_none out out' z }

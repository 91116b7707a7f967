-- What `count_tilings`, `count_cuttings` and `generate_graph` of the lower crates answer, as the words that a host is told. Rests on host_words' `AnswerLaws`. Assumes nothing.
use Rattle.std.specs.Prelude.{◌≡◌, Option, Some, None, Result, Ok, Err, List, [], ◌∷◌, ℕ, ◌/◌, ◌%◌, ◌<◌, ◌^◌, length}
use Rattle.std.proofs.Common.{sym, ap, ap₂, ◌∙◌, subst, arith}
use Rattle.cells.specs.Set.{words_below}
use Rattle.refusal.specs.declared.Refusal.{Refusal}
use Rattle.refusal.specs.Refusal.{Answer, refused, given, answer_of, map_answer, refusal_number}
use Rattle.refusal.specs.RefusalLaws.{map_given, map_refused}
use Rattle.tiles.specs.declared.Tiles.{Tiles}
use Rattle.board.specs.declared.RectangularBoard.{RectangularBoard}
use Rattle.path_count.specs.declared.PathCount.{PathCount}
use Rattle.path_count.specs.PathCounts.{count_value}
use Rattle.cells.specs.Lists.{padded}
use Rattle.layers.specs.LayerCounts.{count_answer, LeavesCount}
use Rattle.graph.specs.declared.GraphResult.{GraphResult}
use Rattle.tiler.specs.Graphs.{Graph, generate_graph, GeneratesGraph, result_of_graph}
use Rattle.host_words.specs.Layout.{result_words, AnswersWords}
use Rattle.host_words.specs.AnswerLaws.{numbers_none, tells_value, tells_no, tells_struct, numbers_two}
use Rattle.host_counts.specs.Calls.{AnswersCount, AnswersGraph}

-- ---- a count

word_whole : (n : ℕ) → n < 2 ^ 64 → n % 2 ^ 64 ≡ n
word_whole n h = omega arith

-- the two words of a count are those of its number
count_words_lem : (n low high : ℕ) → low ≡ n % 2 ^ 64 → high ≡ n / 2 ^ 64 → high < 2 ^ 64 → low ∷ high ∷ [] ≡ words_below 2 n
unfolding words_below
count_words_lem n low high l h s = ap₂ (λ (x y : ℕ). x ∷ y ∷ []) l (sym (word_whole high s) ∙ ap (λ (x : ℕ). x % 2 ^ 64) h)

-- a count is told by its two words,
pub number_told : (k : Result PathCount Refusal) (n : PathCount) (low high : ℕ) {answer answer' : List ℕ} {r : ℕ} → low ≡ count_value n % 2 ^ 64 → high ≡ count_value n / 2 ^ 64 → high < 2 ^ 64
    → k ≡ Ok n → AnswersWords (given (low ∷ high ∷ [])) answer answer' r → AnswersWords (map_answer (words_below 2) (count_answer k)) answer answer' r
number_told k n low high {answer} {answer'} {r} l h s e t =
    tells_value answer answer' r (words_below 2) (count_answer k) (count_value n) (low ∷ high ∷ []) (ap count_answer e)
    (ap (λ (ns : List ℕ). padded ns (length answer)) (count_words_lem (count_value n) low high l h s)) t

-- and a refusal by its number
pub refusal_told : (k : Result PathCount Refusal) (q : Refusal) {answer answer' : List ℕ} {r : ℕ} → k ≡ Err q → AnswersWords (refused (refusal_number q)) answer answer' r
    → AnswersWords (map_answer (words_below 2) (count_answer k)) answer answer' r
refusal_told k q {answer} {answer'} {r} e t = tells_no answer answer' r (words_below 2) (count_answer k) q (ap count_answer e) t

-- what a call answers and leaves, told so
pub count_told_lem : (a : Answer ℕ) (ba ca bb cb : List ℕ) {ba' ca' bb' cb' answer answer' : List ℕ} {k : Result PathCount Refusal} {r : ℕ} → LeavesCount a ba ca bb cb ba' ca' bb' cb' k
    → AnswersWords (map_answer (words_below 2) (count_answer k)) answer answer' r → AnswersCount a ba ca bb cb answer ba' ca' bb' cb' answer' r
count_told_lem a ba ca bb cb {answer = answer} {answer' = answer'} {r = r} counts t =
    record {
      answered = subst (λ (x : Answer ℕ). AnswersWords (map_answer (words_below 2) x) answer answer' r) counts.answer t;
      zero_boards_a = counts.zero_boards_a;
      zero_counts_a = counts.zero_counts_a;
      zero_boards_b = counts.zero_boards_b;
      zero_counts_b = counts.zero_counts_b;
    }

-- ---- `generate_graph`

abbrev result_of : Graph → List ℕ
result_of g = result_words (length g.nodes) (length g.edges) g.complete

module _ (b : RectangularBoard) (ts : Tiles) (nodes counts edges nodes' counts' edges' answer answer' : List ℕ) (made : Result GraphResult Refusal)
    (makes : GeneratesGraph b ts nodes counts edges nodes' counts' edges' made) (r : ℕ) where
  abbrev a : Answer Graph
  a = generate_graph b ts (length nodes) (length counts) (length edges)

  pub graph_told : (graph : GraphResult) → made ≡ Ok graph → AnswersWords (given (result_words graph.nodes graph.edges graph.complete)) answer answer' r
      → AnswersGraph a nodes counts edges answer nodes' counts' edges' answer' r
  graph_told graph e t =
      let g = map_given result_of_graph a graph (sym makes.answer ∙ ap answer_of e) in
      record {
        answered = tells_value answer answer' r result_of a g.0 (result_words graph.nodes graph.edges graph.complete) g.1
            (ap (λ (x : GraphResult). padded (result_words x.nodes x.edges x.complete) (length answer)) (sym g.2)) t;
        nodes_left = makes.nodes;
        counts_left = makes.counts;
        edges_left = makes.edges;
      }

  pub graph_refused : (q : Refusal) → made ≡ Err q → AnswersWords (refused (refusal_number q)) answer answer' r → AnswersGraph a nodes counts edges answer nodes' counts' edges' answer' r
  graph_refused q e t =
      record {
        answered = tells_no answer answer' r result_of a q ((map_refused result_of_graph a (refusal_number q)).0 (sym makes.answer ∙ ap answer_of e)) t;
        nodes_left = makes.nodes;
        counts_left = makes.counts;
        edges_left = makes.edges;
      }

-- the words of a result, by its full node
pub result_node : (nodes edges : ℕ) (complete : Option ℕ) {v : ℕ} {old new : List ℕ} {r : ℕ} → complete ≡ Some v → AnswersWords (given (nodes ∷ edges ∷ 1 ∷ v ∷ [])) old new r
    → AnswersWords (given (result_words nodes edges complete)) old new r
unfolding result_words
result_node nodes edges complete {v} {old} {new} {r} e t = subst (λ (x : Option ℕ). AnswersWords (given (result_words nodes edges x)) old new r) (sym e) t

pub result_none : (nodes edges : ℕ) (complete : Option ℕ) {old new : List ℕ} {r : ℕ} → complete ≡ None → AnswersWords (given (nodes ∷ edges ∷ 0 ∷ 0 ∷ [])) old new r
    → AnswersWords (given (result_words nodes edges complete)) old new r
unfolding result_words
result_none nodes edges complete {old} {new} {r} e t = subst (λ (x : Option ℕ). AnswersWords (given (result_words nodes edges x)) old new r) (sym e) t

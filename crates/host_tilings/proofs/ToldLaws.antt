-- What `get_single_tiling` and `tiling_by_number` of the lower crates answer, as the words that a host is told. Rests on host_words' `AnswerLaws` and
-- numbered_tilings' `TilingLaws`. Assumes nothing.
use Rattle.std.specs.Prelude.{◌≡◌, refl, Option, None, Some, unwrap_or, Result, Ok, Err, List, [], ◌∷◌, ℕ, ◌+◌, ◌-◌, ◌*◌, ◌/◌, ◌^◌, min, length, get_or}
use Rattle.std.proofs.Common.{sym, ap, ◌∙◌, subst, add-zero, arith}
use Rattle.cells.specs.Set.{value}
use Rattle.cells.specs.WordLaws.{Small}
use Rattle.refusal.specs.declared.Refusal.{Refusal}
use Rattle.refusal.specs.Refusal.{Answer, refused, given, map_answer, refusal_number, value_or, answer_of}
use Rattle.refusal.specs.RefusalLaws.{map_given, map_refused}
use Rattle.tiles.specs.declared.Tiles.{Tiles}
use Rattle.tile.specs.Path.{Path}
use Rattle.board.specs.declared.RectangularBoard.{RectangularBoard}
use Rattle.rectangle.specs.Board.{Board}
use Rattle.covers.specs.Counts.{at_node}
use Rattle.path_count.specs.PathCounts.{count_limit}
use Rattle.graph.specs.declared.GraphResult.{GraphResult}
use Rattle.cells.specs.Lists.{padded}
use Rattle.numbered_tilings.specs.Tilings.{tiling_by_number, GivesTiling}
use Rattle.numbered_tilings.proofs.TilingLaws.{number_capped}
use Rattle.single_tiling.specs.SingleTiling.{read_search, number_found, GetsSingleTiling}
use Rattle.host_words.specs.Layout.{AnswersWords, AnswersList}
use Rattle.host_words.specs.AnswerLaws.{tells_value, tells_one, tells_no}
use Rattle.host_tilings.specs.Calls.{AnswersSingle}

-- ---- `get_single_tiling`

-- the number of what was found, or 0
pub found_told : (o : Option ℕ) (n : ℕ) {old new : List ℕ} {r : ℕ} → n ≡ unwrap_or o 0 → AnswersWords (given (n ∷ [])) old new r → AnswersWords (given (at_node (λ k. k) o ∷ [])) old new r
unfolding at_node
found_told o n {old} {new} {r} e t = subst (λ (k : ℕ). AnswersWords (given (k ∷ [])) old new r) (e ∙ same o) t
  where
    same : (o : Option ℕ) → unwrap_or o 0 ≡ at_node (λ k. k) o
    same None = refl
    same (Some k) = refl

module _ (b : RectangularBoard) (ts : Tiles) (out out' answer answer' : List ℕ) (s : Result (Option ℕ) Refusal) (gets : GetsSingleTiling b ts out out' s) (r : ℕ) where
  abbrev search : Answer (Board × List Path)
  search = read_search b ts (length out / 4)

  told_single : AnswersWords (map_answer (λ p. at_node (λ n. n) (number_found gets.found) ∷ []) search) answer answer' r → AnswersSingle search out answer out' answer' r
  told_single t = record { found = gets.found; tiling = gets.tiling; answered = t; out_left = gets.words }

  -- what was found has a number, or is nothing
  pub single_told : (o : Option ℕ) → answer_of s ≡ given o → AnswersWords (given (at_node (λ n. n) o ∷ [])) answer answer' r → AnswersSingle search out answer out' answer' r
  single_told o e t =
      let m = map_given (λ (p : Board × List Path). number_found gets.found) search o (sym gets.answer ∙ e) in
      told_single (tells_value answer answer' r (λ p. at_node (λ n. n) (number_found gets.found) ∷ []) search m.0 (at_node (λ n. n) o ∷ []) m.1
      (ap (λ (x : Option ℕ). padded (at_node (λ n. n) x ∷ []) (length answer)) (sym m.2)) t)

  pub single_refused : (q : Refusal) → s ≡ Err q → AnswersWords (refused (refusal_number q)) answer answer' r → AnswersSingle search out answer out' answer' r
  single_refused q e t =
      let no = (map_refused (λ (p : Board × List Path). number_found gets.found) search (refusal_number q)).0 (sym gets.answer ∙ ap answer_of e) in
      told_single (tells_no answer answer' r (λ p. at_node (λ n. n) (number_found gets.found) ∷ []) search q no t)

-- ---- `tiling_by_number`

-- a number of two words
value_two : (m : List ℕ) → length m ≡ 2 → value m ≡ get_or m 0 0 + 2 ^ 64 * get_or m 1 0
unfolding value
value_two [] e = absurd (omega (arith, e))
value_two (a ∷ []) e = absurd (omega (arith, e))
value_two (a ∷ b ∷ []) e = ap (λ (k : ℕ). a + 2 ^ 64 * k) (add-zero b)
value_two (a ∷ b ∷ c ∷ m) e = absurd (omega (arith, e))

-- the number that was handed on: that of the two words, or the largest count
pub gives_number : (g : GraphResult) (nodes counts edges m out out' : List ℕ) (t : Result ℕ Refusal) (k : ℕ) → length m ≡ 2
    → k ≡ min (get_or m 0 0 + 2 ^ 64 * get_or m 1 0) (count_limit - 1) → GivesTiling g nodes counts edges k out out' t
    → GivesTiling g nodes counts edges (min (value m) (count_limit - 1)) out out' t
gives_number g nodes counts edges m out out' t k two e x =
    subst (λ (n : ℕ). GivesTiling g nodes counts edges n out out' t) (e ∙ ap (λ (n : ℕ). min n (count_limit - 1)) (sym (value_two m two))) x

module _ (g : GraphResult) (nodes counts edges m out out' answer answer' : List ℕ) (t : Result ℕ Refusal)
    (gives : GivesTiling g nodes counts edges (min (value m) (count_limit - 1)) out out' t) (small : Small counts) (r : ℕ) where
  abbrev list : Answer (List ℕ)
  list = tiling_by_number g (length nodes) counts edges (value m) (length out)

  -- a number that is too large for a count is refused as the largest count is
  same : tiling_by_number g (length nodes) counts edges (min (value m) (count_limit - 1)) (length out) ≡ list
  same = number_capped g (length nodes) counts edges (value m) (length out) small

  told_list : AnswersWords (map_answer (λ ns. length ns ∷ []) list) answer answer' r → AnswersList padded list out answer out' answer' r
  told_list x = record { answered = x; out_left = gives.words ∙ ap (λ (a : Answer (List ℕ)). padded (value_or [] a) (length out)) same }

  pub list_told : (n : ℕ) → t ≡ Ok n → AnswersWords (given (n ∷ [])) answer answer' r → AnswersList padded list out answer out' answer' r
  list_told n e x = told_list (tells_one answer answer' r length list n (sym (ap answer_of e) ∙ gives.answer ∙ ap (map_answer length) same) x)

  pub list_refused : (q : Refusal) → t ≡ Err q → AnswersWords (refused (refusal_number q)) answer answer' r → AnswersList padded list out answer out' answer' r
  list_refused q e x =
      let no = (map_refused length list (refusal_number q)).0 (sym (ap (map_answer length) same) ∙ sym gives.answer ∙ ap answer_of e) in
      told_list (tells_no answer answer' r (λ ns. length ns ∷ []) list q no x)

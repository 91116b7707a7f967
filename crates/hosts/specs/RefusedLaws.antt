-- Laws of calls that returned a refusal's number: every lent word and byte is zero. Rests on `ReturnLaws`, `ReadBackLaws`, cells' `ArrayLaws`
-- and `ListLaws`, and path_count's `PathCountLaws`. Assumes nothing.
use Rattle.std.specs.Prelude.{◌≡◌, List, [], ℕ, zero, suc, ◌<◌, length, get_or, replicate}
use Rattle.std.proofs.Math.Path.{refl}
use Rattle.std.proofs.Common.{sym, ap, ◌∙◌, subst, arith}
use Rattle.std.proofs.lemmas.List.{length-replicate}
use Rattle.cells.specs.Lists.{list_of, padded, words_for}
use Rattle.cells.specs.ListLaws.{cleared_all}
use Rattle.cells.specs.ArrayLaws.{list_of_ext, replicate_list_of, padded_empty}
use Rattle.refusal.specs.Refusal.{Answer, refused, given, map_answer, refusal_of, value_or}
use Rattle.rectangle.specs.Board.{no_board}
use Rattle.path_count.specs.PathCounts.{counts_for}
use Rattle.path_count.specs.PathCountLaws.{cleared_counts_for}
use Rattle.graph.specs.Graph.{edges_for}
use Rattle.host_words.specs.Layout.{board_words, AnswersWords}
use Rattle.host_tiles.specs.TileBytes.{bytes_for}
use Rattle.hosts.specs.ReturnLaws.{map_number}

-- ---- words that hold nothing are zero

zeros : (f : ℕ → ℕ) (n : ℕ) → ((k : ℕ) → f k ≡ 0) → list_of f n ≡ replicate n 0
zeros f n z = list_of_ext f (λ k. 0) n (λ k h. z k) ∙ sym (replicate_list_of 0 n 0)

pub no_sets : (n : ℕ) → words_for [] n ≡ replicate n 0
unfolding words_for
no_sets n = padded_empty n

pub no_counts : (n : ℕ) → counts_for [] n ≡ replicate n 0
no_counts n =
    let long : length (replicate {A = ℕ} n 0) ≡ n = length-replicate n 0 in
    ap (counts_for []) (sym long)
    ∙ sym (cleared_counts_for (replicate n 0))
    ∙ cleared_all (replicate n 0)
    ∙ no_sets (length (replicate {A = ℕ} n 0))
    ∙ ap (λ (k : ℕ). replicate k 0) long

pub no_edges : (n : ℕ) → edges_for [] n ≡ replicate n 0
unfolding edges_for
no_edges n = padded_empty n

pub no_tiles : (n : ℕ) → bytes_for [] n ≡ replicate n 0
unfolding bytes_for
no_tiles n = padded_empty n

pub zero_at : (n k : ℕ) → get_or (replicate {A = ℕ} n 0) k 0 ≡ 0
zero_at zero k = refl
zero_at (suc n) zero = refl
zero_at (suc n) (suc k) = zero_at n k

ten_zeros : board_words no_board ≡ replicate 10 0
unfolding board_words
ten_zeros = refl

pub no_board_lem : (n : ℕ) → padded (board_words no_board) n ≡ replicate n 0
unfolding padded
no_board_lem n = ap (λ (ws : List ℕ). padded ws n) ten_zeros ∙ zeros (λ k. get_or (replicate 10 0) k 0) n (zero_at 10)

-- ---- an answer with a refusal's number has no value

module _ {A : Type 0} where
  pub no_value : (a : Answer A) (d : A) → 0 < refusal_of a → value_or d a ≡ d
  unfolding refusal_of value_or
  no_value (refused n) d h = refl
  no_value (given x) d h = absurd (omega arith)

  pub nothing_put : {B : Type 0} (f : A → B) (a : Answer A) (d : B) → 0 < refusal_of a → value_or d (map_answer f a) ≡ d
  unfolding refusal_of value_or map_answer
  nothing_put f (refused n) d h = refl
  nothing_put f (given x) d h = absurd (omega arith)

  module _ (f : A → List ℕ) (a : Answer A) (old new : List ℕ) (r : ℕ) (told : AnswersWords (map_answer f a) old new r) (h : 0 < r) where
    -- the answer was refused,
    pub was_refused : 0 < refusal_of a
    was_refused = subst (λ (n : ℕ). 0 < n) (told.number ∙ map_number f a) h

    -- and the answer words are zero
    pub words_zero : new ≡ replicate (length old) 0
    words_zero = told.words ∙ ap (λ (ns : List ℕ). padded ns (length old)) (nothing_put f a [] was_refused) ∙ padded_empty (length old)

-- ---- what else is lent

module _ {A : Type 0} (a : Answer A) (h : 0 < refusal_of a) where
  -- what was written of a value is written of no value
  pub none_left : {L : Type 0} (d : A) (write : A → L) {left : L} → left ≡ write (value_or d a) → left ≡ write d
  none_left d write e = e ∙ ap write (no_value a d h)

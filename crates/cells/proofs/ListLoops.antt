-- What the loops and stores over lists of sets in lent words come to: the search, the four stores of one set, and the clearing. Rests on
-- `ListLaws` and `ArrayLaws`. Assumes nothing.
use mathlib.Core.Path.{◌≡◌, refl, sym, ap, ◌∙◌}
use mathlib.Core.Bool.{Bool, cond}
use mathlib.Core.List.{List}
use Prim.Native.Nat.{ℕ, suc, ◌+◌, ◌-◌, ◌*◌, ◌/◌, ◌≤◌, ◌<◌}
use native.Mathlib.Omega.{arith}
use borrow.Author.Rules.{rules}
use borrow.Rule.Slice.PartMut.{put_mid}
use Rattle.std.proofs.lemmas.List.{places}
use Rattle.std.proofs.Math.Decide.{dec_lt}
use borrow.Author.Tests.{lt-ltb, le-ltb}
use lib.Dec.{eqb, ltb}
use lib.ListN.{length, get_or, set, take, replicate}
use Rattle.cells.specs.declared.Cells.{Cells}
use Rattle.cells.specs.Set.{number, Sound}
use Rattle.cells.specs.Lists.{set_at}
use Rattle.cells.specs.Parts.{with_set, cleared_from}
use Rattle.cells.specs.WordLaws.{words_of_number}
use Rattle.cells.specs.ArrayLaws.{list_of_eta}
use Rattle.cells.specs.ListLaws.{with_set_lent}

-- ---- the search for a set

-- what a look at one set tells
pub looked_at : (ws : List ℕ) (i x s : ℕ) (t b : Bool) → s ≡ set_at ws i → t ≡ eqb s x → t ≡ b → eqb (set_at ws i) x ≡ b
looked_at ws i x s t b e f g = ap (λ (y : ℕ). eqb y x) (sym e) ∙ sym f ∙ g

-- ---- the four stores of one set

-- four words stored one by one are the set stored
pub with_set_words : (ws : List ℕ) (i : ℕ) (s : Cells) → Sound s → i < length ws / 4 → set (set (set (set ws (4 * i) s.w0) (4 * i + 1) s.w1) (4 * i + 2) s.w2) (4 * i + 3) s.w3 ≡ with_set ws i (number s)
with_set_words ws i s h l =
    let one : 4 * i + 1 ≡ suc (4 * i) = omega arith in
    let two : 4 * i + 2 ≡ suc (suc (4 * i)) = omega arith in
    let three : 4 * i + 3 ≡ suc (suc (suc (4 * i))) = omega arith in
    rw (one, two, three, with_set_lent ws i (number s) l, words_of_number s h)

-- ---- zeros from a word on

pub cleared_none : (ws : List ℕ) (from : ℕ) → length ws ≤ from → ws ≡ cleared_from from ws
unfolding cleared_from
cleared_none ws from h = list_of_eta 0 ws (λ k. cond (ltb k from) (get_or ws k 0) 0) (length ws) refl (λ k l. rw (lt-ltb k from (omega arith)))

-- zeros written behind a place
pub cleared_filled : (ws ys : List ℕ) (from : ℕ) → from < length ws → ys ≡ replicate (length ws - from) 0
    → put_mid from (length ws - from) ws ys ≡ cleared_from from ws
unfolding cleared_from
cleared_filled ws ys from h e =
    list_of_eta 0 (put_mid from (length ws - from) ws ys) (λ k. cond (ltb k from) (get_or ws k 0) 0) (length ws)
    (search (rules, places, e, h))
    (λ k l. go k l (dec_lt k from))
  where
    long : length (take from ws) ≡ from
    long = search (rules, places, h)

    zero_at : (k : ℕ) → from ≤ k → k < length ws → get_or (put_mid from (length ws - from) ws ys) k 0 ≡ 0
    zero_at k a b = rw e (search (rules, places, a, b, h))

    go : (k : ℕ) → k < length ws → Dec (k < from) → get_or (put_mid from (length ws - from) ws ys) k 0 ≡ cond (ltb k from) (get_or ws k 0) 0
    go k l (yes a) = rw (lt-ltb k from a) (search (rules, places, a, h))
    go k l (no a) = let b : from ≤ k = omega arith in rw (le-ltb k from b) (zero_at k b l)

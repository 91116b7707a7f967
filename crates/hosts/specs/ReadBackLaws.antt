-- Laws of what stands in lent words and bytes, read again by another call: a board's ten words, the bytes of tiles, the four words of a graph's result, and a
-- count's two words. Rests on cells' `WordLaws` and `ArrayLaws`, tiles' `StoredLaws`, board's `BoardLaws` and graph's `GraphLaws`. Assumes nothing.
use Rattle.std.specs.Prelude.{◌≡◌, Bool, true, false, cond, List, [], ℕ, zero, suc, ◌+◌, ◌-◌, ◌*◌, ◌/◌, ◌%◌, ◌^◌, ◌≤◌, ◌<◌, eqb, take, drop, Option, None, Some}
use Rattle.std.proofs.Math.Path.{refl, sym}
use Rattle.std.proofs.Common.{ap, ◌∙◌, subst, lt_of_lt_of_le, arith, lit<, lit≤, get_or-take, get_or-drop, length-take-le, ne_eqb}
use Rattle.std.proofs.Math.Decide.{dec_lt}
use Rattle.std.proofs.Math.ListN.{length, get_or, get_or-eq_default}
use Rattle.cells.specs.Set.{value, words_below, words_of}
use Rattle.cells.specs.WordLaws.{Small, value_words_below}
use Rattle.cells.specs.Lists.{list_of, padded}
use Rattle.cells.specs.ArrayLaws.{length_list_of, get_d_list_of, list_of_ext}
use Rattle.tile.specs.Path.{Path}
use Rattle.tiles.specs.Inner.{Storable}
use Rattle.tiles.specs.Paths.{read_tiles, tiles_of}
use Rattle.tiles.specs.StoredLaws.{read_tiles_tiles_of, tiles_at, tiles_of_at}
use Rattle.refusal.specs.Refusal.{given}
use Rattle.rectangle.specs.Board.{Board, valid}
use Rattle.board.specs.Board.{read_board}
use Rattle.board.specs.BoardLaws.{struct_of, board_struct, read_board_given}
use Rattle.covers.specs.Counts.{at_node}
use Rattle.path_count.specs.PathCounts.{count_limit}
use Rattle.graph.proofs.GraphLaws.{take_padded}
use Rattle.host_words.specs.Layout.{board_in, board_words, complete_in, result_in, has_node, result_words}
use Rattle.host_tiles.specs.TileBytes.{tiles_in, bytes_for}
use Rattle.host_tiles.specs.TileByteLaws.{byte_of, bytes_for_at}

-- ---- words in order

pub number_at : (ns : List ℕ) (count k : ℕ) → k < count → get_or (padded ns count) k 0 ≡ get_or ns k 0
unfolding padded
number_at ns count k h = get_d_list_of (λ i. get_or ns i 0) count k 0 h

-- ---- a board

module _ (b : Board) (count : ℕ) (ten : 10 ≤ count) where
  abbrev left : List ℕ
  left = padded (board_words b) count

  word_left : (k : ℕ) → k < 10 → get_or left k 0 ≡ get_or (board_words b) k 0
  word_left k h = number_at (board_words b) count k (omega arith)

  mark_left : (i : ℕ) → i < 8 → get_or (take 8 (drop 2 left)) i 0 ≡ get_or (board_words b) (2 + i) 0
  mark_left i h = get_or-take 8 (drop 2 left) i 0 h ∙ get_or-drop 2 left i 0 ∙ word_left (2 + i) (omega arith)

  struct_left : board_in (get_or left 0 0) (get_or left 1 0) (take 8 (drop 2 left)) ≡ struct_of b
  unfolding board_words words_of words_below
  struct_left =
      rw (
        word_left 0 (lit< tt),
        word_left 1 (lit< tt),
        mark_left 0 (lit< tt),
        mark_left 1 (lit< tt),
        mark_left 2 (lit< tt),
        mark_left 3 (lit< tt),
        mark_left 4 (lit< tt),
        mark_left 5 (lit< tt),
        mark_left 6 (lit< tt),
        mark_left 7 (lit< tt),
      )

-- a valid board's words are read as that board
pub board_back : (b : Board) (count : ℕ) → 10 ≤ count → b.fixed < 2 ^ 256 → b.laid < 2 ^ 256 → valid b ≡ true → (ws : List ℕ) → ws ≡ padded (board_words b) count
    → read_board (board_in (get_or ws 0 0) (get_or ws 1 0) (take 8 (drop 2 ws))) ≡ given b
board_back b count ten f l ok ws e =
    let same = board_struct b f l in
    ap (λ (xs : List ℕ). read_board (board_in (get_or xs 0 0) (get_or xs 1 0) (take 8 (drop 2 xs)))) e
    ∙ ap read_board (struct_left b count ten)
    ∙ read_board_given (struct_of b) (ap valid same ∙ ok)
    ∙ ap given same

-- ---- tiles

byte_length : (ps : List Path) (i : ℕ) → byte_of ps (33 * i) ≡ length (get_or ps i [])
unfolding byte_of
byte_length ps i =
    let a : (33 * i) % 33 ≡ 0 = omega arith in
    let b : (33 * i) / 33 ≡ i = omega arith in
    rw (a, b)

byte_code : (ps : List Path) (i q : ℕ) → q < 32 → byte_of ps (33 * i + (1 + q)) ≡ get_or (get_or ps i []) q 0
unfolding byte_of
byte_code ps i q h =
    let a : (33 * i + (1 + q)) % 33 ≡ 1 + q = omega arith in
    let b : (33 * i + (1 + q)) / 33 ≡ i = omega arith in
    let n : 1 + q ≡ 0 → ⊥ = λ e. omega arith in
    let c : 1 + q - 1 ≡ q = omega arith in
    rw (a, b, ne_eqb (1 + q) 0 n, c)

-- behind the last tile there are zeros
pub byte_past : (ps : List Path) (k : ℕ) → 33 * length ps ≤ k → byte_of ps k ≡ 0
unfolding byte_of
byte_past ps k h =
    let l : length ps ≤ k / 33 = omega arith in
    rw (get_or-eq_default ps [] l) (go (eqb (k % 33) 0))
  where
    go : (t : Bool) → cond t (length {A = ℕ} []) (get_or {A = ℕ} [] (k % 33 - 1) 0) ≡ 0
    go true = refl
    go false = refl

module _ (ps : List Path) (count : ℕ) (room : 33 * length ps ≤ count) where
  abbrev bytes : List ℕ
  bytes = take (33 * length ps) (bytes_for ps count)

  length_bytes_for : length (bytes_for ps count) ≡ count
  length_bytes_for = ap length (bytes_for_at ps count) ∙ length_list_of (byte_of ps) count

  length_bytes : length bytes ≡ 33 * length ps
  length_bytes = length-take-le (33 * length ps) (bytes_for ps count) (omega (arith, length_bytes_for))

  byte_left : (k : ℕ) → get_or bytes k 0 ≡ byte_of ps k
  byte_left k = go (dec_lt k (33 * length ps))
    where
      go : Dec (k < 33 * length ps) → get_or bytes k 0 ≡ byte_of ps k
      go (yes h) = get_or-take (33 * length ps) (bytes_for ps count) k 0 h ∙ ap (λ (bs : List ℕ). get_or bs k 0) (bytes_for_at ps count) ∙ get_d_list_of (byte_of ps) count k 0 (omega arith)
      go (no h) =
          let a : length bytes ≤ k = omega (arith, length_bytes) in
          let b : 33 * length ps ≤ k = omega arith in
          get_or-eq_default bytes 0 a ∙ sym (byte_past ps k b)

  tiles_left_lem : tiles_in bytes ≡ tiles_of ps
  unfolding tiles_at
  tiles_left_lem =
      let n : length bytes / 33 ≡ length ps = omega (arith, length_bytes) in
      let lens : list_of (λ i. get_or bytes (33 * i) 0) 64 ≡ list_of (λ i. length (get_or ps i [])) 64 =
      list_of_ext (λ i. get_or bytes (33 * i) 0) (λ i. length (get_or ps i [])) 64 (λ i h. byte_left (33 * i) ∙ byte_length ps i) in
      let codes : list_of (λ k. get_or bytes (33 * (k / 32) + (1 + k % 32)) 0) 2048 ≡ list_of (λ k. get_or (get_or ps (k / 32) []) (k % 32) 0) 2048 =
      list_of_ext (λ k. get_or bytes (33 * (k / 32) + (1 + k % 32)) 0) (λ k. get_or (get_or ps (k / 32) []) (k % 32) 0) 2048
      (λ k h. byte_left (33 * (k / 32) + (1 + k % 32)) ∙ byte_code ps (k / 32) (k % 32) (omega arith)) in
      let e : tiles_in bytes ≡ tiles_at ps = λ i. record { count = n i; lens = lens i; codes = codes i } in
      e ∙ sym (tiles_of_at ps)

-- the bytes of tiles are those tiles, as they are stored
pub tiles_stored : (ps : List Path) (count : ℕ) → 33 * length ps ≤ count → (bs : List ℕ) → bs ≡ bytes_for ps count → tiles_in (take (33 * length ps) bs) ≡ tiles_of ps
tiles_stored ps count room bs e = ap (λ (xs : List ℕ). tiles_in (take (33 * length ps) xs)) e ∙ tiles_left_lem ps count room

-- and are read as those tiles
pub tiles_back : (ps : List Path) (count : ℕ) → 2112 ≤ count → length ps ≤ 64 → Storable ps → (bs : List ℕ) → bs ≡ bytes_for ps count
    → read_tiles (tiles_in (take (33 * length ps) bs)) ≡ given ps
tiles_back ps count room few fine bs e =
    let r : 33 * length ps ≤ count = omega arith in
    ap read_tiles (tiles_stored ps count r bs e) ∙ read_tiles_tiles_of ps few fine

pub bytes_length : (ps : List Path) (count : ℕ) → 2112 ≤ count → length ps ≤ 64 → (bs : List ℕ) → bs ≡ bytes_for ps count → length (take (33 * length ps) bs) ≡ 33 * length ps
bytes_length ps count room few bs e =
    let r : 33 * length ps ≤ count = omega arith in
    ap (λ (xs : List ℕ). length (take (33 * length ps) xs)) e ∙ length_bytes ps count r

-- ---- a result

module _ (nodes edges : ℕ) (complete : Option ℕ) where
  result_four : length (result_words nodes edges complete) ≡ 4
  unfolding result_words
  result_four = refl

  -- four words that were written are read as they were
  pub result_left : (count : ℕ) → 4 ≤ count → (ws : List ℕ) → ws ≡ padded (result_words nodes edges complete) count → take 4 ws ≡ result_words nodes edges complete
  result_left count h ws e =
      ap (take 4) e
      ∙ subst (λ (k : ℕ). take k (padded (result_words nodes edges complete) count) ≡ result_words nodes edges complete) result_four
      (take_padded (result_words nodes edges complete) count (omega (arith, result_four)))

  pub result_nodes : (result_in (result_words nodes edges complete)).nodes ≡ nodes
  unfolding result_in result_words
  result_nodes = refl

  pub result_edges_lem : (result_in (result_words nodes edges complete)).edges ≡ edges
  unfolding result_in result_words
  result_edges_lem = refl

  pub result_length : length (result_words nodes edges complete) ≡ 4
  result_length = result_four

full_back : (complete : Option ℕ) → complete_in (has_node complete) (at_node (λ v. v) complete) ≡ complete
unfolding complete_in has_node at_node
full_back None = refl
full_back (Some v) = refl

pub result_complete : (nodes edges : ℕ) (complete : Option ℕ) → (result_in (result_words nodes edges complete)).complete ≡ complete
unfolding result_in result_words
result_complete nodes edges complete = full_back complete

flag_small : (complete : Option ℕ) → has_node complete ≤ 1
unfolding has_node
flag_small None = omega arith
flag_small (Some v) = omega arith

pub result_flag : (nodes edges : ℕ) (complete : Option ℕ) → get_or (result_words nodes edges complete) 2 0 ≤ 1
unfolding result_words
result_flag nodes edges complete = flag_small complete

-- ---- a count

pub two_words : (n : ℕ) → length (words_below 2 n) ≡ 2
unfolding words_below
two_words n = refl

word_below : (n : ℕ) → n % 2 ^ 64 < 2 ^ 64
word_below n = omega arith

-- each of 64 bits
pub two_small : (n : ℕ) → Small (words_below 2 n)
unfolding words_below
two_small n zero = word_below n
two_small n (suc zero) = word_below (n / 2 ^ 64)
two_small n (suc (suc i)) = lit< tt

pub value_two : (n : ℕ) → n < count_limit → value (words_below 2 n) ≡ n
value_two n h = value_words_below 2 n (lt_of_lt_of_le h (lit≤ tt))

-- the two words of a count are read as the count
pub count_back : (n count : ℕ) → n < count_limit → 2 ≤ count → (ws : List ℕ) → ws ≡ padded (words_below 2 n) count → value (take 2 ws) ≡ n
count_back n count h l ws e =
    ap value
    (ap (take 2) e
    ∙ subst (λ (k : ℕ). take k (padded (words_below 2 n) count) ≡ words_below 2 n) (two_words n) (take_padded (words_below 2 n) count (subst (λ (k : ℕ). k ≤ count) (sym (two_words n)) l)))
    ∙ value_two n h

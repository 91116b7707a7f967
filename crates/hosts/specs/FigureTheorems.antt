-- What `cuttings_count_cuttings` means for a host: the theorem page. When 0 is returned; how it stands beside `cuttings_count_tilings`; that the number that it tells is the
-- number of cuttings whether a cell is free or not; what the product of two such numbers is; and what an archive record holds into which its words are written. What
-- it returns and leaves, for every input, is `AnswersCount` of `cuttings_counted` (host_counts' `Calls`), and each statement here is of calls of which it holds. What stands in
-- quotation marks is 02's, from its request 3. Rests on `FigureLaws`, `ReturnLaws` and `RecordTheorems`. Assumes nothing.
use Rattle.std.specs.Prelude.{◌≡◌, refl, ◌↔◌, true, List, [], ◌∷◌, ◌++◌, ℕ, ◌*◌, ◌≤◌, ◌<◌, ◌^◌, length, get_or, take, replicate}
use Rattle.std.proofs.Common.{sym, subst, arith}
use Rattle.cells.specs.Set.{value}
use Rattle.cells.specs.WordLaws.{Small}
use Rattle.refusal.specs.Refusal.{given}
use Rattle.tiles.specs.Paths.{paths_in}
use Rattle.board.specs.Board.{board_of}
use Rattle.rectangle.specs.Board.{is_full}
use Rattle.covers.specs.Counts.{Exactly}
use Rattle.covers.proofs.Theorems.{number_of_pairs}
use Rattle.graph.specs.Graph.{layer_room}
use Rattle.expansion.specs.Plots.{IsCutting, HasFreeCell, AllEdgeJoined}
use Rattle.cuttings.specs.Cuttings.{count_cuttings}
use Rattle.cuttings.proofs.Theorems.{CutsBoth}
use Rattle.host_words.specs.Layout.{board_in, plot_shape}
use Rattle.host_tiles.specs.TileBytes.{tiles_in}
use Rattle.host_counts.specs.Calls.{counted, cuttings_counted, AnswersCount}
use Rattle.archive.specs.Archive.{LeavesOutcome, record_size, write_record}
use Rattle.archive.specs.Records.{InRange}
use Rattle.host_records.specs.Calls.{record_for, records_counted, record_found}
use Rattle.hosts.specs.ReturnLaws.{zero_given, unless_same, cuttings_refuses}
use Rattle.hosts.specs.Theorems.{count_told, count_tilings_refused}
use Rattle.hosts.specs.RecordTheorems.{appended_found}
use Rattle.hosts.specs.FigureLaws as Law

-- `cuttings_count_cuttings` is called with a board and tiles, and words are lent,
module _ (width height : ℕ) (marks tiles : List ℕ) (boardsA countsA boardsB countsB answer : List ℕ) where
  abbrev room : ℕ
  room = layer_room (length boardsA) (length countsA) (length boardsB) (length countsB)

  -- it returns r and leaves these words,
  abbrev pub Called : List ℕ → List ℕ → List ℕ → List ℕ → List ℕ → ℕ → Type 0
  Called boardsA' countsA' boardsB' countsB' answer' r =
      AnswersCount (cuttings_counted width height marks tiles room (length answer)) boardsA countsA boardsB countsB answer boardsA' countsA' boardsB' countsB' answer' r

  -- and so does `cuttings_count_tilings`.
  abbrev pub LayersCalled : List ℕ → List ℕ → List ℕ → List ℕ → List ℕ → ℕ → Type 0
  LayersCalled boardsA' countsA' boardsB' countsB' answer' r =
      AnswersCount (counted width height marks tiles room (length answer)) boardsA countsA boardsB countsB answer boardsA' countsA' boardsB' countsB' answer' r

  module _ (boardsA' countsA' boardsB' countsB' answer' : List ℕ) where
    -- ---- 1. What is returned

    -- 0 is returned exactly if nothing is refused,
    pub count_cuttings_returns : (r : ℕ) → Called boardsA' countsA' boardsB' countsB' answer' r
        → (r ≡ 0) ↔ ((n : ℕ) × (cuttings_counted width height marks tiles room (length answer) ≡ given n))
    count_cuttings_returns r told =
        zero_given _ (cuttings_counted width height marks tiles room (length answer)) answer answer' r (cuttings_refuses width height marks tiles (length answer) room) told.answered

    -- the figure is then that of the call below,
    pub count_cuttings_below : Called boardsA' countsA' boardsB' countsB' answer' 0
        → cuttings_counted width height marks tiles room (length answer) ≡ count_cuttings (board_in width height marks) (tiles_in tiles) room
    unfolding cuttings_counted
    count_cuttings_below told =
        unless_same (plot_shape 2 (length marks) (length tiles) (length answer)) (count_cuttings (board_in width height marks) (tiles_in tiles) room)
        ((count_cuttings_returns 0 told).0 refl)

    -- and after a refusal the answer is zero. (The layers are zero on every return.)
    pub count_cuttings_refused : (r : ℕ) → Called boardsA' countsA' boardsB' countsB' answer' r → 0 < r → answer' ≡ replicate (length answer) 0
    count_cuttings_refused r = count_tilings_refused _ boardsA countsA boardsB countsB answer boardsA' countsA' boardsB' countsB' answer' r

    -- ---- 2. Beside `cuttings_count_tilings`, with the same words lent

    module _ (boardsA'' countsA'' boardsB'' countsB'' answer'' : List ℕ) (r s : ℕ) (told : Called boardsA' countsA' boardsB' countsB' answer' r)
        (beside : LayersCalled boardsA'' countsA'' boardsB'' countsB'' answer'' s) where
      -- "that call's refusals come first in either case": both return the same.
      pub returns_the_same : r ≡ s
      returns_the_same = Law.returns_alike width height marks tiles boardsA countsA boardsB countsB answer answer' answer'' r s told.answered beside.answered

      -- "otherwise the layer count": where a cell is free both leave the same answer.
      pub leaves_the_same : HasFreeCell (board_of (board_in width height marks)) → answer' ≡ answer''
      leaves_the_same = Law.words_alike width height marks tiles boardsA countsA boardsB countsB answer answer' answer'' r s told.answered beside.answered

      -- Where the answers differ no cell is free.
      pub differs_of_full : (answer' ≡ answer'' → ⊥) → is_full (board_of (board_in width height marks)) ≡ true
      differs_of_full = Law.words_differ width height marks tiles boardsA countsA boardsB countsB answer answer' answer'' r s told.answered beside.answered

    -- ---- 3. What the number is that it tells where it returns 0. The words of marks have 64 bits, as a host's words do

    module _ (small : Small marks) (told : Called boardsA' countsA' boardsB' countsB' answer' 0) where
      -- "Against exact covers, cuttings needs no free cell any more": it is the number of cuttings, where every tile is edge-joined.
      pub figure_is_number_of_cuttings : AllEdgeJoined (paths_in (tiles_in tiles)) → Exactly (count_told answer') (IsCutting (board_of (board_in width height marks)) (paths_in (tiles_in tiles)))
      figure_is_number_of_cuttings = Law.told_cuttings width height marks tiles boardsA countsA boardsB countsB answer small answer' told.answered

      -- "1 for a board with no free cell"
      pub full_board_tells_one : is_full (board_of (board_in width height marks)) ≡ true → count_told answer' ≡ 1
      full_board_tells_one = Law.told_one width height marks tiles boardsA countsA boardsB countsB answer small answer' told.answered

      -- ---- 4. "the archive takes the new figure": the two answer words as the low and the high word of a record

      -- They hold the number,
      pub archived_words : value (get_or answer' 0 0 ∷ get_or answer' 1 0 ∷ []) ≡ count_told answer'
      archived_words = Law.words_hold width height marks tiles boardsA countsA boardsB countsB answer small answer' told.answered

      -- and have their bits.
      pub archived_fits : (id year revision : ℕ) → id < 2 ^ 16 → year < 2 ^ 16 → revision < 2 ^ 16 → InRange (record_for id year revision (get_or answer' 0 0) (get_or answer' 1 0))
      archived_fits id year revision i y v = record {
        id = i;
        year = y;
        revision = v;
        low = Law.word_small width height marks tiles boardsA countsA boardsB countsB answer small answer' told.answered 0 (omega arith);
        high = Law.word_small width height marks tiles boardsA countsA boardsB countsB answer small answer' told.answered 1 (omega arith);
      }

      -- So who reads the record back, `cuttings_record_at` at the place where it was appended, has the number of cuttings in the last two of five words.
      pub archive_holds_number_of_cuttings : AllEdgeJoined (paths_in (tiles_in tiles)) → (id year revision : ℕ) → id < 2 ^ 16 → year < 2 ^ 16 → revision < 2 ^ 16
          → (out out' : List ℕ) → LeavesOutcome (write_record (record_for id year revision (get_or answer' 0 0) (get_or answer' 1 0)) (length out)) out out' 0
          → (file count count' : List ℕ) → LeavesOutcome (records_counted file (length count)) count count' 0
          → (entry entry' : List ℕ) (r : ℕ) → LeavesOutcome (record_found (file ++ take record_size out') (get_or count' 0 0) (length entry)) entry entry' r → 5 ≤ length entry
          → (low high : ℕ) × (take 5 entry' ≡ id ∷ year ∷ revision ∷ low ∷ high ∷ [])
          × Exactly (value (low ∷ high ∷ [])) (IsCutting (board_of (board_in width height marks)) (paths_in (tiles_in tiles)))
      archive_holds_number_of_cuttings joined id year revision i y v out out' written file count count' counts entry entry' r found five = (
        get_or answer' 0 0,
        get_or answer' 1 0,
        (appended_found id year revision (get_or answer' 0 0) (get_or answer' 1 0) (archived_fits id year revision i y v) out out' written file count count' counts entry entry' r found five).1,
        subst (λ (n : ℕ). Exactly n (IsCutting (board_of (board_in width height marks)) (paths_in (tiles_in tiles)))) (sym archived_words) (figure_is_number_of_cuttings joined),
      )

-- ---- 5. Products

-- "The planners multiply the counts of neighbouring plots": the product of the numbers that two calls tell is the number of pairs of cuttings, one of each plot.
pub product_of_figures : (width height : ℕ) (marks tiles boardsA countsA boardsB countsB answer boardsA' countsA' boardsB' countsB' answer' : List ℕ) → Small marks
    → Called width height marks tiles boardsA countsA boardsB countsB answer boardsA' countsA' boardsB' countsB' answer' 0 → AllEdgeJoined (paths_in (tiles_in tiles))
    → (width₂ height₂ : ℕ) (marks₂ tiles₂ boardsC countsC boardsD countsD answer₂ boardsC' countsC' boardsD' countsD' answer₂' : List ℕ) → Small marks₂
    → Called width₂ height₂ marks₂ tiles₂ boardsC countsC boardsD countsD answer₂ boardsC' countsC' boardsD' countsD' answer₂' 0 → AllEdgeJoined (paths_in (tiles_in tiles₂))
    → Exactly (count_told answer' * count_told answer₂')
    (CutsBoth (board_of (board_in width height marks)) (paths_in (tiles_in tiles)) (board_of (board_in width₂ height₂ marks₂)) (paths_in (tiles_in tiles₂)))
product_of_figures width height marks tiles boardsA countsA boardsB countsB answer boardsA' countsA' boardsB' countsB' answer' small told joined
    width₂ height₂ marks₂ tiles₂ boardsC countsC boardsD countsD answer₂ boardsC' countsC' boardsD' countsD' answer₂' small₂ told₂ joined₂ =
    number_of_pairs (count_told answer') (count_told answer₂')
    (figure_is_number_of_cuttings width height marks tiles boardsA countsA boardsB countsB answer boardsA' countsA' boardsB' countsB' answer' small told joined)
    (figure_is_number_of_cuttings width₂ height₂ marks₂ tiles₂ boardsC countsC boardsD countsD answer₂ boardsC' countsC' boardsD' countsD' answer₂' small₂ told₂ joined₂)

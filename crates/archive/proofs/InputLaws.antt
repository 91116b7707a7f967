-- What is read of a file's bytes, 24 at a time: whether these begin with a whole record, and which; numbers of two bytes and of eight. Rests on `Archive` and `ByteLaws`.
-- Assumes nothing.
use Rattle.std.specs.Prelude.{◌≡◌, refl, Option, None, Some, true, List, ◌++◌, ℕ, ◌+◌, ◌-◌, ◌≤◌, ◌<◌, min, leb, length, get_or, take, drop}
use Rattle.std.proofs.Common.{Bor, sym, ap, ◌∙◌, arith, zero-add, length-append, length-drop, length-take, drop-drop, get_or-drop, get_or-take, le-leb}
use Rattle.std.proofs.lemmas.Bool.{lt-leb}
use Rattle.std.proofs.Math.ListN.{get_or-append}
use Rattle.std.proofs.Math.Seq.{drop-append_seam}
use Rattle.std.proofs.Math.Decide.{dec_le}
use Rattle.std.proofs.lemmas.List.{take_rest}
use Rattle.std.specs.declared.slice.Chunks.{Chunks}
use Rattle.std.specs.Slice.Iter.{chunks_rest, chunks_size, chunks_steps}
use Rattle.std.specs.Option.{MatchOption}
use Rattle.std.specs.Array.{IsFirstChunk}
use Rattle.std.specs.Int.{w16, w64, from_be_bytes}
use Rattle.cells.specs.Lists.{ascii}
use Rattle.archive.specs.declared.Record.{Record}
use Rattle.archive.specs.Archive.{number_at, record_in, is_whole}
use Rattle.archive.proofs.ByteLaws.{number_at_ext, number_at_front}
use Rattle.archive.proofs.StepLaws.{whole_long}

-- ---- 24 bytes of those that are left, or all where they are fewer

pub record Front (bytes x behind : List ℕ) : Type 0 where
  pub joined : bytes ≡ x ++ behind
  pub long : length x ≡ min 24 (length bytes)
  pub some : 0 < length bytes

-- a step of `chunks`
pub front_step : (s t : Chunks ℕ) (x : Bor (List ℕ)) → chunks_steps s (Some x) t → chunks_size s ≡ 24 → Front (chunks_rest s) x.now (chunks_rest t)
front_step s t x h e = record { joined = h.1.0; long = h.1.1 ∙ ap (λ (n : ℕ). min n (length (chunks_rest s))) e; some = h.1.2 }

module _ (bytes x behind : List ℕ) (front : Front bytes x behind) where
  front_byte : (i : ℕ) → i < length x → get_or bytes i 0 ≡ get_or x i 0
  front_byte i h = ap (λ (l : List ℕ). get_or l i 0) front.joined ∙ get_or-append x behind 0 i h

  -- they begin with a whole record exactly if all that are left do,
  pub front_whole : is_whole x ≡ is_whole bytes
  unfolding is_whole ascii
  front_whole = go (dec_le 24 (length x))
    where
      go : Dec (24 ≤ length x) → is_whole x ≡ is_whole bytes
      go (yes h) = rw (le-leb 24 (length x) h, le-leb 24 (length bytes) (omega (arith, front.long)), front_byte 0 (omega arith), front_byte 1 (omega arith))
      go (no h) = rw (lt-leb 24 (length x) (omega arith), lt-leb 24 (length bytes) (omega (arith, front.long)))

  module _ (whole : is_whole x ≡ true) where
    pub front_long : 24 ≤ length x
    front_long = whole_long x whole

    -- and then with the same one,
    pub front_record : record_in x ≡ record_in bytes
    unfolding record_in
    front_record =
        let h = front_long in
        let same : (at k : ℕ) → at + k ≤ length x → number_at bytes at k ≡ number_at x at k = λ at k l. ap (λ (l : List ℕ). number_at l at k) front.joined ∙ number_at_front x behind at k l in
        rw (same 2 2 (omega arith), same 4 2 (omega arith), same 6 2 (omega arith), same 16 8 (omega arith), same 8 8 (omega arith))

    -- behind which the rest stands
    pub front_behind : drop 24 bytes ≡ behind
    front_behind =
        let h = front_long in
        let n : 24 ≡ length x = omega (arith, front.long) in
        ap (λ (k : ℕ). drop k bytes) n ∙ ap (drop (length x)) front.joined ∙ drop-append_seam x behind

-- ---- numbers

pub pair_value : (bytes : List ℕ) → from_be_bytes w16 bytes ≡ number_at bytes 0 2
unfolding number_at
pair_value bytes = omega arith

pub word_value : (bytes : List ℕ) → from_be_bytes w64 bytes ≡ number_at bytes 0 8
unfolding number_at
word_value bytes = omega arith

-- a number reads its own bytes only
pub number_cut : (bytes : List ℕ) (at k : ℕ) → number_at (take k (drop at bytes)) 0 k ≡ number_at bytes at k
number_cut bytes at k =
    number_at_ext (take k (drop at bytes)) bytes 0 at k (λ m h. ap (λ (i : ℕ). get_or (take k (drop at bytes)) i 0) (zero-add m) ∙ get_or-take k (drop at bytes) m 0 h ∙ get_or-drop at bytes m 0)

-- so that it is that of the first bytes from its place on
pub number_first : (bytes : List ℕ) (at k : ℕ) (o : Option (Bor (List ℕ))) (x : Bor (List ℕ)) → o ≡ Some x
    → MatchOption o (length (take (length bytes - at) (drop at bytes)) < k) (λ y. IsFirstChunk (take (length bytes - at) (drop at bytes)) y.now k) → number_at x.now 0 k ≡ number_at bytes at k
number_first bytes at k (Some y) x e h =
    let same : y ≡ x = cc in
    ap (λ (z : Bor (List ℕ)). number_at z.now 0 k) (sym same)
    ∙ ap (λ (l : List ℕ). number_at l 0 k) (h.same ∙ ap (take k) (take_rest bytes at))
    ∙ number_cut bytes at k
number_first bytes at k None x e h = absurd (let z : ◌≡◌ {A = ℕ} 0 1 = cc in omega arith)

-- Laws of texts in lent bytes (`written`, `Puts`): the bytes keep their number, two texts put one behind the other are their join, and a text put in
-- front, with the bytes behind it cleared, is what `WritesReport` says. Rests on `Inner` and `lib.Seq`. Assumes nothing.
use Rattle.std.specs.Prelude.{◌≡◌, refl, cond, ℕ, ◌+◌, ◌-◌, ◌≤◌, ◌<◌, min, ltb, replicate, drop}
use Rattle.std.proofs.Common.{sym, ap₂, ◌∙◌, subst, add-one, lt-ltb, le-ltb, length-drop, take-suc, get_or-append-add, get_or-drop, ext_get_or}
use Rattle.std.proofs.lemmas.List.{take_all, drop-drop, get_or-replicate, length-replicate}
use borrow.Rule.Slice.PartMut.{put_mid}
use Rattle.std.proofs.Math.Path.{ap}
use mathlib.Core.List.{List, [], ◌++◌, flat_map, append_assoc}
use Rattle.std.proofs.Math.Nat.{sub-zero}
use Rattle.std.proofs.Math.Decide.{dec_lt}
use native.Mathlib.Omega.{arith}
use Rattle.std.proofs.Math.ListN.{length, get_or, take, length-append, length-take, get_or-append, get_or-eq_default, drop_of_length-le}
use Rattle.std.proofs.Math.Seq.{get_or-take}
use Rattle.cells.specs.Lists.{list_of, padded}
use Rattle.cells.specs.Parts.{cleared_from}
use Rattle.cells.specs.ArrayLaws.{list_of_eta, list_of_ext}
use Rattle.cells.specs.MemberLaws.{flat_map_snoc}
use Rattle.report.specs.Report.{report, WritesReport}
use Rattle.report.specs.declared.text.Text.{Text}
use Rattle.report.specs.Inner.{written, Puts}

-- ---- the bytes with a text, byte by byte

get_d_past : (xs ys : List ℕ) (i : ℕ) → length xs ≤ i → get_or (xs ++ ys) i 0 ≡ get_or ys (i - length xs) 0
get_d_past xs ys i h =
    let e : i ≡ length xs + (i - length xs) = omega arith in
    ap (λ (k : ℕ). get_or (xs ++ ys) k 0) e ∙ get_or-append-add xs ys (i - length xs) 0

module _ (out : List ℕ) (at : ℕ) (text : List ℕ) (inside : at ≤ length out) where
  pub length_written : length (written out at text) ≡ length out
  unfolding written
  length_written = simp (length-append, length-take, length-drop) (omega arith)

  -- before the text
  pub written_before : (i : ℕ) → i < at → get_or (written out at text) i 0 ≡ get_or out i 0
  unfolding written
  written_before i h =
      get_or-append (take at out ++ take (length out - at) text) (drop (at + length text) out) 0 i (omega (arith, length-append (take at out) (take (length out - at) text), length-take at out))
      ∙ get_or-append (take at out) (take (length out - at) text) 0 i (omega (arith, length-take at out))
      ∙ get_or-take at out i 0 h

  -- in it
  pub written_in : (i : ℕ) → at ≤ i → i < at + length text → i < length out → get_or (written out at text) i 0 ≡ get_or text (i - at) 0
  unfolding written
  written_in i l h r =
      let n : length (take at out) ≡ at = simp length-take (omega arith) in
      get_or-append (take at out ++ take (length out - at) text) (drop (at + length text) out) 0 i
      (omega (arith, length-append (take at out) (take (length out - at) text), length-take (length out - at) text))
      ∙ get_d_past (take at out) (take (length out - at) text) i (omega arith)
      ∙ rw n (get_or-take (length out - at) text (i - at) 0 (omega arith))

  -- behind it
  pub written_behind : (i : ℕ) → at + length text ≤ i → i < length out → get_or (written out at text) i 0 ≡ get_or out i 0
  unfolding written
  written_behind i h r =
      let n : length (take at out ++ take (length out - at) text) ≡ at + length text = simp (length-append, length-take) (omega arith) in
      let e : at + length text + (i - (at + length text)) ≡ i = omega arith in
      get_d_past (take at out ++ take (length out - at) text) (drop (at + length text) out) i (omega arith)
      ∙ rw n (get_or-drop (at + length text) out (i - (at + length text)) 0 ∙ ap (λ (k : ℕ). get_or out k 0) e)

-- what has these bytes is it
pub written_is : (out : List ℕ) (at : ℕ) (text bs : List ℕ) → at ≤ length out → length bs ≡ length out
    → ((i : ℕ) → i < at → get_or bs i 0 ≡ get_or out i 0)
    → ((i : ℕ) → at ≤ i → i < at + length text → i < length out → get_or bs i 0 ≡ get_or text (i - at) 0)
    → ((i : ℕ) → at + length text ≤ i → i < length out → get_or bs i 0 ≡ get_or out i 0)
    → bs ≡ written out at text
written_is out at text bs inside len before in_text behind =
    ext_get_or 0 bs (written out at text) (len ∙ sym (length_written out at text inside)) (λ i h. go i h (dec_lt i at) (dec_lt i (at + length text)))
  where
    go : (i : ℕ) → i < length bs → Dec (i < at) → Dec (i < at + length text) → get_or bs i 0 ≡ get_or (written out at text) i 0
    go i h (yes a) d = before i a ∙ sym (written_before out at text inside i a)
    go i h (no a) (yes b) =
        let l : at ≤ i = omega arith in
        let r : i < length out = omega arith in
        in_text i l b r ∙ sym (written_in out at text inside i l b r)
    go i h (no a) (no b) =
        let l : at + length text ≤ i = omega arith in
        let r : i < length out = omega arith in
        behind i l r ∙ sym (written_behind out at text inside i l r)

-- ---- a text that is put

module _ {t t' : Text} {text : List ℕ} (p : Puts t text t') where
  -- the bytes keep their number
  pub puts_length : length t'.bytes.now ≡ length t.bytes.now
  puts_length = ap length p.bytes ∙ length_written t.bytes.now t.at text t.inside

-- a text by another form of it
pub puts_as : {t t' : Text} {a b : List ℕ} → a ≡ b → Puts t a t' → Puts t b t'
puts_as {t} {t'} {a} {b} e p = subst (λ (x : List ℕ). Puts t x t') e p

-- no text
pub puts_none : (t : Text) → Puts t [] t
puts_none t =
    let inside = t.inside in
    record {
      same = refl;
      bytes = written_is t.bytes.now t.at [] t.bytes.now t.inside refl (λ i h. refl) (λ i l h r. absurd (omega arith)) (λ i h r. refl);
      next = omega arith;
    }

-- as much of a text as there is room for, copied to its place: n of its bytes
pub puts_copied : (out : List ℕ) (at : ℕ) (text : List ℕ) (n k : ℕ) (part : List ℕ) → at ≤ length out → n ≡ min (length text) (length out - at) → k ≡ n → part ≡ take n text
    → put_mid at k out part ≡ written out at text
unfolding written
puts_copied out at text n k part inside is same copied =
    ap (λ (l : List ℕ). take at out ++ l) (ap₂ (λ (x y : List ℕ). x ++ y) front (drop-drop k at out ∙ behind))
    ∙ sym (append_assoc (take at out) (take (length out - at) text) (drop (at + length text) out))
  where
    front : part ≡ take (length out - at) text
    front = copied ∙ go (dec_lt (length out - at) (length text))
      where
        go : Dec (length out - at < length text) → take n text ≡ take (length out - at) text
        go (yes a) = let e : n ≡ length out - at = omega arith in ap (λ (m : ℕ). take m text) e
        go (no a) = take_all n text (omega arith) ∙ sym (take_all (length out - at) text (omega arith))

    behind : drop (at + k) out ≡ drop (at + length text) out
    behind = go (dec_lt (length out - at) (length text))
      where
        go : Dec (length out - at < length text) → drop (at + k) out ≡ drop (at + length text) out
        go (yes a) = drop_of_length-le out (omega arith) ∙ sym (drop_of_length-le out (omega arith))
        go (no a) = let e : at + k ≡ at + length text = omega arith in ap (λ (m : ℕ). drop m out) e

-- bytes in which a text was put at a place, and the place behind it
record Put (out : List ℕ) (at : ℕ) (text : List ℕ) (out' : List ℕ) (r : ℕ) : Type 0 where
  bytes : out' ≡ written out at text
  next : r ≡ min (length out) (at + length text)

put_behind : (out : List ℕ) (at : ℕ) (s t mid out' : List ℕ) (r q : ℕ) → at ≤ length out → r ≤ length mid → Put out at s mid r → Put mid r t out' q → Put out at (s ++ t) out' q
put_behind out at s t mid out' r q inside room f g =
    record {
      bytes = written_is out at (s ++ t) out' inside (ap length g.bytes ∙ length_written mid r t room ∙ len) before in_text behind;
      next = omega (arith, f.next, g.next, len, both);
    }
  where
    len : length mid ≡ length out
    len = ap length f.bytes ∙ length_written out at s inside

    both : length (s ++ t) ≡ length s + length t
    both = length-append s t

    next : r ≡ min (length out) (at + length s)
    next = f.next

    second : (i : ℕ) → get_or out' i 0 ≡ get_or (written mid r t) i 0
    second i = ap (λ (bs : List ℕ). get_or bs i 0) g.bytes

    first : (i : ℕ) → get_or mid i 0 ≡ get_or (written out at s) i 0
    first i = ap (λ (bs : List ℕ). get_or bs i 0) f.bytes

    before : (i : ℕ) → i < at → get_or out' i 0 ≡ get_or out i 0
    before i h = second i ∙ written_before mid r t room i (omega (arith, next)) ∙ first i ∙ written_before out at s inside i h

    in_text : (i : ℕ) → at ≤ i → i < at + length (s ++ t) → i < length out → get_or out' i 0 ≡ get_or (s ++ t) (i - at) 0
    in_text i l h b = go (dec_lt i (at + length s))
      where
        go : Dec (i < at + length s) → get_or out' i 0 ≡ get_or (s ++ t) (i - at) 0
        go (yes a) =
            second i
            ∙ written_before mid r t room i (omega (arith, next))
            ∙ first i
            ∙ written_in out at s inside i l a b
            ∙ sym (get_or-append s t 0 (i - at) (omega arith))
        go (no a) =
            let e : i - at - length s ≡ i - r = omega (arith, next) in
            second i
            ∙ written_in mid r t room i (omega (arith, next)) (omega (arith, next, both)) (omega (arith, len))
            ∙ sym (get_d_past s t (i - at) (omega arith) ∙ ap (λ (k : ℕ). get_or t k 0) e)

    behind : (i : ℕ) → at + length (s ++ t) ≤ i → i < length out → get_or out' i 0 ≡ get_or out i 0
    behind i h b =
        second i
        ∙ written_behind mid r t room i (omega (arith, next, both)) (omega (arith, len))
        ∙ first i
        ∙ written_behind out at s inside i (omega (arith, both)) b

-- one text behind the other
pub puts_append : {x y z : Text} {s t : List ℕ} → Puts x s y → Puts y t z → Puts x (s ++ t) z
puts_append {x} {y} {z} {s} {t} f g =
    let both = put_behind x.bytes.now x.at s t y.bytes.now z.bytes.now y.at z.at x.inside y.inside (record { bytes = f.bytes; next = f.next }) (record { bytes = g.bytes; next = g.next }) in
    record { same = g.same ∙ f.same; bytes = both.bytes; next = both.next }

-- the same where the second text is a join itself
pub puts_join : {x y z : Text} {s : List ℕ} (t u : List ℕ) → Puts x s y → Puts y (t ++ u) z → Puts x ((s ++ t) ++ u) z
puts_join {s = s} t u f g = puts_as (sym (append_assoc s t u)) (puts_append f g)

-- ---- a text in front of the bytes, and the bytes behind it cleared

-- zeros put from byte r on clear the bytes there
cleared_by : (r n : ℕ) (bytes zeros : List ℕ) → r ≤ length bytes → n ≡ length bytes - r → zeros ≡ replicate (length (take n (drop r bytes))) 0 → put_mid r n bytes zeros ≡ cleared_from r bytes
unfolding cleared_from
cleared_by r n bytes zeros inside is e = list_of_eta 0 (put_mid r n bytes zeros) (λ k. cond (ltb k r) (get_or bytes k 0) 0) (length bytes) long (λ k h. go k h (dec_lt k r))
  where
    count : length (take n (drop r bytes)) ≡ n
    count = omega (arith, length-take n (drop r bytes), length-drop r bytes)

    all : zeros ≡ replicate n 0
    all = e ∙ ap (λ (m : ℕ). replicate m 0) count

    size : length zeros ≡ n
    size = ap length all ∙ length-replicate n 0

    front : length (take r bytes) ≡ r
    front = omega (arith, length-take r bytes)

    long : length (put_mid r n bytes zeros) ≡ length bytes
    long = omega (arith, length-append (take r bytes) (zeros ++ drop n (drop r bytes)), length-append zeros (drop n (drop r bytes)), length-drop n (drop r bytes), length-drop r bytes, front, size)

    go : (k : ℕ) → k < length bytes → Dec (k < r) → get_or (put_mid r n bytes zeros) k 0 ≡ cond (ltb k r) (get_or bytes k 0) 0
    go k h (yes a) = rw (lt-ltb k r a) (get_or-append (take r bytes) (zeros ++ drop n (drop r bytes)) 0 k (omega (arith, front)) ∙ get_or-take r bytes k 0 a)
    go k h (no a) =
        rw (le-ltb k r (omega arith))
        (get_d_past (take r bytes) (zeros ++ drop n (drop r bytes)) k (omega (arith, front))
        ∙ get_or-append zeros (drop n (drop r bytes)) 0 (k - length (take r bytes)) (omega (arith, front, size))
        ∙ ap (λ (l : List ℕ). get_or l (k - length (take r bytes)) 0) all
        ∙ get_or-replicate n (k - length (take r bytes)) 0 0 (omega (arith, front)))

-- put in front of all the bytes
pub puts_cleared : {file out out' : List ℕ} {t t' : Text} → t.bytes.now ≡ out → t.at ≡ 0 → Puts t (report file) t' → out' ≡ cleared_from t'.at t'.bytes.now → WritesReport file out out' t'.at
unfolding cleared_from padded
puts_cleared {file} {out} {out'} {t} {t'} all front p e =
    record {
      bytes =
          e
          ∙ ap (list_of (λ k. cond (ltb k r) (get_or mid k 0) 0)) (puts_length p ∙ ap length all)
          ∙ list_of_ext (λ k. cond (ltb k r) (get_or mid k 0) 0) (λ k. get_or (report file) k 0) (length out) (λ k h. go k h (dec_lt k r));
      number = next;
    }
  where
    mid : List ℕ
    mid = t'.bytes.now

    r : ℕ
    r = t'.at

    next : r ≡ min (length out) (length (report file))
    next = let e : r ≡ min (length out) (0 + length (report file)) = p.next ∙ ap₂ (λ (l : List ℕ) (i : ℕ). min (length l) (i + length (report file))) all front in omega (arith, e)

    put : mid ≡ written out 0 (report file)
    put = p.bytes ∙ ap₂ (λ (l : List ℕ) (i : ℕ). written l i (report file)) all front

    go : (k : ℕ) → k < length out → Dec (k < r) → cond (ltb k r) (get_or mid k 0) 0 ≡ get_or (report file) k 0
    go k h (yes a) =
        rw (lt-ltb k r a)
        (ap (λ (bs : List ℕ). get_or bs k 0) put ∙ written_in out 0 (report file) (omega arith) k (omega arith) (omega (arith, next)) h ∙ ap (λ (i : ℕ). get_or (report file) i 0) (sub-zero k))
    go k h (no a) = rw (le-ltb k r (omega arith)) (sym (get_or-eq_default (report file) 0 {n = k} (omega (arith, next))))

-- the same where zeros are put behind it
pub puts_ends : {file out out' zeros : List ℕ} {t t' : Text} {n : ℕ} → t.bytes.now ≡ out → t.at ≡ 0 → Puts t (report file) t' → n ≡ length t'.bytes.now - t'.at
    → zeros ≡ replicate (length (take n (drop t'.at t'.bytes.now))) 0 → out' ≡ put_mid t'.at n t'.bytes.now zeros → WritesReport file out out' t'.at
puts_ends {zeros = zeros} {t' = t'} {n = n} all front p is clear e = puts_cleared all front p (e ∙ cleared_by t'.at n t'.bytes.now zeros t'.inside is clear)

-- ---- loops over parts of a text

-- the text of each number of a list
pub puts_part : {x y z : Text} (f : ℕ → List ℕ) (ns : List ℕ) (i : ℕ) → i < length ns → Puts x (flat_map f (take i ns)) y → Puts y (f (get_or ns i 0)) z
    → Puts x (flat_map f (take (i + 1) ns)) z
puts_part f ns i h p g = rw (add-one, take-suc ns i 0, flat_map_snoc f (take i ns) (get_or ns i 0)) (puts_append p g)

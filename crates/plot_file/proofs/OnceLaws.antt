-- A file is that of records in one way: equal files have the same board record, the same holes and the same tile records. Rests on `FileLaws`.
-- Assumes nothing.
use Rattle.std.specs.Prelude.{◌≡◌, refl, ℕ, length, take, drop}
use Rattle.std.proofs.Common.{sym, ap, ap₂, ◌∙◌, arith, take_at, drop_at}
use mathlib.Core.List.{List, [], ◌∷◌, ◌++◌, flat_map, append_assoc}
use Rattle.std.proofs.Math.Seq.{take-append_seam, drop-append_seam}
use Rattle.tile.specs.Path.{Path}
use Rattle.plot_file.specs.declared.marks.Mark.TheVariants.{EN}
use Rattle.plot_file.specs.PlotFile.{letters}
use Rattle.plot_file.specs.Records.{BoardRecord, rb, lb, tb, Hole, TileRecord, ti, or, board_bytes, hole_bytes, tile_bytes, file_of}
use Rattle.plot_file.proofs.FileLaws.{file_of_is}

same_cut : (p q s t : List ℕ) → length p ≡ length q → p ++ s ≡ q ++ t → (p ≡ q) × (s ≡ t)
same_cut p q s t l e = (
  sym (take-append_seam p s) ∙ ap (take (length p)) e ∙ take_at q t (length p) (sym l),
  sym (drop-append_seam p s) ∙ ap (drop (length p)) e ∙ drop_at q t (length p) (sym l),
)

apart : {n m : ℕ} {s t : List ℕ} → (n ≡ m → ⊥) → n ∷ s ≡ m ∷ t → ⊥
apart ne e = ne (cc)

board_bytes_once : (b c : BoardRecord) (s t : List ℕ) → board_bytes b ++ s ≡ board_bytes c ++ t → (b ≡ c) × (s ≡ t)
unfolding board_bytes
board_bytes_once (rb n m) (rb k l) s t e = (cc, cc)
board_bytes_once (lb n m) (lb k l) s t e = (cc, cc)
board_bytes_once (tb n m) (tb k l) s t e = (cc, cc)
board_bytes_once (rb n m) (lb k l) s t e = absurd (apart (λ z. omega arith) e)
board_bytes_once (rb n m) (tb k l) s t e = absurd (apart (λ z. omega arith) e)
board_bytes_once (lb n m) (rb k l) s t e = absurd (apart (λ z. omega arith) e)
board_bytes_once (lb n m) (tb k l) s t e = absurd (apart (λ z. omega arith) e)
board_bytes_once (tb n m) (rb k l) s t e = absurd (apart (λ z. omega arith) e)
board_bytes_once (tb n m) (lb k l) s t e = absurd (apart (λ z. omega arith) e)

body_once : (p q : Path) (s t : List ℕ) → length p ∷ p ++ s ≡ length q ∷ q ++ t → (p ≡ q) × (s ≡ t)
body_once p q s t e = same_cut p q s t (cc) (cc)

tile_bytes_once : (t u : TileRecord) (v w : List ℕ) → tile_bytes t ++ v ≡ tile_bytes u ++ w → (t ≡ u) × (v ≡ w)
unfolding tile_bytes
tile_bytes_once (ti p) (ti q) v w e = let r = body_once p q v w (ap (drop 2) e) in (ap ti r.0, r.1)
tile_bytes_once (or p) (or q) v w e = let r = body_once p q v w (ap (drop 2) e) in (ap or r.0, r.1)
tile_bytes_once (ti p) (or q) v w e = absurd (apart (λ z. omega arith) e)
tile_bytes_once (or p) (ti q) v w e = absurd (apart (λ z. omega arith) e)

not_end : (t : TileRecord) (v : List ℕ) → tile_bytes t ++ v ≡ letters EN → ⊥
unfolding tile_bytes letters
not_end (ti p) v e = apart (λ z. omega arith) e
not_end (or p) v e = apart (λ z. omega arith) e

tiles_once : (ts us : List TileRecord) → flat_map tile_bytes ts ++ letters EN ≡ flat_map tile_bytes us ++ letters EN → ts ≡ us
unfolding flat_map
tiles_once [] [] e = refl
tiles_once [] (u ∷ us) e =
    absurd (not_end u (flat_map tile_bytes us ++ letters EN) (sym (append_assoc (tile_bytes u) (flat_map tile_bytes us) (letters EN)) ∙ sym e))
tiles_once (t ∷ ts) [] e =
    absurd (not_end t (flat_map tile_bytes ts ++ letters EN) (sym (append_assoc (tile_bytes t) (flat_map tile_bytes ts) (letters EN)) ∙ e))
tiles_once (t ∷ ts) (u ∷ us) e =
    let r = tile_bytes_once t u (flat_map tile_bytes ts ++ letters EN) (flat_map tile_bytes us ++ letters EN)
    (sym (append_assoc (tile_bytes t) (flat_map tile_bytes ts) (letters EN)) ∙ e ∙ append_assoc (tile_bytes u) (flat_map tile_bytes us) (letters EN)) in
    ap₂ ◌∷◌ r.0 (tiles_once ts us r.1)

hole_bytes_once : (h g : Hole) (v w : List ℕ) → hole_bytes h ++ v ≡ hole_bytes g ++ w → (h ≡ g) × (v ≡ w)
unfolding hole_bytes
hole_bytes_once h g v w e =
    let row : h.row ≡ g.row = cc in
    let column : h.column ≡ g.column = cc in
    (ap₂ (λ (r c : ℕ). record { row = r; column = c }) row column, cc)

not_hole : (ts : List TileRecord) (h : Hole) (v : List ℕ) → flat_map tile_bytes ts ++ letters EN ≡ hole_bytes h ++ v → ⊥
unfolding flat_map tile_bytes hole_bytes letters
not_hole [] h v e = apart (λ z. omega arith) e
not_hole (ti p ∷ ts) h v e = apart (λ z. omega arith) e
not_hole (or p ∷ ts) h v e = apart (λ z. omega arith) e

holes_once : (hs gs : List Hole) (ts us : List TileRecord)
    → flat_map hole_bytes hs ++ (flat_map tile_bytes ts ++ letters EN) ≡ flat_map hole_bytes gs ++ (flat_map tile_bytes us ++ letters EN)
    → (hs ≡ gs) × (ts ≡ us)
unfolding flat_map
holes_once [] [] ts us e = (refl, tiles_once ts us e)
holes_once [] (g ∷ gs) ts us e =
    let back : List ℕ = flat_map tile_bytes us ++ letters EN in
    absurd (not_hole ts g (flat_map hole_bytes gs ++ back) (e ∙ append_assoc (hole_bytes g) (flat_map hole_bytes gs) back))
holes_once (h ∷ hs) [] ts us e =
    let back : List ℕ = flat_map tile_bytes ts ++ letters EN in
    absurd (not_hole us h (flat_map hole_bytes hs ++ back) (sym e ∙ append_assoc (hole_bytes h) (flat_map hole_bytes hs) back))
holes_once (h ∷ hs) (g ∷ gs) ts us e =
    let back : List ℕ = flat_map tile_bytes ts ++ letters EN in
    let other : List ℕ = flat_map tile_bytes us ++ letters EN in
    let r = hole_bytes_once h g (flat_map hole_bytes hs ++ back) (flat_map hole_bytes gs ++ other)
    (sym (append_assoc (hole_bytes h) (flat_map hole_bytes hs) back) ∙ e ∙ append_assoc (hole_bytes g) (flat_map hole_bytes gs) other) in
    let s = holes_once hs gs ts us r.1 in
    (ap₂ ◌∷◌ r.0 s.0, s.1)

-- equal files have equal records
pub file_once : (b c : BoardRecord) (hs gs : List Hole) (ts us : List TileRecord) → file_of b hs ts ≡ file_of c gs us → (b ≡ c) × (hs ≡ gs) × (ts ≡ us)
file_once b c hs gs ts us e =
    let r = board_bytes_once b c (flat_map hole_bytes hs ++ (flat_map tile_bytes ts ++ letters EN)) (flat_map hole_bytes gs ++ (flat_map tile_bytes us ++ letters EN))
    (sym (file_of_is b hs ts) ∙ e ∙ file_of_is c gs us) in
    let s = holes_once hs gs ts us r.1 in
    (r.0, s.0, s.1)

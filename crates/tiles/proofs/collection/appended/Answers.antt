-- `tiles::collection::appended` meets its contract: the count, the lengths and the codes are those of the struct with one tile more.
-- Assumes nothing.
use Rattle.std.proofs.Common.{◌≡◌, ◌+◌, ◌*◌, ◌∙◌, sym, length, arith, rules}
use Rattle.std.proofs.Math.ListN.{set}
use Rattle.std.proofs.lemmas.Slice.{put_mid-paste}
use Rattle.std.proofs.lemmas.List.Edits.{paste_all}
use Rattle.tiles.proofs.CodeLaws.{add_sub, overlay_is}
use Rattle.tiles.proofs.collection.appended.Goals as goal

pub returns : goal.returns
returns c =
    let ts = c.args.tiles in
    let t = c.args.tile in
    let own : length t.codes ≡ 32 = search rules in
    let long : length ts.codes ≡ 2048 = search rules in
    let few = c.requires in
    let at = 32 * ts.count in
    let codes =
    put_mid-paste at _ ts.codes _ t.codes 32 c.copy_from_slice.ensures.after (sym (add_sub at 32)) (sym own)
    ∙ paste_all ts.codes at t.codes 32 (sym own)
    ∙ overlay_is at t.codes ts.codes 2048 own (omega arith) long in
    λ i. record { count = ts.count + 1; lens = set ts.lens ts.count t.len; codes = codes i }

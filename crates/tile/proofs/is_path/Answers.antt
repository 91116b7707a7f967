-- `tile::is_path` meets its contract: the codes of a path that is short enough are tested.
-- Assumes nothing.
use Rattle.std.proofs.Common.{sym, ◌∙◌, ltb, rules, tests}
use Rattle.std.proofs.lemmas.Iterator.{YieldsList-from_slice}
use Rattle.std.proofs.lemmas.Iterator.Search.{all_from_yields_List}
use Rattle.tile.specs.StoredLaws.{is_path_short}
use Rattle.tile.proofs.CodeLaws.{codes_ok_all}
use Rattle.tile.proofs.is_path.Goals as goal

pub returns-then-path-le32 : goal.returns-then-path-le32
returns-then-path-le32 c =
    let path = c.args.path.now in
    all_from_yields_List (λ code. ltb code 8) _ _ c.all.result c.all.ensures.ran (YieldsList-from_slice path cc) (λ x b q k. search (rules, tests))
    ∙ codes_ok_all path
    ∙ sym (is_path_short path c.if-path-le32.true)

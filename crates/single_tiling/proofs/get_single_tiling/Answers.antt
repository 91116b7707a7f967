-- `single_tiling::get_single_tiling` meets its contract: what is not refused is searched, and zeros stand after a refusal.
-- Assumes nothing.
use Rattle.single_tiling.proofs.SearchLaws.{judged_free, judged_refused, gets_refused}
use borrow.Author.Rules.{rules}
use Rattle.single_tiling.proofs.get_single_tiling.Goals as goal

pub search-requires : goal.search-requires
search-requires c = judged_free _ _ _ _ c.judge-judged.ensures _ c.in-Ok.is (search rules)

pub returns-in-Err : goal.returns-in-Err
returns-in-Err c = gets_refused _ _ _ _ _ (judged_refused _ _ _ _ c.judge-judged.ensures _ c.in-Err.is) c.clear_from.ensures

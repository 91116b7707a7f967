-- `children::place_tile` meets its contract: the children are stored, and the words behind them are cleared, or all of them.
-- Assumes nothing.
use Rattle.std.proofs.Common.{arith, rules}
use Rattle.children.proofs.AnswerLaws.{places_number, places_refused}
use Rattle.children.proofs.place_tile.Goals as goal

pub overflow_mul-n : goal.overflow_mul-n
overflow_mul-n c = omega (arith, (c.store_children-stored.ensures.sets _ c.in-Ok.is).0)

pub returns-in-Ok : goal.returns-in-Ok
returns-in-Ok c =
    places_number _ _ _ _ _ c.store_children-stored.auto.out _ c.store_children-stored.ensures _ c.in-Ok.is (λ i. search rules) c.clear_from.ensures

pub returns-in-Err : goal.returns-in-Err
returns-in-Err c =
    places_refused _ _ _ _ _ c.store_children-stored.auto.out _ c.store_children-stored.ensures _ c.in-Err.is c.clear_from-in-Err.ensures

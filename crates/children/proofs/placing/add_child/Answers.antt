-- `children::placing::add_child` meets its contract: it is sought among the children, and stored behind them if there is room.
-- Assumes nothing.
use Rattle.std.proofs.Common.{true, false, refl, sym, ◌∙◌, rules}
use Rattle.cells.specs.WordLaws.{number_lt}
use Rattle.children.proofs.PlacingLaws.{found_held, add_full, add_old, add_over, add_put}
use Rattle.children.proofs.placing.add_child.Goals as goal

pub returns-in_err-n : goal.returns-in_err-n
returns-in_err-n c = rw c.from_residual.ensures (λ ns k. add_full _ _ _ k _ c.in_err-n.was)

pub returns-then-is_some : goal.returns-then-is_some
returns-then-is_some c = let h = c.is_some.ensures in λ ns k. add_old _ _ _ k _ _ c.in_ok-n.was true (sym c.if-is_some.true ∙ h ∙ found_held _ _ _ _ c.find.ensures) refl

pub returns-then-out-n : goal.returns-then-out-n
returns-then-out-n c = λ ns k. add_over _ _ _ k _ _ c.in_ok-n.was false (sym c.if-is_some.false ∙ c.is_some.ensures ∙ found_held _ _ _ _ c.find.ensures) refl c.if-out-n.true

pub returns : goal.returns
returns c =
    λ ns k. add_put _ _ _ k _ _ c.in_ok-n.was false (sym c.if-is_some.false ∙ c.is_some.ensures ∙ found_held _ _ _ _ c.find.ensures)
    (number_lt _ (record { s0 = search rules; s1 = search rules; s2 = search rules; s3 = search rules })) refl c.if-out-n.false _ c.put.ensures

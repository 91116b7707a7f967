-- `cells::padding::put_padded` meets its contract: the items are written in order, and zeros behind them.
-- Assumes nothing.
use Rattle.std.proofs.Common.{refl, ap, ◌∙◌, ◌≡◌, get_or, unwrap_or, arith}
use Rattle.cells.specs.ArrayLaws.{filled_start, filled_step, filled_end}
use Rattle.cells.proofs.padding.put_padded.Goals as goal

pub loop-i-init : goal.loop-i-init
loop-i-init g c = filled_start _ _ _ _ _ _ refl (λ k h. refl) (λ k h. absurd (omega arith))

pub loop-i-preserved : goal.loop-i-preserved
loop-i-preserved g c =
    let item : c.unwrap_or.result ≡ get_or c.args.items.now c.loop-i.i c.args.zero =
    c.unwrap_or.ensures ∙ ap (λ o. unwrap_or o c.args.zero) c.copied.ensures ∙ c.get.ensures.lookup.4 (omega arith) c.args.zero in
    filled_step _ _ _ _ _ _ _ c.loop-i.invariant (omega (arith, c.loop-i.invariant.long)) item

pub returns : goal.returns
returns g c = filled_end _ _ _ _ _ _ c.loop-i.invariant (λ k a b. absurd (omega arith))

-- `board::shape::free_count` meets its contract: the free cells are counted in order.
-- Assumes nothing.
use Rattle.std.proofs.Common.{◌≡◌, ℕ, ◌+◌, ◌≤◌, Bool, cond, sym, ap, ◌∙◌, add-zero, arith}
use Rattle.board.proofs.ShapeLaws.{counted_none, counted_more, counted_all}
use Rattle.board.proofs.shape.free_count.Goals as goal
use Rattle.board.proofs.shape.free_count.Goals.{then-is_free, else-is_free}

pub loop-cell-init : goal.loop-cell-init
loop-cell-init c = (omega arith, counted_none _)

pub loop-cell-preserved : goal.loop-cell-preserved
loop-cell-preserved c =
    let l = c.loop-cell in
    elim c.if-is_free.branch [
      | then-is_free w ↦ (
        omega (arith, w.n-is),
        counted_more _ l.n _ _ c.loop-cell-test.true l.invariant.1 (w.n-is ∙ ap (λ (t : Bool). l.n + cond t 1 0) w.if-is_free.ensures),
      )
      | else-is_free w ↦ (
        omega (arith, w.n-is),
        counted_more _ l.n _ _ c.loop-cell-test.true l.invariant.1 (w.n-is ∙ sym (add-zero l.n) ∙ ap (λ (t : Bool). l.n + cond t 1 0) w.if-is_free.ensures),
      )
    ]

pub returns : goal.returns
returns c = counted_all _ _ _ c.loop-cell.invariant.1 (omega arith) c.loop-cell-test.false

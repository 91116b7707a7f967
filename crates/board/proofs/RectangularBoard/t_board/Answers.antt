-- `board::RectangularBoard::t_board` meets its contract: a shape whose size fits, or refusal 4.
-- Assumes nothing.
use Rattle.std.proofs.Common.{◌+◌, ◌*◌, arith, subst}
use Rattle.refusal.specs.Refusal.{Answer}
use Rattle.rectangle.specs.Board.{Board}
use Rattle.board.specs.Board.{MakesBoard}
use Rattle.board.proofs.MadeLaws.{makes_refused, t_none, t_large, t_shaped, small_product}
use Rattle.board.proofs.RectangularBoard.t_board.Goals as goal

pub returns-then-scale-eq0 : goal.returns-then-scale-eq0
returns-then-scale-eq0 c = subst (λ (a : Answer Board). MakesBoard a c.made.result) (t_none _ _ c.if-scale-eq0.true) c.made.ensures

pub returns-then-scale-gt8 : goal.returns-then-scale-gt8
returns-then-scale-gt8 c = makes_refused _ _ (t_large _ _ c.if-scale-eq0.false c.then-scale-gt8.either)

pub overflow_mul-n-2 : goal.overflow_mul-n-2
overflow_mul-n-2 c = omega (arith, small_product (2 * c.args.n + 1) c.args.scale (omega arith) (omega arith))

pub overflow_mul-n-3 : goal.overflow_mul-n-3
overflow_mul-n-3 c = omega (arith, small_product c.args.n c.args.scale (omega arith) (omega arith))

pub overflow_mul-n-4 : goal.overflow_mul-n-4
overflow_mul-n-4 c = omega (arith, small_product (c.args.n + 1) c.args.scale (omega arith) (omega arith))

pub returns : goal.returns
returns c = subst (λ (a : Answer Board). MakesBoard a c.made-2.result) (t_shaped _ _) c.made-2.ensures

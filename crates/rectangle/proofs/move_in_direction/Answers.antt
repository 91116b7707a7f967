-- `rectangle::move_in_direction` meets its contract: the step of a code 0 to 7 is small, so that the sums are what they are in the plane.
-- Assumes nothing.
use Rattle.std.proofs.Common.{◌∙◌, arith}
use Rattle.rectangle.proofs.StepLaws.{moved}
use Rattle.rectangle.proofs.move_in_direction.Goals as goal

pub returns : goal.returns
returns c = c.place_at.ensures ∙ moved _ _ c.step.ensures _ _ c.in_ok-down.ensures.value _ _ c.args.row c.args.col (omega arith) (omega arith)

-- `rectangle::Rectangle::of_size` meets its contract: the size that was tested is at most 16 by 16.
-- Assumes nothing.
use Rattle.std.proofs.Common.{sym, ◌∙◌}
use Rattle.rectangle.proofs.BoardLaws.{size_ok_le}
use Rattle.rectangle.proofs.sized.Rectangle.of_size.Goals as goal

pub invariant_of-result : goal.invariant_of-result
invariant_of-result c = let s = size_ok_le _ _ (sym c.size_ok.ensures ∙ c.if-not-size_ok.false) in record { narrow = s.0; low = s.1 }

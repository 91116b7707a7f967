-- `host_tiles::put_tiles` meets its contract: the bytes are written in order.
-- Assumes nothing.
use Rattle.std.proofs.Common.{refl, arith}
use Rattle.cells.specs.ArrayLaws.{filled_start, filled_step, filled_end}
use Rattle.host_tiles.specs.TileBytes.{struct_bytes}
use Rattle.host_tiles.proofs.put_tiles.Goals as goal

pub loop-k-init : goal.loop-k-init
loop-k-init c = filled_start 0 _ _ _ 0 _ refl (λ k h. refl) (λ k h. absurd (omega arith))

pub loop-k-preserved : goal.loop-k-preserved
loop-k-preserved c = filled_step 0 _ _ _ _ _ _ c.loop-k.invariant (omega arith) c.tile_byte.ensures

pub returns : goal.returns
unfolding struct_bytes
returns c = filled_end 0 _ _ _ _ _ c.loop-k.invariant (λ k a b. absurd (omega arith))

use Rattle.std.proofs.Common.{length, get_or}
use Rattle.cells.specs.ArrayLaws.{Filled}
use Rattle.host_tiles.specs.TileBytes.{stored_byte}
use Rattle.host_tiles.proofs.put_tiles.Given as goal

abbrev pub invariant-loop-k : goal.invariant-loop-k
invariant-loop-k l = Filled 0 (stored_byte l.tiles.lens l.tiles.codes) (λ k. get_or l.initial.bytes k 0) (length l.initial.bytes) l.k l.bytes

-- `tile::codes::stored` meets its contract: the path is written over the first of the zeros.
-- Assumes nothing.
use Rattle.std.proofs.Common.{refl, ap, ℕ, List, ◌++◌, length, drop}
use Rattle.std.proofs.Math.ListN.{replicate}
use Rattle.tile.proofs.CodeLaws.{stores_over}
use Rattle.tile.proofs.codes.stored.Goals as goal

pub returns : goal.returns
returns c =
    let p = c.args.path.now in
    stores_over p (length p) _ refl c.requires (ap (λ (xs : List ℕ). xs ++ drop (length p) (replicate 32 0)) c.copy_from_slice.ensures.after)

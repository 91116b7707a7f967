-- `tiles::collection::same_at` meets its contract: the part is the path.
-- Assumes nothing.
use Rattle.std.proofs.Common.{ℕ, ap, ◌∙◌, take, drop}
use Rattle.tiles.specs.Paths.{same_path}
use Rattle.tiles.proofs.CodeLaws.{same_path_pointwise, add_sub}
use Rattle.tiles.proofs.collection.same_at.Goals as goal

pub returns : goal.returns
returns c =
    let a = c.args in
    c.eq.ensures
    ∙ same_path_pointwise _ _
    ∙ ap (λ (n : ℕ). same_path (take n (drop a.from a.codes.now)) a.path.now) (add_sub a.from a.len)

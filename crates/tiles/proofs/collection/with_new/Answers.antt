-- `tiles::collection::with_new` meets its contract: a tile that is there adds nothing, a new one stands behind (`appended_clean`).
-- Assumes nothing.
use Rattle.std.proofs.Common.{ap, sym, ◌∙◌}
use Rattle.cells.specs.FirstsLaws.{add_new_old, add_new_new}
use Rattle.tiles.specs.Paths.{same_path, paths_in, tiles_of}
use Rattle.tile.specs.Path.{path_in}
use Rattle.tiles.specs.StoredLaws.{appended_clean}
use Rattle.tiles.proofs.collection.with_new.Goals as goal

pub returns-then-has_path : goal.returns-then-has_path
returns-then-has_path c =
    c.requires.0.is ∙ ap tiles_of (sym (add_new_old same_path (paths_in c.args.tiles) (path_in c.args.tile) (sym c.has_path.ensures ∙ c.if-has_path.true)))

pub returns : goal.returns
returns c =
    c.appended.ensures
    ∙ appended_clean _ _ c.requires.0 c.requires.1 c.requires.2
    ∙ ap tiles_of (sym (add_new_new same_path (paths_in c.args.tiles) (path_in c.args.tile) (sym c.has_path.ensures ∙ c.if-has_path.false)))

-- `layers::layer::Layer::add_paths` meets its contract: the board is sought in the layer; its count is raised, or it is stored behind the others.
-- Assumes nothing.
use Prim.Native.Nat.{◌^◌, ◌<◌}
use Rattle.cells.specs.Set.{number}
use Rattle.cells.specs.WordLaws.{number_lt}
use Rattle.layers.proofs.LayerLaws.{add_past, add_new_lem, add_large, add_old}
use borrow.Author.Rules.{rules}
use Rattle.path_count.specs.PathCountLaws.{count_small}
use Rattle.path_count.specs.PathCounts.{count_limit, count_value}
use Rattle.layers.proofs.layer.Layer.add_paths.Goals as goal
use Rattle.layers.proofs.layer.Layer.add_paths.Goals.{then-self, else-self}

pub returns-then-self-n-clause-adds : goal.returns-then-self-n-clause-adds
returns-then-self-n-clause-adds c = λ es h.
    add_past _ _ _ _ _ _ h _ _ c.args.self.now.boards_lent _ c.find.ensures c.in_default.is c.if-self-n.true

pub returns-in_default-clause-adds : goal.returns-in_default-clause-adds
returns-in_default-clause-adds c =
    let small : number c.args.board < 2 ^ 256 = number_lt _ (search rules) in
    let count_fits : count_value c.args.paths < count_limit = count_small c.args.paths (search rules) in
    λ es h.
    add_new_lem _ _ _ _ _ _ h _ _ c.args.self.now.boards_lent _ c.find.ensures
    c.in_default.is c.if-self-n.false _ c.put.ensures _ c.put-in_default.ensures c.args.self.now.counts_lent small count_fits

pub returns-clause-adds : goal.returns-clause-adds
returns-clause-adds c = λ es h. elim c.if-self.branch [
  | then-self w ↦ rw w.self-is (add_large _ _ _ _ _ _ h _ _ c.args.self.now.boards_lent _ c.find.ensures _ c.in-Some.is _ w.if-self.true)
  | else-self w ↦ rw w.self-is (add_old _ _ _ _ _ _ h _ _ c.args.self.now.boards_lent _ c.find.ensures _ c.in-Some.is w.if-self.false c.args.self.now.counts_lent _ _ c.add-large.ensures)
]

-- `tiler::building::grown` meets its contract: the start is stored as node 0, and the graph is built behind it; with no room, none is.
-- Assumes nothing.
use mathlib.Core.Path.{refl}
use Prim.Native.Nat.{◌^◌, ◌<◌}
use Rattle.cells.specs.Set.{number}
use Rattle.cells.specs.WordLaws.{number_lt}
use Rattle.expansion.proofs.ExpansionLaws.{child_words_lem, child_part}
use Rattle.tiler.proofs.BuildLaws.{start_put, build_no_room}
use borrow.Author.Rules.{rules}
use Rattle.tiler.proofs.building.grown.Goals as goal

pub returns-then-node_room-eq0 : goal.returns-then-node_room-eq0
returns-then-node_room-eq0 c =
    let fixed_small : number c.args.plot.board.fixed < 2 ^ 256 = number_lt _ (search (rules, c.well_formed)) in
    let laid_small : number c.args.plot.board.laid < 2 ^ 256 = number_lt _ (search (rules, c.well_formed)) in
    build_no_room c.args.plot.board c.args.plot.tiles c.args.plot.accepted fixed_small laid_small _ _ _ _ c.if-node_room-eq0.true

-- w is what is known after `child_words`, s at the start
pub slice_bounds-children-end : goal.slice_bounds-children-end
slice_bounds-children-end c = (child_words_lem _ _ c.args.plot.accepted _ c.child_words-end.ensures).1

pub slice_bounds-build-end : goal.slice_bounds-build-end
slice_bounds-build-end c = (child_part _ _ c.args.plot.accepted _ c.child_words-end.ensures _ refl).0

pub build-requires : goal.build-requires
build-requires c = (
  (child_part _ _ c.args.plot.accepted _ c.child_words-end.ensures _ refl).1,
  refl,
  refl,
  start_put c.args.plot.board _ _ c.if-node_room-eq0.false c.requires.0 _ c.marks.ensures _ c.put.ensures,
)

pub returns-in_err-build : goal.returns-in_err-build
returns-in_err-build c = rw c.from_residual.ensures (search (rules, c.in_err-build.ensures.holds, c.build.ensures.same))

pub returns : goal.returns
returns c = search (rules, c.in_ok-build.ensures.holds, c.build.ensures.same)

-- `tiler::growing::Growing::build` meets its contract: the nodes are expanded in the order in which they are found, until none is left or the room is gone.
-- Assumes nothing.
use Prim.Native.Nat.{◌^◌, ◌<◌}
use Rattle.cells.specs.Set.{number}
use Rattle.cells.specs.WordLaws.{number_lt}
use Rattle.tiler.proofs.BuildLaws.{build_start, build_node, build_more, build_past, build_below, build_end}
use Rattle.tiler.proofs.GrowingLaws.{to_own_rooms, to_first_rooms}
use native.Mathlib.Omega.{arith}
use borrow.Author.Rules.{rules}
use Rattle.tiler.proofs.growing.Growing.build.Goals as goal

pub loop-i-init : goal.loop-i-init
loop-i-init c =
    let fixed_small : number c.args.plot.board.fixed < 2 ^ 256 = number_lt _ (search (rules, c.well_formed)) in
    let laid_small : number c.args.plot.board.laid < 2 ^ 256 = number_lt _ (search (rules, c.well_formed)) in (
      search rules,
      omega arith,
      rw (c.requires.1, c.requires.2) (build_start c.args.plot.board c.args.plot.tiles c.args.plot.accepted fixed_small laid_small _ _ _ _ (omega (arith, c.requires.1, c.args.self.now.nodes_fit)) c.requires.3),
    )

pub expand_node-requires : goal.expand_node-requires
expand_node-requires c =
    let fixed_small : number c.args.plot.board.fixed < 2 ^ 256 = number_lt _ (search (rules, c.well_formed)) in
    let laid_small : number c.args.plot.board.laid < 2 ^ 256 = number_lt _ (search (rules, c.well_formed)) in
    (build_node c.args.plot.board c.args.plot.tiles c.args.plot.accepted fixed_small laid_small _ _ _ _ _ _ _ c.loop-i.invariant.2 c.loop-i-test.true, search rules)

pub returns-in_err-expand_node-clause-holds : goal.returns-in_err-expand_node-clause-holds
returns-in_err-expand_node-clause-holds c =
    let fixed_small : number c.args.plot.board.fixed < 2 ^ 256 = number_lt _ (search (rules, c.well_formed)) in
    let laid_small : number c.args.plot.board.laid < 2 ^ 256 = number_lt _ (search (rules, c.well_formed)) in
    rw c.from_residual.ensures
    (to_first_rooms c.loop-i.invariant.0.2 c.loop-i.invariant.0.3
    (build_past c.args.plot.board c.args.plot.tiles c.args.plot.accepted fixed_small laid_small _ _ _ _ _
    (build_more c.args.plot.board c.args.plot.tiles c.args.plot.accepted fixed_small laid_small _ _ _ _ _ _ _ c.loop-i.invariant.2 c.loop-i-test.true _ _ _ (c.in_err-expand_node.ensures.adds _ c.loop-i.invariant.2))))

pub loop-i-preserved : goal.loop-i-preserved
loop-i-preserved c =
    let fixed_small : number c.args.plot.board.fixed < 2 ^ 256 = number_lt _ (search (rules, c.well_formed)) in
    let laid_small : number c.args.plot.board.laid < 2 ^ 256 = number_lt _ (search (rules, c.well_formed)) in (
      search rules,
      build_below c.args.plot.board c.args.plot.tiles c.args.plot.accepted fixed_small laid_small _ _ _ _ _ _ _ c.loop-i.invariant.2 c.loop-i-test.true,
      to_own_rooms c.in_ok-expand_node.ensures.same.2 c.in_ok-expand_node.ensures.same.3
          (build_more c.args.plot.board c.args.plot.tiles c.args.plot.accepted fixed_small laid_small _ _ _ _ _ _ _ c.loop-i.invariant.2 c.loop-i-test.true _ _ _ (c.in_ok-expand_node.ensures.adds _ c.loop-i.invariant.2)),
    )

pub returns-clause-holds : goal.returns-clause-holds
returns-clause-holds c =
    let fixed_small : number c.args.plot.board.fixed < 2 ^ 256 = number_lt _ (search (rules, c.well_formed)) in
    let laid_small : number c.args.plot.board.laid < 2 ^ 256 = number_lt _ (search (rules, c.well_formed)) in
    to_first_rooms c.loop-i.invariant.0.2 c.loop-i.invariant.0.3
    (build_end c.args.plot.board c.args.plot.tiles c.args.plot.accepted fixed_small laid_small _ _ _ _ _ _ _ c.loop-i.invariant.2 c.loop-i.invariant.1 c.loop-i-test.false)

-- `report::put_tilings` meets its contract. The loop's invariant: the lines of the tilings before m are put, where the words hold a graph of so many.
-- Assumes nothing.
use mathlib.Core.Path.{refl, sym, ◌∙◌}
use mathlib.Core.List.{flat_map}
use Rattle.cells.specs.Lists.{list_from, list_of}
use Rattle.report.specs.TextLaws.{puts_none}
use Rattle.report.specs.CountLaws.{not_below, is_below}
use Rattle.report.specs.ListedLaws.{puts_tiling, puts_listed}
use native.Mathlib.Omega.{arith}
use Prim.Native.Nat.{◌≤◌}
use Rattle.report.proofs.put_tilings.Goals as goal

pub loop-m-init : goal.loop-m-init
unfolding list_from list_of flat_map
loop-m-init c = (omega arith, refl, λ g built counted. puts_none _)

pub returns-then-not-less : goal.returns-then-not-less
returns-then-not-less c =
    let inv = c.loop-m.invariant in
    let few : c.loop-m.m ≤ 16 = omega arith in
    let past = not_below _ _ _ few c.of_words.ensures (sym c.less.ensures ∙ c.if-not-less.true) in
    record { puts = λ g built counted. puts_listed g _ (omega (arith, counted, few, inv.0, past)) (inv.2 g built counted); stays = inv.1 }

pub loop-m-preserved : goal.loop-m-preserved
loop-m-preserved c =
    let inv = c.loop-m.invariant in
    let few : c.loop-m.m ≤ 16 = omega arith in
    let below = is_below _ _ _ few c.of_words.ensures (sym c.less.ensures ∙ c.if-not-less.false) in (
      omega (arith, below),
      c.put_tiling.ensures.stays ∙ inv.1,
      λ g built counted.
          puts_tiling g _ (inv.2 g built counted)
          (c.put_tiling.ensures.puts g built (omega (arith, counted, below))),
    )

pub returns : goal.returns
returns c =
    let inv = c.loop-m.invariant in
    let all : 16 ≤ c.loop-m.m = omega arith in
    let few : c.loop-m.m ≤ 16 = omega arith in
    record { puts = λ g built counted. puts_listed g _ (omega (arith, counted, few, inv.0, all)) (inv.2 g built counted); stays = inv.1 }

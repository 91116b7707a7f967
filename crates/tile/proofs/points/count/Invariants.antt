use Rattle.std.proofs.Common.{◌≡◌, [], ◌∷◌, ◌+◌, ◌≤◌, length, drop}
use Rattle.std.specs.Prelude.{eqb}
use Rattle.cells.specs.Lists.{add_firsts}
use Rattle.tile.specs.Inner.{keys_after, keys_in, Near}
use Rattle.tile.proofs.points.count.Given as goal

abbrev pub invariant-loop-code : goal.invariant-loop-code
invariant-loop-code l = record {
  few : l.seen.n ≤ l.code-index + 1;
  room : length l.seen.keys ≡ 33;
  near : Near l.code-index l.key;
  rest : add_firsts eqb (5050 ∷ []) (keys_after 5050 l.path) ≡ add_firsts eqb (keys_in l.seen) (keys_after l.key (drop l.code-index l.path));
}

-- `tile::Tile::t_tile` meets its contract: the codes that are made are those of the path (`codes_t_path`).
-- Assumes nothing.
use Rattle.std.proofs.Common.{◌≡◌, ◌+◌, ◌*◌, ◌≤◌, ◌∙◌, ap, ℕ, List, ◌++◌, drop, rules, arith}
use Rattle.std.proofs.Math.ListN.{replicate, set}
use Rattle.tile.proofs.CodeLaws.{stores_over}
use Rattle.tile.proofs.MadeLaws.{makes_refused, makes_given, t_tile_none, t_tile_given, length_t_path, codes_t_path}
use Rattle.tile.proofs.Tile.t_tile.Goals as goal

pub returns-then-not-contains : goal.returns-then-not-contains
returns-then-not-contains c = makes_refused _ (t_tile_none c.args.length (search rules))

pub returns : goal.returns
returns c =
    let n = c.args.length in
    let zeros : List ℕ = replicate 32 0 in
    let h : (1 ≤ n) × (n ≤ 15) = search rules in
    let f : c.fill.new.self ≡ replicate (2 * n + 1) 3 = search rules in
    makes_given _ _ _ (t_tile_given n h.0 h.1)
    (stores_over _ (2 * n + 1) _ (length_t_path n h.0) (omega arith)
    (ap (λ (xs : List ℕ). set (set (xs ++ drop (2 * n + 1) zeros) n 0) (n + 1) 6) f ∙ codes_t_path n (drop (2 * n + 1) zeros) h.0))

-- `tile::Tile::l_tile` meets its contract: the codes that are made are those of the path (`codes_l_path`).
-- Assumes nothing.
use Rattle.std.proofs.Common.{◌≡◌, ◌≤◌, ◌∙◌, ap, ℕ, List, ◌++◌, drop, rules}
use Rattle.std.proofs.Math.ListN.{replicate, set}
use Rattle.tile.proofs.CodeLaws.{stores_over}
use Rattle.tile.proofs.MadeLaws.{makes_refused, makes_given, l_tile_none, l_tile_given, length_l_path, codes_l_path}
use Rattle.tile.proofs.Tile.l_tile.Goals as goal

pub returns-then-not-contains : goal.returns-then-not-contains
returns-then-not-contains c = makes_refused _ (l_tile_none c.args.length (search rules))

pub returns : goal.returns
returns c =
    let n = c.args.length in
    let zeros : List ℕ = replicate 32 0 in
    let h : (1 ≤ n) × (n ≤ 32) = search rules in
    let f : c.fill.new.self ≡ replicate n 0 = search rules in
    makes_given _ _ _ (l_tile_given n h.0 h.1)
    (stores_over _ n _ (length_l_path n h.0) h.1 (ap (λ (xs : List ℕ). set (xs ++ drop n zeros) 0 2) f ∙ codes_l_path n (drop n zeros) h.0))

-- `layers::from_layer::last_count` meets its contract: 0 if cells are left free, else the count of the first board, 0 if there is none.
-- Assumes nothing.
use lib.Dec.{lit<}
use Rattle.layers.proofs.LayerLaws.{last_free, last_none, last_one}
use Rattle.path_count.specs.PathCountLaws.{word_count}
use Rattle.layers.proofs.from_layer.last_count.Goals as goal
use Rattle.layers.proofs.from_layer.last_count.Goals.{then-left-gt0-via-then-left-gt0, then-left-gt0-via-else-left-gt0+then-layer-eq0}

pub returns-then-left-gt0 : goal.returns-then-left-gt0
returns-then-left-gt0 c =
    let none = word_count 0 (lit< tt) _ c.of_words.ensures in
    elim c.then-left-gt0.branch [
      | then-left-gt0-via-then-left-gt0 w ↦ last_free _ _ _ _ none w.if-left-gt0.true
      | then-left-gt0-via-else-left-gt0+then-layer-eq0 w ↦ last_none _ _ _ _ w.if-left-gt0.false none w.if-layer-eq0.true
    ]

pub returns : goal.returns
returns c = last_one _ _ _ _ c.if-left-gt0.false c.paths.ensures c.if-layer-eq0.false

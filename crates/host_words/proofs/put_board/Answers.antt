-- `host_words::put_board` meets its contract: the words of the struct are those of its board.
-- Assumes nothing.
use Rattle.std.proofs.Common.{ap, ◌∙◌, List, ℕ, length, rules}
use Rattle.cells.specs.Set.{Sound}
use Rattle.cells.specs.Lists.{padded}
use Rattle.host_words.specs.LayoutLaws.{board_words_lem}
use Rattle.host_words.proofs.put_board.Goals as goal

pub returns : goal.returns
unfolding padded
returns c =
    let fixed : Sound c.args.board.fixed = record { s0 = search rules; s1 = search rules; s2 = search rules; s3 = search rules } in
    let laid : Sound c.args.board.laid = record { s0 = search rules; s1 = search rules; s2 = search rules; s3 = search rules } in
    c.put_padded.ensures ∙ ap (λ (ns : List ℕ). padded ns (length c.args.words.now)) (board_words_lem c.args.board fixed laid)

-- `plot_file::records::later_body` meets its contract: the function for the mark does.
-- Assumes nothing.
use Rattle.std.proofs.Common.{sym, ◌∙◌}
use Rattle.plot_file.proofs.ReadLaws.{later_body_board, later_body_hole, later_body_tile, later_body_orbit, later_body_end}
use Rattle.refusal.specs.Refusal.{map_answer}
use Rattle.plot_file.proofs.records.later_body.Goals as goal

pub returns-in-RB : goal.returns-in-RB
unfolding map_answer
returns-in-RB c = sym (later_body_board _ _ _ c.in-RB.is)

pub returns-in-HO : goal.returns-in-HO
returns-in-HO c = c.hole_record.ensures ∙ sym (later_body_hole _ _ _ c.in-HO.is)

pub returns-in-TI : goal.returns-in-TI
returns-in-TI c = c.tile_record.ensures ∙ sym (later_body_tile _ _ _ c.in-TI.is)

pub returns-in-OR : goal.returns-in-OR
returns-in-OR c = c.tile_record-in-OR.ensures ∙ sym (later_body_orbit _ _ _ c.in-OR.is)

pub returns-in-EN : goal.returns-in-EN
returns-in-EN c = c.end_record.ensures ∙ sym (later_body_end _ _ _ c.in-EN.is)

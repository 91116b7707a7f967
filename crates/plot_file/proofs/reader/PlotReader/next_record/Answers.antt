-- `plot_file::reader::PlotReader::next_record` meets its contract: the position decides.
-- Assumes nothing.
use Rattle.plot_file.proofs.ReadLaws.{record_first, record_later}
use Rattle.plot_file.proofs.reader.PlotReader.next_record.Goals as goal

pub returns-then-self-eq0 : goal.returns-then-self-eq0
returns-then-self-eq0 c = record_first _ _ _ c.if-self-eq0.true _ c.first_record.ensures

pub returns-else-self-eq0 : goal.returns-else-self-eq0
returns-else-self-eq0 c = record_later _ _ _ c.if-self-eq0.false _ c.later_record.ensures

use Rattle.std.proofs.Common.{◌≡◌}
use Rattle.std.specs.Slice.Iter.{chunks_rest, chunks_size}
use Rattle.std.specs.Iterator.Adapters.{enumerate_source, enumerate_count}
use Rattle.archive.specs.Archive.{current_record}
use Rattle.archive.proofs.ReadingLaws.{Ahead, to_compare}
use Rattle.archive.proofs.current_record.Given as goal

abbrev pub invariant-loop-place : goal.invariant-loop-place
invariant-loop-place l = record {
  size : chunks_size (enumerate_source l.place-iterator) ≡ 24;
  ahead : Ahead (current_record l.file l.id) (to_compare l.file l.id l.current) (enumerate_count l.place-iterator) (chunks_rest (enumerate_source l.place-iterator));
}

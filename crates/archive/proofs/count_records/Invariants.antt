use Rattle.std.proofs.Common.{◌≡◌, ◌+◌, ◌*◌, length}
use Rattle.archive.specs.Archive.{count_records}
use Rattle.archive.proofs.ReadingLaws.{Ahead, to_count}
use Rattle.archive.proofs.count_records.Given as goal

abbrev pub invariant-loop-rest : goal.invariant-loop-rest
invariant-loop-rest l = record {
  read : 24 * l.count + length l.rest ≡ length l.file;
  ahead : Ahead (count_records l.file) (to_count l.file l.count) l.count l.rest;
}

abbrev pub decreases-loop-rest : goal.decreases-loop-rest
decreases-loop-rest l = length l.rest

-- What the calls over a host's words answer, by computation: the words of a record, answers of enough words and of too few, and the order of the refusals. Assumes nothing.
use Rattle.std.specs.Prelude.{◌≡◌, refl, List, [], ◌∷◌, ◌++◌, map, ℕ}
use Rattle.archive.specs.declared.Record.{Record}
use Rattle.archive.specs.Archive.{record_bytes, write_record, answered, refused_at, refused_by}
use Rattle.host_records.specs.Calls.{record_for, record_words, records_counted, record_found, current_found}

-- plot 258 of the year 2026, revision 772, with the count 2 ^ 64 * 3 + 5; and a later revision, with another count
abbrev first : Record
first = record_for 258 2026 772 5 3

abbrev second : Record
second = record_for 258 2026 773 6 0

-- the numbers in the order in which a host hands them in, low word before high word, and in which it gets them
fields : first ≡ record { id = 258; year = 2026; revision = 772; low = 5; high = 3 }
fields = refl

words : record_words first ≡ 258 ∷ 2026 ∷ 772 ∷ 5 ∷ 3 ∷ []
words = refl

-- what is written of them: in the file the high word stands first
written : write_record first 24 ≡ answered (84 ∷ 89 ∷ 1 ∷ 2 ∷ 7 ∷ 234 ∷ 3 ∷ 4 ∷ 0 ∷ 0 ∷ 0 ∷ 0 ∷ 0 ∷ 0 ∷ 0 ∷ 3 ∷ 0 ∷ 0 ∷ 0 ∷ 0 ∷ 0 ∷ 0 ∷ 0 ∷ 5 ∷ [])
unfolding write_record
written = refl

-- the file of both, and with the first byte of a third
abbrev both : List ℕ
both = record_bytes first ++ record_bytes second

abbrev cut : List ℕ
cut = both ++ 84 ∷ []

-- one answer word is enough for a number; with none the file is not looked at
counted : map (records_counted both) (0 ∷ 1 ∷ 2 ∷ []) ≡ refused_by 8 ∷ answered (2 ∷ []) ∷ answered (2 ∷ []) ∷ []
unfolding records_counted record_bytes
counted = refl

counted_cut : map (records_counted cut) (0 ∷ 1 ∷ []) ≡ refused_by 8 ∷ refused_at 13 2 ∷ []
unfolding records_counted record_bytes
counted_cut = refl

-- five words are enough for a record; with four neither file nor place is looked at
found : map (record_found both 0) (4 ∷ 5 ∷ 6 ∷ []) ≡ refused_by 8 ∷ answered (record_words first) ∷ answered (record_words first) ∷ []
unfolding record_found record_bytes
found = refl

found_none : map (record_found both 2) (4 ∷ 5 ∷ []) ≡ refused_by 8 ∷ refused_by 14 ∷ []
unfolding record_found record_bytes
found_none = refl

found_cut : map (record_found cut 0) (4 ∷ 5 ∷ []) ≡ refused_by 8 ∷ refused_at 13 2 ∷ []
unfolding record_found record_bytes
found_cut = refl

current : map (current_found both 258) (4 ∷ 5 ∷ 6 ∷ []) ≡ refused_by 8 ∷ answered (record_words second) ∷ answered (record_words second) ∷ []
unfolding current_found record_bytes
current = refl

current_none : map (current_found both 2026) (4 ∷ 5 ∷ []) ≡ refused_by 8 ∷ refused_by 14 ∷ []
unfolding current_found record_bytes
current_none = refl

current_cut : map (current_found cut 258) (4 ∷ 5 ∷ []) ≡ refused_by 8 ∷ refused_at 13 2 ∷ []
unfolding current_found record_bytes
current_cut = refl

-- Worked rows of a record of two sessions.
use Rattle.std.proofs.Common.{◌≡◌, [], ◌∷◌, refl, lit≤}
use Rattle.std.specs.List.{AllZip}
use Rattle.partition_state.specs.History.{IsLegal}
use Rattle.run_record.specs.Base.{base}
use Rattle.run_record.specs.Openings.{openings}
use Rattle.run_record.specs.Serial.{RanAlone, final_records, next_stamp}
use Rattle.run_record.proofs.TwoSessions.{script, kept, reader, writer, first_draw, second_draw, row}

-- the history is one of its partition
pub history_replays : AllZip IsLegal (openings script) kept.histories
history_replays = (
  ((lit≤ tt, lit≤ tt), refl, ((lit≤ tt, lit≤ tt), refl, ((lit≤ tt, lit≤ tt), refl, ((lit≤ tt, lit≤ tt), refl, ((lit≤ tt, lit≤ tt), refl, ((lit≤ tt, lit≤ tt), refl, tt)))))),
  tt,
)

-- below the stamp 2 the inserted row stands, so the reader alone sees four rows
base_of_the_reader : (base script kept 2).records ≡ (row 1 ∷ row 2 ∷ row 3 ∷ row 9 ∷ []) ∷ []
base_of_the_reader = refl

-- each transaction, run alone below its stamp, gives and leaves what it gave and left in the run
pub reader_alone : RanAlone script kept 1 reader second_draw
reader_alone = record { commits = refl; results = refl; changes_are = refl }

pub writer_alone : RanAlone script kept 2 writer first_draw
writer_alone = record { commits = refl; results = refl; changes_are = refl }

-- the final tables are those after the last stamp
pub final_tables : final_records script kept ≡ (base script kept (next_stamp kept)).records
final_tables = refl

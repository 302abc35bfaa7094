use Rattle.codec.proofs.RoundTrip.{writing_restores_bytes, reading_restores_records, reading_restores_modules}
use Rattle.codec.proofs.theorems.reading_and_writing_are_inverse.Goals as goal

pub returns : goal.returns
returns c = record { bytes = writing_restores_bytes; records = reading_restores_records; modules = reading_restores_modules }

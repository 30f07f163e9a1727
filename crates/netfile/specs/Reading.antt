-- What a reader tells of the records of its file.
use Rattle.std.specs.Prelude.{◌≡◌, ℕ, ◌+◌, List, length, drop, Some, None, Ok, Err, Option, Result}
use Rattle.netfile.specs.declared.progress.Stage.TheVariants.{Over}
use Rattle.netfile.specs.declared.reason.Fault.{Fault}
use Rattle.netfile.specs.declared.records.Record.{Record}
use Rattle.netfile.specs.declared.reader.Reader.{Reader}
use Rattle.netfile.specs.Records.{mark_of, body_size}
use Rattle.netfile.specs.declared.progress.Limits.{Limits}
use Rattle.netfile.specs.Judging.{start_of_file, Taken}
use Rattle.netfile.specs.Readings.{Stops}

-- a reader of this file before its first record
pub record Begins (bytes : List ℕ) (most : Limits) (r : Reader) : Type 0 where
  pub file : r.file.now ≡ bytes
  pub limits : r.limits ≡ most
  pub at : r.at ≡ 0
  pub progress : r.progress ≡ start_of_file

-- the same file, read by the same limits
pub record SameFile (r r' : Reader) : Type 0 where
  pub file : r'.file.now ≡ r.file.now
  pub limits : r'.limits ≡ r.limits

-- the record where the reader was is taken, and it goes on behind that record
pub record Passed (r : Reader) (item : Record) (r' : Reader) : Type 0 where
  pub same : SameFile r r'
  pub taken : Taken r.limits r.progress (drop r.at r.file.now) item r'.progress
  pub at : r'.at ≡ r.at + (2 + body_size (mark_of item) r.progress.kind)

-- the reader is where it was
pub record Stays (r r' : Reader) : Type 0 where
  pub same : SameFile r r'
  pub at : r'.at ≡ r.at
  pub progress : r'.progress ≡ r.progress

-- no byte is left behind an end record
pub record Ended (r r' : Reader) : Type 0 where
  pub over : r.progress.stage ≡ Over
  pub at : r.at ≡ length r.file.now
  pub stays : Stays r r'

-- what stands where the reader was is refused
pub record Refused (r : Reader) (f : Fault) (r' : Reader) : Type 0 where
  pub at : f.at ≡ r.at
  pub stops : Stops r.limits r.progress.stage r.progress (drop r.at r.file.now) f.reason
  pub stays : Stays r r'

-- an answer of the reader, and how it left itself
abbrev pub Told : Reader → Result (Option Record) Fault → Reader → Type 0
Told r (Ok (Some item)) r' = Passed r item r'
Told r (Ok None) r' = Ended r r'
Told r (Err f) r' = Refused r f r'

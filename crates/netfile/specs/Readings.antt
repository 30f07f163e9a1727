-- Which reading a string of bytes has.
use Rattle.std.specs.Prelude.{◌≡◌, ℕ, ◌<◌, ◌≤◌, Bool, true, false, List, [], ◌∷◌, ◌++◌, length, take, drop, Ok, Err, nat_lt}
use Rattle.netfile.specs.declared.progress.Stage.{Stage}
use Rattle.netfile.specs.declared.progress.Stage.TheVariants.{Start, Arcs, Queries, Over}
use Rattle.netfile.specs.declared.progress.Progress.{Progress}
use Rattle.netfile.specs.declared.progress.Limits.{Limits}
use Rattle.netfile.specs.declared.reason.Reason.{Reason}
use Rattle.netfile.specs.declared.reason.Reason.TheVariants.{Trailing, TooManyBytes}
use Rattle.netfile.specs.declared.reason.Fault.{Fault}
use Rattle.netfile.specs.declared.records.Mark.{Mark}
use Rattle.netfile.specs.Records.{letters, body_size, in_order}
use Rattle.netfile.specs.Judging.{start_of_file, advanced, judged_next}

-- a record as it is written: its mark and the bytes of its body
pub record Entry : Type 0 where
  pub mark : Mark
  pub body : List ℕ

abbrev pub entry_bytes : Entry → List ℕ
entry_bytes e = letters e.mark ++ e.body

-- records written out one after another
abbrev pub written : List Entry → List ℕ
written [] = []
written (e ∷ es) = entry_bytes e ++ written es

-- a record that may stand here, with a whole body and fields in their ranges, and what it leads to
pub record Good (limits : Limits) (p : Progress) (e : Entry) (q : Progress) : Type 0 where
  pub ordered : in_order p.stage e.mark ≡ true
  pub whole : length e.body ≡ body_size e.mark p.kind
  pub fields : advanced limits p e.mark e.body ≡ Ok q

-- records that are good one after another, and lead from p to q
abbrev pub Run : Limits → Progress → List Entry → Progress → Type 0
Run limits p [] q = p ≡ q
Run limits p (e ∷ es) q = (r : Progress) × Good limits p e r × Run limits r es q

-- the file is these records, of which the last is an end record
pub record Accepts (limits : Limits) (file : List ℕ) (es : List Entry) (last : Progress) : Type 0 where
  pub small : length file ≤ limits.bytes
  pub bytes : written es ≡ file
  pub run : Run limits start_of_file es last
  pub over : last.stage ≡ Over

-- after these records the next one is refused, or bytes stand behind an end record
abbrev pub Stops : Limits → Stage → Progress → List ℕ → Reason → Type 0
Stops limits Start p rest why = judged_next limits p rest ≡ Err why
Stops limits Arcs p rest why = judged_next limits p rest ≡ Err why
Stops limits Queries p rest why = judged_next limits p rest ≡ Err why
Stops limits Over p rest why = (why ≡ Trailing) × (0 < length rest)

-- the records before byte `at` are good and what stands there is refused
pub record Breaks (limits : Limits) (file : List ℕ) (why : Reason) (at : ℕ) : Type 0 where
  pub small : length file ≤ limits.bytes
  pub before : List Entry
  pub came : Progress
  pub within : at ≤ length file
  pub bytes : written before ≡ take at file
  pub run : Run limits start_of_file before came
  pub stops : Stops limits came.stage came (drop at file) why

abbrev pub RefusedBy : Bool → Limits → List ℕ → Fault → Type 0
RefusedBy true limits file f = (f.reason ≡ TooManyBytes) × (f.at ≡ 0)
RefusedBy false limits file f = Breaks limits file f.reason f.at

-- too many bytes come before all else
abbrev pub Refuses : Limits → List ℕ → Fault → Type 0
Refuses limits file f = RefusedBy (nat_lt limits.bytes (length file)) limits file f

-- a reading of a file: its records, or the fault that it is refused for
pub data Reading : Type 0 where
  accepted : List Entry → Reading
  refused : Fault → Reading

abbrev pub Reads : Limits → List ℕ → Reading → Type 0
Reads limits file (accepted es) = (last : Progress) × Accepts limits file es last
Reads limits file (refused f) = Refuses limits file f

-- Every string of bytes has exactly one reading.
abbrev pub OneReading : Type 0
OneReading = (limits : Limits) (file : List ℕ) → (o : Reading) × Reads limits file o × ((o' : Reading) → Reads limits file o' → o' ≡ o)

-- Records that are good one after another up to an end record, written out and read, give these records.
abbrev pub ReadBack : Type 0
ReadBack = (limits : Limits) (es : List Entry) (last : Progress) → Run limits start_of_file es last → last.stage ≡ Over → length (written es) ≤ limits.bytes → (o : Reading) → Reads limits (written es) o → o ≡ accepted es

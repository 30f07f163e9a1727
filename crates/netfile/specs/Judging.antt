-- What each record does to the reading so far.
use Rattle.std.specs.Prelude.{◌≡◌, ℕ, ◌+◌, cond, ◌||◌, List, Some, None, Ok, Err, Option, Result, ◌==◌, nat_lt, slice_index}
use Rattle.measure.specs.Algebra.{Algebra}
use Rattle.measure.specs.Sums.{sum_algebra}
use Rattle.measure.specs.Piles.{reversed_algebra, then_algebra}
use Rattle.columns.specs.Columnar.{Columnar}
use Rattle.columns.specs.Tables.{sum_columns, reversed_columns, then_columns}
use Rattle.sweeps.specs.declared.refusal.Refusal.{Refusal}
use Rattle.sweeps.specs.declared.refusal.Refusal.TheVariants.{TooLong}
use Rattle.session.specs.Drafts.{outside, put_verdict}
use Rattle.columns.specs.declared.kind.Kind.{Kind}
use Rattle.columns.specs.declared.kind.Kind.TheVariants as kind
use Rattle.netfile.specs.declared.progress.Stage.{Stage}
use Rattle.netfile.specs.declared.progress.Stage.TheVariants.{Start, Arcs, Queries, Over}
use Rattle.netfile.specs.declared.progress.Progress.{Progress}
use Rattle.netfile.specs.declared.progress.Limits.{Limits}
use Rattle.netfile.specs.declared.reason.Reason.{Reason}
use Rattle.netfile.specs.declared.reason.Reason.TheVariants as why
use Rattle.netfile.specs.declared.records.Mark.{Mark}
use Rattle.netfile.specs.declared.records.Mark.TheVariants.{Network, Arc, Query, Target, End}
use Rattle.netfile.specs.declared.records.Record.{Record}
use Rattle.columns.specs.Kinds.{kind_of}
use Rattle.netfile.specs.Fields.{pair, columns_of}
use Rattle.netfile.specs.Records.{found, Found, mark_of, body_of, body_at}

abbrev pub start_of_file : Progress
start_of_file = record { stage = Start; nodes = 0; kind = kind.Sum; count = 0; last = 0 }

abbrev pub at_stage : Progress → Stage → Progress
at_stage p s = record { stage = s; nodes = p.nodes; kind = p.kind; count = p.count; last = p.last }

module _ {V : Type 0} (m : Algebra V) (table : Columnar V) where
  abbrev pub put_of : Progress → ℕ → List ℕ → Option V → Option Refusal
  put_of p cells b None = Some TooLong
  put_of p cells b (Some x) = put_verdict m p.nodes p.count p.last cells cells (pair b 0) (pair b 2) x

  -- Why an arc is not taken, if it is not: the verdict of a session's put with arc and length tables of so many cells. Columns
  -- that make no length are too long.
  abbrev pub put_judged : Progress → ℕ → List ℕ → Option Refusal
  put_judged p cells b = put_of p cells b (table.build (columns_of p.kind b))

-- by the measure of the file's kind
abbrev pub arc_judged : Kind → Progress → ℕ → List ℕ → Option Refusal
arc_judged kind.Sum = put_judged sum_algebra sum_columns
arc_judged kind.ReversedSum = put_judged (reversed_algebra sum_algebra) (reversed_columns sum_columns)
arc_judged kind.SumThenSum = put_judged (then_algebra sum_algebra sum_algebra) (then_columns sum_columns sum_columns)
arc_judged kind.SumThenReversed =
    put_judged (then_algebra sum_algebra (reversed_algebra sum_algebra)) (then_columns sum_columns (reversed_columns sum_columns))

-- N from 1 to 1,000 and a kind; then no more nodes than the reader takes
abbrev pub with_network : Limits → ℕ → Option Kind → Result Progress Reason
with_network limits n None = Err why.BadField
with_network limits n (Some k) =
    cond (outside 1000 n) (Err why.BadField)
    (cond (nat_lt limits.nodes n) (Err why.TooManyNodes) (Ok (record { stage = Arcs; nodes = n; kind = k; count = 0; last = 0 })))

-- one arc more, which ends here
abbrev pub with_arc : Progress → ℕ → Option Refusal → Result Progress Reason
with_arc p end (Some r) = Err (why.Arc r)
with_arc p end None = Ok (record { stage = p.stage; nodes = p.nodes; kind = p.kind; count = p.count + 1; last = end })

-- the reading after a record of this mark and body, or what is wrong with its fields
abbrev pub advanced : Limits → Progress → Mark → List ℕ → Result Progress Reason
advanced limits p Network b = with_network limits (pair b 0) (kind_of (slice_index b 2))
advanced limits p Arc b = with_arc p (pair b 2) (arc_judged p.kind p limits.arcs b)
advanced limits p Query b = cond (outside 20 (slice_index b 0) || outside 1000 (pair b 1)) (Err why.BadField) (Ok (at_stage p Queries))
advanced limits p Target b = cond (pair b 2 == 0) (Err why.BadField) (Ok p)
advanced limits p End b = Ok (at_stage p Over)

abbrev pub advanced_by : Limits → Progress → List ℕ → Result Mark Reason → Result Progress Reason
advanced_by limits p rest (Err e) = Err e
advanced_by limits p rest (Ok m) = advanced limits p m (body_at m p.kind rest)

-- the reading after the record at the head of these bytes, or why that record is refused
abbrev pub judged_next : Limits → Progress → List ℕ → Result Progress Reason
judged_next limits p rest = advanced_by limits p rest (found p.stage p.kind rest)

-- a record is taken from the head of these bytes
pub record Taken (limits : Limits) (p : Progress) (rest : List ℕ) (item : Record) (after : Progress) : Type 0 where
  pub is : Found p.stage p.kind rest item
  pub next : advanced limits p (mark_of item) (body_of item) ≡ Ok after

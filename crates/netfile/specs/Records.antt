-- The records of a file, as parts of its bytes.
use Rattle.std.specs.Prelude.{◌≡◌, ℕ, ◌+◌, ◌*◌, Bool, true, false, cond, ◌&&◌, List, [], ◌∷◌, length, take, drop, Some, None, Ok, Err, Option, Result, ◌==◌, nat_lt, slice_index}
use Rattle.columns.specs.declared.kind.Kind.{Kind}
use Rattle.netfile.specs.declared.progress.Stage.{Stage}
use Rattle.netfile.specs.declared.progress.Stage.TheVariants.{Start, Arcs, Queries, Over}
use Rattle.netfile.specs.declared.reason.Reason.{Reason}
use Rattle.netfile.specs.declared.reason.Reason.TheVariants.{CutShort, BadMark}
use Rattle.netfile.specs.declared.records.Mark.{Mark}
use Rattle.netfile.specs.declared.records.Mark.TheVariants.{Network, Arc, Query, Target, End}
use Rattle.netfile.specs.declared.records.Record.{Record}
use Rattle.netfile.specs.declared.records.Record.TheVariants as item
use Rattle.columns.specs.Kinds.{width}

-- the two letters of a mark: NW, AR, QS, QT, EN
abbrev pub letters : Mark → List ℕ
letters Network = 78 ∷ 87 ∷ []
letters Arc = 65 ∷ 82 ∷ []
letters Query = 81 ∷ 83 ∷ []
letters Target = 81 ∷ 84 ∷ []
letters End = 69 ∷ 78 ∷ []

-- the mark that two letters spell
abbrev pub spelled : ℕ → ℕ → Option Mark
spelled a b =
    cond (a == 78 && b == 87) (Some Network)
    (cond (a == 65 && b == 82) (Some Arc)
    (cond (a == 81 && b == 83) (Some Query)
    (cond (a == 81 && b == 84) (Some Target)
    (cond (a == 69 && b == 78) (Some End) None))))

-- how many bytes follow the mark
abbrev pub body_size : Mark → Kind → ℕ
body_size Network kind = 3
body_size Arc kind = 4 + 4 * width kind
body_size Query kind = 3
body_size Target kind = 4
body_size End kind = 0

-- which records may follow: one network, any number of arcs, one or more blocks of a query and any number of targets, the end
abbrev pub in_order : Stage → Mark → Bool
in_order Start Network = true
in_order Start Arc = false
in_order Start Query = false
in_order Start Target = false
in_order Start End = false
in_order Arcs Network = false
in_order Arcs Arc = true
in_order Arcs Query = true
in_order Arcs Target = false
in_order Arcs End = false
in_order Queries Network = false
in_order Queries Arc = false
in_order Queries Query = true
in_order Queries Target = true
in_order Queries End = true
in_order Over Network = false
in_order Over Arc = false
in_order Over Query = false
in_order Over Target = false
in_order Over End = false

abbrev pub mark_of : Record → Mark
mark_of (item.Network b) = Network
mark_of (item.Arc b) = Arc
mark_of (item.Query b) = Query
mark_of (item.Target b) = Target
mark_of item.End = End

abbrev pub body_of : Record → List ℕ
body_of (item.Network b) = b.now
body_of (item.Arc b) = b.now
body_of (item.Query b) = b.now
body_of (item.Target b) = b.now
body_of item.End = []

-- the body of a record of this mark at the head of these bytes
abbrev pub body_at : Mark → Kind → List ℕ → List ℕ
body_at m kind rest = take (body_size m kind) (drop 2 rest)

abbrev pub in_turn : Stage → Kind → List ℕ → Option Mark → Result Mark Reason
in_turn stage kind rest None = Err BadMark
in_turn stage kind rest (Some m) =
    cond (in_order stage m) (cond (nat_lt (length rest) (2 + body_size m kind)) (Err CutShort) (Ok m)) (Err BadMark)

-- The mark of the record at the head of these bytes, or why there is none: the mark and its order are judged before the body.
abbrev pub found : Stage → Kind → List ℕ → Result Mark Reason
found stage kind rest = cond (nat_lt (length rest) 2) (Err CutShort) (in_turn stage kind rest (spelled (slice_index rest 0) (slice_index rest 1)))

-- the record at the head of these bytes
pub record Found (stage : Stage) (kind : Kind) (rest : List ℕ) (r : Record) : Type 0 where
  pub mark : found stage kind rest ≡ Ok (mark_of r)
  pub body : body_of r ≡ body_at (mark_of r) kind rest

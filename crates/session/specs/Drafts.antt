-- What a draft's calls answer, write and mean.
use Rattle.std.specs.Prelude.{◌≡◌, ℕ, ◌+◌, ◌-◌, ◌^◌, ◌≤◌, Bool, cond, ◌||◌, List, length, take, Some, None, Ok, Err, Option, Result, ◌==◌, nat_le, nat_lt, slice_set}
use Rattle.measure.specs.Algebra.{Algebra}
use Rattle.sweeps.specs.declared.Arc.{Arc}
use Rattle.sweeps.specs.declared.refusal.Refusal.{Refusal}
use Rattle.sweeps.specs.declared.refusal.Refusal.TheVariants.{NodeCount, ArcEnd, SelfArc, ArcOrder, TooLong, TablesFull, NoSuchArc}
use Rattle.sweeps.specs.Tables.{InOrder, arc_at}
use Rattle.session.specs.declared.stages.Draft.{Draft}
use Rattle.session.specs.Nets.{Net, new_arc, marked, last_end, add_arc, mark_arc, relength_arc, listed}

-- j is none of the numbers 1 to n
abbrev pub outside : ℕ → ℕ → Bool
outside n j = j == 0 || nat_lt n j

-- an answer by a verdict: refused for a reason, or accepted with a value
abbrev pub judged : {R : Type 0} → Option Refusal → R → Result R Refusal
judged (Some why) x = Err why
judged None x = Ok x

abbrev pub new_verdict : ℕ → Option Refusal
new_verdict n = cond (outside 1000 n) (Some NodeCount) None

abbrev pub NewDraft : ℕ → Result Draft Refusal → Type 0
NewDraft n (Ok d) = (new_verdict n ≡ None) × (d.nodes ≡ n) × (d.count ≡ 0) × (d.last ≡ 0)
NewDraft n (Err e) = new_verdict n ≡ Some e

module _ {V : Type 0} (m : Algebra V) where
  -- The draft and the arc and length tables hold this network. Nothing more is known of the tables' further cells.
  pub record DraftHolds (net : Net V) (d : Draft) (arcs : List Arc) (lengths : List V) : Type 0 where
    pub nodes : d.nodes ≡ net.nodes
    pub count : d.count ≡ length net.arcs
    pub beside : length net.lengths ≡ length net.arcs
    pub arc_room : d.count ≤ length arcs
    pub length_room : d.count ≤ length lengths
    pub in_arcs : take d.count arcs ≡ net.arcs
    pub in_lengths : take d.count lengths ≡ net.lengths
    pub last : d.last ≡ last_end net.arcs
    pub ordered : InOrder m (listed m net)

  -- why an arc is not taken, in the order of the tests; a and l are the sizes of the tables
  abbrev pub put_verdict : ℕ → ℕ → ℕ → ℕ → ℕ → ℕ → ℕ → V → Option Refusal
  put_verdict n count last a l start end x =
      cond (outside n start || outside n end) (Some ArcEnd)
      (cond (start == end) (Some SelfArc)
      (cond (nat_lt end last) (Some ArcOrder)
      (cond (nat_lt (10 ^ 9) (m.magnitude x)) (Some TooLong)
      (cond (nat_le 10000 count || (nat_le a count || nat_le l count)) (Some TablesFull) None))))

  -- one record and one length are written behind those of the arcs so far, or nothing is
  abbrev pub PutWritten : Draft → List Arc → List V → ℕ → ℕ → V → Result ℕ Refusal → Draft → List Arc → List V → Type 0
  PutWritten d arcs lengths start end x (Ok i) d' arcs' lengths' =
      (d'.nodes ≡ d.nodes) × (d'.count ≡ d.count + 1) × (d'.last ≡ end) × (arcs' ≡ slice_set arcs d.count (new_arc start end)) × (lengths' ≡ slice_set lengths d.count x)
  PutWritten d arcs lengths start end x (Err e) d' arcs' lengths' = (d' ≡ d) × (arcs' ≡ arcs) × (lengths' ≡ lengths)

  pub record PutDone (d : Draft) (arcs : List Arc) (lengths : List V) (start end : ℕ) (x : V) (r : Result ℕ Refusal) (d' : Draft) (arcs' : List Arc) (lengths' : List V) : Type 0 where
    pub answer : r ≡ judged (put_verdict d.nodes d.count d.last (length arcs) (length lengths) start end x) (d.count + 1)
    pub written : PutWritten d arcs lengths start end x r d' arcs' lengths'

  abbrev pub with_put : Net V → ℕ → ℕ → V → Result ℕ Refusal → Net V
  with_put net start end x (Ok i) = add_arc net start end x
  with_put net start end x (Err e) = net

  abbrev pub PutMeant : Net V → ℕ → ℕ → V → Result ℕ Refusal → Draft → List Arc → List V → Type 0
  PutMeant net start end x r d' arcs' lengths' = DraftHolds (with_put net start end x r) d' arcs' lengths'

  -- why a length is not changed: no such arc comes first
  abbrev pub relength_verdict : ℕ → ℕ → V → Option Refusal
  relength_verdict count a x = cond (outside count a) (Some NoSuchArc) (cond (nat_lt (10 ^ 9) (m.magnitude x)) (Some TooLong) None)

  abbrev pub RelengthWritten : Draft → List V → ℕ → V → Result (Unit {0}) Refusal → List V → Type 0
  RelengthWritten d lengths a x (Ok u) lengths' = (1 ≤ a) × (a ≤ d.count) × (lengths' ≡ slice_set lengths (a - 1) x)
  RelengthWritten d lengths a x (Err e) lengths' = lengths' ≡ lengths

  pub record RelengthDone (d : Draft) (lengths : List V) (a : ℕ) (x : V) (r : Result (Unit {0}) Refusal) (lengths' : List V) : Type 0 where
    -- a table that has all the lengths of the draft's arcs
    pub answer : d.count ≤ length lengths → r ≡ judged (relength_verdict d.count a x) tt
    pub written : RelengthWritten d lengths a x r lengths'

  abbrev pub with_length : Net V → ℕ → V → Result (Unit {0}) Refusal → Net V
  with_length net a x (Ok u) = relength_arc net a x
  with_length net a x (Err e) = net

  abbrev pub RelengthMeant : Net V → ℕ → V → Result (Unit {0}) Refusal → Draft → List Arc → List V → Type 0
  RelengthMeant net a x r d arcs lengths' = DraftHolds (with_length net a x r) d arcs lengths'

  abbrev pub with_mark : Net V → ℕ → Bool → Result (Unit {0}) Refusal → Net V
  with_mark net a b (Ok u) = mark_arc net a b
  with_mark net a b (Err e) = net

  abbrev pub MarkMeant : Net V → ℕ → Bool → Result (Unit {0}) Refusal → Draft → List Arc → List V → Type 0
  MarkMeant net a b r d arcs' lengths = DraftHolds (with_mark net a b r) d arcs' lengths

-- why an arc is not marked
abbrev pub mark_verdict : ℕ → ℕ → Option Refusal
mark_verdict count a = cond (outside count a) (Some NoSuchArc) None

abbrev pub MarkWritten : Draft → List Arc → ℕ → Bool → Result (Unit {0}) Refusal → List Arc → Type 0
MarkWritten d arcs a b (Ok u) arcs' = (1 ≤ a) × (a ≤ d.count) × (arcs' ≡ slice_set arcs (a - 1) (marked b (arc_at arcs a)))
MarkWritten d arcs a b (Err e) arcs' = arcs' ≡ arcs

pub record MarkDone (d : Draft) (arcs : List Arc) (a : ℕ) (b : Bool) (r : Result (Unit {0}) Refusal) (arcs' : List Arc) : Type 0 where
  pub answer : d.count ≤ length arcs → r ≡ judged (mark_verdict d.count a) tt
  pub written : MarkWritten d arcs a b r arcs'

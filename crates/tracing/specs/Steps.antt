-- The steps of a path in the work table, and what the two loops of a next come to.
use Rattle.std.specs.Prelude.{◌≡◌, ℕ, ◌*◌, ◌≤◌, List, [], ◌∷◌, ◌++◌, length, map, take, Some, None, Option}
use Rattle.measure.specs.Algebra.{Algebra}
use Rattle.walks.specs.Ways.{Soonest, Way, Later, Last, Steady}
use Rattle.sweeps.specs.declared.Arc.{Arc}
use Rattle.tracing.specs.declared.Step.{Step}
use Rattle.tracing.specs.declared.labels.Label.{Label}
use Rattle.tracing.specs.Tables.{Tables}
use Rattle.tracing.specs.Labels.{lab, Sorted, Back, Home}

-- the arcs of the steps, the last arc of the path first
abbrev pub arcs_of : List Step → List ℕ
arcs_of ts = map (λ t. t.arc) ts

-- the label that the steps lead back to from x
abbrev pub end_of : List Arc → Label → List Step → Label
end_of arcs x [] = x
end_of arcs x (t ∷ ts) = end_of arcs (lab arcs t) ts

module _ {V : Type 0} (m : Algebra V) (T : Tables V) where
  -- the ways back from a label to null at the source
  abbrev pub WayFrom : Label → List ℕ → Type 0
  WayFrom = Way (Back m T) (Home m T)

  abbrev pub Alive : Label → Type 0
  Alive x = (w : List ℕ) × WayFrom x w

  -- each step leads back from the label before it
  abbrev pub Chain : Label → List Step → Type 0
  Chain x [] = Unit {0}
  Chain x (t ∷ ts) = Back m T x t.arc (lab T.arcs t) × Chain (lab T.arcs t) ts

  -- what the tables of a settled session are like to a search backward
  pub record Sound : Type 0 where
    pub sorted : Sorted T
    pub steady : Steady (Back m T) (Home m T) (T.nodes * T.k)

  -- the steps are the first way back from x
  pub record Down (x : Label) (steps : List Step) : Type 0 where
    pub chain : Chain x steps
    pub home : Home m T (end_of T.arcs x steps)
    pub soonest : Soonest (WayFrom x) (arcs_of steps)

  -- a way back from x of at least so many arcs
  pub record Long (x : Label) (size : ℕ) : Type 0 where
    pub way : List ℕ
    pub is : WayFrom x way
    pub long : size ≤ length way

  abbrev pub Descended : Label → List Step → Option ℕ → Type 0
  Descended x work (Some d) = (d ≤ length work) × (Sound → Alive x → Down x (take d work))
  Descended x work None = Sound → Alive x → Long x (length work)

  -- the steps are a way back from x
  pub record Stands (x : Label) (steps : List Step) : Type 0 where
    pub chain : Chain x steps
    pub home : Home m T (end_of T.arcs x steps)

  -- whatever is the first way from the end of the new steps makes with them the next way after the old steps
  pub record Turn (x : Label) (old new : List Step) : Type 0 where
    pub chain : Chain x new
    pub alive : Alive (end_of T.arcs x new)
    pub next : (v : List ℕ) → Soonest (WayFrom (end_of T.arcs x new)) v → Soonest (Later (Back m T) (Home m T) x (arcs_of old)) (arcs_of new ++ v)

  abbrev pub Turned : Label → ℕ → List Step → List Step → Option ℕ → Type 0
  Turned x depth work work' (Some d) = (1 ≤ d) × (d ≤ depth) × (Sound → Stands x (take depth work) → Turn x (take depth work) (take d work'))
  Turned x depth work work' None = (work' ≡ work) × (Sound → Stands x (take depth work) → Last (Back m T) (Home m T) x (arcs_of (take depth work)))

-- What a trace hands out: of its paths, the first that it has not handed out.
use Rattle.std.specs.Prelude.{ℕ, List}
use Rattle.measure.specs.Algebra.{Algebra}
use Rattle.walks.specs.Networks.{Network}
use Rattle.walks.specs.Rows.{Table, In}
use Rattle.walks.specs.Paths.{PathTo, Ahead}

module _ {V : Type 0} (m : Algebra V) (net : Network V) (s : ℕ) (t : Table V) (j : ℕ) (handed : List (List ℕ)) where
  -- w is a path to j that is not handed out, and no such path is ahead of it in the order of paths
  pub record FirstLeft (w : List ℕ) : Type 0 where
    pub path : PathTo m net s t j w
    pub new : ¬ In w handed
    pub first : (v : List ℕ) → PathTo m net s t j v → ¬ In v handed → ¬ Ahead m net v w

  -- every path to j is handed out
  abbrev pub NoneLeft : Type 0
  NoneLeft = (v : List ℕ) → PathTo m net s t j v → In v handed

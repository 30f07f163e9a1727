-- Ways back over arcs, from a label to the label where all walks start; their first one, and the next after one.
use Rattle.std.specs.Prelude.{ℕ, ◌<◌, List, [], ◌∷◌, length}
use Rattle.walks.specs.Paths.{Sooner}

-- the soonest that P admits
pub record Soonest (P : List ℕ → Type 0) (w : List ℕ) : Type 0 where
  pub holds : P w
  pub first : (v : List ℕ) → P v → ¬ Sooner v w

-- Labels are of any kind; `Back x a y`: arc a leads back from x to y; `Home x`: no arc is left to go.
module _ {L : Type 0} (Back : L → ℕ → L → Type 0) (Home : L → Type 0) where
  -- the arcs w, the last first, lead back from x to home
  abbrev pub Way : L → List ℕ → Type 0
  Way x [] = Home x
  Way x (a ∷ w) = (y : L) × (Back x a y × Way y w)

  -- a way of x that is later than w
  abbrev pub Later : L → List ℕ → List ℕ → Type 0
  Later x w v = Way x v × Sooner w v

  -- no way of x is later than w
  abbrev pub Last : L → List ℕ → Type 0
  Last x w = (v : List ℕ) → Way x v → ¬ Sooner w v

  -- b is the lowest arc above a that leads back from x
  pub record Lowest (x : L) (a b : ℕ) (y : L) : Type 0 where
    pub above : a < b
    pub leads : Back x b y
    pub between : (c : ℕ) (z : L) → a < c → c < b → ¬ Back x c z

  -- no arc above a leads back from x
  abbrev pub NoneAbove : L → ℕ → Type 0
  NoneAbove x a = (c : ℕ) (z : L) → a < c → ¬ Back x c z

  -- what makes a search backward simple: an arc leads back to labels with the same ways, none from home, and never to a dead end; ways are short
  pub record Steady (cells : ℕ) : Type 0 where
    pub once : (x y z : L) (a : ℕ) (w : List ℕ) → Back x a y → Back x a z → Way z w → Way y w
    pub numbered : (x y : L) (a : ℕ) → Back x a y → 0 < a
    pub ends : (x y : L) (a : ℕ) → Home x → ¬ Back x a y
    pub live : (x y : L) (a : ℕ) → Back x a y → (w : List ℕ) × Way y w
    pub few : (x y : L) (a : ℕ) (w : List ℕ) → Back x a y → Way y w → length (a ∷ w) < cells

  -- the first way of a label and the next after one, arc by arc
  pub record Stepwise : Type 0 where
    -- home has the empty way and no other
    pub home_first : (x : L) → Home x → Soonest (Way x) []
    pub home_last : (x : L) → Home x → Last x []
    -- the first way takes the lowest arc that leads back, and then the first way from there
    pub first : (x y : L) (a : ℕ) (w : List ℕ) → Lowest x 0 a y → Soonest (Way y) w → Soonest (Way x) (a ∷ w)
    -- the next way keeps the last arc while a later way leads to it
    pub next_keeps : (x y : L) (a : ℕ) (w v : List ℕ) → Back x a y → Soonest (Later y w) v → Soonest (Later x (a ∷ w)) (a ∷ v)
    -- else it takes the next arc that leads back, and then the first way from there
    pub next_turns : (x y z : L) (a b : ℕ) (w v : List ℕ) → Back x a y → Last y w → Lowest x a b z → Soonest (Way z) v → Soonest (Later x (a ∷ w)) (b ∷ v)
    -- else there is none
    pub next_none : (x y : L) (a : ℕ) (w : List ℕ) → Back x a y → Last y w → NoneAbove x a → Last x (a ∷ w)

-- The sweeps over a network, as they are computed.
use Rattle.std.specs.Prelude.{ℕ, zero, suc, Bool, true, false, cond, not, ◌&&◌, List, [], ◌∷◌, take, ◌==◌, nat_lt}
use Rattle.std.specs.declared.cmp.Ordering.TheVariants.{Less, Equal, Greater}
use Rattle.std.specs.declared.cmp.Ordering.{Ordering}
use Rattle.measure.specs.Algebra.{Algebra}
use Rattle.walks.specs.Networks.{Network}
use Rattle.walks.specs.Rows.{Table}

-- by the answer of a compare
abbrev pub choose : {A : Type 0} → Ordering → A → A → A → A
choose Less a b c = a
choose Equal a b c = b
choose Greater a b c = c

-- x in its place among the first K values of a row
abbrev pub place : {V : Type 0} → Algebra V → ℕ → V → List V → List V
place m zero x row = []
place m (suc k) x [] = x ∷ []
place m (suc k) x (y ∷ ys) = choose (m.compare x y) (x ∷ take k (y ∷ ys)) (y ∷ ys) (y ∷ place m k x ys)

-- the odd numbers are those of the passes down
abbrev pub odd : ℕ → Bool
odd zero = false
odd (suc n) = not (odd n)

-- a pass down takes arcs from above j, a pass up arcs from below j
abbrev pub takes : Bool → ℕ → ℕ → Bool
takes true i j = nat_lt j i
takes false i j = nat_lt i j

-- the pass takes arc a when it works on node j
abbrev pub uses : {V : Type 0} → Network V → Bool → ℕ → ℕ → Bool
uses net down j a = net.is_open a && (net.end a == j && takes down (net.start a) j)

-- the table with another row at j
abbrev pub put : {V : Type 0} → Table V → ℕ → List V → Table V
put t j row i = cond (i == j) row (t i)

module _ {V : Type 0} (m : Algebra V) (net : Network V) (k s : ℕ) where
  -- the joins of all xs with l, placed
  abbrev pub place_all : List V → V → List V → List V
  place_all [] l row = row
  place_all (x ∷ xs) l row = place_all xs l (place m k (m.plus x l) row)

  -- over an arc that is taken, or not
  abbrev pub offer : Bool → List V → V → List V → List V
  offer true xs l row = place_all xs l row
  offer false xs l row = row

  -- the row of j after the arcs 1 to a
  abbrev pub gather : Bool → Table V → ℕ → ℕ → List V
  gather down t j zero = t j
  gather down t j (suc a) = offer (uses net down j (suc a)) (t (net.start (suc a))) (net.arc_length (suc a)) (gather down t j a)

  -- work on node j
  abbrev pub work : Bool → Table V → ℕ → Table V
  work down t j = put t j (gather down t j net.arcs)

  -- nodes n down to 1
  abbrev pub sweep_down : ℕ → Table V → Table V
  sweep_down zero t = t
  sweep_down (suc n) t = sweep_down n (work true t (suc n))

  -- nodes 1 up to n
  abbrev pub sweep_up : ℕ → Table V → Table V
  sweep_up zero t = t
  sweep_up (suc n) t = work false (sweep_up n t) (suc n)

  -- a whole pass, down or up
  abbrev pub pass : Bool → Table V → Table V
  pass true t = sweep_down net.nodes t
  pass false t = sweep_up net.nodes t

  -- the rows after p passes: at first the source has null alone, and odd passes go down
  abbrev pub rows : ℕ → Table V
  rows zero = put (λ j. []) s (m.null ∷ [])
  rows (suc p) = pass (odd (suc p)) (rows p)

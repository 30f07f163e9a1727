-- Small networks, worked out, each solved from node 1.
use Rattle.std.specs.Prelude.{◌≡◌, ℕ, zero, suc, ◌-◌, Bool, true, false, List, [], ◌∷◌, ◌++◌, length, pos, negsuc, slice_index_or}
use Rattle.measure.specs.Algebra.{Algebra}
use Rattle.measure.specs.Sums.{sum_algebra, clamped}
use Rattle.measure.specs.Piles.{reversed_algebra, then_algebra}
use Rattle.measure.specs.declared.sum.Sum.{Sum}
use Rattle.measure.specs.declared.reversed.Reversed.{Reversed}
use Rattle.measure.specs.declared.then.Then.{Then}
use Rattle.walks.specs.Networks.{Network}
use Rattle.walks.specs.Walks.{walk_length}
use Rattle.walks.specs.Circuits.{NegativeCircuit, NullCircuit}
use Rattle.walks.specs.Rows.{Table}
use Rattle.walks.specs.Method.{rows}
use Rattle.walks.specs.Solves.{settled, refused, outcome}
use Rattle.walks.specs.Tracing.{traced}

-- an arc as it is written down
pub record Line (V : Type 0) : Type 0 where
  pub start : ℕ
  pub end : ℕ
  pub line_length : V
  pub is_open : Bool

-- an open arc
abbrev pub line : {V : Type 0} → ℕ → ℕ → V → Line V
line i j l = record { start = i; end = j; line_length = l; is_open = true }

-- a closed arc
abbrev pub closed : {V : Type 0} → ℕ → ℕ → V → Line V
closed i j l = record { start = i; end = j; line_length = l; is_open = false }

-- arc number a
abbrev pub line_at : {V : Type 0} → Algebra V → List (Line V) → ℕ → Line V
line_at m ls a = slice_index_or ls (a - 1) (closed 0 0 m.null)

-- a network of n nodes with these arcs, numbered from 1
abbrev pub drawn : {V : Type 0} → Algebra V → ℕ → List (Line V) → Network V
drawn m n ls = record {
  nodes = n;
  arcs = length ls;
  start = λ a. (line_at m ls a).start;
  end = λ a. (line_at m ls a).end;
  arc_length = λ a. (line_at m ls a).line_length;
  is_open = λ a. (line_at m ls a).is_open;
}

-- the rows of the nodes 1 to n
abbrev pub rows_to : {V : Type 0} → Table V → ℕ → List (List V)
rows_to t zero = []
rows_to t (suc n) = rows_to t n ++ (t (suc n) ∷ [])

-- the lengths of these walks
abbrev pub lengths : {V : Type 0} → Algebra V → Network V → List (List ℕ) → List V
lengths m net [] = []
lengths m net (w ∷ ws) = walk_length m net w ∷ lengths m net ws

module _ {V : Type 0} (m : Algebra V) (net : Network V) (k : ℕ) where
  -- the solve settles after p passes, and leaves these rows at the nodes 1 to N
  pub record SettlesWith (p : ℕ) (table : List (List V)) : Type 0 where
    pub passes : outcome m net k 1 ≡ settled p
    pub table_is : rows_to (rows m net k 1 p) net.nodes ≡ table

-- n
abbrev pub plus : ℕ → Sum
plus n = clamped (pos n)

-- -n
abbrev pub minus : ℕ → Sum
minus zero = clamped (pos 0)
minus (suc n) = clamped (negsuc n)

-- n, the longest first
abbrev pub back : ℕ → Reversed Sum
back n = record { value = plus n }

-- a, and then b
abbrev pub both : ℕ → ℕ → Then Sum Sum
both a b = record { first = plus a; second = plus b }

abbrev pub reversed_sum : Algebra (Reversed Sum)
reversed_sum = reversed_algebra sum_algebra

abbrev pub sum_then_sum : Algebra (Then Sum Sum)
sum_then_sum = then_algebra sum_algebra sum_algebra

-- four nodes, with a circuit of 2 and 3
abbrev pub diamond : Network Sum
diamond = drawn sum_algebra 4 (line 3 2 (plus 1) ∷ line 1 2 (plus 4) ∷ line 1 3 (plus 2) ∷ line 2 3 (plus 1) ∷ line 2 4 (plus 5) ∷ line 3 4 (plus 7) ∷ [])

-- there by 3, and back by this
abbrev pub there_and_back : Sum → Network Sum
there_and_back x = drawn sum_algebra 2 (line 2 1 x ∷ line 1 2 (plus 3) ∷ [])

-- the way back is closed
abbrev pub no_way_back : Network Sum
no_way_back = drawn sum_algebra 2 (closed 2 1 (minus 4) ∷ line 1 2 (plus 3) ∷ [])

-- a circuit before null that node 1 does not reach
abbrev pub out_of_reach : Network Sum
out_of_reach = drawn sum_algebra 3 (line 3 2 (minus 1) ∷ line 2 3 (minus 1) ∷ [])

-- the longest walk to node 3 goes by node 2
abbrev pub longest_first : Network (Reversed Sum)
longest_first = drawn reversed_sum 3 (line 1 2 (back 4) ∷ line 1 3 (back 5) ∷ line 2 3 (back 2) ∷ [])

-- two arcs that agree in the first part
abbrev pub second_decides : Network (Then Sum Sum)
second_decides = drawn sum_then_sum 2 (line 1 2 (both 2 10) ∷ line 1 2 (both 2 7) ∷ [])

-- one node and no arc
abbrev pub alone : Network Sum
alone = drawn sum_algebra 1 []

-- what their solves from node 1 come to
pub record SmallNetworks : Type 0 where
  -- the walks to node 4 go by 2 and 3 in many ways
  pub diamond_rows : SettlesWith sum_algebra diamond 3 7 ((plus 0 ∷ []) ∷ (plus 3 ∷ plus 4 ∷ plus 5 ∷ []) ∷ (plus 2 ∷ plus 4 ∷ plus 5 ∷ []) ∷ (plus 8 ∷ plus 9 ∷ plus 10 ∷ []) ∷ [])
  pub diamond_null : ¬ NullCircuit sum_algebra diamond 1
  -- its paths to node 4, each with the last arc first
  pub diamond_paths : traced sum_algebra diamond 1 (rows sum_algebra diamond 3 1 7) 3 4 ≡ (5 ∷ 1 ∷ 3 ∷ []) ∷ (5 ∷ 2 ∷ []) ∷ (6 ∷ 3 ∷ []) ∷ (5 ∷ 1 ∷ 4 ∷ 1 ∷ 3 ∷ []) ∷ []
  pub diamond_lengths : lengths sum_algebra diamond (traced sum_algebra diamond 1 (rows sum_algebra diamond 3 1 7) 3 4) ≡ plus 8 ∷ plus 9 ∷ plus 9 ∷ plus 10 ∷ []
  -- there by 3 and back by -2: the circuit is after null
  pub after_null_rows : SettlesWith sum_algebra (there_and_back (minus 2)) 2 5 ((plus 0 ∷ plus 1 ∷ []) ∷ (plus 3 ∷ plus 4 ∷ []) ∷ [])
  pub after_null_none : ¬ NullCircuit sum_algebra (there_and_back (minus 2)) 1
  -- back by -3: the circuit is null
  pub null_rows : SettlesWith sum_algebra (there_and_back (minus 3)) 2 3 ((plus 0 ∷ []) ∷ (plus 3 ∷ []) ∷ [])
  pub null_reached : NullCircuit sum_algebra (there_and_back (minus 3)) 1
  -- back by -4: the circuit is before null
  pub before_null_refused : outcome sum_algebra (there_and_back (minus 4)) 2 1 ≡ refused
  pub before_null_reached : NegativeCircuit sum_algebra (there_and_back (minus 4)) 1
  -- the same with the way back closed
  pub closed_rows : SettlesWith sum_algebra no_way_back 2 3 ((plus 0 ∷ []) ∷ (plus 3 ∷ []) ∷ [])
  pub closed_none : ¬ NullCircuit sum_algebra no_way_back 1
  -- a circuit before null that is not reached
  pub unreached_rows : SettlesWith sum_algebra out_of_reach 2 2 ((plus 0 ∷ []) ∷ [] ∷ [] ∷ [])
  pub unreached_none : ¬ NullCircuit sum_algebra out_of_reach 1
  -- the longest lengths first
  pub longest_rows : SettlesWith reversed_sum longest_first 2 3 ((back 0 ∷ []) ∷ (back 4 ∷ []) ∷ (back 6 ∷ back 5 ∷ []) ∷ [])
  pub longest_none : ¬ NullCircuit reversed_sum longest_first 1
  -- the first parts agree, and the second decide
  pub second_rows : SettlesWith sum_then_sum second_decides 2 3 ((both 0 0 ∷ []) ∷ (both 2 7 ∷ both 2 10 ∷ []) ∷ [])
  pub second_none : ¬ NullCircuit sum_then_sum second_decides 1
  -- one node: one path, without arcs
  pub alone_rows : SettlesWith sum_algebra alone 1 2 ((plus 0 ∷ []) ∷ [])
  pub alone_none : ¬ NullCircuit sum_algebra alone 1
  pub alone_path : traced sum_algebra alone 1 (rows sum_algebra alone 1 1 2) 1 1 ≡ [] ∷ []

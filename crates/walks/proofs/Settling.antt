-- When a run comes to rest.
use Rattle.std.proofs.Common.{◌≡◌, ℕ, suc, ◌*◌, ◌≤◌, List, subst, arith}
use Rattle.measure.specs.Algebra.{Algebra, Laws}
use Rattle.walks.specs.Networks.{Network, WellFormed}
use Rattle.walks.specs.Walks.{Walk, walk_length, Counted}
use Rattle.walks.specs.Circuits.{NegativeCircuit}
use Rattle.walks.specs.Rows.{Covers, Table}
use Rattle.walks.specs.Runs.{Run}
use Rattle.walks.proofs.Rows.{unique}
use Rattle.walks.proofs.Lengths.{weight_small}
use Rattle.walks.proofs.Runs.{Walked}
use Rattle.walks.proofs.Coverage.{Small, rows_ascending, rows_short, rows_sound, rows_keep, rows_cover, fixed_cover}
use Rattle.walks.proofs.Chains.{covered}
use Rattle.walks.proofs.Circuits.{negative_near, covering_none}

module _ {V : Type 0} {m : Algebra V} (laws : Laws m) (net : Network V) (formed : WellFormed m net) (k s : ℕ) (low : 1 ≤ s) (high : s ≤ net.nodes) (rows : ℕ → Table V) (run : Run m net (suc k) s rows) where
  -- a run that comes to rest has reached no circuit before null
  pub rest_none : (p : ℕ) → Small net (suc (suc (suc p))) → ((j : ℕ) → rows (suc (suc p)) j ≡ rows (suc p) j) → ¬ NegativeCircuit m net s
  rest_none p small quiet b =
      covering_none laws net formed s low high k (suc (suc p) * net.nodes) (rows (suc (suc p))) (omega arith) (rows_sound laws net formed (suc k) s rows run (suc (suc p)))
      (fixed_cover laws net formed (suc k) s rows run p (omega arith) quiet) (negative_near laws net formed s low high b)

  module _ (no_negative : ¬ NegativeCircuit m net s) where
    -- where none is reached, pass n × k has covered everything
    pub all_covered : (q : ℕ) → net.nodes * suc k ≡ suc q → Small net (suc q) → (j : ℕ) (w : List ℕ) → Walk net s j w → Counted m net w → Covers m (suc k) (rows (suc q) j) (walk_length m net w)
    all_covered q e small =
        covered laws net formed s low high no_negative (suc k) (rows (suc q)) (λ j w h counted l. rows_cover laws net formed (suc k) s rows run q small j w h counted (omega arith))

    -- and the next pass changes nothing
    pub comes_to_rest : (q : ℕ) → net.nodes * suc k ≡ suc q → Small net (suc (suc q)) → (j : ℕ) → rows (suc (suc q)) j ≡ rows (suc q) j
    comes_to_rest q e small j =
        unique laws (suc k) (rows (suc (suc q)) j) (rows (suc q) j) (rows_ascending laws net formed (suc k) s rows run (suc (suc q)) j) (rows_ascending laws net formed (suc k) s rows run (suc q) j)
        (rows_short laws net formed (suc k) s rows run (suc (suc q)) j) (rows_short laws net formed (suc k) s rows run (suc q) j)
        (λ v i. before v (rows_sound laws net formed (suc k) s rows run (suc (suc q)) j v i))
        (λ v i. rows_keep laws net formed (suc k) s rows run (suc q) j v (earlier v (rows_sound laws net formed (suc k) s rows run (suc q) j v i)))
      where
        before : (v : V) → Walked m net s (suc (suc q) * net.nodes) j v → Covers m (suc k) (rows (suc q) j) v
        before v h =
            let w = weight_small laws net s j h.walk formed h.leads in
            let f = h.few in
            subst (Covers m (suc k) (rows (suc q) j)) h.is (all_covered q e (omega arith) j h.walk h.leads (omega arith))

        earlier : (v : V) → Walked m net s (suc q * net.nodes) j v → Covers m (suc k) (rows (suc q) j) v
        earlier v h =
            let w = weight_small laws net s j h.walk formed h.leads in
            let f = h.few in
            subst (Covers m (suc k) (rows (suc q) j)) h.is (all_covered q e (omega arith) j h.walk h.leads (omega arith))

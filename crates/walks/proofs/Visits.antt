-- How often a walk visits a node.
use Rattle.std.proofs.Common.{◌≡◌, ℕ, suc, ◌+◌, ◌*◌, ◌≤◌, List, [], ◌∷◌, ◌++◌, length, sym, refl, ap, ◌∙◌, arith}
use native.Mathlib.Decide.{ℕ_discrete}
use Rattle.measure.specs.Algebra.{Algebra}
use Rattle.walks.specs.Networks.{Network, WellFormed}
use Rattle.walks.specs.Walks.{Walk}
use Rattle.walks.proofs.Counting.{sum_to, sum_add, Full, pigeon, one, one_other, one_in}

module _ {V : Type 0} (net : Network V) (s : ℕ) where
  abbrev pub visits : List ℕ → ℕ → ℕ
  visits [] v = one s v
  visits (a ∷ w) v = visits w v + one (net.end a) v

  -- w goes to v, at least k times, and then on
  pub record Visit (w : List ℕ) (x v k : ℕ) : Type 0 where
    pub first : List ℕ
    pub then : List ℕ
    pub is : w ≡ then ++ first
    pub leads : Walk net s v first
    pub on : Walk net v x then
    pub often : k ≤ visits first v

  pub visit : (w : List ℕ) (x v k : ℕ) → Walk net s x w → 1 ≤ k → k ≤ visits w v → Visit w x v k
  visit [] x v k h low many = go (ℕ_discrete s v)
    where
      go : Dec (s ≡ v) → Visit [] x v k
      go (yes e) = record { first = []; then = []; is = refl; leads = e; on = sym e ∙ h; often = many }
      go (no e) = absurd (omega (arith, one_other s v e))
  visit (a ∷ w) x v k h low many = go (ℕ_discrete (net.end a) v) (visit w (net.start a) v k h.2 low)
    where
      go : Dec (net.end a ≡ v) → (k ≤ visits w v → Visit w (net.start a) v k) → Visit (a ∷ w) x v k
      go (yes e) ih = record { first = a ∷ w; then = []; is = refl; leads = (h.0, e, h.2); on = sym e ∙ h.1; often = many }
      go (no e) ih =
          let r = ih (omega (arith, one_other (net.end a) v e)) in
          record { first = r.first; then = a ∷ r.then; is = ap (λ l. a ∷ l) r.is; leads = r.leads; on = (h.0, h.1, r.on); often = r.often }

module _ {V : Type 0} {m : Algebra V} (net : Network V) (formed : WellFormed m net) (s : ℕ) (low : 1 ≤ s) (high : s ≤ net.nodes) where
  pub visits_all : (w : List ℕ) (x : ℕ) → Walk net s x w → sum_to (visits net s w) net.nodes ≡ suc (length w)
  visits_all [] x h = one_in s net.nodes low high
  visits_all (a ∷ w) x h =
      let p = formed a h.0 in
      omega (arith, sum_add (visits net s w) (one (net.end a)) net.nodes, visits_all w (net.start a) h.2, one_in (net.end a) net.nodes p.end_low p.end_high)

  -- a walk of n × k arcs comes k + 1 times to some node
  pub crowded : (w : List ℕ) (x k : ℕ) → Walk net s x w → net.nodes * k ≤ length w → Full (visits net s w) net.nodes k
  crowded w x k h enough = pigeon (visits net s w) net.nodes k (omega (arith, visits_all w x h))

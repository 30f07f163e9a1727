-- Small networks, worked out.
use Rattle.std.proofs.Common.{◌≡◌, ℕ, zero, suc, ◌^◌, ◌≤◌, Bool, true, false, not, ◌&&◌, eqb, leb, [], ◌∷◌, sym, refl, ap, ◌∙◌, subst, arith}
use native.Mathlib.Decide.{ℕ_discrete}
use Rattle.std.proofs.lemmas.Bool.{and_parts, false≢true, leb-true, eq-eqb}
use Rattle.measure.specs.Algebra.{Algebra, Laws}
use Rattle.measure.specs.Sums.{sum_algebra}
use Rattle.measure.specs.SumLaws.{sum_laws}
use Rattle.measure.specs.ThenLaws.{then_laws}
use Rattle.walks.specs.Networks.{Network, ProperArc}
use Rattle.walks.specs.Circuits.{NullCircuit}
use Rattle.walks.specs.Method.{rows}
use Rattle.walks.specs.Solves.{settled, outcome}
use Rattle.walks.specs.Nulls.{null_found}
use Rattle.walks.specs.Theorems.{Within}
use Rattle.walks.specs.Cases.{minus, reversed_sum, sum_then_sum, diamond, there_and_back, no_way_back, out_of_reach, longest_first, second_decides, alone, SmallNetworks}
use Rattle.walks.proofs.Marking.{nulls_told}
use Rattle.walks.proofs.Reversing.{reversed_laws}

-- a test of each arc of a network
module _ {V : Type 0} (m : Algebra V) (net : Network V) where
  abbrev proper_arc : ℕ → Bool
  proper_arc a = leb 1 (net.start a) && (leb (net.start a) net.nodes && (leb 1 (net.end a) && (leb (net.end a) net.nodes && (not (eqb (net.start a) (net.end a)) && leb (m.magnitude (net.arc_length a)) (10 ^ 9)))))

  abbrev proper_arcs : ℕ → Bool
  proper_arcs zero = true
  proper_arcs (suc n) = proper_arc (suc n) && proper_arcs n

  proper : (a : ℕ) → proper_arc a ≡ true → ProperArc m net a
  proper a h =
      let p₁ = and_parts (leb 1 (net.start a)) _ h in
      let p₂ = and_parts (leb (net.start a) net.nodes) _ p₁.1 in
      let p₃ = and_parts (leb 1 (net.end a)) _ p₂.1 in
      let p₄ = and_parts (leb (net.end a) net.nodes) _ p₃.1 in
      let p₅ = and_parts (not (eqb (net.start a) (net.end a))) _ p₄.1 in
      record {
        start_low = leb-true 1 (net.start a) p₁.0;
        start_high = leb-true (net.start a) net.nodes p₂.0;
        end_low = leb-true 1 (net.end a) p₃.0;
        end_high = leb-true (net.end a) net.nodes p₄.0;
        apart = λ e. false≢true (sym (ap not (eq-eqb (net.start a) (net.end a) e)) ∙ p₅.0);
        small = leb-true (m.magnitude (net.arc_length a)) (10 ^ 9) p₅.1;
      }

  proper_to : (n : ℕ) → proper_arcs n ≡ true → (a : ℕ) → 1 ≤ a → a ≤ n → ProperArc m net a
  proper_to zero h a low high = absurd (omega arith)
  proper_to (suc n) h a low high = go (ℕ_discrete a (suc n)) (λ l. proper_to n parts.1 a low l)
    where
      parts : (proper_arc (suc n) ≡ true) × (proper_arcs n ≡ true)
      parts = and_parts (proper_arc (suc n)) (proper_arcs n) h

      go : Dec (a ≡ suc n) → (a ≤ n → ProperArc m net a) → ProperArc m net a
      go (yes e) ih = subst (ProperArc m net) (sym e) (proper (suc n) parts.0)
      go (no e) ih = ih (omega arith)

  within : (k : ℕ) → proper_arcs net.arcs ≡ true → 1 ≤ net.nodes → net.nodes ≤ 1000 → 1 ≤ k → k ≤ 20 → Within m net k 1
  within k h a b c d = record { formed = λ i o. proper_to net.arcs h i o.low o.high; nodes_high = b; k_low = c; k_high = d; s_low = omega arith; s_high = a }

-- the marking finds no null circuit
none_found : {V : Type 0} {m : Algebra V} → Laws m → (net : Network V) (k p : ℕ) → Within m net k 1 → outcome m net k 1 ≡ settled p → null_found m net (rows m net k 1 p) ≡ false → ¬ NullCircuit m net 1
none_found laws net k p g e f n = false≢true (sym f ∙ (nulls_told laws net k 1 g p e).found_back n)

pub cases_hold : SmallNetworks
cases_hold = record {
  diamond_rows = record { passes = refl; table_is = refl };
  diamond_null = none_found sum_laws diamond 3 7 (within sum_algebra diamond 3 refl (omega arith) (omega arith) (omega arith) (omega arith)) refl refl;
  diamond_paths = refl;
  diamond_lengths = refl;
  after_null_rows = record { passes = refl; table_is = refl };
  after_null_none = none_found sum_laws (there_and_back (minus 2)) 2 5 (within sum_algebra (there_and_back (minus 2)) 2 refl (omega arith) (omega arith) (omega arith) (omega arith)) refl refl;
  null_rows = record { passes = refl; table_is = refl };
  null_reached = record { at = 1; way = []; leads = refl; way_counted = omega arith; last = 1; rest = 2 ∷ []; round = (record { low = omega arith; high = omega arith; marked = refl }, refl, (record { low = omega arith; high = omega arith; marked = refl }, refl, refl)); counted = omega arith; admitted = refl };
  before_null_refused = refl;
  before_null_reached = record { at = 1; way = []; leads = refl; way_counted = omega arith; last = 1; rest = 2 ∷ []; round = (record { low = omega arith; high = omega arith; marked = refl }, refl, (record { low = omega arith; high = omega arith; marked = refl }, refl, refl)); counted = omega arith; admitted = refl };
  closed_rows = record { passes = refl; table_is = refl };
  closed_none = none_found sum_laws no_way_back 2 3 (within sum_algebra no_way_back 2 refl (omega arith) (omega arith) (omega arith) (omega arith)) refl refl;
  unreached_rows = record { passes = refl; table_is = refl };
  unreached_none = none_found sum_laws out_of_reach 2 2 (within sum_algebra out_of_reach 2 refl (omega arith) (omega arith) (omega arith) (omega arith)) refl refl;
  longest_rows = record { passes = refl; table_is = refl };
  longest_none = none_found (reversed_laws sum_laws) longest_first 2 3 (within reversed_sum longest_first 2 refl (omega arith) (omega arith) (omega arith) (omega arith)) refl refl;
  second_rows = record { passes = refl; table_is = refl };
  second_none = none_found (then_laws sum_algebra sum_algebra sum_laws sum_laws) second_decides 2 3 (within sum_then_sum second_decides 2 refl (omega arith) (omega arith) (omega arith) (omega arith)) refl refl;
  alone_rows = record { passes = refl; table_is = refl };
  alone_none = none_found sum_laws alone 1 2 (within sum_algebra alone 1 refl (omega arith) (omega arith) (omega arith) (omega arith)) refl refl;
  alone_path = refl;
}

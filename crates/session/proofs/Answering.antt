-- A session's solve is the solve of its tables.
use Rattle.std.proofs.Common.{◌≡◌, ℕ, ◌≤◌, List, length, Some, None, Ok, Err, Option, Result, sym, refl, ap, subst, arith}
use Rattle.std.proofs.lemmas.Bool.Decides.{nat_tests}
use Rattle.measure.specs.Algebra.{Algebra, Laws}
use Rattle.sweeps.specs.declared.Arc.{Arc}
use Rattle.sweeps.specs.declared.Solved.{Solved}
use Rattle.sweeps.specs.declared.order.Order.{Order}
use Rattle.sweeps.specs.declared.refusal.Refusal.{Refusal}
use Rattle.walks.specs.Circuits.{NegativeCircuit as NegativeReached, NullCircuit as NullReached}
use Rattle.walks.specs.Solves.{settled, outcome}
use Rattle.walks.specs.Theorems.{Within}
use Rattle.walks.proofs.Solving.{refusals}
use Rattle.sweeps.specs.Tables.{Whether}
use Rattle.sweeps.specs.Answers.{solve_verdict, Answered, Meant, Solves}
use Rattle.session.specs.declared.stages.Draft.{Draft}
use Rattle.session.specs.Nets.{Net, listed}
use Rattle.session.specs.Drafts.{DraftHolds}
use Rattle.session.specs.Solving.{begin_verdict, Answer, Given, SolveDone, SolveMeant}

-- for as many nodes as a session has, the solve's own test of their number never refuses
same_verdict : (n k s v c : ℕ) → 1 ≤ n → n ≤ 1000 → solve_verdict n k s v c ≡ begin_verdict n k s v c
same_verdict n k s v c low high = grind (arith, nat_tests)

-- how a session gives a solve's answer on
abbrev pub Passed : Draft → Order → Result Solved Refusal → Answer → Type 0
Passed d o r (Ok p) = (r ≡ Ok p.1) × (p.0.draft ≡ d) × (p.0.order ≡ o) × (p.0.null ≡ p.1.null)
Passed d o r (Err p) = (r ≡ Err p.1) × (p.0 ≡ d)

module _ {V : Type 0} (m : Algebra V) (d : Draft) (o : Order) (values : List V) (counts : List ℕ) (r : Result Solved Refusal) (values' : List V) (counts' : List ℕ) where
  gives : (arcs : List Arc) (lengths : List V) (v : Option Refusal) (a : Answer) → Answered m d.nodes o.k o.source arcs lengths values counts v r values' counts' → Passed d o r a → Given m d o values counts v a values' counts'
  gives arcs lengths (Some why) (Ok p) h e = absurd (let x = h.0 in let y = e.0 in let z : ◌≡◌ {A = ℕ} 0 1 = cc in omega arith)
  gives arcs lengths (Some why) (Err p) h e = (let x = h.0 in let y = e.0 in let w : p.1 ≡ why = cc in (λ j. Err (e.1 j, w j)), h.1, h.2)
  gives arcs lengths None (Ok p) h e = (e.1, e.2, e.3)
  gives arcs lengths None (Err p) h e =
      let g = subst (λ q. Answered m d.nodes o.k o.source arcs lengths values counts None q values' counts') e.0 h in
      (e.1, g.0, g.1)

  pub solve_done : (arcs : List Arc) (lengths : List V) (a : Answer) → Solves m d.nodes o.k o.source arcs lengths values counts r values' counts' → Passed d o r a → SolveDone m d o values counts a values' counts'
  solve_done arcs lengths a h e = record {
    given =
        subst (λ v. Given m d o values counts v a values' counts') (same_verdict d.nodes o.k o.source (length values) (length counts) d.ok.0 d.ok.1)
        (gives arcs lengths (solve_verdict d.nodes o.k o.source (length values) (length counts)) a h.answered e);
    frame = record { value_size = h.value_size; count_size = h.count_size; past_values = h.past_values; past_counts = h.past_counts };
  }

  module _ (laws : Laws m) (net : Net V) (arcs : List Arc) (lengths : List V) (holds : DraftHolds m net d arcs lengths) where
    -- a solve that began had its source within the network
    begun : solve_verdict net.nodes o.k o.source (length values) (length counts) ≡ None → o.source ≤ net.nodes
    begun e = grind (arith, nat_tests)

    -- a settled solve reaches no circuit before null
    unreached : (p : ℕ) → o.source ≤ net.nodes → outcome m (listed m net) o.k o.source ≡ settled p → ¬ NegativeReached m (listed m net) o.source
    unreached p high ended bad =
        let n = holds.nodes in
        let low = d.ok.1 in
        let within : Within m (listed m net) o.k o.source = record {
          formed = λ a open'. holds.ordered.proper a open'.low open'.high;
          nodes_high = omega arith;
          k_low = o.ok.0;
          k_high = o.ok.1;
          s_low = o.ok.2;
          s_high = high;
        } in
        let no = (refusals laws (listed m net) o.k o.source within).1 bad in
        let z : ◌≡◌ {A = ℕ} 0 1 = cc in
        omega arith

    means : (v : Option Refusal) → solve_verdict net.nodes o.k o.source (length values) (length counts) ≡ v → (a : Answer) → Meant m net.nodes o.k o.source net.arcs net.lengths values counts v r values' counts' → Passed d o r a
        → SolveMeant m net o.k o.source v a arcs lengths values' counts'
    means (Some why) v a h e = tt
    means None v (Ok p) h e =
        let g = subst (λ q. Meant m net.nodes o.k o.source net.arcs net.lengths values counts None q values' counts') e.0 h in
        record {
          ended = g.ended;
          few = g.few;
          holds = record {
            draft = subst (λ x. DraftHolds m net x arcs lengths) (sym e.1) holds;
            width = ap (λ (x : Order). x.k) e.2;
            from = ap (λ (x : Order). x.source) e.2;
            held = g.held;
            sound = unreached p.1.passes (begun v) g.ended;
            exact = g.exact;
            null_told = subst (λ b. Whether b (NullReached m (listed m net) o.source)) (sym e.3) g.null_told;
          };
          null_told = g.null_told;
        }
    means None v (Err p) h e =
        let g = subst (λ q. Meant m net.nodes o.k o.source net.arcs net.lengths values counts None q values' counts') e.0 h in
        record { ended = g.ended; circuit = g.circuit; holds = subst (λ x. DraftHolds m net x arcs lengths) (sym e.1) holds }

    -- the solve is lent the parts of the tables that are the network's
    pub solve_meant : (arcs₀ : List Arc) (lengths₀ : List V) (a : Answer) → (arcs₀ ≡ net.arcs) × (lengths₀ ≡ net.lengths) → Solves m d.nodes o.k o.source arcs₀ lengths₀ values counts r values' counts' → Passed d o r a
        → SolveMeant m net o.k o.source (begin_verdict net.nodes o.k o.source (length values) (length counts)) a arcs lengths values' counts'
    solve_meant arcs₀ lengths₀ a parts h p =
        let n = holds.nodes in
        let moved : Solves m net.nodes o.k o.source net.arcs net.lengths values counts r values' counts' =
        subst (λ i. Solves m i o.k o.source net.arcs net.lengths values counts r values' counts') n
        (subst (λ t. Solves m d.nodes o.k o.source t net.lengths values counts r values' counts') parts.0
        (subst (λ t. Solves m d.nodes o.k o.source arcs₀ t values counts r values' counts') parts.1 h)) in
        let low = d.ok.0 in
        let high = d.ok.1 in
        subst (λ v. SolveMeant m net o.k o.source v a arcs lengths values' counts') (same_verdict net.nodes o.k o.source (length values) (length counts) (omega arith) (omega arith))
        (means (solve_verdict net.nodes o.k o.source (length values) (length counts)) refl a (moved.meant holds.ordered) p)

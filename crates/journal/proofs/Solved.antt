-- What a solve adds to a log.
use Rattle.std.proofs.Common.{◌≡◌, ℕ, ◌*◌, min, Bool, true, false, cond, ◌||◌, ltb, List, [], ◌++◌, length, take, Some, None, Ok, Err, Option, sym, refl, ap, ◌∙◌, subst, inl, inr, arith, take-append-drop, length-take}
use borrow.Rule.Slice.PartMut.{post_of}
use Rattle.measure.specs.Algebra.{Algebra}
use Rattle.walks.specs.Rows.{Table}
use Rattle.walks.specs.Method.{rows as swept}
use Rattle.walks.specs.Theorems.{ExactRow}
use Rattle.sweeps.specs.declared.Arc.{Arc}
use Rattle.sweeps.specs.declared.Solved.{Solved as Found}
use Rattle.sweeps.specs.declared.order.Order.{Order}
use Rattle.sweeps.specs.declared.refusal.Refusal.{Refusal}
use Rattle.sweeps.specs.declared.refusal.Refusal.TheVariants.{NegativeCircuit, NoSuchNode, ShortTables}
use Rattle.sweeps.specs.Tables.{RowsHeld, Cleared}
use Rattle.tracing.specs.declared.Step.{Step}
use Rattle.session.specs.declared.stages.Draft.{Draft}
use Rattle.session.specs.declared.stages.Settled.{Settled}
use Rattle.session.specs.Nets.{Net, listed}
use Rattle.session.specs.Drafts.{DraftHolds}
use Rattle.session.specs.Solving.{begin_verdict, Given, SolveDone, Accepted, Declined, SolveMeant}
use Rattle.journal.specs.declared.calls.Call.TheVariants.{Solve}
use Rattle.journal.specs.declared.calls.Answer.TheVariants.{Refused, Solved}
use Rattle.journal.specs.declared.stages.Stage.TheVariants.{Drafting, Resting}
use Rattle.journal.specs.Answers.{is_circuit}
use Rattle.journal.specs.Logs.{same, drafting, network, rows}
use Rattle.journal.specs.Promise.{SolveRight}
use Rattle.journal.specs.Performs.{Tables, tables, sizes_of, logged, HeldRows, Taken}
use Rattle.journal.proofs.Entries.{nodes_are}
use Rattle.journal.proofs.RowCells.{held_before, cleared_held, reread, reads}

-- an answer that gives a settled session came of a solve that began
begun : {V : Type 0} (m : Algebra V) (d : Draft) (o : Order) (values : List V) (counts : List ℕ) (w : Option Refusal) (p : Settled × Found) (ys : List V) (cs : List ℕ) → Given m d o values counts w (Ok p) ys cs → w ≡ None
begun m d o values counts (Some why) p ys cs g = absurd (let e = g.0 in cc)
begun m d o values counts None p ys cs g = refl

-- no solve that does not begin is refused by a circuit
no_circuit : (a b : Bool) (why : Refusal) → cond a (Some NoSuchNode) (cond b (Some ShortTables) None) ≡ Some why → is_circuit why ≡ false
no_circuit true b why e = let f : why ≡ NoSuchNode = cc in ap is_circuit f
no_circuit false true why e = let f : why ≡ ShortTables = cc in ap is_circuit f
no_circuit false false why e = cc

module _ {V : Type 0} (m : Algebra V) (d : Draft) (o : Order) (v c : ℕ) (arcs : List Arc) (lengths values : List V) (counts : List ℕ) (work : List Step) (path : List ℕ)
    (v' c' : ℕ) (cut_v : v' ≡ min v (length values)) (cut_c : c' ≡ min c (length counts)) (ys : List V) (cs : List ℕ) where
  abbrev before : Tables V
  before = tables arcs lengths values counts work path

  abbrev after : Tables V
  after = tables arcs lengths (ys ++ post_of 0 v' values) (cs ++ post_of 0 c' counts) work path

  abbrev verdict : ℕ → Option Refusal
  verdict n = begin_verdict n o.k o.source (length (take v' values)) (length (take c' counts))

  lent_values : length (take v' values) ≡ min v (length values)
  lent_values = omega (arith, length-take v' values)

  lent_counts : length (take c' counts) ≡ min c (length counts)
  lent_counts = omega (arith, length-take c' counts)

  -- the verdict over the draft is that over the network and the cells that are lent
  as_lent : (net : Net V) → d.nodes ≡ net.nodes → verdict d.nodes ≡ begin_verdict net.nodes o.k o.source (min v (length values)) (min c (length counts))
  as_lent net e = λ j. begin_verdict (e j) o.k o.source (lent_values j) (lent_counts j)

  pub accepted_taken : (p : Settled × Found) → SolveDone m d o (take v' values) (take c' counts) (Ok p) ys cs
      → ((net : Net V) → DraftHolds m net d arcs lengths → SolveMeant m net o.k o.source (verdict net.nodes) (Ok p) arcs lengths ys cs)
      → Taken m (Drafting d) before (Solve o v c) (Solved p.1.passes p.1.null) (Resting p.0) after
  accepted_taken p done meant = record {
    step = λ n log out kept.
        let net = network n log in
        let h = out.holds in
        let none : verdict d.nodes ≡ None = begun m d o _ _ (verdict d.nodes) p ys cs done.given in
        let lent : begin_verdict net.nodes o.k o.source (min v (length values)) (min c (length counts)) ≡ None = sym (as_lent net h.nodes) ∙ none in
        let acc : Accepted m net o.k o.source p arcs lengths ys cs = subst (λ w. SolveMeant m net o.k o.source w (Ok p) arcs lengths ys cs) (ap verdict (sym h.nodes) ∙ none) (meant net h) in
        let t : Table V = swept m (listed m net) o.k o.source p.1.passes in
        let held = held_before m net.nodes o.k ys _ cs _ t acc.holds.held in
        let are = nodes_are n log in
        let held_n = subst (λ i. RowsHeld m i o.k after.values after.counts t) are held in (
          (
            record {
              taken = ap (λ k. same k drafting) out.at;
              answered = subst (λ w. SolveRight m w net o (logged n (Solve o v c) (Solved p.1.passes p.1.null) (sizes_of before) after)) (sym lent)
                  (inl record {
                    passes = p.1.passes;
                    null = p.1.null;
                    answer = refl;
                    sound = acc.holds.sound;
                    counted = acc.ended;
                    null_told = acc.null_told;
                    exact = λ j one le. subst (ExactRow m (listed m net) o.k o.source j) (sym (reads m n o.k after.values after.counts t held_n j one (omega arith))) (acc.holds.exact j);
                  });
            },
            kept,
          ),
          record {
            at = refl;
            holds = record {
              table = t;
              holds = record { draft = acc.holds.draft; width = acc.holds.width; from = acc.holds.from; held = held; sound = acc.holds.sound; exact = acc.holds.exact; null_told = acc.holds.null_told };
              rows_held = λ one. reread m n o.k after.values after.counts t held_n;
            };
          },
          inl (λ one. reread m n o.k after.values after.counts t held_n),
        );
  }

  -- refused before it began, or by a circuit
  refused_by : (w : Option Refusal) (p : Draft × Refusal) → verdict d.nodes ≡ w → Given m d o (take v' values) (take c' counts) w (Err p) ys cs
      → ((net : Net V) → DraftHolds m net d arcs lengths → SolveMeant m net o.k o.source w (Err p) arcs lengths ys cs)
      → Taken m (Drafting d) before (Solve o v c) (Refused p.1) (Drafting p.0) after
  refused_by (Some why) p e given meant = record {
    step = λ n log out kept.
        let net = network n log in
        let h = out.holds in
        let back : p.0 ≡ d = (let z = given.0 in cc) in
        let reason : p.1 ≡ why = (let z = given.0 in cc) in
        let other : is_circuit p.1 ≡ false = ap is_circuit reason ∙ no_circuit (ltb d.nodes o.source) (ltb (length (take v' values)) (d.nodes * o.k) || ltb (length (take c' counts)) d.nodes) why e in
        let lent : Some why ≡ begin_verdict net.nodes o.k o.source (min v (length values)) (min c (length counts)) = sym e ∙ as_lent net h.nodes in
        let values_as : after.values ≡ values = ap (λ z. z ++ post_of 0 v' values) given.1 ∙ take-append-drop v' values in
        let counts_as : after.counts ≡ counts = ap (λ z. z ++ post_of 0 c' counts) given.2 ∙ take-append-drop c' counts in (
          (
            record {
              taken = ap (λ k. same k drafting) out.at;
              answered = subst (λ w. SolveRight m w net o (logged n (Solve o v c) (Refused p.1) (sizes_of before) after)) lent (ap Refused reason);
            },
            kept,
          ),
          record {
            at = out.at;
            holds = subst (λ x. DraftHolds m net x arcs lengths) (sym back) h;
          },
          inr (ap (λ b. cond b (record { width = o.k; source = o.source; at = λ j. [] }) (rows log)) other, values_as, counts_as),
        );
  }
  refused_by None p e given meant = record {
    step = λ n log out kept.
        let net = network n log in
        let h = out.holds in
        let reason : p.1 ≡ NegativeCircuit = given.1 in
        let by : is_circuit p.1 ≡ true = ap is_circuit reason in
        let lent : None ≡ begin_verdict net.nodes o.k o.source (min v (length values)) (min c (length counts)) = sym e ∙ as_lent net h.nodes in
        let declined : Declined m net o.k o.source p arcs lengths = meant net h in
        let cleared : Cleared m (n * o.k) n (take (n * o.k) ys) (take n cs) = subst (λ i. Cleared m (i * o.k) i (take (i * o.k) ys) (take i cs)) (h.nodes ∙ nodes_are n log) given.2 in (
          (
            record {
              taken = ap (λ k. same k drafting) out.at;
              answered = subst (λ w. SolveRight m w net o (logged n (Solve o v c) (Refused p.1) (sizes_of before) after)) lent (inr record { answer = ap Refused reason; reached = declined.circuit });
            },
            kept,
          ),
          record {
            at = out.at;
            holds = declined.holds;
          },
          inl (subst (λ b. HeldRows m n (cond b (record { width = o.k; source = o.source; at = λ j. [] }) (rows log)) after.values after.counts) (sym by)
              (λ one. held_before m n o.k ys _ cs _ _ (cleared_held m n o.k ys cs cleared))),
        );
  }

  pub refused_taken : (p : Draft × Refusal) → SolveDone m d o (take v' values) (take c' counts) (Err p) ys cs
      → ((net : Net V) → DraftHolds m net d arcs lengths → SolveMeant m net o.k o.source (verdict net.nodes) (Err p) arcs lengths ys cs)
      → Taken m (Drafting d) before (Solve o v c) (Refused p.1) (Drafting p.0) after
  refused_taken p done meant =
      refused_by (verdict d.nodes) p refl done.given (λ net h. subst (λ i. SolveMeant m net o.k o.source (verdict i) (Err p) arcs lengths ys cs) (sym h.nodes) (meant net h))

-- A draft and its tables hold the network that its calls build.
use Rattle.std.proofs.Common.{◌≡◌, ℕ, zero, suc, ◌+◌, ◌-◌, ◌^◌, ◌<◌, ◌≤◌, min, Bool, List, [], ◌∷◌, ◌++◌, length, get_or, take, set, Ok, Err, Result, sym, refl, ap, ◌∙◌, subst, arith, length-append, length-set, get_or-take}
use lib.Seq.{take-set-lt}
use Rattle.std.proofs.lemmas.List.{take_more_set}
use Rattle.measure.specs.Algebra.{Algebra}
use Rattle.sweeps.specs.declared.Arc.{Arc}
use Rattle.sweeps.specs.declared.refusal.Refusal.{Refusal}
use Rattle.sweeps.specs.Tables.{no_arc, arc_at}
use Rattle.session.specs.declared.stages.Draft.{Draft}
use Rattle.session.specs.Nets.{Net, new_arc, marked, add_arc, relength_arc}
use Rattle.session.specs.Drafts.{DraftHolds, MarkDone, with_mark}
use Rattle.session.proofs.Ordered.{added, remarked, last_remarked, relengthed, last_added}

module _ {V : Type 0} (m : Algebra V) where
  -- an arc that a put takes
  pub put_holds : (net : Net V) (d : Draft) (arcs : List Arc) (lengths : List V) (start end : ℕ) (x : V) (d' : Draft) → DraftHolds m net d arcs lengths
      → 1 ≤ start → start ≤ d.nodes → 1 ≤ end → end ≤ d.nodes → ¬ (start ≡ end) → d.last ≤ end → m.magnitude x ≤ 10 ^ 9 → d.count < length arcs → d.count < length lengths
      → d'.nodes ≡ d.nodes → d'.count ≡ d.count + 1 → d'.last ≡ end → DraftHolds m (add_arc net start end x) d' (set arcs d.count (new_arc start end)) (set lengths d.count x)
  put_holds net d arcs lengths start end x d' h start_low start_high end_low end_high apart above small arc_room length_room nodes more last =
      let n = h.nodes in
      let c = h.count in
      let b = h.beside in
      let la = length-set arcs d.count (new_arc start end) in
      let ll = length-set lengths d.count x in
      record {
        nodes = nodes ∙ n;
        count = omega (arith, length-append net.arcs (new_arc start end ∷ []));
        beside = omega (arith, length-append net.arcs (new_arc start end ∷ []), length-append net.lengths (x ∷ []));
        arc_room = omega arith;
        length_room = omega arith;
        in_arcs = ap (λ k. take k (set arcs d.count (new_arc start end))) more ∙ take_more_set arcs d.count (new_arc start end) arc_room ∙ ap (λ t. t ++ new_arc start end ∷ []) h.in_arcs;
        in_lengths = ap (λ k. take k (set lengths d.count x)) more ∙ take_more_set lengths d.count x length_room ∙ ap (λ t. t ++ x ∷ []) h.in_lengths;
        last = last ∙ sym (last_added m net b h.ordered start end x);
        ordered =
            let l = h.last in
            added m net b h.ordered start end x start_low (omega arith) end_low (omega arith) apart (omega arith) small;
      }

  pub relength_holds : (net : Net V) (d : Draft) (arcs : List Arc) (lengths : List V) (a : ℕ) (x : V) → 1 ≤ a → a ≤ d.count → m.magnitude x ≤ 10 ^ 9
      → DraftHolds m net d arcs lengths → DraftHolds m (relength_arc net a x) d arcs (set lengths (a - 1) x)
  relength_holds net d arcs lengths a x low high small h =
      let c = h.count in
      let room = h.length_room in
      record {
        nodes = h.nodes;
        count = c;
        beside = length-set net.lengths (a - 1) x ∙ h.beside;
        arc_room = h.arc_room;
        length_room = omega (arith, length-set lengths (a - 1) x);
        in_arcs = h.in_arcs;
        in_lengths = take-set-lt d.count lengths (a - 1) x (omega arith) ∙ ap (λ t. set t (a - 1) x) h.in_lengths;
        last = h.last;
        ordered = relengthed m net h.beside h.ordered a x low small;
      }

  -- the parts of the tables up to the draft's count are the network's arcs and lengths
  pub parts_held : (net : Net V) (d : Draft) (arcs a : List Arc) (lengths l : List V) → DraftHolds m net d arcs lengths
      → (a ≡ take (min (min d.count (length arcs)) (length lengths)) arcs) × (l ≡ take (min (min d.count (length arcs)) (length lengths)) lengths) → (a ≡ net.arcs) × (l ≡ net.lengths)
  parts_held net d arcs a lengths l h parts =
      let arc_room = h.arc_room in
      let length_room = h.length_room in
      let most : min (min d.count (length arcs)) (length lengths) ≡ d.count = omega arith in
      (parts.0 ∙ ap (λ k. take k arcs) most ∙ h.in_arcs, parts.1 ∙ ap (λ k. take k lengths) most ∙ h.in_lengths)

  -- a record of the table is that of the network
  pub arc_held : (net : Net V) (d : Draft) (arcs : List Arc) (lengths : List V) → DraftHolds m net d arcs lengths → (a : ℕ) → a ≤ d.count → arc_at arcs a ≡ arc_at net.arcs a
  arc_held net d arcs lengths h zero le = refl
  arc_held net d arcs lengths h (suc a) le = sym (get_or-take d.count arcs a no_arc (omega arith)) ∙ ap (λ t. get_or t a no_arc) h.in_arcs

  pub mark_holds : (net : Net V) (d : Draft) (arcs : List Arc) (lengths : List V) (a : ℕ) (b : Bool) (r : Result (Unit {0}) Refusal) (arcs' : List Arc)
      → DraftHolds m net d arcs lengths → MarkDone d arcs a b r arcs' → DraftHolds m (with_mark m net a b r) d arcs' lengths
  mark_holds net d arcs lengths a b (Err why) arcs' h done = subst (λ t. DraftHolds m net d t lengths) (sym done.written) h
  mark_holds net d arcs lengths a b (Ok u) arcs' h done =
      let w = done.written in
      let c = h.count in
      let low = w.0 in
      let high = w.1 in
      let room = h.arc_room in
      let here : arcs' ≡ set arcs (a - 1) (marked b (arc_at net.arcs a)) = w.2 ∙ ap (λ v. set arcs (a - 1) (marked b v)) (arc_held net d arcs lengths h a high) in
      record {
        nodes = h.nodes;
        count = c ∙ sym (length-set net.arcs (a - 1) (marked b (arc_at net.arcs a)));
        beside = h.beside ∙ sym (length-set net.arcs (a - 1) (marked b (arc_at net.arcs a)));
        arc_room = let l = ap length here ∙ length-set arcs (a - 1) (marked b (arc_at net.arcs a)) in omega arith;
        length_room = h.length_room;
        in_arcs = ap (take d.count) here ∙ take-set-lt d.count arcs (a - 1) (marked b (arc_at net.arcs a)) (omega arith) ∙ ap (λ t. set t (a - 1) (marked b (arc_at net.arcs a))) h.in_arcs;
        in_lengths = h.in_lengths;
        last = h.last ∙ sym (last_remarked m net h.beside h.ordered a b low (omega arith));
        ordered = remarked m net h.beside h.ordered a b low (omega arith);
      }

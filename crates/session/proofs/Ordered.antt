-- Arcs stay in order when one is added, marked or given another length.
use Rattle.std.proofs.Common.{◌≡◌, ℕ, zero, suc, ◌+◌, ◌-◌, ◌^◌, ◌<◌, ◌≤◌, min, Bool, List, [], ◌∷◌, ◌++◌, length, get_or, set, sym, refl, ap, ◌∙◌, subst, arith, length-append, length-set, get_or-set_other, get_or-set_same}
use native.Mathlib.Decide.{dec_lt, ℕ_discrete}
use Rattle.std.proofs.lemmas.List.{get_or_append_left, get_or-append_right}
use Rattle.measure.specs.Algebra.{Algebra}
use Rattle.walks.specs.Networks.{ProperArc}
use Rattle.sweeps.specs.declared.Arc.{Arc}
use Rattle.sweeps.specs.Tables.{no_arc, arc_at, length_at, network, InOrder}
use Rattle.session.specs.Nets.{Net, new_arc, marked, last_end, add_arc, mark_arc, relength_arc, listed}

module _ {V : Type 0} (m : Algebra V) where
  -- an arc with the same ends, whose length is not too long, is as proper
  pub proper_as : (n : ℕ) (arcs arcs' : List Arc) (lengths lengths' : List V) (a : ℕ) → (arc_at arcs' a).start ≡ (arc_at arcs a).start → (arc_at arcs' a).end ≡ (arc_at arcs a).end
      → m.magnitude (length_at m lengths' a) ≤ 10 ^ 9 → ProperArc m (network m n arcs lengths) a → ProperArc m (network m n arcs' lengths') a
  proper_as n arcs arcs' lengths lengths' a s e small p =
      let sl = p.start_low in
      let sh = p.start_high in
      let el = p.end_low in
      let eh = p.end_high in
      record { start_low = omega arith; start_high = omega arith; end_low = omega arith; end_high = omega arith; apart = λ z. p.apart (sym s ∙ z ∙ e); small = small }

  arc_kept : (arcs more : List Arc) (a : ℕ) → a ≤ length arcs → arc_at (arcs ++ more) a ≡ arc_at arcs a
  arc_kept arcs more zero h = refl
  arc_kept arcs more (suc a) h = get_or_append_left arcs more no_arc a (omega arith)

  length_kept : (lengths more : List V) (a : ℕ) → a ≤ length lengths → length_at m (lengths ++ more) a ≡ length_at m lengths a
  length_kept lengths more zero h = refl
  length_kept lengths more (suc a) h = get_or_append_left lengths more m.null a (omega arith)

  arc_new : (arcs : List Arc) (x : Arc) (a : ℕ) → a ≡ length arcs + 1 → arc_at (arcs ++ x ∷ []) a ≡ x
  arc_new arcs x zero h = absurd (omega arith)
  arc_new arcs x (suc a) h = get_or-append_right arcs (x ∷ []) (length arcs) a no_arc refl (omega arith) ∙ ap (λ i. get_or (x ∷ []) i no_arc) (let z : a - length arcs ≡ 0 = omega arith in z)

  length_new : (lengths : List V) (x : V) (a : ℕ) → a ≡ length lengths + 1 → length_at m (lengths ++ x ∷ []) a ≡ x
  length_new lengths x zero h = absurd (omega arith)
  length_new lengths x (suc a) h = get_or-append_right lengths (x ∷ []) (length lengths) a m.null refl (omega arith) ∙ ap (λ i. get_or (x ∷ []) i m.null) (let z : a - length lengths ≡ 0 = omega arith in z)

  module _ (net : Net V) (beside : length net.lengths ≡ length net.arcs) (ordered : InOrder m (listed m net)) where
    -- an arc between two nodes, not too long, that does not end below the last
    pub added : (start end : ℕ) (x : V) → 1 ≤ start → start ≤ net.nodes → 1 ≤ end → end ≤ net.nodes → ¬ (start ≡ end) → last_end net.arcs ≤ end → m.magnitude x ≤ 10 ^ 9 → InOrder m (listed m (add_arc net start end x))
    added start end x sl sh el eh apart above small = record { proper = proper; sorted = sorted }
      where
        new : Net V
        new = add_arc net start end x

        many : min (length (net.arcs ++ new_arc start end ∷ [])) (length (net.lengths ++ x ∷ [])) ≡ length net.arcs + 1
        many = let p = length-append net.arcs (new_arc start end ∷ []) in let q = length-append net.lengths (x ∷ []) in omega arith

        old : (a : ℕ) → a ≤ length net.arcs → arc_at (net.arcs ++ new_arc start end ∷ []) a ≡ arc_at net.arcs a
        old a h = arc_kept net.arcs (new_arc start end ∷ []) a h

        fresh : (a : ℕ) → a ≡ length net.arcs + 1 → arc_at (net.arcs ++ new_arc start end ∷ []) a ≡ new_arc start end
        fresh a h = arc_new net.arcs (new_arc start end) a h

        here : (a : ℕ) → a ≡ length net.arcs + 1 → ProperArc m (listed m new) a
        here a h =
            let s = ap (λ (r : Arc). r.start) (fresh a h) in
            let e = ap (λ (r : Arc). r.end) (fresh a h) in
            record {
              start_low = omega arith;
              start_high = omega arith;
              end_low = omega arith;
              end_high = omega arith;
              apart = λ z. apart (sym s ∙ z ∙ e);
              small = subst (λ v. m.magnitude v ≤ 10 ^ 9) (sym (length_new net.lengths x a (omega arith))) small;
            }

        proper : (a : ℕ) → 1 ≤ a → a ≤ (listed m new).arcs → ProperArc m (listed m new) a
        proper a low high = go (dec_lt (length net.arcs) a)
          where
            go : Dec (length net.arcs < a) → ProperArc m (listed m new) a
            go (yes l) = here a (omega (arith, many))
            go (no l) =
                let p = ordered.proper a low (omega arith) in
                proper_as net.nodes net.arcs _ net.lengths _ a (ap (λ (r : Arc). r.start) (old a (omega arith))) (ap (λ (r : Arc). r.end) (old a (omega arith)))
                (subst (λ v. m.magnitude v ≤ 10 ^ 9) (sym (length_kept net.lengths (x ∷ []) a (omega arith))) p.small) p

        -- the last arc ends highest
        top : (a : ℕ) → 1 ≤ a → a ≤ length net.arcs → (arc_at net.arcs a).end ≤ last_end net.arcs
        top a low high = ordered.sorted a (length net.arcs) low high (omega arith)

        sorted : (a b : ℕ) → 1 ≤ a → a ≤ b → b ≤ (listed m new).arcs → (listed m new).end a ≤ (listed m new).end b
        sorted a b low le high = go (dec_lt (length net.arcs) b) (dec_lt (length net.arcs) a)
          where
            go : Dec (length net.arcs < b) → Dec (length net.arcs < a) → (listed m new).end a ≤ (listed m new).end b
            go (no l) (yes k) = absurd (omega arith)
            go (no l) (no k) =
                let p = ordered.sorted a b low le (omega arith) in
                let q = ap (λ (r : Arc). r.end) (old a (omega arith)) in
                let r = ap (λ (r : Arc). r.end) (old b (omega arith)) in
                omega arith
            go (yes l) (yes k) =
                let q = ap (λ (r : Arc). r.end) (fresh a (omega (arith, many))) in
                let r = ap (λ (r : Arc). r.end) (fresh b (omega (arith, many))) in
                omega arith
            go (yes l) (no k) =
                let p = top a low (omega arith) in
                let q = ap (λ (r : Arc). r.end) (old a (omega arith)) in
                let r = ap (λ (r : Arc). r.end) (fresh b (omega (arith, many))) in
                omega arith

    -- the same ends and lengths not too long
    same_ends : (arcs' : List Arc) (lengths' : List V) → min (length arcs') (length lengths') ≡ length net.arcs → ((a : ℕ) → (arc_at arcs' a).start ≡ (arc_at net.arcs a).start) → ((a : ℕ) → (arc_at arcs' a).end ≡ (arc_at net.arcs a).end)
        → ((a : ℕ) → 1 ≤ a → a ≤ length net.arcs → m.magnitude (length_at m lengths' a) ≤ 10 ^ 9) → InOrder m (network m net.nodes arcs' lengths')
    same_ends arcs' lengths' many s e small = record {
      proper = λ a low high. proper_as net.nodes net.arcs arcs' net.lengths lengths' a (s a) (e a) (small a low (omega arith)) (ordered.proper a low (omega arith));
      sorted = λ a b low le high. let p = ordered.sorted a b low le (omega arith) in let q = e a in let r = e b in omega arith;
    }

    mark_keeps : {X : Type 0} (f : Arc → X) (b : Bool) → ((r : Arc) → f (marked b r) ≡ f r) → (a : ℕ) → 1 ≤ a → a ≤ length net.arcs → (i : ℕ) → f (arc_at (set net.arcs (a - 1) (marked b (arc_at net.arcs a))) i) ≡ f (arc_at net.arcs i)
    mark_keeps f b k zero low high i = absurd (omega arith)
    mark_keeps f b k (suc a) low high zero = refl
    mark_keeps f b k (suc a) low high (suc i) = go (ℕ_discrete i (suc a - 1))
      where
        is : suc a - 1 ≡ a
        is = omega arith

        go : Dec (i ≡ suc a - 1) → f (get_or (set net.arcs (suc a - 1) (marked b (get_or net.arcs a no_arc))) i no_arc) ≡ f (get_or net.arcs i no_arc)
        go (yes z) =
            ap (λ j. f (get_or (set net.arcs (suc a - 1) (marked b (get_or net.arcs a no_arc))) j no_arc)) z
            ∙ ap f (get_or-set_same net.arcs (suc a - 1) _ no_arc (omega arith)) ∙ k (get_or net.arcs a no_arc) ∙ ap (λ j. f (get_or net.arcs j no_arc)) (sym is ∙ sym z)
        go (no z) = ap f (get_or-set_other net.arcs (suc a - 1) i _ no_arc z)

    pub remarked : (a : ℕ) (b : Bool) → 1 ≤ a → a ≤ length net.arcs → InOrder m (listed m (mark_arc net a b))
    remarked a b low high =
        same_ends (mark_arc net a b).arcs net.lengths (omega (arith, length-set net.arcs (a - 1) (marked b (arc_at net.arcs a))))
        (mark_keeps (λ r. r.start) b (λ r. refl) a low high) (mark_keeps (λ r. r.end) b (λ r. refl) a low high)
        (λ i l h. (ordered.proper i l (omega arith)).small)

    pub last_remarked : (a : ℕ) (b : Bool) → 1 ≤ a → a ≤ length net.arcs → last_end (mark_arc net a b).arcs ≡ last_end net.arcs
    last_remarked a b low high =
        ap (λ n. (arc_at (mark_arc net a b).arcs n).end) (length-set net.arcs (a - 1) (marked b (arc_at net.arcs a))) ∙ mark_keeps (λ r. r.end) b (λ r. refl) a low high (length net.arcs)

    pub relengthed : (a : ℕ) (x : V) → 1 ≤ a → m.magnitude x ≤ 10 ^ 9 → InOrder m (listed m (relength_arc net a x))
    relengthed a x low small =
        same_ends net.arcs (set net.lengths (a - 1) x) (omega (arith, length-set net.lengths (a - 1) x)) (λ i. refl) (λ i. refl) light
      where
        light : (i : ℕ) → 1 ≤ i → i ≤ length net.arcs → m.magnitude (length_at m (set net.lengths (a - 1) x) i) ≤ 10 ^ 9
        light zero l h = absurd (omega arith)
        light (suc i) l h = go (ℕ_discrete i (a - 1))
          where
            go : Dec (i ≡ a - 1) → m.magnitude (get_or (set net.lengths (a - 1) x) i m.null) ≤ 10 ^ 9
            go (yes z) = subst (λ v. m.magnitude v ≤ 10 ^ 9) (sym (ap (λ j. get_or (set net.lengths (a - 1) x) j m.null) z ∙ get_or-set_same net.lengths (a - 1) x m.null (omega arith))) small
            go (no z) = subst (λ v. m.magnitude v ≤ 10 ^ 9) (sym (get_or-set_other net.lengths (a - 1) i x m.null z)) (ordered.proper (suc i) l (omega arith)).small

    pub last_added : (start end : ℕ) (x : V) → last_end (add_arc net start end x).arcs ≡ end
    last_added start end x = ap (λ (r : Arc). r.end) (arc_new net.arcs (new_arc start end) _ (length-append net.arcs (new_arc start end ∷ [])))

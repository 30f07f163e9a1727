-- The call next.
use Rattle.std.proofs.Common.{◌≡◌, ℕ, ◌+◌, ◌-◌, ◌*◌, ◌<◌, ◌≤◌, List, [], ◌∷◌, ◌++◌, reverse, length, get_or, take, drop, set, Some, None, Option, sym, refl, ap, ap₂, zero-add, ◌∙◌, subst, arith}
use Rattle.std.proofs.lemmas.List.{length-take-le, get_or-reverse, get_or-map, length-reverse, length-map, take_more, take_more_set, take_all}
use Rattle.std.proofs.lemmas.List.FromFn.{length-enumerate_from, get_or-enumerate_from}
use Rattle.std.specs.List.{enumerate_from}
use Rattle.measure.specs.Algebra.{Algebra, Laws}
use Rattle.walks.specs.Rows.{Table}
use Rattle.walks.specs.Paths.{PathTo, Since, Next}
use Rattle.tracing.specs.declared.Step.{Step}
use Rattle.tracing.specs.declared.Handed.{Handed}
use Rattle.tracing.specs.declared.Cursor.{Cursor}
use Rattle.tracing.specs.Tables.{Tables}
use Rattle.tracing.specs.Labels.{label, Held, val}
use Rattle.tracing.specs.Steps.{arcs_of}
use Rattle.tracing.specs.Nexts.{net_of, Written, Advanced}
use Rattle.tracing.specs.Standing.{newest, Standing, Hands, Ends, Nexted}
use Rattle.tracing.proofs.Meaning.{path_of, few_arcs}
use Rattle.tracing.proofs.Advancing.{whole}

-- a step's arc, from the last step on
reverse_arc : (steps : List Step) (i : ℕ) (t : Step) → i < length steps → (get_or (reverse steps) i t).arc ≡ get_or (reverse (arcs_of steps)) i 0
reverse_arc steps i t l =
    let e = length-map steps (λ (u : Step). u.arc) in
    ap (λ (u : Step). u.arc) (get_or-reverse steps i t l)
    ∙ sym (get_or-reverse (arcs_of steps) i 0 (omega arith) ∙ ap (λ n. get_or (arcs_of steps) (n - 1 - i) 0) e ∙ get_or-map (λ (u : Step). u.arc) steps (length steps - 1 - i) t 0 (omega arith))

-- one cell more is written, by the next of the steps in reverse
pub written_more : (steps : List Step) (path : List ℕ) (n i : ℕ) (t : Step) → length steps ≤ length path → (n < length (enumerate_from 0 (reverse steps))) × ((i, t) ≡ get_or (enumerate_from 0 (reverse steps)) n (i, t))
    → take n path ≡ take n (reverse (arcs_of steps)) → (i < length steps) × (take (n + 1) (set path i t.arc) ≡ take (n + 1) (reverse (arcs_of steps)))
written_more steps path n i t size turn so_far =
    let long = length-reverse steps in
    let short = length-reverse (arcs_of steps) ∙ length-map steps (λ (u : Step). u.arc) in
    let l : n < length steps = omega (arith, turn.0, length-enumerate_from 0 (reverse steps)) in
    let is = turn.1 ∙ get_or-enumerate_from 0 (reverse steps) n (i, t) (omega arith) in
    let here : i ≡ n = ap (λ (p : ℕ × Step). p.0) is ∙ zero-add n in (
      omega arith,
      ap (λ k. take (n + 1) (set path k t.arc)) here ∙ take_more_set path n t.arc (omega arith)
          ∙ ap₂ (λ xs a. xs ++ (a ∷ [])) so_far (ap (λ (p : ℕ × Step). p.1.arc) is ∙ reverse_arc steps n t l) ∙ sym (take_more (reverse (arcs_of steps)) n 0 (omega arith)),
    )

pub written_all : (steps : List Step) (path : List ℕ) (n : ℕ) → n ≡ length (enumerate_from 0 (reverse steps)) → take n path ≡ take n (reverse (arcs_of steps)) → take (length steps) path ≡ reverse (arcs_of steps)
written_all steps path n all so_far =
    let short = length-reverse (arcs_of steps) ∙ length-map steps (λ (u : Step). u.arc) in
    subst (λ k. take k path ≡ take k (reverse (arcs_of steps))) (all ∙ length-enumerate_from 0 (reverse steps) ∙ length-reverse steps) so_far ∙ take_all (length steps) (reverse (arcs_of steps)) (omega arith)

module _ {V : Type 0} {m : Algebra V} (laws : Laws m) (T T' : Tables V) (c : Cursor) (work work' : List Step) (path : List ℕ) (same : T ≡ T') (size : length work' ≡ length work) where
  ends : ((t : Table V) (handed : List (List ℕ)) → Standing m T t handed c work → T.nodes * T.k ≤ length path → Ends m T t handed c.target c work') → (r : Option (ℕ × V)) → r ≡ None → Nexted m T' c work path c work' path r
  ends meant r e =
      subst (Nexted m T' c work path c work' path) (sym e) (subst (λ T. Nexted m T c work path c work' path None) same (record { target = refl; work_size = size; path_size = refl; frame = (refl, refl); meant = meant }))

  -- no path is left
  pub next_none : Advanced m T c.target c.last work work' None → (r : Option (ℕ × V)) → r ≡ None → Nexted m T' c work path c work' path r
  next_none adv = ends (λ t handed st room.
      let o = adv t st.tracing in
      record {
        none = subst (λ last. (u : List ℕ) → PathTo m (net_of m T) T.source t c.target u → ¬ Since m (net_of m T) T.source t last u) (sym st.last) o.none;
        stands = subst (Standing m T t handed c) (sym o.same) st;
      })

  module _ (h : Handed) (adv : Advanced m T c.target c.last work work' (Some h)) where
    found_few : (t : Table V) (handed : List (List ℕ)) → Standing m T t handed c work → h.depth < T.nodes * T.k
    found_few t handed st =
        let f = adv.1 t st.tracing in
        let few = few_arcs laws T t st.tracing.settled (label c.target h.place) (arcs_of (take h.depth work')) (whole laws T (label c.target h.place) (take h.depth work') f.begun.2) in
        omega (arith, few, length-map (take h.depth work') (λ (t : Step). t.arc), length-take-le h.depth work' adv.0)

    -- in a settled session's tables a path is not longer than the path table, and has a length
    pub next_long : length path < h.depth → (r : Option (ℕ × V)) → r ≡ None → Nexted m T' c work path c work' path r
    next_long l = ends (λ t handed st room. absurd (omega (arith, found_few t handed st)))

    pub next_lost : ¬ Held T c.target h.place → (r : Option (ℕ × V)) → r ≡ None → Nexted m T' c work path c work' path r
    next_lost out = ends (λ t handed st room. absurd (out (adv.1 t st.tracing).begun.1))

    pub next_some : (x : V) (path' : List ℕ) → x ≡ val m T c.target h.place → h.depth ≤ length path → length path' ≡ length path → Written (take h.depth work') path path'
        → Nexted m T' c work path (record { target = c.target; last = Some h }) work' path' (Some (h.depth, x))
    next_some x path' e fits long w =
        subst (λ T. Nexted m T c work path (record { target = c.target; last = Some h }) work' path' (Some (h.depth, x))) same
        (record { target = refl; work_size = size; path_size = long; frame = (fits, subst (λ n. drop n path' ≡ drop n path) count w.past); meant = hands })
      where
        count : length (take h.depth work') ≡ h.depth
        count = length-take-le h.depth work' adv.0

        hands : (t : Table V) (handed : List (List ℕ)) → Standing m T t handed c work → T.nodes * T.k ≤ length path → Hands m T t handed c.target (record { target = c.target; last = Some h }) work' path' h.depth x
        hands t handed st room =
            let f = adv.1 t st.tracing in
            let s = st.tracing in
            let r = path_of laws T t s.settled c.target h.place (arcs_of (take h.depth work')) (whole laws T (label c.target h.place) (take h.depth work') f.begun.2) in
            let next : Next m (net_of m T) T.source t c.target (newest handed) (arcs_of (take h.depth work')) = subst (λ last. Next m (net_of m T) T.source t c.target last (arcs_of (take h.depth work'))) (sym st.last) f.next in
            record {
              walk = arcs_of (take h.depth work');
              next = next;
              arcs_count = sym (length-map (take h.depth work') (λ (t : Step). t.arc) ∙ count);
              is_length = e ∙ sym r.1;
              written = ap (λ n. take n path') (sym count) ∙ w.cells;
              stands = record {
                tracing = record { settled = s.settled; low = s.low; high = s.high; room = omega (arith, s.room); at = f.begun };
                handed_out = (next, st.handed_out);
                last = refl;
              };
            }

-- What working on one node after another keeps.
use Rattle.std.proofs.Common.{◌≡◌, ℕ, ◌+◌, ◌-◌, ◌^◌, ◌≤◌, Bool, true, false, ◌⊎◌, List, length, get_or, take, drop, set, replicate, sym, refl, ap, ◌∙◌, subst, inl, inr, arith, length-set}
use Rattle.std.proofs.lemmas.List.{get_or-set_same, get_or-set_other, drop-drop, drop-replicate}
use Rattle.std.proofs.lemmas.Bool.{cases_eq}
use Rattle.measure.specs.Algebra.{Algebra, Laws}
use Rattle.walks.specs.Networks.{Network, WellFormed}
use Rattle.walks.specs.Rows.{Table, Ascending}
use Rattle.walks.specs.Method.{put, gather, work}
use Rattle.walks.proofs.Method.{put_here, put_there}
use Rattle.sweeps.specs.Tables.{cells, row_of}
use Rattle.sweeps.specs.Nodes.{Marked, Shape, RowIs, node_row, NodeWorked}
use Rattle.sweeps.specs.Passes.{RowsFill, Ready, Gone, Tells}
use Rattle.sweeps.proofs.Noding.{other_cells}
use Rattle.sweeps.proofs.Bridge.{Since, since_tells, node_goes, work_ready}

module _ {V : Type 0} (m : Algebra V) (n k j : ℕ) (v v' : List V) (counts counts' : List ℕ) (row : Marked V) (count : ℕ) (changed : Bool) (shape : Shape n k (length v) counts) (one : 1 ≤ j) (le : j ≤ n)
    (is : RowIs m k j v (get_or counts (j - 1) 0) row v' count changed) (written : counts' ≡ set counts (j - 1) count) where
  count_here : get_or counts' (j - 1) 0 ≡ count
  count_here = ap (λ z. get_or z (j - 1) 0) written ∙ get_or-set_same counts (j - 1) count 0 (omega (arith, shape.nodes))

  count_there : (i : ℕ) → (i ≡ j - 1 → ⊥) → get_or counts' i 0 ≡ get_or counts i 0
  count_there i ne = ap (λ z. get_or z i 0) written ∙ get_or-set_other counts (j - 1) i count 0 ne

  pub shape_kept : Shape n k (length v') counts'
  shape_kept = record {
    rows = is.size ∙ shape.rows;
    nodes = ap length written ∙ length-set counts (j - 1) count ∙ shape.nodes;
    full = λ i. elim (cases_eq i (j - 1)) [
      | inl e ↦ omega (arith, ap (λ z. get_or counts' z 0) e, count_here, is.bound)
      | inr ne ↦ omega (arith, count_there i ne, shape.full i)
    ];
  }

  rows_kept : Ascending m (row_of k j v counts) → (t : Table V) (new : List V) → row.0 ≡ new → RowsFill m n k v counts t → RowsFill m n k v' counts' (put t j new)
  rows_kept up t new e h = record {
    shape = shape_kept;
    at = λ i first last. elim (cases_eq i j) [
      | inl same ↦ ap (λ z. row_of k z v' counts') same ∙ ap (λ z. take z (cells k j v')) count_here ∙ ap (λ (z : Marked V). z.0) (is.lengths up) ∙ e ∙ sym (ap (put t j new) same ∙ put_here t j new)
      | inr ne ↦
          ap (λ z. take z (cells k i v')) (count_there (i - 1) (omega arith))
          ∙ ap (λ z. take (get_or counts (i - 1) 0) z) (other_cells k i j v v' first one ne is.before is.after)
          ∙ h.at i first last
          ∙ sym (put_there t j new i ne)
    ];
    rest = λ i first last. elim (cases_eq i j) [
      | inl same ↦ subst (λ z. drop (get_or counts' (z - 1) 0) (cells k z v') ≡ replicate (k - get_or counts' (z - 1) 0) m.null) (sym same) rest_here
      | inr ne ↦
          ap (λ z. drop z (cells k i v')) (count_there (i - 1) (omega arith))
          ∙ ap (λ z. drop (get_or counts (i - 1) 0) z) (other_cells k i j v v' first one ne is.before is.after)
          ∙ h.rest i first last
          ∙ ap (λ z. replicate (k - z) m.null) (sym (count_there (i - 1) (omega arith)))
    ];
  }
    where
      rest_here : drop (get_or counts' (j - 1) 0) (cells k j v') ≡ replicate (k - get_or counts' (j - 1) 0) m.null
      rest_here =
          let c : ℕ = get_or counts (j - 1) 0 in
          let e : c + (count - c) ≡ count = omega (arith, is.grows) in
          let f : k - c - (count - c) ≡ k - count = omega (arith, is.grows) in
          ap (λ z. drop z (cells k j v')) count_here
          ∙ is.rest
          ∙ ap (λ z. drop z (cells k j v)) (sym e)
          ∙ sym (drop-drop (count - c) c (cells k j v))
          ∙ ap (drop (count - c)) (h.rest j one le)
          ∙ drop-replicate (count - c) (k - c) m.null
          ∙ ap (λ z. replicate z m.null) (f ∙ ap (λ z. k - z) (sym count_here))

module _ {V : Type 0} (n : ℕ) (t t' : Table V) where
  -- t' is t, or differs at a node that has been worked on
  abbrev pub Turned : (ℕ → Type 0) → Bool → Type 0
  Turned Ahead false = (i : ℕ) → t' i ≡ t i
  Turned Ahead true = (i : ℕ) × (Ahead i → ⊥) × (1 ≤ i) × (i ≤ n) × (t' i ≡ t i → ⊥)

  turned_tells : (Ahead : ℕ → Type 0) (b : Bool) → Turned Ahead b → Tells b ((j : ℕ) → 1 ≤ j → j ≤ n → t' j ≡ t j)
  turned_tells Ahead false h = λ j one le. h j
  turned_tells Ahead true h = λ same. h.4 (same h.0 h.2 h.3)

module _ {V : Type 0} (m : Algebra V) (net : Network V) (k : ℕ) (t : Table V) where
  -- part of a pass: the nodes Ahead are still to be worked on
  pub record Going (b : ℕ) (Ahead : ℕ → Type 0) (v : List V) (c : List ℕ) (changed : Bool) (t' : Table V) : Type 0 where
    pub are : RowsFill m net.nodes k v c t'
    pub ready : Ready m k b t'
    pub same : (i : ℕ) → Ahead i → t' i ≡ t i
    pub turned : Turned net.nodes t t' Ahead changed

  pub going_none : (b : ℕ) (Ahead : ℕ → Type 0) (v : List V) (c : List ℕ) → Ready m k b t → RowsFill m net.nodes k v c t → Going b Ahead v c false t
  going_none b Ahead v c ready are = record { are = are; ready = ready; same = λ i h. refl; turned = λ i. refl }

  pub going_gone : (b : ℕ) (Ahead : ℕ → Type 0) (v : List V) (c : List ℕ) (changed : Bool) (t' : Table V) → Going b Ahead v c changed t' → Gone m net.nodes k b t t' v c changed
  going_gone b Ahead v c changed t' h = record { are = h.are; ready = h.ready; tells = turned_tells net.nodes t t' Ahead changed h.turned }

  module _ (laws : Laws m) (s : ℕ) (down : Bool) (formed : WellFormed m net) (b : ℕ) (room : b + 1 ≤ 10 ^ 9) (Ahead Ahead' : ℕ → Type 0) (fewer : (i : ℕ) → Ahead' i → Ahead i)
      (j : ℕ) (ahead : Ahead j) (done : Ahead' j → ⊥) (one : 1 ≤ j) (le : j ≤ net.nodes) (v v' : List V) (c c' : List ℕ) (moved : Bool) (t' : Table V) where
    pub going_more : (changed changed' : Bool) → ((moved ≡ true) × (changed' ≡ true)) ⊎ ((moved ≡ false) × (changed' ≡ changed)) → Going b Ahead v c changed t' → NodeWorked m net k down j v c v' c' moved
        → Going (b + 1) Ahead' v' c' changed' (work m net k s down t' j)
    going_more changed changed' way h w =
        let e = node_goes laws net k s formed b room t' h.ready down j v c h.are one le net.arcs (omega arith) in
        record {
          are = rows_kept m net.nodes k j v v' c c' (node_row m net k down j v c net.arcs) w.count moved h.are.shape one le w.is w.held up_here t' (gather m net k s down t' j net.arcs) e.0 h.are;
          ready = work_ready laws net k s formed b room t' h.ready down j;
          same = λ i a. other i (λ z. done (subst Ahead' z a)) ∙ h.same i (fewer i a);
          turned = turn way (subst (Since laws k (t' j) (gather m net k s down t' j net.arcs)) (sym (ap (λ (z : Marked V). z.1) (w.is.lengths up_here))) e.1) h.turned;
        }
      where
        up_here : Ascending m (row_of k j v c)
        up_here = subst (Ascending m) (sym (h.are.at j one le)) (h.ready.up j)

        other : (i : ℕ) → (i ≡ j → ⊥) → work m net k s down t' j i ≡ t' i
        other i ne = put_there t' j (gather m net k s down t' j net.arcs) i ne

        here : work m net k s down t' j j ≡ gather m net k s down t' j net.arcs
        here = put_here t' j (gather m net k s down t' j net.arcs)

        still : (f : Bool) → (gather m net k s down t' j net.arcs ≡ t' j) → Turned net.nodes t t' Ahead f → Turned net.nodes t (work m net k s down t' j) Ahead' f
        still false e g = λ i. elim (cases_eq i j) [ inl z ↦ ap (work m net k s down t' j) z ∙ here ∙ e ∙ ap t' (sym z) ∙ g i | inr ne ↦ other i ne ∙ g i ]
        still true e g = (g.0, (λ a. g.1 (fewer g.0 a)), g.2, g.3, λ z. g.4 (sym (other g.0 (λ y. g.1 (subst Ahead (sym y) ahead))) ∙ z))

        turn : ((moved ≡ true) × (changed' ≡ true)) ⊎ ((moved ≡ false) × (changed' ≡ changed)) → Since laws k (t' j) (gather m net k s down t' j net.arcs) moved → Turned net.nodes t t' Ahead changed
            → Turned net.nodes t (work m net k s down t' j) Ahead' changed'
        turn (inl p) since g =
            let apart = since_tells laws k (t' j) (gather m net k s down t' j net.arcs) (subst (Since laws k (t' j) (gather m net k s down t' j net.arcs)) p.0 since) in
            subst (Turned net.nodes t (work m net k s down t' j) Ahead') (sym p.1) (j, done, one, le, λ z. apart (sym here ∙ z ∙ sym (h.same j ahead)))
        turn (inr p) since g =
            subst (Turned net.nodes t (work m net k s down t' j) Ahead') (sym p.1) (still changed (subst (Since laws k (t' j) (gather m net k s down t' j net.arcs)) p.0 since) g)

-- What the loops of the passes keep.
use Rattle.std.proofs.Common.{◌≡◌, ℕ, suc, ◌+◌, ◌-◌, ◌^◌, ◌<◌, ◌≤◌, Bool, true, false, cond, ◌||◌, ◌⊎◌, List, length, sym, refl, ap, ◌∙◌, subst, inl, inr, arith}
use Rattle.measure.specs.Algebra.{Algebra, Laws}
use Rattle.walks.specs.Networks.{Network, WellFormed}
use Rattle.walks.specs.Rows.{Table}
use Rattle.walks.specs.Method.{work, sweep_down, sweep_up}
use Rattle.sweeps.specs.Nodes.{Shape, NodeWorked}
use Rattle.sweeps.specs.Passes.{RowsFill, Ready, Gone, Passed}
use Rattle.sweeps.proofs.Placing.{or_true, or_false}
use Rattle.sweeps.proofs.Passing.{Going, going_none, going_more, going_gone, shape_kept}

module _ {V : Type 0} (m : Algebra V) (net : Network V) (k : ℕ) where
  pub record DownTo (t : Table V) (b s : ℕ) (v : List V) (c : List ℕ) (changed : Bool) (j : ℕ) : Type 0 where
    pub table : Table V
    pub left : sweep_down m net k s j table ≡ sweep_down m net k s net.nodes t
    pub going : Going m net k t (b + (net.nodes - j)) (λ i. i ≤ j) v c changed table

  pub record UpTo (t : Table V) (b s : ℕ) (v : List V) (c : List ℕ) (changed : Bool) (j : ℕ) : Type 0 where
    pub table : Table V
    pub made : table ≡ sweep_up m net k s (j - 1) t
    pub going : Going m net k t (b + (j - 1)) (λ i. j ≤ i) v c changed table

  -- all but the last line of what a pass promises, with At for where it has come
  pub record Part (At : Table V → ℕ → ℕ → List V → List ℕ → Bool → Type 0) (v0 : List V) (c0 : List ℕ) (v : List V) (c : List ℕ) (changed : Bool) : Type 0 where
    pub shape : Shape net.nodes k (length v) c
    pub goes : (t : Table V) (b s : ℕ) → b + net.nodes ≤ 10 ^ 9 → Ready m k b t → RowsFill m net.nodes k v0 c0 t → At t b s v c changed

  abbrev pub Down : List V → List ℕ → List V → List ℕ → Bool → ℕ → Type 0
  Down v0 c0 v c changed j = Part (λ t b s v' c' f. DownTo t b s v' c' f j) v0 c0 v c changed

  abbrev pub Up : List V → List ℕ → List V → List ℕ → Bool → ℕ → Type 0
  Up v0 c0 v c changed j = Part (λ t b s v' c' f. UpTo t b s v' c' f j) v0 c0 v c changed

  -- where a pass has come after i nodes
  abbrev pub Turns : Bool → List V → List ℕ → List V → List ℕ → Bool → ℕ → Type 0
  Turns true v0 c0 v c changed i = Down v0 c0 v c changed (net.nodes - i)
  Turns false v0 c0 v c changed i = Up v0 c0 v c changed (i + 1)

  abbrev pub Marks : Bool → Bool → Bool → Type 0
  Marks moved changed changed' = ((moved ≡ true) × (changed' ≡ true)) ⊎ ((moved ≡ false) × (changed' ≡ changed))

  marks : (moved changed : Bool) → Marks moved changed (changed || moved)
  marks true changed = inl (refl, or_true changed)
  marks false changed = inr (refl, or_false changed)

  module _ (laws : Laws m) (formed : WellFormed m net) (v0 : List V) (c0 : List ℕ) where
    pub down_none : Shape net.nodes k (length v0) c0 → Down v0 c0 v0 c0 false net.nodes
    down_none shape = record {
      shape = shape;
      goes = λ t b s room ready are. record { table = t; left = refl; going = going_none m net k t (b + (net.nodes - net.nodes)) (λ i. i ≤ net.nodes) v0 c0 (subst (λ z. Ready m k z t) (omega arith) ready) are };
    }

    pub down_more : (v v' : List V) (c c' : List ℕ) (moved changed changed' : Bool) (j j' : ℕ) → j ≡ suc j' → j ≤ net.nodes → Marks moved changed changed' → Down v0 c0 v c changed j → NodeWorked m net k true j v c v' c' moved → Down v0 c0 v' c' changed' j'
    down_more v v' c c' moved changed changed' j j' e le way h w = record {
      shape = shape_kept m net.nodes k j v v' c c' _ w.count moved h.shape (omega arith) le w.is w.held;
      goes = λ t b s room ready are.
          let d = h.goes t b s room ready are in
          record {
            table = work m net k s true d.table j;
            left = ap (λ z. sweep_down m net k s j' (work m net k s true d.table z)) e ∙ ap (λ z. sweep_down m net k s z d.table) (sym e) ∙ d.left;
            going = subst (λ z. Going m net k t z (λ i. i ≤ j') v' c' changed' (work m net k s true d.table j)) (omega arith)
                (going_more m net k t laws s true formed (b + (net.nodes - j)) (omega arith) (λ i. i ≤ j) (λ i. i ≤ j') (λ i a. omega arith) j (omega arith) (λ a. omega arith) (omega arith) le v v' c c' moved d.table changed changed' way d.going w);
          };
    }

    pub down_all : (v : List V) (c : List ℕ) (changed : Bool) (j : ℕ) → j ≡ 0 → Down v0 c0 v c changed j → Passed m net k true v0 c0 v c changed
    down_all v c changed j e h = record {
      shape = h.shape;
      goes = λ t b s room ready are.
          let d = h.goes t b s room ready are in
          let is : d.table ≡ sweep_down m net k s net.nodes t = ap (λ z. sweep_down m net k s z d.table) (sym e) ∙ d.left in
          subst (λ z. Gone m net.nodes k (b + net.nodes) t z v c changed) is
          (going_gone m net k t (b + net.nodes) (λ i. i ≤ j) v c changed d.table (subst (λ z. Going m net k t z (λ i. i ≤ j) v c changed d.table) (omega arith) d.going));
    }

    pub up_none : (j : ℕ) → j ≡ 1 → Shape net.nodes k (length v0) c0 → Up v0 c0 v0 c0 false j
    up_none j e shape = record {
      shape = shape;
      goes = λ t b s room ready are. record {
        table = t;
        made = ap (λ z. sweep_up m net k s z t) (let z : 0 ≡ j - 1 = omega arith in z);
        going = going_none m net k t (b + (j - 1)) (λ i. j ≤ i) v0 c0 (subst (λ z. Ready m k z t) (omega arith) ready) are;
      };
    }

    pub up_more : (v v' : List V) (c c' : List ℕ) (moved changed changed' : Bool) (j j' : ℕ) → j' ≡ j + 1 → 1 ≤ j → j ≤ net.nodes → Marks moved changed changed' → Up v0 c0 v c changed j → NodeWorked m net k false j v c v' c' moved → Up v0 c0 v' c' changed' j'
    up_more v v' c c' moved changed changed' j j' e one le way h w = record {
      shape = shape_kept m net.nodes k j v v' c c' _ w.count moved h.shape one le w.is w.held;
      goes = λ t b s room ready are.
          let d = h.goes t b s room ready are in
          let p : j ≡ suc (j - 1) = omega arith in
          let q : suc (j - 1) ≡ j' - 1 = omega arith in
          record {
            table = work m net k s false d.table j;
            made = ap (λ z. work m net k s false z j) d.made
                ∙ ap (λ z. work m net k s false (sweep_up m net k s (j - 1) t) z) p
                ∙ ap (λ z. sweep_up m net k s z t) q;
            going = subst (λ z. Going m net k t z (λ i. j' ≤ i) v' c' changed' (work m net k s false d.table j)) (omega arith)
                (going_more m net k t laws s false formed (b + (j - 1)) (omega arith) (λ i. j ≤ i) (λ i. j' ≤ i) (λ i a. omega arith) j (omega arith) (λ a. omega arith) one le v v' c c' moved d.table changed changed' way d.going w);
          };
    }

    pub up_all : (v : List V) (c : List ℕ) (changed : Bool) (j : ℕ) → j ≡ net.nodes + 1 → Up v0 c0 v c changed j → Passed m net k false v0 c0 v c changed
    up_all v c changed j e h = record {
      shape = h.shape;
      goes = λ t b s room ready are.
          let d = h.goes t b s room ready are in
          let is : d.table ≡ sweep_up m net k s net.nodes t = d.made ∙ ap (λ z. sweep_up m net k s z t) (let z : j - 1 ≡ net.nodes = omega arith in z) in
          subst (λ z. Gone m net.nodes k (b + net.nodes) t z v c changed) is
          (going_gone m net k t (b + net.nodes) (λ i. j ≤ i) v c changed d.table (subst (λ z. Going m net k t z (λ i. j ≤ i) v c changed d.table) (omega arith) d.going));
    }

    pub turns_more : (down : Bool) (v v' : List V) (c c' : List ℕ) (moved changed : Bool) (i j : ℕ) → j ≡ cond down (net.nodes - i) (i + 1) → i < net.nodes → Turns down v0 c0 v c changed i → NodeWorked m net k down j v c v' c' moved
        → Turns down v0 c0 v' c' (changed || moved) (i + 1)
    turns_more true v v' c c' moved changed i j is lt h w =
        down_more v v' c c' moved changed (changed || moved) (net.nodes - i) (net.nodes - (i + 1)) (omega arith) (omega arith) (marks moved changed) h
        (subst (λ z. NodeWorked m net k true z v c v' c' moved) is w)
    turns_more false v v' c c' moved changed i j is lt h w =
        up_more v v' c c' moved changed (changed || moved) (i + 1) (i + 1 + 1) refl (omega arith) (omega arith) (marks moved changed) h
        (subst (λ z. NodeWorked m net k false z v c v' c' moved) is w)

    pub turns_all : (down : Bool) (v : List V) (c : List ℕ) (changed : Bool) (i : ℕ) → i ≡ net.nodes → Turns down v0 c0 v c changed i → Passed m net k down v0 c0 v c changed
    turns_all true v c changed i e h = down_all v c changed (net.nodes - i) (omega arith) h
    turns_all false v c changed i e h = up_all v c changed (i + 1) (omega arith) h

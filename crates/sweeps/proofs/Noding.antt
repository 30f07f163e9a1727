-- What working on a node keeps from arc to arc.
use Rattle.std.proofs.Common.{◌≡◌, ℕ, zero, suc, ◌+◌, ◌-◌, ◌<◌, ◌≤◌, Bool, true, false, cond, ◌&&◌, eqb, min, List, length, get_or, take, drop, sym, refl, ap, ◌∙◌, subst, inl, inr, mul-le-mul_right, add-one, arith, length-take, length-drop}
use Rattle.std.proofs.lemmas.List.{get_or-take, get_or-drop, drop-take, take-take, drop-drop}
use Rattle.std.specs.List.{slice_range}
use Rattle.std.proofs.lemmas.Bool.{cases_eq, cases_lt, eq-eqb, ne_eqb, and_right}
use Rattle.measure.specs.Algebra.{Algebra, Laws}
use Rattle.walks.specs.Networks.{Network, WellFormed}
use Rattle.walks.specs.Rows.{Ascending}
use Rattle.walks.specs.Method.{takes, uses}
use Rattle.sweeps.specs.declared.Arc.{Arc}
use Rattle.sweeps.specs.Tables.{network, no_arc, InOrder, start_of, cells, count_of, row_of}
use Rattle.sweeps.specs.Nodes.{IsNode, Indexed, Known, Shape, TwoRows, Marked, worked, RowIs, ArcWorked, node_row}
use Rattle.sweeps.proofs.Working.{row_below, apart_cases, worked_up}

pub formed_of : {V : Type 0} (m : Algebra V) (net : Network V) → InOrder m net → WellFormed m net
formed_of m net order a o = order.proper a o.low o.high

pub two_rows : (n k size size' i j count : ℕ) (counts : List ℕ) → Shape n k size counts → size' ≡ size → 1 ≤ i → i ≤ n → 1 ≤ j → j ≤ n → ¬ (i ≡ j) → count ≤ k → TwoRows k i (count_of counts i) j count size'
two_rows n k size size' i j count counts shape same one le first last ne short =
    record {
      from_one = one;
      to_one = first;
      apart = ne;
      from_in = omega (arith, shape.rows, mul-le-mul_right k le);
      to_in = omega (arith, shape.rows, mul-le-mul_right k last);
      from_held = shape.full (i - 1);
      to_held = short;
    }

module _ {V : Type 0} where
  pub other_cells : (k i j : ℕ) (v v' : List V) → 1 ≤ i → 1 ≤ j → ¬ (i ≡ j)
      → take (start_of k j) v' ≡ take (start_of k j) v → drop (start_of k j + k) v' ≡ drop (start_of k j + k) v → cells k i v' ≡ cells k i v
  other_cells k i j v v' oi oj ne before after =
      let si : ℕ = start_of k i in
      let sj : ℕ = start_of k j in
      elim (apart_cases i j ne) [
        | inl l ↦
            let le : si + k ≤ sj = row_below k i j oi l in
            sym (drop-take si k v') ∙ ap (drop si) (sym (take-take (si + k) sj v' le) ∙ ap (take (si + k)) before ∙ take-take (si + k) sj v le) ∙ drop-take si k v
        | inr g ↦
            let le : sj + k ≤ si = row_below k j i oj g in
            let e : sj + k + (si - (sj + k)) ≡ si = omega arith in
            ap (take k) (ap (λ z. drop z v') (sym e) ∙ sym (drop-drop (si - (sj + k)) (sj + k) v') ∙ ap (drop (si - (sj + k))) after ∙ drop-drop (si - (sj + k)) (sj + k) v ∙ ap (λ z. drop z v) e)
      ]

module _ {V : Type 0} (net : Network V) (down : Bool) (j : ℕ) where
  pub uses_taken : (a : ℕ) → net.end a ≡ j → uses net down j a ≡ (net.is_open a && takes down (net.start a) j)
  uses_taken a e = ap (λ b. net.is_open a && (b && takes down (net.start a) j)) (eq-eqb (net.end a) j e)

  uses_off : (a : ℕ) → ¬ (net.end a ≡ j) → uses net down j a ≡ false
  uses_off a ne = and_right (net.is_open a) (eqb (net.end a) j && takes down (net.start a) j) (ap (λ b. b && takes down (net.start a) j) (ne_eqb (net.end a) j ne))

-- the arcs into node j are those from `first` of the node before on
module _ {V : Type 0} (net : Network V) (first : List ℕ) (index : Indexed net first) (j : ℕ) (one : 1 ≤ j) (le : j ≤ net.nodes) where
  pub block_in : (a : ℕ) → a < get_or first j 0 → a < net.arcs
  block_in a lt = omega (arith, index.few j le)

  pub block_end : (a : ℕ) → get_or first (j - 1) 0 ≤ a → a < get_or first j 0 → net.end (suc a) ≡ j
  block_end a low high =
      let p = index.below j (suc a) le (omega arith) (omega arith) in
      let q = index.above (j - 1) (suc a) (omega arith) (omega arith) (omega (arith, block_in a high)) in
      omega arith

  pub block_ordered : get_or first (j - 1) 0 ≤ get_or first j 0
  block_ordered = elim (cases_lt (get_or first j 0) (get_or first (j - 1) 0)) [
    | inl l ↦
        let a = index.few (j - 1) (omega arith) in
        let p = index.below (j - 1) (suc (get_or first j 0)) (omega arith) (omega arith) (omega arith) in
        let q = index.above j (suc (get_or first j 0)) le (omega arith) (omega arith) in
        absurd (omega arith)
    | inr g ↦ g
  ]

-- an arc into node j
pub record BlockArc {V : Type 0} (net : Network V) (j a : ℕ) : Type 0 where
  pub inside : a < net.arcs
  pub into : net.end (suc a) ≡ j
  pub low : 1 ≤ net.start (suc a)
  pub high : net.start (suc a) ≤ net.nodes
  pub apart : ¬ (net.start (suc a) ≡ j)

pub block_arc : {V : Type 0} (m : Algebra V) (n : ℕ) (arcs : List Arc) (lengths : List V) (first : List ℕ) → Known m n arcs lengths first → (j : ℕ) → 1 ≤ j → j ≤ n → (a : ℕ) → get_or first (j - 1) 0 ≤ a → a < get_or first j 0
    → BlockArc (network m n arcs lengths) j a
block_arc m n arcs lengths first known j one le a low high =
    let inside = block_in (network m n arcs lengths) first known.indexed j one le a high in
    let into = block_end (network m n arcs lengths) first known.indexed j one le a low high in
    let p = known.ordered.proper (suc a) (omega arith) (omega arith) in
    record { inside = inside; into = into; low = p.start_low; high = p.start_high; apart = λ e. p.apart (e ∙ sym into) }

-- the part of the tables that holds the arcs into node j
module _ {V : Type 0} {m : Algebra V} {n : ℕ} {arcs : List Arc} {lengths : List V} {first : List ℕ} (known : Known m n arcs lengths first) {j : ℕ} (node : IsNode n j) {part : List Arc} {parts : List V}
    (part_is : part ≡ slice_range arcs (get_or first (j - 1) 0) (get_or first j 0)) (parts_are : parts ≡ slice_range lengths (get_or first (j - 1) 0) (get_or first j 0)) where
  -- an arc of that part, and its length
  pub record BlockItem (i : ℕ) (arc : Arc) (x : V) : Type 0 where
    pub block : BlockArc (network m n arcs lengths) j (get_or first (j - 1) 0 + i)
    pub arc_is : arc ≡ get_or arcs (get_or first (j - 1) 0 + i) no_arc
    pub x_is : x ≡ get_or lengths (get_or first (j - 1) 0 + i) m.null

  pub block_item : {i : ℕ} {arc : Arc} {x : V} → (i < length part) × (i < length parts) × ((d : Arc) → arc ≡ get_or part i d) × ((d : V) → x ≡ get_or parts i d) → BlockItem i arc x
  block_item {i = i} {arc = arc} {x = x} h =
      let lo : ℕ = get_or first (j - 1) 0 in
      let hi : ℕ = get_or first j 0 in
      let inside : i < hi - lo = omega (arith, h.0, ap length part_is, length-take (hi - lo) (drop lo arcs)) in
      record {
        block = block_arc m n arcs lengths first known j node.low node.high (lo + i) (omega arith) (omega arith);
        arc_is = h.2 no_arc ∙ ap (λ z. get_or z i no_arc) part_is ∙ get_or-take (hi - lo) (drop lo arcs) i no_arc inside ∙ get_or-drop lo arcs i no_arc;
        x_is = h.3 m.null ∙ ap (λ z. get_or z i m.null) parts_are ∙ get_or-take (hi - lo) (drop lo lengths) i m.null inside ∙ get_or-drop lo lengths i m.null;
      }

  pub block_size : {i : ℕ} → i ≡ min (length part) (length parts) → get_or first (j - 1) 0 + i ≡ get_or first j 0
  block_size {i = i} e =
      let lo : ℕ = get_or first (j - 1) 0 in
      let hi : ℕ = get_or first j 0 in
      let few = known.indexed.few j node.high in
      let up = block_ordered (network m n arcs lengths) first known.indexed j node.low node.high in
      omega (arith, ap length part_is, length-take (hi - lo) (drop lo arcs), length-drop lo arcs, ap length parts_are, length-take (hi - lo) (drop lo lengths), length-drop lo lengths)

pub in_block : {V : Type 0} (net : Network V) (first : List ℕ) → Indexed net first → (j a : ℕ) → 1 ≤ j → j ≤ net.nodes → 1 ≤ a → a ≤ net.arcs → net.end a ≡ j → (get_or first (j - 1) 0 < a) × (a ≤ get_or first j 0)
in_block net first index j a one le low high e = (
  elim (cases_lt (get_or first (j - 1) 0) a) [ inl l ↦ l | inr g ↦ let p = index.below (j - 1) a (omega arith) low g in absurd (omega arith) ],
  elim (cases_lt (get_or first j 0) a) [ inl l ↦ let p = index.above j a le l high in absurd (omega arith) | inr g ↦ g ],
)

module _ {V : Type 0} (m : Algebra V) (net : Network V) (k : ℕ) (down : Bool) (j : ℕ) (v0 : List V) (counts : List ℕ) where
  abbrev row_at : ℕ → Marked V
  row_at a = node_row m net k down j v0 counts a

  row_off : (a : ℕ) → uses net down j (suc a) ≡ false → row_at (suc a) ≡ row_at a
  row_off a e = ap (λ z. cond z (worked m k (net.arc_length (suc a)) (row_at a) (row_of k (net.start (suc a)) v0 counts)) (row_at a)) e

  rows_off : (a b : ℕ) → a ≤ b → ((c : ℕ) → a < c → c ≤ b → ¬ (net.end c ≡ j)) → row_at b ≡ row_at a
  rows_off a zero le off = ap row_at (let e : zero ≡ a = omega arith in e)
  rows_off a (suc b) le off = elim (cases_eq a (suc b)) [
    | inl e ↦ ap row_at (sym e)
    | inr ne ↦ row_off b (uses_off net down j (suc b) (off (suc b) (omega arith) (omega arith))) ∙ rows_off a b (omega arith) (λ c lt high. off c lt (omega arith))
  ]

  row_up : Laws m → Ascending m (row_of k j v0 counts) → (a : ℕ) → Ascending m (row_at a).0
  row_up laws up zero = up
  row_up laws up (suc a) = go (uses net down j (suc a)) (row_up laws up a)
    where
      go : (b : Bool) → Ascending m (row_at a).0 → Ascending m (cond b (worked m k (net.arc_length (suc a)) (row_at a) (row_of k (net.start (suc a)) v0 counts)) (row_at a)).0
      go true before = worked_up laws k (net.arc_length (suc a)) (row_at a) (row_of k (net.start (suc a)) v0 counts) before
      go false before = before

  module _ (first : List ℕ) (index : Indexed net first) (one : 1 ≤ j) (le : j ≤ net.nodes) where
    pub node_none : (a count : ℕ) → a ≡ get_or first (j - 1) 0 → count ≡ count_of counts j → count ≤ k → RowIs m k j v0 (count_of counts j) (row_at a) v0 count false
    node_none a count start e short = record {
      bound = short;
      grows = omega arith;
      lengths = λ up. ap (λ (z : ℕ). (take z (cells k j v0), false)) e ∙ sym (rows_off 0 a (omega arith) (λ c low high z. let p = index.below (j - 1) c (omega arith) low (omega arith) in omega arith));
      rest = refl;
      size = refl;
      before = refl;
      after = refl;
    }

    pub node_all : (a count : ℕ) (changed : Bool) (v : List V) → a ≡ get_or first j 0 → RowIs m k j v0 (count_of counts j) (row_at a) v count changed → RowIs m k j v0 (count_of counts j) (row_at net.arcs) v count changed
    node_all a count changed v e h =
        let same : row_at a ≡ row_at net.arcs = ap row_at e ∙ sym (rows_off (get_or first j 0) net.arcs (index.few j le) (λ c low high z. let p = index.above j c le low high in omega arith)) in
        subst (λ z. RowIs m k j v0 (count_of counts j) z v count changed) same h

  pub node_skip : (a a' count : ℕ) (changed : Bool) (v : List V) → a' ≡ a + 1 → RowIs m k j v0 (count_of counts j) (row_at a) v count changed → uses net down j (suc a) ≡ false → RowIs m k j v0 (count_of counts j) (row_at a') v count changed
  node_skip a a' count changed v next h skipped = subst (λ z. RowIs m k j v0 (count_of counts j) z v count changed) (sym (ap row_at (next ∙ add-one a) ∙ row_off a skipped)) h

  pub node_more : (a a' i count count' : ℕ) (changed changed' : Bool) (v v' : List V) (x : V) → Laws m → a' ≡ a + 1 → i ≡ net.start (suc a) → RowIs m k j v0 (count_of counts j) (row_at a) v count changed
      → uses net down j (suc a) ≡ true → x ≡ net.arc_length (suc a) → 1 ≤ net.start (suc a) → 1 ≤ j → ¬ (net.start (suc a) ≡ j)
      → ArcWorked m k i (count_of counts i) j count changed x v v' count' changed'
      → RowIs m k j v0 (count_of counts j) (row_at a') v' count' changed'
  node_more a a' i count count' changed changed' v v' x laws next from h way read low one ne w =
      let start : ℕ = net.start (suc a) in
      let e : count + (count' - count) ≡ count' = omega (arith, w.grows) in
      record {
        bound = w.bound;
        grows = omega (arith, h.grows, w.grows);
        lengths = λ up. w.lengths (subst (Ascending m) (sym (ap (λ (z : Marked V). z.0) (h.lengths up))) (row_up laws up a))
            ∙ ap (λ z. worked m k x (take count (cells k j v), changed) (take (count_of counts z) (cells k z v))) from
            ∙ ap (λ z. worked m k x z (take (count_of counts start) (cells k start v))) (h.lengths up)
            ∙ ap (λ z. worked m k x (row_at a) (take (count_of counts start) z)) (other_cells k start j v0 v low one ne h.before h.after)
            ∙ ap (λ z. worked m k z (row_at a) (row_of k start v0 counts)) read
            ∙ ap (λ z. cond z (worked m k (net.arc_length (suc a)) (row_at a) (row_of k start v0 counts)) (row_at a)) (sym way)
            ∙ ap row_at (sym (next ∙ add-one a));
        rest = w.rest ∙ ap (λ z. drop z (cells k j v)) (sym e) ∙ sym (drop-drop (count' - count) count (cells k j v))
            ∙ ap (drop (count' - count)) h.rest ∙ drop-drop (count' - count) count (cells k j v0) ∙ ap (λ z. drop z (cells k j v0)) e;
        size = w.size ∙ h.size;
        before = w.before ∙ h.before;
        after = w.after ∙ h.after;
      }

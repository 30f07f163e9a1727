-- Reads of the tables.
use Rattle.std.proofs.Common.{◌≡◌, ℕ, zero, suc, ◌+◌, ◌-◌, ◌*◌, ◌<◌, ◌≤◌, ◌⊎◌, List, length, get_or, sym, refl, ap, ◌∙◌, subst, inl, inr, mul-le-mul_right, suc-mul, add-one, arith, Some, None, Option, true, false, ltb, ltb-true, ltb-false}
use Rattle.std.specs.List.{AllWithin, HoldsAt}
use Rattle.std.specs.Option.{MatchOption}
use Rattle.std.specs.List.Sorted.{IsPartitionedBy, IsPartitionPoint}
use Rattle.std.proofs.lemmas.List.Sorted.{IsNonDecreasingBy-from_default, IsPartitionedBy-ltb}
use native.Mathlib.Decide.{dec_lt}
use Rattle.std.proofs.lemmas.List.{get_or_past}
use Rattle.measure.specs.Algebra.{Algebra}
use Rattle.walks.specs.Ways.{Lowest}
use Rattle.sweeps.specs.declared.Arc.{Arc}
use Rattle.sweeps.specs.Tables.{no_arc, arc_at, length_at, start_of}
use Rattle.tracing.specs.declared.labels.Label.{Label}
use Rattle.tracing.specs.Tables.{Tables}
use Rattle.tracing.specs.Labels.{label, lab, Held, RowOf, Comes, val, Link, Linked, Back, Home, SortedArcs, Split, Splits}

pub cell_in : (n k j p v : ℕ) → n * k ≤ v → 0 < j → j ≤ n → p < k → start_of k j + p < v
cell_in n k zero p v size low high l = absurd (omega arith)
cell_in n k (suc j) p v size low high l =
    let e : suc j * k ≡ j * k + k = suc-mul j k in
    let h : suc j * k ≤ n * k = mul-le-mul_right k high in
    let f : suc j - 1 ≡ j = omega arith in
    rw f (omega arith)

pub arc_past : (arcs : List Arc) (a : ℕ) → (a ≡ 0) ⊎ (length arcs < a) → arc_at arcs a ≡ no_arc
arc_past arcs zero h = refl
arc_past arcs (suc a) (inl e) = absurd (omega arith)
arc_past arcs (suc a) (inr l) = get_or_past arcs a no_arc (omega arith)

pub arc_in : (arcs : List Arc) (a : ℕ) → 0 < a → arc_at arcs a ≡ get_or arcs (a - 1) no_arc
arc_in arcs zero l = absurd (omega arith)
arc_in arcs (suc a) l = let e : suc a - 1 ≡ a = omega arith in ap (λ i. get_or arcs i no_arc) (sym e)

pub arc_more : (arcs : List Arc) (i : ℕ) → arc_at arcs (i + 1) ≡ get_or arcs i no_arc
arc_more arcs i = ap (arc_at arcs) (add-one i)

pub length_more : {V : Type 0} (m : Algebra V) (lengths : List V) (i : ℕ) → length_at m lengths (i + 1) ≡ get_or lengths i m.null
length_more m lengths i = ap (length_at m lengths) (add-one i)

-- the arcs that end below the node end where the table is parted
pub splits_at : (arcs : List Arc) (node r : ℕ) → r ≤ length arcs
    → (IsPartitionedBy (λ (a : Arc). ltb a.end node) arcs → IsPartitionPoint (λ (a : Arc). ltb a.end node ≡ true) (λ (a : Arc). ltb a.end node ≡ false) arcs r) → Splits arcs node r
splits_at arcs node r size point = record {
  within = size;
  meant = λ sorted.
      let rises = IsNonDecreasingBy-from_default (λ (a : Arc). a.end) arcs no_arc (λ i j le lt. sorted (suc i) (suc j) (omega arith) (omega arith) (omega arith)) in
      let p = point (IsPartitionedBy-ltb (λ (a : Arc). a.end) arcs node rises) in
      record {
        below = λ c one le. let e = ap (λ (a : Arc). a.end) (arc_in arcs c one) in let t = ltb-true _ _ (p.0 (c - 1) no_arc (omega arith) (omega arith)) in omega arith;
        beyond = λ c lo hi. let e = ap (λ (a : Arc). a.end) (arc_in arcs c (omega arith)) in let t = ltb-false _ _ (p.1 (c - 1) no_arc (omega arith) (omega arith)) in omega arith;
      };
}

-- the first place of the arc's start whose length comes over the arc
module _ {V : Type 0} (m : Algebra V) (T : Tables V) (arc : Arc) (x : V) (j : ℕ) (z : V) (row : List V) (is : RowOf m T arc.start row) where
  pub first_link : (r : Option ℕ) → arc.«open» ≡ true → arc.end ≡ j
      → MatchOption r (AllWithin (λ y. ¬ Comes m y x z) row 0 (length row)) (λ q. (q < length row) × HoldsAt (λ y. Comes m y x z) row q × AllWithin (λ y. ¬ Comes m y x z) row 0 q) → Linked m T arc x j z r
  first_link (Some q) marked into h =
      let own = is.held q h.0 in
      record { marked = marked; into = into; start = own.0; comes = subst (λ y. Comes m y x z) own.1 (h.1 m.null) }
  first_link None marked into h = λ q l.
      let lt = is.all q l.start in
      h q m.null (omega arith) lt (subst (λ y. Comes m y x z) (sym (is.held q lt).1) l.comes)

-- a search along the arcs into a node
module _ {V : Type 0} (m : Algebra V) (T : Tables V) (j p : ℕ) (here : V) (held : Held T j p) (is : here ≡ val m T j p) where
  -- no arc above the number and up to i leads back
  abbrev pub Passed : ℕ → ℕ → Type 0
  Passed above i = (c : ℕ) (z : Label) → above < c → c ≤ i → ¬ Back m T (label j p) c z

  module _ (i : ℕ) (lt : i < length T.arcs) where
    -- past an arc with another end there are none
    pub passed_all : (first above : ℕ) → first ≤ i → Split T.arcs j first → SortedArcs T.arcs → ¬ ((get_or T.arcs i no_arc).end ≡ j) → Passed above i → (c : ℕ) (z : Label) → above < c → ¬ Back m T (label j p) c z
    passed_all first above le s sorted other passed c z l b = go (dec_lt i c)
      where
        go : Dec (i < c) → ⊥
        go (yes q) =
            let e = ap (λ (a : Arc). a.end) (arc_more T.arcs i) in
            let t = s.beyond (i + 1) (omega arith) (omega arith) in
            let u = sorted (i + 1) c (omega arith) (omega arith) b.high in
            let v = b.link.into in
            other (omega arith)
        go (no q) = passed c z l (omega arith) b

    module _ (x : V) (long : x ≡ get_or T.lengths i m.null) where
      link_back : (q : ℕ) → Link m T (get_or T.arcs i no_arc) x j here q → Back m T (label j p) (i + 1) (lab T.arcs (record { arc = i + 1; place = q }))
      link_back q h =
          let P : Arc → V → V → Type 0 = λ a l z. Link m T a l j z q in
          record { here = held; low = omega arith; high = omega arith; from = refl; link = subst (λ a. P a (length_at m T.lengths (i + 1)) (val m T j p)) (sym (arc_more T.arcs i)) (subst (λ l. P (get_or T.arcs i no_arc) l (val m T j p)) (long ∙ sym (length_more m T.lengths i)) (subst (λ z. P (get_or T.arcs i no_arc) x z) is h)) }

      back_link : (z : Label) → Back m T (label j p) (i + 1) z → Link m T (get_or T.arcs i no_arc) x j here z.place
      back_link z b =
          let P : Arc → V → V → Type 0 = λ a l y. Link m T a l j y z.place in
          subst (λ y. P (get_or T.arcs i no_arc) x y) (sym is) (subst (λ l. P (get_or T.arcs i no_arc) l (val m T j p)) (length_more m T.lengths i ∙ sym long) (subst (λ a. P a (length_at m T.lengths (i + 1)) (val m T j p)) (arc_more T.arcs i) b.link))

      pub passed_more : (above : ℕ) → Passed above i → ((q : ℕ) → ¬ Link m T (get_or T.arcs i no_arc) x j here q) → Passed above (i + 1)
      passed_more above passed none c z l h b = go (dec_lt i c)
        where
          go : Dec (i < c) → ⊥
          go (yes q) = let e : c ≡ i + 1 = omega arith in none z.place (back_link z (subst (λ a. Back m T (label j p) a z) e b))
          go (no q) = passed c z l (omega arith) b

      pub found : (above q : ℕ) → above ≤ i → Passed above i → Link m T (get_or T.arcs i no_arc) x j here q → Lowest (Back m T) (Home m T) (label j p) above (i + 1) (lab T.arcs (record { arc = i + 1; place = q }))
      found above q le passed h = record { above = omega arith; leads = link_back q h; between = λ c z l r b. passed c z l (omega arith) b }

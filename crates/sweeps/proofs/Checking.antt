-- What looking at the arc tables keeps from arc to arc.
use Rattle.std.proofs.Common.{Bool, Option, Some, None, Ordering, Less, Equal, Greater, refl, ◌≡◌, ℕ, suc, ◌+◌, ◌<◌, ◌≤◌, List, length, get_or, set, sym, ap, ◌∙◌, subst, inl, inr, add-one, arith}
use Rattle.std.proofs.lemmas.List.{get_or-set_same, get_or-set_other}
use Rattle.std.proofs.lemmas.Bool.{cases_eq}
use Rattle.std.specs.Option.{option_eq}
use Rattle.measure.specs.Algebra.{Algebra}
use Rattle.walks.specs.Networks.{Network, ProperArc}
use Rattle.sweeps.specs.declared.Arc.{Arc}
use Rattle.sweeps.specs.Tables.{network, no_arc, InOrder}
use Rattle.sweeps.specs.Firsts.{told, over_arc, over_at}
use Rattle.sweeps.specs.Nodes.{FitsArc}

-- `==` with an order is a test of an order that may not be there
pub told_by : (test : Ordering → Bool) (eq : Ordering → Ordering → Bool) (z : Ordering) → eq Less z ≡ test Less → eq Equal z ≡ test Equal → eq Greater z ≡ test Greater → (o : Option Ordering) → option_eq eq o (Some z) ≡ told test o
told_by test eq z l e g None = refl
told_by test eq z l e g (Some Less) = l
told_by test eq z l e g (Some Equal) = e
told_by test eq z l e g (Some Greater) = g

module _ {V : Type 0} (m : Algebra V) (net : Network V) where
  -- the first a arcs are in order, and the last of them ends at `last`
  pub record Checked (a last : ℕ) : Type 0 where
    pub proper : (b : ℕ) → 1 ≤ b → b ≤ a → ProperArc m net b
    pub sorted : (b c : ℕ) → 1 ≤ b → b ≤ c → c ≤ a → net.end b ≤ net.end c
    pub last_end : last ≡ net.end a

  pub checked_more : (a last a' last' : ℕ) → Checked a last → a' ≡ a + 1 → last' ≡ net.end (suc a) → ProperArc m net (suc a) → last ≤ last' → Checked a' last'
  checked_more a last a' last' h next ends p le = subst (λ z. Checked z last') (sym (next ∙ add-one a)) (record {
    proper = λ b low high. elim (cases_eq b (suc a)) [ inl e ↦ subst (ProperArc m net) (sym e) p | inr ne ↦ h.proper b low (omega arith) ];
    sorted = λ b c low less high. elim (cases_eq c (suc a)) [
      | inl e ↦ elim (cases_eq b (suc a)) [
        | inl f ↦ omega (arith, ap net.end e, ap net.end f)
        | inr ne ↦ elim (cases_eq a 0) [
          | inl z ↦ absurd (omega arith)
          | inr some ↦ omega (arith, ap net.end e, h.sorted b a low (omega arith) (omega arith), h.last_end)
        ]
      ]
      | inr ne ↦ h.sorted b c low less (omega arith)
    ];
    last_end = ends;
  })

  pub checked_all : (a last : ℕ) → a ≡ net.arcs → Checked a last → InOrder m net
  checked_all a last e h = record { proper = λ b low high. h.proper b low (omega arith); sorted = λ b c low less high. h.sorted b c low less (omega arith) }

  pub checked_falls : (a last end : ℕ) → net.end 0 ≡ 0 → a < net.arcs → Checked a last → end ≡ net.end (suc a) → end < last → ¬ InOrder m net
  checked_falls a last end none lt h ends falls order = elim (cases_eq a 0) [
    | inl z ↦ omega (arith, h.last_end, ap net.end z)
    | inr more ↦ omega (arith, h.last_end, order.sorted a (suc a) (omega arith) (omega arith) (omega arith))
  ]

module _ {V : Type 0} (m : Algebra V) (n : ℕ) (arcs : List Arc) (lengths : List V) (a : ℕ) (arc : Arc) (x : V) (arc_is : arc ≡ get_or arcs a no_arc) (x_is : x ≡ get_or lengths a m.null) where
  pub fits_proper : FitsArc m n arc x → ProperArc m (network m n arcs lengths) (suc a)
  fits_proper f =
      let g : FitsArc m n (get_or arcs a no_arc) (get_or lengths a m.null) = subst (λ z. FitsArc m n z (get_or lengths a m.null)) arc_is (subst (FitsArc m n arc) x_is f) in
      record { start_low = g.start_low; start_high = g.start_high; end_low = g.end_low; end_high = g.end_high; apart = g.apart; small = g.small }

  pub proper_fits : ProperArc m (network m n arcs lengths) (suc a) → FitsArc m n arc x
  proper_fits p =
      let g : FitsArc m n (get_or arcs a no_arc) (get_or lengths a m.null) = record { start_low = p.start_low; start_high = p.start_high; end_low = p.end_low; end_high = p.end_high; apart = p.apart; small = p.small } in
      subst (λ z. FitsArc m n z x) (sym arc_is) (subst (FitsArc m n (get_or arcs a no_arc)) (sym x_is) g)

  pub over_read : (k : ℕ) (values : List V) (counts : List ℕ) → over_arc m k values counts arc x ≡ over_at m (network m n arcs lengths) k values counts (suc a)
  over_read k values counts = ap (λ z. over_arc m k values counts z x) arc_is ∙ ap (over_arc m k values counts (get_or arcs a no_arc)) x_is

module _ {V : Type 0} (net : Network V) where
  -- all arcs up to `below` end at j or below
  pub record Under (below j : ℕ) : Type 0 where
    pub few : below ≤ net.arcs
    pub under : (a : ℕ) → 1 ≤ a → a ≤ below → net.end a ≤ j

  -- and no others do
  pub record Splits (below j : ℕ) : Type 0 where
    pub under : Under below j
    pub above : (a : ℕ) → below < a → a ≤ net.arcs → j < net.end a

  -- the cells before j are written
  abbrev pub Indexing : List ℕ → ℕ → Type 0
  Indexing first j = (i : ℕ) → i < j → Splits (get_or first i 0) i

  pub indexing_more : (first : List ℕ) (below j : ℕ) → Indexing first j → j < length first → Splits below j → Indexing (set first j below) (j + 1)
  indexing_more first below j h lt s i less = elim (cases_eq i j) [
    | inl e ↦ subst (λ z. Splits (get_or (set first j below) z 0) z) (sym e) (subst (λ z. Splits z j) (sym (get_or-set_same first j below 0 lt)) s)
    | inr ne ↦ subst (λ z. Splits z i) (sym (get_or-set_other first j i below 0 ne)) (h i (omega arith))
  ]

  pub under_more : (below j : ℕ) → Under below j → below < net.arcs → net.end (suc below) ≤ j → Under (below + 1) j
  under_more below j h lt le = record {
    few = omega arith;
    under = λ a low high. elim (cases_eq a (suc below)) [ inl e ↦ omega (arith, ap net.end e) | inr ne ↦ h.under a low (omega arith) ];
  }

  pub under_on : (below j : ℕ) → Under below j → Under below (j + 1)
  under_on below j h = record { few = h.few; under = λ a low high. let p = h.under a low high in omega arith }

  pub splits_end : (below j : ℕ) → Under below j → net.arcs ≤ below → Splits below j
  splits_end below j h le = record { under = h; above = λ a lt high. absurd (omega arith) }

  pub splits_at : (below j : ℕ) → Under below j → ((a b : ℕ) → 1 ≤ a → a ≤ b → b ≤ net.arcs → net.end a ≤ net.end b) → j < net.end (suc below) → Splits below j
  splits_at below j h sorted past = record { under = h; above = λ a lt high. let s = sorted (suc below) a (omega arith) (omega arith) high in omega arith }

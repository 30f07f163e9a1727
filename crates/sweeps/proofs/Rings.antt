-- What the code finds over arcs is so of the rows: tight arcs are those of the definition, so that ranks tell of null circuits, and an arc that
-- lags after pass N means refusal.
use Rattle.std.proofs.Common.{◌≡◌, ℕ, suc, ◌+◌, ◌-◌, ◌^◌, ◌<◌, ◌≤◌, Bool, true, false, cond, ltb, List, ◌∷◌, length, get_or, take, drop, Some, None, Ordering, Less, Equal, Greater, sym, refl, ap, ◌∙◌, subst, inl, mul-le-mul_right, arith, length-take}
use Rattle.std.proofs.lemmas.List.{drop_more}
use Rattle.std.proofs.lemmas.Bool.{ltb-true, ltb-false, lt-ltb, le-ltb, le-leb, cond-true, false≢true}
use Rattle.std.specs.Ordering.{is_eq, is_lt}
use Rattle.measure.specs.Algebra.{Algebra, Laws, Joinable, joined}
use Rattle.walks.specs.Networks.{Network, Open}
use Rattle.walks.specs.Circuits.{NullCircuit}
use Rattle.walks.specs.Rows.{Table, In}
use Rattle.walks.specs.Method.{rows}
use Rattle.walks.specs.Nulls.{FirstLength, Tight, Held, TellsNulls}
use Rattle.walks.specs.Solves.{refused, last_pass, outcome}
use Rattle.walks.specs.Theorems.{Within}
use Rattle.walks.proofs.Solving.{passes, joins, firsts}
use Rattle.walks.proofs.Marking.{nulls_told}
use Rattle.walks.proofs.Tight.{head_once}
use Rattle.sweeps.specs.Tables.{start_of, cells, count_of, InOrder, Whether}
use Rattle.sweeps.specs.Passes.{Bounds, RowsFill, AtRest}
use Rattle.sweeps.specs.Firsts.{first_length_of, told, set_against, compared_over, over_at, Lagging}
use Rattle.sweeps.specs.Ranks.{tight_at, rank_of, Ranked}
use Rattle.sweeps.proofs.Working.{cell_of, cells_long}
use Rattle.sweeps.proofs.Noding.{formed_of}

pub within_of : {V : Type 0} (m : Algebra V) (net : Network V) (k s : ℕ) → Bounds net.nodes k s → InOrder m net → Within m net k s
within_of m net k s bounds order =
    record { formed = formed_of m net order; nodes_high = bounds.nodes_high; k_low = bounds.k_low; k_high = bounds.k_high; s_low = bounds.s_low; s_high = bounds.s_high }

over_tell : {V : Type 0} (m : Algebra V) (test : Ordering → Bool) (x y z : V) (o p q : Bool) → told test (cond o (compared_over m x (cond p (Some y) None) (cond q (Some z) None)) None) ≡ true
    → (o ≡ true) × (p ≡ true) × (q ≡ true) × (told test (set_against m (joined m y x) z) ≡ true)
over_tell m test x y z true true true h = (refl, refl, refl, h)
over_tell m test x y z true true false h = absurd (false≢true h)
over_tell m test x y z true false q h = absurd (false≢true h)
over_tell m test x y z false p q h = absurd (false≢true h)

is_equal : (o : Ordering) → is_eq o ≡ true → o ≡ Equal
is_equal Less h = absurd (false≢true h)
is_equal Equal h = refl
is_equal Greater h = absurd (false≢true h)

is_less : (o : Ordering) → is_lt o ≡ true → o ≡ Less
is_less Less h = refl
is_less Equal h = absurd (false≢true h)
is_less Greater h = absurd (false≢true h)

module _ {V : Type 0} {m : Algebra V} (laws : Laws m) (net : Network V) (k s : ℕ) (bounds : Bounds net.nodes k s) (order : InOrder m net) (p : ℕ) (v : List V) (c : List ℕ) (in_time : p ≤ last_pass m net k s) (are : RowsFill m net.nodes k v c (rows m net k s p)) where
  abbrev t : Table V
  t = rows m net k s p

  abbrev head_of : ℕ → V
  head_of j = get_or v (start_of k j) m.null

  within : Within m net k s
  within = within_of m net k s bounds order

  open_arc : (a : ℕ) → 1 ≤ a → a ≤ net.arcs → net.is_open a ≡ true → Open net a
  open_arc a low high marked = record { low = low; high = high; marked = marked }

  head_row : (j : ℕ) → 1 ≤ j → j ≤ net.nodes → 1 ≤ count_of c j → FirstLength m net t j (head_of j)
  head_row j one le held =
      let long : length (cells k j v) ≡ k = cells_long k j v one (omega (arith, mul-le-mul_right k le, are.shape.rows)) in
      let e : count_of c j ≡ suc (count_of c j - 1) = omega arith in
      let some = bounds.k_low in
      let lt : 0 < length (cells k j v) = omega arith in
      let cut : cells k j v ≡ get_or (cells k j v) 0 m.null ∷ drop (0 + 1) (cells k j v) = drop_more (cells k j v) 0 m.null lt in
      let at_first : get_or (cells k j v) 0 m.null ≡ head_of j = cell_of k j 0 v m.null some ∙ ap (λ z. get_or v z m.null) (let z : start_of k j + 0 ≡ start_of k j = omega arith in z) in
      record {
        rest = take (count_of c j - 1) (drop (0 + 1) (cells k j v));
        is = sym (are.at j one le) ∙ ap (λ z. take z (cells k j v)) e ∙ ap (take (suc (count_of c j - 1))) cut ∙ ap (λ z. z ∷ take (count_of c j - 1) (drop (0 + 1) (cells k j v))) at_first;
      }

  row_head : (j : ℕ) (x : V) → 1 ≤ j → j ≤ net.nodes → FirstLength m net t j x → 1 ≤ count_of c j
  row_head j x one le h = let e = ap length (are.at j one le ∙ h.is) in omega (arith, length-take (count_of c j) (cells k j v))

  fits : (a : ℕ) (x : V) → Open net a → FirstLength m net t (net.start a) x → Joinable m x (net.arc_length a)
  fits a x o h = joins laws net k s within p a x in_time o (subst (In x) (sym h.is) (inl refl))

  -- the first lengths at both ends of an open arc, and what is told of them over the arc
  pub record Found (test : Ordering → Bool) (a : ℕ) : Type 0 where
    pub is_open : Open net a
    pub start : FirstLength m net t (net.start a) (head_of (net.start a))
    pub end : FirstLength m net t (net.end a) (head_of (net.end a))
    pub holds : test (m.compare (m.plus (head_of (net.start a)) (net.arc_length a)) (head_of (net.end a))) ≡ true

  found : (test : Ordering → Bool) (a : ℕ) → 1 ≤ a → a ≤ net.arcs → told test (over_at m net k v c a) ≡ true → Found test a
  found test a low high h =
      let q = order.proper a low high in
      let said = over_tell m test (net.arc_length a) (head_of (net.start a)) (head_of (net.end a)) (net.is_open a) (ltb 0 (count_of c (net.start a))) (ltb 0 (count_of c (net.end a))) h in
      let o = open_arc a low high said.0 in
      let hs = head_row (net.start a) q.start_low q.start_high (ltb-true 0 (count_of c (net.start a)) said.1) in
      let he = head_row (net.end a) q.end_low q.end_high (ltb-true 0 (count_of c (net.end a)) said.2) in
      record {
        is_open = o;
        start = hs;
        end = he;
        holds = ap (λ f. told test (set_against m (cond f (Some (m.plus (head_of (net.start a)) (net.arc_length a))) None) (head_of (net.end a)))) (sym (le-leb (m.magnitude (head_of (net.start a)) + m.magnitude (net.arc_length a)) (2 ^ 62) (fits a (head_of (net.start a)) o hs)))
            ∙ said.3;
      }

  test_tight : (a : ℕ) → 1 ≤ a → a ≤ net.arcs → tight_at m net k v c a ≡ true → Tight m net t a
  test_tight a low high h =
      let f = found is_eq a low high h in
      record { is_open = f.is_open; there = head_of (net.start a); here = head_of (net.end a); start = f.start; end = f.end; sum = laws.same _ _ (is_equal _ f.holds) }

  -- an arc that lags after pass N
  pub lagging_refused : net.nodes ≤ p → Lagging m net k v c → outcome m net k s ≡ refused
  lagging_refused enough h =
      let f = found is_lt h.arc h.low h.high h.lags in
      firsts laws net k s within p h.arc (head_of (net.start h.arc)) (head_of (net.end h.arc)) f.start.rest f.end.rest enough in_time f.is_open f.start.is f.end.is (is_less _ f.holds)

  first_is : (j : ℕ) → 1 ≤ count_of c j → first_length_of m k v c j ≡ Some (head_of j)
  first_is j held = cond-true (ltb 0 (count_of c j)) (Some (head_of j)) None (lt-ltb 0 (count_of c j) held)

  tight_test : (a : ℕ) → Tight m net t a → tight_at m net k v c a ≡ true
  tight_test a h =
      let q = order.proper a h.is_open.low h.is_open.high in
      let i : ℕ = net.start a in
      let j : ℕ = net.end a in
      let x : V = net.arc_length a in
      let held_i = row_head i h.there q.start_low q.start_high h.start in
      let held_j = row_head j h.here q.end_low q.end_high h.end in
      let hs = head_row i q.start_low q.start_high held_i in
      let he = head_row j q.end_low q.end_high held_j in
      let ey : h.there ≡ head_of i = head_once m net t i h.there (head_of i) h.start hs in
      let ez : h.here ≡ head_of j = head_once m net t j h.here (head_of j) h.end he in
      let sum : m.plus (head_of i) x ≡ head_of j = ap (λ w. m.plus w x) (sym ey) ∙ h.sum ∙ ez in
      let equal : m.compare (m.plus (head_of i) x) (head_of j) ≡ Equal = ap (λ w. m.compare w (head_of j)) sum ∙ laws.same_self (head_of j) in
      ap (λ b. told is_eq (cond b (compared_over m x (first_length_of m k v c i) (first_length_of m k v c j)) None)) h.is_open.marked
      ∙ ap (λ o. told is_eq (compared_over m x o (first_length_of m k v c j))) (first_is i held_i)
      ∙ ap (λ o. told is_eq (compared_over m x (Some (head_of i)) o)) (first_is j held_j)
      ∙ ap (λ f. told is_eq (set_against m (cond f (Some (m.plus (head_of i) x)) None) (head_of j))) (le-leb (m.magnitude (head_of i) + m.magnitude x) (2 ^ 62) (fits a (head_of i) h.is_open hs))
      ∙ ap is_eq equal

module _ {V : Type 0} {m : Algebra V} (laws : Laws m) (net : Network V) (k s : ℕ) (bounds : Bounds net.nodes k s) (order : InOrder m net) (p : ℕ) (v : List V) (c : List ℕ) (rest : AtRest m net k s p v c) where
  in_time : p ≤ last_pass m net k s
  in_time = let few = (passes laws net k s (within_of m net k s bounds order) p rest.ended).1 in omega arith

  tells : TellsNulls m net s (rows m net k s p)
  tells = nulls_told laws net k s (within_of m net k s bounds order) p rest.ended

  pub null_told : (r : Bool) → Ranked m net k v c r → Whether r (NullCircuit m net s)
  null_told true r = tells.held mark held (r.verdict.0 + 1) (omega arith) (omega (arith, r.verdict.1)) (ap mark_at (let z : r.verdict.0 + 1 - 1 ≡ r.verdict.0 = omega arith in z) ∙ le-ltb 0 (get_or r.ranks r.verdict.0 0) (omega (arith, r.verdict.2)))
    where
      mark_at : ℕ → Bool
      mark_at i = ltb 0 (get_or r.ranks i 0)

      mark : ℕ → Bool
      mark j = mark_at (j - 1)

      held : (j : ℕ) → 1 ≤ j → j ≤ net.nodes → mark j ≡ false → Held m net (rows m net k s p) mark j
      held j one le e =
          let zero_here = ltb-false 0 (get_or r.ranks (j - 1) 0) e in
          let q = r.stuck (j - 1) (omega arith) (omega arith) in
          record { arc = q.arc; tight = test_tight laws net k s bounds order p v c in_time rest.are q.arc q.low q.high q.tight; into = q.into ∙ (let z : j - 1 + 1 ≡ j = omega arith in z); from = le-ltb 0 (get_or r.ranks (net.start q.arc - 1) 0) (omega (arith, q.from)) }
  null_told false r = tells.ranked (rank_of r.ranks) up
    where
      up : (a : ℕ) → Tight m net (rows m net k s p) a → rank_of r.ranks (net.start a) < rank_of r.ranks (net.end a)
      up a h =
          let q = order.proper a h.is_open.low h.is_open.high in
          (r.climbs.up a h.is_open.low h.is_open.high (tight_test laws net k s bounds order p v c in_time rest.are a h) (r.verdict (net.end a - 1) (omega (arith, q.end_low, q.end_high)))).1

-- What the passes of a solve keep.
use Rattle.std.proofs.Common.{◌≡◌, ℕ, zero, suc, ◌+◌, ◌-◌, ◌*◌, ◌%◌, ◌^◌, ◌<◌, ◌≤◌, Bool, true, false, not, eqb, ◌⊎◌, List, [], ◌∷◌, length, get_or, take, drop, set, replicate, sym, refl, ap, ◌∙◌, subst, inl, inr, mul-le-mul_right, mul-le-mul, add-one, arith, length-set}
use Rattle.std.proofs.lemmas.List.{get_or-set_same, get_or-set_other, get_or-replicate, get_or_past, length-replicate, drop-replicate, take-replicate}
use Rattle.std.proofs.lemmas.Bool.{cases_eq, cases_lt, eq-eqb, ne_eqb}
use Rattle.measure.specs.Algebra.{Algebra, Laws}
use Rattle.walks.specs.Networks.{Network, WellFormed}
use Rattle.walks.specs.Method.{odd, put, pass, rows}
use Rattle.walks.specs.Runs.{Run, Unchanged}
use Rattle.walks.specs.Solves.{refused, outcome}
use Rattle.walks.proofs.Method.{put_here, put_there, rows_run}
use Rattle.walks.proofs.Ends.{is_settled, is_refused}
use Rattle.sweeps.specs.Tables.{start_of, cells, Cleared}
use Rattle.sweeps.specs.Passes.{Bounds, RowsFill, Ready, Gone, Passed, Tells, AtRest}
use Rattle.sweeps.proofs.Working.{row_end}

pub odd_is : (n : ℕ) → eqb (n % 2) 1 ≡ odd n
odd_is zero = refl
odd_is (suc n) = elim (cases_eq (n % 2) 1) [
  | inl e ↦ ne_eqb (suc n % 2) 1 (omega arith) ∙ ap not (sym (eq-eqb (n % 2) 1 e) ∙ odd_is n)
  | inr ne ↦ eq-eqb (suc n % 2) 1 (omega arith) ∙ ap not (sym (ne_eqb (n % 2) 1 ne) ∙ odd_is n)
]

pub cleared_as : {V : Type 0} (m : Algebra V) (size size' n n' : ℕ) (v : List V) (c : List ℕ) → size ≡ size' → n ≡ n' → Cleared m size n v c → Cleared m size' n' v c
cleared_as m size size' n n' v c e f h = record { null_values = h.null_values ∙ ap (λ z. replicate z m.null) e; no_counts = h.no_counts ∙ ap (λ z. replicate z 0) f }

module _ {V : Type 0} (m : Algebra V) (net : Network V) (k s : ℕ) (bounds : Bounds net.nodes k s) where
  zero_at : (n i : ℕ) → ◌≡◌ {A = ℕ} (get_or (replicate n 0) i 0) 0
  zero_at n i = elim (cases_lt i n) [ inl l ↦ get_or-replicate n i 0 0 l | inr g ↦ get_or_past (replicate n 0) i 0 (simp length-replicate g) ]

  module _ (v : List V) (c : List ℕ) (blank : v ≡ replicate (net.nodes * k) m.null) (one : c ≡ set (replicate net.nodes 0) (s - 1) 1) where
    here : get_or c (s - 1) 0 ≡ 1
    here = ap (λ z. get_or z (s - 1) 0) one ∙ get_or-set_same (replicate net.nodes 0) (s - 1) 1 0 (simp length-replicate (omega (arith, bounds.s_low, bounds.s_high)))

    there : (i : ℕ) → ¬ (i ≡ s - 1) → get_or c i 0 ≡ 0
    there i ne = ap (λ z. get_or z i 0) one ∙ get_or-set_other (replicate net.nodes 0) (s - 1) i 1 0 ne ∙ zero_at net.nodes i

    cells_are : (i : ℕ) → 1 ≤ i → i ≤ net.nodes → cells k i v ≡ replicate k m.null
    cells_are i first last =
        ap (λ z. take k (drop (start_of k i) z)) blank ∙ ap (take k) (drop-replicate (start_of k i) (net.nodes * k) m.null)
        ∙ take-replicate k (net.nodes * k - start_of k i) m.null (omega (arith, row_end k i first, mul-le-mul_right k last))

    start_fill : RowsFill m net.nodes k v c (rows m net k s 0)
    start_fill = record {
      shape = record {
        rows = ap length blank ∙ length-replicate (net.nodes * k) m.null;
        nodes = ap length one ∙ length-set (replicate net.nodes 0) (s - 1) 1 ∙ length-replicate net.nodes 0;
        full = λ i. elim (cases_eq i (s - 1)) [
          | inl e ↦ omega (arith, ap (λ z. get_or c z 0) e, here, bounds.k_low)
          | inr ne ↦ omega (arith, there i ne)
        ];
      };
      at = λ i first last. elim (cases_eq i s) [
        | inl e ↦
            ap (λ z. take (get_or c (z - 1) 0) (cells k i v)) e ∙ ap (λ z. take z (cells k i v)) here ∙ ap (take 1) (cells_are i first last) ∙ take-replicate 1 k m.null bounds.k_low
            ∙ sym (ap (put (λ j. []) s (m.null ∷ [])) e ∙ put_here (λ j. []) s (m.null ∷ []))
        | inr ne ↦ ap (λ z. take z (cells k i v)) (there (i - 1) (omega (arith, bounds.s_low))) ∙ sym (put_there (λ j. []) s (m.null ∷ []) i ne)
      ];
      rest = λ i first last. ap (drop (get_or c (i - 1) 0)) (cells_are i first last) ∙ drop-replicate (get_or c (i - 1) 0) k m.null;
    }

  -- where a solve stands after some passes
  pub record Stands (v : List V) (c : List ℕ) (done : ℕ) : Type 0 where
    pub are : RowsFill m net.nodes k v c (rows m net k s done)
    pub ready : Ready m k (done * net.nodes) (rows m net k s done)
    pub loud : (q : ℕ) → 2 ≤ q → q ≤ done → ¬ Unchanged net (rows m net k s) q

  room : (done : ℕ) → done < 2 * (net.nodes * k + 1) → done * net.nodes + net.nodes ≤ 10 ^ 9
  room done lt =
      let a : net.nodes * k ≤ 1000 * 20 = mul-le-mul bounds.nodes_high bounds.k_high in
      let b : done * net.nodes ≤ 40002 * 1000 = let z : done ≤ 40002 = omega arith in mul-le-mul z bounds.nodes_high in
      omega (arith, bounds.nodes_high)

  module _ (laws : Laws m) (formed : WellFormed m net) where
    pub stands_none : (v : List V) (c : List ℕ) → v ≡ replicate (net.nodes * k) m.null → c ≡ set (replicate net.nodes 0) (s - 1) 1 → Stands v c 0
    stands_none v c blank one =
        let run : Run m net k s (rows m net k s) = rows_run laws net k s formed bounds.k_low in
        record {
          are = start_fill v c blank one;
          ready = record { up = λ j. (run.start j).ascending; short = λ j. (run.start j).short; light = λ j x i. let e = ap m.magnitude ((run.start j).from x i).1 in omega (arith, laws.null_magnitude) };
          loud = λ q two le z. omega arith;
        }

    module _ (v v' : List V) (c c' : List ℕ) (done : ℕ) (down changed : Bool) (lt : done < 2 * (net.nodes * k + 1)) (turn : down ≡ odd (suc done)) (h : Stands v c done) (w : Passed m net k down v c v' c' changed) where
      gone : Gone m net.nodes k (done * net.nodes + net.nodes) (rows m net k s done) (rows m net k s (suc done)) v' c' changed
      gone =
          subst (λ d. Gone m net.nodes k (done * net.nodes + net.nodes) (rows m net k s done) (pass m net k s d (rows m net k s done)) v' c' changed) turn
          (w.goes (rows m net k s done) (done * net.nodes) s (room done lt) h.ready h.are)

      still_loud : (done + 1 < 2) ⊎ (changed ≡ true) → 2 ≤ suc done → ¬ Unchanged net (rows m net k s) (suc done)
      still_loud (inl l) two z = omega arith
      still_loud (inr e) two z = subst (λ f. Tells f (Unchanged net (rows m net k s) (suc done))) e gone.tells z

      pub stands_more : (done' : ℕ) → done' ≡ done + 1 → (done + 1 < 2) ⊎ (changed ≡ true) → Stands v' c' done'
      stands_more done' e why =
          subst (Stands v' c') (sym (e ∙ add-one done)) (record {
            are = gone.are;
            ready = subst (λ b. Ready m k b (rows m net k s (suc done))) (omega arith) gone.ready;
            loud = λ q two le z. elim (cases_eq q (suc done)) [
              | inl same ↦ still_loud why (omega arith) (subst (Unchanged net (rows m net k s)) same z)
              | inr ne ↦ h.loud q two (omega arith) z
            ];
          })

      pub stands_ends : (done' : ℕ) → done' ≡ done + 1 → 2 ≤ done' → changed ≡ false → AtRest m net k s done' v' c'
      stands_ends done' e two f =
          subst (λ d. AtRest m net k s d v' c') (sym (e ∙ add-one done)) (record {
            ended = is_settled laws net k s (suc done) (record {
              second = omega arith;
              in_time = omega arith;
              unchanged = subst (λ z. Tells z (Unchanged net (rows m net k s) (suc done))) f gone.tells;
              first = λ q low less. h.loud q low (omega arith);
            });
            are = gone.are;
          })

    pub stands_over : (v : List V) (c : List ℕ) (done : ℕ) → 2 * (net.nodes * k + 1) ≤ done → Stands v c done → outcome m net k s ≡ refused
    stands_over v c done le h = is_refused laws net k s (λ q two small. h.loud q two (omega arith))

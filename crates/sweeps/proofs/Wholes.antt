-- From tables of exactly the rows' sizes to the caller's.
use Rattle.std.proofs.Common.{◌≡◌, ℕ, ◌+◌, ◌-◌, ◌*◌, ◌≤◌, List, ◌++◌, length, take, drop, replicate, Option, Some, None, Ok, Err, Result, sym, refl, ap, ◌∙◌, subst, mul-le-mul_right, arith, length-take}
use Rattle.std.proofs.lemmas.List.{get_or-take, drop-take, take-take, take_at}
use Rattle.std.specs.Option.{ok_or}
use Rattle.measure.specs.Algebra.{Algebra}
use Rattle.walks.specs.Networks.{Network}
use Rattle.walks.specs.Rows.{Table}
use Rattle.sweeps.specs.declared.Arc.{Arc}
use Rattle.sweeps.specs.declared.Solved.{Solved}
use Rattle.sweeps.specs.declared.refusal.Refusal.{Refusal}
use Rattle.sweeps.specs.declared.refusal.Refusal.TheVariants.{NegativeCircuit}
use Rattle.sweeps.specs.Tables.{network, InOrder, start_of, cells, count_of, RowsHeld}
use Rattle.sweeps.specs.Passes.{RowsFill, Filled}
use Rattle.sweeps.specs.Answers.{solve_verdict, Answered, Meant, SolvedAs, Solves}
use Rattle.sweeps.proofs.Working.{row_end}

pub held_of : {V : Type 0} (m : Algebra V) (n k : ℕ) (v : List V) (c : List ℕ) (t : Table V) → RowsFill m n k v c t → RowsHeld m n k v c t
held_of m n k v c t h = record { value_cells = omega (arith, h.shape.rows); count_cells = omega (arith, h.shape.nodes); short = λ j one le. h.shape.full (j - 1); at = h.at; past = h.rest }

module _ {V : Type 0} (m : Algebra V) (n k : ℕ) (v : List V) (c : List ℕ) where
  whole_count : (j : ℕ) → 1 ≤ j → j ≤ n → count_of (take n c) j ≡ count_of c j
  whole_count j one le = get_or-take n c (j - 1) 0 (omega arith)

  whole_cells : (j : ℕ) → 1 ≤ j → j ≤ n → cells k j (take (n * k) v) ≡ cells k j v
  whole_cells j one le =
      let s : ℕ = start_of k j in
      let room : s + k ≤ n * k = omega (arith, row_end k j one, mul-le-mul_right k le) in
      let e : s + (n * k - s) ≡ n * k = omega arith in
      ap (λ z. take k (drop s (take z v))) (sym e) ∙ ap (take k) (drop-take s (n * k - s) v) ∙ take-take k (n * k - s) (drop s v) (omega arith)

  pub held_whole : (t : Table V) → RowsHeld m n k (take (n * k) v) (take n c) t → RowsHeld m n k v c t
  held_whole t h = record {
    value_cells = omega (arith, h.value_cells, length-take (n * k) v);
    count_cells = omega (arith, h.count_cells, length-take n c);
    short = λ j one le. omega (arith, h.short j one le, whole_count j one le);
    at = λ j one le. ap (λ z. take z (cells k j v)) (sym (whole_count j one le)) ∙ ap (take (count_of (take n c) j)) (sym (whole_cells j one le)) ∙ h.at j one le;
    past = λ j one le.
        ap (λ z. drop z (cells k j v)) (sym (whole_count j one le)) ∙ ap (drop (count_of (take n c) j)) (sym (whole_cells j one le)) ∙ h.past j one le
        ∙ ap (λ z. replicate (k - z) m.null) (whole_count j one le);
  }

pub solved_whole : {V : Type 0} (m : Algebra V) (net : Network V) (k s : ℕ) (found : Solved) (v : List V) (c : List ℕ) → SolvedAs m net k s found (take (net.nodes * k) v) (take net.nodes c) → SolvedAs m net k s found v c
solved_whole m net k s found v c h = record { ended = h.ended; few = h.few; held = held_whole m net.nodes k v c _ h.held; exact = h.exact; null_told = h.null_told }

module _ {V : Type 0} (m : Algebra V) (n k s : ℕ) (arcs : List Arc) (lengths : List V) (values : List V) (counts : List ℕ) (judged : solve_verdict n k s (length values) (length counts) ≡ None)
    (v past : List V) (c past_c : List ℕ) (long : length v ≡ n * k) (long_c : length c ≡ n)
    (value_size : length (v ++ past) ≡ length values) (count_size : length (c ++ past_c) ≡ length counts)
    (past_values : drop (n * k) (v ++ past) ≡ drop (n * k) values) (past_counts : drop n (c ++ past_c) ≡ drop n counts) where
  rows_part : take (n * k) (v ++ past) ≡ v
  rows_part = take_at v past (n * k) long

  counts_part : take n (c ++ past_c) ≡ c
  counts_part = take_at c past_c n long_c

  solved : (r : Result Solved Refusal) → Answered m n k s arcs lengths values counts None r (v ++ past) (c ++ past_c)
      → (InOrder m (network m n arcs lengths) → Meant m n k s arcs lengths values counts None r (v ++ past) (c ++ past_c)) → Solves m n k s arcs lengths values counts r (v ++ past) (c ++ past_c)
  solved r answered meant = record {
    answered = subst (λ o. Answered m n k s arcs lengths values counts o r (v ++ past) (c ++ past_c)) (sym judged) answered;
    value_size = value_size;
    count_size = count_size;
    past_values = past_values;
    past_counts = past_counts;
    meant = λ order. subst (λ o. Meant m n k s arcs lengths values counts o r (v ++ past) (c ++ past_c)) (sym judged) (meant order);
  }

  pub solves : (r : Option Solved) → Filled m (network m n arcs lengths) k s r v c → Solves m n k s arcs lengths values counts (ok_or r NegativeCircuit) (v ++ past) (c ++ past_c)
  solves (Some found) h =
      solved (Ok found) tt (λ order. solved_whole m (network m n arcs lengths) k s found (v ++ past) (c ++ past_c)
      (subst (λ z. SolvedAs m (network m n arcs lengths) k s found z (take n (c ++ past_c))) (sym rows_part) (subst (λ z. SolvedAs m (network m n arcs lengths) k s found v z) (sym counts_part) h)))
  solves None h = solved (Err NegativeCircuit) (refl, record { null_values = rows_part ∙ h.0.null_values; no_counts = counts_part ∙ h.0.no_counts }) h.1

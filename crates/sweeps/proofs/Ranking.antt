-- What ranking the nodes keeps.
use Rattle.std.proofs.Common.{◌≡◌, ℕ, zero, suc, ◌+◌, ◌-◌, ◌<◌, ◌≤◌, Bool, true, false, eqb, List, [], ◌∷◌, length, get_or, take, set, replicate, sym, refl, ap, ◌∙◌, subst, inl, inr, add-one, arith, length-set, length-take}
use Rattle.std.proofs.lemmas.List.{get_or-set_same, get_or-set_other, get_or-take}
use Rattle.std.specs.List.{IsAnyAnswer}
use Rattle.std.proofs.lemmas.Bool.{cases_eq, eqb-true, eqb-false}
use Rattle.measure.specs.Algebra.{Algebra}
use Rattle.walks.specs.Networks.{Network}
use Rattle.sweeps.specs.Tables.{InOrder}
use Rattle.sweeps.specs.Ranks.{left, Blocked, Free, Climbs, Stuck, Verdict}

left_set : (rs : List ℕ) (i r : ℕ) → i < length rs → get_or rs i 0 ≡ 0 → left rs ≡ suc (left (set rs i (suc r)))
left_set [] i r lt e = absurd (omega arith)
left_set (zero ∷ rs) zero r lt e = refl
left_set (suc x ∷ rs) zero r lt e = absurd (omega arith)
left_set (zero ∷ rs) (suc i) r lt e = ap suc (left_set rs i r (omega arith) e)
left_set (suc x ∷ rs) (suc i) r lt e = left_set rs i r (omega arith) e

module _ {V : Type 0} (m : Algebra V) (net : Network V) (k : ℕ) (values : List V) (counts : List ℕ) where
  pub climbs_more : InOrder m net → (ranks : List ℕ) (total i : ℕ) → i < length ranks → get_or ranks i 0 ≡ 0 → Climbs m net k values counts ranks total → Free m net k values counts ranks (i + 1) → Climbs m net k values counts (set ranks i (total + 1)) (total + 1)
  climbs_more order ranks total i lt none h open-to = record {
    total = omega (arith, h.total, left_set ranks i total lt none, ap (λ z. left (set ranks i z)) (add-one total), length-set ranks i (total + 1));
    high = λ j. elim (cases_eq j i) [
      | inl e ↦ omega (arith, ap (λ z. get_or (set ranks i (total + 1)) z 0) e, here)
      | inr ne ↦ omega (arith, there j ne, h.high j)
    ];
    up = λ a one low t held.
        let p = order.proper a one low in
        elim (cases_eq (net.end a - 1) i) [
          | inl same ↦
              let f : 1 ≤ get_or ranks (net.start a - 1) 0 = open-to a one low t (omega (arith, p.end_low)) in
              let ne : net.start a - 1 ≡ i → ⊥ = λ z. omega (arith, ap (λ y. get_or ranks y 0) z) in
              let s = there (net.start a - 1) ne in
              let b = h.high (net.start a - 1) in
              (omega arith, omega (arith, ap (λ z. get_or (set ranks i (total + 1)) z 0) same, here))
          | inr apart ↦
              let kept = there (net.end a - 1) apart in
              let f = h.up a one low t (omega arith) in
              let ne : net.start a - 1 ≡ i → ⊥ = λ z. omega (arith, f.0, ap (λ y. get_or ranks y 0) z) in
              let s = there (net.start a - 1) ne in
              (omega (arith, f.0), omega (arith, f.1))
        ];
  }
    where
      here : get_or (set ranks i (total + 1)) i 0 ≡ total + 1
      here = get_or-set_same ranks i (total + 1) 0 lt

      there : (j : ℕ) → (j ≡ i → ⊥) → get_or (set ranks i (total + 1)) j 0 ≡ get_or ranks j 0
      there j ne = get_or-set_other ranks i j (total + 1) 0 ne

  -- part of a scan: the first i nodes have been looked at
  pub record Part (ranked : ℕ) (ranks : List ℕ) (total i : ℕ) : Type 0 where
    pub climbs : Climbs m net k values counts ranks total
    pub grows : ranked ≤ total
    pub still : total ≡ ranked → Stuck m net k values counts ranks i

  part_stuck : (ranked : ℕ) (ranks : List ℕ) (total i : ℕ) → Part ranked ranks total i → (get_or ranks i 0 ≡ 0 → Blocked m net k values counts ranks (i + 1)) → Part ranked ranks total (i + 1)
  part_stuck ranked ranks total i h here = record {
    climbs = h.climbs;
    grows = h.grows;
    still = λ e j lt z. elim (cases_eq j i) [
      | inl same ↦ subst (λ y. Blocked m net k values counts ranks (y + 1)) (sym same) (here (ap (λ y. get_or ranks y 0) (sym same) ∙ z))
      | inr ne ↦ h.still e j (omega arith) z
    ];
  }

  pub part_held : (ranked : ℕ) (ranks : List ℕ) (total i : ℕ) → Part ranked ranks total i → (get_or ranks i 0 ≡ 0 → ⊥) → Part ranked ranks total (i + 1)
  part_held ranked ranks total i h held = part_stuck ranked ranks total i h (λ z. absurd (held z))

  pub part_shut : (ranked : ℕ) (ranks : List ℕ) (total i : ℕ) → Part ranked ranks total i → Blocked m net k values counts ranks (i + 1) → Part ranked ranks total (i + 1)
  part_shut ranked ranks total i h b = part_stuck ranked ranks total i h (λ z. b)

  pub part_free : InOrder m net → (ranked : ℕ) (ranks : List ℕ) (total i : ℕ) → i < length ranks → get_or ranks i 0 ≡ 0 → Part ranked ranks total i → Free m net k values counts ranks (i + 1) → Part ranked (set ranks i (total + 1)) (total + 1) (i + 1)
  part_free order ranked ranks total i lt none h f = record { climbs = climbs_more order ranks total i lt none h.climbs f; grows = omega (arith, h.grows); still = λ e. absurd (omega (arith, h.grows)) }

  -- what looking for a node that is not ranked answers
  pub verdict_of : (ranks : List ℕ) → net.nodes ≤ length ranks → (r : Bool) → IsAnyAnswer (λ y b. eqb y 0 ≡ b) (take net.nodes ranks) r → Verdict m net k values counts ranks r
  verdict_of ranks room true h =
      let lt : h.0 < net.nodes = omega (arith, h.1, length-take net.nodes ranks) in
      (h.0, lt, sym (get_or-take net.nodes ranks h.0 0 lt) ∙ eqb-true _ 0 (h.2 0))
  verdict_of ranks room false h = λ i lt.
      let ne = eqb-false _ 0 (h i 0 (omega arith) (omega (arith, length-take net.nodes ranks))) in
      omega (arith, get_or-take net.nodes ranks i 0 lt)

left_none : (n : ℕ) → left (replicate n 0) ≡ n
left_none zero = refl
left_none (suc n) = ap suc (left_none n)

none_at : (n i : ℕ) → ◌≡◌ {A = ℕ} (get_or (replicate n 0) i 0) 0
none_at zero i = refl
none_at (suc n) zero = refl
none_at (suc n) (suc i) = none_at n i

pub climbs_none : {V : Type 0} (m : Algebra V) (net : Network V) (k : ℕ) (values : List V) (counts : List ℕ) (ranks : List ℕ) → ranks ≡ replicate (length ranks) 0 → Climbs m net k values counts ranks 0
climbs_none m net k values counts ranks e = record {
  total = let l : left ranks ≡ length ranks = ap left e ∙ left_none (length ranks) in omega arith;
  high = λ i. omega (arith, unranked i);
  up = λ a one low t held. absurd (omega (arith, unranked (net.end a - 1)));
}
  where
    unranked : (i : ℕ) → ◌≡◌ {A = ℕ} (get_or ranks i 0) 0
    unranked i = ap (λ z. get_or z i 0) e ∙ none_at (length ranks) i

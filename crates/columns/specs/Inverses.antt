-- Telling and building are inverse, for each of the three measures.
use Rattle.std.specs.Prelude.{◌≡◌, ℕ, ◌+◌, ◌-◌, ◌^◌, ◌<◌, ◌≤◌, true, cond, ◌⊎◌, List, [], ◌∷◌, ◌++◌, length, take, drop, ℤ, pos, is_some, Some, None, Option, ◌≢◌, slice_index_or, unsigned_abs, refl}
use Rattle.std.proofs.Common.{sym, ap, subst, ◌∙◌, inl, inr, ⊎_elim, arith, length-append, length-take, length-drop, take-append-drop, get_or-take, get_or-drop, le-leb}
use Rattle.std.proofs.Math.Seq.{take-append_seam, drop-append_seam}
use Rattle.std.proofs.lemmas.Bool.{cases_lt}
use Rattle.std.proofs.lemmas.List.{get_or_append_left, get_or-append_right}
use Rattle.std.proofs.lemmas.Bool.Decides.{nat_tests}
use Rattle.measure.specs.declared.sum.Sum.{Sum}
use Rattle.measure.specs.declared.reversed.Reversed.{Reversed}
use Rattle.measure.specs.declared.then.Then.{Then}
use Rattle.measure.specs.Sums.{clamped}
use Rattle.measure.specs.SumLaws.{sum_same, nearest_in}
use Rattle.columns.specs.Columnar.{Columnar, Ranged, Inverse}
use Rattle.columns.specs.Tables.{one_number, sum_columns, turned, reversed_columns, both, then_columns}

lone_range : (c : ℤ) → unsigned_abs c ≤ 2 ^ 62 → Ranged (c ∷ [])
lone_range c h k lt = let z : k ≡ 0 = omega arith in subst (λ i. unsigned_abs (slice_index_or (c ∷ []) i (pos 0)) ≤ 2 ^ 62) (sym z) h

lone_built : (c : ℤ) → unsigned_abs c ≤ 2 ^ 62 → one_number (c ∷ []) ≡ Some (clamped c)
lone_built c h = ap (λ b. cond b (Some (clamped c)) None) (le-leb (unsigned_abs c) (2 ^ 62) h)

lone_back : (cs : List ℤ) (a : Sum) → one_number cs ≡ Some a → a.value ∷ [] ≡ cs
lone_back [] a e = absurd (let z : ◌≡◌ {A = ℕ} 0 1 = cc in omega arith)
lone_back (c ∷ []) a e =
    ⊎_elim
    (λ h. let f = lone_built c h in let g : clamped c ≡ a = cc in ap (λ v. v ∷ []) (sym (ap (λ s. s.value) g) ∙ nearest_in c h))
    (λ h. absurd (let z : ◌≡◌ {A = ℕ} 0 1 = grind (arith, nat_tests) in omega arith))
    (order' (unsigned_abs c))
  where
    order' : (n : ℕ) → (n ≤ 2 ^ 62) ⊎ (2 ^ 62 < n)
    order' n = ⊎_elim inr inl (cases_lt (2 ^ 62) n)
lone_back (c ∷ d ∷ cs) a e = absurd (let z : ◌≡◌ {A = ℕ} 0 1 = cc in omega arith)

lone_builds : (cs : List ℤ) → length cs ≡ 1 → Ranged cs → is_some (one_number cs) ≡ true
lone_builds [] e h = absurd (omega arith)
lone_builds (c ∷ []) e h = ap is_some (lone_built c (h 0 (omega arith)))
lone_builds (c ∷ d ∷ cs) e h = absurd (omega arith)

pub sum_inverse : Inverse sum_columns
sum_inverse = record {
  told_width = λ a. refl;
  told_range = λ a. lone_range a.value a.ok;
  build_tell = λ a. lone_built a.value a.ok ∙ ap Some (sum_same _ _ (nearest_in a.value a.ok));
  tell_build = lone_back;
  builds = lone_builds;
}

turned_back : {V : Type 0} (o : Option V) (a : Reversed V) → turned o ≡ Some a → o ≡ Some a.value
turned_back None a e = absurd (let z : ◌≡◌ {A = ℕ} 0 1 = cc in omega arith)
turned_back (Some v) a e = let f : record { value = v } ≡ a = cc in ap Some (ap (λ (r : Reversed _). r.value) f)

turned_some : {V : Type 0} (o : Option V) → is_some o ≡ true → is_some (turned o) ≡ true
turned_some None e = e
turned_some (Some v) e = refl

pub reversed_inverse : {V : Type 0} (m : Columnar V) → Inverse m → Inverse (reversed_columns m)
reversed_inverse m l = record {
  told_width = λ a. l.told_width a.value;
  told_range = λ a. l.told_range a.value;
  build_tell = λ a. ap turned (l.build_tell a.value);
  tell_build = λ cs a e. l.tell_build cs a.value (turned_back (m.build cs) a e);
  builds = λ cs w r. turned_some (m.build cs) (l.builds cs w r);
}

both_back : {V W : Type 0} (o : Option V) (p : Option W) (a : Then V W) → both o p ≡ Some a → (o ≡ Some a.first) × (p ≡ Some a.second)
both_back None p a e = absurd (let z : ◌≡◌ {A = ℕ} 0 1 = cc in omega arith)
both_back (Some v) None a e = absurd (let z : ◌≡◌ {A = ℕ} 0 1 = cc in omega arith)
both_back {V} {W} (Some v) (Some w) a e =
    let f : ◌≡◌ {A = Then V W} (record { first = v; second = w }) a = cc in
    (ap Some (ap (λ (r : Then V W). r.first) f), ap Some (ap (λ (r : Then V W). r.second) f))

both_some : {V W : Type 0} (o : Option V) (p : Option W) → is_some o ≡ true → is_some p ≡ true → is_some (both o p) ≡ true
both_some None p e f = e
both_some (Some v) None e f = f
both_some (Some v) (Some w) e f = refl

ranged_append : (xs ys : List ℤ) → Ranged xs → Ranged ys → Ranged (xs ++ ys)
ranged_append xs ys p q k lt =
    let n = length-append xs ys in
    ⊎_elim
    (λ h. rw (get_or_append_left xs ys (pos 0) k h) (p k h))
    (λ h. rw (get_or-append_right xs ys (length xs) k (pos 0) refl h) (q (k - length xs) (omega arith)))
    (cases_lt k (length xs))

ranged_take : (w : ℕ) (cs : List ℤ) → w ≤ length cs → Ranged cs → Ranged (take w cs)
ranged_take w cs le r k lt = let n = length-take w cs in let h : k < w = omega arith in rw (get_or-take w cs k (pos 0) h) (r k (omega arith))

ranged_drop : (w : ℕ) (cs : List ℤ) → w ≤ length cs → Ranged cs → Ranged (drop w cs)
ranged_drop w cs le r k lt = let n = length-drop w cs in rw (get_or-drop w cs k (pos 0)) (r (w + k) (omega arith))

module _ {V W : Type 0} (m : Columnar V) (n : Columnar W) (l : Inverse m) (k : Inverse n) where
  front : (a : Then V W) → take m.width (m.tell a.first ++ n.tell a.second) ≡ m.tell a.first
  front a = ap (λ w. take w (m.tell a.first ++ n.tell a.second)) (sym (l.told_width a.first)) ∙ take-append_seam (m.tell a.first) (n.tell a.second)

  back : (a : Then V W) → drop m.width (m.tell a.first ++ n.tell a.second) ≡ n.tell a.second
  back a = ap (λ w. drop w (m.tell a.first ++ n.tell a.second)) (sym (l.told_width a.first)) ∙ drop-append_seam (m.tell a.first) (n.tell a.second)

  pub then_inverse : Inverse (then_columns m n)
  then_inverse = record {
    told_width = λ a. let x = l.told_width a.first in let y = k.told_width a.second in let z = length-append (m.tell a.first) (n.tell a.second) in omega arith;
    told_range = λ a. ranged_append _ _ (l.told_range a.first) (k.told_range a.second);
    build_tell = λ a.
        let x = ap m.build (front a) ∙ l.build_tell a.first in
        let y = ap n.build (back a) ∙ k.build_tell a.second in
        (λ j. both (x j) (y j));
    tell_build = λ cs a e.
        let h = both_back (m.build (take m.width cs)) (n.build (drop m.width cs)) a e in
        let x = l.tell_build _ _ h.0 in
        let y = k.tell_build _ _ h.1 in
        (λ j. x j ++ y j) ∙ take-append-drop m.width cs;
    builds = λ cs e r.
        let x = length-take m.width cs in
        let y = length-drop m.width cs in
        both_some (m.build (take m.width cs)) (n.build (drop m.width cs))
        (l.builds (take m.width cs) (omega arith) (ranged_take m.width cs (omega arith) r))
        (k.builds (drop m.width cs) (omega arith) (ranged_drop m.width cs (omega arith) r));
  }

none_from : {V : Type 0} (o : Option V) → ((a : V) → o ≢ Some a) → o ≡ None
none_from None h = refl
none_from (Some a) h = absurd (h a refl)

-- a row too short for the first part builds nothing
pub short_builds : {V W : Type 0} (m : Columnar V) (l : Inverse m) (p : Option W) (cs : List ℤ) → length cs < m.width → None ≡ both (m.build (take m.width cs)) p
short_builds m l p cs lt =
    let none = none_from (m.build (take m.width cs)) (λ a e. let x = ap length (l.tell_build _ a e) in let y = l.told_width a in let z = length-take m.width cs in omega arith) in
    sym (ap (λ o. both o p) none)

-- What each call of a log does to an arc, and what was done last.
use Rattle.std.proofs.Common.{◌≡◌, ℕ, zero, suc, ◌+◌, ◌-◌, ◌^◌, ◌≤◌, Bool, true, false, cond, ltb, ◌⊎◌, List, [], ◌∷◌, ◌++◌, length, get_or, set, Some, None, Option, sym, refl, ap, ◌∙◌, subst, inl, inr, ⊎_elim, arith, length-append, length-set, get_or-set_other, get_or-set_same}
use Rattle.std.proofs.lemmas.List.{get_or_append_left, get_or-append_right}
use Rattle.std.proofs.lemmas.Bool.Decides.{nat_tests}
use Rattle.measure.specs.Algebra.{Algebra}
use Rattle.walks.specs.Rows.{In}
use Rattle.sweeps.specs.declared.refusal.Refusal.{Refusal}
use Rattle.sweeps.specs.declared.refusal.Refusal.TheVariants.{NoSuchArc, TooLong}
use Rattle.sweeps.specs.Tables.{arc_at}
use Rattle.session.specs.Nets.{Net, new_arc, marked}
use Rattle.session.specs.Drafts.{outside, judged, relength_verdict, mark_verdict}
use Rattle.journal.specs.declared.calls.Call.{Call}
use Rattle.journal.specs.declared.calls.Call.TheVariants.{Put, Relength, Close, Open}
use Rattle.journal.specs.declared.calls.Answer.{Answer}
use Rattle.journal.specs.declared.calls.Answer.TheVariants.{Numbered}
use Rattle.journal.specs.Answers.{accepted, told, as_done}
use Rattle.journal.specs.Logs.{Logged, changed, network}
use Rattle.journal.specs.Histories.{NoneAfter}

module _ {X : Type 0} (P Q : X → Type 0) where
  pub here : (x : X) (xs : List X) → P x → NoneAfter P Q (x ∷ xs)
  here x xs p = record { newer = []; it = x; older = xs; split = refl; is = p; none = λ y i. absurd i }

  pub later : (x : X) (xs : List X) → ¬ Q x → NoneAfter P Q xs → NoneAfter P Q (x ∷ xs)
  later x xs q w = record {
    newer = x ∷ w.newer;
    it = w.it;
    older = w.older;
    split = ap (λ ys. x ∷ ys) w.split;
    is = w.is;
    none = λ y i. ⊎_elim (λ e z. q (subst Q e z)) (λ j. w.none y j) i;
  }

  pub which : (x : X) (xs : List X) → NoneAfter P Q (x ∷ xs) → P x ⊎ (¬ Q x × NoneAfter P Q xs)
  which x xs w = go w.newer w.split w.none
    where
      go : (newer : List X) → x ∷ xs ≡ newer ++ (w.it ∷ w.older) → ((y : X) → In y newer → ¬ Q y) → P x ⊎ (¬ Q x × NoneAfter P Q xs)
      go [] e none = inl (let f : w.it ≡ x = cc in subst P f w.is)
      go (y ∷ ys) e none =
          let f : y ≡ x = cc in
          let g : xs ≡ ys ++ (w.it ∷ w.older) = cc in
          inr (subst (λ z. ¬ Q z) f (none y (inl refl)), record { newer = ys; it = w.it; older = w.older; split = g; is = w.is; none = λ z i. none z (inr i) })

-- Item a of a list, counted from 1, and d for 0: an arc or a length by its number.
module _ {X : Type 0} (d : X) where
  abbrev item : List X → ℕ → X
  item xs zero = d
  item xs (suc a) = get_or xs a d

  pub item_kept : (xs more : List X) (a : ℕ) → a ≤ length xs → item (xs ++ more) a ≡ item xs a
  item_kept xs more zero h = refl
  item_kept xs more (suc a) h = get_or_append_left xs more d a (omega arith)

  pub item_new : (xs : List X) (x : X) (a : ℕ) → a ≡ length xs + 1 → item (xs ++ x ∷ []) a ≡ x
  item_new xs x zero h = absurd (omega arith)
  item_new xs x (suc a) h = get_or-append_right xs (x ∷ []) (length xs) a d refl (omega arith) ∙ ap (λ i. get_or (x ∷ []) i d) (let z : a - length xs ≡ 0 = omega arith in z)

  pub item_set : (xs : List X) (a : ℕ) (x : X) → 1 ≤ a → a ≤ length xs → item (set xs (a - 1) x) a ≡ x
  item_set xs zero x low high = absurd (omega arith)
  item_set xs (suc a) x low high = let e : suc a - 1 ≡ a = omega arith in ap (λ i. get_or (set xs i x) a d) e ∙ get_or-set_same xs a x d (omega arith)

  pub item_other : (xs : List X) (a b : ℕ) (x : X) → 1 ≤ b → ¬ (a ≡ b) → item (set xs (b - 1) x) a ≡ item xs a
  item_other xs zero b x low ne = refl
  item_other xs (suc a) b x low ne = get_or-set_other xs (b - 1) a x d (λ e. ne (omega arith))

module _ {V : Type 0} (m : Algebra V) where
  -- accepted answers, by what was tested
  pub mark_fits : (count a : ℕ) (r : Answer V) → r ≡ as_done (judged (mark_verdict count a) tt) → accepted r ≡ true → (1 ≤ a) × (a ≤ count)
  mark_fits count a r e t = go (outside count a) refl
    where
      go : (b : Bool) → outside count a ≡ b → (1 ≤ a) × (a ≤ count)
      go true f = absurd (let g = e ∙ ap (λ b. as_done {V = V} (judged (cond b (Some NoSuchArc) None) tt)) f in let h = sym t ∙ ap accepted g in cc)
      go false f = (grind (arith, nat_tests), grind (arith, nat_tests))

  pub relength_fits : (count a : ℕ) (x : V) (r : Answer V) → r ≡ as_done (judged (relength_verdict m count a x) tt) → accepted r ≡ true → (1 ≤ a) × (a ≤ count)
  relength_fits count a x r e t = go (outside count a) refl
    where
      go : (b : Bool) → outside count a ≡ b → (1 ≤ a) × (a ≤ count)
      go true f = absurd (let g = e ∙ ap (λ b. as_done {V = V} (judged (cond b (Some NoSuchArc) (cond (ltb (10 ^ 9) (m.magnitude x)) (Some TooLong) None)) tt)) f in let h = sym t ∙ ap accepted g in cc)
      go false f = (grind (arith, nat_tests), grind (arith, nat_tests))

  pub put_number : (w : Option Refusal) (i : ℕ) (r : Answer V) → r ≡ told Numbered (judged w i) → accepted r ≡ true → r ≡ Numbered i
  put_number (Some why) i r e t = absurd (let h = sym t ∙ ap accepted e in cc)
  put_number None i r e t = e

  pub same_number : (r : Answer V) (i j : ℕ) → r ≡ Numbered i → r ≡ Numbered j → i ≡ j
  same_number r i j e f = cc

  -- as many lengths as arcs
  paired : (call : Call V) (net : Net V) → length net.lengths ≡ length net.arcs → length (changed call net).lengths ≡ length (changed call net).arcs
  paired (Put start end x) net e = length-append net.lengths (x ∷ []) ∙ ap (λ i. i + 1) e ∙ sym (length-append net.arcs (new_arc start end ∷ []))
  paired (Relength a x) net e = length-set net.lengths (a - 1) x ∙ e
  paired (Close a) net e = e ∙ sym (length-set net.arcs (a - 1) (marked false (arc_at net.arcs a)))
  paired (Open a) net e = e ∙ sym (length-set net.arcs (a - 1) (marked true (arc_at net.arcs a)))
  paired _ net e = e

  pub beside : (n : ℕ) (log : List (Logged V)) → length (network n log).lengths ≡ length (network n log).arcs
  beside n [] = refl
  beside n (l ∷ log) = go (accepted l.answer) (beside n log)
    where
      go : (b : Bool) → length (network n log).lengths ≡ length (network n log).arcs → length (cond b (changed l.call (network n log)) (network n log)).lengths ≡ length (cond b (changed l.call (network n log)) (network n log)).arcs
      go true e = paired l.call (network n log) e
      go false e = e

  -- no call takes an arc away
  more : (call : Call V) (net : Net V) → length net.arcs ≤ length (changed call net).arcs
  more (Put start end x) net = omega (arith, length-append net.arcs (new_arc start end ∷ []))
  more (Close a) net = omega (arith, length-set net.arcs (a - 1) (marked false (arc_at net.arcs a)))
  more (Open a) net = omega (arith, length-set net.arcs (a - 1) (marked true (arc_at net.arcs a)))
  more _ net = omega arith

  pub grows : (n : ℕ) (l : Logged V) (log : List (Logged V)) → length (network n log).arcs ≤ length (network n (l ∷ log)).arcs
  grows n l log = go (accepted l.answer)
    where
      go : (b : Bool) → length (network n log).arcs ≤ length (cond b (changed l.call (network n log)) (network n log)).arcs
      go true = more l.call (network n log)
      go false = omega arith

-- An arc has the last length that an accepted call gave it.
use Rattle.std.proofs.Common.{◌≡◌, ℕ, ◌+◌, ◌-◌, ◌<◌, ◌≤◌, Bool, true, false, cond, List, [], ◌∷◌, ◌++◌, length, set, sym, refl, ap, ◌∙◌, subst, inl, inr, ⊎_elim, arith, length-append, length-set}
use native.Mathlib.Decide.{dec_lt, ℕ_discrete}
use Rattle.measure.specs.Algebra.{Algebra}
use Rattle.sweeps.specs.Tables.{arc_at, length_at}
use Rattle.session.specs.Nets.{Net, new_arc, marked}
use Rattle.journal.specs.declared.calls.Call.{Call}
use Rattle.journal.specs.declared.calls.Call.TheVariants.{Put, Relength, Close, Open}
use Rattle.journal.specs.declared.calls.Answer.TheVariants.{Numbered}
use Rattle.journal.specs.Answers.{accepted}
use Rattle.journal.specs.Logs.{Logged, changed, network, rows, target, handed}
use Rattle.journal.specs.Promise.{Answered, Kept}
use Rattle.journal.specs.Histories.{NoneAfter, Gives, GivesLength, LastLengths}
use Rattle.journal.proofs.Lasting.{here, later, item_kept, item_new, item_set, item_other, relength_fits, put_number, same_number, beside}

module _ {V : Type 0} (m : Algebra V) where
  module _ (a : ℕ) where
    abbrev LengthAs : V → List (Logged V) → Type 0
    LengthAs x log = NoneAfter (Gives a x) (GivesLength a) log

    -- an entry that gives it no length
    unmoved : (x : V) (l : Logged V) (log : List (Logged V)) → ¬ GivesLength a l → LengthAs x log → LengthAs x (l ∷ log)
    unmoved x l log none w = later _ _ l log none w

    module _ (n : ℕ) (l : Logged V) (log : List (Logged V)) (low : 1 ≤ a) (before : a ≤ length (network n log).arcs → LengthAs (length_at m (network n log).lengths a) log) where
      abbrev net : Net V
      net = network n log

      length_by : (call : Call V) → l.call ≡ call → accepted l.answer ≡ true → Answered m net (rows log) (target log) (handed log) call l → a ≤ length (changed call net).arcs → LengthAs (length_at m (changed call net).lengths a) (l ∷ log)
      length_by (Put start end x) is took r high = go (dec_lt (length net.arcs) a)
        where
          number : l.answer ≡ Numbered (length net.arcs + 1)
          number = put_number m _ (length net.arcs + 1) l.answer r took

          go : Dec (length net.arcs < a) → LengthAs (length_at m (net.lengths ++ x ∷ []) a) (l ∷ log)
          go (yes lt) =
              let new : a ≡ length net.arcs + 1 = omega (arith, length-append net.arcs (new_arc start end ∷ [])) in
              let e = item_new m.null net.lengths x a (new ∙ ap (λ i. i + 1) (sym (beside m n log))) in
              subst (λ y. LengthAs y (l ∷ log)) (sym e) (here _ _ l log (inl (start, end, record { is = is; number = number ∙ ap Numbered (sym new) })))
          go (no le) =
              let e = item_kept m.null net.lengths (x ∷ []) a (let b = beside m n log in omega arith) in
              subst (λ y. LengthAs y (l ∷ log)) (sym e)
              (unmoved _ l log
              (λ g. ⊎_elim (λ p. le (let f : a ≡ length net.arcs + 1 = same_number m l.answer a _ p.2.number number in omega arith)) (λ p. cc) g.1)
              (before (omega arith)))
      length_by (Relength b x) is took r high = go (ℕ_discrete a b)
        where
          fits : (1 ≤ b) × (b ≤ length net.arcs)
          fits = relength_fits m (length net.arcs) b x l.answer r took

          go : Dec (a ≡ b) → LengthAs (length_at m (set net.lengths (b - 1) x) a) (l ∷ log)
          go (yes e) =
              let f = ap (λ i. length_at m (set net.lengths (b - 1) x) i) e ∙ item_set m.null net.lengths b x fits.0 (let h = beside m n log in let k = fits.1 in omega arith) in
              subst (λ y. LengthAs y (l ∷ log)) (sym f) (here _ _ l log (inr record { is = is ∙ ap (λ i. Relength i x) (sym e); taken = took }))
          go (no ne) =
              subst (λ y. LengthAs y (l ∷ log)) (sym (item_other m.null net.lengths a b x fits.0 ne))
              (unmoved _ l log
              (λ g. ⊎_elim (λ p. cc) (λ p. ne (cc)) g.1)
              (before high))
      length_by (Close b) is took r high =
          unmoved _ l log (λ g. ⊎_elim (λ p. cc) (λ p. cc) g.1)
          (before (omega (arith, length-set net.arcs (b - 1) (marked false (arc_at net.arcs b)))))
      length_by (Open b) is took r high =
          unmoved _ l log (λ g. ⊎_elim (λ p. cc) (λ p. cc) g.1)
          (before (omega (arith, length-set net.arcs (b - 1) (marked true (arc_at net.arcs b)))))
      length_by _ is took r high = unmoved _ l log (λ g. ⊎_elim (λ p. cc) (λ p. cc) g.1) (before high)

      length_if : (b : Bool) → accepted l.answer ≡ b → Answered m net (rows log) (target log) (handed log) l.call l → a ≤ length (cond b (changed l.call net) net).arcs → LengthAs (length_at m (cond b (changed l.call net) net).lengths a) (l ∷ log)
      length_if true e r high = length_by l.call refl e r high
      length_if false e r high =
          unmoved _ l log
          (λ g. ⊎_elim (λ p. cc (ap accepted p.2.number)) (λ p. cc) g.1)
          (before high)

    given : (n : ℕ) (log : List (Logged V)) → Kept m n log → 1 ≤ a → a ≤ length (network n log).arcs → LengthAs (length_at m (network n log).lengths a) log
    given n [] kept low high = absurd (omega arith)
    given n (l ∷ log) kept low high = length_if n l log low (λ le. given n log kept.1 low le) (accepted l.answer) refl kept.0.answered high

  pub last_lengths : LastLengths m
  last_lengths n log kept a low high = given a n log kept low (let e = beside m n log in omega arith)

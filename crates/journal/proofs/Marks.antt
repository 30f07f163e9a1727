-- An arc is closed exactly if an accepted close of it has no accepted open of it after.
use Rattle.std.proofs.Common.{◌≡◌, ℕ, ◌+◌, ◌-◌, ◌<◌, ◌≤◌, Bool, true, false, cond, List, [], ◌∷◌, ◌++◌, length, set, sym, refl, ap, ◌∙◌, subst, ⊎_elim, arith, length-append, length-set}
use native.Mathlib.Decide.{dec_lt, ℕ_discrete}
use Rattle.measure.specs.Algebra.{Algebra}
use Rattle.sweeps.specs.declared.Arc.{Arc}
use Rattle.sweeps.specs.Tables.{no_arc, arc_at}
use Rattle.session.specs.Nets.{Net, new_arc, marked}
use Rattle.journal.specs.declared.calls.Call.{Call}
use Rattle.journal.specs.declared.calls.Call.TheVariants.{Put, Close, Open}
use Rattle.journal.specs.Answers.{accepted}
use Rattle.journal.specs.Logs.{Logged, changed, network, rows, target, handed}
use Rattle.journal.specs.Promise.{Answered, Kept}
use Rattle.journal.specs.Histories.{NoneAfter, Made, ClosedExactly}
use Rattle.journal.proofs.Lasting.{here, later, which, item_kept, item_new, item_set, item_other, mark_fits, beside, grows}

module _ {V : Type 0} (m : Algebra V) where
  module _ (a : ℕ) where
    abbrev Closing : List (Logged V) → Type 0
    Closing log = NoneAfter (Made (Close a)) (Made (Open a)) log

    abbrev ClosedAs : Bool → List (Logged V) → Type 0
    ClosedAs b log = (b ≡ false → Closing log) × (Closing log → b ≡ false)

    -- only an arc that there is was closed
    known : (n : ℕ) (log : List (Logged V)) → Kept m n log → Closing log → a ≤ length (network n log).arcs
    known n [] kept w = absurd (none w.newer w.split)
      where
        none : (newer : List (Logged V)) → [] ≡ newer ++ (w.it ∷ w.older) → ⊥
        none [] e = cc
        none (y ∷ ys) e = cc
    known n (l ∷ log) kept w =
        let g = grows m n l log in
        ⊎_elim
        (λ made. let r : Answered m (network n log) (rows log) (target log) (handed log) (Close a) l = subst (λ call. Answered m (network n log) (rows log) (target log) (handed log) call l) made.is kept.0.answered in
        let f = mark_fits m (length (network n log).arcs) a l.answer r made.taken in omega arith)
        (λ z. let f = known n log kept.1 z.1 in omega arith)
        (which (Made (Close a)) (Made (Open a)) l log w)

    -- an entry that neither closes nor opens it
    unmarked : (b : Bool) (l : Logged V) (log : List (Logged V)) → ¬ Made (Close a) l → ¬ Made (Open a) l → ClosedAs b log → ClosedAs b (l ∷ log)
    unmarked b l log c o h = (λ e. later _ _ l log o (h.0 e), λ w. ⊎_elim (λ p. absurd (c p)) (λ z. h.1 z.1) (which _ _ l log w))

    closing : (l : Logged V) (log : List (Logged V)) → Made (Close a) l → ClosedAs false (l ∷ log)
    closing l log p = (λ e. here _ _ l log p, λ w. refl)

    opening : (l : Logged V) (log : List (Logged V)) → Made (Open a) l → ClosedAs true (l ∷ log)
    opening l log p = (λ e. cc, λ w. ⊎_elim (λ c. cc) (λ z. absurd (z.0 p)) (which _ _ l log w))

    module _ (n : ℕ) (l : Logged V) (log : List (Logged V)) (kept : Kept m n log) (low : 1 ≤ a) (before : a ≤ length (network n log).arcs → ClosedAs (arc_at (network n log).arcs a).«open» log) where
      abbrev net : Net V
      net = network n log

      closed_by : (call : Call V) → l.call ≡ call → accepted l.answer ≡ true → Answered m net (rows log) (target log) (handed log) call l → a ≤ length (changed call net).arcs → ClosedAs (arc_at (changed call net).arcs a).«open» (l ∷ log)
      closed_by (Put start end x) is took r high = go (dec_lt (length net.arcs) a)
        where
          no_close : ¬ Made (Close a) l
          no_close p = cc

          no_open : ¬ Made (Open a) l
          no_open p = cc

          go : Dec (length net.arcs < a) → ClosedAs (arc_at (net.arcs ++ new_arc start end ∷ []) a).«open» (l ∷ log)
          go (yes lt) =
              let new : a ≡ length net.arcs + 1 = omega (arith, length-append net.arcs (new_arc start end ∷ [])) in
              let e = ap (λ (r : Arc). r.«open») (item_new no_arc net.arcs (new_arc start end) a new) in
              subst (λ b. ClosedAs b (l ∷ log)) (sym e)
              (λ f. cc, λ w. ⊎_elim (λ c. absurd (no_close c)) (λ z. absurd (let k = known n log kept z.1 in omega arith)) (which _ _ l log w))
          go (no le) =
              let e = ap (λ (r : Arc). r.«open») (item_kept no_arc net.arcs (new_arc start end ∷ []) a (omega arith)) in
              subst (λ b. ClosedAs b (l ∷ log)) (sym e) (unmarked _ l log no_close no_open (before (omega arith)))
      closed_by (Close b) is took r high = go (ℕ_discrete a b)
        where
          fits : (1 ≤ b) × (b ≤ length net.arcs)
          fits = mark_fits m (length net.arcs) b l.answer r took

          go : Dec (a ≡ b) → ClosedAs (arc_at (set net.arcs (b - 1) (marked false (arc_at net.arcs b))) a).«open» (l ∷ log)
          go (yes e) =
              let f = ap (λ i. (arc_at (set net.arcs (b - 1) (marked false (arc_at net.arcs b))) i).«open») e ∙ ap (λ (r : Arc). r.«open») (item_set no_arc net.arcs b (marked false (arc_at net.arcs b)) fits.0 fits.1) in
              subst (λ x. ClosedAs x (l ∷ log)) (sym f) (closing l log record { is = is ∙ ap Close (sym e); taken = took })
          go (no ne) =
              let f = ap (λ (r : Arc). r.«open») (item_other no_arc net.arcs a b (marked false (arc_at net.arcs b)) fits.0 ne) in
              subst (λ x. ClosedAs x (l ∷ log)) (sym f)
              (unmarked _ l log (λ p. ne (cc)) (λ p. cc)
              (before (omega (arith, length-set net.arcs (b - 1) (marked false (arc_at net.arcs b))))))
      closed_by (Open b) is took r high = go (ℕ_discrete a b)
        where
          fits : (1 ≤ b) × (b ≤ length net.arcs)
          fits = mark_fits m (length net.arcs) b l.answer r took

          go : Dec (a ≡ b) → ClosedAs (arc_at (set net.arcs (b - 1) (marked true (arc_at net.arcs b))) a).«open» (l ∷ log)
          go (yes e) =
              let f = ap (λ i. (arc_at (set net.arcs (b - 1) (marked true (arc_at net.arcs b))) i).«open») e ∙ ap (λ (r : Arc). r.«open») (item_set no_arc net.arcs b (marked true (arc_at net.arcs b)) fits.0 fits.1) in
              subst (λ x. ClosedAs x (l ∷ log)) (sym f) (opening l log record { is = is ∙ ap Open (sym e); taken = took })
          go (no ne) =
              let f = ap (λ (r : Arc). r.«open») (item_other no_arc net.arcs a b (marked true (arc_at net.arcs b)) fits.0 ne) in
              subst (λ x. ClosedAs x (l ∷ log)) (sym f)
              (unmarked _ l log (λ p. cc) (λ p. ne (cc))
              (before (omega (arith, length-set net.arcs (b - 1) (marked true (arc_at net.arcs b))))))
      closed_by _ is took r high = unmarked _ l log (λ p. cc) (λ p. cc) (before high)

      closed_if : (b : Bool) → accepted l.answer ≡ b → Answered m net (rows log) (target log) (handed log) l.call l → a ≤ length (cond b (changed l.call net) net).arcs → ClosedAs (arc_at (cond b (changed l.call net) net).arcs a).«open» (l ∷ log)
      closed_if true e r high = closed_by l.call refl e r high
      closed_if false e r high = unmarked _ l log (λ p. cc) (λ p. cc) (before high)

    closed : (n : ℕ) (log : List (Logged V)) → Kept m n log → 1 ≤ a → a ≤ length (network n log).arcs → ClosedAs (arc_at (network n log).arcs a).«open» log
    closed n [] kept low high = absurd (omega arith)
    closed n (l ∷ log) kept low high = closed_if n l log kept.1 low (λ le. closed n log kept.1 low le) (accepted l.answer) refl kept.0.answered high

  pub closed_exactly : ClosedExactly m
  closed_exactly n log kept a low high = closed a n log kept low (let e = beside m n log in omega arith)

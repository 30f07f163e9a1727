-- An arc leads from the start to the end of the accepted put that gave it its number.
use Rattle.std.proofs.Common.{◌≡◌, ℕ, ◌+◌, ◌-◌, ◌<◌, ◌≤◌, Bool, true, false, cond, List, [], ◌∷◌, ◌++◌, length, set, sym, refl, ap, ◌∙◌, subst, inl, inr, arith, length-append, length-set}
use native.Mathlib.Decide.{dec_lt, ℕ_discrete}
use Rattle.measure.specs.Algebra.{Algebra}
use Rattle.walks.specs.Rows.{In}
use Rattle.sweeps.specs.declared.Arc.{Arc}
use Rattle.sweeps.specs.Tables.{no_arc, arc_at}
use Rattle.session.specs.Nets.{Net, new_arc, marked}
use Rattle.journal.specs.declared.calls.Call.{Call}
use Rattle.journal.specs.declared.calls.Call.TheVariants.{Put, Close, Open}
use Rattle.journal.specs.declared.calls.Answer.TheVariants.{Numbered}
use Rattle.journal.specs.Answers.{accepted}
use Rattle.journal.specs.Logs.{Logged, changed, network, rows, target, handed}
use Rattle.journal.specs.Promise.{Answered, Kept}
use Rattle.journal.specs.Histories.{PutAs, EndsAsPut}
use Rattle.journal.proofs.Lasting.{item_kept, item_new, item_set, item_other, mark_fits, put_number, beside}

module _ {V : Type 0} (m : Algebra V) (a : ℕ) where
  abbrev PutIn : Arc → List (Logged V) → Type 0
  PutIn arc log = (l : Logged V) × (x : V) × In l log × PutAs a arc.start arc.end x l

  older : (arc : Arc) (l : Logged V) (log : List (Logged V)) → PutIn arc log → PutIn arc (l ∷ log)
  older arc l log p = (p.0, p.1, inr p.2, p.3)

  -- an arc with another mark has the same ends
  remarked : (b : Bool) (arc : Arc) (log : List (Logged V)) → PutIn arc log → PutIn (marked b arc) log
  remarked b arc log p = p

  module _ (n : ℕ) (l : Logged V) (log : List (Logged V)) (before : a ≤ length (network n log).arcs → PutIn (arc_at (network n log).arcs a) log) where
    abbrev net : Net V
    net = network n log

    marks : (b : Bool) (i : ℕ) → 1 ≤ i → i ≤ length net.arcs → a ≤ length net.arcs → PutIn (arc_at (set net.arcs (i - 1) (marked b (arc_at net.arcs i))) a) (l ∷ log)
    marks b i low high le = go (ℕ_discrete a i)
      where
        go : Dec (a ≡ i) → PutIn (arc_at (set net.arcs (i - 1) (marked b (arc_at net.arcs i))) a) (l ∷ log)
        go (yes e) =
            let f : arc_at (set net.arcs (i - 1) (marked b (arc_at net.arcs i))) a ≡ marked b (arc_at net.arcs a) =
            ap (arc_at (set net.arcs (i - 1) (marked b (arc_at net.arcs i)))) e ∙ item_set no_arc net.arcs i (marked b (arc_at net.arcs i)) low high ∙ ap (λ j. marked b (arc_at net.arcs j)) (sym e) in
            subst (λ arc. PutIn arc (l ∷ log)) (sym f) (remarked b (arc_at net.arcs a) (l ∷ log) (older (arc_at net.arcs a) l log (before le)))
        go (no ne) = subst (λ arc. PutIn arc (l ∷ log)) (sym (item_other no_arc net.arcs a i (marked b (arc_at net.arcs i)) low ne)) (older (arc_at net.arcs a) l log (before le))

    ends_by : (call : Call V) → l.call ≡ call → accepted l.answer ≡ true → Answered m net (rows log) (target log) (handed log) call l → a ≤ length (changed call net).arcs → PutIn (arc_at (changed call net).arcs a) (l ∷ log)
    ends_by (Put start end x) is took r high = go (dec_lt (length net.arcs) a)
      where
        number : l.answer ≡ Numbered (length net.arcs + 1)
        number = put_number m _ (length net.arcs + 1) l.answer r took

        go : Dec (length net.arcs < a) → PutIn (arc_at (net.arcs ++ new_arc start end ∷ []) a) (l ∷ log)
        go (yes lt) =
            let new : a ≡ length net.arcs + 1 = omega (arith, length-append net.arcs (new_arc start end ∷ [])) in
            subst (λ arc. PutIn arc (l ∷ log)) (sym (item_new no_arc net.arcs (new_arc start end) a new)) (l, x, inl refl, record { is = is; number = number ∙ ap Numbered (sym new) })
        go (no le) = subst (λ arc. PutIn arc (l ∷ log)) (sym (item_kept no_arc net.arcs (new_arc start end ∷ []) a (omega arith))) (older (arc_at net.arcs a) l log (before (omega arith)))
    ends_by (Close b) is took r high = let f = mark_fits m (length net.arcs) b l.answer r took in marks false b f.0 f.1 (omega (arith, length-set net.arcs (b - 1) (marked false (arc_at net.arcs b))))
    ends_by (Open b) is took r high = let f = mark_fits m (length net.arcs) b l.answer r took in marks true b f.0 f.1 (omega (arith, length-set net.arcs (b - 1) (marked true (arc_at net.arcs b))))
    ends_by _ is took r high = older (arc_at net.arcs a) l log (before high)

    ends_if : (b : Bool) → accepted l.answer ≡ b → Answered m net (rows log) (target log) (handed log) l.call l → a ≤ length (cond b (changed l.call net) net).arcs → PutIn (arc_at (cond b (changed l.call net) net).arcs a) (l ∷ log)
    ends_if true e r high = ends_by l.call refl e r high
    ends_if false e r high = older (arc_at net.arcs a) l log (before high)

  ends : (n : ℕ) (log : List (Logged V)) → Kept m n log → 1 ≤ a → a ≤ length (network n log).arcs → PutIn (arc_at (network n log).arcs a) log
  ends n [] kept low high = absurd (omega arith)
  ends n (l ∷ log) kept low high = ends_if n l log (λ le. ends n log kept.1 low le) (accepted l.answer) refl kept.0.answered high

pub ends_as_put : {V : Type 0} (m : Algebra V) → EndsAsPut m
ends_as_put m n log kept a low high = ends m a n log kept low (let e = beside m n log in omega arith)

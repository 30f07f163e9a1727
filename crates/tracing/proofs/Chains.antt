-- Chains of steps, and the ways that they begin.
use Rattle.std.proofs.Common.{◌≡◌, ℕ, List, [], ◌∷◌, ◌++◌, refl, ap, ◌∙◌, append_assoc}
use Rattle.std.proofs.lemmas.List.{map-append}
use Rattle.measure.specs.Algebra.{Algebra}
use Rattle.walks.specs.Ways.{Soonest, Later}
use Rattle.walks.proofs.Ways.{stepwise}
use Rattle.sweeps.specs.declared.Arc.{Arc}
use Rattle.tracing.specs.declared.Step.{Step}
use Rattle.tracing.specs.declared.labels.Label.{Label}
use Rattle.tracing.specs.Tables.{Tables}
use Rattle.tracing.specs.Labels.{lab, Back, Home}
use Rattle.tracing.specs.Steps.{arcs_of, end_of, WayFrom, Chain, Sound}

pub end_more : (arcs : List Arc) (x : Label) (us : List Step) (t : Step) → end_of arcs x (us ++ (t ∷ [])) ≡ lab arcs t
end_more arcs x [] t = refl
end_more arcs x (u ∷ us) t = end_more arcs (lab arcs u) us t

pub end_join : (arcs : List Arc) (x : Label) (us vs : List Step) → end_of arcs x (us ++ vs) ≡ end_of arcs (end_of arcs x us) vs
end_join arcs x [] vs = refl
end_join arcs x (u ∷ us) vs = end_join arcs (lab arcs u) us vs

pub arcs_more : (us : List Step) (t : Step) (w : List ℕ) → arcs_of (us ++ (t ∷ [])) ++ w ≡ arcs_of us ++ (t.arc ∷ w)
arcs_more us t w = ap (λ l. l ++ w) (map-append (λ (u : Step). u.arc) us (t ∷ [])) ∙ append_assoc (arcs_of us) (t.arc ∷ []) w

module _ {V : Type 0} (m : Algebra V) (T : Tables V) where
  pub chain_next : Sound m T → (x : Label) (us : List Step) (w v : List ℕ) → Chain m T x us → Soonest (Later (Back m T) (Home m T) (end_of T.arcs x us) w) v
      → Soonest (Later (Back m T) (Home m T) x (arcs_of us ++ w)) (arcs_of us ++ v)
  chain_next sound x [] w v c h = h
  chain_next sound x (t ∷ us) w v c h = (stepwise sound.steady).next_keeps x (lab T.arcs t) t.arc (arcs_of us ++ w) (arcs_of us ++ v) c.0 (chain_next sound (lab T.arcs t) us w v c.1 h)

  pub chain_way : (x : Label) (us : List Step) (w : List ℕ) → Chain m T x us → WayFrom m T (end_of T.arcs x us) w → WayFrom m T x (arcs_of us ++ w)
  chain_way x [] w c h = h
  chain_way x (t ∷ us) w c h = (lab T.arcs t, (c.0, chain_way (lab T.arcs t) us w c.1 h))

  pub chain_more : (x : Label) (us : List Step) (t : Step) → Chain m T x us → Back m T (end_of T.arcs x us) t.arc (lab T.arcs t) → Chain m T x (us ++ (t ∷ []))
  chain_more x [] t c b = (b, tt)
  chain_more x (u ∷ us) t c b = (c.0, chain_more (lab T.arcs u) us t c.1 b)

  pub chain_part : (x : Label) (us vs : List Step) → Chain m T x (us ++ vs) → Chain m T x us × Chain m T (end_of T.arcs x us) vs
  chain_part x [] vs c = (tt, c)
  chain_part x (u ∷ us) vs c = let r = chain_part (lab T.arcs u) us vs c.1 in ((c.0, r.0), r.1)

  pub chain_join : (x : Label) (us vs : List Step) → Chain m T x us → Chain m T (end_of T.arcs x us) vs → Chain m T x (us ++ vs)
  chain_join x [] vs c d = d
  chain_join x (u ∷ us) vs c d = (c.0, chain_join (lab T.arcs u) us vs c.1 d)

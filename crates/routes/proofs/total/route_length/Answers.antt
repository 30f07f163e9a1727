use Rattle.std.proofs.Common.{◌≡◌, List, [], ◌∷◌, length, Option, Some, None, MatchOption, fold, Iter, Bor, sym, refl, ap, ◌∙◌, arith, rules}
use Rattle.std.proofs.lemmas.Fn.{fronts}
use Rattle.std.specs.Iterator.{Yields, YieldsThen}
use Rattle.std.specs.List.{FoldsTo}
use Rattle.measure.specs.Algebra.{Algebra, joined}
use Rattle.routes.specs.Total.{further}
use Rattle.routes.proofs.total.route_length.Goals as goal

module _ {V : Type 0} (m : Algebra V) where
  absent_along : (bs : List V) → fold (further m) None bs ≡ None
  absent_along [] = refl
  absent_along (b ∷ bs) = absent_along bs

  none_left : (a : Option V) (bs : List V) → length bs ≡ 0 → fold (further m) a bs ≡ a
  none_left a [] e = refl
  none_left a (b ∷ bs) e = absurd (omega arith)

  module _ {F : Type 0} (Turn : F × V → Bor V → F × V → Type 0) (turn : (p : F × V) (x : Bor V) (q : F × V) → Turn p x q → joined m p.1 x.now ≡ Some q.1) where
    turns : (xs : List (Bor V)) (s t : Iter V) (p q : F × V) → Yields fronts s xs t → FoldsTo Turn p xs q → fold (further m) (Some p.1) s.rest.now ≡ fold (further m) (Some q.1) t.rest.now
    turns [] s t p q y f = λ j. fold (further m) (Some (f j).1) (y j).rest.now
    turns (x ∷ xs) s t p q y f = ap (fold (further m) (Some p.1)) y.1 ∙ ap (λ o. fold (further m) o y.0.rest.now) (turn p x f.0 f.1) ∙ turns xs y.0 t f.0 q y.2 f.2

    folded : (xs : List (Bor V)) (o : Option (Bor V)) (s u : Iter V) (p q : F × V) (r : Option V) (Stop : Bor V → Type 0) → ((x : Bor V) → Stop x → (joined m q.1 x.now ≡ None) × (r ≡ None)) → YieldsThen fronts s xs o u → FoldsTo Turn p xs q → MatchOption o (r ≡ Some q.1) Stop → r ≡ fold (further m) (Some p.1) s.rest.now
    folded xs None s u p q r Stop stop y f e = e ∙ sym (turns xs s y.0 p q y.1 f ∙ none_left (Some q.1) y.0.rest.now y.2.0)
    folded xs (Some x) s u p q r Stop stop y f e =
        let h = stop x e in
        h.1 ∙ sym (turns xs s y.0 p q y.1 f ∙ ap (fold (further m) (Some q.1)) y.2 ∙ ap (λ o. fold (further m) o u.rest.now) h.0 ∙ absent_along u.rest.now)

pub returns : goal.returns
returns g c =
    let h = c.try_fold.ensures.ran in
    let m = g.M.Measure.algebra in
    folded m _ (λ p x q k. search rules) h.0 h.1 c.iter.result c.try_fold.new.self _ _ c.try_fold.result _ (λ x k. (search rules, search rules)) h.4 h.5 h.6 ∙ (λ j. fold (further m) (Some (c.null.ensures j)) (c.iter.ensures.rest j))

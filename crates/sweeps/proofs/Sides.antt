-- A loop over two slices side by side.
use Rattle.std.proofs.Common.{◌≡◌, ◌<◌, min, List, length, get_or, Some, None, Option, Bor, Iter, ap, ◌∙◌}
use Rattle.std.proofs.iter.Yields.{fronts}
use Rattle.std.proofs.lemmas.Iterator.{zips}
use Rattle.std.proofs.lemmas.Slice.Zip.{zip_turn, zip_end}
use Rattle.std.specs.Iterator.{Yields}
use Rattle.std.specs.Iterator.Adapters.{zip_first, zip_second}
use Rattle.std.specs.Slice.Iter.{iter_rest}
use Rattle.std.specs.declared.iter.Zip.{Zip}

module _ {A B : Type 0} {ks : List A} {vs : List B} {it : Iter A} {z s : Zip (Iter A) (Iter B)} (gives : s ≡ z) (first : zip_first z ≡ it) (from : iter_rest it ≡ ks) (second : iter_rest (zip_second z) ≡ vs) where
  one_side : iter_rest (zip_first s) ≡ ks
  one_side = ap (λ y. iter_rest (zip_first y)) gives ∙ ap iter_rest first ∙ from

  other_side : iter_rest (zip_second s) ≡ vs
  other_side = ap (λ y. iter_rest (zip_second y)) gives ∙ second

  module _ (xs : List (Bor A × Bor B)) (t u : Zip (Iter A) (Iter B)) (yielded : Yields (zips fronts fronts) s xs t) {r : Option (Bor A × Bor B)} where
    -- which items an iteration has
    pub sides_turn : (p : Bor A × Bor B) → r ≡ Some p → zips fronts fronts t r u
        → (length xs < length ks) × (length xs < length vs) × ((d : A) → p.0.now ≡ get_or ks (length xs) d) × ((d : B) → p.1.now ≡ get_or vs (length xs) d)
    sides_turn p is step = zip_turn ks vs xs s t u r one_side other_side yielded p is step

    -- how many there were
    pub sides_end : r ≡ None → zips fronts fronts t r u → length xs ≡ min (length ks) (length vs)
    sides_end is step = zip_end ks vs xs s t u r one_side other_side yielded is step

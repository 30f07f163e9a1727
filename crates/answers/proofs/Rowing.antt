-- A row read place by place.
use Rattle.std.proofs.Common.{◌≡◌, ℕ, zero, suc, ◌+◌, ◌<◌, ◌≤◌, List, [], ◌∷◌, ◌++◌, length, take, Some, None, Option, Result, refl, arith, take_all, length-append}
use Rattle.std.proofs.lemmas.Bool.Decides.{nat_tests}
use Rattle.std.proofs.lemmas.Option.{slice_get_cases, slice_get_past, slice_get_within, get_or_from_slice_get}
use Rattle.std.proofs.lemmas.List.{take_more, length-take}
use Rattle.std.specs.List.{slice_get}
use Rattle.std.specs.Result.{result_unwrap_or}
use Rattle.measure.specs.Algebra.{Algebra}
use Rattle.walks.specs.Rows.{Table}
use Rattle.sweeps.specs.declared.refusal.Refusal.{Refusal}
use Rattle.session.specs.Settled.{length_answer}

-- the front of a row is read
abbrev pub Front : {V : Type 0} → List V → List V → Type 0
Front row read = read ≡ take (length read) row

pub front_more : {V : Type 0} (row read read' : List V) (x : V) → Front row read → slice_get row (length read) ≡ Some x → read' ≡ read ++ x ∷ [] → Front row read'
front_more {V} row read read' x front here more = grind (arith, take_more row (length read) x, get_or_from_slice_get row (length read) x x, slice_get_within row (length read) x, length-append {A = V})

pub front_all : {V : Type 0} (row read : List V) → Front row read → slice_get row (length read) ≡ None → read ≡ row
front_all {V} row read front none = grind (arith, slice_get_cases row (length read), take_all {A = V})

slice_get-take : {V : Type 0} (xs : List V) (n i : ℕ) → i < n → slice_get (take n xs) i ≡ slice_get xs i
slice_get-take xs zero i h = absurd (omega arith)
slice_get-take [] (suc n) i h = refl
slice_get-take (x ∷ xs) (suc n) zero h = refl
slice_get-take (x ∷ xs) (suc n) (suc i) h = slice_get-take xs n i (omega arith)

-- the length at a place, none where the call is refused
pub told : {V : Type 0} (m : Algebra V) (n k : ℕ) (t : Table V) (node i j : ℕ) (r : Result (Option V) Refusal) (o : Option V) → 1 ≤ node → node ≤ n → i ≡ j → r ≡ length_answer m n k t node (i + 1) → o ≡ result_unwrap_or r None → slice_get (take k (t node)) j ≡ o
told {V} m n k t node i j r o low high same e f = grind (arith, nat_tests, slice_get-take {V = V}, slice_get_past {X = V}, length-take {A = V})

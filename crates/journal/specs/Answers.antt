-- Answers, by how the calls give them.
use Rattle.std.specs.Prelude.{ℕ, Bool, true, false, List, ◌∷◌, Ok, Err, Result}
use Rattle.sweeps.specs.declared.refusal.Refusal.{Refusal}
use Rattle.sweeps.specs.declared.refusal.Refusal.TheVariants.{NegativeCircuit}
use Rattle.journal.specs.declared.calls.Answer.{Answer}
use Rattle.journal.specs.declared.calls.Answer.TheVariants.{Refused, Done, Solved, Path}

-- the reason is a circuit before null
abbrev pub is_circuit : Refusal → Bool
is_circuit NegativeCircuit = true
is_circuit _ = false

module _ {V : Type 0} where
  -- that the call is refused, or f of what it gave
  abbrev pub told : {T : Type 0} → (T → Answer V) → Result T Refusal → Answer V
  told f (Ok x) = f x
  told f (Err why) = Refused why

  abbrev pub as_done : Result (Unit {0}) Refusal → Answer V
  as_done = told (λ u. Done)

  abbrev pub accepted : Answer V → Bool
  accepted (Refused why) = false
  accepted _ = true

  -- refused by a circuit before null
  abbrev pub by_circuit : Answer V → Bool
  by_circuit (Refused why) = is_circuit why
  by_circuit _ = false

  -- how many of the n nodes have rows that the answer speaks of: all after an accepted solve, else none
  abbrev pub nodes_said : ℕ → Answer V → ℕ
  nodes_said n (Solved passes null) = n
  nodes_said n _ = 0

  -- how many cells of the path table the answer speaks of
  abbrev pub path_said : Answer V → ℕ
  path_said (Path count x) = count
  path_said _ = 0

  -- these paths, with w before them if the answer hands one out
  abbrev pub and_path : Answer V → List ℕ → List (List ℕ) → List (List ℕ)
  and_path (Path count x) w ws = w ∷ ws
  and_path _ w ws = ws

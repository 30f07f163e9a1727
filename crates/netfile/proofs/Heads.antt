-- The record at the head of some bytes: what is known where one is found, and that a good one is found.
use Rattle.std.proofs.Common.{◌≡◌, ℕ, ◌+◌, ◌≤◌, true, List, [], ◌∷◌, ◌++◌, length, get_or, take, drop, Some, Ok, ap, ◌∙◌, arith, length-append, take_at}
use Rattle.std.proofs.lemmas.Bool.Decides.{nat_tests}
use Rattle.columns.specs.declared.kind.Kind.{Kind}
use Rattle.netfile.specs.declared.progress.Stage.{Stage}
use Rattle.netfile.specs.declared.records.Mark.{Mark}
use Rattle.netfile.specs.Records.{letters, spelled, body_size, in_order, found, body_at}

-- the letters that spell a mark are its letters
pub spelled_letters : (a b : ℕ) (m : Mark) → spelled a b ≡ Some m → letters m ≡ a ∷ b ∷ []
spelled_letters a b m e = grind (arith, nat_tests)

pub record Headed (stage : Stage) (kind : Kind) (rest : List ℕ) (m : Mark) : Type 0 where
  pub two : 2 ≤ length rest
  pub spelt : spelled (get_or rest 0 0) (get_or rest 1 0) ≡ Some m
  pub ordered : in_order stage m ≡ true
  pub room : 2 + body_size m kind ≤ length rest

module _ (stage : Stage) (kind : Kind) (rest : List ℕ) (m : Mark) where
  pub headed : found stage kind rest ≡ Ok m → Headed stage kind rest m
  headed e = grind (arith, nat_tests)

  front : (xs : List ℕ) → 2 ≤ length xs → (n : ℕ) → get_or xs 0 0 ∷ get_or xs 1 0 ∷ take n (drop 2 xs) ≡ take (2 + n) xs
  front xs h n = grind (arith, nat_tests)

  -- the bytes of the record
  pub headed_bytes : found stage kind rest ≡ Ok m → letters m ++ body_at m kind rest ≡ take (2 + body_size m kind) rest
  headed_bytes e =
      let h = headed e in
      ap (λ l. l ++ body_at m kind rest) (spelled_letters _ _ m h.spelt) ∙ front rest h.two (body_size m kind)

-- a record that may stand here, with a whole body, is found at the head of its bytes
module _ (stage : Stage) (kind : Kind) (m : Mark) (body more : List ℕ) (ordered : in_order stage m ≡ true) (whole : length body ≡ body_size m kind) where
  pub found_again : found stage kind (letters m ++ (body ++ more)) ≡ Ok m
  found_again = grind (arith, nat_tests, length-append {A = ℕ})

  pub body_again : body_at m kind (letters m ++ (body ++ more)) ≡ body
  body_again = grind (arith, nat_tests, take_at)

-- One number more of a row's text.
use Rattle.std.proofs.Common.{◌≡◌, ℕ, zero, suc, ◌+◌, ◌<◌, List, [], ◌∷◌, ◌++◌, length, get_or, take, ℤ, pos, sym, refl, ap, ◌∙◌, subst, append_assoc, arith}
use Rattle.std.specs.Fmt.{signed_decimal}
use Rattle.std.proofs.lemmas.List.{take_more}
use Rattle.columns.specs.Text.{row_text}

row_push : (c : ℤ) (cs : List ℤ) (d : ℤ) → row_text ((c ∷ cs) ++ d ∷ []) ≡ row_text (c ∷ cs) ++ 47 ∷ signed_decimal d
row_push c [] d = refl
row_push c (e ∷ cs) d = ap (λ t. signed_decimal c ++ 47 ∷ t) (row_push e cs d) ∙ sym (append_assoc (signed_decimal c) (47 ∷ row_text (e ∷ cs)) (47 ∷ signed_decimal d))

pub row_first : (cs : List ℤ) → 0 < length cs → row_text (take (0 + 1) cs) ≡ signed_decimal (get_or cs 0 (pos 0))
row_first [] h = absurd (omega arith)
row_first (c ∷ cs) h = refl

pub row_more : (cs : List ℤ) (i : ℕ) → 0 < i → i < length cs → row_text (take (i + 1) cs) ≡ row_text (take i cs) ++ 47 ∷ signed_decimal (get_or cs i (pos 0))
row_more [] i p h = absurd (omega arith)
row_more (c ∷ cs) i p h = ap row_text (take_more (c ∷ cs) i (pos 0) h) ∙ row_snoc i p
  where
    row_snoc : (i : ℕ) → 0 < i → row_text (take i (c ∷ cs) ++ get_or (c ∷ cs) i (pos 0) ∷ []) ≡ row_text (take i (c ∷ cs)) ++ 47 ∷ signed_decimal (get_or (c ∷ cs) i (pos 0))
    row_snoc zero p = absurd (omega arith)
    row_snoc (suc i) p = row_push c (take i cs) (get_or (c ∷ cs) (suc i) (pos 0))

pub row_more_by_two : (cs : List ℤ) (i : ℕ) → 0 < i → i < length cs → row_text (take (i + 1) cs) ≡ (row_text (take i cs) ++ 47 ∷ []) ++ signed_decimal (get_or cs i (pos 0))
row_more_by_two cs i p h = row_more cs i p h ∙ sym (append_assoc (row_text (take i cs)) (47 ∷ []) (signed_decimal (get_or cs i (pos 0))))

pub row_none : (cs : List ℤ) (i : ℕ) → i ≡ 0 → 0 < length cs → row_text (take (i + 1) cs) ≡ row_text (take i cs) ++ signed_decimal (get_or cs i (pos 0))
row_none cs i e h = subst (λ k. row_text (take (k + 1) cs) ≡ row_text (take k cs) ++ signed_decimal (get_or cs k (pos 0))) (sym e) (row_first cs h)

-- one turn of the loop, after a stroke or as the first
pub step_more : (cs : List ℤ) (i : ℕ) → 0 < i → i < length cs → {out mid before : List ℕ} {col : ℤ} → out ≡ mid ++ signed_decimal col → mid ≡ before ++ 47 ∷ [] → col ≡ get_or cs i (pos 0) → before ≡ row_text (take i cs) → out ≡ row_text (take (i + 1) cs)
step_more cs i p h a b e f = let r = row_more_by_two cs i p h in cc

pub step_first : (cs : List ℤ) (i : ℕ) → i ≡ 0 → 0 < length cs → {out before : List ℕ} {col : ℤ} → out ≡ before ++ signed_decimal col → col ≡ get_or cs i (pos 0) → before ≡ row_text (take i cs) → out ≡ row_text (take (i + 1) cs)
step_first cs i z h a e f = let r = row_none cs i z h in cc

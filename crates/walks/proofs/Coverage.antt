-- What the rows of a run cover.
use Rattle.std.proofs.Common.{◌≡◌, ℕ, zero, suc, ◌+◌, ◌*◌, ◌^◌, ◌≤◌, ◌⊎◌, List, [], ◌∷◌, length, sym, refl, subst, inl, inr, arith}
use Rattle.measure.specs.Algebra.{Algebra, Laws}
use Rattle.walks.specs.Networks.{Network, Open, WellFormed}
use Rattle.walks.specs.Walks.{Walk, walk_length, Counted}
use Rattle.walks.specs.Rows.{Ascending, Covers, Table}
use Rattle.walks.specs.Method.{odd}
use Rattle.walks.specs.Runs.{Takes, Run}
use Rattle.walks.proofs.Runs.{Walked, Sound, pass_sound, pass_keeps, pass_carries, takes_either}

-- p passes bring no absent join
abbrev pub Small : {V : Type 0} → Network V → ℕ → Type 0
Small net p = p * net.nodes * 10 ^ 9 + 10 ^ 9 ≤ 2 ^ 62

module _ {V : Type 0} {m : Algebra V} (laws : Laws m) (net : Network V) (formed : WellFormed m net) (k s : ℕ) (rows : ℕ → Table V) (run : Run m net k s rows) where
  pub rows_ascending : (p j : ℕ) → Ascending m (rows p j)
  rows_ascending zero j = (run.start j).ascending
  rows_ascending (suc p) j = (run.passes p j).ascending

  pub rows_short : (p j : ℕ) → length (rows p j) ≤ k
  rows_short zero j = (run.start j).short
  rows_short (suc p) j = (run.passes p j).short

  pub rows_sound : (p : ℕ) → Sound m net s (p * net.nodes) (rows p)
  rows_sound zero j x i =
      let h = (run.start j).from x i in
      record { walk = []; leads = sym h.0; is = sym h.1; few = omega arith }
  rows_sound (suc p) j x i =
      subst (λ b. Walked m net s b j x) (omega arith) (pass_sound laws net formed k s (odd (suc p)) (rows p) (rows (suc p)) (run.passes p) (p * net.nodes) (rows_sound p) j x i)

  pub rows_keep : (p j : ℕ) (x : V) → Covers m k (rows p j) x → Covers m k (rows (suc p) j) x
  rows_keep p = pass_keeps laws net formed k s (odd (suc p)) (rows p) (rows (suc p)) (run.passes p) (rows_ascending p)

  pub rows_carry : (p : ℕ) → Small net (suc p) → (a : ℕ) (w : List ℕ) → Open net a → Takes (odd (suc p)) (net.start a) (net.end a) → Counted m net (a ∷ w)
      → Covers m k (rows (suc p) (net.start a)) (walk_length m net w) → Covers m k (rows (suc p) (net.end a)) (walk_length m net (a ∷ w))
  rows_carry p small = pass_carries laws net formed k s (odd (suc p)) (rows p) (rows (suc p)) (run.passes p) (suc p * net.nodes) small (rows_sound (suc p))

  rows_null : (p : ℕ) → Covers m k (rows p s) m.null
  rows_null zero = (run.start s).covers m.null (refl, refl)
  rows_null (suc p) = rows_keep p s m.null (rows_null p)

  pub rows_cover : (p : ℕ) → Small net (suc p) → (j : ℕ) (w : List ℕ) → Walk net s j w → Counted m net w → length w ≤ p → Covers m k (rows (suc p) j) (walk_length m net w)
  rows_cover p small j [] h counted few = subst (λ i. Covers m k (rows (suc p) i) m.null) h (rows_null (suc p))
  rows_cover zero small j (a ∷ w) h counted few = absurd (omega arith)
  rows_cover (suc p) small j (a ∷ w) h counted few =
      subst (λ i. Covers m k (rows (suc (suc p)) i) (walk_length m net (a ∷ w))) h.1
      (go (rows_cover p (omega arith) (net.start a) w h.2 (omega arith) (omega arith)) (takes_either (odd (suc p)) (net.start a) (net.end a) (formed a h.0).apart))
    where
      go : Covers m k (rows (suc p) (net.start a)) (walk_length m net w) → Takes (odd (suc p)) (net.start a) (net.end a) ⊎ Takes (odd (suc (suc p))) (net.start a) (net.end a)
          → Covers m k (rows (suc (suc p)) (net.end a)) (walk_length m net (a ∷ w))
      go ih (inl t) = rows_keep (suc p) (net.end a) (walk_length m net (a ∷ w)) (rows_carry p (omega arith) a w h.0 t counted ih)
      go ih (inr t) = rows_carry (suc p) small a w h.0 t counted (rows_keep (suc p) (net.start a) (walk_length m net w) ih)

  -- a pass from the second on that changes nothing has covered everything
  pub fixed_cover : (p : ℕ) → Small net (suc (suc p)) → ((j : ℕ) → rows (suc (suc p)) j ≡ rows (suc p) j)
      → (j : ℕ) (w : List ℕ) → Walk net s j w → Counted m net w → Covers m k (rows (suc (suc p)) j) (walk_length m net w)
  fixed_cover p small quiet j [] h counted = subst (λ i. Covers m k (rows (suc (suc p)) i) m.null) h (rows_null (suc (suc p)))
  fixed_cover p small quiet j (a ∷ w) h counted =
      subst (λ i. Covers m k (rows (suc (suc p)) i) (walk_length m net (a ∷ w))) h.1
      (go (fixed_cover p small quiet (net.start a) w h.2 (omega arith)) (takes_either (odd (suc p)) (net.start a) (net.end a) (formed a h.0).apart))
    where
      go : Covers m k (rows (suc (suc p)) (net.start a)) (walk_length m net w) → Takes (odd (suc p)) (net.start a) (net.end a) ⊎ Takes (odd (suc (suc p))) (net.start a) (net.end a)
          → Covers m k (rows (suc (suc p)) (net.end a)) (walk_length m net (a ∷ w))
      go ih (inl t) = rw (quiet (net.end a)) (rows_carry p (omega arith) a w h.0 t counted (rw (quiet (net.start a)) at ih))
      go ih (inr t) = rows_carry (suc p) small a w h.0 t counted ih

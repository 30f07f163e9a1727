-- The passes determine the rows.
use Rattle.std.proofs.Common.{◌≡◌, ℕ, zero, suc, ◌+◌, Bool, true, false, List, sym, subst, inl, inr, arith}
use Rattle.measure.specs.Algebra.{Algebra, Laws}
use Rattle.walks.specs.Networks.{Network, Open, WellFormed}
use Rattle.walks.specs.Rows.{In, FirstOf, Table}
use Rattle.walks.specs.Method.{odd}
use Rattle.walks.specs.Runs.{Takes, Offered, Pass, Run}
use Rattle.walks.proofs.Rows.{unique}
use Rattle.walks.proofs.Runs.{Room, room_none, room_less}

module _ {V : Type 0} {m : Algebra V} (laws : Laws m) (k : ℕ) where
  pub first_once : (P Q : V → Type 0) (xs ys : List V) → ((v : V) → P v → Q v) → ((v : V) → Q v → P v) → FirstOf m k P xs → FirstOf m k Q ys → xs ≡ ys
  first_once P Q xs ys f g h l =
      unique laws k xs ys h.ascending l.ascending h.short l.short (λ v i. l.covers v (f v (h.from v i))) (λ v i. h.covers v (g v (l.from v i)))

module _ {V : Type 0} {m : Algebra V} (laws : Laws m) (net : Network V) (formed : WellFormed m net) (k s : ℕ) where
  module _ (down : Bool) (old new old' new' : Table V) (same : (j : ℕ) → old j ≡ old' j) (pass : Pass m net k s down old new) (pass' : Pass m net k s down old' new') where
    at : (j : ℕ) → ((a : ℕ) → Open net a → Takes down (net.start a) j → new (net.start a) ≡ new' (net.start a)) → new j ≡ new' j
    at j ih = first_once laws k (Offered m net k s down old new j) (Offered m net k s down old' new' j) (new j) (new' j) to back (pass j) (pass' j)
      where
        to : (x : V) → Offered m net k s down old new j x → Offered m net k s down old' new' j x
        to x (inl i) = inl (subst (In x) (same j) i)
        to x (inr h) = inr (record { arc = h.arc; is_open = h.is_open; into = h.into; taken = h.taken; old = h.old; there = subst (In h.old) (ih h.arc h.is_open h.taken) h.there; sum = h.sum })

        back : (x : V) → Offered m net k s down old' new' j x → Offered m net k s down old new j x
        back x (inl i) = inl (subst (In x) (sym (same j)) i)
        back x (inr h) = inr (record { arc = h.arc; is_open = h.is_open; into = h.into; taken = h.taken; old = h.old; there = subst (In h.old) (sym (ih h.arc h.is_open h.taken)) h.there; sum = h.sum })

    within : (f j : ℕ) → Room down net.nodes j f → new j ≡ new' j
    within zero j r = at j (λ a o t. let p = formed a o in room_none down net.nodes (net.start a) j p.start_low p.start_high t r)
    within (suc f) j r = at j (λ a o t. within f (net.start a) (room_less down net.nodes (net.start a) j f t r))

  enough : (down : Bool) (n j : ℕ) → Room down n j (n + j)
  enough true n j = omega arith
  enough false n j = omega arith

  pub rows_once : (rows rows' : ℕ → Table V) → Run m net k s rows → Run m net k s rows' → (p j : ℕ) → rows p j ≡ rows' p j
  rows_once rows rows' r r' zero j = first_once laws k (λ x. (j ≡ s) × (x ≡ m.null)) (λ x. (j ≡ s) × (x ≡ m.null)) (rows 0 j) (rows' 0 j) (λ v p. p) (λ v p. p) (r.start j) (r'.start j)
  rows_once rows rows' r r' (suc p) j =
      within (odd (suc p)) (rows p) (rows (suc p)) (rows' p) (rows' (suc p)) (rows_once rows rows' r r' p) (r.passes p) (r'.passes p) (net.nodes + j) j (enough (odd (suc p)) net.nodes j)

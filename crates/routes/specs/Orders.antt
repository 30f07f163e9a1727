-- The order of routes is total.
use Rattle.std.proofs.Common.{◌≡◌, ℕ, ◌≤◌, false, Ordering, Less, Equal, Greater, sym, refl, ap, ◌∙◌, inl, inr, arith}
use Rattle.std.specs.Cmp.{IsTotalOrder}
use Rattle.std.specs.Ordering.{nat_cmp, ordering_reverse, ordering_then, is_lt}
use Rattle.std.proofs.lemmas.Bool.Decides.{nat_tests}
use Rattle.std.proofs.lemmas.Cmp.{nat_cmp_total, on_total, then_total}
use Rattle.measure.specs.Algebra.{Algebra, Laws}
use Rattle.routes.specs.declared.ranking.Route.{Route}
use Rattle.routes.specs.Ranking.{route_compare, NotAfter}

number_equal : (a b : ℕ) → nat_cmp a b ≡ Equal → a ≡ b
number_equal a b h = grind (arith, nat_tests)

not_below : (a b : ℕ) → is_lt (nat_cmp b a) ≡ false → a ≤ b
not_below a b h = grind (arith, nat_tests)

module _ {V : Type 0} {m : Algebra V} (laws : Laws m) where
  by_length : IsTotalOrder m.compare
  by_length = record {
    antisymm = λ a b. laws.converse b a;
    trans = laws.transitive;
    congr = λ a b c e. ap (λ v. m.compare v c) (laws.same a b e);
  }

  pub total_order : IsTotalOrder (route_compare m)
  total_order = then_total (on_total (λ (r : Route V). r.length) by_length) (on_total (λ (r : Route V). r.number) nat_cmp_total)

  pub flipped : (a b : Route V) → route_compare m a b ≡ ordering_reverse (route_compare m b a)
  flipped = total_order.antisymm

  pub transitive : (a b c : Route V) → route_compare m a b ≡ Less → route_compare m b c ≡ Less → route_compare m a c ≡ Less
  transitive = total_order.trans

  alike_by : (a b : Route V) (o : Ordering) → m.compare a.length b.length ≡ o → ordering_then o (nat_cmp a.number b.number) ≡ Equal → a ≡ b
  alike_by a b Less p e = absurd cc
  alike_by a b Equal p e =
      let x = laws.same a.length b.length p in
      let y = number_equal a.number b.number e in
      (λ j. record { number = y j; length = x j })
  alike_by a b Greater p e = absurd cc

  -- routes that compare the same are one value
  pub alike : (a b : Route V) → route_compare m a b ≡ Equal → a ≡ b
  alike a b e = alike_by a b (m.compare a.length b.length) refl e

  decided_by : (a b : Route V) (o : Ordering) → m.compare b.length a.length ≡ o → is_lt (ordering_then o (nat_cmp b.number a.number)) ≡ false → NotAfter m a b
  decided_by a b Less e h = absurd cc
  decided_by a b Equal e h = inr (sym (laws.same b.length a.length e), not_below a.number b.number h)
  decided_by a b Greater e h = inl (laws.converse b.length a.length ∙ ap ordering_reverse e)

  -- what does not come after by the order may stand in front
  pub in_front : (a b : Route V) → is_lt (route_compare m b a) ≡ false → NotAfter m a b
  in_front a b h = decided_by a b (m.compare b.length a.length) refl h

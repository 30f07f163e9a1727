-- Which orders are made.
use Rattle.std.specs.Prelude.{◌≡◌, ℕ, cond, ◌||◌, Some, None, Ok, Err, Option, Result, ◌==◌, nat_lt}
use Rattle.sweeps.specs.declared.order.Order.{Order}
use Rattle.sweeps.specs.declared.refusal.Refusal.{Refusal}
use Rattle.sweeps.specs.declared.refusal.Refusal.TheVariants.{RowWidth, NoSuchNode}

-- why no order is made of k and a source, if none is
abbrev pub order_verdict : ℕ → ℕ → Option Refusal
order_verdict k source = cond (k == 0 || nat_lt 20 k) (Some RowWidth) (cond (source == 0 || nat_lt 1000 source) (Some NoSuchNode) None)

pub record OrderOf (k source : ℕ) (order : Order) : Type 0 where
  pub accepted : order_verdict k source ≡ None
  pub width : order.k ≡ k
  pub from : order.source ≡ source

abbrev pub OrderMade : ℕ → ℕ → Result Order Refusal → Type 0
OrderMade k source (Ok order) = OrderOf k source order
OrderMade k source (Err e) = order_verdict k source ≡ Some e

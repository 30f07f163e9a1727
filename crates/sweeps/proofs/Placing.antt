-- What placing a length keeps from cell to cell.
use Rattle.std.proofs.Common.{◌≡◌, ℕ, zero, suc, ◌+◌, ◌-◌, ◌<◌, ◌≤◌, Bool, true, false, ◌&&◌, ◌||◌, ltb, List, [], ◌∷◌, ◌++◌, length, get_or, take, drop, set, Ordering, Less, Equal, Greater, sym, refl, ap, ◌∙◌, inl, inr, append_assoc, arith, length-append, length-set, take-append-drop, length-take, length-drop}
use borrow.Rule.Slice.PartMut.{put_mid}
use Rattle.std.proofs.lemmas.Slice.{take-put_mid, drop-put_mid}
use lib.Seq.{take-append-add}
use Rattle.std.proofs.lemmas.List.{take_more, take_more_set, drop_more, get_or-take, drop-take, drop-set-lt, drop_all, take_all, take_at, take-take, get_or_default}
use Rattle.std.proofs.lemmas.Bool.{lt-ltb, le-ltb, cases_lt, and_parts, cond_both, ltb-true, true≢false, false≢true}
use Rattle.std.specs.Ordering.{is_eq, is_gt, ordering_reverse}
use Rattle.measure.specs.Algebra.{Algebra, Laws, Before}
use Rattle.walks.specs.Rows.{BeforeAll, Ascending}
use Rattle.walks.specs.Method.{choose, place}
use Rattle.walks.proofs.Orders.{greater}
use Rattle.sweeps.specs.Places.{fresh, first_cell, RowPlaced}

pub tells_after : (o : Ordering) → true ≡ is_gt o → o ≡ Greater
tells_after Less e = absurd (true≢false e)
tells_after Equal e = absurd (true≢false e)
tells_after Greater e = refl

pub tells_same : (o : Ordering) → true ≡ is_eq o → o ≡ Equal
tells_same Less e = absurd (true≢false e)
tells_same Equal e = refl
tells_same Greater e = absurd (true≢false e)

tells_before : (o : Ordering) → false ≡ is_gt o → false ≡ is_eq o → o ≡ Less
tells_before Less e f = refl
tells_before Equal e f = absurd (false≢true f)
tells_before Greater e f = absurd (false≢true e)

pub or_true : (a : Bool) → (a || true) ≡ true
or_true true = refl
or_true false = refl

pub or_false : (a : Bool) → (a || false) ≡ a
or_false true = refl
or_false false = refl

module _ {V : Type 0} (x : V) (cells0 : List V) where
  -- the first i cells have moved on by one to let x in
  pub record Shifts (i : ℕ) (cells : List V) (carry : V) : Type 0 where
    pub size : length cells ≡ length cells0
    pub ahead : drop i cells ≡ drop i cells0
    pub moved : take i cells ++ carry ∷ [] ≡ x ∷ take i cells0

  pub shifts_none : Shifts 0 cells0 x
  shifts_none = record { size = refl; ahead = refl; moved = refl }

  pub shifts_more : (i : ℕ) (cells : List V) (carry y : V) → i < length cells0 → y ≡ get_or cells i y → Shifts i cells carry → Shifts (i + 1) (set cells i carry) y
  shifts_more i cells carry y lt0 read h =
      let lt : i < length cells = omega (arith, h.size) in
      let past : i < i + 1 = omega arith in
      let a = drop_more cells i y lt in
      let b = drop_more cells0 i y lt0 in
      let ahead = h.ahead in
      let heads : get_or cells i y ≡ get_or cells0 i y = cc in
      let tails : drop (i + 1) cells ≡ drop (i + 1) cells0 = cc in
      record {
        size = length-set cells i carry ∙ h.size;
        ahead = drop-set-lt (i + 1) cells i carry past ∙ tails;
        moved = ap (λ l. l ++ y ∷ []) (take_more_set cells i carry lt ∙ h.moved) ∙ ap (λ z. x ∷ (take i cells0 ++ z ∷ [])) (read ∙ heads) ∙ ap (λ l. x ∷ l) (sym (take_more cells0 i y lt0));
      }

module _ {V : Type 0} (m : Algebra V) where
  -- x comes after each of the first i cells
  pub record Past (row : List V) (count : ℕ) (x : V) (i : ℕ) : Type 0 where
    pub low : i ≤ count
    pub all : (p : ℕ) → p < i → m.compare x (get_or row p x) ≡ Greater

  -- x comes in before the cell `at`, or after all `count`
  pub record Lands (row0 : List V) (count : ℕ) (x : V) (at : ℕ) : Type 0 where
    pub low : at ≤ count
    pub comes : place m (length row0) x (take count row0) ≡ take (length row0) (take at row0 ++ x ∷ drop at (take count row0))
    pub told : fresh m (ltb count (length row0)) x (take count row0) ≡ (ltb at count || ltb count (length row0))

  -- x comes after every cell before one that it comes after
  before_at : (y d : V) (ys : List V) (i : ℕ) → BeforeAll m y ys → i < length ys → Before m y (get_or ys i d)
  before_at y d [] i h lt = absurd (omega arith)
  before_at y d (z ∷ zs) zero h lt = h.0
  before_at y d (z ∷ zs) (suc i) h lt = before_at y d zs i h.1 (omega arith)

  earlier : Laws m → (x d : V) (row : List V) (i : ℕ) → Ascending m row → i < length row → m.compare x (get_or row i d) ≡ Greater → (p : ℕ) → p ≤ i → m.compare x (get_or row p d) ≡ Greater
  earlier laws x d [] i up lt after p le = absurd (omega arith)
  earlier laws x d (y ∷ ys) zero up lt after zero le = after
  earlier laws x d (y ∷ ys) zero up lt after (suc p) le = absurd (omega arith)
  earlier laws x d (y ∷ ys) (suc i) up lt after zero le =
      laws.converse y x ∙ ap ordering_reverse (laws.transitive y (get_or ys i d) x (before_at y d ys i up.0 (omega arith)) (greater laws x (get_or ys i d) after))
  earlier laws x d (y ∷ ys) (suc i) up lt after (suc p) le = earlier laws x d ys i up.1 (omega arith) after p (omega arith)

  -- how far x has been looked for
  pub record Seeks (row : List V) (count : ℕ) (x : V) (at : ℕ) : Type 0 where
    pub low : at ≤ count
    pub past : Ascending m (take count row) → Past row count x at

  place_past : (i k : ℕ) (x : V) (row : List V) → i ≤ length row → length row ≤ k → ((p : ℕ) → p < i → m.compare x (get_or row p x) ≡ Greater) → place m k x row ≡ take i row ++ place m (k - i) x (drop i row)
  place_past zero k x row low short all = ap (λ z. place m z x row) (let e : k ≡ k - 0 = omega arith in e)
  place_past (suc i) k x [] low short all = absurd (omega arith)
  place_past (suc i) zero x (y ∷ ys) low short all = absurd (omega arith)
  place_past (suc i) (suc k) x (y ∷ ys) low short all =
      ap (λ o. choose o (x ∷ take k (y ∷ ys)) (y ∷ ys) (y ∷ place m k x ys)) (all 0 (omega arith))
      ∙ ap (λ l. y ∷ l) (place_past i k x ys (omega arith) (omega arith) (λ p lt. all (suc p) (omega arith)))
      ∙ ap (λ z. y ∷ (take i ys ++ place m z x (drop i ys))) (let e : k - i ≡ suc k - suc i = omega arith in e)

  fresh_past : (i : ℕ) (room : Bool) (x : V) (row : List V) → i ≤ length row → ((p : ℕ) → p < i → m.compare x (get_or row p x) ≡ Greater) → fresh m room x row ≡ fresh m room x (drop i row)
  fresh_past zero room x row low all = refl
  fresh_past (suc i) room x [] low all = absurd (omega arith)
  fresh_past (suc i) room x (y ∷ ys) low all =
      ap (λ o. choose o true false (fresh m room x ys)) (all 0 (omega arith)) ∙ fresh_past i room x ys (omega arith) (λ p lt. all (suc p) (omega arith))

  lands_none : (k : ℕ) (x : V) → place m k x [] ≡ take k (x ∷ [])
  lands_none zero x = refl
  lands_none (suc k) x = ap (λ l. x ∷ l) (sym (take_all k [] (omega arith)))

  lands_less : (k : ℕ) (x y : V) (ys : List V) → m.compare x y ≡ Less → place m k x (y ∷ ys) ≡ take k (x ∷ y ∷ ys)
  lands_less zero x y ys less = refl
  lands_less (suc k) x y ys less = ap (λ o. choose o (x ∷ take k (y ∷ ys)) (y ∷ ys) (y ∷ place m k x ys)) less

  stays_same : (k : ℕ) (x y : V) (ys : List V) → 1 ≤ k → m.compare x y ≡ Equal → place m k x (y ∷ ys) ≡ y ∷ ys
  stays_same zero x y ys some same = absurd (omega arith)
  stays_same (suc k) x y ys some same = ap (λ o. choose o (x ∷ take k (y ∷ ys)) (y ∷ ys) (y ∷ place m k x ys)) same

  module _ (row0 : List V) (count : ℕ) (was : Bool) (x : V) (fits : count ≤ length row0) where
    long : length (take count row0) ≡ count
    long = length-take count row0 ∙ omega arith

    all_in : (i : ℕ) → Past row0 count x i → (p : ℕ) → p < i → m.compare x (get_or (take count row0) p x) ≡ Greater
    all_in i h p lt = ap (m.compare x) (get_or-take count row0 p x (omega (arith, h.low))) ∙ h.all p lt

    placed_past : (i : ℕ) → Past row0 count x i → place m (length row0) x (take count row0) ≡ take i row0 ++ place m (length row0 - i) x (drop i (take count row0))
    placed_past i h =
        place_past i (length row0) x (take count row0) (omega (arith, long, h.low)) (omega (arith, long)) (all_in i h)
        ∙ ap (λ l. l ++ place m (length row0 - i) x (drop i (take count row0))) (take-take i count row0 h.low)

    freshly : (i : ℕ) → Past row0 count x i → fresh m (ltb count (length row0)) x (take count row0) ≡ fresh m (ltb count (length row0)) x (drop i (take count row0))
    freshly i h = fresh_past i (ltb count (length row0)) x (take count row0) (omega (arith, long, h.low)) (all_in i h)

    next : (i : ℕ) → i < count → drop i (take count row0) ≡ get_or row0 i x ∷ drop (i + 1) (take count row0)
    next i lt = drop_more (take count row0) i x (omega (arith, long)) ∙ ap (λ y. y ∷ drop (i + 1) (take count row0)) (get_or-take count row0 i x lt)

    pub past_none : Past row0 count x 0
    past_none = record { low = omega arith; all = λ p lt. absurd (omega arith) }

    -- the cells before the first one to compare x with are before x
    pub first_low : (from : ℕ) → from ≤ count → first_cell m row0 from x ≤ count
    first_low from le = cond_both (ltb 0 from && is_gt (m.compare x (get_or row0 (from - 1) x))) from 0 (λ z. z ≤ count) (λ t. le) (λ f. omega arith)

    pub first_past : Laws m → (from : ℕ) → from ≤ count → Ascending m (take count row0) → Past row0 count x (first_cell m row0 from x)
    first_past laws from le up = cond_both (ltb 0 from && is_gt (m.compare x (get_or row0 (from - 1) x))) from 0 (Past row0 count x) yes (λ f. past_none)
      where
        yes : (ltb 0 from && is_gt (m.compare x (get_or row0 (from - 1) x))) ≡ true → Past row0 count x from
        yes t =
            let b = and_parts (ltb 0 from) (is_gt (m.compare x (get_or row0 (from - 1) x))) t in
            let some = ltb-true 0 from b.0 in
            let after : m.compare x (get_or (take count row0) (from - 1) x) ≡ Greater = ap (m.compare x) (get_or-take count row0 (from - 1) x (omega arith)) ∙ tells_after (m.compare x (get_or row0 (from - 1) x)) (sym b.1) in
            record { low = le; all = λ p lt. ap (m.compare x) (sym (get_or-take count row0 p x (omega arith))) ∙ earlier laws x x (take count row0) (from - 1) up (omega (arith, long)) after p (omega arith) }

    pub next_less : (i : ℕ) (d e : V) → i < count → false ≡ is_gt (m.compare x (get_or row0 i d)) → false ≡ is_eq (m.compare x (get_or row0 i e)) → m.compare x (get_or row0 i x) ≡ Less
    next_less i d e below after same =
        tells_before _
        (after ∙ ap (λ z. is_gt (m.compare x z)) (get_or_default row0 i d x (omega arith)))
        (same ∙ ap (λ z. is_eq (m.compare x z)) (get_or_default row0 i e x (omega arith)))

    pub placed_same : (i : ℕ) (d : V) → Seeks row0 count x i → i < count → m.compare x (get_or row0 i d) ≡ Equal → RowPlaced m row0 count was x row0 count was (i + 1)
    placed_same i d h below equal =
        let D : List V = drop (i + 1) (take count row0) in
        let same : m.compare x (get_or row0 i x) ≡ Equal = ap (m.compare x) (get_or_default row0 i x d (omega arith)) ∙ equal in
        record {
          next_in = omega arith;
          grows = omega arith;
          bound = fits;
          lengths = λ up. sym (placed_past i (h.past up)
              ∙ ap (λ l. take i row0 ++ place m (length row0 - i) x l) (next i below)
              ∙ ap (λ l. take i row0 ++ l) (stays_same (length row0 - i) x (get_or row0 i x) D (omega arith) same ∙ sym (next i below))
              ∙ ap (λ l. l ++ drop i (take count row0)) (sym (take-take i count row0 h.low))
              ∙ take-append-drop i (take count row0));
          rest = refl;
          flag = λ up. sym (ap (λ b. was || b) (freshly i (h.past up)
              ∙ ap (fresh m (ltb count (length row0)) x) (next i below)
              ∙ ap (λ o. choose o true false (fresh m (ltb count (length row0)) x D)) same) ∙ or_false was);
        }

    comes_in : (at : ℕ) → Past row0 count x at → place m (length row0 - at) x (drop at (take count row0)) ≡ take (length row0 - at) (x ∷ drop at (take count row0))
        → place m (length row0) x (take count row0) ≡ take (length row0) (take at row0 ++ x ∷ drop at (take count row0))
    comes_in at h e =
        let n : length (take at row0) ≡ at = length-take at row0 ∙ omega (arith, h.low) in
        let f : length (take at row0) + (length row0 - at) ≡ length row0 = omega (arith, h.low) in
        placed_past at h
        ∙ ap (λ l. take at row0 ++ l) e
        ∙ sym (take-append-add (take at row0) (x ∷ drop at (take count row0)) (length row0 - at))
        ∙ ap (λ z. take z (take at row0 ++ x ∷ drop at (take count row0))) f

    pub lands : (at : ℕ) → Past row0 count x at → (at < count → m.compare x (get_or row0 at x) ≡ Less) → Lands row0 count x at
    lands at h less = elim (cases_lt at count) [
      | inl below ↦
          let D : List V = drop (at + 1) (take count row0) in
          record {
            low = h.low;
            comes = comes_in at h (ap (place m (length row0 - at) x) (next at below) ∙ lands_less (length row0 - at) x (get_or row0 at x) D (less below) ∙ ap (λ l. take (length row0 - at) (x ∷ l)) (sym (next at below)));
            told = freshly at h ∙ ap (fresh m (ltb count (length row0)) x) (next at below) ∙ ap (λ o. choose o true false (fresh m (ltb count (length row0)) x D)) (less below) ∙ ap (λ b. b || ltb count (length row0)) (sym (lt-ltb at count below));
          }
      | inr over ↦
          let none : drop at (take count row0) ≡ [] = drop_all at (take count row0) (omega (arith, long)) in
          record {
            low = h.low;
            comes = comes_in at h (ap (place m (length row0 - at) x) none ∙ lands_none (length row0 - at) x ∙ ap (λ l. take (length row0 - at) (x ∷ l)) (sym none));
            told = freshly at h ∙ ap (fresh m (ltb count (length row0)) x) none ∙ ap (λ b. b || ltb count (length row0)) (sym (le-ltb at count over));
          }
    ]

    -- all the cells have moved, and the last length of them is carried
    module _ (at i : ℕ) (cells : List V) (carry : V) (low : at ≤ count) (l : Ascending m (take count row0) → Lands row0 count x at)
        (h : Shifts x (take (count - at) (drop at row0)) i cells carry) (e : length (take (count - at) (drop at row0)) ≤ i) where
      abbrev row : List V
      row = put_mid at (count - at) row0 cells

      span : length cells ≡ count - at
      span = h.size ∙ length-take (count - at) (drop at row0) ∙ omega (arith, length-drop at row0)

      size : length row ≡ length row0
      size = simp (length-append, length-drop, length-take) (omega (arith, span))

      ahead : drop count row ≡ drop count row0
      ahead = drop-put_mid at (count - at) row0 cells count (omega arith) (omega arith) span

      moved : take count row ++ carry ∷ [] ≡ take at row0 ++ x ∷ drop at (take count row0)
      moved =
          let to : at + (count - at) ≡ count = omega arith in
          ap (λ z. z ++ carry ∷ []) (take-put_mid at (count - at) row0 cells count (omega (arith, span)) (omega arith))
          ∙ append_assoc (take at row0) cells (carry ∷ [])
          ∙ ap (λ z. take at row0 ++ z) (ap (λ z. z ++ carry ∷ []) (sym (take_all i cells (omega (arith, h.size)))) ∙ h.moved
          ∙ ap (λ z. x ∷ z) (take_all i (take (count - at) (drop at row0)) e ∙ sym (drop-take at (count - at) row0) ∙ ap (λ z. drop at (take z row0)) to))

      all_of : Ascending m (take count row0) → place m (length row0) x (take count row0) ≡ take (length row0) (take count row ++ carry ∷ [])
      all_of up = (l up).comes ∙ ap (take (length row0)) (sym moved)

      flagged : Ascending m (take count row0) → (b : Bool) → b ≡ (ltb at count || ltb count (length row0)) → (was || b) ≡ (was || fresh m (ltb count (length row0)) x (take count row0))
      flagged up b f = ap (λ z. was || z) (f ∙ sym (l up).told)

      pub placed_room : count < length row → RowPlaced m row0 count was x (set row count carry) (count + 1) true (at + 1)
      placed_room room =
          let one : count < count + 1 = omega arith in
          let n : length (take count row) ≡ count = length-take count row ∙ omega arith in
          let a = drop_more row count carry room in
          let b = drop_more row0 count carry (omega (arith, size)) in
          let kept = ahead in
          let tails : drop (count + 1) row ≡ drop (count + 1) row0 = cc in
          record {
            next_in = omega arith;
            grows = omega arith;
            bound = omega (arith, size);
            lengths = λ up. take_more_set row count carry room ∙ sym (take_all (length row0) (take count row ++ carry ∷ []) (omega (arith, size, length-append (take count row) (carry ∷ [])))) ∙ sym (all_of up);
            rest = drop-set-lt (count + 1) row count carry one ∙ tails;
            flag = λ up. sym (or_true was) ∙ flagged up true (sym (ap (λ b. ltb at count || b) (lt-ltb count (length row0) (omega (arith, size))) ∙ or_true (ltb at count)));
          }

      pub placed_full : length row ≤ count → RowPlaced m row0 count was x row count (was || ltb at count) at
      placed_full full =
          let n : length (take count row) ≡ length row0 = length-take count row ∙ omega (arith, size) in
          record {
            next_in = omega arith;
            grows = omega arith;
            bound = fits;
            lengths = λ up. sym (all_of up ∙ take_at (take count row) (carry ∷ []) (length row0) n);
            rest = ahead;
            flag = λ up. flagged up (ltb at count) (sym (ap (λ b. ltb at count || b) (le-ltb count (length row0) (omega (arith, size))) ∙ or_false (ltb at count)));
          }

-- Every file has a reading.
use Rattle.std.proofs.Common.{◌≡◌, ℕ, zero, suc, ◌+◌, ◌-◌, ◌<◌, ◌≤◌, Bool, true, false, ltb, ◌⊎◌, List, length, drop, Ok, Err, Result, sym, refl, ap, ◌∙◌, subst, inl, inr, arith, length-drop}
use Rattle.std.proofs.lemmas.Bool.{cases_lt, ltb-false}
use Rattle.netfile.specs.declared.progress.Stage.{Stage}
use Rattle.netfile.specs.declared.progress.Stage.TheVariants.{Start, Arcs, Queries, Over}
use Rattle.netfile.specs.declared.progress.Progress.{Progress}
use Rattle.netfile.specs.declared.progress.Limits.{Limits}
use Rattle.netfile.specs.declared.reason.Reason.{Reason}
use Rattle.netfile.specs.declared.reason.Reason.TheVariants.{Trailing, TooManyBytes}
use Rattle.netfile.specs.declared.records.Mark.{Mark}
use Rattle.netfile.specs.Records.{body_size, body_at, found}
use Rattle.netfile.specs.Judging.{start_of_file, advanced, advanced_by}
use Rattle.netfile.specs.Readings.{written, Stops, RefusedBy, Reading, accepted, refused, Reads, OneReading, ReadBack}
use Rattle.netfile.proofs.Runs.{Come, come_none, come_more, stops, breaks, trailing, accepts}
use Rattle.netfile.proofs.Unique.{one_at_most}

abbrev Out : Limits → List ℕ → Type 0
Out limits file = (o : Reading) × Reads limits file o

module _ (limits : Limits) (file : List ℕ) (small : length file ≤ limits.bytes) where
  refuse : (at : ℕ) (p : Progress) (why : Reason) → Come limits file at p → Stops limits p.stage p (drop at file) why → Out limits file
  refuse at p why come s = (refused (record { reason = why; at = at }), breaks limits file at p why small come s)

  module _ (at : ℕ) (p : Progress) (come : Come limits file at p) (more : (n : ℕ) (q : Progress) → Come limits file n q → at < n → Out limits file) where
    by_fields : (p.stage ≡ Over → ⊥) → (m : Mark) → found p.stage p.kind (drop at file) ≡ Ok m → (r : Result Progress Reason) → advanced limits p m (body_at m p.kind (drop at file)) ≡ r → Out limits file
    by_fields going m is (Err why) e =
        refuse at p why come (stops limits p.stage p (drop at file) why going (ap (advanced_by limits p (drop at file)) is ∙ e))
    by_fields going m is (Ok q) e = more (at + (2 + body_size m p.kind)) q (come_more limits file at p come m q is e) (omega arith)

    by_found : (p.stage ≡ Over → ⊥) → (r : Result Mark Reason) → found p.stage p.kind (drop at file) ≡ r → Out limits file
    by_found going (Err why) e =
        refuse at p why come (stops limits p.stage p (drop at file) why going (ap (advanced_by limits p (drop at file)) e))
    by_found going (Ok m) e = by_fields going m e (advanced limits p m (body_at m p.kind (drop at file))) refl

    by_end : p.stage ≡ Over → (at < length file) ⊎ (length file ≤ at) → Out limits file
    by_end over (inl lt) =
        refuse at p Trailing come (trailing limits p.stage p (drop at file) over (omega (arith, length-drop at file)))
    by_end over (inr all) = let a = accepts limits file at p small come all over in (accepted a.0, (p, a.1))

    by_stage : (s : Stage) → p.stage ≡ s → Out limits file
    by_stage Start e = by_found (λ o. cc) (found p.stage p.kind (drop at file)) refl
    by_stage Arcs e = by_found (λ o. cc) (found p.stage p.kind (drop at file)) refl
    by_stage Queries e = by_found (λ o. cc) (found p.stage p.kind (drop at file)) refl
    by_stage Over e = by_end e (cases_lt at (length file))

  read_from : (fuel at : ℕ) (p : Progress) → Come limits file at p → length file - at < fuel → Out limits file
  read_from zero at p come h = absurd (omega arith)
  read_from (suc fuel) at p come h =
      by_stage at p come (λ n q c lt. read_from fuel n q c (let w : n ≤ length file = c.within in omega arith)) p.stage refl

a_reading : (limits : Limits) (file : List ℕ) (t : Bool) → ltb limits.bytes (length file) ≡ t → Out limits file
a_reading limits file true e =
    (refused (record { reason = TooManyBytes; at = 0 }), subst (λ t. RefusedBy t limits file (record { reason = TooManyBytes; at = 0 })) (sym e) (refl, refl))
a_reading limits file false e =
    read_from limits file (ltb-false _ _ e) (suc (length file)) 0 start_of_file (come_none limits file) (omega arith)

pub one_reading : OneReading
one_reading limits file =
    let a = a_reading limits file (ltb limits.bytes (length file)) refl in
    (a.0, a.1, λ o h. one_at_most limits file a.0 o a.1 h)

pub read_back : ReadBack
read_back limits es last run over small o h =
    one_at_most limits (written es) (accepted es) o (last, record { small = small; bytes = refl; run = run; over = over }) h

-- A file has one reading at most.
use Rattle.std.proofs.Common.{◌≡◌, ℕ, ◌<◌, Bool, true, false, ltb, List, [], ◌∷◌, ◌++◌, length, take, drop, Ok, Err, sym, refl, ap, ◌∙◌, subst, append_assoc, append-nil, arith, take-append-drop}
use Rattle.std.proofs.lemmas.Bool.Decides.{nat_tests}
use Rattle.std.proofs.lemmas.List.{append_cancel_left, length-take-le}
use Rattle.std.proofs.lemmas.Bool.{ltb-true}
use Rattle.netfile.specs.declared.progress.Stage.{Stage}
use Rattle.netfile.specs.declared.progress.Stage.TheVariants.{Start, Arcs, Queries, Over}
use Rattle.netfile.specs.declared.progress.Progress.{Progress}
use Rattle.netfile.specs.declared.progress.Limits.{Limits}
use Rattle.netfile.specs.declared.reason.Reason.{Reason}
use Rattle.netfile.specs.declared.reason.Fault.{Fault}
use Rattle.netfile.specs.declared.records.Mark.{Mark}
use Rattle.netfile.specs.Records.{letters, body_at, in_order, found}
use Rattle.netfile.specs.Judging.{start_of_file, advanced, advanced_by, judged_next}
use Rattle.netfile.specs.Readings.{Entry, entry_bytes, written, Good, Run, Accepts, Stops, Breaks, RefusedBy, Reading, accepted, refused, Reads}
use Rattle.netfile.proofs.Heads.{found_again, body_again}

nothing_after : (m : Mark) → in_order Over m ≡ true → ⊥
nothing_after m e = grind (arith, nat_tests)

module _ (limits : Limits) (p : Progress) (e : Entry) (q : Progress) (more : List ℕ) (g : Good limits p e q) where
  -- a good record at the head of its bytes is the one that is found there
  head_mark : found p.stage p.kind (entry_bytes e ++ more) ≡ Ok e.mark
  head_mark =
      ap (found p.stage p.kind) (append_assoc (letters e.mark) e.body more) ∙ found_again p.stage p.kind e.mark e.body more g.ordered g.whole

  head_body : body_at e.mark p.kind (entry_bytes e ++ more) ≡ e.body
  head_body =
      ap (body_at e.mark p.kind) (append_assoc (letters e.mark) e.body more) ∙ body_again p.stage p.kind e.mark e.body more g.ordered g.whole

  pub head_judged : judged_next limits p (entry_bytes e ++ more) ≡ Ok q
  head_judged =
      ap (advanced_by limits p (entry_bytes e ++ more)) head_mark ∙ ap (advanced limits p e.mark) head_body ∙ g.fields

-- two good records at the head of the same bytes are one
module _ (limits : Limits) (p : Progress) (d e : Entry) (q r : Progress) (xs ys : List ℕ) (g : Good limits p d q) (h : Good limits p e r) (same : entry_bytes d ++ xs ≡ entry_bytes e ++ ys) where
  same_mark : d.mark ≡ e.mark
  same_mark =
      let a = sym (head_mark limits p d q xs g) ∙ ap (found p.stage p.kind) same ∙ head_mark limits p e r ys h in
      cc

  same_body : d.body ≡ e.body
  same_body =
      sym (head_body limits p d q xs g) ∙ ap (body_at d.mark p.kind) same ∙ ap (λ m. body_at m p.kind (entry_bytes e ++ ys)) same_mark ∙ head_body limits p e r ys h

  pub same_entry : d ≡ e
  same_entry = λ j. record { mark = same_mark j; body = same_body j }

  pub same_after : q ≡ r
  same_after =
      let a = sym (head_judged limits p d q xs g) ∙ ap (judged_next limits p) same ∙ head_judged limits p e r ys h in
      cc

  pub same_rest : xs ≡ ys
  same_rest = append_cancel_left (entry_bytes e) xs ys (ap (λ k. entry_bytes k ++ xs) (sym same_entry) ∙ same)

-- no good record stands here
abbrev Stuck : Limits → Progress → List ℕ → Type 0
Stuck limits p rest = (e : Entry) (q : Progress) (more : List ℕ) → Good limits p e q → rest ≡ entry_bytes e ++ more → ⊥

-- where two readings of the same bytes end
pub record Same (es ds : List Entry) (p q : Progress) (xs ys : List ℕ) : Type 0 where
  pub entries : es ≡ ds
  pub ends : p ≡ q
  pub rests : xs ≡ ys

module _ (limits : Limits) (p q : Progress) (xs ys : List ℕ) (stuck_p : Stuck limits p xs) (stuck_q : Stuck limits q ys) where
  runs_agree : (es ds : List Entry) (s : Progress) → Run limits s es p → Run limits s ds q → written es ++ xs ≡ written ds ++ ys → Same es ds p q xs ys
  runs_agree [] [] s h k same = record { entries = refl; ends = sym h ∙ k; rests = same }
  runs_agree [] (d ∷ ds) s h k same =
      absurd (stuck_p d k.0 (written ds ++ ys) (subst (λ t. Good limits t d k.0) h k.1) (same ∙ append_assoc (entry_bytes d) (written ds) ys))
  runs_agree (e ∷ es) [] s h k same =
      absurd (stuck_q e h.0 (written es ++ xs) (subst (λ t. Good limits t e h.0) k h.1) (sym same ∙ append_assoc (entry_bytes e) (written es) xs))
  runs_agree (e ∷ es) (d ∷ ds) s h k same =
      let both = sym (append_assoc (entry_bytes e) (written es) xs) ∙ same ∙ append_assoc (entry_bytes d) (written ds) ys in
      let first = same_entry limits s e d h.0 k.0 (written es ++ xs) (written ds ++ ys) h.1 k.1 both in
      let after = same_after limits s e d h.0 k.0 (written es ++ xs) (written ds ++ ys) h.1 k.1 both in
      let rest = same_rest limits s e d h.0 k.0 (written es ++ xs) (written ds ++ ys) h.1 k.1 both in
      let more = runs_agree es ds k.0 (subst (λ t. Run limits t es p) after h.2) k.2 rest in
      record { entries = λ j. first j ∷ more.entries j; ends = more.ends; rests = more.rests }

stuck_over : (limits : Limits) (p : Progress) (rest : List ℕ) → p.stage ≡ Over → Stuck limits p rest
stuck_over limits p rest o e q more g same = nothing_after e.mark (subst (λ s. in_order s e.mark ≡ true) o g.ordered)

stuck_refused : (limits : Limits) (p : Progress) (rest : List ℕ) (why : Reason) → judged_next limits p rest ≡ Err why → Stuck limits p rest
stuck_refused limits p rest why e d q more g same =
    let a = sym e ∙ ap (judged_next limits p) same ∙ head_judged limits p d q more g in
    let z : ◌≡◌ {A = ℕ} 0 1 = cc in
    omega arith

stuck_stops : (limits : Limits) (p : Progress) (rest : List ℕ) (why : Reason) (s : Stage) → p.stage ≡ s → Stops limits s p rest why → Stuck limits p rest
stuck_stops limits p rest why Start e h = stuck_refused limits p rest why h
stuck_stops limits p rest why Arcs e h = stuck_refused limits p rest why h
stuck_stops limits p rest why Queries e h = stuck_refused limits p rest why h
stuck_stops limits p rest why Over e h = stuck_over limits p rest e

-- a place is refused for one reason
one_reason : (limits : Limits) (p : Progress) (rest : List ℕ) (a b : Reason) (s : Stage) → Stops limits s p rest a → Stops limits s p rest b → a ≡ b
one_reason limits p rest a b s h k = grind (arith, nat_tests)

not_at_end : (limits : Limits) (p : Progress) (rest : List ℕ) (why : Reason) (s : Stage) → s ≡ Over → rest ≡ [] → Stops limits s p rest why → ⊥
not_at_end limits p rest why s o e h = grind (arith, nat_tests)

module _ (limits : Limits) (file : List ℕ) where
  whole : (es : List Entry) → written es ≡ file → written es ++ [] ≡ file
  whole es e = append-nil (written es) ∙ e

  split : (es : List Entry) (at : ℕ) → written es ≡ take at file → written es ++ drop at file ≡ file
  split es at e = ap (λ bs. bs ++ drop at file) e ∙ take-append-drop at file

  both_accept : (es ds : List Entry) (p q : Progress) → Accepts limits file es p → Accepts limits file ds q → es ≡ ds
  both_accept es ds p q a b =
      (runs_agree limits p q [] [] (stuck_over limits p [] a.over) (stuck_over limits q [] b.over) es ds start_of_file a.run b.run (whole es a.bytes ∙ sym (whole ds b.bytes))).entries

  not_both : (es : List Entry) (p : Progress) (why : Reason) (at : ℕ) → Accepts limits file es p → Breaks limits file why at → ⊥
  not_both es p why at a b =
      let s = runs_agree limits p b.came [] (drop at file) (stuck_over limits p [] a.over) (stuck_stops limits b.came (drop at file) why b.came.stage refl b.stops) es b.before start_of_file a.run b.run (whole es a.bytes ∙ sym (split b.before at b.bytes)) in
      not_at_end limits b.came (drop at file) why b.came.stage (ap (λ t. t.stage) (sym s.ends) ∙ a.over) (sym s.rests) b.stops

  both_break : (f g : Fault) → Breaks limits file f.reason f.at → Breaks limits file g.reason g.at → f ≡ g
  both_break f g a b =
      let s = runs_agree limits a.came b.came (drop f.at file) (drop g.at file) (stuck_stops limits a.came (drop f.at file) f.reason a.came.stage refl a.stops) (stuck_stops limits b.came (drop g.at file) g.reason b.came.stage refl b.stops) a.before b.before start_of_file a.run b.run (split a.before f.at a.bytes ∙ sym (split b.before g.at b.bytes)) in
      let place : f.at ≡ g.at = sym (length-take-le f.at file a.within) ∙ ap length (sym a.bytes) ∙ ap (λ es. length (written es)) s.entries ∙ ap length b.bytes ∙ length-take-le g.at file b.within in
      let moved : Stops limits b.came.stage b.came (drop g.at file) f.reason =
      subst (λ r. Stops limits b.came.stage b.came r f.reason) s.rests (subst (λ (t : Progress). Stops limits t.stage t (drop f.at file) f.reason) s.ends a.stops) in
      let reason = one_reason limits b.came (drop g.at file) f.reason g.reason b.came.stage moved b.stops in
      λ j. record { reason = reason j; at = place j }

  refusals : (t : Bool) (f g : Fault) → RefusedBy t limits file f → RefusedBy t limits file g → f ≡ g
  refusals true f g h k = λ j. record { reason = (h.0 ∙ sym k.0) j; at = (h.1 ∙ sym k.1) j }
  refusals false f g h k = both_break f g h k

  not_refused : (t : Bool) → ltb limits.bytes (length file) ≡ t → (es : List Entry) (p : Progress) (f : Fault) → Accepts limits file es p → RefusedBy t limits file f → ⊥
  not_refused true e es p f a r = let l : limits.bytes < length file = ltb-true _ _ e in let s = a.small in omega arith
  not_refused false e es p f a r = not_both es p f.reason f.at a r

  pub one_at_most : (o o' : Reading) → Reads limits file o → Reads limits file o' → o' ≡ o
  one_at_most (accepted es) (accepted ds) h k = ap accepted (both_accept ds es k.0 h.0 k.1 h.1)
  one_at_most (accepted es) (refused f) h k = absurd (not_refused (ltb limits.bytes (length file)) refl es h.0 f h.1 k)
  one_at_most (refused f) (accepted es) h k = absurd (not_refused (ltb limits.bytes (length file)) refl es k.0 f k.1 h)
  one_at_most (refused f) (refused g) h k = ap refused (refusals (ltb limits.bytes (length file)) g f k h)

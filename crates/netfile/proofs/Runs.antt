-- Records read one after another.
use Rattle.std.proofs.Common.{◌≡◌, ℕ, ◌+◌, ◌-◌, ◌<◌, ◌≤◌, List, [], ◌∷◌, ◌++◌, length, take, drop, Ok, Err, sym, refl, ap, ◌∙◌, subst, append_assoc, append-nil, arith, length-drop, take_all, take-add}
use Rattle.std.proofs.lemmas.Bool.Decides.{nat_tests}
use Rattle.std.proofs.lemmas.List.{length-take-le}
use Rattle.std.proofs.lemmas.Bool.{le-ltb}
use Rattle.netfile.specs.declared.progress.Progress.{Progress}
use Rattle.netfile.specs.declared.progress.Limits.{Limits}
use Rattle.netfile.specs.declared.progress.Stage.{Stage}
use Rattle.netfile.specs.declared.progress.Stage.TheVariants.{Over}
use Rattle.netfile.specs.declared.reader.Reader.{Reader}
use Rattle.netfile.specs.declared.reason.Reason.{Reason}
use Rattle.netfile.specs.declared.reason.Fault.{Fault}
use Rattle.netfile.specs.declared.reason.Reason.TheVariants.{Trailing}
use Rattle.netfile.specs.declared.records.Mark.{Mark}
use Rattle.netfile.specs.declared.records.Record.{Record}
use Rattle.netfile.specs.Records.{found, body_at, body_size, mark_of}
use Rattle.netfile.specs.Judging.{start_of_file, advanced, judged_next}
use Rattle.netfile.specs.Readings.{Entry, entry_bytes, written, Good, Run, Accepts, Stops, RefusedBy, Refuses}
use Rattle.netfile.specs.Reading.{Passed, Ended, Refused}
use Rattle.netfile.proofs.Heads.{Headed, headed, headed_bytes}

pub written_more : (es : List Entry) (e : Entry) → written (es ++ e ∷ []) ≡ written es ++ entry_bytes e
written_more [] e = append-nil (entry_bytes e)
written_more (d ∷ es) e = ap (λ bs. entry_bytes d ++ bs) (written_more es e) ∙ sym (append_assoc (entry_bytes d) (written es) (entry_bytes e))

pub run_more : (limits : Limits) (p : Progress) (es : List Entry) (q : Progress) (e : Entry) (r : Progress) → Run limits p es q → Good limits q e r → Run limits p (es ++ e ∷ []) r
run_more limits p [] q e r h g = (r, subst (λ s. Good limits s e r) (sym h) g, refl)
run_more limits p (d ∷ es) q e r h g = (h.0, h.1, run_more limits h.0 es q e r h.2 g)

-- the records before byte `at` of a file
pub record Come (limits : Limits) (file : List ℕ) (at : ℕ) (p : Progress) : Type 0 where
  pub before : List Entry
  pub within : at ≤ length file
  pub bytes : written before ≡ take at file
  pub run : Run limits start_of_file before p

pub come_none : (limits : Limits) (file : List ℕ) → Come limits file 0 start_of_file
come_none limits file = record { before = []; within = omega arith; bytes = refl; run = refl }

module _ (limits : Limits) (file : List ℕ) (at : ℕ) (p : Progress) (come : Come limits file at p) (m : Mark) (q : Progress) (is : found p.stage p.kind (drop at file) ≡ Ok m) (next : advanced limits p m (body_at m p.kind (drop at file)) ≡ Ok q) where
  -- one record more
  pub come_more : Come limits file (at + (2 + body_size m p.kind)) q
  come_more =
      let h : Headed p.stage p.kind (drop at file) m = headed _ _ _ m is in
      let long : length (drop at file) ≡ length file - at = length-drop at file in
      let room : 2 + body_size m p.kind ≤ length (drop at file) = h.room in
      let w = come.within in
      let e : Entry = record { mark = m; body = body_at m p.kind (drop at file) } in
      let size : length (body_at m p.kind (drop at file)) ≡ body_size m p.kind = length-take-le (body_size m p.kind) (drop 2 (drop at file)) (omega (arith, length-drop 2 (drop at file))) in
      record {
        before = come.before ++ e ∷ [];
        within = omega arith;
        bytes = written_more come.before e ∙ ap (λ bs. bs ++ entry_bytes e) come.bytes ∙ ap (λ bs. take at file ++ bs) (headed_bytes _ _ _ m is) ∙ sym (take-add at (2 + body_size m p.kind) file);
        run = run_more limits start_of_file come.before p e q come.run (record { ordered = h.ordered; whole = size; fields = next });
      }

pub stops : (limits : Limits) (s : Stage) (p : Progress) (rest : List ℕ) (why : Reason) → (s ≡ Over → ⊥) → judged_next limits p rest ≡ Err why → Stops limits s p rest why
stops limits s p rest why n e = grind (arith, nat_tests)

-- the fault at a byte that the good records led to
pub breaks : (limits : Limits) (file : List ℕ) (at : ℕ) (p : Progress) (why : Reason) → length file ≤ limits.bytes → Come limits file at p → Stops limits p.stage p (drop at file) why → Refuses limits file (record { reason = why; at = at })
breaks limits file at p why small come s =
    subst (λ t. RefusedBy t limits file (record { reason = why; at = at })) (sym (le-ltb limits.bytes (length file) small)) (record {
      small = small;
      before = come.before;
      came = p;
      within = come.within;
      bytes = come.bytes;
      run = come.run;
      stops = s;
    })

pub trailing : (limits : Limits) (s : Stage) (p : Progress) (rest : List ℕ) → s ≡ Over → 0 < length rest → Stops limits s p rest Trailing
trailing limits s p rest e h = grind (arith, nat_tests)

-- the whole file is the good records
pub accepts : (limits : Limits) (file : List ℕ) (at : ℕ) (p : Progress) → length file ≤ limits.bytes → Come limits file at p → length file ≤ at → p.stage ≡ Over → (es : List Entry) × Accepts limits file es p
accepts limits file at p small come all over =
    (come.before, record { small = small; bytes = come.bytes ∙ take_all at file all; run = come.run; over = over })

-- the records before a reader
abbrev pub Reached : Reader → Type 0
Reached r = Come r.limits r.file.now r.at r.progress

pub passed : (r r' : Reader) (item : Record) → Reached r → Passed r item r' → Reached r'
passed r r' item come h =
    let m = mark_of item in
    let next : advanced r.limits r.progress m (body_at m r.progress.kind (drop r.at r.file.now)) ≡ Ok r'.progress = ap (advanced r.limits r.progress m) (sym h.taken.is.body) ∙ h.taken.next in
    let more : Come r.limits r.file.now (r.at + (2 + body_size m r.progress.kind)) r'.progress = come_more r.limits r.file.now r.at r.progress come m r'.progress h.taken.is.mark next in
    rw (h.at, h.same.file, h.same.limits) more

use Rattle.std.proofs.Common.{◌≡◌, List, ℕ, ℤ, [], ◌∷◌, ◌++◌, map, Bor, vec_items, sym, ◌∙◌, subst, lit<, w64, SFits}
use Rattle.std.proofs.lemmas.Int.{to_z-of_z}
use Rattle.std.proofs.lemmas.Iterator.Consumers.{YieldsList-at, YieldsList-turn, YieldsList-end}
use Rattle.std.proofs.lemmas.Iterator.Splits.{YieldsList-from_str_split}
use Rattle.std.proofs.lemmas.List.{map_push}
use Rattle.std.proofs.lemmas.List.Elements.{All-push}
use Rattle.std.specs.Str.Parse.{signed_digits_value}
use Rattle.routes.specs.Reading.{Number, Writes}
use Rattle.routes.proofs.reading.numbers.Goals as goal

-- one part more, with its number
one_more : (ps : List (Bor (List ℕ))) (p : Bor (List ℕ)) (cs : List ℤ) (n : ℤ) → Writes (map (λ x. x.now) ps) cs → Number p.now → n ≡ signed_digits_value 10 p.now → Writes (map (λ x. x.now) (ps ++ p ∷ [])) (cs ++ n ∷ [])
one_more ps p cs n w h e = rw (map_push (λ x. x.now) ps p) (All-push Number _ p.now w.0 h, (λ j. w.1 j ++ e j ∷ []) ∙ sym (map_push (signed_digits_value 10) _ p.now))

pub returns-in_default : goal.returns-in_default
returns-in_default c =
    let all = YieldsList-at c.into_iter-part-iterator.ensures.into_iter_gives (YieldsList-from_str_split 47 c.args.text.now (lit< tt) c.split-part-items.ensures.text c.split-part-items.ensures.has_more c.split-part-items.ensures.pattern) in
    let t = YieldsList-turn all c.loop-part.yielded _ c.loop-part.yielded_by _ _ c.in-Some.part c.in-Some.is c.next.ensures.steps in
    λ cs r. c.in_default.ensures.value.0 (subst Number (sym t.1) (r.0 _ c.in-Some.part.now t.0))

pub loop-part-preserved : goal.loop-part-preserved
loop-part-preserved c =
    let read = c.in-Ok.ensures.value.0 in
    rw c.in_ok-push.ensures.items (one_more c.loop-part.yielded c.in-Some.part (vec_items c.loop-part.numbers) _ c.loop-part.invariant read.0 (to_z-of_z w64 c.in-Ok.number (subst (SFits w64) (sym read.1) read.0.1) ∙ read.1))

pub returns : goal.returns
returns c =
    let all = YieldsList-at c.into_iter-part-iterator.ensures.into_iter_gives (YieldsList-from_str_split 47 c.args.text.now (lit< tt) c.split-part-items.ensures.text c.split-part-items.ensures.has_more c.split-part-items.ensures.pattern) in
    let t = YieldsList-end all c.loop-part.yielded _ c.loop-part.yielded_by _ _ c.in-None.is c.next.ensures.steps in
    subst (λ ps. Writes ps (vec_items c.loop-part.numbers)) t.0 c.loop-part.invariant

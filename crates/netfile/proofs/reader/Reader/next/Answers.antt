use Rattle.std.proofs.Common.{◌≡◌, ◌+◌, ◌-◌, ◌≤◌, length, take, drop, subst, arith, rules, length-drop}
use Rattle.std.proofs.lemmas.List.{take_rest}
use Rattle.netfile.specs.Records.{body_size, mark_of}
use Rattle.netfile.specs.Judging.{Taken}
use Rattle.netfile.proofs.Heads.{headed}
use Rattle.netfile.proofs.reader.Reader.next.Goals as goal

taken : (c : goal.After-body_size) → Taken c.args.self.now.limits c.args.self.now.progress (drop c.args.self.now.at c.args.self.now.file.now) c.in_ok-item.item c.in_ok-item.after
taken c =
    let at = c.args.self.now.at in
    let file = c.args.self.now.file.now in
    let t : Taken c.args.self.now.limits c.args.self.now.progress (take (length file - at) (drop at file)) c.in_ok-item.item c.in_ok-item.after = search rules in
    subst (λ rest. Taken c.args.self.now.limits c.args.self.now.progress rest c.in_ok-item.item c.in_ok-item.after) (take_rest file at) t

size : (c : goal.After-body_size) → c.body_size.result ≡ body_size (mark_of c.in_ok-item.item) c.args.self.now.progress.kind
size c = let a = c.mark.ensures in let b = c.body_size.ensures in cc

pub invariant_of-self : goal.invariant_of-self
invariant_of-self c =
    let at = c.args.self.now.at in
    let file = c.args.self.now.file.now in
    let room : 2 + body_size (mark_of c.in_ok-item.item) c.args.self.now.progress.kind ≤ length (drop at file) = (headed _ _ _ _ (taken c).is.mark).room in
    record { within = omega (arith, length-drop at file, size c) }

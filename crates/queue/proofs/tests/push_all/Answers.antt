use Rattle.std.proofs.Common.{◌≡◌, ℕ, ◌+◌, ◌<◌, ◌≤◌, List, [], ◌∷◌, ◌++◌, length, get_or, take, ap, ◌∙◌, append_assoc, arith, length-append, length-take-le, take_all}
use borrow.Author.Tests.{le-true, lt-false, false-ltb, clash}
use Rattle.std.proofs.lemmas.List.{take_more}
use Rattle.queue.proofs.Room.{waiting_fits}
use Rattle.queue.specs.Waiting.{waiting, capacity}
use Rattle.queue.proofs.tests.push_all.Goals as goal

-- the first `i` of `xs` wait behind `start`
module _ {X : Type 0} (start now xs : List X) (i : ℕ) (e : now ≡ start ++ take i xs) where
  counted : i ≤ length xs → length now ≡ length start + i
  counted h = ap length e ∙ length-append start (take i xs) ∙ ap (λ n. length start + n) (length-take-le i xs h)

  pushed : (next : List X) (x : X) → i < length xs → x ≡ get_or xs i x → next ≡ now ++ (x ∷ []) → next ≡ start ++ take (i + 1) xs
  pushed next x h at p =
      let a = take_more xs i x h in
      let b = append_assoc start (take i xs) (x ∷ []) in
      cc

pub returns-then-not-push : goal.returns-then-not-push
returns-then-not-push g c =
    let i = c.loop-x.invariant in
    let h = c.loop-x-test.true in
    let start = waiting c.args.q.now in
    let now = waiting c.loop-x.q in
    let n = counted start now c.args.xs.now c.loop-x.x-index i.0 (omega arith) in
    let full = false-ltb (length now) (capacity c.loop-x.q) c.if-not-push.ensures.taken in
    record { all = lt-false _ _ (omega (arith, i.1)); after = λ z. absurd (clash z) }

pub loop-x-preserved : goal.loop-x-preserved
loop-x-preserved g c =
    let i = c.loop-x.invariant in
    let e = c.if-not-push.ensures in
    let start = waiting c.args.q.now in
    let now = waiting c.loop-x.q in
    let next = waiting c.push.new.self in
    let xs = c.args.xs.now in
    let k = c.loop-x.x-index in
    let x = c.x-item.result in
    (pushed start now xs k i.0 next x c.loop-x-test.true c.x-item.is e.after, e.room ∙ i.1)

pub returns : goal.returns
returns g c =
    let i = c.loop-x.invariant in
    let k = c.loop-x.auto.x-index-end in
    let h = c.loop-x-test.false in
    let start = waiting c.args.q.now in
    let now = waiting c.loop-x.q in
    let xs = c.args.xs.now in
    let n = counted start now xs c.loop-x.x-index i.0 k in
    let f = waiting_fits c.loop-x.q in
    record { all = le-true _ _ (omega (arith, i.1)); after = λ _. i.0 ∙ ap (λ t. start ++ t) (take_all c.loop-x.x-index xs h) }

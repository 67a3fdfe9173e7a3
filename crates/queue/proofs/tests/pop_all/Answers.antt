use Rattle.std.proofs.Common.{◌≡◌, ℕ, ◌+◌, ◌≤◌, List, [], ◌∷◌, ◌++◌, length, take, drop, set, sym, ap, ◌∙◌, append_assoc, append-nil, arith, take-append-drop, drop-drop, drop-set-lt}
use Rattle.std.proofs.lemmas.List.{take_more_set}
use Rattle.queue.specs.Waiting.{waiting}
use Rattle.queue.proofs.tests.pop_all.Goals as goal

-- `x` goes from the front of what waits to the end of what is out
module _ {X : Type 0} (all before after out : List X) (n : ℕ) (x : X)
    (pop : before ≡ x ∷ after) (count : n + length before ≡ length all) (room : length all ≤ length out) where
  moves : all ≡ take n out ++ before → all ≡ take (n + 1) (set out n x) ++ after
  moves e =
      let a = append_assoc (take n out) (x ∷ []) after in
      let b = take_more_set out n x (omega (arith, ap length pop)) in
      cc

  counts : (n + 1) + length after ≡ length all
  counts = omega (arith, ap length pop)

keeps : {X : Type 0} (out given : List X) (n : ℕ) (x : X) → drop n out ≡ drop n given
    → drop (n + 1) (set out n x) ≡ drop (n + 1) given
keeps out given n x e =
    drop-set-lt (n + 1) out n x (omega arith) ∙ sym (drop-drop 1 n out) ∙ ap (drop 1) e ∙ drop-drop 1 n given

pub loop-x-preserved : goal.loop-x-preserved
loop-x-preserved g c =
    let i = c.loop-x.invariant in
    let first = c.in-Some.ensures.first in
    let all = waiting c.args.q.now in
    let before = waiting c.loop-x.q in
    let after = waiting c.pop.new.self in
    let out = c.loop-x.out in
    let n = c.loop-x.n in
    let x = c.in-Some.x in
    let room : length all ≤ length out = omega arith in (
      moves all before after out n x first i.1 room i.0,
      counts all before after out n x first i.1 room,
      keeps out c.args.out.now n x i.2,
    )

-- nothing waits any more, so all of it is out
whole : {X : Type 0} (all rest out given : List X) (n : ℕ) → rest ≡ [] → all ≡ take n out ++ rest
    → drop n out ≡ drop n given → out ≡ all ++ drop n given
whole all rest out given n none e k =
    let a = append-nil (take n out) in
    let b = take-append-drop n out in
    cc

pub returns : goal.returns
returns g c =
    let none = c.in_default.ensures.first in
    let i = c.loop-x.invariant in
    let all = waiting c.args.q.now in
    let rest = waiting c.loop-x.q in
    record {
      count = omega (arith, i.1, ap length none.0);
      none = none.1;
      out = whole all rest c.loop-x.out c.args.out.now c.loop-x.n none.0 i.0 i.2;
    }

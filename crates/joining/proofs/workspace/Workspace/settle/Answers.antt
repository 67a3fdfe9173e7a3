use Rattle.std.proofs.Common.{◌≡◌, ◌<◌, Bool, true, cond, List, [], ◌∷◌, ◌++◌, length, vec_len, refl, ap, ◌∙◌, arith, lt-ltb}
use Rattle.queue.specs.Waiting.{waiting, capacity}
use Rattle.joining.specs.declared.workspace.Pair.{Pair}
use Rattle.joining.specs.Uniting.{representatives}
use Rattle.joining.specs.Workspaces.{rep}
use Rattle.joining.proofs.Turns.{midway_begun, left_row, right_row, skipped, skipped_lighter, to_row, from_row, few, space, joined, joined_lighter, rep_used, settled, settled_count}
use Rattle.joining.proofs.workspace.Workspace.settle.Goals as goal

pub loop-pair-init : goal.loop-pair-init
loop-pair-init g c =
    let queue = c.over-queue.result in
    let empty = c.over-queue.ensures.empty in
    let pair : Pair = record { left = c.args.left; right = c.args.right } in
    let free : length (waiting queue) < capacity queue = omega (arith, ap length empty, c.over-queue.ensures.room, c.requires.buffer) in
    let taken : c.push.result ≡ true = c.push.ensures.taken ∙ lt-ltb _ _ free in
    let pushed : waiting c.push.new.self ≡ pair ∷ [] =
    c.push.ensures.after ∙ ap (λ (b : Bool). cond b (waiting queue ++ (pair ∷ [])) (waiting queue)) taken ∙ ap (λ (z : List Pair). z ++ (pair ∷ [])) empty in
    midway_begun (g.K.Kind.meaning c.args.kind.now) (g.met.K.Kind.lawful c.args.kind.now) c.args.left c.args.right _
    c.requires.own c.requires.left c.requires.right (waiting c.push.new.self) pushed refl
    (capacity c.push.new.self) (omega (arith, c.push.ensures.room, c.over-queue.ensures.room, c.requires.buffer))

pub index-to-requires : goal.index-to-requires
index-to-requires g c = left_row c.loop-pair.invariant c.in-Some.ensures.first

pub index-from-requires : goal.index-from-requires
index-from-requires g c = right_row c.loop-pair.invariant c.in-Some.ensures.first

pub unite-requires : goal.unite-requires
unite-requires g c =
    let inv = c.loop-pair.invariant in
    let first = c.in-Some.ensures.first in
    let two = c.if-to-from.true in
    record {
      to = to_row inv first c.index-to.ensures c.index-from.ensures two;
      from = from_row inv first c.index-to.ensures c.index-from.ensures two;
      two = two;
      few = few inv first c.index-to.ensures c.index-from.ensures two;
      room = space inv first c.index-to.ensures c.index-from.ensures two (capacity c.pop.new.self) c.in-Some.ensures.room;
    }

pub loop-pair-preserved-then-to-from : goal.loop-pair-preserved-then-to-from
loop-pair-preserved-then-to-from g c =
    let e = c.unite.ensures in
    joined c.loop-pair.invariant c.in-Some.ensures.first c.index-to.ensures c.index-from.ensures c.if-to-from.true c.unite.new.self e.relabels
    (g.met.K.Kind.lawful c.args.kind.now) (waiting c.unite.new.queue) e.longer (capacity c.unite.new.queue) (e.room ∙ c.in-Some.ensures.room) e.meeting e.takes e.same e.joins

pub loop-pair-smaller-then-to-from : goal.loop-pair-smaller-then-to-from
loop-pair-smaller-then-to-from g c =
    joined_lighter c.loop-pair.invariant c.in-Some.ensures.first c.index-to.ensures c.index-from.ensures c.if-to-from.true c.unite.new.self c.unite.ensures.relabels
    (waiting c.unite.new.queue) c.unite.ensures.longer

pub loop-pair-preserved : goal.loop-pair-preserved
loop-pair-preserved g c =
    skipped c.loop-pair.invariant c.in-Some.ensures.first c.index-to.ensures c.index-from.ensures c.if-to-from.false (capacity c.pop.new.self) c.in-Some.ensures.room

pub loop-pair-smaller : goal.loop-pair-smaller
loop-pair-smaller g c = skipped_lighter c.loop-pair.invariant c.in-Some.ensures.first (representatives (rep c.loop-pair.self) (vec_len c.args.self.now.table.rows))

pub resolve-requires : goal.resolve-requires
resolve-requires g c = rep_used c.loop-pair.invariant

pub returns : goal.returns
returns g c =
    let inv = c.loop-pair.invariant in
    let empty = c.in_default.ensures.first.0 in
    record { joined = settled inv empty c.resolve.ensures; joins = settled_count inv empty c.resolve.ensures }

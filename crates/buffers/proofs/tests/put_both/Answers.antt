use Rattle.std.proofs.Common.{ℕ, length, ap, ◌∙◌, arith, length-append}
use Rattle.std.proofs.lemmas.Grind.{common_steps}
use Rattle.buffers.proofs.Runs.{wrote_append, written_is, buffer_is}
use Rattle.buffers.proofs.tests.put_both.Goals as goal

pub put-requires : goal.put-requires
put-requires c = omega (arith, length-append c.args.first.now c.args.second.now)

pub put-requires-2 : goal.put-requires-2
put-requires-2 c = omega (arith, length-append c.args.first.now c.args.second.now)

pub returns : goal.returns
returns c =
    let x = c.over-writer.result in
    let y = c.put-2.new.self in
    let both = wrote_append c.put.ensures c.put-2.ensures in
    let all = c.count.ensures ∙ ap (length {A = ℕ}) (written_is x y c.over-writer.ensures.nothing both) in
    record {
      count = all;
      out =
          rw all (buffer_is x y c.over-writer.ensures.nothing both c.over-writer.ensures.all_left (grind (arith, common_steps)));
    }

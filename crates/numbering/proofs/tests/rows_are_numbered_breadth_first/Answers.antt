use Rattle.std.proofs.Common.{◌≡◌, vec_len, arith}
use Rattle.features.specs.Holding.{end, also}
use Rattle.numbering.proofs.tests.rows_are_numbered_breadth_first.Goals as goal

pub grow-end-requires : goal.grow-end-requires
grow-end-requires g c =
    let one : vec_len c.add_variable.new.self.rows ≡ 1 = omega (arith, c.add_variable.ensures.new.nodes, c.in_ok-table.ensures.1) in
    record {
      sound = c.add_variable.ensures.sound;
      inside = omega arith;
      rows_left = omega arith;
      small = also (omega arith) (also (omega arith) end);
    }

pub grow-near-requires : goal.grow-near-requires
grow-near-requires g c =
    let one : vec_len c.add_variable.new.self.rows ≡ 1 = omega (arith, c.add_variable.ensures.new.nodes, c.in_ok-table.ensures.1) in
    record {
      sound = c.grow-end.ensures.sound;
      inside = omega (arith, c.grow-end.ensures.least);
      rows_left = omega (arith, c.grow-end.ensures.most);
      small = also (omega arith) end;
    }

use Rattle.std.proofs.Common.{arith}
use Rattle.joining.proofs.workspace.Workspace.give.Goals as goal

pub returns : goal.returns
returns g c =
    let put = c.meet_state.ensures.put in
    record {
      given = record {
        nodes = omega (arith, put.used);
        vars = cc;
        roots = λ x l. cc;
        edges = λ n a l. grind (arith, put.edges n a);
        others = λ n l d. grind (arith, put.others n d);
        met = c.meet_state.ensures.met;
      };
      classes = grind (arith, put.classes);
      joins = omega (arith, put.joins);
    }

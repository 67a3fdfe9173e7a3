use Rattle.std.proofs.Common.{subst}
use Rattle.kinds.specs.declared.types.misfit.Misfit.TheVariants.{NoGreatest}
use Rattle.kinds.specs.Types.{Filled}
use Rattle.kinds.proofs.Crossed.{crossed, crossed_refused}
use Rattle.kinds.proofs.types.crossing.fill_crossed.Goals as goal

pub returns : goal.returns
returns c =
    let e = c.fill.ensures.settled.refused (NoGreatest 1 2) (crossed_refused c.args.leaves) in
    record {
      answer = e;
      kept =
          (subst (λ x. Filled 5 crossed c.args.leaves c.args.types.now x c.fill.new.self) e c.fill.ensures.filled).1;
    }

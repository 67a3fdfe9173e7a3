use Rattle.std.proofs.Common.{sym}
use Rattle.comparing.proofs.Belows.{no_meet_not_below, meet_tells_below}
use Rattle.comparing.proofs.below.below.Goals as goal

pub returns-in-Some : goal.returns-in-Some
returns-in-Some g c = meet_tells_below (g.K.Kind.meaning c.args.kind.now) (g.met.K.Kind.lawful c.args.kind.now) c.args.v c.args.w c.in-Some.meet c.in-Some.ensures

pub returns-in-None : goal.returns-in-None
returns-in-None g c = sym (no_meet_not_below (g.K.Kind.meaning c.args.kind.now) (g.met.K.Kind.lawful c.args.kind.now) c.args.v c.args.w c.in-None.ensures)

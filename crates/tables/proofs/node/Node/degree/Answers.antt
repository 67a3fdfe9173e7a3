use Rattle.std.proofs.Common.{◌^◌, ◌<◌, sym, rules}
use Rattle.tables.proofs.LowestBits.{degree_is}
use Rattle.tables.proofs.node.Node.degree.Goals as goal

pub returns : goal.returns
returns c =
    let fits : c.args.self.now.present < 2 ^ 32 = search rules in
    sym (degree_is c.args.self.now fits)

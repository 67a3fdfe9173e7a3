use Rattle.tables.specs.Views.{graph}
use Rattle.numbering.proofs.Complete.{complete}
use Rattle.numbering.proofs.numbers.Numbers.number.Goals as goal

pub returns : goal.returns
returns c = complete (graph c.args.table.now) c.drain.new.self c.drain.ensures

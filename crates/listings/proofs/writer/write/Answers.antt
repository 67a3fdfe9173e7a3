use Rattle.std.proofs.Common.{arith}
use Rattle.std.proofs.lemmas.Grind.{common_steps}
use Rattle.listings.proofs.Placing.{fitted}
use Rattle.listings.proofs.writer.write.Goals as goal

pub returns : goal.returns
returns c =
    fitted c.size-needed.result c.over.result c.put_listing.new.writer c.over.ensures.nothing c.over.ensures.all_left c.put_listing.ensures
    (grind (arith, common_steps)) c.size-needed.ensures

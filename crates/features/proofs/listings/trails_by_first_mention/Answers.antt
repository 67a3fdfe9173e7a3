use Rattle.features.proofs.Numbering.{trails_by_first_mention}
use Rattle.features.proofs.listings.trails_by_first_mention.Goals as goal

pub returns : goal.returns
returns c = trails_by_first_mention

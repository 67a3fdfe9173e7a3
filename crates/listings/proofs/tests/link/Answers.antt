use Rattle.listings.proofs.Links.{linked_sound}
use Rattle.listings.proofs.tests.link.Goals as goal

pub returns : goal.returns
returns c =
    linked_sound c.args.table.now c.requires.sound c.args.from c.args.attribute c.args.target c.requires.from c.requires.target c.index_mut.result.now c.lead.new.self
    c.index_mut.ensures.value c.lead.ensures.leads c.lead.ensures.others

use Rattle.std.proofs.Common.{◌≡◌, length, refl, rules}
use Rattle.tables.proofs.Leading.{set_leads, set_others}
use Rattle.tables.proofs.node.Node.lead.Goals as goal

pub returns : goal.returns
returns c =
    let long : length c.args.self.now.targets ≡ 32 = search rules in
    record {
      value = refl;
      leads = set_leads c.args.self.now.value c.args.self.now.present c.args.self.now.targets c.args.attribute c.args.target c.requires long;
      others = λ a n. set_others c.args.self.now.value c.args.self.now.present c.args.self.now.targets c.args.attribute c.args.target a c.requires n;
    }

use Rattle.std.proofs.Common.{◌≡◌, ◌+◌, length, vec_items, vec_len, sym, refl, ap, ◌∙◌, inl, arith}
use mathlib.Core.Option.{some}
use Rattle.std.specs.Vec.{with_item}
use Rattle.tables.specs.declared.node.Node.{Node}
use Rattle.tables.specs.Views.{edge_of}
use Rattle.tables.proofs.Extended.{read_row, added}
use Rattle.tables.proofs.table.Table.step_or_add.Goals as goal

pub returns-in-Some : goal.returns-in-Some
returns-in-Some c =
    let read = read_row c.args.self.now c.args.from c.requires.inside c.index.result.now c.index.ensures in
    let leads = sym (ap (λ (r : Node). edge_of r c.args.attribute) read) ∙ c.in-Some.ensures in
    record {
      stepped = inl (leads, refl);
      inside = c.requires.sound.edges_inside c.args.from c.args.attribute c.in-Some.next c.requires.inside leads;
      least = omega arith;
      most = omega arith;
      vars = refl;
      roots = refl;
      sound = c.requires.sound;
    }

pub returns : goal.returns
returns c =
    let t = c.args.self.now in
    let pushed = c.push_reserved.ensures in
    let read = read_row t c.args.from c.requires.inside c.index.result.now c.index.ensures in
    let lacked = sym (ap (λ (r : Node). edge_of r c.args.attribute) read) ∙ c.in_default.ensures in
    let many : length (vec_items c.push_reserved.new.self) ≡ vec_len t.rows + 1 = sym c.push_reserved.new.self.ok.0 ∙ pushed.len in
    let leads = c.lead.ensures.leads ∙ ap some c.len-added.ensures in
    rw c.len-added.ensures
    (added t c.requires.sound c.bare.result c.requires.row_left (vec_items c.push_reserved.new.self) pushed.items c.args.top c.bare.ensures.value c.bare.ensures.bare
    c.args.from c.args.attribute c.requires.inside c.row.result.now c.lead.new.self lacked c.row.ensures.read c.lead.ensures.value leads c.lead.ensures.others
    (record { rows = with_item c.push_reserved.new.self c.args.from c.lead.new.self; roots = t.roots }) refl many pushed.len pushed.capacity refl)

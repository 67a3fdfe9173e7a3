use Rattle.std.proofs.Common.{◌≡◌, ◌<◌, Bool, true, cond, [], ◌∷◌, ◌++◌, length, set, vec_items, sym, refl, ap, ◌∙◌, arith, lt-ltb}
use Rattle.queue.specs.Waiting.{waiting}
use Rattle.tables.specs.declared.node.Node.{Node}
use Rattle.tables.specs.Views.{edge_of, row, graph}
use Rattle.tables.proofs.Extended.{read_row}
use Rattle.joining.specs.declared.workspace.Pair.{Pair}
use Rattle.joining.proofs.Taking.{edged_same, takes_pair, takes_target, row_there, row_kept}
use Rattle.joining.proofs.attributes.take_attribute.Goals as goal

pub returns-in-Some : goal.returns-in-Some
returns-in-Some c =
    let t = c.args.table.now in
    let read = read_row t c.args.to c.requires.to c.index.result.now c.index.ensures in
    let leads = sym (ap (λ (r : Node). edge_of r c.args.attribute) read) ∙ c.in-Some.ensures in
    let pairs = waiting c.args.queue.now in
    let pair : Pair = record { left = c.in-Some.kept; right = c.args.target } in
    let taken : c.push.result ≡ true = c.push.ensures.taken ∙ lt-ltb _ _ c.requires.room in
    record {
      edged = edged_same t;
      takes = takes_pair (graph t).edge pairs c.args.to c.args.attribute c.args.target c.in-Some.kept (waiting c.push.new.self) leads
          (c.push.ensures.after ∙ ap (λ (b : Bool). cond b (pairs ++ (pair ∷ [])) pairs) taken);
      room = c.push.ensures.room;
    }

pub returns-in-None : goal.returns-in-None
returns-in-None c =
    let t = c.args.table.now in
    let rows = vec_items t.rows in
    let to = c.args.to in
    let a = c.args.attribute in
    let long = t.rows.ok.0 in
    let within : to < length rows = omega (arith, c.requires.to) in
    let lacks = sym (ap (λ (r : Node). edge_of r a) (read_row t to c.requires.to c.index.result.now c.index.ensures)) ∙ c.in-None.ensures in
    let lent = read_row t to c.requires.to c.index_mut.result.now c.index_mut.ensures.value in
    let node = c.lead.new.self in
    record {
      edged = record { used = refl; room = refl; roots = refl; values = λ x. row_kept rows to node within (λ (r : Node). r.value) x (λ _. c.lead.ensures.value ∙ ap (λ (r : Node). r.value) lent) };
      takes = takes_target (graph t).edge (waiting c.args.queue.now) to a c.args.target (λ r b. edge_of (row (set rows to node) r) b) lacks
          (ap (λ (r : Node). edge_of r a) (row_there rows to node within) ∙ c.lead.ensures.leads)
          (λ x b n. row_kept rows to node within (λ (r : Node). edge_of r b) x (λ e. c.lead.ensures.others b (n e) ∙ ap (λ (r : Node). edge_of r b) lent));
      room = refl;
    }

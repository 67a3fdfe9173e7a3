use Rattle.std.proofs.Common.{◌<◌, Bool, false, true, cond, length, vec_items, sym, refl, ap, ◌∙◌, arith, get_or-set_other, get_or-set_same}
use mathlib.Core.Option.{some, none}
use Rattle.tables.specs.declared.node.Node.{Node}
use Rattle.tables.specs.Views.{edge_of, graph}
use Rattle.tables.proofs.Known.{sound_known}
use Rattle.joining.specs.Workspaces.{standing}
use Rattle.joining.proofs.Changing.{valued_sound}
use Rattle.joining.proofs.Taking.{row_kept}
use Rattle.joining.proofs.workspace.Workspace.put_state.Goals as goal

pub invariant_of-self : goal.invariant_of-self
invariant_of-self c =
    let s = c.args.self.now in
    let long = s.table.rows.ok.0 in
    let node : Node = record { value = c.in-Some.value; present = c.row.result.now.present; targets = c.row.result.now.targets } in
    let within : c.args.row < length (vec_items s.table.rows) = omega (arith, c.requires) in
    record {
      sound = ∣ valued_sound s.table _ (sound_known s.sound) refl refl refl (λ x a. row_kept (vec_items s.table.rows) c.args.row node within (λ (r : Node). edge_of r a) x (λ _. ap (λ (r : Node). edge_of r a) c.row.ensures.read)) ∣₁;
      classes = s.classes;
      voids = s.voids;
    }

pub index_mut-requires-in-None : goal.index_mut-requires-in-None
index_mut-requires-in-None c = let s = c.args.self.now in omega (arith, c.requires, (sound_known s.sound).rows, s.voids)

pub returns-in-None : goal.returns-in-None
returns-in-None c =
    let s = c.args.self.now in
    let long = s.void.ok.0 in
    let row = c.args.row in
    let within : row < length (vec_items s.void) = omega (arith, c.requires, (sound_known s.sound).rows, s.voids) in
    record {
      used = refl;
      roots = refl;
      edges = λ x a. refl;
      classes = refl;
      joins = refl;
      others = λ x n. ap (λ (b : Bool). cond b none (some ((graph s.table).value x))) (get_or-set_other (vec_items s.void) row x true false n);
      stands =
          ap (λ (b : Bool). cond b none (some ((graph s.table).value row))) (get_or-set_same (vec_items s.void) row true false within) ∙ sym (ap standing c.in-None.is);
    }

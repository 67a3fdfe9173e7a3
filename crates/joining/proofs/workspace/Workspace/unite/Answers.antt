use Rattle.std.proofs.Common.{◌≡◌, ℕ, ◌+◌, false, cond, length, get_or, vec_items, vec_len, sym, refl, ap, ◌∙◌, arith, rules}
use mathlib.Core.Option.{some, none}
use Rattle.std.proofs.lemmas.List.{with_items_is}
use Rattle.queue.specs.Waiting.{waiting}
use Rattle.tables.specs.Views.{graph}
use Rattle.tables.proofs.Known.{sound_known}
use Rattle.joining.specs.Workspaces.{state, standing, Waits}
use Rattle.joining.proofs.Changing.{takes_sound}
use Rattle.joining.proofs.Steps.{states_met, takes_from, relabels_at}
use Rattle.joining.proofs.workspace.Workspace.unite.Goals as goal

pub invariant_of-self-2 : goal.invariant_of-self-2
invariant_of-self-2 g c =
    let after = c.meet_state.new.self in
    let used = c.meet_state.ensures.put.used in
    let took = c.take_attributes.ensures in
    record {
      sound = ∣
          takes_sound after.table c.take_attributes.new.table (sound_known after.sound) took.edged.used took.edged.room (Waits (waiting c.args.queue.now))
          (Waits (waiting c.take_attributes.new.queue)) c.args.to c.args.from (omega (arith, used, c.requires.to)) (omega (arith, used, c.requires.from)) took.edged.roots took.takes ∣₁;
      classes = after.classes;
      voids = after.voids;
    }

pub returns : goal.returns
returns g c =
    let w = c.args.self.now in
    let put = c.meet_state.ensures.put in
    let took = c.take_attributes.ensures in
    let after = c.meet_state.new.self in
    let table = c.take_attributes.new.table in
    let class = c.relabel.new.class in
    let long : length class ≡ vec_len w.class = search rules in
    let stands : (r : ℕ) → cond (get_or (vec_items after.void) r false) none (some ((graph table).value r)) ≡ state after r =
    λ r. ap (λ (v : ℕ). cond (get_or (vec_items after.void) r false) none (some v)) (took.edged.values r) in
    record {
      relabels = relabels_at 272 (vec_items w.class) c.deref_mut.result.now (vec_items after.class) class c.args.to c.args.from c.deref_mut.ensures.value
          (sym (ap vec_items put.classes ∙ with_items_is w.class class long)) (c.deref_mut.ensures.len ∙ w.classes) c.relabel.ensures;
      meeting = record {
        others = λ r n. stands r ∙ put.others r n;
        met = states_met (g.K.Kind.meaning c.args.kind.now) (state w c.args.to) (standing c.state_of-other.result) (state after c.args.to) (state w c.args.to) (state w c.args.from) _
            refl c.state_of-other.ensures (sym (stands c.args.to)) c.meet_state.ensures.met;
      };
      takes = takes_from (graph w.table).edge (graph after.table).edge (graph table).edge (Waits (waiting c.args.queue.now)) (Waits (waiting c.take_attributes.new.queue)) c.args.to c.args.from put.edges took.takes;
      same = record { used = took.edged.used ∙ put.used; roots = took.edged.roots ∙ put.roots };
      joins = ap (λ (z : ℕ). z + 1) put.joins;
      longer = took.longer;
      room = took.room;
    }

-- What stands after each step of a closing.
use Rattle.std.proofs.Common.{◌≡◌, ℕ, ◌<◌, ◌≤◌, Bool, true, false, cond, List, [], ◌∷◌, ◌++◌, length, get_or, vec_items, vec_len, sym, refl, ap, ◌∙◌, subst, arith}
use mathlib.Core.Option.{Option, some, none}
use mathlib.Core.Logic.{∥∥₁_prop}
use native.Mathlib.Nat.{ℕ_set}
use Rattle.std.proofs.lemmas.List.{get_or_read}
use Rattle.kinds.specs.Meaning.{Meaning, Lawful}
use Rattle.features.specs.Terms.{Term, Statement, equals, is}
use Rattle.features.specs.Graphs.{Graph}
use Rattle.features.specs.Closing.{top}
use Rattle.growth.specs.Standing.{Stands, Judged, greatest, void}
use Rattle.growth.specs.Changes.{Grown, Given}
use Rattle.growth.specs.Joins.{Representatives, renumbered}
use Rattle.growth.specs.Theorems.{SameShape, mentioning}
use Rattle.growth.proofs.Growing.{grown_from_root, pair_grown, equation_mentions, value_mentions}
use Rattle.growth.proofs.Holding.{same_shape_stands}
use Rattle.growth.proofs.Renumbering.{renumbered_stands, numbered_join_stands}
use Rattle.growth.proofs.Values.{value_stands}
use Rattle.tables.specs.declared.node.Node.{Node}
use Rattle.tables.specs.declared.table.Table.{Table}
use Rattle.tables.specs.Views.{graph, values, edge_of, Sound}
use Rattle.tables.specs.Copying.{Copied}
use Rattle.joining.specs.declared.workspace.Workspace.{Workspace}
use Rattle.joining.specs.Workspaces.{state, rep, Valued}
use Rattle.numbering.specs.Given.{ord, num}
use Rattle.numbering.specs.Frontier.{Numbered}
use Rattle.closing.specs.declared.closer.Closer.{Closer}
use Rattle.closing.specs.Closings.{Arranged, closed_graph, closed_state}

-- a workspace of which nothing but the proofs of its facts was touched is the same
pub untouched : (w : Workspace) (sound : ∥ Sound w.table ∥₁) (classes : vec_len w.class ≡ 272) (voids : vec_len w.void ≡ 272)
    → ◌≡◌ {A = Workspace} (record { table = w.table; class = w.class; void = w.void; joins = w.joins; sound = sound; classes = classes; voids = voids }) w
untouched w sound classes voids = λ i.
    record { table = w.table; class = w.class; void = w.void; joins = w.joins; sound = ∥∥₁_prop sound w.sound i; classes = ℕ_set _ _ classes w.classes i; voids = ℕ_set _ _ voids w.voids i }

copied_shape : {t u : Table} → Copied t u → SameShape (graph t) (graph u)
copied_shape c = record {
  nodes = c.used;
  vars = c.vars;
  roots = c.roots;
  edges = λ n a lt. ap (λ (r : Node). edge_of r a) (c.rows n lt);
}

-- a copy stands for what its original stands for
pub copied_stands : (m : Meaning) (t u : Table) (vars : ℕ) (said : List Statement) → Copied t u
    → Stands m (graph t) (values t) vars said → Stands m (graph u) (values u) vars said
copied_stands m t u vars said c stands =
    same_shape_stands m (graph t) (graph u) (values t) (values u) vars said (copied_shape c)
    (λ n lt. ap (λ (r : Node). some r.value) (c.rows n lt)) stands

-- on a row on which a value stands, its value stands
value_there : (b : Bool) (u v : ℕ) → ◌≡◌ {A = Option ℕ} (cond b none (some u)) (some u) → ◌≡◌ {A = Option ℕ} (cond b none (some v)) (some v)
value_there true u v e = let z : ◌≡◌ {A = ℕ} 0 1 = cc in absurd (omega arith)
value_there false u v e = refl

-- the rows of one workspace stay without a contradiction when its table grows
pub states_grown : (w w' : Workspace) → w'.void ≡ w.void → ((x : ℕ) → x < 272 → state w x ≡ some ((graph w.table).value x))
    → (x : ℕ) → x < 272 → state w' x ≡ values w'.table x
states_grown w w' same h x lt =
    ap (λ (z : _). cond {A = Option ℕ} (get_or (vec_items z) x false) none (some ((graph w'.table).value x))) same
    ∙ value_there (get_or (vec_items w.void) x false) ((graph w.table).value x) ((graph w'.table).value x) (h x lt)

same_itself : (g : Graph) → SameShape g g
same_itself g = record { nodes = refl; vars = refl; roots = λ x h. refl; edges = λ n a h. refl }

-- what stands on the rows in use is all that matters
pub states_stand : (m : Meaning) (g : Graph) (s s' : ℕ → Option ℕ) (vars : ℕ) (said : List Statement)
    → ((n : ℕ) → n < g.nodes → s' n ≡ s n) → Stands m g s vars said → Stands m g s' vars said
states_stand m g s s' vars said e stands = same_shape_stands m g g s s' vars said (same_itself g) e stands

-- what stands on a node is a value of the kind
pub stands_valued : (m : Meaning) → Lawful m → (g : Graph) (s : ℕ → Option ℕ) (vars : ℕ) (said : List Statement) → Stands m g s vars said
    → (x v : ℕ) → x < g.nodes → s x ≡ some v → m.value v ≡ true
stands_valued m lawful g s vars said stands x v lt e =
    let r = stands.shape.reached x lt in
    judged_value r.0 (s x) (stands.judged r.0 x r.1) e
  where
    judged_value : (p : Term) (o : Option ℕ) → Judged m vars said p o → o ≡ some v → m.value v ≡ true
    judged_value p (some u) (greatest valued) e = let h : u ≡ v = cc in subst (λ (z : ℕ). m.value z ≡ true) h (lawful.values u m.top (valued.0 m.top top)).0
    judged_value p none (void nothing) e = let z : ◌≡◌ {A = ℕ} 0 1 = cc in absurd (omega arith)

-- numbered, the rows stand for what they stood for
pub arranged_stands : (m : Meaning) (c : Closer) (vars : ℕ) (said : List Statement) → Arranged c
    → Stands m (graph c.work.table) (state c.work) vars said → Stands m (closed_graph c) (closed_state c) vars said
arranged_stands m c vars said a stands =
    renumbered_stands m (graph c.work.table) (state c.work) vars said (vec_len c.numbers.listed) (ord c.numbers) (num c.numbers) stands a.numbered.numbering

-- `w` holds a copy of `t`, and `k` what was grown in it
module _ (m : Meaning) (lawful : Lawful m) (t : Table) (w k : Workspace) (copied : Copied t w.table) (valued : (x : ℕ) → x < 272 → state w x ≡ some ((graph w.table).value x)) (voids : k.void ≡ w.void)
    (few : vec_len k.table.rows ≤ 272) where
  -- a term grown and a value come to its end
  pub value_closed : (w' : Workspace) (c : Closer) (p : Term) (e v : ℕ) → p.var < vec_len t.roots
      → Grown m.top (graph w.table) (values w.table) ((graph w.table).root p.var) p.path (graph k.table) (values k.table) e
      → Given m e v (graph k.table) (state k) (graph w'.table) (state w') → Arranged c → c.work ≡ w'
      → (said : List Statement) → Stands m (graph t) (values t) (vec_len t.roots) said → Stands m (closed_graph c) (closed_state c) (vec_len t.roots) (said ++ (is p v ∷ []))
  value_closed w' c p e v declared grown given arranged same said stands =
      let n = vec_len t.roots in
      let begun = copied_stands m t w.table n said copied stands in
      let there = grown_from_root m lawful n said p begun declared grown in
      let stood = states_stand m (graph k.table) (values k.table) (state k) n (mentioning m said p) (λ x lt. states_grown w k voids valued x (omega (arith, few, lt))) there.stands in
      let came = value_stands m (graph k.table) (graph w'.table) (state k) (state w') n (mentioning m said p) p e v lawful stood there.ends_there given in
      arranged_stands m c n (said ++ (is p v ∷ [])) arranged
      (subst (λ (z : Workspace). Stands m (graph z.table) (state z) n (said ++ (is p v ∷ []))) (sym same)
      (value_mentions m (graph w'.table) (state w') n said p v came))

  -- two terms grown, one after the other, and their ends joined with all that lies beneath
  pub equation_closed : (u : Table) (w' : Workspace) (c : Closer) (p q : Term) (s r : ℕ) → p.var < vec_len t.roots → q.var < vec_len t.roots
      → Grown m.top (graph w.table) (values w.table) ((graph w.table).root p.var) p.path (graph u) (values u) s
      → Grown m.top (graph u) (values u) ((graph u).root q.var) q.path (graph k.table) (values k.table) r
      → (Valued m k → Representatives m s r (graph k.table) (state k) (rep w') (graph w'.table) (state w'))
      → Arranged c → c.work ≡ w'
      → (said : List Statement) → Stands m (graph t) (values t) (vec_len t.roots) said → Stands m (closed_graph c) (closed_state c) (vec_len t.roots) (said ++ (equals p q ∷ []))
  equation_closed u w' c p q s r declared also first second joined arranged same said stands =
      let n = vec_len t.roots in
      let begun = copied_stands m t w.table n said copied stands in
      let there = pair_grown m lawful n (graph w.table) (graph u) (graph k.table) (values w.table) (values u) (values k.table) said p q s r begun declared also first second in
      let all : List Statement = mentioning m (mentioning m said p) q in
      let stood = states_stand m (graph k.table) (values k.table) (state k) n all (λ x lt. states_grown w k voids valued x (omega (arith, few, lt))) there.0.stands in
      let reps = joined (λ x v lt e. stands_valued m lawful (graph k.table) (state k) n all stood x v lt e) in
      let numbered : Numbered (graph w'.table) c.numbers = subst (λ (z : Workspace). Numbered (graph z.table) c.numbers) same arranged.numbered in
      let count = vec_len c.numbers.listed in
      let came = numbered_join_stands m (graph k.table) (graph w'.table) (state k) (state w') n all p q s r (rep w') count (ord c.numbers) (num c.numbers) lawful stood there.1 there.0.ends_there reps numbered.numbering in
      let at_last = equation_mentions m (renumbered (graph w'.table) count (ord c.numbers) (num c.numbers)) (λ x. state w' (ord c.numbers x)) n said p q came in
      subst (λ (z : Workspace). Stands m (renumbered (graph z.table) count (ord c.numbers) (num c.numbers)) (λ x. state z (ord c.numbers x)) n (said ++ (equals p q ∷ []))) (sym same) at_last

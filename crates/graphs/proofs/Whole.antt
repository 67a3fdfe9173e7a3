-- Records and variables' nodes read one after another, and the graph that they make.
use Rattle.std.proofs.Common.{◌≡◌, ℕ, suc, ◌+◌, ◌-◌, ◌*◌, ◌<◌, ◌≤◌, Bool, ◌&&◌, List, [], ◌∷◌, ◌++◌, length, get_or, take, drop, vec_items, vec_len, vec_capacity, sym, refl, ap, ◌∙◌, subst, append_assoc, add-one, arith, take-append-drop, length-take, drop-drop, take-add, le-ltb}
use mathlib.Core.Option.{some}
use native.Mathlib.Decide.{dec_lt}
use Rattle.kinds.specs.Masks.{has}
use Rattle.kinds.specs.Meaning.{Meaning, Lawful}
use Rattle.features.specs.Bytes.{Written}
use Rattle.features.specs.Graphs.{Graph}
use Rattle.features.specs.Numbering.{Inside}
use Rattle.features.specs.Listing.{little, along, record_of, written}
use Rattle.features.proofs.Bytes.{along_more, along_same}
use Rattle.features.proofs.Paths.{none_without}
use Rattle.tables.specs.declared.node.Node.{Node}
use Rattle.tables.specs.declared.table.Table.{Table}
use Rattle.tables.specs.Views.{row, blank, edge_of, graph, Sound}
use Rattle.tables.proofs.Extended.{kept_before, added_last}
use Rattle.tables.proofs.Leading.{absent}
use Rattle.tables.proofs.Walking.{nowhere}
use Rattle.graphs.specs.Listings.{node_count, variable_count, table_place, count_at, start}
use Rattle.graphs.specs.Reading.{Right, RightBelow}
use Rattle.graphs.specs.Rows.{TrailerOf, record_of_row, RowAt, RowRight, RowsOf, RootsOf}
use Rattle.graphs.specs.declared.trailer.Trailer.{Trailer}

pub right_more : (m : Meaning) (bs : List ℕ) (k : ℕ) → RightBelow m bs k → Right m bs k → RightBelow m bs (k + 1)
right_more m bs k below here = record { counted = below.counted; records = λ j l. pick j l (dec_lt j k) }
  where
    pick : (j : ℕ) → j < k + 1 → Dec (j < k) → Right m bs j
    pick j l (yes h) = below.records j h
    pick j l (no h) = subst (Right m bs) (omega arith) here

row_right : (m : Meaning) (bs : List ℕ) (k : ℕ) (r : Node) → Right m bs k → RowAt bs (start bs k) r → RowRight m (node_count bs) r
row_right m bs k r right at = record {
  valued = ap m.value at.value ∙ right.valued;
  inside = λ a t e. let o = at.edges a t e in subst (λ (z : ℕ). z < node_count bs) o.2 (right.targets o.0 o.1);
  bare = λ a leaf. none_without (edge_of r a) (λ t e. let o = at.edges a t e in omega (arith, o.1, right.bare (sym (ap m.leaf at.value) ∙ leaf)));
}

pub rows_none : (m : Meaning) (bs : List ℕ) (rows : List Node) → RowsOf m bs rows 0
rows_none m bs rows = record { bytes = refl; right = λ n l. absurd (omega arith) }

pub rows_more : (m : Meaning) (bs : List ℕ) (rows rows' : List Node) (k : ℕ) (r : Node) → length rows ≡ k → rows' ≡ rows ++ r ∷ [] → Right m bs k → RowAt bs (start bs k) r → RowsOf m bs rows k → RowsOf m bs rows' (k + 1)
rows_more m bs rows rows' k r long more right at before = subst (RowsOf m bs rows') (sym (add-one k)) (record { bytes = bytes; right = λ n l. pick n l (dec_lt n k) })
  where
    same : (n : ℕ) → n < k → row rows' n ≡ row rows n
    same = kept_before rows rows' k r blank long more

    last : row rows' k ≡ r
    last = added_last rows rows' k r blank long more

    bytes : along (λ n. record_of_row (row rows' n)) 0 (suc k) ≡ take (start bs (suc k)) bs
    bytes =
        let c = count_at bs (start bs k) in
        let front = along_same (λ n. record_of_row (row rows' n)) (λ n. record_of_row (row rows n)) 0 k (λ n l h. ap record_of_row (same n (omega arith))) in
        let length_is : start bs k + (9 + 3 * c) ≡ start bs k + 9 + 3 * c = omega arith in
        along_more (λ n. record_of_row (row rows' n)) k
        ∙ (λ i. (front ∙ before.bytes) i ++ (ap record_of_row last ∙ at.bytes) i)
        ∙ sym (take-add (start bs k) (9 + 3 * c) bs) ∙ ap (λ (z : ℕ). take z bs) length_is

    pick : (n : ℕ) → n < suc k → Dec (n < k) → RowRight m (node_count bs) (row rows' n)
    pick n l (yes h) = subst (RowRight m (node_count bs)) (sym (same n h)) (before.right n h)
    pick n l (no h) =
        let e : k ≡ n = omega arith in
        subst (λ (z : ℕ). RowRight m (node_count bs) (row rows' z)) e (subst (RowRight m (node_count bs)) (sym last) (row_right m bs k r right at))

pub roots_none : (bs roots : List ℕ) → RootsOf bs roots 0
roots_none bs roots = record { bytes = refl; inside = λ x l. absurd (omega arith) }

pub roots_more : (bs roots roots' : List ℕ) (x r : ℕ) → length roots ≡ x → roots' ≡ roots ++ r ∷ [] → r < node_count bs → little 2 r ≡ take 2 (drop (table_place bs + 2 * x) bs) → RootsOf bs roots x → RootsOf bs roots' (x + 1)
roots_more bs roots roots' x r long more inside here before = subst (RootsOf bs roots') (sym (add-one x)) (record { bytes = bytes; inside = λ y l. pick y l (dec_lt y x) })
  where
    same : (y : ℕ) → y < x → get_or roots' y 0 ≡ get_or roots y 0
    same = kept_before roots roots' x r 0 long more

    last : get_or roots' x 0 ≡ r
    last = added_last roots roots' x r 0 long more

    bytes : along (λ y. little 2 (get_or roots' y 0)) 0 (suc x) ≡ take (2 * suc x) (drop (table_place bs) bs)
    bytes =
        let front = along_same (λ y. little 2 (get_or roots' y 0)) (λ y. little 2 (get_or roots y 0)) 0 x (λ y l h. ap (little 2) (same y (omega arith))) in
        let more : 2 * x + 2 ≡ 2 * suc x = omega arith in
        along_more (λ y. little 2 (get_or roots' y 0)) x
        ∙ (λ i. (front ∙ before.bytes) i ++ (ap (little 2) last ∙ here ∙ sym (ap (take 2) (drop-drop (2 * x) (table_place bs) bs))) i)
        ∙ sym (take-add (2 * x) 2 (drop (table_place bs) bs)) ∙ ap (λ (z : ℕ). take z (drop (table_place bs) bs)) more

    pick : (y : ℕ) → y < suc x → Dec (y < x) → get_or roots' y 0 < node_count bs
    pick y l (yes h) = subst (λ (z : ℕ). z < node_count bs) (sym (same y h)) (before.inside y h)
    pick y l (no h) =
        let e : x ≡ y = omega arith in
        subst (λ (z : ℕ). get_or roots' z 0 < node_count bs) e (subst (λ (z : ℕ). z < node_count bs) (sym last) inside)

-- the four parts make the whole
written_whole : (bs : List ℕ) (t : Trailer) (g : Graph) → TrailerOf bs t → g.nodes ≡ node_count bs → g.vars ≡ variable_count bs
    → along (record_of g) 0 (node_count bs) ≡ take (table_place bs) bs → along (λ x. little 2 (g.root x)) 0 (variable_count bs) ≡ take (2 * variable_count bs) (drop (table_place bs) bs) → bs ≡ written g
written_whole bs t g of nodes vars records roots =
    let p = table_place bs in
    let v = variable_count bs in
    let rs = along (record_of g) 0 g.nodes in
    let xs = along (λ x. little 2 (g.root x)) 0 g.vars in
    let rs_is : rs ≡ take p bs = ap (along (record_of g) 0) nodes ∙ records in
    let xs_is : xs ≡ take (2 * v) (drop p bs) = ap (along (λ x. little 2 (g.root x)) 0) vars ∙ roots in
    let long : length rs ≡ p = ap length rs_is ∙ simp length-take (omega (arith, of.counted.whole)) in
    let rest : drop (2 * v) (drop p bs) ≡ drop (length bs - 8) bs = drop-drop (2 * v) p bs ∙ ap (λ (z : ℕ). drop z bs) (omega (arith, of.counted.whole)) in
    sym (take-append-drop p bs) ∙ ap (λ (z : List ℕ). take p bs ++ z) (sym (take-append-drop (2 * v) (drop p bs)))
    ∙ (λ i. sym rs_is i ++ (sym xs_is i ++ (rest ∙ of.bytes) i))
    ∙ (λ i. rs ++ (xs ++ (little 2 (sym nodes i) ++ little 2 (sym vars i) ++ little 4 (sym long i))))
    ∙ regroup rs xs (little 2 g.nodes) (little 2 g.vars) (little 4 (length rs))
  where
    regroup : (a b c d e : List ℕ) → a ++ (b ++ (c ++ d ++ e)) ≡ a ++ b ++ c ++ d ++ e
    regroup a b c d e = simp append_assoc

edge_small : (r : Node) (a t : ℕ) → edge_of r a ≡ some t → a < 32
edge_small r a t e = pick (dec_lt a 32)
  where
    pick : Dec (a < 32) → a < 32
    pick (yes l) = l
    pick (no l) = absurd (nowhere (edge_of r a) (absent r a (ap (λ (z : Bool). z && has r.present a) (le-ltb a 32 (omega arith)))) e)

module _ (m : Meaning) (laws : Lawful m) (bs : List ℕ) (t : Trailer) (of : TrailerOf bs t) (ends : start bs (node_count bs) ≡ table_place bs)
    (u : Table) (row_room : 272 ≤ vec_capacity u.rows) (root_room : 64 ≤ vec_capacity u.roots) (used : vec_len u.rows ≡ node_count bs) (vars : vec_len u.roots ≡ variable_count bs)
    (rows : RowsOf m bs (vec_items u.rows) (node_count bs)) (roots : RootsOf bs (vec_items u.roots) (variable_count bs)) where
  edge_inside : (n a k : ℕ) → n < vec_len u.rows → (graph u).edge n a ≡ some k → k < vec_len u.rows
  edge_inside n a k l e = let i = (rows.right n (omega arith)).inside a k e in omega arith

  root_inside : (x : ℕ) → x < vec_len u.roots → (graph u).root x < vec_len u.rows
  root_inside x l = let i = roots.inside x (omega arith) in omega arith

  table_sound : Sound u
  table_sound = record {
    rows = omega (arith, of.counted.nodes);
    row_room = row_room;
    roots = omega (arith, of.counted.variables);
    root_room = root_room;
    edges_inside = edge_inside;
    roots_inside = root_inside;
  }

  table_written : Written m bs (graph u)
  table_written = record {
    within = record {
      few_nodes = omega (arith, of.counted.nodes);
      few_vars = omega (arith, of.counted.variables);
      values = λ n l. laws.bounded ((graph u).value n) (rows.right n (omega arith)).valued;
      edges = λ n a k l e. (edge_small (row (vec_items u.rows) n) a k e, edge_inside n a k l e);
      roots = root_inside;
    };
    feature = record {
      values = λ n l. (rows.right n (omega arith)).valued;
      edges = λ n a k l e. (edge_small (row (vec_items u.rows) n) a k e, edge_inside n a k l e);
      roots = root_inside;
      leaves = λ n a l leaf. (rows.right n (omega arith)).bare a leaf;
    };
    bytes = written_whole bs t (graph u) of used vars (rows.bytes ∙ ap (λ (z : ℕ). take z bs) ends) roots.bytes;
  }

  pub table_whole : Sound u × Written m bs (graph u)
  table_whole = (table_sound, table_written)

pub inside_of : (m : Meaning) (bs : List ℕ) (g : Graph) → Written m bs g → Inside g
inside_of m bs g w = record { edges = λ n a t l e. (w.within.edges n a t l e).1; roots = w.within.roots }

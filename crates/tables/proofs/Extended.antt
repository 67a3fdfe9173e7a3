-- A table with a row more.
use Rattle.std.proofs.Common.{◌≡◌, ℕ, ◌+◌, ◌<◌, ◌⊎◌, List, [], ◌∷◌, ◌++◌, length, get_or, set, vec_items, vec_len, vec_capacity, sym, refl, ap, ◌∙◌, inl, inr, add-one, arith, get_or-set_other, get_or-set_same}
use mathlib.Core.Option.{some, none}
use Rattle.std.proofs.Math.Seq.{get_or-append_seam}
use Rattle.std.proofs.lemmas.List.{get_or_read, get_or_append_left}
use Rattle.std.proofs.lemmas.Bool.{cases_eq}
use Rattle.growth.specs.Changes.{NewNode, NewVariable}
use Rattle.tables.specs.declared.node.Node.{Node}
use Rattle.tables.specs.declared.table.Table.{Table}
use Rattle.tables.specs.Growing.{Stepped}
use Rattle.tables.specs.Views.{row, blank, edge_of, graph, values, Sound}
use Rattle.tables.proofs.Walking.{nowhere, same_target}

-- what a read of a row gives
pub read_row : (t : Table) (n : ℕ) → n < vec_len t.rows → (x : Node) → x ≡ get_or (vec_items t.rows) n x → x ≡ row (vec_items t.rows) n
read_row t n l x e = let long = t.rows.ok.0 in get_or_read (vec_items t.rows) n x (omega arith) e blank

-- what stood in a list before one thing more was added, and that thing
module _ {X : Type 0} (xs ys : List X) (n : ℕ) (b d : X) (long : length xs ≡ n) (more : ys ≡ xs ++ b ∷ []) where
  pub kept_before : (k : ℕ) → k < n → get_or ys k d ≡ get_or xs k d
  kept_before k l = ap (λ (zs : List X). get_or zs k d) more ∙ get_or_append_left xs (b ∷ []) d k (omega arith)

  pub added_last : get_or ys n d ≡ b
  added_last = ap (λ (zs : List X). get_or zs n d) more ∙ ap (λ (m : ℕ). get_or (xs ++ b ∷ []) m d) (sym long) ∙ get_or-append_seam xs b [] d

-- a row after the others
module _ (t : Table) (s : Sound t) (b : Node) (left : vec_len t.rows < 272) (rows : List Node) (more : rows ≡ vec_items t.rows ++ b ∷ []) where
  row_before : (n : ℕ) → n < vec_len t.rows → row rows n ≡ row (vec_items t.rows) n
  row_before = kept_before (vec_items t.rows) rows (vec_len t.rows) b blank (sym t.rows.ok.0) more

  row_new : row rows (vec_len t.rows) ≡ b
  row_new = added_last (vec_items t.rows) rows (vec_len t.rows) b blank (sym t.rows.ok.0) more

  -- a row that has no attribute, on which a new variable stands
  module _ (v : ℕ) (valued : b.value ≡ v) (bare : (a : ℕ) → edge_of b a ≡ none) (root_left : vec_len t.roots < 64) (u : Table) (items : vec_items u.rows ≡ rows)
      (more_rows : vec_len u.rows ≡ vec_len t.rows + 1) (row_room : vec_capacity u.rows ≡ vec_capacity t.rows)
      (roots : vec_items u.roots ≡ vec_items t.roots ++ vec_len t.rows ∷ []) (more_roots : vec_len u.roots ≡ vec_len t.roots + 1)
      (root_room : vec_capacity u.roots ≡ vec_capacity t.roots) where
    root_before : (x : ℕ) → x < vec_len t.roots → get_or (vec_items u.roots) x 0 ≡ get_or (vec_items t.roots) x 0
    root_before = kept_before (vec_items t.roots) (vec_items u.roots) (vec_len t.roots) (vec_len t.rows) 0 (sym t.roots.ok.0) roots

    root_new : get_or (vec_items u.roots) (vec_len t.roots) 0 ≡ vec_len t.rows
    root_new = added_last (vec_items t.roots) (vec_items u.roots) (vec_len t.roots) (vec_len t.rows) 0 (sym t.roots.ok.0) roots

    kept_row : (n : ℕ) → n < vec_len t.rows → row (vec_items u.rows) n ≡ row (vec_items t.rows) n
    kept_row n l = ap (λ (xs : List Node). row xs n) items ∙ row_before n l

    last_row : row (vec_items u.rows) (vec_len t.rows) ≡ b
    last_row = ap (λ (xs : List Node). row xs (vec_len t.rows)) items ∙ row_new

    pub new_variable : NewVariable v (graph t) (values t) (graph u) (values u)
    new_variable = record {
      kept = record { roots = root_before; states = λ n l. ap (λ (r : Node). some r.value) (kept_row n l) };
      nodes = more_rows ∙ add-one (vec_len t.rows);
      vars = more_roots ∙ add-one (vec_len t.roots);
      root = root_new;
      edges = λ n a l. ap (λ (r : Node). edge_of r a) (kept_row n l);
      bare = λ a. ap (λ (r : Node). edge_of r a) last_row ∙ bare a;
      stands = ap (λ (r : Node). some r.value) last_row ∙ ap some valued;
    }

    pub variable_sound : Sound u
    variable_sound = record {
      rows = omega arith;
      row_room = omega (arith, s.row_room);
      roots = omega arith;
      root_room = omega (arith, s.root_room);
      edges_inside = λ n a k l e. inside n a k l e (cases_eq n (vec_len t.rows));
      roots_inside = λ x l. rooted x l (cases_eq x (vec_len t.roots));
    }
      where
        inside : (n a k : ℕ) → n < vec_len u.rows → edge_of (row (vec_items u.rows) n) a ≡ some k
            → (n ≡ vec_len t.rows) ⊎ (n ≡ vec_len t.rows → ⊥) → k < vec_len u.rows
        inside n a k l e (inl q) = absurd (nowhere (edge_of b a) (bare a) (sym (ap (λ (r : Node). edge_of r a) last_row) ∙ ap (λ (m : ℕ). edge_of (row (vec_items u.rows) m) a) (sym q) ∙ e))
        inside n a k l e (inr q) =
            let l' : n < vec_len t.rows = omega arith in
            let h = s.edges_inside n a k l' (sym (ap (λ (r : Node). edge_of r a) (kept_row n l')) ∙ e) in omega arith

        rooted : (x : ℕ) → x < vec_len u.roots → (x ≡ vec_len t.roots) ⊎ (x ≡ vec_len t.roots → ⊥) → get_or (vec_items u.roots) x 0 < vec_len u.rows
        rooted x l (inl q) = let e = ap (λ (m : ℕ). get_or (vec_items u.roots) m 0) q ∙ root_new in omega arith
        rooted x l (inr q) =
            let l' : x < vec_len t.roots = omega arith in
            let h = s.roots_inside x l' in let e = root_before x l' in omega arith

  -- a row that has no attribute, and the row n, with the attribute a that leads to it and all else as it was
  module _ (v : ℕ) (valued : b.value ≡ v) (bare : (c : ℕ) → edge_of b c ≡ none) (n a : ℕ) (l : n < vec_len t.rows) (x w : Node)
      (lacked : edge_of (row (vec_items t.rows) n) a ≡ none) (read : x ≡ row rows n)
      (kept : w.value ≡ x.value) (leads : edge_of w a ≡ some (vec_len t.rows)) (others : (c : ℕ) → (c ≡ a → ⊥) → edge_of w c ≡ edge_of x c)
      (u : Table) (items : vec_items u.rows ≡ set rows n w) (many : length rows ≡ vec_len t.rows + 1) (more_rows : vec_len u.rows ≡ vec_len t.rows + 1)
      (row_room : vec_capacity u.rows ≡ vec_capacity t.rows) (roots : u.roots ≡ t.roots) where
    read_is : x ≡ row (vec_items t.rows) n
    read_is = read ∙ row_before n l

    row_led : row (vec_items u.rows) n ≡ w
    row_led = ap (λ (xs : List Node). row xs n) items ∙ get_or-set_same rows n w blank (omega arith)

    row_kept : (k : ℕ) → k < vec_len t.rows → (k ≡ n → ⊥) → row (vec_items u.rows) k ≡ row (vec_items t.rows) k
    row_kept k h q = ap (λ (xs : List Node). row xs k) items ∙ get_or-set_other rows n k w blank q ∙ row_before k h

    row_added : row (vec_items u.rows) (vec_len t.rows) ≡ b
    row_added = ap (λ (xs : List Node). row xs (vec_len t.rows)) items ∙ get_or-set_other rows n (vec_len t.rows) w blank (omega arith) ∙ row_new

    value_kept : (k : ℕ) → k < vec_len t.rows → (k ≡ n) ⊎ (k ≡ n → ⊥) → (row (vec_items u.rows) k).value ≡ (row (vec_items t.rows) k).value
    value_kept k h (inl q) =
        ap (λ (m : ℕ). (row (vec_items u.rows) m).value) q ∙ ap (λ (r : Node). r.value) row_led ∙ kept
        ∙ ap (λ (r : Node). r.value) read_is ∙ ap (λ (m : ℕ). (row (vec_items t.rows) m).value) (sym q)
    value_kept k h (inr q) = ap (λ (r : Node). r.value) (row_kept k h q)

    edge_kept : (k c : ℕ) → k < vec_len t.rows → (k ≡ n) ⊎ (k ≡ n → ⊥) → (k ≡ n → c ≡ a → ⊥) → edge_of (row (vec_items u.rows) k) c ≡ edge_of (row (vec_items t.rows) k) c
    edge_kept k c h (inl q) o =
        ap (λ (m : ℕ). edge_of (row (vec_items u.rows) m) c) q ∙ ap (λ (r : Node). edge_of r c) row_led ∙ others c (o q)
        ∙ ap (λ (r : Node). edge_of r c) read_is ∙ ap (λ (m : ℕ). edge_of (row (vec_items t.rows) m) c) (sym q)
    edge_kept k c h (inr q) o = ap (λ (r : Node). edge_of r c) (row_kept k h q)

    new_node : NewNode v n a (graph t) (values t) (graph u) (values u)
    new_node = record {
      kept = record { roots = λ y h. ap (λ (z : _). get_or (vec_items z) y 0) roots; states = λ k h. ap some (value_kept k h (cases_eq k n)) };
      nodes = more_rows ∙ add-one (vec_len t.rows);
      vars = ap vec_len roots;
      lacked = lacked;
      leads = ap (λ (r : Node). edge_of r a) row_led ∙ leads;
      edges = λ k c h o. edge_kept k c h (cases_eq k n) o;
      bare = λ c. ap (λ (r : Node). edge_of r c) row_added ∙ bare c;
      stands = ap (λ (r : Node). some r.value) row_added ∙ ap some valued;
    }

    edges_inside : (k c j : ℕ) → k < vec_len u.rows → edge_of (row (vec_items u.rows) k) c ≡ some j → (k ≡ vec_len t.rows) ⊎ (k ≡ vec_len t.rows → ⊥) → (k ≡ n) ⊎ (k ≡ n → ⊥)
        → (c ≡ a) ⊎ (c ≡ a → ⊥) → j < vec_len u.rows
    edges_inside k c j h e (inl q) p o =
        absurd (nowhere (edge_of b c) (bare c) (sym (ap (λ (r : Node). edge_of r c) row_added) ∙ ap (λ (m : ℕ). edge_of (row (vec_items u.rows) m) c) (sym q) ∙ e))
    edges_inside k c j h e (inr q) (inl p) (inl o) =
        let f =
        ap (λ (m : ℕ). edge_of (row (vec_items u.rows) m) c) p ∙ ap (λ (r : Node). edge_of r c) row_led ∙ ap (λ (m : ℕ). edge_of w m) o ∙ leads in
        let z = same_target (edge_of (row (vec_items u.rows) k) c) j (vec_len t.rows) e f in omega arith
    edges_inside k c j h e (inr q) (inl p) (inr o) =
        let h' : k < vec_len t.rows = omega arith in
        let i = s.edges_inside k c j h' (sym (edge_kept k c h' (inl p) (λ _. o)) ∙ e) in omega arith
    edges_inside k c j h e (inr q) (inr p) o =
        let h' : k < vec_len t.rows = omega arith in
        let i = s.edges_inside k c j h' (sym (edge_kept k c h' (inr p) (λ y. absurd (p y))) ∙ e) in omega arith

    pub added : Stepped v n a t u (vec_len t.rows)
    added = record {
      stepped = inr (new_node, refl);
      inside = omega arith;
      least = omega arith;
      most = omega arith;
      vars = ap vec_len roots;
      roots = roots;
      sound = record {
        rows = omega arith;
        row_room = omega (arith, s.row_room);
        roots = let e = ap vec_len roots in omega (arith, s.roots);
        root_room = let e = ap vec_capacity roots in omega (arith, s.root_room);
        edges_inside = λ k c j h e. edges_inside k c j h e (cases_eq k (vec_len t.rows)) (cases_eq k n) (cases_eq c a);
        roots_inside = λ y h.
            let m = ap vec_len roots in
            let e = ap (λ (z : _). get_or (vec_items z) y 0) roots in
            let i = s.roots_inside y (omega arith) in omega arith;
      };
    }

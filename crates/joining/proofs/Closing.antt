-- Joining two nodes step by step: what holds between the steps, that a step keeps it, and what it says when nothing waits any more.
use Rattle.std.proofs.Common.{◌≡◌, ℕ, ◌<◌, true, ◌⊎◌, sym, refl, ap, ◌∙◌, subst, inl, inr}
use mathlib.Core.Option.{Option, some, none, map, map-eq-some_iff, or_else}
use Rattle.std.proofs.lemmas.Bool.{cases_eq}
use Rattle.kinds.specs.Meaning.{Meaning, Lawful}
use Rattle.features.specs.Graphs.{Graph}
use Rattle.growth.specs.Standing.{Meets}
use Rattle.growth.specs.Changes.{Congruent, stated, itself, turned, chained, beneath}
use Rattle.growth.specs.Joins.{Representatives}
use Rattle.joining.specs.Uniting.{Takes, Relabels, Meeting}
use Rattle.joining.proofs.Meeting.{meets_same, meets_both, meets_alone}

-- joined already, or once all that waits is joined
pub data Linked (nodes : ℕ) (rep : ℕ → ℕ) (W : ℕ → ℕ → Type 0) : ℕ → ℕ → Type 0 where
  same : {x y : ℕ} → x < nodes → y < nodes → rep x ≡ rep y → Linked nodes rep W x y
  waits : {x y : ℕ} → W x y → Linked nodes rep W x y
  back : {x y : ℕ} → Linked nodes rep W x y → Linked nodes rep W y x
  through : {x y z : ℕ} → Linked nodes rep W x y → Linked nodes rep W y z → Linked nodes rep W x z

-- values of the kind stand on the nodes
abbrev pub Values : Meaning → Graph → (ℕ → Option ℕ) → Type 0
Values m g state = (x v : ℕ) → x < g.nodes → state x ≡ some v → m.value v ≡ true

-- s and t of g are being joined: rep has the representatives so far, edge and stands are right at representatives, and W waits
pub record Underway (m : Meaning) (s t : ℕ) (g : Graph) (state : ℕ → Option ℕ) (rep : ℕ → ℕ) (edge : ℕ → ℕ → Option ℕ) (stands : ℕ → Option ℕ) (W : ℕ → ℕ → Type 0) : Type 0 where
  pub inside : (x : ℕ) → x < g.nodes → rep x < g.nodes
  pub itself : (x : ℕ) → x < g.nodes → rep (rep x) ≡ rep x
  pub sound : (x y : ℕ) → x < g.nodes → y < g.nodes → rep x ≡ rep y → Congruent g s t x y
  pub waiting : (u v : ℕ) → W u v → (u < g.nodes) × (v < g.nodes) × Congruent g s t u v
  pub edges : (r a u : ℕ) → r < g.nodes → rep r ≡ r → edge r a ≡ some u → (x : ℕ) × (x < g.nodes) × (rep x ≡ r) × (g.edge x a ≡ some u)
  pub complete : (x a y : ℕ) → x < g.nodes → g.edge x a ≡ some y → (u : ℕ) × (edge (rep x) a ≡ some u) × Linked g.nodes rep W u y
  pub pair : Linked g.nodes rep W s t
  pub met : Values m g state → (r : ℕ) → r < g.nodes → rep r ≡ r → Meets m (λ o. (x : ℕ) × (x < g.nodes) × (rep x ≡ r) × (o ≡ state x)) (stands r)

-- nothing is joined yet, and the two nodes wait
module _ (m : Meaning) (lawful : Lawful m) (s t : ℕ) (g : Graph) (state : ℕ → Option ℕ)
    (inside : (x a y : ℕ) → x < g.nodes → g.edge x a ≡ some y → y < g.nodes) (ls : s < g.nodes) (lt : t < g.nodes)
    (rep : ℕ → ℕ) (own : (x : ℕ) → x < g.nodes → rep x ≡ x) (W : ℕ → ℕ → Type 0) (one : W s t) (only : (u v : ℕ) → W u v → (u ≡ s) × (v ≡ t)) where
  pub begun : Underway m s t g state rep g.edge state W
  begun = record {
    inside = λ x l. subst (λ (z : ℕ). z < g.nodes) (sym (own x l)) l;
    itself = λ x l. ap rep (own x l);
    sound = λ x y lx ly e. subst (λ (z : ℕ). Congruent g s t x z) (sym (own x lx) ∙ e ∙ own y ly) (itself lx);
    waiting = λ u v w. by_ends u v (only u v w).0 (only u v w).1;
    edges = λ r a u l e f. (r, l, e, f);
    complete = λ x a y l e. (y, subst (λ (z : ℕ). g.edge z a ≡ some y) (sym (own x l)) e, same (inside x a y l e) (inside x a y l e) refl);
    pair = waits one;
    met = λ values r l e. meets_alone m lawful (λ o. (x : ℕ) × (x < g.nodes) × (rep x ≡ r) × (o ≡ state x)) (state r) (λ v. values r v l) (r, l, e, refl)
        (λ z q. q.3 ∙ ap state (sym (own q.0 q.1) ∙ q.2));
  }
    where
      by_ends : (u v : ℕ) → u ≡ s → v ≡ t → (u < g.nodes) × (v < g.nodes) × Congruent g s t u v
      by_ends u v e f =
          (subst (λ (z : ℕ). z < g.nodes) (sym e) ls, subst (λ (z : ℕ). z < g.nodes) (sym f) lt, subst (λ (z : ℕ). Congruent g s t z v) (sym e) (subst (λ (z : ℕ). Congruent g s t s z) (sym f) stated))

module _ (m : Meaning) (s t : ℕ) (g : Graph) (state : ℕ → Option ℕ) (rep : ℕ → ℕ) (edge : ℕ → ℕ → Option ℕ) (stands : ℕ → Option ℕ) (W W₀ : ℕ → ℕ → Type 0)
    (u v : ℕ) (first : W u v) (rest : (x y : ℕ) → W₀ x y → W x y) (taken : (x y : ℕ) → W x y → W₀ x y ⊎ ((x ≡ u) × (y ≡ v)))
    (now : Underway m s t g state rep edge stands W) where
  -- a pair that is joined already need not wait
  module _ (e : rep u ≡ rep v) where
    still_linked : {x y : ℕ} → Linked g.nodes rep W x y → Linked g.nodes rep W₀ x y
    still_linked (same lx ly f) = same lx ly f
    still_linked (waits {x = x} {y = y} w) = by_pair (taken x y w)
      where
        by_pair : W₀ x y ⊎ ((x ≡ u) × (y ≡ v)) → Linked g.nodes rep W₀ x y
        by_pair (inl w₀) = waits w₀
        by_pair (inr p) = same (now.waiting x y w).0 (now.waiting x y w).1 (ap rep p.0 ∙ e ∙ sym (ap rep p.1))
    still_linked (back l) = back (still_linked l)
    still_linked (through k l) = through (still_linked k) (still_linked l)

    pub passed_over : Underway m s t g state rep edge stands W₀
    passed_over = record {
      inside = now.inside;
      itself = now.itself;
      sound = now.sound;
      waiting = λ x y w. now.waiting x y (rest x y w);
      edges = now.edges;
      complete = λ x a y l f. let k = now.complete x a y l f in (k.0, k.1, still_linked k.2);
      pair = still_linked now.pair;
      met = now.met;
    }

  -- the class of v becomes part of the class of u
  module _ (lawful : Lawful m) (inside : (x a y : ℕ) → x < g.nodes → g.edge x a ≡ some y → y < g.nodes)
      (to from : ℕ) (at_to : rep u ≡ to) (at_from : rep v ≡ from) (two : to ≡ from → ⊥)
      (rep' : ℕ → ℕ) (edge' : ℕ → ℕ → Option ℕ) (stands' : ℕ → Option ℕ) (W' : ℕ → ℕ → Type 0)
      (relabels : Relabels g.nodes rep to from rep') (takes : Takes edge W₀ to from edge' W') (meeting : Meeting m stands to from stands') where
    lu : u < g.nodes
    lu = (now.waiting u v first).0

    lv : v < g.nodes
    lv = (now.waiting u v first).1

    to_inside : to < g.nodes
    to_inside = subst (λ (z : ℕ). z < g.nodes) at_to (now.inside u lu)

    from_inside : from < g.nodes
    from_inside = subst (λ (z : ℕ). z < g.nodes) at_from (now.inside v lv)

    to_itself : rep to ≡ to
    to_itself = subst (λ (z : ℕ). rep z ≡ z) at_to (now.itself u lu)

    from_itself : rep from ≡ from
    from_itself = subst (λ (z : ℕ). rep z ≡ z) at_from (now.itself v lv)

    -- where a node belongs after the step
    abbrev Went : ℕ → Type 0
    Went x = ((rep x ≡ from) × (rep' x ≡ to)) ⊎ ((rep x ≡ from → ⊥) × (rep' x ≡ rep x))

    went : (x : ℕ) → x < g.nodes → Went x
    went x l = by_class (cases_eq (rep x) from)
      where
        by_class : (rep x ≡ from) ⊎ (rep x ≡ from → ⊥) → Went x
        by_class (inl e) = inl (e, relabels.moved x l e)
        by_class (inr n) = inr (n, relabels.stayed x l n)

    -- a node of the class of `to` stays there
    stays : (x : ℕ) → x < g.nodes → rep x ≡ to → rep' x ≡ to
    stays x l e = relabels.stayed x l (λ f. two (sym e ∙ f)) ∙ e

    pub together : (x y : ℕ) → x < g.nodes → y < g.nodes → rep x ≡ rep y → rep' x ≡ rep' y
    together x y lx ly e = by_class (went x lx)
      where
        by_class : Went x → rep' x ≡ rep' y
        by_class (inl (f, d)) = d ∙ sym (relabels.moved y ly (sym e ∙ f))
        by_class (inr (n, d)) = d ∙ e ∙ sym (relabels.stayed y ly (λ f. n (e ∙ f)))

    linked : {x y : ℕ} → Linked g.nodes rep W x y → Linked g.nodes rep' W' x y
    linked (same {x = x} {y = y} lx ly e) = same lx ly (together x y lx ly e)
    linked (waits {x = x} {y = y} w) = by_pair (taken x y w)
      where
        by_pair : W₀ x y ⊎ ((x ≡ u) × (y ≡ v)) → Linked g.nodes rep' W' x y
        by_pair (inl w₀) = waits (takes.kept x y w₀)
        by_pair (inr p) =
            same (now.waiting x y w).0 (now.waiting x y w).1
            (ap rep' p.0 ∙ stays u lu at_to ∙ sym (relabels.moved v lv at_from) ∙ sym (ap rep' p.1))
    linked (back l) = back (linked l)
    linked (through k l) = through (linked k) (linked l)

    to_first : (x : ℕ) → x < g.nodes → rep' x ≡ to → Congruent g s t x u
    to_first x l e = by_class (went x l)
      where
        by_class : Went x → Congruent g s t x u
        by_class (inl (f, d)) = chained (now.sound x v l lv (f ∙ sym at_from)) (turned (now.waiting u v first).2)
        by_class (inr (n, d)) = now.sound x u l lu (sym d ∙ e ∙ sym at_to)

    sound_then : (x y : ℕ) → x < g.nodes → y < g.nodes → rep' x ≡ rep' y → Congruent g s t x y
    sound_then x y lx ly e = by_class (went x lx) (went y ly)
      where
        by_class : Went x → Went y → Congruent g s t x y
        by_class (inl (f, d)) q = chained (to_first x lx d) (turned (to_first y ly (sym e ∙ d)))
        by_class (inr (n, d)) (inl (f, d')) = chained (to_first x lx (e ∙ d')) (turned (to_first y ly d'))
        by_class (inr (n, d)) (inr (n', d')) = now.sound x y lx ly (sym d ∙ e ∙ d')

    itself_then : (x : ℕ) → x < g.nodes → rep' (rep' x) ≡ rep' x
    itself_then x l = by_class (went x l)
      where
        by_class : Went x → rep' (rep' x) ≡ rep' x
        by_class (inl (f, d)) = ap rep' d ∙ stays to to_inside to_itself ∙ sym d
        by_class (inr (n, d)) =
            ap rep' d ∙ relabels.stayed (rep x) (now.inside x l) (λ f. n (sym (now.itself x l) ∙ f)) ∙ now.itself x l ∙ sym d

    inside_then : (x : ℕ) → x < g.nodes → rep' x < g.nodes
    inside_then x l = by_class (went x l)
      where
        by_class : Went x → rep' x < g.nodes
        by_class (inl (f, d)) = subst (λ (z : ℕ). z < g.nodes) (sym d) to_inside
        by_class (inr (n, d)) = subst (λ (z : ℕ). z < g.nodes) (sym d) (now.inside x l)

    waiting_then : (x y : ℕ) → W' x y → (x < g.nodes) × (y < g.nodes) × Congruent g s t x y
    waiting_then x y w = by_source (takes.no_more x y w)
      where
        by_source : W₀ x y ⊎ ((c : ℕ) × (edge to c ≡ some x) × (edge from c ≡ some y)) → (x < g.nodes) × (y < g.nodes) × Congruent g s t x y
        by_source (inl w₀) = now.waiting x y (rest x y w₀)
        by_source (inr (c, e, f)) =
            let p = now.edges to c x to_inside to_itself e in
            let q = now.edges from c y from_inside from_itself f in
            let over = chained (now.sound p.0 u p.1 lu (p.2 ∙ sym at_to)) (chained (now.waiting u v first).2 (now.sound v q.0 lv q.1 (at_from ∙ sym q.2))) in
            (inside p.0 c x p.1 p.3, inside q.0 c y q.1 q.3, beneath over p.3 q.3)

    -- a representative after the step, other than `to`, was one before, and is not `from`
    other : (r : ℕ) → r < g.nodes → rep' r ≡ r → (r ≡ to → ⊥) → (rep r ≡ r) × (r ≡ from → ⊥)
    other r l e n = by_class (went r l)
      where
        by_class : Went r → (rep r ≡ r) × (r ≡ from → ⊥)
        by_class (inl (f, d)) = absurd (n (sym e ∙ d))
        by_class (inr (k, d)) = (sym d ∙ e, λ f. k (sym d ∙ e ∙ f))

    abbrev Origin : ℕ → ℕ → ℕ → Type 0
    Origin r a k = (x : ℕ) × (x < g.nodes) × (rep' x ≡ r) × (g.edge x a ≡ some k)

    edges_at_to : (a k : ℕ) (o : Option ℕ) → edge to a ≡ o → or_else o (edge from a) ≡ some k → Origin to a k
    unfolding or_else
    edges_at_to a k (some j) e f = let p = now.edges to a k to_inside to_itself (e ∙ f) in (p.0, p.1, stays p.0 p.1 p.2, p.3)
    edges_at_to a k none e f = let p = now.edges from a k from_inside from_itself f in (p.0, p.1, relabels.moved p.0 p.1 p.2, p.3)

    edges_then : (r a k : ℕ) → r < g.nodes → rep' r ≡ r → edge' r a ≡ some k → Origin r a k
    edges_then r a k l e f = by_place (cases_eq r to)
      where
        by_place : (r ≡ to) ⊎ (r ≡ to → ⊥) → Origin r a k
        by_place (inl d) =
            subst (λ (z : ℕ). Origin z a k) (sym d)
            (edges_at_to a k (edge to a) refl (sym (takes.merged a) ∙ subst (λ (z : ℕ). edge' z a ≡ some k) d f))
        by_place (inr n) =
            let o = other r l e n in
            let p = now.edges r a k l o.0 (sym (takes.others r a n) ∙ f) in
            (p.0, p.1, relabels.stayed p.0 p.1 (λ d. o.1 (sym p.2 ∙ d)) ∙ p.2, p.3)

    abbrev LeadsOn : ℕ → ℕ → ℕ → Type 0
    LeadsOn x a y = (k : ℕ) × (edge' (rep' x) a ≡ some k) × Linked g.nodes rep' W' k y

    from_taken : (a y k : ℕ) (o : Option ℕ) → edge to a ≡ o → edge from a ≡ some k → Linked g.nodes rep' W' k y
        → (j : ℕ) × (or_else o (edge from a) ≡ some j) × Linked g.nodes rep' W' j y
    unfolding or_else
    from_taken a y k (some j) e f l = (j, refl, through (waits (takes.owed a j k e f)) l)
    from_taken a y k none e f l = (k, f, l)

    complete_then : (x a y : ℕ) → x < g.nodes → g.edge x a ≡ some y → LeadsOn x a y
    unfolding or_else
    complete_then x a y l e = by_class (went x l) (cases_eq (rep x) to)
      where
        old : (k : ℕ) × (edge (rep x) a ≡ some k) × Linked g.nodes rep W k y
        old = now.complete x a y l e

        by_class : Went x → (rep x ≡ to) ⊎ (rep x ≡ to → ⊥) → LeadsOn x a y
        by_class (inl (f, d)) h =
            let j = from_taken a y old.0 (edge to a) refl (subst (λ (z : ℕ). edge z a ≡ some old.0) f old.1) (linked old.2) in
            (j.0, subst (λ (z : ℕ). edge' z a ≡ some j.0) (sym d) (takes.merged a ∙ j.1), j.2)
        by_class (inr (n, d)) (inl h) =
            let at : edge to a ≡ some old.0 = subst (λ (z : ℕ). edge z a ≡ some old.0) h old.1 in
            (old.0, subst (λ (z : ℕ). edge' z a ≡ some old.0) (sym (d ∙ h)) (takes.merged a ∙ ap (λ (z : Option ℕ). or_else z (edge from a)) at), linked old.2)
        by_class (inr (n, d)) (inr k) =
            (old.0, subst (λ (z : ℕ). edge' z a ≡ some old.0) (sym d) (takes.others (rep x) a k ∙ old.1), linked old.2)

    abbrev Stood : ℕ → Option ℕ → Type 0
    Stood r o = (x : ℕ) × (x < g.nodes) × (rep x ≡ r) × (o ≡ state x)

    abbrev StandsThen : ℕ → Option ℕ → Type 0
    StandsThen r o = (x : ℕ) × (x < g.nodes) × (rep' x ≡ r) × (o ≡ state x)

    split : (z : Option ℕ) → StandsThen to z → Stood to z ⊎ Stood from z
    split z (x, l, e, d) = by_class (went x l)
      where
        by_class : Went x → Stood to z ⊎ Stood from z
        by_class (inl (f, h)) = inr (x, l, f, d)
        by_class (inr (n, h)) = inl (x, l, sym h ∙ e, d)

    met_at_to : Values m g state → Meets m (StandsThen to) (stands' to)
    met_at_to values =
        meets_both m lawful (Stood to) (Stood from) (StandsThen to) (stands to) (stands from) (now.met values to to_inside to_itself) (now.met values from from_inside from_itself)
        split (λ z q. (q.0, q.1, stays q.0 q.1 q.2, q.3)) (λ z q. (q.0, q.1, relabels.moved q.0 q.1 q.2, q.3)) (stands' to) meeting.met

    met_then : Values m g state → (r : ℕ) → r < g.nodes → rep' r ≡ r → Meets m (StandsThen r) (stands' r)
    met_then values r l e = by_place (cases_eq r to)
      where
        by_place : (r ≡ to) ⊎ (r ≡ to → ⊥) → Meets m (StandsThen r) (stands' r)
        by_place (inl d) = subst (λ (z : ℕ). Meets m (StandsThen z) (stands' z)) (sym d) (met_at_to values)
        by_place (inr n) =
            let o = other r l e n in
            let before : (z : Option ℕ) → Stood r z → StandsThen r z = λ z q. (q.0, q.1, relabels.stayed q.0 q.1 (λ d. o.1 (sym q.2 ∙ d)) ∙ q.2, q.3) in
            let after : (z : Option ℕ) → StandsThen r z → Stood r z = λ z q. by_class z q (went q.0 q.1) in
            subst (λ (z : Option ℕ). Meets m (StandsThen r) z) (sym (meeting.others r n))
            (meets_same m (Stood r) (StandsThen r) (λ w all z q. all z (after z q)) (λ w all z q. all z (before z q)) (stands r) (now.met values r l o.0))
          where
            by_class : (z : Option ℕ) (q : StandsThen r z) → Went q.0 → Stood r z
            by_class z (x, lx, h, d) (inl (f, k)) = absurd (n (sym h ∙ k))
            by_class z (x, lx, h, d) (inr (f, k)) = (x, lx, sym k ∙ h, d)

    pub united : Underway m s t g state rep' edge' stands' W'
    united = record {
      inside = inside_then;
      itself = itself_then;
      sound = sound_then;
      waiting = waiting_then;
      edges = edges_then;
      complete = complete_then;
      pair = linked now.pair;
      met = met_then;
    }

-- nothing waits any more, and every attribute and every variable leads to a representative
module _ (m : Meaning) (s t : ℕ) (g : Graph) (state : ℕ → Option ℕ) (rep : ℕ → ℕ) (edge : ℕ → ℕ → Option ℕ) (stands : ℕ → Option ℕ) (W : ℕ → ℕ → Type 0)
    (none_waits : (x y : ℕ) → W x y → ⊥) (now : Underway m s t g state rep edge stands W) where
  linked_same : {x y : ℕ} → Linked g.nodes rep W x y → rep x ≡ rep y
  linked_same (same lx ly e) = e
  linked_same (waits {x = x} {y = y} w) = absurd (none_waits x y w)
  linked_same (back l) = sym (linked_same l)
  linked_same (through k l) = linked_same k ∙ linked_same l

  pub represented : (h : Graph) → h.nodes ≡ g.nodes → h.vars ≡ g.vars → ((x : ℕ) → x < g.vars → h.root x ≡ rep (g.root x))
      → ((r a : ℕ) → r < g.nodes → h.edge r a ≡ map rep (edge r a)) → (stands' : ℕ → Option ℕ) → ((r : ℕ) → stands' r ≡ stands r)
      → Values m g state → Representatives m s t g state rep h stands'
  represented h nodes vars roots leads stands' alike values = record {
    nodes = nodes;
    vars = vars;
    inside = now.inside;
    itself = now.itself;
    roots = roots;
    edges = λ x a y l e.
        let k = now.complete x a y l e in
        leads (rep x) a (now.inside x l) ∙ ap (λ (z : Option ℕ). map rep z) k.1 ∙ ap some (linked_same k.2);
    no_others = λ r a k l e f.
        let j = (map-eq-some_iff rep (edge r a)).0 (sym (leads r a l) ∙ f) in
        let p = now.edges r a j.0 l e j.1 in
        (p.0, j.0, p.1, p.2, p.3, j.2);
    pair = linked_same now.pair;
    nothing_else = now.sound;
    met = λ r l e. subst (λ (z : Option ℕ). Meets m (λ o. (x : ℕ) × (x < g.nodes) × (rep x ≡ r) × (o ≡ state x)) z) (sym (alike r)) (now.met values r l e);
  }

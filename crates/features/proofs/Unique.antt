-- For each number of variables and set of statements there is one graph in listing order at most, and so one listing.
use Rattle.std.proofs.Common.{◌≡◌, ℕ, zero, suc, ◌<◌, List, [], ◌∷◌, ◌++◌, length, sym, refl, ap, ◌∙◌, subst, arith}
use mathlib.Core.Option.{Option, some, none}
use Rattle.kinds.specs.Meaning.{Meaning, Lawful}
use Rattle.features.specs.Terms.{Term, Statement, only, ◌▸◌, SameMembers}
use Rattle.features.specs.Graphs.{Graph, here, Denotes, SameGraph}
use Rattle.features.specs.Order.{◌≺◌, Trail, InOrder}
use Rattle.features.specs.Listing.{along, count, one_if, entry, record_of, little}
use Rattle.features.specs.Holding.{Holds, aparts_of}
use Rattle.features.specs.Theorems.{OneGraph, SameGraphSameBytes, OneListing}
use Rattle.features.proofs.Paths.{leads_same, leads_more, leads_back, denotes_one}
use Rattle.features.proofs.TotalOrder.{Three, first, second, third, compare, not_both, never, trail_same}
use Rattle.features.proofs.Bytes.{along_same}
use Rattle.features.proofs.BySet.{other_way, joined_within, valued_by_set}

-- whatever denotes one node in g denotes one node in h
abbrev pub Into : Graph → Graph → Type 0
Into g h = (p q : Term) (n : ℕ) → Denotes g p n → Denotes g q n → (k : ℕ) × Denotes h p k × Denotes h q k

-- two graphs in listing order that join the same terms
pub record Alike (g h : Graph) : Type 0 where
  pub to : Into g h
  pub from : Into h g
  pub left : InOrder g
  pub right : InOrder h
  pub inside_left : (p : Term) (n : ℕ) → Denotes g p n → n < g.nodes
  pub inside_right : (p : Term) (n : ℕ) → Denotes h p n → n < h.nodes

pub turn : {g h : Graph} → Alike g h → Alike h g
turn alike = record {
  to = alike.from;
  from = alike.to;
  left = alike.right;
  right = alike.left;
  inside_left = alike.inside_right;
  inside_right = alike.inside_left;
}

trail_across : (g h : Graph) → Into g h → Into h g → (n : ℕ) (t : Term) → Trail g n t → (k : ℕ) × Trail h k t
trail_across g h to from n t a =
    let d = to t t n a.denotes a.denotes in (
      d.0,
      record {
        denotes = d.1;
        first = λ p e before.
            let b = from p t d.0 e d.1 in
            a.first p (subst (λ (z : ℕ). Denotes g p z) (denotes_one g t b.0 n b.2 a.denotes) b.1) before;
      },
    )

-- the node i has the same trail in both
abbrev Agree : Graph → Graph → ℕ → Type 0
Agree g h i = (t : Term) → Trail g i t → Trail h i t

-- if all before i agree, i does: a trail that stood at another number would be before, or come after, another that has its place
agree_next : (g h : Graph) → Alike g h → (i : ℕ) → ((k : ℕ) → k < i → Agree g h k × Agree h g k) → Agree g h i
agree_next g h alike i before t a =
    let b = trail_across g h alike.to alike.from i t a in
    by_place b.0 b.1 (compare b.0 i)
  where
    by_other : (u : Term) → u ≺ t → Trail h i u → (j : ℕ) → Trail g j u → Three (j < i) (j ≡ i) (i < j) → ⊥
    by_other u l c j d (first m) = let e = (before j m).0 u d in omega (arith, denotes_one h u j i e.denotes c.denotes)
    by_other u l c j d (second e) = never t (subst (λ (z : Term). z ≺ t) (trail_same g i u t (subst (λ (z : ℕ). Trail g z u) e d) a) l)
    by_other u l c j d (third m) = not_both u t l (alike.left.rising i j t u m (alike.inside_left u j d.denotes) a d)

    by_place : (k : ℕ) → Trail h k t → Three (k < i) (k ≡ i) (i < k) → Trail h i t
    by_place k b (first m) = let e = (before k m).1 t b in absurd (omega (arith, denotes_one g t k i e.denotes a.denotes))
    by_place k b (second e) = subst (λ (z : ℕ). Trail h z t) e b
    by_place k b (third m) =
        let r = alike.right.reached i (omega (arith, m, alike.inside_right t k b.denotes)) in
        let l = alike.right.rising i k r.0 t m (alike.inside_right t k b.denotes) r.1 b in
        let c = trail_across h g alike.from alike.to i r.0 r.1 in
        absurd (by_other r.0 l r.1 c.0 c.1 (compare c.0 i))

agree_below : (g h : Graph) → Alike g h → (b k : ℕ) → k < b → Agree g h k × Agree h g k
agree_below g h alike zero k l = absurd (omega arith)
agree_below g h alike (suc b) k l =
    let before : (j : ℕ) → j < k → Agree g h j × Agree h g j = λ j m. agree_below g h alike b j (omega arith) in
    (agree_next g h alike k before, agree_next h g (turn alike) k (λ j m. ((before j m).1, (before j m).0)))

module _ (g h : Graph) (alike : Alike g h) where
  pub same_trail : (n : ℕ) (t : Term) → Trail g n t → Trail h n t
  same_trail n t a = (agree_below g h alike (suc n) n (omega arith)).0 t a

  -- what denotes a node in one denotes it in the other
  pub same_node : (p : Term) (n : ℕ) → Denotes g p n → Denotes h p n
  same_node p n d =
      let r = alike.left.reached n (alike.inside_left p n d) in
      let a = same_trail n r.0 r.1 in
      let b = alike.to p r.0 n d r.1.denotes in
      subst (λ (z : ℕ). Denotes h p z) (denotes_one h r.0 b.0 n b.2 a.denotes) b.1

  same_edge : (p : Term) (n a t : ℕ) → Denotes g p n → g.edge n a ≡ some t → h.edge n a ≡ some t
  same_edge p n a t d e =
      let b = leads_back p.path (same_node (p ▸ a) t (d.0, leads_more d.1 e)).1 in
      subst (λ (z : ℕ). h.edge z a ≡ some t) (leads_same b.1 (same_node p n d).1) b.2

  not_fewer : g.nodes < h.nodes → ⊥
  not_fewer l =
      let r = alike.right.reached g.nodes l in
      let a = (agree_below g h alike (suc g.nodes) g.nodes (omega arith)).1 r.0 r.1 in
      omega (arith, alike.inside_left r.0 g.nodes a.denotes)

pub same_count : (g h : Graph) → Alike g h → g.nodes ≡ h.nodes
same_count g h alike = pick (compare g.nodes h.nodes)
  where
    pick : Three (g.nodes < h.nodes) (g.nodes ≡ h.nodes) (h.nodes < g.nodes) → g.nodes ≡ h.nodes
    pick (first l) = absurd (not_fewer g h alike l)
    pick (second e) = e
    pick (third l) = absurd (not_fewer h g (turn alike) l)

same_option : (o r : Option ℕ) → ((t : ℕ) → o ≡ some t → r ≡ some t) → ((t : ℕ) → r ≡ some t → o ≡ some t) → o ≡ r
same_option none none to from = refl
same_option none (some t) to from = from t refl
same_option (some t) r to from = sym (to t refl)

module _ (m : Meaning) (lawful : Lawful m) (g h : Graph) (kept kept' : List Statement) (vars : ℕ) (said said' : List Statement) (holds : Holds m g kept vars said) (holds' : Holds m h kept' vars said') (same : SameMembers said said') where
  pub held_into : Into g h
  held_into p q n d e = holds'.joined p q (joined_within same.to (holds.nothing_else p q n d e))

  -- one term has one value in both
  held_value : (p : Term) (n : ℕ) → Denotes g p n → Denotes h p n → g.value n ≡ h.value n
  held_value p n d e =
      let v = valued_by_set m vars same p (g.value n) (holds.values p n d) in
      let w = holds'.values p n e in
      lawful.antisym (g.value n) (h.value n) (w.1 (g.value n) v.0) (v.1 (h.value n) w.0)

pub one_graph : OneGraph
one_graph m lawful g h kept kept' vars said said' holds holds' same ordered ordered' =
    let alike : Alike g h = record {
      to = held_into m lawful g h kept kept' vars said said' holds holds' same;
      from = held_into m lawful h g kept' kept vars said' said holds' holds (other_way same);
      left = ordered;
      right = ordered';
      inside_left = holds.inside;
      inside_right = holds'.inside;
    } in
    record {
      nodes = same_count g h alike;
      vars = holds.all ∙ sym holds'.all;
      values = λ n lt.
          let r = holds.reached n lt in
          held_value m lawful g h kept kept' vars said said' holds holds' same r.0 n r.1 (same_node g h alike r.0 n r.1);
      edges = λ n a lt.
          let r = holds.reached n lt in
          same_option (g.edge n a) (h.edge n a) (λ t. same_edge g h alike r.0 n a t r.1) (λ t. same_edge h g (turn alike) r.0 n a t (same_node g h alike r.0 n r.1));
      roots = λ x lt. leads_same (same_node g h alike (only x) (g.root x) (lt, here)).1 here;
    }

module _ (g h : Graph) (same : SameGraph g h) where
  same_record : (n : ℕ) → n < g.nodes → record_of g n ≡ record_of h n
  same_record n lt = λ i. little 8 (same.values n lt i) ++ (count (λ a. one_if (same.edges n a lt i)) 0 32 ∷ []) ++ along (λ a. entry a (same.edges n a lt i)) 0 32

  same_records : along (record_of g) 0 g.nodes ≡ along (record_of h) 0 h.nodes
  same_records = along_same (record_of g) (record_of h) 0 g.nodes (λ n l lt. same_record n (omega arith)) ∙ ap (along (record_of h) 0) same.nodes

  abbrev roots_of : Graph → List ℕ
  roots_of f = along (λ x. little 2 (f.root x)) 0 f.vars

  same_roots : roots_of g ≡ roots_of h
  same_roots =
      along_same (λ x. little 2 (g.root x)) (λ x. little 2 (h.root x)) 0 g.vars (λ x l lt. ap (little 2) (same.roots x (omega arith))) ∙ ap (along (λ x. little 2 (h.root x)) 0) same.vars

pub same_bytes : SameGraphSameBytes
same_bytes g h same = λ i.
    same_records g h same i ++ same_roots g h same i ++ little 2 (same.nodes i) ++ little 2 (same.vars i) ++ little 4 (length (same_records g h same i))

pub one_listing : OneListing
one_listing m lawful vars said said' bytes bytes' listed listed' same =
    let equal = one_graph m lawful listed.graph listed'.graph (aparts_of said) (aparts_of said') vars said said' listed.holds listed'.holds same listed.ordered listed'.ordered in
    listed.bytes_are ∙ same_bytes listed.graph listed'.graph equal ∙ sym listed'.bytes_are

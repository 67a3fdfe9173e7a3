-- A graph that holds what was said, without a clash, satisfies it, and exactly one map leads from it into each graph that does.
use Rattle.std.proofs.Common.{◌≡◌, ℕ, ◌<◌, true, List, sym, subst, arith}
use mathlib.Core.Option.{some, none}
use mathlib.Core.List.{Memᴰ}
use native.Mathlib.Decide.{dec_lt}
use Rattle.kinds.specs.Meaning.{Meaning, Lawful}
use Rattle.features.specs.Terms.{Term, Statement, equals, is, apart, only, ◌▸◌}
use Rattle.features.specs.Graphs.{Graph, Leads, here, step, Denotes, Satisfies, Feature, Model, Map, OneMap}
use Rattle.features.specs.Closing.{Joined, stated, given, begun, top, said_of}
use Rattle.features.specs.Holding.{Holds, aparts_of}
use Rattle.features.specs.Clashes.{NoValue, LeafBranches, Nowhere, Broken}
use Rattle.features.specs.Theorems.{Clash, no_value, leaf_branches, one_node, NoClash, MostGeneral, ModelExactlyWithoutClash, JoinedIfInEveryModel}
use Rattle.features.proofs.Paths.{leads_same, leads_more, leads_back, denotes_one, feature_inside, none_without}
use Rattle.features.proofs.Sound.{joined_in_model, model_value_under}
use Rattle.features.proofs.Clashing.{no_clash}
use Rattle.features.proofs.Closure.{valued_along, apart_kept, apart_said, broken_at, broken_is}
use Rattle.features.proofs.Held.{held_roots, held_edges, first_there}

module _ (m : Meaning) (vars : ℕ) (said : List Statement) where
  -- no clash at all, so none at a first term or a kept apart
  pub none_found : (Clash m vars said → ⊥) → NoClash m vars said
  none_found never = record {
    valued = λ t first nothing. never (no_value t first.denotes nothing);
    leaves_bare = λ t first branches. never (leaf_branches t branches);
    aparts_kept = λ j broken. let b = broken_is m vars said broken in never (one_node b.0 b.1 (apart_said said b.2) b.3);
  }

  -- an apart of one node is among the kept
  pub kept_whole : ((j : ℕ) → Broken m vars said (aparts_of said) j → ⊥) → (p q : Term) → Memᴰ (apart p q) said → Joined vars said p q → ⊥
  kept_whole whole p q i j = let b = broken_at m vars said j (apart_kept said i) in whole b.0 b.1

module _ (m : Meaning) (g : Graph) (kept : List Statement) (vars : ℕ) (said : List Statement) (holds : Holds m g kept vars said) where
  -- every node that a term denotes has a value
  pub held_valued : Nowhere m vars said (NoValue m vars said)
  held_valued t first nothing =
      let d = holds.joined t t first.denotes in
      nothing (g.value d.0) (holds.values t d.0 d.1).0

  -- what is nowhere at a first term is nowhere: a fault at p is a fault at the first term joined with p
  pub no_leaf_branches : Nowhere m vars said (LeafBranches m vars said) → (p : Term) → LeafBranches m vars said p → ⊥
  no_leaf_branches nowhere p (v, a, valued, leaf, j) =
      let denotes = begun p (p ▸ a) a j in
      let d = holds.joined (p ▸ a) (p ▸ a) j in
      let r = first_there m g kept vars said holds p denotes in
      let b = leads_back p.path d.1.1 in
      let e = holds.joined p r.0 r.2 in
      let on : Denotes g (r.0 ▸ a) d.0 = (e.2.0, leads_more e.2.1 (subst (λ (z : ℕ). g.edge z a ≡ some d.0) (leads_same b.1 e.1.1) b.2)) in
      nowhere r.0 r.1 (v, a, valued_along m vars said v r.2 valued, leaf, holds.nothing_else (r.0 ▸ a) (r.0 ▸ a) d.0 on on)

  pub none_at_all : NoClash m vars said → Clash m vars said → ⊥
  none_at_all free (no_value t j nothing) =
      let d = holds.joined t t j in
      nothing (g.value d.0) (holds.values t d.0 d.1).0
  none_at_all free (leaf_branches t branches) = no_leaf_branches free.leaves_bare t branches
  none_at_all free (one_node p q i j) = kept_whole m vars said free.aparts_kept p q i j

module _ (m : Meaning) (lawful : Lawful m) (g : Graph) (kept : List Statement) (vars : ℕ) (said : List Statement) (holds : Holds m g kept vars said) where
  -- no node with a leaf has an attribute
  bare : NoClash m vars said → (n a : ℕ) → n < g.nodes → m.leaf (g.value n) ≡ true → g.edge n a ≡ none
  bare free n a lt leaf =
      let r = holds.reached n lt in
      none_without (g.edge n a) (λ t e.
      let d : Denotes g (r.0 ▸ a) t = (r.1.0, leads_more r.1.1 e) in
      no_leaf_branches m g kept vars said holds free.leaves_bare r.0 (g.value n, a, holds.values r.0 n r.1, leaf, holds.nothing_else (r.0 ▸ a) (r.0 ▸ a) t d d))

  feature : NoClash m vars said → Feature m g
  feature free = record {
    values = λ n h. let r = holds.reached n h in (lawful.values (g.value n) m.top ((holds.values r.0 n r.1).0 m.top top)).0;
    edges = held_edges m g kept vars said holds;
    roots = held_roots m g kept vars said holds;
    leaves = bare free;
  }

  satisfied : NoClash m vars said → (s : Statement) → Memᴰ s said → Satisfies m g s
  satisfied free (equals p q) i = holds.joined p q (stated p q i)
  satisfied free (is p v) i =
      let d = holds.joined p p (given p v i) in
      (d.0, d.1, (holds.values p d.0 d.1).0 v (said_of p v i (given p v i)))
  satisfied free (apart p q) i = λ n d e. kept_whole m vars said free.aparts_kept p q i (holds.nothing_else p q n d e)

  pub held_model : NoClash m vars said → Model m vars said g
  held_model free = record { feature = feature free; declared = omega (arith, holds.all); satisfies = satisfied free }

  module _ (h : Graph) (other : Model m vars said h) where
    -- where a term that denotes n here leads there
    image : (n : ℕ) → n < g.nodes → ℕ
    image n lt = let r = holds.reached n lt in (joined_in_model m vars said h other (holds.nothing_else r.0 r.0 n r.1 r.1)).0

    image_is : (n : ℕ) (lt : n < g.nodes) (p : Term) → Denotes g p n → Denotes h p (image n lt)
    unfolding image
    image_is n lt p d =
        let r = holds.reached n lt in
        let j = joined_in_model m vars said h other (holds.nothing_else r.0 p n r.1 d) in
        let i = joined_in_model m vars said h other (holds.nothing_else r.0 r.0 n r.1 r.1) in
        subst (λ (z : ℕ). Denotes h p z) (denotes_one h r.0 j.0 i.0 j.1 i.1) j.2

    picked : (n : ℕ) → Dec (n < g.nodes) → ℕ
    picked n (yes lt) = image n lt
    picked n (no out) = 0

    picked_is : (n : ℕ) (d : Dec (n < g.nodes)) (p : Term) → Denotes g p n → Denotes h p (picked n d)
    unfolding picked
    picked_is n (yes lt) p d = image_is n lt p d
    picked_is n (no out) p d = absurd (out (holds.inside p n d))

    pub send : ℕ → ℕ
    send n = picked n (dec_lt n g.nodes)

    pub send_is : (n : ℕ) (p : Term) → Denotes g p n → Denotes h p (send n)
    unfolding send
    send_is n p d = picked_is n (dec_lt n g.nodes) p d

    module _ (f : ℕ → ℕ) (maps : Map m g h f) where
      -- a map leads a path to where it leads there
      along : {n t : ℕ} {xs : List ℕ} → n < g.nodes → Leads g n xs t → Leads h (f n) xs (f t)
      along lt here = here
      along {n} lt (step {a = a} {k = k} e l) = step (maps.edges n a k lt e) (along (held_edges m g kept vars said holds n a k lt e).1 l)

      only_map : (n : ℕ) → n < g.nodes → f n ≡ send n
      only_map n lt =
          let r = holds.reached n lt in
          let x = r.0.var in
          let l : Leads h (f (g.root x)) r.0.path (f n) = along (held_roots m g kept vars said holds x r.1.0) r.1.1 in
          let l' : Leads h (h.root x) r.0.path (f n) = subst (λ (z : ℕ). Leads h z r.0.path (f n)) (maps.roots x r.1.0) l in
          leads_same l' (send_is n r.0 r.1).1

    send_map : Map m g h send
    send_map = record {
      enough = omega (arith, holds.all, other.declared);
      inside = λ n lt. let r = holds.reached n lt in feature_inside m h other.feature r.0 (send n) (send_is n r.0 r.1);
      roots = λ x lt. sym (leads_same here (send_is (g.root x) (only x) (lt, here)).1);
      edges = λ n a t lt e.
          let r = holds.reached n lt in
          let d : Denotes g (r.0 ▸ a) t = (r.1.0, leads_more r.1.1 e) in
          let b = leads_back r.0.path (send_is t (r.0 ▸ a) d).1 in
          subst (λ (z : ℕ). h.edge z a ≡ some (send t)) (leads_same b.1 (send_is n r.0 r.1).1) b.2;
      values = λ n lt.
          let r = holds.reached n lt in
          (holds.values r.0 n r.1).1 (h.value (send n)) (model_value_under m vars said h other lawful r.0 (send n) (send_is n r.0 r.1));
    }

    pub one_map : OneMap m g h
    one_map = (send, send_map, λ k maps n lt. only_map k maps n lt)

pub most_general : MostGeneral
most_general m lawful g kept vars said holds free =
    (held_model m lawful g kept vars said holds free, λ h other. one_map m lawful g kept vars said holds h other)

pub model_exactly_without_clash : ModelExactlyWithoutClash
model_exactly_without_clash m lawful g kept vars said holds = (
  (λ r. none_found m vars said (no_clash m lawful vars said r.0 r.1), λ free. (g, held_model m lawful g kept vars said holds free)),
  (none_at_all m g kept vars said holds, none_found m vars said),
)

pub joined_if_in_every_model : JoinedIfInEveryModel
joined_if_in_every_model m lawful g kept vars said holds free p q always =
    let d = always g (held_model m lawful g kept vars said holds free) in
    holds.nothing_else p q d.0 d.1 d.2

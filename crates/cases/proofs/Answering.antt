-- What a drawing that stands for statements shows of them: which clash they have or that they have none, and so the right answer to a call.
use Rattle.std.proofs.Common.{◌≡◌, ℕ, zero, suc, ◌<◌, ◌≤◌, Bool, true, false, cond, not, ◌⊎◌, List, [], ◌∷◌, ◌++◌, length, Ok, Result, sym, refl, ap, ◌∙◌, subst, inl, inr, arith}
use mathlib.Core.Option.{Option, some, none}
use Rattle.std.specs.List.{AllByRecursion}
use Rattle.std.proofs.lemmas.List.Elements.{All-from_recursion}
use Rattle.std.proofs.lemmas.Bool.{le-ltb, eq-eqb, not-true}
use Rattle.kinds.specs.Meaning.{Meaning, Lawful}
use Rattle.features.specs.Terms.{Term, Statement, equals, is, apart, only, ◌▸◌}
use Rattle.features.specs.Graphs.{Graph, Leads, here, Denotes}
use Rattle.features.specs.Closing.{variable, Valued}
use Rattle.features.specs.Order.{Before, ◌≺◌, Trail, InOrder}
use Rattle.features.specs.Holding.{Holds, Proper, aparts_of}
use Rattle.features.specs.Clashes.{NoValue, FirstAt, Broken}
use Rattle.features.specs.Theorems.{NoClash}
use Rattle.features.proofs.Paths.{leads_same, leads_back, denotes_one}
use Rattle.features.proofs.Closure.{every_member, broken_is, apart_said}
use Rattle.growth.specs.Standing.{Shape, Judged, greatest, void}
use Rattle.growth.proofs.Holding.{standing_holds}
use Rattle.answers.specs.declared.refusal.Side.{Side}
use Rattle.answers.specs.declared.refusal.Refusal.{Refusal}
use Rattle.answers.specs.declared.refusal.Refusal.TheVariants.{ShortTrail}
use Rattle.answers.specs.Answers.{first_refusal, terms_fault, value_fault, full_fault, fault, EveryNodeValued, EveryLeafBare, Nodes, Closed, declare, state, declares, states, Right}
use Rattle.answers.specs.Answers.{accepted, faultless, numbered, declared, stated}
use Rattle.answers.proofs.Faults.{none_first, passed, faultless_sound, faultless_pair}
use Rattle.cases.proofs.Reaching.{reach, denotes_reach, reach_denotes}
use Rattle.cases.proofs.Drawings.{Drawing, drawn, state_at, or_zero, Along, along_at, arrow_at, one_node, Certified, certified_shape, certified_stands}

-- no fault, nor a second one
none_of : (a b : Option Refusal) → a ≡ none → b ≡ none → first_refusal a b ≡ none
none_of none b p q = q
none_of (some r) b p q = absurd (let z : ◌≡◌ {A = ℕ} 0 1 = cc in omega arith)

-- what is wrong with the terms and the value of a statement
abbrev pub own_fault : Meaning → ℕ → Statement → Option Refusal
own_fault m vars s = first_refusal (terms_fault vars s) (value_fault m s)

proper : (m : Meaning) (vars : ℕ) (s : Statement) → own_fault m vars s ≡ none → Proper m vars s
proper m vars (equals p q) e = faultless_pair vars p q (none_first _ _ e).0
proper m vars (is p v) e = let f = none_first _ _ e in (faultless_sound vars Side.Left p f.0, passed (m.value v) _ f.1)
proper m vars (apart p q) e = faultless_pair vars p q (none_first _ _ e).0

not_faulty : (m : Meaning) (vars : ℕ) (said : List Statement) (s : Statement) (room : ℕ) → 272 ≤ room → own_fault m vars s ≡ none → full_fault said s ≡ none → fault m vars said s room ≡ none
not_faulty m vars said s room enough own full =
    let f = none_first (terms_fault vars s) (value_fault m s) own in
    none_of _ _ f.0 (none_of _ _ f.1 (none_of _ _ (ap (λ (b : Bool). cond b (some ShortTrail) none) (le-ltb room 272 enough)) full))

abbrev pub there : Option ℕ → Bool
there none = false
there (some v) = true

there_some : (o : Option ℕ) → there o ≡ true → o ≡ some (or_zero o)
there_some none e = absurd (let z : ◌≡◌ {A = ℕ} 0 1 = cc in omega arith)
there_some (some v) e = refl

abbrev pub leafy : Meaning → Option ℕ → Bool
leafy m none = false
leafy m (some v) = m.leaf v

-- the sides of an apart do not denote one node
abbrev pub separate : Graph → Statement → Bool
separate g (equals p q) = true
separate g (is p v) = true
separate g (apart p q) = not (one_node (reach g p) (reach g q))

module _ {m : Meaning} (lawful : Lawful m) {vars : ℕ} {said : List Statement} where
  value_there : {t : Term} {o : Option ℕ} → Judged m vars said t o → there o ≡ true → NoValue m vars said t → ⊥
  value_there (greatest {v = v} valued) e nothing = nothing v valued.0
  value_there (void none-there) e nothing = let z : ◌≡◌ {A = ℕ} 0 1 = cc in omega arith

  no_value_there : {t : Term} {o : Option ℕ} → Judged m vars said t o → there o ≡ false → NoValue m vars said t
  no_value_there (greatest {v = v} valued) e = absurd (let z : ◌≡◌ {A = ℕ} 0 1 = cc in omega arith)
  no_value_there (void nothing) e = nothing

  no_leaf : {t : Term} {o : Option ℕ} (v : ℕ) → Judged m vars said t o → leafy m o ≡ false → Valued m vars said t v → m.leaf v ≡ true → ⊥
  no_leaf v (greatest {v = w} valued) inner other leaf =
      let same : w ≡ v = lawful.antisym w v (other.1 w valued.0) (valued.1 v other.0) in
      let z : ◌≡◌ {A = ℕ} 0 1 = cc (ap m.leaf same) in
      omega arith
  no_leaf v (void nothing) inner other leaf = nothing v other.0

  module _ {d : Drawing} {names : List Term} (c : Certified m vars said d names) where
    -- where nothing stands, there is no value
    pub no_value_at : (t : Term) (n : ℕ) → reach (drawn d) t ≡ some n → there (state_at d n) ≡ false → NoValue m vars said t
    no_value_at t n e empty = no_value_there ((certified_stands lawful c).judged t n (reach_denotes (drawn d) t n e)) empty

    -- a value on every node: no clash of values
    pub every_node_valued : AllByRecursion (λ o. there o ≡ true) d.states → EveryNodeValued m vars said
    every_node_valued full t first nothing =
        let b = (certified_shape lawful c).joined t t first.denotes in
        value_there ((certified_stands lawful c).judged t b.0 b.1)
        (All-from_recursion (λ o. there o ≡ true) d.states full b.0 none ((certified_shape lawful c).inside t b.0 b.1)) nothing

    -- no attribute on a leaf
    pub every_leaf_bare : AllByRecursion (λ e. leafy m (state_at d e.tail) ≡ false) d.arrows → EveryLeafBare m vars said
    every_leaf_bare bare t first (v, a, valued, leaf, j) =
        let b = (certified_shape lawful c).joined (t ▸ a) (t ▸ a) j in
        let k = leads_back t.path b.1.1 in
        let inner = arrow_at (λ n a t. leafy m (state_at d n) ≡ false) d.arrows bare k.0 a b.0 k.2 in
        no_leaf v ((certified_stands lawful c).judged t k.0 (b.1.0, k.1)) inner valued leaf

    every_apart_kept : AllByRecursion (λ s. separate (drawn d) s ≡ true) said → (j : ℕ) → Broken m vars said (aparts_of said) j → ⊥
    every_apart_kept apart_all j broken =
        let r = broken_is m vars said broken in
        let p = r.0 in
        let q = r.1 in
        let b = (certified_shape lawful c).joined p q r.3 in
        let two = not-true (one_node (reach (drawn d) p) (reach (drawn d) q)) (every_member (λ s. separate (drawn d) s ≡ true) said apart_all _ (apart_said said r.2)) in
        let left = denotes_reach (drawn d) p b.0 b.1 in
        let right = denotes_reach (drawn d) q b.0 b.2 in
        let one : one_node (reach (drawn d) p) (reach (drawn d) q) ≡ true = ap (λ (o : Option ℕ). one_node o (reach (drawn d) q)) left ∙ ap (one_node (some b.0)) right ∙ eq-eqb b.0 b.0 refl in
        let z : ◌≡◌ {A = ℕ} 0 1 = cc in
        omega arith

    -- statements without a fault are held where every node has a value
    pub full_holds : AllByRecursion (λ o. there o ≡ true) d.states → AllByRecursion (λ s. own_fault m vars s ≡ none) said → Holds m (drawn d) (aparts_of said) vars said
    full_holds full fine =
        standing_holds m (drawn d) (state_at d) (aparts_of said) vars said (certified_stands lawful c)
        (λ n lt. there_some (state_at d n) (All-from_recursion (λ o. there o ≡ true) d.states full n none lt))
        (λ s i. proper m vars s (every_member (λ s. own_fault m vars s ≡ none) said fine s i)) refl

-- a drawing stands for statements, and they have no fault and no clash
pub record Consistent (m : Meaning) (vars : ℕ) (said : List Statement) (d : Drawing) (names : List Term) : Type 0 where
  pub certified : Certified m vars said d names
  pub full : AllByRecursion (λ o. there o ≡ true) d.states
  pub sound : AllByRecursion (λ s. own_fault m vars s ≡ none) said
  pub bare : AllByRecursion (λ e. leafy m (state_at d e.tail) ≡ false) d.arrows
  pub apart_all : AllByRecursion (λ s. separate (drawn d) s ≡ true) said
  pub few : length d.states ≤ 256

module _ {m : Meaning} (lawful : Lawful m) {vars : ℕ} {said : List Statement} {d : Drawing} {names : List Term} (c : Consistent m vars said d names) where
  pub consistent_holds : Holds m (drawn d) (aparts_of said) vars said
  consistent_holds = full_holds lawful c.certified c.full c.sound

  consistent_nodes : Nodes m vars said (λ n. n ≤ 256)
  consistent_nodes = (drawn d, consistent_holds, c.few)

  consistent_no_clash : NoClash m vars said
  consistent_no_clash = record {
    valued = every_node_valued lawful c.certified c.full;
    leaves_bare = every_leaf_bare lawful c.certified c.bare;
    aparts_kept = every_apart_kept lawful c.certified c.apart_all;
  }

-- a variable more
pub declared_right : {m : Meaning} {vars : ℕ} {said : List Statement} {d : Drawing} {names : List Term}
    → Lawful m → vars < 64 → Consistent m (suc vars) said d names → Right m vars said declare (declares (Ok vars))
declared_right lawful lt c = declared (numbered lt (consistent_nodes lawful c))

-- a statement more that has no fault: what closing shows
pub closed_right : {m : Meaning} {vars : ℕ} {said : List Statement} {s : Statement} {room after : List ℕ} {r : Result (Unit {0}) Refusal}
    → 272 ≤ length room → own_fault m vars s ≡ none → full_fault said s ≡ none → Closed m vars (said ++ (s ∷ [])) room r after
    → Right m vars said (state s room) (states r after)
closed_right {m} {vars} {said} {s} {room} enough own full closed = stated (faultless (not_faulty m vars said s (length room) enough own full) closed)

-- and where it is accepted
pub accepted_right : {m : Meaning} {vars : ℕ} {said : List Statement} {s : Statement} {d : Drawing} {names : List Term} {room : List ℕ}
    → Lawful m → 272 ≤ length room → own_fault m vars s ≡ none → full_fault said s ≡ none → Consistent m vars (said ++ (s ∷ [])) d names
    → Right m vars said (state s room) (states (Ok tt) room)
accepted_right lawful enough own full c = closed_right enough own full (accepted (consistent_no_clash lawful c) (consistent_nodes lawful c))

-- no term comes before variable 0
none_before_start : (p : Term) → p ≺ only 0 → ⊥
none_before_start p (inl l) = omega arith
none_before_start p (inr (e, inl l)) = omega arith
none_before_start p (inr (e, inr (f, b))) = nothing_to_compare p.path b
  where
    nothing_to_compare : (xs : List ℕ) → Before xs [] → ⊥
    nothing_to_compare [] b = b
    nothing_to_compare (x ∷ xs) b = b

-- so a fault there is the first
pub first_at_start : {m : Meaning} {vars : ℕ} {said : List Statement} {Fault : Term → Type 0} → 0 < vars → Fault (only 0) → FirstAt m vars said Fault (only 0)
first_at_start lt faulty = record {
  trail = record { denotes = variable 0 lt; least = λ p j l. none_before_start p l };
  faulty = faulty;
  none_before = λ u first l bad. none_before_start u l;
}

-- a graph of one node at most, that of variable 0, is in listing order
pub one_in_order : (g : Graph) → g.nodes ≤ 1 → (0 < g.nodes → Denotes g (only 0) 0) → InOrder g
one_in_order g few start = record { reached = reached; rising = λ i j s t l lt a b. absurd (omega arith) }
  where
    reached : (n : ℕ) → n < g.nodes → (t : Term) × Trail g n t
    reached zero lt = (only 0, record { denotes = start lt; first = λ p e l. none_before_start p l })
    reached (suc n) lt = absurd (omega arith)

-- what comes before 0.1: the variables, and 0.0
before_first_attribute : (x : ℕ) (xs : List ℕ) → record { var = x; path = xs } ≺ only 0 ▸ 1 → (xs ≡ []) ⊎ ((x ≡ 0) × (xs ≡ 0 ∷ []))
before_first_attribute x [] l = inl refl
before_first_attribute x (a ∷ rest) (inl l) = absurd (omega arith)
before_first_attribute x (a ∷ b ∷ rest) (inr (e, l)) = absurd (omega arith)
before_first_attribute x (a ∷ []) (inr (e, inl l)) = absurd (omega arith)
before_first_attribute x (a ∷ []) (inr (e, inr (f, inl l))) = let g : a ≡ 0 = omega arith in inr (f, ap {B = List ℕ} (λ (z : ℕ). z ∷ []) g)
before_first_attribute x (a ∷ []) (inr (e, inr (f, inr (g, b)))) = absurd b

-- where all variables are on node 0, which has no attribute 0, the node of 0.1 is the first at fault after that
module _ {m : Meaning} (lawful : Lawful m) {vars : ℕ} {said : List Statement} {d : Drawing} {names : List Term} (c : Certified m vars said d names) (starts : Along (λ x n. n ≡ 0) d.roots) (bare : reach (drawn d) (only 0 ▸ 0) ≡ none) where
  before_at_start : (p : Term) (n : ℕ) → p ≺ only 0 ▸ 1 → Denotes (drawn d) p n → n ≡ 0
  before_at_start p n l e = pick (before_first_attribute p.var p.path l)
    where
      pick : (p.path ≡ []) ⊎ ((p.var ≡ 0) × (p.path ≡ 0 ∷ [])) → n ≡ 0
      pick (inl None-more) =
          let at_root = subst (λ (xs : List ℕ). Leads (drawn d) ((drawn d).root p.var) xs n) None-more e.1 in
          sym (leads_same here at_root) ∙ along_at (λ x n. n ≡ 0) d.roots 0 starts p.var e.0
      pick (inr (first, one_more)) =
          let same : p ≡ only 0 ▸ 0 = λ i. record { var = first i; path = one_more i } in
          let led = denotes_reach (drawn d) (only 0 ▸ 0) n (subst (λ (z : Term). Denotes (drawn d) z n) same e) in
          absurd (let z : ◌≡◌ {A = ℕ} 0 1 = cc in omega arith)

  pub first_beneath_start : reach (drawn d) (only 0 ▸ 1) ≡ some 1 → there (state_at d 0) ≡ true → there (state_at d 1) ≡ false
      → FirstAt m vars said (NoValue m vars said) (only 0 ▸ 1)
  first_beneath_start leads full empty = record {
    trail = record {
      denotes = shape.nothing_else (only 0 ▸ 1) (only 0 ▸ 1) 1 at_one at_one;
      least = λ p j l.
          let b = shape.joined (only 0 ▸ 1) p j in
          omega (arith, before_at_start p b.0 l b.2, denotes_one (drawn d) (only 0 ▸ 1) b.0 1 b.1 at_one);
    };
    faulty = no_value_at lawful c (only 0 ▸ 1) 1 leads empty;
    none_before = λ u first l bad.
        let b = shape.joined u u first.denotes in
        value_there lawful ((certified_stands lawful c).judged u b.0 b.1) (ap (λ (z : ℕ). there (state_at d z)) (before_at_start u b.0 l b.1) ∙ full) bad;
  }
    where
      shape : Shape (drawn d) vars said
      shape = certified_shape lawful c

      at_one : Denotes (drawn d) (only 0 ▸ 1) 1
      at_one = reach_denotes (drawn d) (only 0 ▸ 1) 1 leads

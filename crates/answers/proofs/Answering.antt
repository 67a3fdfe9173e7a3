-- A call has at most one right answer.
use Rattle.std.proofs.Common.{◌≡◌, ℕ, suc, ◌<◌, ◌≤◌, Bool, List, [], ◌∷◌, ◌++◌, length, drop, Ok, Err, Result, refl, ap, arith}
use mathlib.Core.Option.{Option, some, none}
use Rattle.std.specs.declared.option.Option as rust
use Rattle.std.specs.declared.option.Option.TheVariants as rust_option
use Rattle.kinds.specs.Meaning.{Meaning, Lawful}
use Rattle.features.specs.Terms.{Term, Statement, SameMembers}
use Rattle.features.specs.Closing.{Valued}
use Rattle.features.specs.Order.{◌≺◌}
use Rattle.features.specs.Holding.{Listed, aparts_of}
use Rattle.features.specs.Clashes.{NoValue, LeafBranches, FirstAt, Broken}
use Rattle.features.proofs.TotalOrder.{Three, first, second, third, compare, order}
use Rattle.features.proofs.Unique.{one_listing}
use Rattle.answers.specs.declared.refusal.Refusal.{Refusal}
use Rattle.answers.specs.declared.refusal.Refusal.TheVariants.{ValueClash, LeafClash, ApartClash, ShortBuffer}
use Rattle.answers.specs.Answers.{Nodes, Closed, Stated, Declared, Same, Value, Listing, Call, Answer, declares, states, says, gives, lists, Right, noted}
use Rattle.answers.specs.Answers.{no_value, leaf_branches, not_apart, too_many, accepted, faultless, no_variable, no_node, numbered, one, not_one, valued, nothing, short, put, declared, stated, same, value, listed}
use Rattle.answers.specs.Theorems.{AnswersAreUnique}
use Rattle.answers.proofs.Counting.{equally_many_nodes}

-- the first at fault is one term
pub first_at_one : (m : Meaning) (vars : ℕ) (said : List Statement) (Fault : Term → Type 0) (s t : Term) → FirstAt m vars said Fault s → FirstAt m vars said Fault t → s ≡ t
first_at_one m vars said Fault s t a b = pick (order s t)
  where
    pick : Three (s ≺ t) (s ≡ t) (t ≺ s) → s ≡ t
    pick (first l) = absurd (b.none_before s a.trail l a.faulty)
    pick (second e) = e
    pick (third l) = absurd (a.none_before t b.trail l b.faulty)

-- the least number of which P holds is one
pub least_one : (P : ℕ → Type 0) (i j : ℕ) → P i → ((k : ℕ) → k < i → P k → ⊥) → P j → ((k : ℕ) → k < j → P k → ⊥) → i ≡ j
least_one P i j p below q below' = pick (compare i j)
  where
    pick : Three (i < j) (i ≡ j) (j < i) → i ≡ j
    pick (first l) = absurd (below' i l p)
    pick (second e) = e
    pick (third l) = absurd (below j l q)

pub valued_one : (m : Meaning) → Lawful m → (vars : ℕ) (said : List Statement) (p : Term) (v w : ℕ) → Valued m vars said p v → Valued m vars said p w → v ≡ w
valued_one m lawful vars said p v w a b = lawful.antisym v w (b.1 v a.0) (a.1 w b.0)

-- not both more than 256 nodes and at most as many
few_or_many : (m : Meaning) (vars : ℕ) (said : List Statement) → Nodes m vars said (λ n. 256 < n) → Nodes m vars said (λ n. n ≤ 256) → ⊥
few_or_many m vars said (g, holds, many) (h, holds', few) =
    let same = equally_many_nodes m g h (aparts_of said) (aparts_of said) vars said holds holds' in
    omega arith

pub listed_one : (m : Meaning) → Lawful m → (vars : ℕ) (said : List Statement) (bytes bytes' : List ℕ) → Listed m vars said bytes → Listed m vars said bytes' → bytes ≡ bytes'
listed_one m lawful vars said bytes bytes' a b =
    let itself : SameMembers said said = record { to = λ s i. i; from = λ s i. i } in
    one_listing m lawful vars said said bytes bytes' a b itself

-- a fault, and no fault
pub not_none : {A : Type 0} {x : A} {o : Option A} → o ≡ some x → o ≡ none → ⊥
not_none p q = let z : ◌≡◌ {A = ℕ} 0 1 = cc in omega arith

module _ (m : Meaning) (lawful : Lawful m) (vars : ℕ) (said : List Statement) where
  declared_one : {r q : Result ℕ Refusal} → Declared m vars said r → Declared m vars said q → r ≡ q
  declared_one (no_variable h) (no_variable h') = refl
  declared_one (no_variable h) (no_node l n) = absurd (omega arith)
  declared_one (no_variable h) (numbered l n) = absurd (omega arith)
  declared_one (no_node l n) (no_variable h) = absurd (omega arith)
  declared_one (no_node l n) (no_node l' n') = refl
  declared_one (no_node l n) (numbered l' n') = absurd (few_or_many m (suc vars) said n n')
  declared_one (numbered l n) (no_variable h) = absurd (omega arith)
  declared_one (numbered l n) (no_node l' n') = absurd (few_or_many m (suc vars) said n' n)
  declared_one (numbered l n) (numbered l' n') = refl

  same_one : {p q : Term} {r s : Result Bool Refusal} → Same vars said p q r → Same vars said p q s → r ≡ s
  same_one (Same.faulty e) (Same.faulty f) = cc
  same_one (Same.faulty e) (one f j) = absurd (not_none e f)
  same_one (Same.faulty e) (not_one f j) = absurd (not_none e f)
  same_one (one e j) (Same.faulty f) = absurd (not_none f e)
  same_one (one e j) (one f k) = refl
  same_one (one e j) (not_one f n) = absurd (n j)
  same_one (not_one e n) (Same.faulty f) = absurd (not_none f e)
  same_one (not_one e n) (one f j) = absurd (n j)
  same_one (not_one e n) (not_one f n') = refl

  value_one : {p : Term} {r s : Result (rust.Option ℕ) Refusal} → Value m vars said p r → Value m vars said p s → r ≡ s
  value_one (Value.faulty e) (Value.faulty f) = cc
  value_one (Value.faulty e) (valued v f j w) = absurd (not_none e f)
  value_one (Value.faulty e) (nothing f n) = absurd (not_none e f)
  value_one (valued v e j w) (Value.faulty f) = absurd (not_none f e)
  value_one {p} (valued v e j w) (valued v' e' j' w') = ap (λ (z : ℕ). Ok (rust_option.Some z)) (valued_one m lawful vars said p v v' w w')
  value_one (valued v e j w) (nothing f n) = absurd (n j)
  value_one (nothing e n) (Value.faulty f) = absurd (not_none f e)
  value_one (nothing e n) (valued v f j w) = absurd (n j)
  value_one (nothing e n) (nothing f n') = refl

  listing_one : {before after after' : List ℕ} {r s : Result ℕ Refusal} → Listing m vars said before r after → Listing m vars said before s after' → lists r after ≡ lists s after'
  listing_one {before} (short b l h) (short b' l' h') = ap (λ (z : List ℕ). lists (Err (ShortBuffer (length z))) before) (listed_one m lawful vars said b b' l l')
  listing_one (short b l h) (put b' l' h') = let same : length b ≡ length b' = ap length (listed_one m lawful vars said b b' l l') in absurd (omega arith)
  listing_one (put b l h) (short b' l' h') = let same : length b ≡ length b' = ap length (listed_one m lawful vars said b b' l l') in absurd (omega arith)
  listing_one {before} (put b l h) (put b' l' h') = ap (λ (z : List ℕ). lists (Ok (length z)) (z ++ drop (length z) before)) (listed_one m lawful vars said b b' l l')

  closed_one : {before after after' : List ℕ} {r s : Result (Unit {0}) Refusal} → Closed m vars said before r after → Closed m vars said before s after' → states r after ≡ states s after'
  closed_one {before} (no_value t a) (no_value u b) =
      ap (λ (z : Term). states (Err (ValueClash z.var (length z.path))) (noted z before)) (first_at_one m vars said (NoValue m vars said) t u a b)
  closed_one (no_value t a) (leaf_branches u n b) = absurd (n t a.trail a.faulty)
  closed_one (no_value t a) (not_apart i n l b o) = absurd (n t a.trail a.faulty)
  closed_one (no_value t a) (too_many k c) = absurd (k.valued t a.trail a.faulty)
  closed_one (no_value t a) (accepted k c) = absurd (k.valued t a.trail a.faulty)
  closed_one (leaf_branches t n a) (no_value u b) = absurd (n u b.trail b.faulty)
  closed_one {before} (leaf_branches t n a) (leaf_branches u o b) =
      ap (λ (z : Term). states (Err (LeafClash z.var (length z.path))) (noted z before)) (first_at_one m vars said (LeafBranches m vars said) t u a b)
  closed_one (leaf_branches t n a) (not_apart i o l b p) = absurd (l t a.trail a.faulty)
  closed_one (leaf_branches t n a) (too_many k c) = absurd (k.leaves_bare t a.trail a.faulty)
  closed_one (leaf_branches t n a) (accepted k c) = absurd (k.leaves_bare t a.trail a.faulty)
  closed_one (not_apart i n l a o) (no_value u b) = absurd (n u b.trail b.faulty)
  closed_one (not_apart i n l a o) (leaf_branches u p b) = absurd (l u b.trail b.faulty)
  closed_one {before} (not_apart i n l a o) (not_apart j n' l' b o') =
      ap (λ (z : ℕ). states (Err (ApartClash z)) before) (least_one (Broken m vars said (aparts_of said)) i j a o b o')
  closed_one (not_apart i n l a o) (too_many k c) = absurd (k.aparts_kept i a)
  closed_one (not_apart i n l a o) (accepted k c) = absurd (k.aparts_kept i a)
  closed_one (too_many k c) (no_value u b) = absurd (k.valued u b.trail b.faulty)
  closed_one (too_many k c) (leaf_branches u p b) = absurd (k.leaves_bare u b.trail b.faulty)
  closed_one (too_many k c) (not_apart j n' l' b o) = absurd (k.aparts_kept j b)
  closed_one (too_many k c) (too_many k' c') = refl
  closed_one (too_many k c) (accepted k' c') = absurd (few_or_many m vars said c c')
  closed_one (accepted k c) (no_value u b) = absurd (k.valued u b.trail b.faulty)
  closed_one (accepted k c) (leaf_branches u p b) = absurd (k.leaves_bare u b.trail b.faulty)
  closed_one (accepted k c) (not_apart j n' l' b o) = absurd (k.aparts_kept j b)
  closed_one (accepted k c) (too_many k' c') = absurd (few_or_many m vars said c' c)
  closed_one (accepted k c) (accepted k' c') = refl

module _ (m : Meaning) (lawful : Lawful m) (vars : ℕ) (said : List Statement) where
  stated_one : {s : Statement} {before after after' : List ℕ} {r q : Result (Unit {0}) Refusal} → Stated m vars said s before r after → Stated m vars said s before q after' → states r after ≡ states q after'
  stated_one (Stated.faulty e) (Stated.faulty f) = cc
  stated_one (Stated.faulty e) (faultless f c) = absurd (not_none e f)
  stated_one (faultless e c) (Stated.faulty f) = absurd (not_none f e)
  stated_one {s} (faultless e c) (faultless f d) = closed_one m lawful vars (said ++ (s ∷ [])) c d

  right_one : {c : Call} {a b : Answer} → Right m vars said c a → Right m vars said c b → a ≡ b
  right_one (declared d) (declared e) = ap declares (declared_one m lawful vars said d e)
  right_one (stated d) (stated e) = stated_one d e
  right_one (same d) (same e) = ap says (same_one m lawful vars said d e)
  right_one (value d) (value e) = ap gives (value_one m lawful vars said d e)
  right_one (listed d) (listed e) = listing_one m lawful vars said d e

pub answers_are_unique : AnswersAreUnique
answers_are_unique m lawful vars said c a b d e = right_one m lawful vars said d e

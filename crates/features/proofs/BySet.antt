-- Closing, and what a graph holds, depend on the set of statements alone.
use Rattle.std.proofs.Common.{ℕ, List, refl}
use Rattle.kinds.specs.Meaning.{Meaning}
use Rattle.features.specs.Terms.{Term, Statement, Within, SameMembers}
use Rattle.features.specs.Closing.{Joined, variable, stated, given, turned, chained, begun, beneath, Came, top, said_of, Under, Valued}
use Rattle.features.specs.Holding.{aparts_of}
use Rattle.features.specs.Clashes.{First, NoValue, LeafBranches, FirstAt, Nowhere, Broken}
use Rattle.features.specs.Theorems.{ClosingBySet, HoldsBySet}
use Rattle.features.proofs.Closure.{apart_kept, apart_said, broken_at, broken_is}

pub other_way : {said said' : List Statement} → SameMembers said said' → SameMembers said' said
other_way same = record { to = same.from; from = same.to }

pub joined_within : {vars : ℕ} {said said' : List Statement} → Within said said' → {p q : Term} → Joined vars said p q → Joined vars said' p q
joined_within to (variable x h) = variable x h
joined_within to (stated p q i) = stated p q (to _ i)
joined_within to (given p v i) = given p v (to _ i)
joined_within to (turned p q j) = turned p q (joined_within to j)
joined_within to (chained p q r j k) = chained p q r (joined_within to j) (joined_within to k)
joined_within to (begun p q a j) = begun p q a (joined_within to j)
joined_within to (beneath p q a j k) = beneath p q a (joined_within to j) (joined_within to k)

pub came_within : {m : Meaning} {vars : ℕ} {said said' : List Statement} → Within said said' → {p : Term} {v : ℕ} → Came m vars said p v → Came m vars said' p v
came_within to top = top
came_within to (said_of q v i j) = said_of q v (to _ i) (joined_within to j)

pub under_by_set : (m : Meaning) (vars : ℕ) {said said' : List Statement} → SameMembers said said' → (t : Term) (v : ℕ) → Under m vars said t v → Under m vars said' t v
under_by_set m vars same t v under w came = under w (came_within same.from came)

-- one way; the other is the same with the lists exchanged
module _ (m : Meaning) (vars : ℕ) {said said' : List Statement} (same : SameMembers said said') where
  pub valued_by_set : (t : Term) (v : ℕ) → Valued m vars said t v → Valued m vars said' t v
  valued_by_set t v valued = (under_by_set m vars same t v valued.0, λ u under. valued.1 u (under_by_set m vars (other_way same) t u under))

  pub first_by_set : (t : Term) → First m vars said t → First m vars said' t
  first_by_set t first = record {
    denotes = joined_within same.to first.denotes;
    least = λ p j before. first.least p (joined_within same.from j) before;
  }

  pub no_value_by_set : (t : Term) → NoValue m vars said t → NoValue m vars said' t
  no_value_by_set t nothing v under = nothing v (under_by_set m vars (other_way same) t v under)

  pub leaf_branches_by_set : (t : Term) → LeafBranches m vars said t → LeafBranches m vars said' t
  leaf_branches_by_set t (v, a, valued, leaf, j) = (v, a, valued_by_set t v valued, leaf, joined_within same.to j)

  pub broken_by_set : (j : ℕ) × Broken m vars said (aparts_of said) j → (j : ℕ) × Broken m vars said' (aparts_of said') j
  broken_by_set (j, broken) =
      let b = broken_is m vars said broken in
      broken_at m vars said' (joined_within same.to b.3) (apart_kept said' (same.to _ (apart_said said b.2)))

module _ (m : Meaning) (vars : ℕ) {said said' : List Statement} (same : SameMembers said said') (Fault Fault' : Term → Type 0) (back : (t : Term) → Fault' t → Fault t) where
  nowhere_by_set : Nowhere m vars said Fault → Nowhere m vars said' Fault'
  nowhere_by_set nowhere t first fault = nowhere t (first_by_set m vars (other_way same) t first) (back t fault)

  first_at_by_set : ((t : Term) → Fault t → Fault' t) → (t : Term) → FirstAt m vars said Fault t → FirstAt m vars said' Fault' t
  first_at_by_set onward t at = record {
    trail = first_by_set m vars same t at.trail;
    faulty = onward t at.faulty;
    none_before = λ u first before fault. at.none_before u (first_by_set m vars (other_way same) u first) before (back u fault);
  }

pub closing_by_set : ClosingBySet
closing_by_set m vars said said' same =
    let back = other_way same in
    let nothing = no_value_by_set m vars same in
    let nothing' = no_value_by_set m vars back in
    let branches = leaf_branches_by_set m vars same in
    let branches' = leaf_branches_by_set m vars back in
    record {
      joined = λ p q. (joined_within same.to, joined_within same.from);
      under = λ t v. (under_by_set m vars same t v, under_by_set m vars back t v);
      valued = λ t v. (valued_by_set m vars same t v, valued_by_set m vars back t v);
      first = λ t. (first_by_set m vars same t, first_by_set m vars back t);
      first_no_value = λ t. (first_at_by_set m vars same _ _ nothing' nothing t, first_at_by_set m vars back _ _ nothing nothing' t);
      no_value_nowhere = (nowhere_by_set m vars same _ _ nothing', nowhere_by_set m vars back _ _ nothing);
      first_leaf_branches = λ t. (first_at_by_set m vars same _ _ branches' branches t, first_at_by_set m vars back _ _ branches branches' t);
      leaf_branches_nowhere = (nowhere_by_set m vars same _ _ branches', nowhere_by_set m vars back _ _ branches);
      broken = (broken_by_set m vars same, broken_by_set m vars back);
    }

pub holds_by_set : HoldsBySet
holds_by_set m g kept vars said said' holds same = record {
  proper = λ s i. holds.proper s (same.from s i);
  aparts = refl;
  all = holds.all;
  joined = λ p q j. holds.joined p q (joined_within same.from j);
  nothing_else = λ p q n d e. joined_within same.to (holds.nothing_else p q n d e);
  reached = holds.reached;
  inside = holds.inside;
  values = λ p n d. valued_by_set m vars same p (g.value n) (holds.values p n d);
}

-- Graphs drawn as lists. A drawing with a name for each node stands for what was said when each variable and each arrow leads to a node
-- that closing joins with it, and on each node stands what the values said of it meet in.
use Rattle.std.proofs.Common.{◌≡◌, ℕ, zero, suc, ◌<◌, Bool, true, false, cond, ◌&&◌, eqb, List, [], ◌∷◌, length, get_or, sym, refl, ap, subst, arith}
use mathlib.Core.Option.{Option, some, none}
use Rattle.std.specs.List.{AllByRecursion}
use Rattle.std.proofs.lemmas.Bool.{and_parts, eqb-true}
use Rattle.kinds.specs.Meaning.{Meaning, Lawful, BelowAll, GreatestOfAll}
use Rattle.kinds.specs.Meets.{Apart}
use Rattle.features.specs.Terms.{Term, Statement, equals, is, apart, only, ◌▸◌}
use Rattle.features.specs.Graphs.{Graph, Leads, here, Denotes}
use Rattle.features.specs.Closing.{Joined, turned, chained, beneath, Came, top, said_of, Under}
use Rattle.features.proofs.Closure.{every_member}
use Rattle.features.proofs.Paths.{leads_same, leads_back, leads_inside, denotes_one}
use Rattle.features.proofs.Ordering.{Ended, empty, more, ended}
use Rattle.growth.specs.Standing.{Shape, Judged, greatest, void, Stands}
use Rattle.growth.proofs.Agreeing.{Agreed, agreeing_joins}
use Rattle.cases.proofs.Reaching.{reach, reach_denotes, said_at, said_there, said_by}

pub record Arrow : Type 0 where
  pub tail : ℕ
  pub attribute : ℕ
  pub head : ℕ

-- the nodes of the variables, the attributes, and what stands on each node
pub record Drawing : Type 0 where
  pub roots : List ℕ
  pub arrows : List Arrow
  pub states : List (Option ℕ)

abbrev target : List Arrow → ℕ → ℕ → Option ℕ
target [] n a = none
target (e ∷ rest) n a = cond (eqb n e.tail && eqb a e.attribute) (some e.head) (target rest n a)

abbrev pub state_at : Drawing → ℕ → Option ℕ
state_at d n = get_or d.states n none

abbrev pub or_zero : Option ℕ → ℕ
or_zero none = 0
or_zero (some v) = v

abbrev pub drawn : Drawing → Graph
drawn d = record {
  nodes = length d.states;
  value = λ n. or_zero (state_at d n);
  edge = λ n a. target d.arrows n a;
  vars = length d.roots;
  root = λ x. get_or d.roots x 0;
}

-- P holds of each place and of what stands there
abbrev pub Along : {X : Type 0} → (ℕ → X → Type 0) → List X → Type 0
Along P [] = Unit {0}
Along P (x ∷ xs) = P 0 x × Along (λ i y. P (suc i) y) xs

pub along_at : {X : Type 0} (P : ℕ → X → Type 0) (xs : List X) (d : X) → Along P xs → (i : ℕ) → i < length xs → P i (get_or xs i d)
along_at P [] d h i l = absurd (omega arith)
along_at P (x ∷ xs) d h zero l = h.0
along_at P (x ∷ xs) d h (suc i) l = along_at (λ i y. P (suc i) y) xs d h.1 i (omega arith)

-- what holds of each arrow holds of each attribute
pub arrow_at : (P : ℕ → ℕ → ℕ → Type 0) (arrows : List Arrow) → AllByRecursion (λ e. P e.tail e.attribute e.head) arrows → (n a t : ℕ) → target arrows n a ≡ some t → P n a t
arrow_at P [] h n a t e = absurd (let z : ◌≡◌ {A = ℕ} 0 1 = cc in omega arith)
arrow_at P (x ∷ rest) h n a t e = by_test (arrow_at P rest h.1 n a t) (eqb n x.tail && eqb a x.attribute) refl e
  where
    by_test : (target rest n a ≡ some t → P n a t) → (b : Bool) → (eqb n x.tail && eqb a x.attribute) ≡ b → cond b (some x.head) (target rest n a) ≡ some t → P n a t
    by_test later true f g =
        let both = and_parts (eqb n x.tail) (eqb a x.attribute) f in
        let heads : x.head ≡ t = cc in
        subst (λ (z : ℕ). P z a t) (sym (eqb-true n x.tail both.0))
        (subst (λ (z : ℕ). P x.tail z t) (sym (eqb-true a x.attribute both.1)) (subst (λ (z : ℕ). P x.tail x.attribute z) heads h.0))
    by_test later false f g = later g

-- both denote one node
abbrev pub one_node : Option ℕ → Option ℕ → Bool
one_node none o = false
one_node (some n) none = false
one_node (some n) (some k) = eqb n k

pub one_node_some : (o u : Option ℕ) → one_node o u ≡ true → (n : ℕ) × (o ≡ some n) × (u ≡ some n)
one_node_some none u e = absurd (let z : ◌≡◌ {A = ℕ} 0 1 = cc in omega arith)
one_node_some (some n) none e = absurd (let z : ◌≡◌ {A = ℕ} 0 1 = cc in omega arith)
one_node_some (some n) (some k) e = (n, refl, ap {B = Option ℕ} some (sym (eqb-true n k e)))

-- the terms of a statement denote, and those of an equation one node
abbrev pub agreed : Graph → Statement → Bool
agreed g (equals p q) = one_node (reach g p) (reach g q)
agreed g (is p v) = one_node (reach g p) (reach g p)
agreed g (apart p q) = true

agreed_there : (g : Graph) (s : Statement) → agreed g s ≡ true → Agreed g s
agreed_there g (equals p q) e = let r = one_node_some (reach g p) (reach g q) e in (r.0, reach_denotes g p r.0 r.1, reach_denotes g q r.0 r.2)
agreed_there g (is p v) e = let r = one_node_some (reach g p) (reach g p) e in (r.0, reach_denotes g p r.0 r.1)
agreed_there g (apart p q) e = tt

abbrev pub name : List Term → ℕ → Term
name names n = get_or names n (only 0)

-- the greatest value at or below all, or nothing where there is none
abbrev pub MeetIs : Meaning → List ℕ → Option ℕ → Type 0
MeetIs m vs (some v) = GreatestOfAll m vs v
MeetIs m vs none = Apart m vs

pub record Certified (m : Meaning) (vars : ℕ) (said : List Statement) (d : Drawing) (names : List Term) : Type 0 where
  pub all : length d.roots ≡ vars
  pub agrees : AllByRecursion (λ s. agreed (drawn d) s ≡ true) said
  pub roots : Along (λ x n. (n < length d.states) × Joined vars said (only x) (name names n)) d.roots
  pub arrows : AllByRecursion (λ e. (e.head < length d.states) × Joined vars said (name names e.tail ▸ e.attribute) (name names e.head)) d.arrows
  pub named : Along (λ n o. reach (drawn d) (name names n) ≡ some n) d.states
  pub meets : Along (λ n o. MeetIs m (said_at (drawn d) n said) o) d.states

module _ {m : Meaning} (lawful : Lawful m) {vars : ℕ} {said : List Statement} {d : Drawing} {names : List Term} (c : Certified m vars said d names) where
  abbrev One : Term → Term → Type 0
  One p q = Joined vars said p q

  root_in : (x : ℕ) → x < length d.roots → ((drawn d).root x < length d.states) × One (only x) (name names ((drawn d).root x))
  root_in x lt = along_at (λ x n. (n < length d.states) × One (only x) (name names n)) d.roots 0 c.roots x lt

  arrow_in : (n a t : ℕ) → (drawn d).edge n a ≡ some t → (t < length d.states) × One (name names n ▸ a) (name names t)
  arrow_in n a t e = arrow_at (λ n a t. (t < length d.states) × One (name names n ▸ a) (name names t)) d.arrows c.arrows n a t e

  -- a term that denotes a node is joined with its name
  to_name : {xs : List ℕ} → Ended xs → (x n : ℕ) → x < length d.roots → Leads (drawn d) ((drawn d).root x) xs n → One (record { var = x; path = xs }) (name names n)
  to_name empty x n lt l = subst (λ (z : ℕ). One (only x) (name names z)) (leads_same here l) (root_in x lt).1
  to_name (more {xs} a e) x n lt l =
      let b = leads_back xs l in
      let p : Term = record { var = x; path = xs } in
      let u = name names b.0 in
      let j = to_name e x b.0 lt b.1 in
      let k = (arrow_in b.0 a n b.2).1 in
      chained (p ▸ a) (u ▸ a) (name names n) (turned (u ▸ a) (p ▸ a) (beneath u p a (turned p u j) (chained (u ▸ a) (name names n) (u ▸ a) k (turned (u ▸ a) (name names n) k)))) k

  pub certified_shape : Shape (drawn d) vars said
  certified_shape = record {
    all = c.all;
    joined = λ p q j. agreeing_joins (drawn d) vars said (omega (arith, c.all)) (λ s i. agreed_there (drawn d) s (every_member (λ s. agreed (drawn d) s ≡ true) said c.agrees s i)) j;
    nothing_else = λ p q n a b.
        chained p (name names n) q (to_name (ended p.path) p.var n a.0 a.1)
        (turned q (name names n) (to_name (ended q.path) q.var n b.0 b.1));
    reached = λ n lt. (name names n, reach_denotes (drawn d) (name names n) n (along_at (λ n o. reach (drawn d) (name names n) ≡ some n) d.states none c.named n lt));
    inside = λ p n a. leads_inside {g = drawn d} (λ n a t lt e. (arrow_in n a t e).0) (root_in p.var a.0).0 a.1;
  }

  module _ (p : Term) (n : ℕ) (there : Denotes (drawn d) p n) where
    under_below : (v : ℕ) → Under m vars said p v → BelowAll m (said_at (drawn d) n said) v
    under_below v under = (
      (lawful.values v m.top (under m.top top)).0,
      λ w i. let h = said_by (drawn d) n said i in under w (said_of h.0 w h.1 (certified_shape.nothing_else p h.0 n there h.2)),
    )

    below_under : (v : ℕ) → BelowAll m (said_at (drawn d) n said) v → (w : ℕ) → Came m vars said p w → m.below v w ≡ true
    below_under v below w top = lawful.under_top v below.0
    below_under v below w (said_of q u i j) =
        let b = certified_shape.joined p q j in
        below.1 w (said_there (drawn d) n said i (subst (λ (z : ℕ). Denotes (drawn d) q z) (denotes_one (drawn d) p b.0 n b.1 there) b.2))

    meet_judged : (o : Option ℕ) → MeetIs m (said_at (drawn d) n said) o → Judged m vars said p o
    meet_judged (some v) meet = greatest (below_under v meet.0, λ u under. meet.1 u (under_below u under))
    meet_judged none meet = void (λ v under. meet v (under_below v under))

  pub certified_stands : Stands m (drawn d) (state_at d) vars said
  certified_stands = record {
    shape = certified_shape;
    judged = λ p n there.
        meet_judged p n there (state_at d n) (along_at (λ n o. MeetIs m (said_at (drawn d) n said) o) d.states none c.meets n (certified_shape.inside p n there));
  }

-- The rows of the table, one after another: for each call the graph that then stands for what was said.
use Rattle.std.proofs.Common.{◌≡◌, ℕ, ◌≤◌, true, List, [], ◌∷◌, length, refl, arith}
use mathlib.Core.Option.{Option, some, none}
use mathlib.Core.List.Memᴰ
use Rattle.std.specs.List.{AllByRecursion}
use Rattle.std.proofs.lemmas.List.Elements.{All-from_recursion}
use Rattle.kinds.specs.Meaning.{Meaning, Lawful, GreatestOfAll}
use Rattle.kinds.specs.Atoms.{atoms}
use Rattle.kinds.specs.ValueSets.{value_sets}
use Rattle.kinds.specs.LawfulSets.{sets_lawful}
use Rattle.kinds.proofs.Crossed.{crossed_refused}
use Rattle.features.specs.Terms.{Statement, equals, is, apart, only, ◌▸◌}
use Rattle.features.specs.Closing.{Joined, variable, stated, given, turned}
use Rattle.features.specs.Clashes.{LeafBranches, here}
use Rattle.answers.specs.Answers.{same, not_one, value, valued, listed, put, no_value, leaf_branches, not_apart}
use Rattle.answers.specs.Runs.{AllRight}
use Rattle.cases.specs.Table.{new_session, looped, equal_values, leaf_with_attribute, apart_from_itself, clash_beneath, shared_sets, AsLaidDown, table, MarkedCases}
use Rattle.cases.proofs.Reaching.{said_at, denotes_reach, reach_denotes}
use Rattle.cases.proofs.Drawings.{Drawing, drawn, agreed, MeetIs, Certified, certified_shape}
use Rattle.cases.proofs.Values.{atoms_lawful, none_said, one_said, five_six, three_six, three_six_four}
use Rattle.cases.proofs.Answering.{own_fault, separate, no_value_at, every_node_valued, every_leaf_bare, full_holds, Consistent, consistent_holds, declared_right, closed_right, accepted_right, first_at_start, one_in_order, first_beneath_start}

-- no variable
abbrev blank : Drawing
blank = record { roots = []; arrows = []; states = [] }

nothing_said : (m : Meaning) → Consistent m 0 [] blank []
nothing_said m = record {
  certified = record { all = refl; agrees = tt; roots = tt; arrows = tt; named = tt; meets = tt };
  full = tt;
  sound = tt;
  bare = tt;
  apart_all = tt;
  few = omega arith;
}

-- one variable, on a node without attributes
abbrev dot : Option ℕ → Drawing
dot o = record { roots = 0 ∷ []; arrows = []; states = o ∷ [] }

certified_dot : (m : Meaning) (said : List Statement) (o : Option ℕ)
    → AllByRecursion (λ s. agreed (drawn (dot o)) s ≡ true) said → MeetIs m (said_at (drawn (dot o)) 0 said) o → Certified m 1 said (dot o) (only 0 ∷ [])
certified_dot m said o agrees meet = record { all = refl; agrees = agrees; roots = ((omega arith, variable 0 (omega arith)), tt); arrows = tt; named = (refl, tt); meets = (meet, tt) }

consistent_dot : (m : Meaning) (said : List Statement) (v : ℕ)
    → AllByRecursion (λ s. agreed (drawn (dot (some v))) s ≡ true) said → GreatestOfAll m (said_at (drawn (dot (some v))) 0 said) v
    → AllByRecursion (λ s. own_fault m 1 s ≡ none) said → AllByRecursion (λ s. separate (drawn (dot (some v))) s ≡ true) said
    → Consistent m 1 said (dot (some v)) (only 0 ∷ [])
consistent_dot m said v agrees meet fine parted = record { certified = certified_dot m said (some v) agrees meet; full = (refl, tt); sound = fine; bare = tt; apart_all = parted; few = omega arith }

one_variable : (m : Meaning) → Lawful m → Consistent m 1 [] (dot (some m.top)) (only 0 ∷ [])
one_variable m lawful = consistent_dot m [] m.top tt (none_said m lawful) tt tt

-- two variables, on two nodes without attributes
abbrev two : ℕ → ℕ → Drawing
two v w = record { roots = 0 ∷ 1 ∷ []; arrows = []; states = some v ∷ some w ∷ [] }

consistent_two : (m : Meaning) (said : List Statement) (v w : ℕ)
    → AllByRecursion (λ s. agreed (drawn (two v w)) s ≡ true) said → GreatestOfAll m (said_at (drawn (two v w)) 0 said) v → GreatestOfAll m (said_at (drawn (two v w)) 1 said) w
    → AllByRecursion (λ s. own_fault m 2 s ≡ none) said → AllByRecursion (λ s. separate (drawn (two v w)) s ≡ true) said
    → Consistent m 2 said (two v w) (only 0 ∷ only 1 ∷ [])
consistent_two m said v w agrees left right fine parted = record {
  certified = record {
    all = refl;
    agrees = agrees;
    roots = ((omega arith, variable 0 (omega arith)), ((omega arith, variable 1 (omega arith)), tt));
    arrows = tt;
    named = (refl, (refl, tt));
    meets = (left, (right, tt));
  };
  full = (refl, (refl, tt));
  sound = fine;
  bare = tt;
  apart_all = parted;
  few = omega arith;
}

two_variables : (m : Meaning) → Lawful m → Consistent m 2 [] (two m.top m.top) (only 0 ∷ only 1 ∷ [])
two_variables m lawful = consistent_two m [] m.top m.top tt (none_said m lawful) (none_said m lawful) tt tt

-- one variable, on a node with an attribute that leads back to it
abbrev loop : Drawing
loop = record { roots = 0 ∷ []; arrows = record { tail = 0; attribute = 1; head = 0 } ∷ []; states = some 0 ∷ [] }

consistent_loop : Consistent atoms 1 (equals (only 0 ▸ 1) (only 0) ∷ []) loop (only 0 ∷ [])
consistent_loop = record {
  certified = record {
    all = refl;
    agrees = (refl, tt);
    roots = ((omega arith, variable 0 (omega arith)), tt);
    arrows = ((omega arith, stated (only 0 ▸ 1) (only 0) (Memᴰ.head refl)), tt);
    named = (refl, tt);
    meets = (none_said atoms atoms_lawful, tt);
  };
  full = (refl, tt);
  sound = (refl, tt);
  bare = (refl, tt);
  apart_all = (refl, tt);
  few = omega arith;
}

-- one variable, on a node with an attribute that leads to another
abbrev stem : ℕ → ℕ → Drawing
stem v w = record { roots = 0 ∷ []; arrows = record { tail = 0; attribute = 1; head = 1 } ∷ []; states = some v ∷ some w ∷ [] }

certified_stem : (m : Meaning) (said : List Statement) (v w : ℕ)
    → AllByRecursion (λ s. agreed (drawn (stem v w)) s ≡ true) said → Joined 1 said (only 0 ▸ 1) (only 0 ▸ 1) → GreatestOfAll m (said_at (drawn (stem v w)) 0 said) v → GreatestOfAll m (said_at (drawn (stem v w)) 1 said) w
    → Certified m 1 said (stem v w) (only 0 ∷ only 0 ▸ 1 ∷ [])
certified_stem m said v w agrees led upper lower = record {
  all = refl;
  agrees = agrees;
  roots = ((omega arith, variable 0 (omega arith)), tt);
  arrows = ((omega arith, led), tt);
  named = (refl, (refl, tt));
  meets = (upper, (lower, tt));
}

-- two variables, the first or both with an attribute
abbrev first_attribute : Drawing
first_attribute = record { roots = 0 ∷ 1 ∷ []; arrows = record { tail = 0; attribute = 1; head = 2 } ∷ []; states = some 0 ∷ some 0 ∷ some 5 ∷ [] }

consistent_first : Consistent atoms 2 (is (only 0 ▸ 1) 5 ∷ []) first_attribute (only 0 ∷ only 1 ∷ only 0 ▸ 1 ∷ [])
consistent_first = record {
  certified = record {
    all = refl;
    agrees = (refl, tt);
    roots = ((omega arith, variable 0 (omega arith)), ((omega arith, variable 1 (omega arith)), tt));
    arrows = ((omega arith, given (only 0 ▸ 1) 5 (Memᴰ.head refl)), tt);
    named = (refl, (refl, (refl, tt)));
    meets = (none_said atoms atoms_lawful, (none_said atoms atoms_lawful, (one_said atoms atoms_lawful 5 refl, tt)));
  };
  full = (refl, (refl, (refl, tt)));
  sound = (refl, tt);
  bare = (refl, tt);
  apart_all = (refl, tt);
  few = omega arith;
}

abbrev both_attributes : Drawing
both_attributes = record {
  roots = 0 ∷ 1 ∷ [];
  arrows = record { tail = 0; attribute = 1; head = 2 } ∷ record { tail = 1; attribute = 1; head = 3 } ∷ [];
  states = some 0 ∷ some 0 ∷ some 5 ∷ some 6 ∷ [];
}

consistent_both : Consistent atoms 2 (is (only 0 ▸ 1) 5 ∷ is (only 1 ▸ 1) 6 ∷ []) both_attributes (only 0 ∷ only 1 ∷ only 0 ▸ 1 ∷ only 1 ▸ 1 ∷ [])
consistent_both = record {
  certified = record {
    all = refl;
    agrees = (refl, (refl, tt));
    roots = ((omega arith, variable 0 (omega arith)), ((omega arith, variable 1 (omega arith)), tt));
    arrows = (
      (omega arith, given (only 0 ▸ 1) 5 (Memᴰ.head refl)),
      ((omega arith, given (only 1 ▸ 1) 6 (Memᴰ.tail (Memᴰ.head refl))), tt),
    );
    named = (refl, (refl, (refl, (refl, tt))));
    meets = (none_said atoms atoms_lawful, (none_said atoms atoms_lawful, (one_said atoms atoms_lawful 5 refl, (one_said atoms atoms_lawful 6 refl, tt))));
  };
  full = (refl, (refl, (refl, (refl, tt))));
  sound = (refl, (refl, tt));
  bare = (refl, (refl, tt));
  apart_all = (refl, (refl, tt));
  few = omega arith;
}

-- the two variables on one node
abbrev united : Drawing
united = record { roots = 0 ∷ 0 ∷ []; arrows = record { tail = 0; attribute = 1; head = 1 } ∷ []; states = some 0 ∷ none ∷ [] }

abbrev made_one : List Statement
made_one = is (only 0 ▸ 1) 5 ∷ is (only 1 ▸ 1) 6 ∷ equals (only 0) (only 1) ∷ []

certified_united : Certified atoms 2 made_one united (only 0 ∷ only 0 ▸ 1 ∷ [])
certified_united = record {
  all = refl;
  agrees = (refl, (refl, (refl, tt)));
  roots = (
    (omega arith, variable 0 (omega arith)),
    ((omega arith, turned (only 0) (only 1) (stated (only 0) (only 1) (Memᴰ.tail (Memᴰ.tail (Memᴰ.head refl))))), tt),
  );
  arrows = ((omega arith, given (only 0 ▸ 1) 5 (Memᴰ.head refl)), tt);
  named = (refl, (refl, tt));
  meets = (none_said atoms atoms_lawful, (five_six, tt));
}

-- a leaf with an attribute
abbrev leaf_led : List Statement
leaf_led = is (only 0) 5 ∷ is (only 0 ▸ 1) 6 ∷ []

certified_leaf_led : Certified atoms 1 leaf_led (stem 5 6) (only 0 ∷ only 0 ▸ 1 ∷ [])
certified_leaf_led =
    certified_stem atoms leaf_led 5 6 (refl, (refl, tt)) (given (only 0 ▸ 1) 6 (Memᴰ.tail (Memᴰ.head refl)))
    (one_said atoms atoms_lawful 5 refl) (one_said atoms atoms_lawful 6 refl)

leaf_branches_at_start : LeafBranches atoms 1 leaf_led (only 0)
leaf_branches_at_start =
    let holds = full_holds atoms_lawful certified_leaf_led (refl, (refl, tt)) (refl, (refl, tt)) in
    (5, 1, holds.values (only 0) 0 (reach_denotes (drawn (stem 5 6)) (only 0) 0 refl), refl, given (only 0 ▸ 1) 6 (Memᴰ.tail (Memᴰ.head refl)))

-- a term kept apart from itself, which then denotes
abbrev apart_led : List Statement
apart_led = apart (only 0 ▸ 1) (only 0 ▸ 1) ∷ is (only 0 ▸ 1) 5 ∷ []

apart_led_there : Joined 1 apart_led (only 0 ▸ 1) (only 0 ▸ 1)
apart_led_there = given (only 0 ▸ 1) 5 (Memᴰ.tail (Memᴰ.head refl))

certified_apart_led : Certified atoms 1 apart_led (stem 0 5) (only 0 ∷ only 0 ▸ 1 ∷ [])
certified_apart_led =
    certified_stem atoms apart_led 0 5 (refl, (refl, tt)) apart_led_there (none_said atoms atoms_lawful) (one_said atoms atoms_lawful 5 refl)

-- two variables with one atom
abbrev both_five : List Statement
both_five = is (only 0) 5 ∷ is (only 1) 5 ∷ []

consistent_both_five : Consistent atoms 2 both_five (two 5 5) (only 0 ∷ only 1 ∷ [])
consistent_both_five =
    consistent_two atoms both_five 5 5 (refl, (refl, tt)) (one_said atoms atoms_lawful 5 refl) (one_said atoms atoms_lawful 5 refl)
    (refl, (refl, tt)) (refl, (refl, tt))

two_stay_two : Joined 2 both_five (only 0) (only 1) → ⊥
two_stay_two j =
    let b = (certified_shape atoms_lawful consistent_both_five.certified).joined (only 0) (only 1) j in
    let left : ◌≡◌ {A = Option ℕ} (some 0) (some b.0) = denotes_reach (drawn (two 5 5)) (only 0) b.0 b.1 in
    let right : ◌≡◌ {A = Option ℕ} (some 1) (some b.0) = denotes_reach (drawn (two 5 5)) (only 1) b.0 b.2 in
    let z : ◌≡◌ {A = ℕ} 0 1 = cc in
    omega arith

-- two value sets that share a part, and a third that shares nothing with it
abbrev shared : List Statement
shared = is (only 0) 3 ∷ is (only 0) 6 ∷ []

consistent_shared : Consistent value_sets 1 shared (dot (some 2)) (only 0 ∷ [])
consistent_shared = consistent_dot value_sets shared 2 (refl, (refl, tt)) three_six (refl, (refl, tt)) (refl, (refl, tt))

abbrev unshared : List Statement
unshared = is (only 0) 3 ∷ is (only 0) 6 ∷ is (only 0) 4 ∷ []

certified_unshared : Certified value_sets 1 unshared (dot none) (only 0 ∷ [])
certified_unshared = certified_dot value_sets unshared none (refl, (refl, (refl, tt))) three_six_four

module _ (room : List ℕ) (enough : 272 ≤ length room) where
  new_session_right : AllRight atoms 0 [] (new_session room)
  new_session_right = (
    listed (put _ (record {
      graph = drawn blank;
      holds = consistent_holds atoms_lawful (nothing_said atoms);
      ordered = one_in_order (drawn blank) (omega arith) (λ l. absurd (omega arith));
      bytes_are = refl;
    }) (omega arith)),
    tt,
  )

  looped_right : AllRight atoms 0 [] (looped room)
  looped_right = (
    declared_right atoms_lawful (omega arith) (one_variable atoms atoms_lawful),
    (
      accepted_right atoms_lawful enough refl refl consistent_loop,
      (
        listed (put _ (record {
          graph = drawn loop;
          holds = consistent_holds atoms_lawful consistent_loop;
          ordered = one_in_order (drawn loop) (omega arith) (λ l. reach_denotes (drawn loop) (only 0) 0 refl);
          bytes_are = refl;
        }) (omega arith)),
        tt,
      ),
    ),
  )

  equal_values_right : AllRight atoms 0 [] (equal_values room)
  equal_values_right =
      let first = consistent_two atoms (is (only 0) 5 ∷ []) 5 0 (refl, tt) (one_said atoms atoms_lawful 5 refl) (none_said atoms atoms_lawful) (refl, tt) (refl, tt) in (
        declared_right atoms_lawful (omega arith) (one_variable atoms atoms_lawful),
        (
          declared_right atoms_lawful (omega arith) (two_variables atoms atoms_lawful),
          (
            accepted_right atoms_lawful enough refl refl first,
            (accepted_right atoms_lawful enough refl refl consistent_both_five, (same (not_one refl two_stay_two), tt)),
          ),
        ),
      )

  leaf_with_attribute_right : AllRight atoms 0 [] (leaf_with_attribute room)
  leaf_with_attribute_right =
      let leaf = consistent_dot atoms (is (only 0) 5 ∷ []) 5 (refl, tt) (one_said atoms atoms_lawful 5 refl) (refl, tt) (refl, tt) in
      let every = every_node_valued atoms_lawful certified_leaf_led (refl, (refl, tt)) in (
        declared_right atoms_lawful (omega arith) (one_variable atoms atoms_lawful),
        (
          accepted_right atoms_lawful enough refl refl leaf,
          (closed_right enough refl refl (leaf_branches (only 0) every (first_at_start (omega arith) leaf_branches_at_start)), tt),
        ),
      )

  apart_from_itself_right : AllRight atoms 0 [] (apart_from_itself room)
  apart_from_itself_right =
      let kept = consistent_dot atoms (apart (only 0 ▸ 1) (only 0 ▸ 1) ∷ []) 0 (refl, tt) (none_said atoms atoms_lawful) (refl, tt) (refl, tt) in
      let every = every_node_valued atoms_lawful certified_apart_led (refl, (refl, tt)) in
      let bare = every_leaf_bare atoms_lawful certified_apart_led (refl, tt) in (
        declared_right atoms_lawful (omega arith) (one_variable atoms atoms_lawful),
        (
          accepted_right atoms_lawful enough refl refl kept,
          (closed_right enough refl refl (not_apart 0 every bare (here apart_led_there) (λ j l broken. omega arith)), tt),
        ),
      )

  clash_beneath_right : AllRight atoms 0 [] (clash_beneath room)
  clash_beneath_right =
      let first = first_beneath_start atoms_lawful certified_united (refl, (refl, tt)) refl refl refl refl in (
        declared_right atoms_lawful (omega arith) (one_variable atoms atoms_lawful),
        (
          declared_right atoms_lawful (omega arith) (two_variables atoms atoms_lawful),
          (
            accepted_right atoms_lawful enough refl refl consistent_first,
            (
              accepted_right atoms_lawful enough refl refl consistent_both,
              (closed_right enough refl refl (no_value (only 0 ▸ 1) first), tt),
            ),
          ),
        ),
      )

  shared_sets_right : AllRight value_sets 0 [] (shared_sets room)
  shared_sets_right =
      let three = consistent_dot value_sets (is (only 0) 3 ∷ []) 3 (refl, tt) (one_said value_sets sets_lawful 3 refl) (refl, tt) (refl, tt) in
      let two_shared = (consistent_holds sets_lawful consistent_shared).values (only 0) 0 (reach_denotes (drawn (dot (some 2))) (only 0) 0 refl) in
      let nothing_shared = no_value_at sets_lawful certified_unshared (only 0) 0 refl refl in (
        declared_right sets_lawful (omega arith) (one_variable value_sets sets_lawful),
        (
          accepted_right sets_lawful enough refl refl three,
          (
            accepted_right sets_lawful enough refl refl consistent_shared,
            (
              value (valued 2 refl (variable 0 (omega arith)) two_shared),
              (closed_right enough refl refl (no_value (only 0) (first_at_start (omega arith) nothing_shared)), tt),
            ),
          ),
        ),
      )

pub marked_cases : MarkedCases
marked_cases room enough = All-from_recursion AsLaidDown (table room) (
  new_session_right room enough,
  (
    looped_right room enough,
    (
      equal_values_right room enough,
      (
        leaf_with_attribute_right room enough,
        (apart_from_itself_right room enough, (clash_beneath_right room enough, (shared_sets_right room enough, (crossed_refused 0, tt)))),
      ),
    ),
  ),
)
